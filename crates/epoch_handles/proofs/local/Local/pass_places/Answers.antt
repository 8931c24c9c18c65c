use Rattle.std.proofs.Common.{◌≡◌, ◌∙◌, ◌-◌, ap, refl, sym, subst, arith}
use Rattle.epoch_bags.specs.CursorSteps.{IsExpiredWord}
use Rattle.epoch_bags.proofs.CursorMoves.{expired_word, test_word}
use Rattle.epoch_bags.specs.declared.job.Job.{Job}
use Rattle.epoch_bags.specs.declared.queue.places.TakeCursor.TheVariants.{Look}
use Rattle.epoch_machine.specs.Machine.{Machine}
use Rattle.epoch_handles.specs.Handles.{HasTaken}
use Rattle.epoch_handles.proofs.Collecting.{take_begins, look_finds, look_passes, look_ends}
use Rattle.epoch_handles.proofs.Tests.{not_both}
use Rattle.epoch_handles.proofs.local.Local.pass_places.Goals as goal

pub loop-place-init : goal.loop-place-init
loop-place-init g c = take_begins _ _ c.args.self.now c.args.expiry
    (Look 0) c.requires.takes c.requires.places_of refl (omega arith, c.requires.rests)

-- the word of an expired bag: its place is claimed next
pub returns-then-is_expired_word-clause-some : goal.returns-then-is_expired_word-clause-some
returns-then-is_expired_word-clause-some g c =
    let h = c.args.self.now in
    let n = c.loop-place.self in
    let taken = c.loop-place.invariant in
    let found = c.look-word.result in
    let tested = c.is_expired_word.ensures.0 c.if-is_expired_word.true in
    let expired = subst (λ x. IsExpiredWord x found) c.new.ensures.number
    (expired_word c.new.result.number found tested.0 tested.1) in
    look_finds _ _ h n c.args.expiry c.loop-place.place found c.look-word.new.seat taken (omega arith)
    (c.look-word.ensures.kept.0 ∙ taken.claimer) c.look-word.ensures.view expired

pub loop-place-preserved : goal.loop-place-preserved
loop-place-preserved g c =
    let h = c.args.self.now in
    let n = c.loop-place.self in
    let taken = c.loop-place.invariant in
    let found = c.look-word.result in
    look_passes _ _ h n c.args.expiry c.loop-place.place found c.look-word.new.seat taken (omega arith)
    (c.look-word.ensures.kept.0 ∙ taken.claimer) c.look-word.ensures.view
    (λ expired. not_both c.if-is_expired_word.false (c.is_expired_word.ensures.1 (test_word c.new.result.number found
    (subst (λ x. IsExpiredWord x found) (sym c.new.ensures.number) expired))))

-- the same of the last place, which the loop leaves out
pub returns-then-is_expired_word-2-clause-some : goal.returns-then-is_expired_word-2-clause-some
returns-then-is_expired_word-2-clause-some g c =
    let h = c.args.self.now in
    let n = c.loop-place.self in
    let is_last : c.loop-place.place ≡ c.capacity-last.result - 1 = omega arith in
    let taken = subst (λ place. HasTaken g.W.Run.done g.W.Removing.Remove.tried h c.args.expiry (Look place) n) is_last
    c.loop-place.invariant in
    let found = c.look-found.result in
    let tested = c.is_expired_word-2.ensures.0 c.if-is_expired_word-2.true in
    let expired = subst (λ x. IsExpiredWord x found) c.new-2.ensures.number
    (expired_word c.new-2.result.number found tested.0 tested.1) in
    look_finds _ _ h n c.args.expiry (c.capacity-last.result - 1) found c.look-found.new.seat taken (omega arith)
    (c.look-found.ensures.kept.0 ∙ taken.claimer) c.look-found.ensures.view expired

-- the machine asks for a step of the collection
pub found_no_bag-requires : goal.found_no_bag-requires
found_no_bag-requires g c =
    let taken = c.loop-place.invariant in
    let takes = ap (λ (z : Machine (Job g.row.W.Denot)). z.stage) taken.machine in
    (omega arith, (c.args.expiry, taken.taken, takes))

pub returns-clause-none : goal.returns-clause-none
returns-clause-none g c =
    let h = c.args.self.now in
    let n = c.loop-place.self in
    let is_last : c.loop-place.place ≡ c.capacity-last.result - 1 = omega arith in
    let taken = subst (λ place. HasTaken g.W.Run.done g.W.Removing.Remove.tried h c.args.expiry (Look place) n) is_last
    c.loop-place.invariant in
    let found = c.look-found.result in
    look_ends _ _ h n c.args.expiry (c.capacity-last.result - 1) found c.found_no_bag.new.self c.look-found.new.seat
    taken (omega arith) c.found_no_bag.ensures (c.look-found.ensures.kept.0 ∙ taken.claimer) c.look-found.ensures.view
    (λ expired. not_both c.if-is_expired_word-2.false (c.is_expired_word-2.ensures.1 (test_word c.new-2.result.number
    found (subst (λ x. IsExpiredWord x found) (sym c.new-2.ensures.number) expired))))
