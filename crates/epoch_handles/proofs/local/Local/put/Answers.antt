use Rattle.std.proofs.Common.{rules, ◌≡◌, ◌≢◌, ◌∙◌, ◌<◌, sym, ap, subst, arith}
use denote.Enum.Bare.{differs_false}
use Rattle.epoch_bags.specs.contracts.queue.PutStep.{the_type}
use Rattle.epoch_bags.specs.Places.{put_left}
use Rattle.epoch_tables.specs.SharedSteps.{PutMoves}
use Rattle.epoch_bags.specs.declared.queue.PutStep.TheVariants.{Again}
use Rattle.epoch_bags.specs.declared.job.Job.{Job}
use Rattle.epoch_machine.specs.Machine.{Machine, ask_at, put_heard}
use Rattle.epoch_handles.proofs.StraightCalls.{rests_still}
use Rattle.epoch_handles.proofs.Putting.{put_begins, put_again, put_ends}
use Rattle.epoch_handles.proofs.local.Local.put.Goals as goal

-- the load of the seal is the first step
pub loop-cursor-init : goal.loop-cursor-init
loop-cursor-init g c =
    let h = c.args.self.now in let n = c.load_epoch-seal.new.self in let steps = c.load_epoch-seal.ensures.steps in
    put_begins h n c.load_epoch-seal.result c.start_put-cursor.result c.sealed.new.self
    c.requires.pinned c.requires.begins c.load_epoch-seal.ensures.rises steps c.sealed.ensures
    c.start_put-cursor.ensures.first
    (c.start_put-cursor.ensures.at n.claimer.me (rests_still h n _ steps c.requires.rests))

-- the put asks for its next step
pub put_shared-step-requires : goal.put_shared-step-requires
put_shared-step-requires g c =
    let put = c.loop-cursor.invariant in (
      omega arith,
      (
        omega arith,
        (
          (c.load_epoch-seal.result, ap (λ (z : Machine (Job g.row.W.Denot)). ask_at z.stage) put.machine),
          (put.seated.places_of, put.at),
        ),
      ),
    )

-- another answer than `Again` ends it
pub returns-then-ne : goal.returns-then-ne
returns-then-ne g c =
    let n = c.loop-cursor.self in let told = c.put_shared-step.ensures in
    let over : c.put_shared-step.result ≢ Again = search rules in
    put_ends c.args.self.now n c.load_epoch-seal.result c.loop-cursor.cursor c.put_shared-step.new.cursor
    c.put_shared-step.result c.put_shared-step.new.self c.put_shared-step.new.seat
    c.loop-cursor.invariant over told.after told.kept (told.rests over)
    (told.moves c.load_epoch-seal.result
    (ap (λ (z : Machine (Job g.row.W.Denot)). ask_at z.stage) c.loop-cursor.invariant.machine))

pub loop-cursor-smaller : goal.loop-cursor-smaller
loop-cursor-smaller g c =
    let again : c.put_shared-step.result ≡ Again = differs_false the_type (search rules) _ _ (sym c.if-ne.ensures) in
    subst (λ z. put_left z.now.places.capacity c.put_shared-step.new.cursor
    < put_left z.now.places.capacity c.loop-cursor.cursor) c.loop-cursor.invariant.same.collector
    (c.put_shared-step.ensures.fewer again)

pub loop-cursor-preserved : goal.loop-cursor-preserved
loop-cursor-preserved g c =
    let n = c.loop-cursor.self in let told = c.put_shared-step.ensures in
    let again : c.put_shared-step.result ≡ Again = differs_false the_type (search rules) _ _ (sym c.if-ne.ensures) in
    put_again c.args.self.now n c.load_epoch-seal.result c.loop-cursor.cursor c.put_shared-step.new.cursor
    c.put_shared-step.new.self c.put_shared-step.new.seat
    c.loop-cursor.invariant (told.after ∙ ap (λ z. put_heard n.machine z) again) told.kept (told.at again)
    (subst (λ z. PutMoves n.collector.now.places.capacity c.loop-cursor.cursor n.claimer.me (record {
      seal = c.load_epoch-seal.result;
      jobs = n.machine.held;
    }) z c.put_shared-step.new.cursor c.put_shared-step.new.seat.me) again
    (told.moves c.load_epoch-seal.result
    (ap (λ (z : Machine (Job g.row.W.Denot)). ask_at z.stage) c.loop-cursor.invariant.machine)))
