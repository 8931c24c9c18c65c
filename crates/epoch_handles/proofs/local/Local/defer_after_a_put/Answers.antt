use Rattle.std.proofs.Common.{◌≡◌, ◌∙◌, ℕ, refl, ap, subst, sym, arith, []}
use Rattle.std.proofs.lemmas.Bool.{false≢true}
use Rattle.epoch_bags.specs.declared.job.Job.{Job}
use Rattle.epoch_machine.specs.declared.machine.Action.TheVariants.{Defer}
use Rattle.epoch_machine.specs.Machine.{Machine, begun, guards_after}
use Rattle.epoch_handles.specs.Drives.{NoJob, AnyJob, Drives}
use Rattle.epoch_handles.specs.Handles.{sight_of}
use Rattle.epoch_handles.proofs.Driving.{drives_on, drives_of}
use Rattle.epoch_handles.proofs.StraightCalls.{seated_with}
use Rattle.epoch_handles.proofs.Flushing.{pinned_with_guards}
use Rattle.epoch_handles.proofs.Deferring.{put_comes_first, found_full, found_room, kept_alone, keep_performed}
use Rattle.epoch_handles.proofs.Deferring.{ready_still, with_kept}
use Rattle.epoch_handles.proofs.local.Local.defer_after_a_put.Goals as goal

-- the bag is put
pub put-requires : goal.put-requires
put-requires g c =
    let h = c.args.self.now in let begins = c.begin.ensures in let ready = c.requires.ready in (
      omega arith,
      (
        seated_with h c.begin.new.self (ap (λ (z : Machine (Job g.row.W.Denot)). z.sizes) begins) ready.seated,
        (
          ready.rests,
          (
            pinned_with_guards h ready c.requires.out,
            ap (λ (z : Machine (Job g.row.W.Denot)). z.stage) begins ∙ put_comes_first h.machine c.requires.full,
          ),
        ),
      ),
    )

pub found_full-requires : goal.found_full-requires
found_full-requires g c = omega arith

-- each place was seen occupied
pub end-requires : goal.end-requires
end-requires g c =
    let m = c.args.self.now.machine in let n = c.put.new.self.machine in
    let is = found_full m c.begin.new.self n c.begin.ensures c.put.ensures.machine
    (sym c.found_full.ensures ∙ c.if-found_full.true) in
    let counts : guards_after n.action n.guards ≡ m.guards =
    ap (λ (z : Machine (Job g.row.W.Denot)). guards_after z.action z.guards) is in
    let guards = c.guards-guards.ensures in
    (omega arith, (ap (λ (z : Machine (Job g.row.W.Denot)). z.stage) is, omega arith))

pub returns-then-found_full-clause-does : goal.returns-then-found_full-clause-does
returns-then-found_full-clause-does g c =
    let h = c.args.self.now in let p = c.put.new.self in
    let is = found_full h.machine c.begin.new.self p.machine c.begin.ensures c.put.ensures.machine
    (sym c.found_full.ensures ∙ c.if-found_full.true) in record {
      last = p.machine;
      over = ap (λ (z : Machine (Job g.row.W.Denot)). z.stage) is;
      machine = c.end.ensures;
      drives = drives_of AnyJob h.collector.now.places.capacity _ _ _ _
          (subst (λ (z : Machine (Job g.row.W.Denot)). Drives NoJob h.collector.now.places.capacity z
          (sight_of h) p.machine (sight_of p)) c.begin.ensures c.put.ensures.drives);
    }

pub returns-then-found_full-clause-ready : goal.returns-then-found_full-clause-ready
returns-then-found_full-clause-ready g c =
    let h = c.args.self.now in let p = c.put.new.self in let put = c.put.ensures in let ends = c.end.ensures in
    let is = found_full h.machine c.begin.new.self p.machine c.begin.ensures put.machine
    (sym c.found_full.ensures ∙ c.if-found_full.true) in
    ready_still h p c.end.new.self c.requires.ready c.requires.out put.seated put.rests put.pin.published put.pin.read
    (ap (λ (z : Machine (Job g.row.W.Denot)). z.sizes) ends)
    (ap (λ (z : Machine (Job g.row.W.Denot)). z.stage) ends)
    (ap (λ (z : Machine (Job g.row.W.Denot)). z.guards) ends
    ∙ ap (λ (z : Machine (Job g.row.W.Denot)). guards_after z.action z.guards) is)
    (ap (λ (z : Machine (Job g.row.W.Denot)). z.published) ends
    ∙ ap (λ (z : Machine (Job g.row.W.Denot)). z.published) is)

-- the machine says so
pub returns-then-found_full-clause-found : goal.returns-then-found_full-clause-found
returns-then-found_full-clause-found g c = (
  (λ _. ap (λ (z : Machine (Job g.row.W.Denot)). z.full) c.end.ensures ∙ sym c.found_full.ensures
      ∙ c.if-found_full.true),
  (λ _. refl),
)

-- the bag is in a place
pub end-requires-2 : goal.end-requires-2
end-requires-2 g c =
    let m = c.args.self.now.machine in let n = c.put.new.self.machine in let o = c.take.new.self in
    let at = found_room m c.begin.new.self n c.begin.ensures c.put.ensures.machine
    (sym c.found_full.ensures ∙ c.if-found_full.false) in
    let is : o ≡ with_kept m [] c.args.job = kept_alone m n o c.args.job at c.take.ensures in
    let counts : guards_after o.action o.guards ≡ m.guards =
    ap (λ (z : Machine (Job g.row.W.Denot)). guards_after z.action z.guards) is in
    let guards = c.guards-guards.ensures in
    (omega arith, (ap (λ (z : Machine (Job g.row.W.Denot)). z.stage) is, omega arith))

pub returns-clause-does : goal.returns-clause-does
returns-clause-does g c =
    let h = c.args.self.now in
    let p = c.put.new.self in
    let o = c.take.new.self in
    let places : ℕ = h.collector.now.places.capacity in
    let at = found_room h.machine c.begin.new.self p.machine c.begin.ensures c.put.ensures.machine
    (sym c.found_full.ensures ∙ c.if-found_full.false) in record {
      last = o;
      over = ap (λ (z : Machine (Job g.row.W.Denot)). z.stage)
          (kept_alone h.machine p.machine o c.args.job at c.take.ensures);
      machine = c.end-2.ensures;
      drives = drives_of AnyJob places _ _ _ _
          (drives_on NoJob places (begun Defer h.machine) p.machine o (sight_of h) (sight_of p) (sight_of p)
          (subst (λ (z : Machine (Job g.row.W.Denot)). Drives NoJob places z (sight_of h) p.machine (sight_of p))
          c.begin.ensures c.put.ensures.drives)
          (subst (λ (z : Machine (Job g.row.W.Denot)). Drives NoJob places p.machine (sight_of p) z (sight_of p))
          (sym c.take.ensures)
          (keep_performed places p.machine (sight_of p) c.args.job
          (ap (λ (z : Machine (Job g.row.W.Denot)). z.stage) at))));
    }

pub returns-clause-ready : goal.returns-clause-ready
returns-clause-ready g c =
    let h = c.args.self.now in
    let p = c.put.new.self in
    let o = c.take.new.self in
    let put = c.put.ensures in
    let ends = c.end-2.ensures in
    let at = found_room h.machine c.begin.new.self p.machine c.begin.ensures put.machine
    (sym c.found_full.ensures ∙ c.if-found_full.false) in
    let is : o ≡ with_kept h.machine [] c.args.job = kept_alone h.machine p.machine o c.args.job at c.take.ensures in
    ready_still h p c.end-2.new.self c.requires.ready c.requires.out put.seated put.rests put.pin.published put.pin.read
    (ap (λ (z : Machine (Job g.row.W.Denot)). z.sizes) ends ∙ ap (λ (z : Machine (Job g.row.W.Denot)). z.sizes) is
    ∙ sym (ap (λ (z : Machine (Job g.row.W.Denot)). z.sizes) at))
    (ap (λ (z : Machine (Job g.row.W.Denot)). z.stage) ends)
    (ap (λ (z : Machine (Job g.row.W.Denot)). z.guards) ends
    ∙ ap (λ (z : Machine (Job g.row.W.Denot)). guards_after z.action z.guards) is)
    (ap (λ (z : Machine (Job g.row.W.Denot)). z.published) ends
    ∙ ap (λ (z : Machine (Job g.row.W.Denot)). z.published) is)

-- the machine says so
pub returns-clause-found : goal.returns-clause-found
returns-clause-found g c =
    let h = c.args.self.now in let p = c.put.new.self in let o = c.take.new.self in
    let at = found_room h.machine c.begin.new.self p.machine c.begin.ensures c.put.ensures.machine
    (sym c.found_full.ensures ∙ c.if-found_full.false) in
    let is : o ≡ with_kept h.machine [] c.args.job = kept_alone h.machine p.machine o c.args.job at c.take.ensures in
    let room = ap (λ (z : Machine (Job g.row.W.Denot)). z.full) c.end-2.ensures
    ∙ ap (λ (z : Machine (Job g.row.W.Denot)). z.full) is in
    ((λ err. absurd (false≢true err)), (λ full. absurd (false≢true (sym room ∙ full))))
