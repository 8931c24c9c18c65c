use Rattle.std.proofs.Common.{◌≡◌, ◌∙◌, ℕ, ◌-◌, Some, sym, ap, subst, arith}
use Rattle.epoch_tables.specs.declared.table.view.ParticipantView.{ParticipantView}
use Rattle.epoch_bags.specs.declared.job.Job.{Job}
use Rattle.epoch_machine.specs.declared.machine.Action.TheVariants.{Unpin}
use Rattle.epoch_machine.specs.declared.machine.Answer.TheVariants.{Stored}
use Rattle.epoch_machine.specs.Machine.{Machine, begun, heard, ended, guards_after}
use Rattle.epoch_handles.specs.Drives.{AnyJob, Drives}
use Rattle.epoch_handles.specs.Handles.{sight_of}
use Rattle.epoch_handles.proofs.Driving.{drives_none, drives_of}
use Rattle.epoch_handles.proofs.StraightCalls.{reading, unpin_begins, unpin_asks_nothing, unpin_leaves, unpin_performed}
use Rattle.epoch_handles.proofs.StraightCalls.{sight_after, ready_with, rests_still}
use Rattle.epoch_handles.proofs.local.Local.unpin.Goals as goal

-- the last guard's unpin is one store
pub returns-then-guards-eq1-clause-does : goal.returns-then-guards-eq1-clause-does
returns-then-guards-eq1-clause-does g c =
    let h = c.args.self.now in let n = c.store_unpinned.new.self in let steps = c.store_unpinned.ensures in
    let one : h.machine.guards ≡ 1 = sym c.guards.ensures ∙ c.if-guards-eq1.true in record {
      last = heard (begun Unpin h.machine) Stored;
      over = (unpin_leaves h.machine one).1;
      machine =
          subst (λ z. c.unpin_last.new.self ≡ ended (heard (begun Unpin z) Stored)) steps.machine c.unpin_last.ensures;
      drives = subst (λ z. Drives AnyJob h.collector.now.places.capacity (begun Unpin h.machine) (sight_of h)
          (heard (begun Unpin h.machine) Stored) z) (sym (sight_after h n _ steps))
          (drives_of AnyJob h.collector.now.places.capacity _ _ _ _
          (unpin_performed h.collector.now.places.capacity (begun Unpin h.machine) (sight_of h)
          (unpin_begins h.machine one)));
    }

pub returns-then-guards-eq1-clause-ready : goal.returns-then-guards-eq1-clause-ready
returns-then-guards-eq1-clause-ready g c =
    let n = c.store_unpinned.new.self in let steps = c.store_unpinned.ensures in let is = c.unpin_last.ensures in
    let one : n.machine.guards ≡ 1 = ap (λ (z : Machine (Job g.row.W.Denot)). z.guards) steps.machine
    ∙ sym c.guards.ensures ∙ c.if-guards-eq1.true in
    let left = unpin_leaves n.machine one in
    let zero : c.unpin_last.new.self.guards ≡ 0 = ap (λ (z : Machine (Job g.row.W.Denot)). z.guards) is
    ∙ ap (λ a. guards_after a (heard (begun Unpin n.machine) Stored).guards) left.3
    ∙ ap (λ (z : ℕ). z - 1) (left.2 ∙ one) in
    ready_with n c.unpin_last.new.self steps.seated (rests_still c.args.self.now n _ steps c.requires.ready.rests)
    (ap (λ (z : Machine (Job g.row.W.Denot)). z.sizes) is ∙ left.0)
    (ap (λ (z : Machine (Job g.row.W.Denot)). z.stage) is) (record {
      published = λ out. absurd (omega arith);
      read = λ out. absurd (omega arith);
      unpinned = λ _. ap (λ (z : ParticipantView). z.published) steps.knows;
    })

-- the unpin of one guard of more asks nothing
pub returns-else-guards-eq1-clause-does : goal.returns-else-guards-eq1-clause-does
returns-else-guards-eq1-clause-does g c =
    let h = c.args.self.now in
    let more = λ (one : h.machine.guards ≡ 1). c.if-guards-eq1.false (c.guards.ensures ∙ one) in
    record {
      last = begun Unpin h.machine;
      over = unpin_asks_nothing h.machine more;
      machine = c.unpin_one.ensures;
      drives = drives_none AnyJob h.collector.now.places.capacity (begun Unpin h.machine) (sight_of h);
    }

pub returns-else-guards-eq1-clause-ready : goal.returns-else-guards-eq1-clause-ready
returns-else-guards-eq1-clause-ready g c =
    let m = c.args.self.now.machine in
    let n = c.unpin_one.new.self in
    let is = c.unpin_one.ensures in
    let ready = c.requires.ready in
    let one = c.guards.ensures in let more = c.if-guards-eq1.false in let out = c.requires.out in
    let guards : n.guards ≡ m.guards - 1 = ap (λ (z : Machine (Job g.row.W.Denot)). z.guards) is in
    ready_with c.args.self.now n ready.seated ready.rests (ap (λ (z : Machine (Job g.row.W.Denot)). z.sizes) is)
    (ap (λ (z : Machine (Job g.row.W.Denot)). z.stage) is) (record {
      published = λ _. ready.agrees.published out
          ∙ ap (λ (z : ℕ). Some z) (sym (ap (λ (z : Machine (Job g.row.W.Denot)). z.published) is));
      read = λ _. reading c.args.self.now.seat.me.0.first_read (ready.agrees.read out);
      unpinned = λ none. absurd (omega arith);
    })
