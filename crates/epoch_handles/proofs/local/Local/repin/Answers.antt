use Rattle.std.proofs.Common.{◌≡◌, ◌∙◌, ℕ, ◌<◌, Some, sym, ap, subst, arith}
use Rattle.epoch_tables.specs.declared.table.view.ParticipantView.{ParticipantView}
use Rattle.epoch_bags.specs.declared.job.Job.{Job}
use Rattle.epoch_machine.specs.declared.machine.Action.TheVariants.{Repin}
use Rattle.epoch_machine.specs.declared.machine.Answer.TheVariants.{Epoch, Stored}
use Rattle.epoch_machine.specs.Machine.{Machine, begun, heard, ended, guards_after}
use Rattle.epoch_handles.specs.Drives.{AnyJob, Drives}
use Rattle.epoch_handles.specs.Handles.{sight_of}
use Rattle.epoch_handles.proofs.Driving.{drives_none, drives_of}
use Rattle.epoch_handles.proofs.StraightCalls.{reading, repin_begins, repin_asks_nothing, repin_leaves}
use Rattle.epoch_handles.proofs.StraightCalls.{repin_moved_leaves, repin_same_performed, repin_moved_performed}
use Rattle.epoch_handles.proofs.StraightCalls.{sight_after, ready_with, rests_still, still_read, republished}
use Rattle.epoch_handles.proofs.StraightCalls.{pinned_behind}
use Rattle.epoch_handles.proofs.local.Local.repin.Goals as goal

-- with another number of guards than one nothing is asked
pub returns-then-guards-ne1-clause-does : goal.returns-then-guards-ne1-clause-does
returns-then-guards-ne1-clause-does g c =
    let h = c.args.self.now in
    let other = λ (one : h.machine.guards ≡ 1). c.if-guards-ne1.true (c.guards.ensures ∙ one) in
    record {
      last = begun Repin h.machine;
      over = repin_asks_nothing h.machine other;
      machine = c.repin_none.ensures;
      drives = drives_none AnyJob h.collector.now.places.capacity (begun Repin h.machine) (sight_of h);
    }

pub returns-then-guards-ne1-clause-ready : goal.returns-then-guards-ne1-clause-ready
returns-then-guards-ne1-clause-ready g c =
    let m = c.args.self.now.machine in
    let n = c.repin_none.new.self in
    let is = c.repin_none.ensures in
    let ready = c.requires in
    let guards : n.guards ≡ m.guards = ap (λ (z : Machine (Job g.row.W.Denot)). z.guards) is in
    ready_with c.args.self.now n ready.seated ready.rests (ap (λ (z : Machine (Job g.row.W.Denot)). z.sizes) is)
    (ap (λ (z : Machine (Job g.row.W.Denot)). z.stage) is) (record {
      published = λ out. ready.agrees.published (omega arith)
          ∙ ap (λ (z : ℕ). Some z) (sym (ap (λ (z : Machine (Job g.row.W.Denot)). z.published) is));
      read = λ out. reading c.args.self.now.seat.me.0.first_read (ready.agrees.read (omega arith));
      unpinned = λ none. ready.agrees.unpinned (omega arith);
    })

-- the published epoch is the present one: one load, and no store
pub returns-then-published-epoch-clause-does : goal.returns-then-published-epoch-clause-does
returns-then-published-epoch-clause-does g c =
    let h = c.args.self.now in let n = c.load_epoch-epoch.new.self in let steps = c.load_epoch-epoch.ensures.steps in
    let e : ℕ = c.load_epoch-epoch.result in
    let one : h.machine.guards ≡ 1 = sym c.guards.ensures ∙ c.if-guards-ne1.false in
    let same : h.machine.published ≡ e = sym c.published-published.ensures ∙ c.if-published-epoch.true in record {
      last = heard (begun Repin h.machine) (Epoch e);
      over = (repin_leaves h.machine e one same).1;
      machine = subst (λ z. c.repin_only.new.self ≡ ended (heard (begun Repin z) (Epoch e))) steps.machine
          (c.repin_only.ensures.same (ap (λ (z : Machine (Job g.row.W.Denot)). z.published) steps.machine ∙ same));
      drives = subst (λ z. Drives AnyJob h.collector.now.places.capacity (begun Repin h.machine) (sight_of h)
          (heard (begun Repin h.machine) (Epoch e)) z) (sym (sight_after h n _ steps))
          (drives_of AnyJob h.collector.now.places.capacity _ _ _ _
          (repin_same_performed h.collector.now.places.capacity (begun Repin h.machine) (sight_of h) e
          (repin_begins h.machine one) c.load_epoch-epoch.ensures.rises));
    }

pub returns-then-published-epoch-clause-counted : goal.returns-then-published-epoch-clause-counted
returns-then-published-epoch-clause-counted g c =
    let n = c.load_epoch-epoch.new.self in
    let steps = c.load_epoch-epoch.ensures.steps in
    let e : ℕ = c.load_epoch-epoch.result in
    let one : n.machine.guards ≡ 1 = ap (λ (z : Machine (Job g.row.W.Denot)). z.guards) steps.machine
    ∙ sym c.guards.ensures ∙ c.if-guards-ne1.false in
    let same : n.machine.published ≡ e = ap (λ (z : Machine (Job g.row.W.Denot)). z.published) steps.machine
    ∙ sym c.published-published.ensures ∙ c.if-published-epoch.true in
    let left = repin_leaves n.machine e one same in
    ap (λ (z : Machine (Job g.row.W.Denot)). z.guards) (c.repin_only.ensures.same same)
    ∙ ap (λ a. guards_after a (heard (begun Repin n.machine) (Epoch e)).guards) left.4 ∙ left.2
    ∙ ap (λ (z : Machine (Job g.row.W.Denot)). z.guards) steps.machine

pub returns-then-published-epoch-clause-ready : goal.returns-then-published-epoch-clause-ready
returns-then-published-epoch-clause-ready g c =
    let h = c.args.self.now in
    let n = c.load_epoch-epoch.new.self in
    let steps = c.load_epoch-epoch.ensures.steps in
    let e : ℕ = c.load_epoch-epoch.result in
    let one : n.machine.guards ≡ 1 = ap (λ (z : Machine (Job g.row.W.Denot)). z.guards) steps.machine
    ∙ sym c.guards.ensures ∙ c.if-guards-ne1.false in
    let same : n.machine.published ≡ e = ap (λ (z : Machine (Job g.row.W.Denot)). z.published) steps.machine
    ∙ sym c.published-published.ensures ∙ c.if-published-epoch.true in
    let is = c.repin_only.ensures.same same in
    let left = repin_leaves n.machine e one same in
    let counted = returns-then-published-epoch-clause-counted g c in
    let out : 0 < h.machine.guards = let was = c.guards.ensures in let is_one = c.if-guards-ne1.false in omega arith in
    let published = c.requires.agrees.published out in
    let read = reading h.seat.me.0.first_read (c.requires.agrees.read out) in
    ready_with n c.repin_only.new.self steps.seated (rests_still h n _ steps c.requires.rests)
    (ap (λ (z : Machine (Job g.row.W.Denot)). z.sizes) is ∙ left.0)
    (ap (λ (z : Machine (Job g.row.W.Denot)). z.stage) is) (record {
      published = λ _. ap (λ (z : ParticipantView). z.published) steps.knows ∙ published
          ∙ ap (λ (z : ℕ). Some z) (sym c.published-published.ensures ∙ c.if-published-epoch.true
          ∙ sym (ap (λ (z : Machine (Job g.row.W.Denot)). z.published) is ∙ left.3));
      read = λ _. (read.0, still_read h n e read.0 (h.machine.published) published read.1 steps);
      unpinned = λ none. absurd (omega arith);
    })

-- another epoch is published, and the epoch is read once more
pub returns-clause-does : goal.returns-clause-does
returns-clause-does g c =
    let h = c.args.self.now in let e : ℕ = c.load_epoch-epoch.result in
    let one : h.machine.guards ≡ 1 = sym c.guards.ensures ∙ c.if-guards-ne1.false in
    let moved = λ (same : h.machine.published ≡ e). c.if-published-epoch.false (c.published-published.ensures ∙ same) in
    let steps = republished h c.load_epoch-epoch.new.self c.publish.new.self c.load_epoch.new.self e c.load_epoch.result
    c.load_epoch-epoch.ensures.rises c.load_epoch.ensures.rises c.load_epoch-epoch.ensures.steps c.publish.ensures
    c.load_epoch.ensures.steps in
    let same = steps.steps.machine in record {
      last = heard (heard (heard (begun Repin h.machine) (Epoch e)) Stored) (Epoch steps.again);
      over = (repin_moved_leaves h.machine e steps.again one moved).1;
      machine = subst (λ z. c.repin_only-2.new.self
          ≡ ended (heard (heard (heard (begun Repin z) (Epoch e)) Stored) (Epoch steps.again))) same
          (c.repin_only-2.ensures.moved (λ (is : c.load_epoch.new.self.machine.published ≡ e).
          moved (sym (ap (λ (z : Machine (Job g.row.W.Denot)). z.published) same) ∙ is)) steps.again);
      drives = subst (λ z. Drives AnyJob h.collector.now.places.capacity (begun Repin h.machine) (sight_of h)
          (heard (heard (heard (begun Repin h.machine) (Epoch e)) Stored) (Epoch steps.again)) z)
          (sym (sight_after h c.load_epoch.new.self _ steps.steps))
          (drives_of AnyJob h.collector.now.places.capacity _ _ _ _
          (repin_moved_performed h.collector.now.places.capacity h.machine
          (sight_of h) e steps.again one moved steps.rises steps.rises_again));
    }

pub returns-clause-counted : goal.returns-clause-counted
returns-clause-counted g c =
    let h = c.args.self.now in let e : ℕ = c.load_epoch-epoch.result in let n = c.load_epoch.new.self in
    let steps = republished h c.load_epoch-epoch.new.self c.publish.new.self n e c.load_epoch.result
    c.load_epoch-epoch.ensures.rises c.load_epoch.ensures.rises c.load_epoch-epoch.ensures.steps c.publish.ensures
    c.load_epoch.ensures.steps in
    let same = steps.steps.machine in
    let one : n.machine.guards ≡ 1 = ap (λ (z : Machine (Job g.row.W.Denot)). z.guards) same ∙ sym c.guards.ensures
    ∙ c.if-guards-ne1.false in
    let moved = λ (is : n.machine.published ≡ e). c.if-published-epoch.false (c.published-published.ensures
    ∙ sym (ap (λ (z : Machine (Job g.row.W.Denot)). z.published) same) ∙ is) in
    let left = repin_moved_leaves n.machine e c.load_epoch.result one moved in
    ap (λ (z : Machine (Job g.row.W.Denot)). z.guards) (c.repin_only-2.ensures.moved moved c.load_epoch.result)
    ∙ ap (λ a. guards_after a
    (heard (heard (heard (begun Repin n.machine) (Epoch e)) Stored) (Epoch c.load_epoch.result)).guards) left.4
    ∙ left.2 ∙ ap (λ (z : Machine (Job g.row.W.Denot)). z.guards) same

pub returns-clause-ready : goal.returns-clause-ready
returns-clause-ready g c =
    let h = c.args.self.now in let e : ℕ = c.load_epoch-epoch.result in let n = c.load_epoch.new.self in
    let steps = republished h c.load_epoch-epoch.new.self c.publish.new.self n e c.load_epoch.result
    c.load_epoch-epoch.ensures.rises c.load_epoch.ensures.rises c.load_epoch-epoch.ensures.steps c.publish.ensures
    c.load_epoch.ensures.steps in
    let same = steps.steps.machine in
    let one : n.machine.guards ≡ 1 = ap (λ (z : Machine (Job g.row.W.Denot)). z.guards) same ∙ sym c.guards.ensures
    ∙ c.if-guards-ne1.false in
    let moved = λ (is : n.machine.published ≡ e). c.if-published-epoch.false (c.published-published.ensures
    ∙ sym (ap (λ (z : Machine (Job g.row.W.Denot)). z.published) same) ∙ is) in
    let left = repin_moved_leaves n.machine e c.load_epoch.result one moved in
    let is = c.repin_only-2.ensures.moved moved c.load_epoch.result in
    let counted = returns-clause-counted g c in let was = c.guards.ensures in let is_one = c.if-guards-ne1.false in
    ready_with n c.repin_only-2.new.self steps.steps.seated (rests_still h n _ steps.steps c.requires.rests)
    (ap (λ (z : Machine (Job g.row.W.Denot)). z.sizes) is ∙ left.0)
    (ap (λ (z : Machine (Job g.row.W.Denot)). z.stage) is) (record {
      published = λ _. ap (λ (z : ParticipantView). z.published) steps.steps.knows
          ∙ ap (λ (z : ℕ). Some z) (sym (ap (λ (z : Machine (Job g.row.W.Denot)). z.published) is ∙ left.3));
      read = λ _. (pinned_behind h n e steps).read;
      unpinned = λ none. absurd (omega arith);
    })

pub repin_only-requires-2 : goal.repin_only-requires-2
repin_only-requires-2 g c =
    let same = c.load_epoch.ensures.steps.machine ∙ c.publish.ensures.machine
    ∙ c.load_epoch-epoch.ensures.steps.machine in (
      omega arith,
      (
        ap (λ (z : Machine (Job g.row.W.Denot)). z.stage) same ∙ c.requires.idle,
        (
          ap (λ (z : Machine (Job g.row.W.Denot)). z.guards) same ∙ sym c.guards.ensures ∙ c.if-guards-ne1.false,
          c.load_epoch-epoch.ensures.within,
        ),
      ),
    )
