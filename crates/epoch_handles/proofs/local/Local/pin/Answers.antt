use Rattle.std.proofs.Common.{◌≡◌, ◌∙◌, ℕ, ◌+◌, ◌<◌, Some, sym, ap, subst, arith}
use Rattle.epoch_tables.specs.declared.table.view.ParticipantView.{ParticipantView}
use Rattle.epoch_bags.specs.declared.job.Job.{Job}
use Rattle.epoch_machine.specs.declared.machine.Action.TheVariants.{Pin}
use Rattle.epoch_machine.specs.Machine.{Machine, begun, guards_after}
use Rattle.epoch_handles.specs.Drives.{NoJob, Drives}
use Rattle.epoch_handles.specs.Handles.{sight_of}
use Rattle.epoch_handles.proofs.Driving.{drives_none}
use Rattle.epoch_handles.proofs.FirstPins.{PinsFirst, told_of_pin, still_seated, pins_first}
use Rattle.epoch_handles.proofs.StraightCalls.{reading, pin_begins, pin_asks_nothing, pin_leaves, pin_drives}
use Rattle.epoch_handles.proofs.StraightCalls.{pinned_behind, ready_with, rests_still}
use Rattle.epoch_handles.proofs.local.Local.pin.Given.{Over}
use Rattle.epoch_handles.proofs.local.Local.pin.Goals as goal

-- a pin with guards out asks nothing
pub returns-then-guards-ne0-clause-ends : goal.returns-then-guards-ne0-clause-ends
returns-then-guards-ne0-clause-ends g c = λ _.
    let h = c.args.self.now in
    let some = λ (none : h.machine.guards ≡ 0). c.if-guards-ne0.true (c.guards.ensures ∙ none) in
    record {
      last = begun Pin h.machine;
      over = pin_asks_nothing h.machine some;
      machine = c.pin_again.ensures;
      drives = drives_none NoJob h.collector.now.places.capacity (begun Pin h.machine) (sight_of h);
    }

pub returns-then-guards-ne0-clause-ready : goal.returns-then-guards-ne0-clause-ready
returns-then-guards-ne0-clause-ready g c = λ _.
    let m = c.args.self.now.machine in let n = c.pin_again.new.self in let is = c.pin_again.ensures in
    let ready = c.requires.ready in
    let guards : n.guards ≡ m.guards + 1 = ap (λ (z : Machine (Job g.row.W.Denot)). z.guards) is in
    let out : 0 < m.guards = let r = c.guards.ensures in let some = c.if-guards-ne0.true in omega arith in
    ready_with c.args.self.now n ready.seated ready.rests (ap (λ (z : Machine (Job g.row.W.Denot)). z.sizes) is)
    (ap (λ (z : Machine (Job g.row.W.Denot)). z.stage) is) (record {
      published = λ _. ready.agrees.published out
          ∙ ap (λ (z : ℕ). Some z) (sym (ap (λ (z : Machine (Job g.row.W.Denot)). z.published) is));
      read = λ _. reading c.args.self.now.seat.me.0.first_read (ready.agrees.read out);
      unpinned = λ none. absurd (omega arith);
    })

-- A first pin: three steps, after which its guard is counted or a collection follows. The machine goes on between the
-- first two.
first_of : (g : Over) (c : goal.After-publish_steps g)
    → PinsFirst c.args.self.now c.load_epoch-epoch.result c.pin_first-collects.result c.publish_steps.new.self
first_of g c = let told = c.pin_first-collects.ensures in
    pins_first c.args.self.now c.load_epoch-epoch.new.self c.publish_steps.new.self c.pin_first-collects.new.self
    c.load_epoch-epoch.result c.pin_first-collects.result
    (sym c.guards.ensures ∙ c.if-guards-ne0.false) c.load_epoch-epoch.ensures.rises c.load_epoch-epoch.ensures.steps
    (record { follows = told.collects; stops = told.stops; ends = told.ends }) c.publish_steps.ensures

pub publish_steps-requires : goal.publish_steps-requires
publish_steps-requires g c =
    let told = c.pin_first-collects.ensures in let load = c.load_epoch-epoch.ensures in
    let none = sym c.guards.ensures ∙ c.if-guards-ne0.false in (
      omega arith,
      (
        still_seated c.args.self.now c.load_epoch-epoch.new.self c.pin_first-collects.new.self c.load_epoch-epoch.result
            c.pin_first-collects.result none load.steps
            (record { follows = told.collects; stops = told.stops; ends = told.ends }),
        (omega (arith, ap (λ (z : ParticipantView). z.seen) load.steps.knows), load.within),
      ),
    )

pub returns-clause-ends : goal.returns-clause-ends
returns-clause-ends g c = λ stops.
    let h = c.args.self.now in
    let e : ℕ = c.load_epoch-epoch.result in
    let first = first_of g c in
    let again = first.steps.again in
    record {
      last = told_of_pin h.machine e again;
      over = first.machine.stops stops again;
      machine = first.machine.ends stops again;
      drives = pin_drives h (record c.publish_steps.new.self { machine = h.machine }) (begun Pin h.machine) e
          (pin_begins h.machine first.none) first.steps;
    }

pub returns-clause-drives : goal.returns-clause-drives
returns-clause-drives g c = λ collects.
    let h = c.args.self.now in
    let e : ℕ = c.load_epoch-epoch.result in
    let w = c.publish_steps.new.self in
    let first = first_of g c in
    subst (λ z. Drives NoJob h.collector.now.places.capacity (begun Pin h.machine) (sight_of h) z (sight_of w))
    (sym (first.machine.follows collects first.steps.again))
    (pin_drives h (record w { machine = h.machine }) (begun Pin h.machine) e
    (pin_begins h.machine first.none) first.steps)

pub returns-clause-pinned : goal.returns-clause-pinned
returns-clause-pinned g c = λ _. let h = c.args.self.now in
    pinned_behind h (record c.publish_steps.new.self { machine = h.machine }) c.load_epoch-epoch.result
    (first_of g c).steps

pub returns-clause-counted : goal.returns-clause-counted
returns-clause-counted g c = λ stops.
    let h = c.args.self.now in
    let e : ℕ = c.load_epoch-epoch.result in
    let first = first_of g c in
    let again = first.steps.again in
    let left = pin_leaves h.machine e again first.none in
    ap (λ (z : Machine (Job g.row.W.Denot)). z.guards) (first.machine.ends stops again)
    ∙ ap (λ a. guards_after a (told_of_pin h.machine e again).guards) left.3 ∙ ap (λ (z : ℕ). z + 1) left.1

pub returns-clause-ready : goal.returns-clause-ready
returns-clause-ready g c = λ stops.
    let h = c.args.self.now in let w = c.publish_steps.new.self in let e : ℕ = c.load_epoch-epoch.result in
    let first = first_of g c in let steps = first.steps in let is = first.machine.ends stops steps.again in
    let n = record w { machine = h.machine } in
    let left = pin_leaves h.machine e steps.again first.none in
    let pinned = pinned_behind h n e steps in
    let counted = returns-clause-counted g c stops in
    ready_with n w.machine steps.steps.seated (rests_still h n _ steps.steps c.requires.ready.rests)
    (ap (λ (z : Machine (Job g.row.W.Denot)). z.sizes) is ∙ left.0)
    (ap (λ (z : Machine (Job g.row.W.Denot)). z.stage) is) (record {
      published = λ _. ap (λ (z : ParticipantView). z.published) steps.steps.knows
          ∙ ap (λ (z : ℕ). Some z) (sym (ap (λ (z : Machine (Job g.row.W.Denot)). z.published) is ∙ left.2));
      read = λ _. pinned.read;
      unpinned = λ zero. absurd (omega arith);
    })

pub returns-clause-seated : goal.returns-clause-seated
returns-clause-seated g c = λ _. c.publish_steps.ensures.steps.seated

pub returns-clause-rests : goal.returns-clause-rests
returns-clause-rests g c = λ _. let h = c.args.self.now in
    rests_still h (record c.publish_steps.new.self { machine = h.machine }) _
    (first_of g c).steps.steps c.requires.ready.rests

pub returns-clause-scans : goal.returns-clause-scans
returns-clause-scans g c =
    λ collects. ap (λ (z : Machine (Job g.row.W.Denot)). z.stage) c.publish_steps.ensures.steps.machine
    ∙ c.pin_first-collects.ensures.scans collects

pub returns-clause-leaves : goal.returns-clause-leaves
returns-clause-leaves g c = λ collects.
    let h = c.args.self.now in
    let e : ℕ = c.load_epoch-epoch.result in
    let first = first_of g c in
    let steps = first.steps in
    let is = first.machine.follows collects steps.again in
    let left = pin_leaves h.machine e steps.again first.none in (
      ap (λ (z : Machine (Job g.row.W.Denot)). z.guards) is ∙ left.1,
      ap (λ (z : Machine (Job g.row.W.Denot)). z.action) is ∙ left.3,
      ap (λ (z : ParticipantView). z.published) steps.steps.knows
          ∙ ap (λ (z : ℕ). Some z) (sym (ap (λ (z : Machine (Job g.row.W.Denot)). z.published) is ∙ left.2)),
    )
