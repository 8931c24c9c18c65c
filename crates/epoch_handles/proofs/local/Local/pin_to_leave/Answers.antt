use Rattle.std.proofs.Common.{◌∙◌, List, ap, sym, arith}
use Rattle.epoch_bags.specs.declared.job.Job.{Job}
use Rattle.epoch_machine.specs.declared.machine.Action.TheVariants.{Release}
use Rattle.epoch_machine.specs.Machine.{Machine, after_collect}
use Rattle.epoch_handles.proofs.Releasing.{release_pins, release_collects, collected_to_leave}
use Rattle.epoch_handles.proofs.local.Local.pin_to_leave.Goals as goal

-- no collection follows the pin
pub returns-then-not-release_pinned-clause-leaving : goal.returns-then-not-release_pinned-clause-leaving
returns-then-not-release_pinned-clause-leaving g c = release_pins _ _ c.args.self.now
    c.pin_steps-epoch.new.self c.pin_steps-epoch.result c.release_pinned.new.self
    c.requires.ready c.requires.none c.pin_steps-epoch.ensures.steps c.release_pinned.ensures.after

pub returns-then-not-release_pinned-clause-begins : goal.returns-then-not-release_pinned-clause-begins
returns-then-not-release_pinned-clause-begins g c =
    let told = c.release_pinned.ensures in
    told.leaves c.if-not-release_pinned.true
    ∙ ap (λ (z : List (Job g.row.W.Denot)). after_collect Release z)
    (sym (ap (λ (z : Machine (Job g.row.W.Denot)). z.held) (told.after 0)))

pub collect-requires : goal.collect-requires
collect-requires g c =
    let pins = release_pins g.W.Run.done g.W.Removing.Remove.tried c.args.self.now c.pin_steps-epoch.new.self
    c.pin_steps-epoch.result c.release_pinned.new.self
    c.requires.ready c.requires.none c.pin_steps-epoch.ensures.steps c.release_pinned.ensures.after in (
      omega arith,
      (pins.seated, (pins.rests, (pins.pinned, c.release_pinned.ensures.scans c.if-not-release_pinned.false))),
    )

pub returns-clause-leaving : goal.returns-clause-leaving
returns-clause-leaving g c =
    release_collects _ _ c.args.self.now
    (record c.pin_steps-epoch.new.self { machine = c.release_pinned.new.self }) c.collect.new.self
    (release_pins _ _ c.args.self.now c.pin_steps-epoch.new.self c.pin_steps-epoch.result
    c.release_pinned.new.self
    c.requires.ready c.requires.none c.pin_steps-epoch.ensures.steps c.release_pinned.ensures.after)
    c.collect.ensures

pub returns-clause-begins : goal.returns-clause-begins
returns-clause-begins g c =
    collected_to_leave _ _ c.args.self.now
    (record c.pin_steps-epoch.new.self { machine = c.release_pinned.new.self }) c.collect.new.self
    (release_pins _ _ c.args.self.now c.pin_steps-epoch.new.self c.pin_steps-epoch.result
    c.release_pinned.new.self
    c.requires.ready c.requires.none c.pin_steps-epoch.ensures.steps c.release_pinned.ensures.after)
    c.collect.ensures
