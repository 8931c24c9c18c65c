use Rattle.epoch_bags.specs.Jobs.{IsCalled}
use Rattle.epoch_handles.proofs.Ended.{ends_with_any}
use Rattle.epoch_handles.proofs.Releasing.{refused_at_last, freed_at_last, same_at_last}
use Rattle.epoch_handles.proofs.local.Local.release.Goals as goal

pub returns-clause-same : goal.returns-clause-same
returns-clause-same g c =
    same_at_last _ _ c.args.self.now c.pin_to_leave.new.self c.leave.new.self c.leave.result
    c.pin_to_leave.ensures.leaving c.leave.ensures.refused c.leave.ensures.freed

-- where the bag found no place
pub returns-clause-called : goal.returns-clause-called
returns-clause-called g c = λ refused.
    (refused_at_last _ _ c.args.self.now c.pin_to_leave.new.self c.leave.new.self
    c.pin_to_leave.ensures.leaving (c.leave.ensures.refused refused)).ends

pub returns-clause-does : goal.returns-clause-does
returns-clause-does g c = λ refused. ends_with_any (IsCalled g.W.Run.done g.W.Removing.Remove.tried) _ _
    (returns-clause-called g c refused)

pub returns-clause-ready : goal.returns-clause-ready
returns-clause-ready g c = λ refused.
    (refused_at_last _ _ c.args.self.now c.pin_to_leave.new.self c.leave.new.self
    c.pin_to_leave.ensures.leaving (c.leave.ensures.refused refused)).ready

pub returns-clause-held : goal.returns-clause-held
returns-clause-held g c = λ refused.
    (refused_at_last _ _ c.args.self.now c.pin_to_leave.new.self c.leave.new.self
    c.pin_to_leave.ensures.leaving (c.leave.ensures.refused refused)).held

pub returns-clause-counted : goal.returns-clause-counted
returns-clause-counted g c = λ refused.
    (refused_at_last _ _ c.args.self.now c.pin_to_leave.new.self c.leave.new.self
    c.pin_to_leave.ensures.leaving (c.leave.ensures.refused refused)).counted

pub returns-clause-found : goal.returns-clause-found
returns-clause-found g c = λ refused.
    (refused_at_last _ _ c.args.self.now c.pin_to_leave.new.self c.leave.new.self
    c.pin_to_leave.ensures.leaving (c.leave.ensures.refused refused)).full

-- where the position is free
pub returns-clause-frees : goal.returns-clause-frees
returns-clause-frees g c = λ free.
    freed_at_last _ _ c.args.self.now c.pin_to_leave.new.self c.leave.new.self c.pin_to_leave.ensures.leaving
    (c.leave.ensures.freed free)
