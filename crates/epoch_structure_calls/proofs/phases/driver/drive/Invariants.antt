use Rattle.std.proofs.Common.{◌≡◌, List, None}
use Rattle.epoch_laws.specs.declared.step.Reply.{Reply}
use Rattle.epoch_structure_calls.specs.Paths.{newest_fault, GoesTo}
use Rattle.epoch_structure_calls.proofs.phases.driver.drive.Given as goal

-- a path was taken so far, by the same participant under the same guard
abbrev pub invariant-loop-reply : goal.invariant-loop-reply
invariant-loop-reply g l =
    ((replies : List Reply) × GoesTo g.L.Spots.does g.K.Keeps.keeping (g.P.PhaseMachine.deed 0) replies l.fn.first
    l.fn.handle l.fn.spots l.phase l.handle l.spots × (l.refused ≡ newest_fault None replies))
    × g.K.Keeps.stays l.fn.handle l.handle × g.K.Keeps.serves l.handle l.guard

-- each reply lowers it
abbrev pub decreases-loop-reply : goal.decreases-loop-reply
decreases-loop-reply g l = g.C.Ends.calls_left l.phase
