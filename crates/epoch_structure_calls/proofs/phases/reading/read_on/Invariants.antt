use Rattle.epoch_structure_calls.specs.Paths.{ReadsOn}
use Rattle.epoch_structure_calls.proofs.phases.reading.read_on.Given as goal

-- it has only read so far
abbrev pub invariant-loop-access : goal.invariant-loop-access
invariant-loop-access g l = ReadsOn g.L.Spots.does (g.P.PhaseMachine.deed 0) l.fn.first l.fn.spots l.phase l.spots

-- each reply lowers it
abbrev pub decreases-loop-access : goal.decreases-loop-access
decreases-loop-access g l = g.E.Ends.calls_left l.phase
