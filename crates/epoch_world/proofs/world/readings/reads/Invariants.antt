use Rattle.std.proofs.Common.{◌≡◌, Some, drop}
use Rattle.epoch_laws.specs.Run.{reads}
use Rattle.epoch_world.proofs.world.readings.reads.Given as goal

-- none so far is the name
abbrev pub invariant-loop-other : goal.invariant-loop-other
invariant-loop-other l = reads (Some l.wanted) l.readings ≡ reads (Some l.wanted) (drop l.other-index l.readings)
