use Rattle.std.proofs.Common.{◌≡◌, ◌++◌, Some, take, drop}
use Rattle.epoch_laws.specs.Run.{without_reading}
use Rattle.epoch_world.proofs.world.readings.reading_at.Given as goal

-- none so far is the name
abbrev pub invariant-loop-index : goal.invariant-loop-index
invariant-loop-index l = without_reading (Some l.name) l.readings ≡ take l.index l.readings
    ++ without_reading (Some l.name) (drop l.index l.readings)
