use Rattle.std.proofs.Common.{◌≡◌, take}
use Rattle.epoch_layouts.specs.Told.{lanes_told}
use Rattle.epoch_layouts.proofs.layout.lanes.participants_of.Given as goal

abbrev pub invariant-loop-moment : goal.invariant-loop-moment
invariant-loop-moment l = l.lanes ≡ lanes_told (take l.moment-index l.moments)
