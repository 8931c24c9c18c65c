use Rattle.std.proofs.Common.{◌≡◌, length, take, count_by}
use Rattle.epoch_layouts.specs.Told.{registers}
use Rattle.epoch_layouts.proofs.layout.bars.registrations_of.Given as goal

abbrev pub invariant-loop-moment : goal.invariant-loop-moment
invariant-loop-moment l = length l.bars.items ≡ count_by registers (take l.moment-index l.moments)
