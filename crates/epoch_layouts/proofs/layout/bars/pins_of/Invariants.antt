use Rattle.std.proofs.Common.{◌≡◌, length, take, count_by}
use Rattle.epoch_layouts.specs.Told.{pins}
use Rattle.epoch_layouts.proofs.layout.bars.pins_of.Given as goal

abbrev pub invariant-loop-moment : goal.invariant-loop-moment
invariant-loop-moment l = length l.bars.items ≡ count_by pins (take l.moment-index l.moments)
