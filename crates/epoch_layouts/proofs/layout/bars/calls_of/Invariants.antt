use Rattle.std.proofs.Common.{◌≡◌, length, take, count_by}
use Rattle.epoch_layouts.specs.Told.{begins}
use Rattle.epoch_layouts.proofs.layout.bars.calls_of.Given as goal

abbrev pub invariant-loop-moment : goal.invariant-loop-moment
invariant-loop-moment l = length l.bars.items ≡ count_by begins (take l.moment-index l.moments)
