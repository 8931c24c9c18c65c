use Rattle.std.proofs.Common.{◌≡◌, length, take, count_by}
use Rattle.epoch_layouts.specs.Told.{refuses}
use Rattle.epoch_layouts.proofs.layout.marks.refusals_of.Given as goal

abbrev pub invariant-loop-moment : goal.invariant-loop-moment
invariant-loop-moment l = length l.refusals.items ≡ count_by refuses (take l.moment-index l.moments)
