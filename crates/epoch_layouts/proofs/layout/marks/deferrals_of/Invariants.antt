use Rattle.std.proofs.Common.{◌≡◌, length, take, count_by}
use Rattle.epoch_layouts.specs.Told.{defers}
use Rattle.epoch_layouts.proofs.layout.marks.deferrals_of.Given as goal

abbrev pub invariant-loop-moment : goal.invariant-loop-moment
invariant-loop-moment l = length l.deferrals.items ≡ count_by defers (take l.moment-index l.moments)
