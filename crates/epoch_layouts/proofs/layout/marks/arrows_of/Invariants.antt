use Rattle.std.proofs.Common.{◌≡◌, length, take, count_by}
use Rattle.epoch_layouts.specs.Told.{calls}
use Rattle.epoch_layouts.proofs.layout.marks.arrows_of.Given as goal

abbrev pub invariant-loop-moment : goal.invariant-loop-moment
invariant-loop-moment l = length l.arrows.items ≡ count_by calls (take l.moment-index l.moments)
