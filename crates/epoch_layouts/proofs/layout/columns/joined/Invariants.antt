use Rattle.std.proofs.Common.{◌≡◌, length}
use Rattle.epoch_layouts.proofs.layout.columns.joined.Given as goal

abbrev pub invariant-loop-moment : goal.invariant-loop-moment
invariant-loop-moment l = length l.columns.items ≡ l.moment-index
