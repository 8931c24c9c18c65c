use Rattle.std.proofs.Common.{◌≡◌}
use Rattle.epoch_cells.proofs.cells.Cells.place_near.Given as goal

abbrev pub invariant-loop-index : goal.invariant-loop-index
invariant-loop-index g l = l.kept ≡ l.fn.value
