use Rattle.std.proofs.Common.{◌≡◌}
use Rattle.epoch_cells.proofs.cells.Cells.place_further.Given as goal

abbrev pub invariant-loop : goal.invariant-loop
invariant-loop g l = l.kept ≡ l.fn.value
