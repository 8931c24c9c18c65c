use Rattle.std.proofs.Common.{◌≡◌, vec_len}
use Rattle.epoch_cells.proofs.SlotNumberLists.{CountsFrom}
use Rattle.epoch_cells.proofs.cells.Cells+T.with_positions.Given as goal

abbrev pub invariant-loop-index : goal.invariant-loop-index
invariant-loop-index g l = (vec_len l.slots ≡ l.index) × CountsFrom 1 l.slots.items
