use Rattle.std.proofs.Common.{◌≡◌, length, All}
use Rattle.epoch_cells.specs.PlainCells.{empty}
use Rattle.epoch_cells.proofs.cells.plain.PlainCells.new.Given as goal

abbrev pub invariant-loop : goal.invariant-loop
invariant-loop g l = (length l.cells.items ≡ l.counter) × All (λ cell. cell ≡ empty l.start_turn) l.cells.items
