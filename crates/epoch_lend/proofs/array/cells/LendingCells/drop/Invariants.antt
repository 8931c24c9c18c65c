use Rattle.std.proofs.Common.{◌≡◌, ◌+◌, length}
use Rattle.std.specs.Prelude.{map}
use Rattle.epoch_lend.specs.Blocks.{places_in}
use Rattle.epoch_lend.proofs.array.cells.LendingCells.drop.Given as goal

-- the cells that are left have the places that are out of the block
abbrev pub invariant-cells : goal.invariant-cells
invariant-cells g l = (map (λ s. s.turns.at) l.slots.items ≡ places_in l.base l.block.stride (length l.slots.items)) ×
    (l.block.heap ≡ l.alloc) × (l.block.at ≡ l.base) × (l.block.taken ≡ length l.slots.items) × (length l.slots.items +
    l.block.left ≡ l.count)

abbrev pub decreases-cells : goal.decreases-cells
decreases-cells g l = length l.slots.items
