-- Where a slot's cell is, in cells whose number grows. The first block has the first slots. Each further one has as
-- many as all before it: those of one highest bit.
use Rattle.std.specs.Prelude.{◌≡◌, ℕ, ◌+◌, ◌-◌, ◌*◌, ◌%◌, ◌^◌, ◌≤◌, List, length, Some}
use Rattle.std.specs.List.{slice_get}
use Rattle.std.specs.Int.{w64, leading_zeros}

-- the number of the highest bit of a slot
abbrev pub top_bit : ℕ → ℕ
top_bit slot = (63 + (2 ^ 32 - leading_zeros w64 slot)) % 2 ^ 32

-- which of the further blocks has the slot, where the first block has 2 ^ bits slots, and which of its cells it is
abbrev pub block_number : ℕ → ℕ → ℕ
block_number bits slot = (top_bit slot + (2 ^ 32 - bits)) % 2 ^ 32

abbrev pub index_in_block : ℕ → ℕ
index_in_block slot = (slot + (2 ^ 64 - 1 * 2 ^ (top_bit slot % 64) % 2 ^ 64)) % 2 ^ 64

-- the log is that of the cell with this index, where the cells have these logs
abbrev pub IsOfCell : List ℕ → ℕ → ℕ → Type 0
IsOfCell logs index log = slice_get logs index ≡ Some log

-- The log is that of the slot's cell, which isn't among the first ones. The block with the slot's number is known by a
-- log of its own, as the value of its turn 0, and its cells have these logs.
pub record IsInFurther (firsts blocks : List ℕ) (bits slot block turn : ℕ) (logs : List ℕ) (log : ℕ) : Type 0 where
  pub beyond : length firsts ≤ slot
  pub of_block : slice_get blocks (block_number bits slot) ≡ Some block
  pub at_turn : turn ≡ 0
  pub of_cell : slice_get logs (index_in_block slot) ≡ Some log
