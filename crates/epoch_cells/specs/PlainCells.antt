-- Numbered cells as a plain list: what stands under a name, and what each call leaves.
use Rattle.std.specs.Prelude.{◌≡◌, ℕ, ◌-◌, ◌<◌, ◌==◌, Bool, true, ◌&&◌, if◌then◌else◌, List, Option, Some, None}
use Rattle.std.specs.Prelude.{is_some, slice_get, slice_set}
use Rattle.epoch_cells.specs.declared.cells.Removal.{Removal}
use Rattle.epoch_cells.specs.declared.cells.Removal.TheVariants.{Destroyed, HeldElsewhere, Gone}

-- a slot: the turn of its value, or of the next one where it has none; how many read it; and its value
pub record Numbered (V : Type 0) : Type 0 where
  pub turn : ℕ
  pub readers : ℕ
  pub value : Option V

abbrev pub filled : {V : Type 0} → ℕ → ℕ → V → Numbered V
filled turn readers value = record { turn = turn; readers = readers; value = Some value }

-- a slot that waits for the value of this turn, or is retired past the last turn
abbrev pub empty : {V : Type 0} → ℕ → Numbered V
empty turn = record { turn = turn; readers = 0; value = None }

abbrev pub has : {V : Type 0} → Numbered V → ℕ → Bool
has cell turn = (cell.turn == turn) && is_some cell.value

abbrev pub if_has : {V : Type 0} → ℕ → Option (Numbered V) → Option (Numbered V)
if_has turn (Some cell) = if has cell turn then Some cell else None
if_has turn None = None

-- the map from names, each a slot and a turn, to cells with their value
abbrev pub cell_of : {V : Type 0} → List (Numbered V) → ℕ → ℕ → Option (Numbered V)
cell_of cells slot turn = if_has turn (slice_get cells (slot - 1))

abbrev pub with_cell : {V : Type 0} → List (Numbered V) → ℕ → Numbered V → List (Numbered V)
with_cell cells slot cell = slice_set cells (slot - 1) cell

-- a value may come in: nothing is there, and the slot isn't retired
abbrev pub IsFree : {V : Type 0} → Numbered V → Type 0
IsFree cell = (cell.value ≡ None) × (cell.turn < 4294967296)

-- the value, if nobody reads it
abbrev pub unread : {V : Type 0} → Option (Numbered V) → Option V
unread (Some cell) = if cell.readers == 0 then cell.value else None
unread None = None

-- the value, if the count of readers has room for one more
abbrev pub readable : {V : Type 0} → Option (Numbered V) → Option V
readable (Some cell) = if cell.readers == 1073741823 then None else cell.value
readable None = None

-- what a removal meets
abbrev pub removal_of : {V : Type 0} → Option (Numbered V) → Removal
removal_of (Some cell) = if cell.readers == 0 then Destroyed else HeldElsewhere
removal_of None = Gone

abbrev pub HasReader : {V : Type 0} → Option (Numbered V) → Type 0
HasReader (Some cell) = 0 < cell.readers
HasReader None = ⊥

-- the cell has one reader less
abbrev pub Lowers : {V : Type 0} → ℕ → Option (Numbered V) → List (Numbered V) → List (Numbered V) → Type 0
Lowers slot (Some cell) old new = new ≡ with_cell old slot (record cell { readers = cell.readers - 1 })
Lowers slot None old new = ⊥

-- the cell has this value, and its readers as before
abbrev pub Replaces : {V : Type 0} → ℕ → V → Option (Numbered V) → List (Numbered V) → List (Numbered V) → Type 0
Replaces slot value (Some cell) old new = new ≡ with_cell old slot (record cell { value = Some value })
Replaces slot value None old new = ⊥

-- the value of this turn is in the slot
abbrev pub Stands : {V : Type 0} → List (Numbered V) → ℕ → ℕ → Type 0
Stands cells slot turn = (cell : Numbered _) × (slice_get cells (slot - 1) ≡ Some cell) × (has cell turn ≡ true)

-- every name but this one has the cell that it had
abbrev pub KeepsOthers : {V : Type 0} → ℕ → ℕ → List (Numbered V) → List (Numbered V) → Type 0
KeepsOthers slot turn old new =
    (other_slot other_turn : ℕ) → 0 < other_slot → ¬ ((other_slot ≡ slot) × (other_turn ≡ turn))
    → cell_of new other_slot other_turn ≡ cell_of old other_slot other_turn
