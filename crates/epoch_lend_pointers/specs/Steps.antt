-- What calls on a store did: which values they placed and lent, and which retired ones wait.
use Rattle.std.specs.Prelude.{◌≡◌, ◌⊎◌, ℕ, List, [], ◌∷◌, ◌++◌, Option, Some, None}
use Rattle.epoch_cells.specs.declared.cells.name.Name.{Name}
use Rattle.epoch_lend.specs.Grace.{PinStep}
use Rattle.epoch_lend.specs.Grace.PinStep.{Ticks}
use Rattle.epoch_atomic.specs.Pointers.{HasName}
use Rattle.epoch_atomic.specs.WordSteps.{WordStep, LoadsPointer}
use Rattle.epoch_lend_pointers.specs.Retiring.{spot_at}
use Rattle.epoch_lend.specs.declared.array.cells.SlotTurn.{SlotTurn}

-- one step of a store of values
pub data StoreStep (T : Type 0) : Type 0 where
  Places : (name : Name) (value : T) → StoreStep T  -- the value was shown in a cell, under this name
  Lends : (name : Name) (value : T) → StoreStep T  -- the value was found under this name
  Waits : (epoch : ℕ) (spots : List SlotTurn) → StoreStep T  -- the values at these spots wait, with this epoch

-- The clock moved on to some epoch, and the values at these spots wait with it.
abbrev pub HandsOver : {T : Type 0} → (PinStep → Type 0) → (StoreStep T → Type 0) → List SlotTurn → Type 0
HandsOver ticked did spots = (epoch : ℕ) × ticked (Ticks epoch) × did (Waits epoch spots)

-- What a writer had gathered stays, or waits, and then it has gathered nothing.
abbrev pub StaysOrWaits : {T : Type 0} → (PinStep → Type 0) → (StoreStep T → Type 0) → (old new : List SlotTurn)
    → Type 0
StaysOrWaits ticked did old new = (new ≡ old) ⊎ ((new ≡ []) × HandsOver ticked did old)

-- The values at these spots wait, if there are some.
abbrev pub HandsOverAll : {T : Type 0} → (PinStep → Type 0) → (StoreStep T → Type 0) → List SlotTurn → Type 0
HandsOverAll ticked did spots = (spots ≡ []) ⊎ HandsOver ticked did spots

-- The value of this name is gathered, too. It is behind what was gathered before, or alone, since those wait.
abbrev pub GathersOn : {T : Type 0} → (PinStep → Type 0) → (StoreStep T → Type 0) → Option Name
    → (old new : List SlotTurn) → Type 0
GathersOn ticked did None old new = ⊥
GathersOn ticked did (Some name) old new =
    (new ≡ old ++ spot_at name ∷ []) ⊎ ((new ≡ spot_at name ∷ []) × HandsOver ticked did old)

-- The value was found under the name that stands in this number.
abbrev pub LendsNumbered : {T : Type 0} → (StoreStep T → Type 0) → (number : ℕ) → T → Type 0
LendsNumbered did number value = (name : Name) × HasName number (Some name) × did (Lends name value)

-- A pointer was loaded, and the value was found under the name that it had.
abbrev pub LendsLoaded : {T : Type 0} → (align : ℕ) → (WordStep → Type 0) → (StoreStep T → Type 0) → T → Type 0
LendsLoaded align loaded did value =
    (name : Name) × (tag : ℕ) × LoadsPointer align loaded (Some name) tag × did (Lends name value)
