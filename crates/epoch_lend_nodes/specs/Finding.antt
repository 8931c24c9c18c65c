-- What a call found in a store.
use Rattle.epoch_cells.specs.declared.cells.name.Name.{Name}
use Rattle.epoch_lend_pointers.specs.Steps.{StoreStep}
use Rattle.epoch_lend_pointers.specs.Steps.StoreStep.{Lends}

-- The value was found under some name.
abbrev pub IsFound : {T : Type 0} → (StoreStep T → Type 0) → T → Type 0
IsFound did value = (name : Name) × did (Lends name value)
