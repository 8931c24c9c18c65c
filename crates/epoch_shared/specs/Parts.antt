-- Which threads of a crew have done their parts.
use Rattle.std.specs.Prelude.{◌≡◌, ◌⊎◌, ℕ, ◌<◌, ◌≤◌, Bool, false, List, length, count_by, slice_index_or, IsTrue}
use Rattle.std.specs.Prelude.{Result, Ok, Err}
use Rattle.epoch_cells.specs.declared.fault.Fault.{Fault}
use Rattle.epoch_cells.specs.declared.fault.Fault.TheVariants.{NoMemory, TableFull}
use Rattle.epoch_shared.specs.declared.start.Step.{Step}
use Rattle.epoch_shared.specs.declared.start.Step.TheVariants.{Thread}

-- Of each thread it was told whether it did its part, and so many did. If it was told so, this thread has done it.
abbrev pub HasParts : (ℕ → Type 0) → (threads : ℕ) → (done : ℕ) → Type 0
HasParts has_done threads done =
    (told : List Bool) × (done ≤ threads) × (length told ≡ threads) × (done ≡ count_by (λ did. did) told)
    × ((number : ℕ) → number < threads → IsTrue (slice_index_or told number false) → has_done number)

-- A thread whose step this is has done its part.
abbrev pub DidStep : (ℕ → Type 0) → Step → Type 0
DidStep has_done (Thread number) = has_done number
DidStep has_done _ = Unit {0}

-- A step was taken, or a thread found no memory or no post for it.
abbrev pub EndsStep : Type 0 → Result (Unit {0}) Fault → Type 0
EndsStep is_taken (Ok _) = is_taken
EndsStep is_taken (Err fault) = (fault ≡ NoMemory) ⊎ (fault ≡ TableFull)
