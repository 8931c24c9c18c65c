-- What is said of whole runs: a name that was given has its cell until it is destroyed.
use Rattle.std.specs.Prelude.{◌≡◌, ℕ, true, List, [], ◌∷◌, is_some, ◌⊎◌}
use Rattle.epoch_cells.specs.declared.cells.name.Name.{Name}
use Rattle.epoch_laws.specs.declared.step.Entry.{Entry}
use Rattle.epoch_laws.specs.Given.{given_after}
use Rattle.epoch_laws.specs.Heap.{Heap, cell_at}
use Rattle.epoch_laws.specs.Reach.{Past}
use Rattle.epoch_laws.specs.Run.{State, Runs}

-- the name's cell is there
abbrev pub IsInHeap : Heap → Name → Type 0
IsInHeap h x = is_some (cell_at h x) ≡ true

-- which names a run has given
abbrev pub given_from : (Name → Type 0) → (s : State) (log : List Entry) (new : State) → Runs s log new → Name → Type 0
given_from given s [] new run = given
given_from given s (entry ∷ log) new (mid, did, run) = given_from (given_after given s entry mid) mid log new run

abbrev pub given_of : (s : State) (log : List Entry) (new : State) → Runs s log new → Name → Type 0
given_of s log new run = given_from (λ x. ⊥) s log new run

-- each name given has its cell, or is destroyed, and not both
pub record StandsOrDestroyed (given : Name → Type 0) (past : Past) (h : Heap) : Type 0 where
  pub stands : (x : Name) → given x → IsInHeap h x ⊎ past.destroyed x
  pub gone : (x : Name) → past.destroyed x → ¬ (IsInHeap h x)

-- each name that is loaded under a guard still held has its cell
abbrev pub LoadedStand : Past → Heap → Type 0
LoadedStand past h = (p g : ℕ) (x : Name) → past.loaded p g x → IsInHeap h x
