-- Which participants read which cells, between any two steps.
use Rattle.std.specs.Prelude.{◌≡◌, ℕ, ◌<◌, ◌≤◌, true, false, List, [], length, Option, Some, None, is_some, sum_by}
use Rattle.std.specs.Prelude.{count_by}
use Rattle.epoch_cells.specs.declared.cells.name.Name.{Name}
use Rattle.epoch_machine.specs.declared.machine.Action.{Action}
use Rattle.epoch_machine.specs.declared.machine.Action.TheVariants.{Release as ReleaseAction}
use Rattle.epoch_machine.specs.declared.machine.Stage.{Stage}
use Rattle.epoch_machine.specs.declared.machine.Stage.TheVariants.{StoreFree}
use Rattle.epoch_laws.specs.declared.heap.access.Access.TheVariants.{Read, Leave}
use Rattle.epoch_laws.specs.declared.heap.access.Ptr.{Ptr}
use Rattle.epoch_laws.specs.Heap.{Cell, cell_at, is_name}
use Rattle.epoch_laws.specs.declared.step.Call.TheVariants.{Release}
use Rattle.epoch_laws.specs.declared.step.Progress.{Progress}
use Rattle.epoch_laws.specs.declared.step.Progress.TheVariants.{Driven, Accesses}
use Rattle.epoch_laws.specs.declared.step.Word.TheVariants.{Free}
use Rattle.epoch_laws.specs.Run.{WorldSeat, State, seat_of, reads}

-- how often a name is among the readings of a participant
abbrev pub times_read : Name → List Name → ℕ
times_read n readings = count_by (λ m. is_name m n) readings

-- how often it is among those of all
abbrev pub readings_of : Name → List WorldSeat → ℕ
readings_of n seats = sum_by (λ seat. times_read n seat.readings) seats

-- how many readers the cell of a name counts; one that is gone has none
abbrev pub readers_in : Option Cell → ℕ
readers_in (Some cell) = cell.readers
readers_in None = 0

-- A read under way is of no name that its participant reads, a leave of one that it reads; who releases reads none.
abbrev pub ReadingFits : Progress → List Name → Type 0
ReadingFits (Accesses (Read g ptr) k found) readings = reads ptr.name readings ≡ false
ReadingFits (Accesses (Leave ptr) k found) readings = reads ptr.name readings ≡ true
ReadingFits (Driven Release) readings = readings ≡ []
ReadingFits _ readings = Unit {0}

-- only a release gives a position up
abbrev pub FreesAt : Action → Stage → Type 0
FreesAt a StoreFree = a ≡ ReleaseAction
FreesAt a _ = Unit {0}

-- a participant reads no name twice, and none at a free position
pub record ReadsOnce (seat : WorldSeat) : Type 0 where
  pub once : (n : Name) → times_read n seat.readings ≤ 1
  pub begun : ReadingFits seat.progress seat.readings
  pub free : seat.word ≡ Free → seat.readings ≡ []
  pub frees : FreesAt seat.machine.action seat.machine.stage

-- each cell counts as many readers as participants read it
pub record KeepsReadings (s : State) : Type 0 where
  pub counted : (n : Name) → readers_in (cell_at s.heap n) ≡ readings_of n s.seats
  pub seats : (p : ℕ) → ReadsOnce (seat_of s p)

-- the next step of p reads this name, whose cell is there
pub record ReadsNext (s : State) (p : ℕ) (n : Name) : Type 0 where
  pub guard : Option ℕ
  pub pointer : Ptr
  pub name : pointer.name ≡ Some n
  pub steps : ℕ
  pub found : Ptr
  pub progress : (seat_of s p).progress ≡ Accesses (Read guard pointer) steps found
  pub stands : is_some (cell_at s.heap n) ≡ true

-- whoever reads one cell more reads fewer than there are
abbrev pub HasCellsToRead : State → Type 0
HasCellsToRead s = (p : ℕ) (n : Name) → ReadsNext s p n → length (seat_of s p).readings < length s.heap.cells
