-- Cells, their fields and the roots, and what one step does to them.
use Rattle.std.specs.Prelude.{◌≡◌, ◌≢◌, ℕ, zero, suc, ◌+◌, ◌-◌, ◌%◌, ◌^◌, ◌<◌, ◌≤◌, ◌==◌, ◌&&◌, ◌||◌, nat_lt, nat_le}
use Rattle.std.specs.Prelude.{Bool, true, false, List, [], ◌∷◌, length, Option, Some, None, is_some, option_map, ◌⊎◌}
use Rattle.std.specs.Prelude.{if◌then◌else◌, slice_get, slice_set, bit_and, bit_or, bit_xor}
use Rattle.epoch_cells.specs.PlainCells.{Numbered, filled, empty, cell_of, with_cell, unread, readable, removal_of}
use Rattle.epoch_cells.specs.PlainCells.{IsFree}
use Rattle.epoch_cells.specs.declared.cells.name.Name.{Name}
use Rattle.epoch_cells.specs.declared.cells.Removal.{Removal}
use Rattle.epoch_cells.specs.declared.cells.Removal.TheVariants.{Destroyed as RemovalDestroyed}
use Rattle.epoch_cells.specs.declared.cells.Removal.TheVariants.{HeldElsewhere as RemovalHeld, Gone as RemovalGone}
use Rattle.epoch_bags.specs.declared.job.Called.{Called}
use Rattle.epoch_bags.specs.declared.job.Called.TheVariants.{Ran, Destroyed, HeldElsewhere, Gone}
use Rattle.epoch_laws.specs.declared.heap.heap.Content.{Content}
use Rattle.epoch_laws.specs.declared.heap.access.Ptr.{Ptr}
use Rattle.epoch_laws.specs.declared.heap.access.Spot.{Spot}
use Rattle.epoch_laws.specs.declared.heap.access.Spot.TheVariants.{Root, Field}
use Rattle.epoch_laws.specs.declared.heap.access.Update.{Update}
use Rattle.epoch_laws.specs.declared.heap.access.Update.TheVariants.{Tag, To, Stop}
use Rattle.epoch_laws.specs.declared.heap.access.Change.{Change}
use Rattle.epoch_laws.specs.declared.heap.access.Change.TheVariants.{Load, Store, Swap, CompareExchange, FetchAnd}
use Rattle.epoch_laws.specs.declared.heap.access.Change.TheVariants.{FetchOr, FetchXor, FetchUpdate}
use Rattle.epoch_laws.specs.declared.heap.access.Access.{Access}
use Rattle.epoch_laws.specs.declared.heap.access.Access.TheVariants.{Place, Read, Leave, Write, Take, Point}
use Rattle.epoch_laws.specs.declared.heap.access.Accessed.{Accessed}
use Rattle.epoch_laws.specs.declared.heap.access.Accessed.TheVariants.{Again, Answers, NoSlot}
use Rattle.epoch_laws.specs.declared.heap.access.AccessAnswer.{AccessAnswer}
use Rattle.epoch_laws.specs.declared.heap.access.AccessAnswer.TheVariants.{Unit as UnitAnswer, Name as NameAnswer}
use Rattle.epoch_laws.specs.declared.heap.access.AccessAnswer.TheVariants.{Value, Absent, Pointer, Exchanged, Unchanged}
use Rattle.epoch_laws.specs.declared.heap.access.AccessAnswer.TheVariants.{Updated, Stopped, RanOut}

abbrev pub Cell : Type 0
Cell = Numbered Content

pub record Heap : Type 0 where
  pub roots : List Ptr
  pub cells : List Cell
  pub fields : ℕ  -- how many a cell has; there is room for 16
  pub align : ℕ
  pub start_turn : ℕ  -- the first turn of each slot

-- POINTERS AND WHERE THEY STAND

abbrev pub null : Ptr
null = record { name = None; tag = 0 }

abbrev pub nulls : ℕ → List Ptr
nulls zero = []
nulls (suc n) = null ∷ nulls n

-- a tag is taken modulo the alignment
abbrev pub tagged : Heap → Ptr → ℕ → Ptr
tagged h ptr tag = record ptr { tag = tag % h.align }

abbrev pub aligned : Heap → Ptr → Ptr
aligned h ptr = tagged h ptr ptr.tag

abbrev pub cell_at : Heap → Name → Option Cell
cell_at h n = cell_of h.cells n.slot n.turn

abbrev pub with_cell_at : Heap → Name → Cell → Heap
with_cell_at h n cell = record h { cells = with_cell h.cells n.slot cell }

abbrev pub field_of : Option Content → ℕ → Option Ptr
field_of (Some content) f = slice_get content.fields f
field_of None f = None

abbrev pub field_in : Option Cell → ℕ → Option Ptr
field_in (Some cell) f = field_of cell.value f
field_in None f = None

-- the pointer that stands in a root, or in a field of a name's cell
abbrev pub pointer_at : Heap → Spot → Option Ptr
pointer_at h (Root i) = slice_get h.roots i
pointer_at h (Field n f) = field_in (cell_at h n) f

abbrev pub with_field : Content → ℕ → Ptr → Content
with_field content f ptr = record content { fields = slice_set content.fields f ptr }

abbrev pub with_field_in : Heap → Name → ℕ → Ptr → Option Cell → Heap
with_field_in h n f ptr (Some cell) =
    with_cell_at h n (record cell { value = option_map (λ content. with_field content f ptr) cell.value })
with_field_in h n f ptr None = h

abbrev pub with_pointer : Heap → Spot → Ptr → Heap
with_pointer h (Root i) ptr = record h { roots = slice_set h.roots i ptr }
with_pointer h (Field n f) ptr = with_field_in h n f ptr (cell_at h n)

-- WHICH PLACES THERE ARE, AND WHICH NAMES WERE GIVEN

abbrev pub is_name : Name → Name → Bool
is_name n m = (n.slot == m.slot) && (n.turn == m.turn)

-- by the number of the root or field alone
abbrev pub has_spot : Heap → Spot → Bool
has_spot h (Root i) = nat_lt i (length h.roots)
has_spot h (Field n f) = nat_lt f h.fields

abbrev pub turn_given : ℕ → ℕ → Option Cell → Bool
turn_given start turn (Some cell) =
    nat_le start turn && (nat_lt turn cell.turn || ((turn == cell.turn) && is_some cell.value))
turn_given start turn None = false

abbrev pub was_given : Heap → Name → Bool
was_given h n = turn_given h.start_turn n.turn (slice_get h.cells (n.slot - 1))

-- null, or a name that was given
abbrev pub is_known : Heap → Option Name → Bool
is_known h (Some n) = was_given h n
is_known h None = true

-- a name that was given
abbrev pub is_removable : Heap → Option Name → Bool
is_removable h (Some n) = was_given h n
is_removable h None = false

-- REMOVALS

abbrev pub called_by : Removal → Called
called_by RemovalDestroyed = Destroyed
called_by RemovalHeld = HeldElsewhere
called_by RemovalGone = Gone

abbrev pub without_cell : Heap → Name → Removal → Heap
without_cell h n RemovalDestroyed = with_cell_at h n (empty (n.turn + 1))
without_cell h n _ = h

-- what the call of a job answers: the removal of this name, or work
abbrev pub outcome_of : Heap → Option Name → Called
outcome_of h None = Ran
outcome_of h (Some n) = called_by (removal_of (cell_at h n))

abbrev pub heap_after_job : Heap → Option Name → Heap
heap_after_job h None = h
heap_after_job h (Some n) = without_cell h n (removal_of (cell_at h n))

-- WHAT A STEP OF A CALL ON CELLS AND POINTERS DOES

-- what its call is told, and the cells and pointers after it
pub record Touched : Type 0 where
  pub told : Accessed
  pub heap : Heap

abbrev pub touched : Accessed → Heap → Touched
touched told heap = record { told = told; heap = heap }

abbrev pub answers : AccessAnswer → Heap → Touched
answers answer heap = touched (Answers answer) heap

-- a slot is looked at: it takes the value under its next name, or is used or retired
abbrev pub Places : ℕ → ℕ → Ptr → Heap → Option Cell → Touched → Type 0
Places v k found h None did = did ≡ touched NoSlot h
Places v k found h (Some cell) did =
    (IsFree cell × (n : Name) × (n.slot ≡ k + 1) × (n.turn ≡ cell.turn)
    × (did ≡ answers (NameAnswer n) (with_cell_at h n (filled n.turn 0 (record { value = v; fields = nulls 16 })))))
    ⊎ ((¬ (IsFree cell)) × (did ≡ touched (Again found) h))

abbrev pub raised : Cell → Cell
raised cell = record cell { readers = cell.readers + 1 }

-- the value that a reading would lend comes with the cell
abbrev pub read_by : Heap → Name → Option Cell → Option Content → Touched
read_by h n (Some cell) (Some content) = answers (Value content.value) (with_cell_at h n (raised cell))
read_by h n _ _ = answers Absent h

abbrev pub left_by : Heap → Name → Option Cell → Touched
left_by h n (Some cell) = answers UnitAnswer (with_cell_at h n (record cell { readers = cell.readers - 1 }))
left_by h n None = answers UnitAnswer h

-- the value that nobody reads is replaced, or taken
abbrev pub written_by : Heap → Name → ℕ → Option Content → Touched
written_by h n v (Some content) = answers UnitAnswer (with_cell_at h n (filled n.turn 0 (record content { value = v })))
written_by h n v None = answers Absent h

abbrev pub taken_by : Heap → Name → Option Content → Touched
taken_by h n (Some content) = answers (Value content.value) (with_cell_at h n (empty (n.turn + 1)))
taken_by h n None = answers Absent h

abbrev pub updated_by : Update → Ptr → Ptr
updated_by (Tag k) ptr = record ptr { tag = k }
updated_by (To other) ptr = other
updated_by Stop ptr = ptr

abbrev pub is_stop : Update → Bool
is_stop Stop = true
is_stop _ = false

-- the pointer at the spot is replaced
abbrev pub replaced : Heap → Spot → Ptr → AccessAnswer → Touched
replaced h spot ptr answer = answers answer (with_pointer h spot ptr)

-- The pointer ptr stands at the spot; the call has made k steps, and found another pointer last.
abbrev pub Changes : Change → ℕ → Ptr → Ptr → Spot → Heap → Touched → Type 0
Changes Load k found ptr spot h did = did ≡ answers (Pointer ptr) h
Changes (Store other) k found ptr spot h did = did ≡ replaced h spot (aligned h other) UnitAnswer
Changes (Swap other) k found ptr spot h did = did ≡ replaced h spot (aligned h other) (Pointer ptr)
Changes (CompareExchange current other) k found ptr spot h did =
    ((ptr ≡ aligned h current) × (did ≡ replaced h spot (aligned h other) (Exchanged (aligned h other))))
    ⊎ ((ptr ≢ aligned h current) × (did ≡ answers (Unchanged ptr) h))
Changes (FetchAnd n) k found ptr spot h did = did ≡ replaced h spot (tagged h ptr (bit_and ptr.tag n)) (Pointer ptr)
Changes (FetchOr n) k found ptr spot h did = did ≡ replaced h spot (tagged h ptr (bit_or ptr.tag n)) (Pointer ptr)
Changes (FetchXor n) k found ptr spot h did = did ≡ replaced h spot (tagged h ptr (bit_xor ptr.tag n)) (Pointer ptr)
Changes (FetchUpdate tries by) zero found ptr spot h did =
    did ≡ touched (if tries == 0 then Answers (RanOut ptr)
    else (if is_stop by then Answers (Stopped ptr) else Again ptr)) h
Changes (FetchUpdate tries by) (suc k) found ptr spot h did =
    ((ptr ≡ found) × (did ≡ replaced h spot (aligned h (updated_by by ptr)) (Updated ptr)))
    ⊎ ((ptr ≢ found) × (did ≡ touched (if suc k == tries then Answers (RanOut ptr) else Again ptr) h))

abbrev pub ChangesAt : Change → ℕ → Ptr → Spot → Heap → Option Ptr → Touched → Type 0
ChangesAt change k found spot h (Some ptr) did = Changes change k found ptr spot h did
ChangesAt change k found spot h None did = did ≡ answers Absent h

-- a step that is given a name; with null no step is made
abbrev pub at_name : (Name → Touched) → Heap → Option Name → Touched
at_name step h (Some n) = step n
at_name step h None = answers Absent h

-- one step of the call, which has made k steps before it
abbrev pub Touches : Access → ℕ → Ptr → Heap → Touched → Type 0
Touches (Place v) k found h did = Places v k found h (slice_get h.cells k) did
Touches (Read g ptr) k found h did = did ≡ at_name (λ n. read_by h n (cell_at h n) (readable (cell_at h n))) h ptr.name
Touches (Leave ptr) k found h did = did ≡ at_name (λ n. left_by h n (cell_at h n)) h ptr.name
Touches (Write g ptr v) k found h did = did ≡ at_name (λ n. written_by h n v (unread (cell_at h n))) h ptr.name
Touches (Take g ptr) k found h did = did ≡ at_name (λ n. taken_by h n (unread (cell_at h n))) h ptr.name
Touches (Point g spot change) k found h did = ChangesAt change k found spot h (pointer_at h spot) did

-- WHAT A CALL IS GIVEN

-- the guard, if it is a protecting one
abbrev pub guard_of : Access → Option ℕ
guard_of (Read g ptr) = g
guard_of (Write g ptr v) = g
guard_of (Take g ptr) = g
guard_of (Point g spot change) = g
guard_of _ = None

-- whether the call has a step at all
abbrev pub has_steps : Access → Bool
has_steps (Read g ptr) = is_some ptr.name
has_steps (Write g ptr v) = is_some ptr.name
has_steps (Take g ptr) = is_some ptr.name
has_steps _ = true

-- there is such a root or field
abbrev pub has_place : Heap → Access → Bool
has_place h (Point g spot change) = has_spot h spot
has_place h _ = true

abbrev pub knows_spot : Heap → Spot → Bool
knows_spot h (Root i) = true
knows_spot h (Field n f) = was_given h n

abbrev pub knows_change : Heap → Change → Bool
knows_change h (Store other) = is_known h other.name
knows_change h (Swap other) = is_known h other.name
knows_change h (CompareExchange current other) = is_known h current.name && is_known h other.name
knows_change h (FetchUpdate tries (To other)) = is_known h other.name
knows_change h _ = true

-- each name that it is given was given before
abbrev pub knows_names : Heap → Access → Bool
knows_names h (Place v) = true
knows_names h (Read g ptr) = is_known h ptr.name
knows_names h (Leave ptr) = is_known h ptr.name
knows_names h (Write g ptr v) = is_known h ptr.name
knows_names h (Take g ptr) = is_known h ptr.name
knows_names h (Point g spot change) = knows_spot h spot && knows_change h change

-- HOW FAR A CALL MAY BE

-- an update has made no more steps than it has tries
abbrev pub AccessFits : Access → ℕ → Type 0
AccessFits (Point g spot (FetchUpdate tries by)) k = k ≤ tries
AccessFits _ k = Unit {0}

-- where a further step follows, there is room for its count
abbrev pub GoesOnWithin : Access → ℕ → Accessed → Type 0
GoesOnWithin a k (Again found) = (k + 1 < 2 ^ 64) × AccessFits a (k + 1)
GoesOnWithin a k _ = Unit {0}
