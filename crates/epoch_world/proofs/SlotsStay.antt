-- No step changes how many slots there are.
use Rattle.std.proofs.Common.{◌≡◌, ℕ, length, slice_get, Option, Some, None, inl, inr, refl, ap, ◌∙◌}
use Rattle.std.proofs.lemmas.List.{length-set}
use Rattle.epoch_cells.specs.PlainCells.{readable, removal_of, unread}
use Rattle.epoch_cells.specs.declared.cells.name.Name.{Name}
use Rattle.epoch_cells.specs.declared.cells.Removal.{Removal}
use Rattle.epoch_cells.specs.declared.cells.Removal.TheVariants.{Destroyed, HeldElsewhere, Gone}
use Rattle.epoch_laws.specs.declared.heap.heap.Content.{Content}
use Rattle.epoch_laws.specs.declared.heap.access.Access.{Access}
use Rattle.epoch_laws.specs.declared.heap.access.Access.TheVariants.{Place, Read, Leave, Write, Take, Point}
use Rattle.epoch_laws.specs.declared.heap.access.Change.{Change}
use Rattle.epoch_laws.specs.declared.heap.access.Ptr.{Ptr}
use Rattle.epoch_laws.specs.declared.heap.access.Spot.{Spot}
use Rattle.epoch_laws.specs.declared.heap.access.Spot.TheVariants.{Root, Field}
use Rattle.epoch_laws.proofs.PointersWritten.{kept_or_written}
use Rattle.epoch_laws.specs.Heap.{Cell, Heap, Touched, cell_at, pointer_at, with_pointer, with_field_in, without_cell}
use Rattle.epoch_laws.specs.Heap.{heap_after_job, at_name, read_by, left_by, written_by, taken_by, Places, ChangesAt}
use Rattle.epoch_laws.specs.Heap.{Touches}

without_slots : (h : Heap) (n : Name) (r : Removal) → length (without_cell h n r).cells ≡ length h.cells
without_slots h n Destroyed = length-set h.cells _ _
without_slots h n HeldElsewhere = refl
without_slots h n Gone = refl

-- the call of a job
pub job_slots : (h : Heap) (removes : Option Name) → length (heap_after_job h removes).cells ≡ length h.cells
job_slots h None = refl
job_slots h (Some n) = without_slots h n (removal_of (cell_at h n))

pointer_slots : (h : Heap) (spot : Spot) (ptr : Ptr) → length (with_pointer h spot ptr).cells ≡ length h.cells
pointer_slots h (Root i) ptr = refl
pointer_slots h (Field n f) ptr = at (cell_at h n)
  where
    at : (there : Option Cell) → length (with_field_in h n f ptr there).cells ≡ length h.cells
    at (Some cell) = length-set h.cells _ _
    at None = refl

along : (h : Heap) (did last : Touched)
    → did ≡ last → length last.heap.cells ≡ length h.cells → length did.heap.cells ≡ length h.cells
along h did last is same = ap (λ (d : Touched). length d.heap.cells) is ∙ same

named : (step : Name → Touched) (h : Heap) (o : Option Name)
    → ((x : Name) → length (step x).heap.cells ≡ length h.cells)
    → length (at_name step h o).heap.cells ≡ length h.cells
named step h (Some x) same = same x
named step h None same = refl

read_slots : (h : Heap) (n : Name) (cell : Option Cell) (content : Option Content)
    → length (read_by h n cell content).heap.cells ≡ length h.cells
read_slots h n (Some cell) (Some content) = length-set h.cells _ _
read_slots h n (Some cell) None = refl
read_slots h n None content = refl

left_slots : (h : Heap) (n : Name) (cell : Option Cell) → length (left_by h n cell).heap.cells ≡ length h.cells
left_slots h n (Some cell) = length-set h.cells _ _
left_slots h n None = refl

written_slots : (h : Heap) (n : Name) (v : ℕ) (content : Option Content)
    → length (written_by h n v content).heap.cells ≡ length h.cells
written_slots h n v (Some content) = length-set h.cells _ _
written_slots h n v None = refl

taken_slots : (h : Heap) (n : Name) (content : Option Content)
    → length (taken_by h n content).heap.cells ≡ length h.cells
taken_slots h n (Some content) = length-set h.cells _ _
taken_slots h n None = refl

place_slots : (v k : ℕ) (found : Ptr) (h : Heap) (there : Option Cell) (did : Touched)
    → Places v k found h there did → length did.heap.cells ≡ length h.cells
place_slots v k found h None did is = along h did _ is refl
place_slots v k found h (Some cell) did (inl (free, n, slot, turn, is)) = along h did _ is (length-set h.cells _ _)
place_slots v k found h (Some cell) did (inr is) = along h did _ is.1 refl

change_slots : (change : Change) (k : ℕ) (found : Ptr) (spot : Spot) (h : Heap) (ptr : Option Ptr) (did : Touched)
    → ChangesAt change k found spot h ptr did → length did.heap.cells ≡ length h.cells
change_slots change k found spot h ptr did e = elim (kept_or_written change k found spot h ptr did e) [
  | inl same ↦ ap (λ (heap : Heap). length heap.cells) same
  | inr wrote ↦ ap (λ (heap : Heap). length heap.cells) wrote.1 ∙ pointer_slots h spot wrote.0
]

-- one step of a call on cells and pointers
pub access_slots : (a : Access) (k : ℕ) (found : Ptr) (h : Heap) (did : Touched)
    → Touches a k found h did → length did.heap.cells ≡ length h.cells
access_slots (Place v) k found h did e = place_slots v k found h (slice_get h.cells k) did e
access_slots (Read g ptr) k found h did e =
    along h did _ e (named _ h ptr.name (λ x. read_slots h x (cell_at h x) (readable (cell_at h x))))
access_slots (Leave ptr) k found h did e = along h did _ e (named _ h ptr.name (λ x. left_slots h x (cell_at h x)))
access_slots (Write g ptr v) k found h did e =
    along h did _ e (named _ h ptr.name (λ x. written_slots h x v (unread (cell_at h x))))
access_slots (Take g ptr) k found h did e =
    along h did _ e (named _ h ptr.name (λ x. taken_slots h x (unread (cell_at h x))))
access_slots (Point g spot change) k found h did e = change_slots change k found spot h (pointer_at h spot) did e
