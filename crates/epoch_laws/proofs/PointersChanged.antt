-- A step on cells and pointers takes pointers away, or is a pointer step and changes one.
use Rattle.std.proofs.Common.{◌≡◌, ◌≢◌, ℕ, ◌+◌, ◌-◌, ◌==◌, Bool, true, false, Option, Some, None, is_some, ◌⊎◌, inl}
use Rattle.std.proofs.Common.{inr, refl, ap, sym, subst, ◌∙◌, if◌then◌else◌, slice_get}
use Rattle.epoch_cells.specs.PlainCells.{filled, empty, unread, readable, removal_of}
use Rattle.epoch_cells.specs.declared.cells.name.Name.{Name}
use Rattle.epoch_cells.specs.declared.cells.Removal.{Removal}
use Rattle.epoch_cells.specs.declared.cells.Removal.TheVariants.{Destroyed, HeldElsewhere, Gone}
use Rattle.epoch_laws.specs.declared.heap.access.Ptr.{Ptr}
use Rattle.epoch_laws.specs.declared.heap.access.Spot.{Spot}
use Rattle.epoch_laws.specs.declared.heap.access.Change.{Change}
use Rattle.epoch_laws.specs.declared.heap.access.Access.{Access}
use Rattle.epoch_laws.specs.declared.heap.access.Access.TheVariants.{Place, Read, Leave, Write, Take, Point}
use Rattle.epoch_laws.specs.declared.heap.heap.Content.{Content}
use Rattle.epoch_laws.proofs.PointersWritten.{kept_or_written}
use Rattle.epoch_laws.specs.Heap.{Cell, Heap, cell_at, field_of, pointer_at, without_cell, heap_after_job, Touched}
use Rattle.epoch_laws.specs.Heap.{raised, read_by, left_by, written_by, taken_by, Places, ChangesAt, Touches}
use Rattle.epoch_laws.proofs.FoundCells.{found_cell}
use Rattle.epoch_laws.proofs.HeldByTouches.{holds_named, holds_placed}
use Rattle.epoch_laws.proofs.PointerSteps.{Fewer, fewer_same, fewer_written, fewer_kept, none_lead, nulls_lead}
use Rattle.epoch_laws.proofs.PointerSteps.{pointer_other}

-- one pointer differs, and the call is on it
pub record Pointed (a : Access) (old new : Heap) : Type 0 where
  pub guard : Option ℕ
  pub spot : Spot
  pub change : Change
  pub call : a ≡ Point guard spot change
  pub others : (other : Spot) → other ≢ spot → pointer_at new other ≡ pointer_at old other

-- CELLS

fewer_without : (h : Heap) (n : Name) (removal : Removal) → Fewer h (without_cell h n removal)
fewer_without h n Destroyed =
    fewer_written h n (empty (n.turn + 1)) (λ turn f x leads. absurd (none_lead (n.turn + 1) turn f x leads))
fewer_without h n HeldElsewhere = fewer_same h h refl
fewer_without h n Gone = fewer_same h h refl

-- at the call of a job, no pointer comes to lead where it didn't before
pub fewer_job : (h : Heap) (removes : Option Name) → Fewer h (heap_after_job h removes)
fewer_job h None = fewer_same h h refl
fewer_job h (Some n) = fewer_without h n (removal_of (cell_at h n))

fewer_read : (h : Heap) (n : Name) (cell : Option Cell) (content : Option Content) → cell_at h n ≡ cell
    → Fewer h (read_by h n cell content).heap
fewer_read h n (Some cell) (Some content) e =
    fewer_kept h n cell (raised cell) e (record { turn = refl; filled = refl; fields = λ f. refl })
fewer_read h n (Some cell) None e = fewer_same h h refl
fewer_read h n None content e = fewer_same h h refl

fewer_left : (h : Heap) (n : Name) (cell : Option Cell) → cell_at h n ≡ cell → Fewer h (left_by h n cell).heap
fewer_left h n (Some cell) e =
    fewer_kept h n cell (record cell { readers = cell.readers - 1 }) e
    (record { turn = refl; filled = refl; fields = λ f. refl })
fewer_left h n None e = fewer_same h h refl

-- what nobody reads stands in a cell
pub unread_there : (cell : Option Cell) (content : Content) → unread cell ≡ Some content
    → (there : Cell) × (cell ≡ Some there) × (there.value ≡ Some content)
unread_there None content e = absurd (cc)
unread_there (Some cell) content e = at_test (cell.readers == 0) e
  where
    at_test : (b : Bool) → (if b then cell.value else None) ≡ Some content
        → (there : Cell) × (Some cell ≡ Some there) × (there.value ≡ Some content)
    at_test true h = (cell, refl, h)
    at_test false h = absurd (cc)

fewer_put : (h : Heap) (n : Name) (v : ℕ) (content : Option Content) → unread (cell_at h n) ≡ content
    → Fewer h (written_by h n v content).heap
fewer_put h n v None e = fewer_same h h refl
fewer_put h n v (Some content) e =
    let there = unread_there (cell_at h n) content e in
    let found = found_cell n.turn (slice_get h.cells (n.slot - 1)) there.0 there.1 in
    fewer_kept h n there.0 (filled n.turn 0 (record content { value = v })) there.1 (record {
      turn = sym found.1;
      filled = ap (λ (v : Option Content). is_some v) (sym there.2);
      fields = λ f. ap (λ (v : Option Content). field_of v f) (sym there.2);
    })

fewer_taken : (h : Heap) (n : Name) (content : Option Content) → Fewer h (taken_by h n content).heap
fewer_taken h n None = fewer_same h h refl
fewer_taken h n (Some content) =
    fewer_written h n (empty (n.turn + 1)) (λ turn f x leads. absurd (none_lead (n.turn + 1) turn f x leads))

fewer_placed : (v k : ℕ) (found : Ptr) (h : Heap) (did : Touched) → Places v k found h (slice_get h.cells k) did
    → Fewer h did.heap
fewer_placed v k found h did e =
    holds_placed (Fewer h) v k found h did (fewer_same h h refl) (λ n cell at none turn.
    fewer_written h n (filled n.turn 0 _) (λ t f x leads. absurd (nulls_lead n.turn v 16 t f x leads))) e

-- POINTERS

pointed : (g : Option ℕ) (change : Change) (k : ℕ) (found : Ptr) (spot : Spot) (h : Heap) (ptr : Option Ptr)
    (did : Touched) → ChangesAt change k found spot h ptr did
    → Fewer h did.heap ⊎ Pointed (Point g spot change) h did.heap
pointed g change k found spot h ptr did e = elim (kept_or_written change k found spot h ptr did e) [
  | inl same ↦ inl (fewer_same h did.heap same)
  | inr wrote ↦ inr (record {
    guard = g;
    spot = spot;
    change = change;
    call = refl;
    others = λ other ne. ap (λ (heap : Heap). pointer_at heap other) wrote.1
        ∙ pointer_other h spot wrote.0 other ne;
  })
]

-- EACH CALL

pub touches_pointers : (a : Access) (k : ℕ) (found : Ptr) (h : Heap) (did : Touched) → Touches a k found h did
    → Fewer h did.heap ⊎ Pointed a h did.heap
touches_pointers (Place v) k found h did e = inl (fewer_placed v k found h did e)
touches_pointers (Read g ptr) k found h did e = inl (subst (λ (d : Touched). Fewer h d.heap) (sym e)
    (holds_named (Fewer h) _ h ptr.name (fewer_same h h refl)
    (λ n. fewer_read h n (cell_at h n) (readable (cell_at h n)) refl)))
touches_pointers (Leave ptr) k found h did e = inl (subst (λ (d : Touched). Fewer h d.heap) (sym e)
    (holds_named (Fewer h) _ h ptr.name (fewer_same h h refl)
    (λ n. fewer_left h n (cell_at h n) refl)))
touches_pointers (Write g ptr v) k found h did e = inl (subst (λ (d : Touched). Fewer h d.heap) (sym e)
    (holds_named (Fewer h) _ h ptr.name (fewer_same h h refl)
    (λ n. fewer_put h n v (unread (cell_at h n)) refl)))
touches_pointers (Take g ptr) k found h did e = inl (subst (λ (d : Touched). Fewer h d.heap) (sym e)
    (holds_named (Fewer h) _ h ptr.name (fewer_same h h refl)
    (λ n. fewer_taken h n (unread (cell_at h n)))))
touches_pointers (Point g spot change) k found h did e =
    pointed g change k found spot h (pointer_at h spot) did e
