-- What holds of the heap before a step on cells, and after each change that the step may make, holds after the step.
use Rattle.std.proofs.Common.{◌≡◌, ℕ, ◌-◌, Option, Some, None, inl, inr, refl, ap, sym, subst, ◌∙◌, arith, slice_get}
use Rattle.epoch_cells.specs.PlainCells.{filled, readable, unread}
use Rattle.epoch_cells.specs.declared.cells.name.Name.{Name}
use Rattle.epoch_laws.specs.declared.heap.access.Access.{Access}
use Rattle.epoch_laws.specs.declared.heap.access.Access.TheVariants.{Place, Read, Leave, Write, Take, Point}
use Rattle.epoch_laws.specs.declared.heap.access.Ptr.{Ptr}
use Rattle.epoch_laws.specs.declared.heap.access.Spot.{Spot}
use Rattle.epoch_laws.proofs.PointersWritten.{kept_or_written}
use Rattle.epoch_laws.specs.Heap.{Cell, Heap, cell_at, with_cell_at, with_pointer, nulls, Touched, read_by, left_by}
use Rattle.epoch_laws.specs.Heap.{written_by, taken_by, at_name, Places, Touches}

-- a step that null leaves alone
pub holds_named : (Holds : Heap → Type 0) (step : Name → Touched) (h : Heap) (name : Option Name) → Holds h
    → ((n : Name) → Holds (step n).heap) → Holds (at_name step h name).heap
holds_named Holds step h (Some n) before after = after n
holds_named Holds step h None before after = before

-- a placement fills a cell that stood empty, with the cell's turn, or changes nothing
pub holds_placed : (Holds : Heap → Type 0) (v k : ℕ) (found : Ptr) (h : Heap) (did : Touched) → Holds h
    → ((n : Name) (cell : Cell) → slice_get h.cells (n.slot - 1) ≡ Some cell → cell.value ≡ None
    → n.turn ≡ cell.turn → Holds (with_cell_at h n (filled n.turn 0 (record { value = v; fields = nulls 16 }))))
    → Places v k found h (slice_get h.cells k) did → Holds did.heap
holds_placed Holds v k found h did before after is = at_cell (slice_get h.cells k) refl is
  where
    at_cell : (cell : Option Cell) → slice_get h.cells k ≡ cell → Places v k found h cell did → Holds did.heap
    at_cell None e is = subst (λ (d : Touched). Holds d.heap) (sym is) before
    at_cell (Some cell) e (inr is) = subst (λ (d : Touched). Holds d.heap) (sym is.1) before
    at_cell (Some cell) e (inl (free, n, slot, turn, is)) =
        let same : n.slot - 1 ≡ k = omega (arith, slot) in
        let there : slice_get h.cells (n.slot - 1) ≡ Some cell = ap (λ (j : ℕ). slice_get h.cells j) same ∙ e in
        subst (λ (d : Touched). Holds d.heap) (sym is) (after n cell there free.0 turn)

-- what holds of the heap, and of what each change of it leaves
pub record HoldsEach (Holds : Heap → Type 0) (h : Heap) : Type 0 where
  pub before : Holds h
  pub placed : (v : ℕ) (n : Name) (cell : Cell) → slice_get h.cells (n.slot - 1) ≡ Some cell → cell.value ≡ None
      → n.turn ≡ cell.turn → Holds (with_cell_at h n (filled n.turn 0 (record { value = v; fields = nulls 16 })))
  pub read : (n : Name) → Holds (read_by h n (cell_at h n) (readable (cell_at h n))).heap
  pub left : (n : Name) → Holds (left_by h n (cell_at h n)).heap
  pub put : (v : ℕ) (n : Name) → Holds (written_by h n v (unread (cell_at h n))).heap
  pub taken : (n : Name) → Holds (taken_by h n (unread (cell_at h n))).heap
  pub pointed : (spot : Spot) (ptr : Ptr) → Holds (with_pointer h spot ptr)

-- what holds of the heap, and of what each change of it leaves, holds after any step on cells and pointers
pub holds_touched : (Holds : Heap → Type 0) (h : Heap) → HoldsEach Holds h
    → (a : Access) (k : ℕ) (found : Ptr) (did : Touched) → Touches a k found h did → Holds did.heap
holds_touched Holds h each (Place v) k found did e =
    holds_placed Holds v k found h did each.before (each.placed v) e
holds_touched Holds h each (Read g ptr) k found did e =
    subst (λ (d : Touched). Holds d.heap) (sym e) (holds_named Holds _ h ptr.name each.before each.read)
holds_touched Holds h each (Leave ptr) k found did e =
    subst (λ (d : Touched). Holds d.heap) (sym e) (holds_named Holds _ h ptr.name each.before each.left)
holds_touched Holds h each (Write g ptr v) k found did e =
    subst (λ (d : Touched). Holds d.heap) (sym e) (holds_named Holds _ h ptr.name each.before (each.put v))
holds_touched Holds h each (Take g ptr) k found did e =
    subst (λ (d : Touched). Holds d.heap) (sym e) (holds_named Holds _ h ptr.name each.before each.taken)
holds_touched Holds h each (Point g spot change) k found did e =
    elim (kept_or_written change k found spot h _ did e) [
      | inl same ↦ subst Holds (sym same) each.before
      | inr wrote ↦ subst Holds (sym wrote.1) (each.pointed spot wrote.0)
    ]
