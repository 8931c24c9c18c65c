-- What a step of a call on cells and pointers tells its call: an answer of its own kind, or that no slot is left.
use Rattle.std.proofs.Common.{◌≡◌, ℕ, zero, suc, Option, Some, None, is_some, inl, inr, refl, ap, sym, subst, Bool}
use Rattle.std.proofs.Common.{true, false, if◌then◌else◌, ◌==◌, slice_get}
use Rattle.epoch_cells.specs.PlainCells.{readable, unread}
use Rattle.epoch_cells.specs.declared.cells.name.Name.{Name}
use Rattle.epoch_laws.specs.declared.heap.access.Access.{Access}
use Rattle.epoch_laws.specs.declared.heap.access.Access.TheVariants.{Place, Read, Leave, Write, Take, Point}
use Rattle.epoch_laws.specs.declared.heap.access.Accessed.{Accessed}
use Rattle.epoch_laws.specs.declared.heap.access.Accessed.TheVariants.{Again, Answers, NoSlot}
use Rattle.epoch_laws.specs.declared.step.Call.TheVariants.{Access as AccessCall}
use Rattle.epoch_laws.specs.declared.heap.access.AccessAnswer.TheVariants.{Absent}
use Rattle.epoch_laws.specs.declared.heap.access.Change.{Change}
use Rattle.epoch_laws.specs.declared.heap.access.Change.TheVariants.{Load, Store, Swap, CompareExchange, FetchAnd}
use Rattle.epoch_laws.specs.declared.heap.access.Change.TheVariants.{FetchOr}
use Rattle.epoch_laws.specs.declared.heap.access.Change.TheVariants.{FetchXor, FetchUpdate}
use Rattle.epoch_laws.specs.declared.heap.access.Ptr.{Ptr}
use Rattle.epoch_laws.specs.declared.heap.access.Spot.{Spot}
use Rattle.epoch_laws.specs.declared.heap.heap.Content.{Content}
use Rattle.epoch_laws.specs.Heap.{Cell, Heap, cell_at, pointer_at, Touched, read_by, left_by, written_by, taken_by}
use Rattle.epoch_laws.specs.Heap.{at_name, is_stop, Changes, ChangesAt, Places, Touches}
use Rattle.epoch_laws.specs.Lawful.{Told, AccessAnswers, HasToldRefused}

-- a leave names a cell
abbrev pub Named : Access → Type 0
Named (Leave ptr) = is_some ptr.name ≡ true
Named _ = Unit {0}

-- only a place is told that no slot is left
abbrev pub IsTold : Told → Access → Accessed → Type 0
IsTold t a NoSlot = HasToldRefused (Some (AccessCall a)) t
IsTold t a (Answers answer) = Named a → AccessAnswers a answer
IsTold t a (Again found) = Unit {0}

module _ (t : Told) (a : Access) where
  along : (did last : Touched) → did ≡ last → IsTold t a last.told → IsTold t a did.told
  along did last e told = subst (λ (d : Touched). IsTold t a d.told) (sym e) told

  either : (b : Bool) (one other : Accessed) → IsTold t a one → IsTold t a other → IsTold t a (if b then one else other)
  either true one other h k = h
  either false one other h k = k

  told_at_name : (step : Name → Touched) (h : Heap) (name : Option Name) → ((n : Name) → IsTold t a (step n).told)
      → (name ≡ None → Named a → AccessAnswers a Absent) → IsTold t a (at_name step h name).told
  told_at_name step h (Some n) told absent = told n
  told_at_name step h None told absent = absent refl

told_placed : (t : Told) (v k : ℕ) (found : Ptr) (h : Heap) (cell : Option Cell) (did : Touched)
    → Places v k found h cell did → IsTold t (Place v) did.told
told_placed t v k found h None did e = along t (Place v) did _ e tt
told_placed t v k found h (Some cell) did (inl (free, n, slot, turn, e)) = along t (Place v) did _ e (λ names. tt)
told_placed t v k found h (Some cell) did (inr e) = along t (Place v) did _ e.1 tt

told_read : (t : Told) (g : Option ℕ) (ptr : Ptr) (h : Heap) (n : Name) (cell : Option Cell) (content : Option Content)
    → IsTold t (Read g ptr) (read_by h n cell content).told
told_read t g ptr h n (Some cell) (Some content) = λ names. tt
told_read t g ptr h n (Some cell) None = λ names. tt
told_read t g ptr h n None content = λ names. tt

told_left : (t : Told) (ptr : Ptr) (h : Heap) (n : Name) (cell : Option Cell)
    → IsTold t (Leave ptr) (left_by h n cell).told
told_left t ptr h n (Some cell) = λ names. tt
told_left t ptr h n None = λ names. tt

told_written : (t : Told) (g : Option ℕ) (ptr : Ptr) (h : Heap) (n : Name) (v : ℕ) (content : Option Content)
    → IsTold t (Write g ptr v) (written_by h n v content).told
told_written t g ptr h n v (Some content) = λ names. tt
told_written t g ptr h n v None = λ names. tt

told_taken : (t : Told) (g : Option ℕ) (ptr : Ptr) (h : Heap) (n : Name) (content : Option Content)
    → IsTold t (Take g ptr) (taken_by h n content).told
told_taken t g ptr h n (Some content) = λ names. tt
told_taken t g ptr h n None = λ names. tt

module _ (t : Told) (g : Option ℕ) (spot : Spot) where
  told_change : (change : Change) (k : ℕ) (found ptr : Ptr) (h : Heap) (did : Touched)
      → Changes change k found ptr spot h did → IsTold t (Point g spot change) did.told
  told_change Load k found ptr h did e = along t (Point g spot Load) did _ e (λ names. tt)
  told_change (Store other) k found ptr h did e = along t (Point g spot (Store other)) did _ e (λ names. tt)
  told_change (Swap other) k found ptr h did e = along t (Point g spot (Swap other)) did _ e (λ names. tt)
  told_change (CompareExchange current other) k found ptr h did (inl e) =
      along t (Point g spot (CompareExchange current other)) did _ e.1 (λ names. tt)
  told_change (CompareExchange current other) k found ptr h did (inr e) =
      along t (Point g spot (CompareExchange current other)) did _ e.1 (λ names. tt)
  told_change (FetchAnd n) k found ptr h did e = along t (Point g spot (FetchAnd n)) did _ e (λ names. tt)
  told_change (FetchOr n) k found ptr h did e = along t (Point g spot (FetchOr n)) did _ e (λ names. tt)
  told_change (FetchXor n) k found ptr h did e = along t (Point g spot (FetchXor n)) did _ e (λ names. tt)
  told_change (FetchUpdate tries by) zero found ptr h did e = along t (Point g spot (FetchUpdate tries by)) did _ e
      (either t (Point g spot (FetchUpdate tries by)) (tries == 0) _ _ (λ names. tt)
      (either t (Point g spot (FetchUpdate tries by)) (is_stop by) _ _ (λ names. tt) tt))
  told_change (FetchUpdate tries by) (suc k) found ptr h did (inl e) =
      along t (Point g spot (FetchUpdate tries by)) did _ e.1 (λ names. tt)
  told_change (FetchUpdate tries by) (suc k) found ptr h did (inr e) =
      along t (Point g spot (FetchUpdate tries by)) did _ e.1
      (either t (Point g spot (FetchUpdate tries by)) (suc k == tries) _ _ (λ names. tt) tt)

  absent : (change : Change) → AccessAnswers (Point g spot change) Absent
  absent Load = tt
  absent (Store other) = tt
  absent (Swap other) = tt
  absent (CompareExchange current other) = tt
  absent (FetchAnd n) = tt
  absent (FetchOr n) = tt
  absent (FetchXor n) = tt
  absent (FetchUpdate tries by) = tt

  told_change_at : (change : Change) (k : ℕ) (found : Ptr) (h : Heap) (ptr : Option Ptr) (did : Touched)
      → ChangesAt change k found spot h ptr did → IsTold t (Point g spot change) did.told
  told_change_at change k found h (Some ptr) did e = told_change change k found ptr h did e
  told_change_at change k found h None did e = along t (Point g spot change) did _ e (λ names. absent change)

-- each step of a call on cells and pointers is told only what such a call may be told
pub told_by_touch : (t : Told) (a : Access) (k : ℕ) (found : Ptr) (h : Heap) (did : Touched) → Touches a k found h did
    → IsTold t a did.told
told_by_touch t (Place v) k found h did e = told_placed t v k found h (slice_get h.cells k) did e
told_by_touch t (Read g ptr) k found h did e = along t (Read g ptr) did _ e
    (told_at_name t (Read g ptr) _ h ptr.name (λ n. told_read t g ptr h n (cell_at h n) (readable (cell_at h n)))
    (λ none names. tt))
told_by_touch t (Leave ptr) k found h did e = along t (Leave ptr) did _ e
    (told_at_name t (Leave ptr) _ h ptr.name (λ n. told_left t ptr h n (cell_at h n))
    (λ none named. absurd (cc (named, ap is_some none))))
told_by_touch t (Write g ptr v) k found h did e = along t (Write g ptr v) did _ e
    (told_at_name t (Write g ptr v) _ h ptr.name (λ n. told_written t g ptr h n v (unread (cell_at h n)))
    (λ none names. tt))
told_by_touch t (Take g ptr) k found h did e = along t (Take g ptr) did _ e
    (told_at_name t (Take g ptr) _ h ptr.name (λ n. told_taken t g ptr h n (unread (cell_at h n))) (λ none names. tt))
told_by_touch t (Point g spot change) k found h did e =
    told_change_at t g spot change k found h (pointer_at h spot) did e
