-- A step of a pointer call leaves the cells and pointers as they were, or writes a pointer at its spot.
use Rattle.std.proofs.Common.{◌≡◌, ℕ, zero, suc, Option, Some, None, ◌⊎◌, inl, inr, ap}
use Rattle.epoch_laws.specs.declared.heap.access.Accessed.{Accessed}
use Rattle.epoch_laws.specs.declared.heap.access.Change.{Change}
use Rattle.epoch_laws.specs.declared.heap.access.Change.TheVariants.{Load, Store, Swap, CompareExchange, FetchAnd}
use Rattle.epoch_laws.specs.declared.heap.access.Change.TheVariants.{FetchOr}
use Rattle.epoch_laws.specs.declared.heap.access.Change.TheVariants.{FetchXor, FetchUpdate}
use Rattle.epoch_laws.specs.declared.heap.access.Ptr.{Ptr}
use Rattle.epoch_laws.specs.declared.heap.access.Spot.{Spot}
use Rattle.epoch_laws.specs.Heap.{Heap, Touched, touched, with_pointer, Changes, ChangesAt}

-- the heap is as before, or this pointer was written in it at the spot
abbrev pub IsWritten : Spot → (old new : Heap) → Type 0
IsWritten spot old new = (new ≡ old) ⊎ ((ptr : Ptr) × (new ≡ with_pointer old spot ptr))

module _ (spot : Spot) (h : Heap) (did : Touched) where
  kept : (told : Accessed) → did ≡ touched told h → IsWritten spot h did.heap
  kept told e = inl (ap (λ (d : Touched). d.heap) e)

  writes : (told : Accessed) (ptr : Ptr) → did ≡ touched told (with_pointer h spot ptr) → IsWritten spot h did.heap
  writes told ptr e = inr (ptr, ap (λ (d : Touched). d.heap) e)

  changed : (change : Change) (k : ℕ) (found ptr : Ptr) → Changes change k found ptr spot h did
      → IsWritten spot h did.heap
  changed Load k found ptr e = kept _ e
  changed (Store other) k found ptr e = writes _ _ e
  changed (Swap other) k found ptr e = writes _ _ e
  changed (CompareExchange current other) k found ptr (inl e) = writes _ _ e.1
  changed (CompareExchange current other) k found ptr (inr e) = kept _ e.1
  changed (FetchAnd n) k found ptr e = writes _ _ e
  changed (FetchOr n) k found ptr e = writes _ _ e
  changed (FetchXor n) k found ptr e = writes _ _ e
  changed (FetchUpdate tries by) zero found ptr e = kept _ e
  changed (FetchUpdate tries by) (suc k) found ptr (inl e) = writes _ _ e.1
  changed (FetchUpdate tries by) (suc k) found ptr (inr e) = kept _ e.1

-- the step at its spot; a field of a cell that is gone has no pointer
pub kept_or_written : (change : Change) (k : ℕ) (found : Ptr) (spot : Spot) (h : Heap) (ptr : Option Ptr)
    (did : Touched)
    → ChangesAt change k found spot h ptr did → IsWritten spot h did.heap
kept_or_written change k found spot h None did e = kept spot h did _ e
kept_or_written change k found spot h (Some ptr) did e = changed spot h did change k found ptr e
