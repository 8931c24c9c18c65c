-- What a step of a call on cells and pointers tells where it finds what it is made on.
use Rattle.std.proofs.Common.{◌≡◌, ℕ, zero, suc, ◌≤◌, ◌==◌, Bool, true, false, List, Option, Some, None}
use Rattle.std.proofs.Common.{inl, inr, refl, ap, sym, subst, ◌∙◌, if◌then◌else◌, slice_get}
use Rattle.epoch_cells.specs.PlainCells.{filled, readable}
use Rattle.epoch_cells.specs.declared.cells.name.Name.{Name}
use Rattle.epoch_cells.specs.declared.fault.Fault.TheVariants.{CellsFull}
use Rattle.epoch_laws.specs.declared.heap.access.Access.{Access}
use Rattle.epoch_laws.specs.declared.heap.access.Access.TheVariants.{Place, Read, Leave, Point, Write, Take}
use Rattle.epoch_laws.specs.declared.heap.access.Accessed.{Accessed}
use Rattle.epoch_laws.specs.declared.heap.access.Accessed.TheVariants.{Again, Answers as Told, NoSlot}
use Rattle.epoch_laws.specs.declared.heap.access.AccessAnswer.{AccessAnswer}
use Rattle.epoch_laws.specs.declared.heap.access.AccessAnswer.TheVariants.{Name as NameAnswer, Pointer}
use Rattle.epoch_laws.specs.declared.heap.access.Change.{Change}
use Rattle.epoch_laws.specs.declared.heap.access.Change.TheVariants.{Load, Store, Swap, CompareExchange, FetchAnd}
use Rattle.epoch_laws.specs.declared.heap.access.Change.TheVariants.{FetchOr}
use Rattle.epoch_laws.specs.declared.heap.access.Change.TheVariants.{FetchXor, FetchUpdate}
use Rattle.epoch_laws.specs.declared.heap.access.Ptr.{Ptr}
use Rattle.epoch_laws.specs.declared.heap.access.Spot.{Spot}
use Rattle.epoch_laws.specs.declared.heap.heap.Content.{Content}
use Rattle.epoch_laws.specs.Heap.{Cell, Heap, nulls, cell_at, with_cell_at, pointer_at, read_by, left_by, at_name}
use Rattle.epoch_laws.specs.Heap.{Touched}
use Rattle.epoch_laws.specs.Heap.{Touches, Changes, ChangesAt, Places, is_stop}
use Rattle.epoch_laws.specs.Run.{readings_after}
use Rattle.epoch_structure_laws.specs.Plans.{TakesNone}
use Rattle.epoch_laws.proofs.HeapFits.{AllFit}
use Rattle.epoch_laws.proofs.PointersGiven.{WasGiven}
use Rattle.epoch_laws.proofs.Readable.{readable_is}
use Rattle.epoch_laws.proofs.TurnsGiven.{place_gives}
use Rattle.epoch_structure_laws.specs.Served.{AnswersAccess, RefusesAccess}
use Rattle.epoch_structure_laws.proofs.Duties.{Finds, NamedBy}

-- what a step tells: that the call goes on, an expected answer, or that no cell is free
abbrev pub ToldAs : Access → Accessed → Type 0
ToldAs a (Again found) = Unit {0}
ToldAs a (Told answer) = AnswersAccess a answer
ToldAs a NoSlot = RefusesAccess a CellsFull

module _ (g : Option ℕ) (spot : Spot) where
  -- one of two tellings
  either : (change : Change) (b : Bool) (x y : Accessed) → ToldAs (Point g spot change) x
      → ToldAs (Point g spot change) y → ToldAs (Point g spot change) (if b then x else y)
  either change true x y one other = one
  either change false x y one other = other

  along : (change : Change) (did : Touched) (t : Accessed) → did.told ≡ t → ToldAs (Point g spot change) t
      → ToldAs (Point g spot change) did.told
  along change did t e told = subst (ToldAs (Point g spot change)) (sym e) told

  -- a call on a pointer that stands there answers as its change does
  changes_told : (change : Change) (k : ℕ) (found ptr : Ptr) (h : Heap) (did : Touched)
      → Changes change k found ptr spot h did → ToldAs (Point g spot change) did.told
  changes_told Load k found ptr h did e = along Load did _ (ap (λ (d : Touched). d.told) e) tt
  changes_told (Store other) k found ptr h did e = along (Store other) did _ (ap (λ (d : Touched). d.told) e) tt
  changes_told (Swap other) k found ptr h did e = along (Swap other) did _ (ap (λ (d : Touched). d.told) e) tt
  changes_told (CompareExchange c o) k found ptr h did (inl e) =
      along (CompareExchange c o) did _ (ap (λ (d : Touched). d.told) e.1) tt
  changes_told (CompareExchange c o) k found ptr h did (inr e) =
      along (CompareExchange c o) did _ (ap (λ (d : Touched). d.told) e.1) tt
  changes_told (FetchAnd n) k found ptr h did e = along (FetchAnd n) did _ (ap (λ (d : Touched). d.told) e) tt
  changes_told (FetchOr n) k found ptr h did e = along (FetchOr n) did _ (ap (λ (d : Touched). d.told) e) tt
  changes_told (FetchXor n) k found ptr h did e = along (FetchXor n) did _ (ap (λ (d : Touched). d.told) e) tt
  changes_told (FetchUpdate tries by) zero found ptr h did e =
      along (FetchUpdate tries by) did _ (ap (λ (d : Touched). d.told) e)
      (either (FetchUpdate tries by) (tries == 0) _ _ tt (either (FetchUpdate tries by) (is_stop by) _ _ tt tt))
  changes_told (FetchUpdate tries by) (suc k) found ptr h did (inl e) =
      along (FetchUpdate tries by) did _ (ap (λ (d : Touched). d.told) e.1) tt
  changes_told (FetchUpdate tries by) (suc k) found ptr h did (inr e) =
      along (FetchUpdate tries by) did _ (ap (λ (d : Touched). d.told) e.1)
      (either (FetchUpdate tries by) (suc k == tries) _ _ tt tt)

-- a step of a call that finds what it is made on tells what is expected
pub touch_told : (a : Access) (k : ℕ) (found : Ptr) (h : Heap) (did : Touched) → TakesNone a → Finds h a
    → Touches a k found h did → ToldAs a did.told
touch_told (Place v) k found h did fit finds e = at_cell (slice_get h.cells k) e
  where
    at_cell : (o : Option Cell) → Places v k found h o did → ToldAs (Place v) did.told
    at_cell None e = subst (λ (d : Touched). ToldAs (Place v) d.told) (sym e) tt
    at_cell (Some c) (inl (free, n, slot, turn, e)) = subst (λ (d : Touched). ToldAs (Place v) d.told) (sym e) tt
    at_cell (Some c) (inr e) = subst (λ (d : Touched). ToldAs (Place v) d.told) (sym e.1) tt
touch_told (Read g ptr) k found h did fit (n, name, is) e =
    subst (λ (d : Touched). ToldAs (Read g ptr) d.told) (sym (e
    ∙ ap (at_name (λ m. read_by h m (cell_at h m) (readable (cell_at h m))) h) name
    ∙ ap (λ (o : Option Content). read_by h n (cell_at h n) o) (readable_is h n is)
    ∙ ap (λ (o : Option Cell). read_by h n o (Some is.content)) is.there)) tt
touch_told (Leave ptr) k found h did fit (n, name) e =
    subst (λ (d : Touched). ToldAs (Leave ptr) d.told)
    (sym (e ∙ ap (at_name (λ m. left_by h m (cell_at h m)) h) name)) (by_cell (cell_at h n))
  where
    by_cell : (o : Option Cell) → ToldAs (Leave ptr) (left_by h n o).told
    by_cell None = tt
    by_cell (Some c) = tt
touch_told (Point g spot change) k found h did fit (ptr, there) e =
    changes_told g spot change k found ptr h did
    (subst (λ (o : Option Ptr). ChangesAt change k found spot h o did) there e)
touch_told (Write g ptr v) k found h did fit finds e = absurd fit
touch_told (Take g ptr) k found h did fit finds e = absurd fit

-- a name that the answer tells of was given then
pub told_given : (a : Access) (k : ℕ) (found : Ptr) (h : Heap) (did : Touched) (answer : AccessAnswer) → AllFit h
    → Touches a k found h did → did.told ≡ Told answer → (n : Name) → NamedBy a answer n
    → ((spot : Spot) (ptr : Ptr) → pointer_at h spot ≡ Some ptr → ptr.name ≡ Some n → WasGiven did.heap n)
    → WasGiven did.heap n
told_given (Place v) k found h did (NameAnswer m) fits e told n same leads = at_cell (slice_get h.cells k) refl e
  where
    at_cell : (o : Option Cell) → slice_get h.cells k ≡ o → Places v k found h o did → WasGiven did.heap n
    at_cell None at is = absurd (cc (ap (λ (d : Touched). d.told) is, told))
    at_cell (Some c) at (inr is) = absurd (cc (ap (λ (d : Touched). d.told) is.1, told))
    at_cell (Some c) at (inl (free, x, slot, turn, is)) =
        let which : x ≡ n = cc (ap (λ (d : Touched). d.told) is, told, same) in
        subst (λ (d : Touched). WasGiven d.heap n) (sym is)
        (subst (λ (y : Name). WasGiven (with_cell_at h x (filled x.turn 0 (record { value = v; fields = nulls 16 }))) y)
        which (
          (place_gives v k found h (Some c) at _ (inl (free, x, slot, turn, refl)) x refl).given,
          subst (λ (t : ℕ). h.start_turn ≤ t) (sym turn) (fits k c at).turn,
        ))
told_given (Point g spot Load) k found h did (Pointer ptr) fits e told n name leads = at_spot (pointer_at h spot) refl e
  where
    at_spot : (o : Option Ptr) → pointer_at h spot ≡ o → ChangesAt Load k found spot h o did → WasGiven did.heap n
    at_spot None at is = absurd (cc (ap (λ (d : Touched). d.told) is, told))
    at_spot (Some q) at is =
        let same : q ≡ ptr = cc (ap (λ (d : Touched). d.told) is, told) in
        leads spot q at (ap (λ (p : Ptr). p.name) same ∙ name)
told_given _ k found h did answer fits e told n named leads = absurd named

-- a load that answers a pointer found it there
pub load_found : (g : Option ℕ) (spot : Spot) (k : ℕ) (found : Ptr) (h : Heap) (did : Touched) (ptr : Ptr)
    → Touches (Point g spot Load) k found h did → did.told ≡ Told (Pointer ptr) → pointer_at h spot ≡ Some ptr
load_found g spot k found h did ptr e told = at_spot (pointer_at h spot) refl e
  where
    at_spot : (o : Option Ptr) → pointer_at h spot ≡ o → ChangesAt Load k found spot h o did
        → pointer_at h spot ≡ Some ptr
    at_spot None at is = absurd (cc (ap (λ (d : Touched). d.told) is, told))
    at_spot (Some q) at is = at ∙ ap Some (let same : q ≡ ptr = cc (ap (λ (d : Touched). d.told) is, told) in same)

-- a step after which the call goes on reads and leaves nothing
pub again_reads : (a : Access) (k : ℕ) (found next : Ptr) (h : Heap) (did : Touched) (readings : List Name)
    → Touches a k found h did → did.told ≡ Again next → readings_after a (Again next) readings ≡ readings
again_reads (Leave ptr) k found next h did readings e told = absurd (by_name ptr.name e)
  where
    by_cell : (n : Name) (o : Option Cell) → did ≡ left_by h n o → ⊥
    by_cell n None is = cc (ap (λ (d : Touched). d.told) is, told)
    by_cell n (Some c) is = cc (ap (λ (d : Touched). d.told) is, told)

    by_name : (o : Option Name) → did ≡ at_name (λ n. left_by h n (cell_at h n)) h o → ⊥
    by_name None is = cc (ap (λ (d : Touched). d.told) is, told)
    by_name (Some n) is = by_cell n (cell_at h n) is
again_reads (Read g ptr) k found next h did readings e told = refl
again_reads _ k found next h did readings e told = refl
