-- Where nobody else acts, each step of a call on cells and pointers leaves fewer steps, or ends the call.
use Rattle.std.proofs.Common.{◌≡◌, ℕ, zero, suc, ◌<◌, ◌==◌, Bool, true, false, length, Option, Some, None, inl, inr}
use Rattle.std.proofs.Common.{refl, sym, subst, arith, if◌then◌else◌, slice_get}
use Rattle.std.proofs.lemmas.Option.{slice_get_within}
use Rattle.epoch_cells.specs.PlainCells.{unread, readable}
use Rattle.epoch_cells.specs.declared.cells.name.Name.{Name}
use Rattle.epoch_machine.specs.Machine.{Machine}
use Rattle.epoch_laws.specs.declared.heap.access.Access.{Access}
use Rattle.epoch_laws.specs.declared.heap.access.Access.TheVariants.{Place, Read, Leave, Write, Take, Point}
use Rattle.epoch_laws.specs.declared.heap.access.Accessed.{Accessed}
use Rattle.epoch_laws.specs.declared.heap.access.AccessAnswer.{AccessAnswer}
use Rattle.epoch_laws.specs.declared.heap.access.Change.{Change}
use Rattle.epoch_laws.specs.declared.heap.access.Change.TheVariants.{Load, Store, Swap, CompareExchange, FetchAnd}
use Rattle.epoch_laws.specs.declared.heap.access.Change.TheVariants.{FetchOr}
use Rattle.epoch_laws.specs.declared.heap.access.Change.TheVariants.{FetchXor, FetchUpdate}
use Rattle.epoch_laws.specs.declared.step.Deferral.{Deferral}
use Rattle.epoch_laws.specs.declared.step.Progress.TheVariants.{Accesses}
use Rattle.epoch_laws.specs.declared.heap.access.Ptr.{Ptr}
use Rattle.epoch_laws.specs.declared.heap.access.Spot.{Spot}
use Rattle.epoch_laws.specs.Calls.{ends_call}
use Rattle.epoch_laws.specs.declared.heap.heap.Content.{Content}
use Rattle.epoch_laws.specs.Heap.{Cell, Heap, cell_at, pointer_at, is_stop, Touched, touched, answers, read_by, left_by}
use Rattle.epoch_laws.specs.Heap.{written_by, taken_by, at_name, Places, Changes, ChangesAt, Touches}
use Rattle.epoch_laws.specs.Run.{progress_after, access_reply}
use Rattle.epoch_world.specs.Steps.{InStore, access_steps, steps_of, IsSteady}

module _ (m : Machine Deferral) (n : InStore) (slots : ℕ) where
  -- the step ends the call, or leaves fewer steps, and what an update found stands
  pub record Falls (a : Access) (k : ℕ) (did : Touched) : Type 0 where
    pub fewer : ends_call (access_reply did.told) ≡ false
        → steps_of slots (progress_after a k did.told) m n < access_steps slots a k
    pub steady : IsSteady did.heap (progress_after a k did.told)

  along : (a : Access) (k : ℕ) (did last : Touched) → did ≡ last → Falls a k last → Falls a k did
  along a k did last e falls = subst (λ (d : Touched). Falls a k d) (sym e) falls

  -- an answer ends what has a step left beside its end
  answered : (a : Access) (k : ℕ) (answer : AccessAnswer) (h : Heap)
      → 1 < access_steps slots a k → Falls a k (answers answer h)
  answered a k answer h more = record { fewer = λ on. more; steady = tt }

  read_falls : (g : Option ℕ) (ptr : Ptr) (k : ℕ) (h : Heap) (name : Name) (cell : Option Cell)
      (content : Option Content)
      → Falls (Read g ptr) k (read_by h name cell content)
  read_falls g ptr k h name (Some cell) (Some content) = answered (Read g ptr) k _ _ (omega arith)
  read_falls g ptr k h name (Some cell) None = answered (Read g ptr) k _ _ (omega arith)
  read_falls g ptr k h name None content = answered (Read g ptr) k _ _ (omega arith)

  left_falls : (ptr : Ptr) (k : ℕ) (h : Heap) (name : Name) (cell : Option Cell)
      → Falls (Leave ptr) k (left_by h name cell)
  left_falls ptr k h name (Some cell) = answered (Leave ptr) k _ _ (omega arith)
  left_falls ptr k h name None = answered (Leave ptr) k _ _ (omega arith)

  written_falls : (g : Option ℕ) (ptr : Ptr) (v k : ℕ) (h : Heap) (name : Name) (content : Option Content)
      → Falls (Write g ptr v) k (written_by h name v content)
  written_falls g ptr v k h name (Some content) = answered (Write g ptr v) k _ _ (omega arith)
  written_falls g ptr v k h name None = answered (Write g ptr v) k _ _ (omega arith)

  taken_falls : (g : Option ℕ) (ptr : Ptr) (k : ℕ) (h : Heap) (name : Name) (content : Option Content)
      → Falls (Take g ptr) k (taken_by h name content)
  taken_falls g ptr k h name (Some content) = answered (Take g ptr) k _ _ (omega arith)
  taken_falls g ptr k h name None = answered (Take g ptr) k _ _ (omega arith)

  named_falls : (a : Access) (k : ℕ) (step : Name → Touched) (h : Heap) (name : Option Name)
      → 1 < access_steps slots a k
      → ((x : Name) → Falls a k (step x)) → Falls a k (at_name step h name)
  named_falls a k step h (Some x) more falls = falls x
  named_falls a k step h None more falls = answered a k _ _ more

  place_falls : (v k : ℕ) (found : Ptr) (h : Heap) (cell : Option Cell)
      → slice_get h.cells k ≡ cell → length h.cells ≡ slots
      → (did : Touched) → Places v k found h cell did → Falls (Place v) k did
  place_falls v k found h None e count did is =
      along (Place v) k did _ is (record { fewer = λ on. absurd (cc (on)); steady = tt })
  place_falls v k found h (Some cell) e count did (inl (free, x, slot, turn, is)) =
      along (Place v) k did _ is (answered (Place v) k _ _ (omega (arith, count, slice_get_within h.cells k cell e)))
  place_falls v k found h (Some cell) e count did (inr is) = along (Place v) k did _ is.1
      (record { fewer = λ on. omega (arith, count, slice_get_within h.cells k cell e); steady = tt })

  -- by a test
  either : (a : Access) (k : ℕ) (h : Heap) (b : Bool) (one other : Accessed)
      → Falls a k (touched one h) → Falls a k (touched other h)
      → Falls a k (touched (if b then one else other) h)
  either a k h true one other first second = first
  either a k h false one other first second = second

  change_falls : (g : Option ℕ) (change : Change) (k : ℕ) (found ptr : Ptr) (spot : Spot) (h : Heap)
      → pointer_at h spot ≡ Some ptr → IsSteady h (Accesses (Point g spot change) k found)
      → (did : Touched) → Changes change k found ptr spot h did → Falls (Point g spot change) k did
  change_falls g Load k found ptr spot h there steady did e =
      along _ k did _ e (answered (Point g spot Load) k _ _ (omega arith))
  change_falls g (Store q) k found ptr spot h there steady did e =
      along _ k did _ e (answered (Point g spot (Store q)) k _ _ (omega arith))
  change_falls g (Swap q) k found ptr spot h there steady did e =
      along _ k did _ e (answered (Point g spot (Swap q)) k _ _ (omega arith))
  change_falls g (CompareExchange c q) k found ptr spot h there steady did (inl e) =
      along _ k did _ e.1 (answered (Point g spot (CompareExchange c q)) k _ _ (omega arith))
  change_falls g (CompareExchange c q) k found ptr spot h there steady did (inr e) =
      along _ k did _ e.1 (answered (Point g spot (CompareExchange c q)) k _ _ (omega arith))
  change_falls g (FetchAnd x) k found ptr spot h there steady did e =
      along _ k did _ e (answered (Point g spot (FetchAnd x)) k _ _ (omega arith))
  change_falls g (FetchOr x) k found ptr spot h there steady did e =
      along _ k did _ e (answered (Point g spot (FetchOr x)) k _ _ (omega arith))
  change_falls g (FetchXor x) k found ptr spot h there steady did e =
      along _ k did _ e (answered (Point g spot (FetchXor x)) k _ _ (omega arith))
  change_falls g (FetchUpdate tries by) zero found ptr spot h there steady did e = along _ zero did _ e
      (either (Point g spot (FetchUpdate tries by)) zero h (tries == 0) _ _ (answered _ zero _ _ (omega arith))
      (either (Point g spot (FetchUpdate tries by)) zero h (is_stop by) _ _
      (answered _ zero _ _ (omega arith)) (record {
        fewer = λ on. omega arith;
        steady = λ other at. let same : other ≡ ptr = cc (at, there) in same;
      })))
  change_falls g (FetchUpdate tries by) (suc k) found ptr spot h there steady did (inl e) =
      along _ (suc k) did _ e.1 (answered (Point g spot (FetchUpdate tries by)) (suc k) _ _ (omega arith))
  change_falls g (FetchUpdate tries by) (suc k) found ptr spot h there steady did (inr e) =
      absurd (e.0 (steady ptr there))

  change_at_falls : (g : Option ℕ) (change : Change) (k : ℕ) (found : Ptr) (spot : Spot) (h : Heap) (ptr : Option Ptr)
      → pointer_at h spot ≡ ptr → 1 < access_steps slots (Point g spot change) k
      → IsSteady h (Accesses (Point g spot change) k found)
      → (did : Touched) → ChangesAt change k found spot h ptr did → Falls (Point g spot change) k did
  change_at_falls g change k found spot h None there more steady did e =
      along _ k did _ e (answered (Point g spot change) k _ _ more)
  change_at_falls g change k found spot h (Some ptr) there more steady did e =
      change_falls g change k found ptr spot h there steady did e

  points_more : (g : Option ℕ) (spot : Spot) (change : Change) (k : ℕ) → 1 < access_steps slots (Point g spot change) k
  points_more g spot (FetchUpdate tries by) zero = omega arith
  points_more g spot (FetchUpdate tries by) (suc k) = omega arith
  points_more g spot _ k = omega arith

  pub access_falls : (a : Access) (k : ℕ) (found : Ptr) (h : Heap)
      → length h.cells ≡ slots → IsSteady h (Accesses a k found)
      → (did : Touched) → Touches a k found h did → Falls a k did
  access_falls (Place v) k found h count steady did e = place_falls v k found h (slice_get h.cells k) refl count did e
  access_falls (Read g ptr) k found h count steady did e = along _ k did _ e
      (named_falls (Read g ptr) k _ h ptr.name (omega arith)
      (λ x. read_falls g ptr k h x (cell_at h x) (readable (cell_at h x))))
  access_falls (Leave ptr) k found h count steady did e = along _ k did _ e
      (named_falls (Leave ptr) k _ h ptr.name (omega arith) (λ x. left_falls ptr k h x (cell_at h x)))
  access_falls (Write g ptr v) k found h count steady did e = along _ k did _ e
      (named_falls (Write g ptr v) k _ h ptr.name (omega arith)
      (λ x. written_falls g ptr v k h x (unread (cell_at h x))))
  access_falls (Take g ptr) k found h count steady did e = along _ k did _ e
      (named_falls (Take g ptr) k _ h ptr.name (omega arith) (λ x. taken_falls g ptr k h x (unread (cell_at h x))))
  access_falls (Point g spot change) k found h count steady did e =
      change_at_falls g change k found spot h (pointer_at h spot) refl (points_more g spot change k) steady did e
