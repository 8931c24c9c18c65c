-- What stands under a name is its value for good: no step of a map shows another under a name that was given.
use Rattle.std.proofs.Common.{◌≡◌, ℕ, ◌+◌, ◌-◌, ◌<◌, ◌==◌, ◌&&◌, Bool, true, false, Option, Some, None, is_some, inl}
use Rattle.std.proofs.Common.{inr, refl, ap, sym, subst, ◌∙◌, arith, if◌then◌else◌, slice_get}
use Rattle.std.specs.Prelude.{option_map}
use Rattle.std.proofs.lemmas.Bool.Decides.{nat_tests}
use Rattle.epoch_cells.specs.PlainCells.{filled, empty, has, if_has, readable, removal_of}
use Rattle.epoch_cells.specs.declared.cells.Removal.TheVariants.{Destroyed, HeldElsewhere}
use Rattle.epoch_cells.specs.declared.cells.name.Name.{Name}
use Rattle.epoch_laws.specs.declared.heap.access.Access.{Access}
use Rattle.epoch_laws.specs.declared.heap.access.Access.TheVariants.{Place, Read, Leave, Write, Take, Point}
use Rattle.epoch_laws.specs.declared.heap.access.Ptr.{Ptr}
use Rattle.epoch_laws.specs.declared.heap.access.Spot.{Spot}
use Rattle.epoch_laws.specs.declared.heap.access.Spot.TheVariants.{Root, Field}
use Rattle.epoch_laws.specs.declared.heap.heap.Content.{Content}
use Rattle.epoch_laws.specs.Heap.{Cell, Heap, nulls, cell_at, with_cell_at, with_pointer, with_field, with_field_in}
use Rattle.epoch_laws.specs.Heap.{without_cell, heap_after_job, Touched, Touches, raised, read_by, left_by}
use Rattle.epoch_laws.proofs.FoundCells.{found_cell}
use Rattle.epoch_laws.proofs.HeldByTouches.{holds_named, holds_placed}
use Rattle.epoch_laws.proofs.PointersWritten.{kept_or_written}
use Rattle.epoch_laws.proofs.PointerSteps.{set_or_kept}
use Rattle.epoch_laws.proofs.TurnsGiven.{IsGiven, GivenAt, next_at, next_turn}
use Rattle.epoch_structure_laws.specs.Plans.{TakesNone}
use Rattle.epoch_structure_laws.specs.MapEntries.{EntryHoldsValue}

-- the cell has this value
abbrev ValueIn : Option Cell → ℕ → Type 0
ValueIn o v = (c : Cell) × (content : Content) × (o ≡ Some c) × (c.value ≡ Some content) × (content.value ≡ v)

-- under a name that was given there stands no value but the one before
abbrev pub NoOther : Heap → Heap → Type 0
NoOther h h' = (n : Name) → IsGiven h n → (v : ℕ) → EntryHoldsValue h' n v → EntryHoldsValue h n v

-- the same cells show no other value
pub same_values : (h h' : Heap) → h' ≡ h → NoOther h h'
same_values h h' e n given v there = subst (λ (k : Heap). EntryHoldsValue k n v) e there

-- ONE CELL IS WRITTEN

-- a cell of this turn that has a value is the turn's
own : (c : Cell) (t : ℕ) (content : Content) → c.turn ≡ t → c.value ≡ Some content → if_has t (Some c) ≡ Some c
own c t content turn value = by_test (has c t) (tested c.turn (is_some c.value) turn (ap (λ (o : Option Content).
    is_some o) value))
  where
    tested : (a : ℕ) (f : Bool) → a ≡ t → f ≡ true → ((a == t) && f) ≡ true
    tested a true e f = grind (arith, nat_tests)
    tested a false e f = absurd (cc (f))

    by_test : (b : Bool) → b ≡ true → (if b then Some c else None) ≡ Some c
    by_test true e = refl
    by_test false e = absurd (cc (e))

-- a cell of the same turn, whose value is that of the other, has it under each turn that the other has it under
same_valued : (d c : Cell) (t v : ℕ) → d.turn ≡ c.turn
    → ((content : Content) → d.value ≡ Some content
    → (was : Content) × (c.value ≡ Some was) × (was.value ≡ content.value))
    → ValueIn (if_has t (Some d)) v → ValueIn (if_has t (Some c)) v
same_valued d c t v turn back (x, content, e, value, is) =
    let found = found_cell t (Some d) x e in
    let same : d ≡ x = cc (found.0) in
    let was = back content (ap (λ (y : Cell). y.value) same ∙ value) in
    let turns : c.turn ≡ t = sym turn ∙ ap (λ (y : Cell). y.turn) same ∙ found.1 in
    (c, was.0, own c t was.0 turns was.1, was.1, was.2 ∙ is)

-- a value that is found where a cell was written was there before, if it was in that cell
back_valued : (h : Heap) (n : Name) (cell : Cell) (m : Name) (v : ℕ)
    → ((turn : ℕ) → ValueIn (if_has turn (Some cell)) v → ValueIn (if_has turn (slice_get h.cells (n.slot - 1))) v)
    → EntryHoldsValue (with_cell_at h n cell) m v → EntryHoldsValue h m v
back_valued h n cell m v was e = elim (set_or_kept h.cells (n.slot - 1) cell (m.slot - 1)) [
  | inl kept ↦ subst (λ (c : Option Cell). ValueIn (if_has m.turn c) v) kept e
  | inr new ↦ subst (λ (k : ℕ). ValueIn (if_has m.turn (slice_get h.cells k)) v) (sym new.0)
      (was m.turn (subst (λ (c : Option Cell). ValueIn (if_has m.turn c) v) new.1 e))
]

-- the cell of a name is written with its turn and its value
rewritten : (h : Heap) (n : Name) (c d : Cell) → cell_at h n ≡ Some c → d.turn ≡ c.turn
    → ((content : Content) → d.value ≡ Some content
    → (was : Content) × (c.value ≡ Some was) × (was.value ≡ content.value))
    → NoOther h (with_cell_at h n d)
rewritten h n c d at turn back m given v e = back_valued h n d m v (λ t there.
    subst (λ (o : Option Cell). ValueIn (if_has t o) v)
    (sym (found_cell n.turn (slice_get h.cells (n.slot - 1)) c at).0) (same_valued d c t v turn back there)) e

-- a cell is emptied
emptied : (h : Heap) (n : Name) (turn : ℕ) → NoOther h (with_cell_at h n (empty turn))
emptied h n turn m given v e = back_valued h n (empty turn) m v (λ t there. absurd (nothing t there)) e
  where
    nothing : (t : ℕ) → ¬ (ValueIn (if_has t (Some (empty turn))) v)
    nothing t (x, content, at, value, is) =
        let found = found_cell t (Some (empty turn)) x at in
        let same : empty turn ≡ x = cc (found.0) in
        let none : None ≡ Some content = ap (λ (y : Cell). y.value) same ∙ value in
        cc (none)

-- a cell that was free is filled, under a turn that was not given
placed : (h : Heap) (n : Name) (cell : Cell) (v : ℕ) → slice_get h.cells (n.slot - 1) ≡ Some cell
    → cell.value ≡ None → n.turn ≡ cell.turn
    → NoOther h (with_cell_at h n (filled n.turn 0 (record { value = v; fields = nulls 16 })))
placed h n cell v at free turn m given w e = elim (set_or_kept h.cells (n.slot - 1) new (m.slot - 1)) [
  | inl kept ↦ subst (λ (c : Option Cell). ValueIn (if_has m.turn c) w) kept e
  | inr wrote ↦ absurd (not_given wrote.0 (subst (λ (c : Option Cell). ValueIn (if_has m.turn c) w) wrote.1 e))
]
  where
    new : Cell
    new = filled n.turn 0 (record { value = v; fields = nulls 16 })

    not_given : m.slot - 1 ≡ n.slot - 1
        → ¬ (ValueIn (if_has m.turn (Some (filled n.turn 0 (record { value = v; fields = nulls 16 })))) w)
    not_given slot (x, content, there, value, is) =
        let found = found_cell m.turn (Some (filled n.turn 0 (record { value = v; fields = nulls 16 }))) x there in
        let same : filled n.turn 0 (record { value = v; fields = nulls 16 }) ≡ x = cc (found.0) in
        let turns : n.turn ≡ m.turn = ap (λ (y : Cell). y.turn) same ∙ found.1 in
        let lower : m.turn < next_turn cell = subst (λ (c : Option Cell). GivenAt m.turn c)
        (ap (λ (k : ℕ). slice_get h.cells k) slot ∙ at) given in
        let next : next_turn cell ≡ cell.turn = ap (next_at cell.turn) free in
        absurd (omega (arith, lower, next, turns, turn))

-- STEPS

-- the call of a job shows no other value
pub job_values : (h : Heap) (removes : Option Name) → NoOther h (heap_after_job h removes)
job_values h None = same_values h h refl
job_values h (Some n) = by_cell (cell_at h n)
  where
    by_test : (b : Bool) → NoOther h (without_cell h n (if b then Destroyed else HeldElsewhere))
    by_test true = emptied h n (n.turn + 1)
    by_test false = same_values h h refl

    by_cell : (o : Option Cell) → NoOther h (without_cell h n (removal_of o))
    by_cell None = same_values h h refl
    by_cell (Some c) = by_test (c.readers == 0)

module _ (h : Heap) where
  read : (n : Name) (o : Option Cell) (p : Option Content) → cell_at h n ≡ o → NoOther h (read_by h n o p).heap
  read n None p at = same_values h h refl
  read n (Some c) None at = same_values h h refl
  read n (Some c) (Some content) at = rewritten h n c (raised c) at refl (λ was e. (was, e, refl))

  leave : (n : Name) (o : Option Cell) → cell_at h n ≡ o → NoOther h (left_by h n o).heap
  leave n None at = same_values h h refl
  leave n (Some c) at =
      rewritten h n c (record c { readers = c.readers - 1 }) at refl (λ was e. (was, e, refl))

  -- a pointer is written into a field, beside the value
  point : (spot : Spot) (ptr : Ptr) → NoOther h (with_pointer h spot ptr)
  point (Root i) ptr = λ m given v e. e
  point (Field n f) ptr = by_cell (cell_at h n) refl
    where
      mapped : (o : Option Content) (content : Content)
          → option_map (λ was. with_field was f ptr) o ≡ Some content
          → (was : Content) × (o ≡ Some was) × (was.value ≡ content.value)
      mapped None content e = absurd (cc (e))
      mapped (Some was) content e =
          let same : with_field was f ptr ≡ content = cc (e) in
          (was, refl, ap (λ (y : Content). y.value) same)

      by_cell : (o : Option Cell) → cell_at h n ≡ o → NoOther h (with_field_in h n f ptr o)
      by_cell None at = same_values h h refl
      by_cell (Some c) at =
          rewritten h n c (record c { value = option_map (λ content. with_field content f ptr) c.value }) at refl
          (λ content e. mapped c.value content e)

  -- each step of a call on cells and pointers that takes no value out and writes none shows no other value
  pub touch_values : (a : Access) (k : ℕ) (found : Ptr) (did : Touched) → TakesNone a → Touches a k found h did
      → NoOther h did.heap
  touch_values (Place v) k found did fit e =
      holds_placed (NoOther h) v k found h did (same_values h h refl)
      (λ n cell at free turn. placed h n cell v at free turn) e
  touch_values (Read g ptr) k found did fit e = subst (λ (d : Touched). NoOther h d.heap) (sym e)
      (holds_named (NoOther h) _ h ptr.name (same_values h h refl)
      (λ n. read n (cell_at h n) (readable (cell_at h n)) refl))
  touch_values (Leave ptr) k found did fit e = subst (λ (d : Touched). NoOther h d.heap) (sym e)
      (holds_named (NoOther h) _ h ptr.name (same_values h h refl) (λ n. leave n (cell_at h n) refl))
  touch_values (Point g spot change) k found did fit e = elim (kept_or_written change k found spot h _ did e) [
    | inl same ↦ same_values h did.heap same
    | inr wrote ↦ subst (NoOther h) (sym wrote.1) (point spot wrote.0)
  ]
  touch_values (Write g ptr v) k found did fit e = absurd fit
  touch_values (Take g ptr) k found did fit e = absurd fit
