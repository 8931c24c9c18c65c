-- What a change of one name's cell does to the others.
use Rattle.std.proofs.Common.{◌≡◌, ◌≢◌, ℕ, ◌-◌, ◌==◌, ◌&&◌, Bool, true, false, Option, Some, None, is_some, ◌⊎◌, inl}
use Rattle.std.proofs.Common.{inr, refl, ap, sym, ◌∙◌, arith, if◌then◌else◌, slice_get}
use Rattle.std.proofs.lemmas.Bool.Decides.{nat_tests}
use Rattle.std.proofs.lemmas.Option.{slice_get_within}
use Rattle.epoch_cells.proofs.PlainCellLists.{get_set_same}
use Rattle.epoch_cells.specs.PlainCells.{if_has, has, empty}
use Rattle.epoch_cells.specs.declared.cells.name.Name.{Name}
use Rattle.epoch_laws.specs.declared.heap.heap.Content.{Content}
use Rattle.std.specs.Prelude.{option_map}
use Rattle.epoch_laws.specs.declared.heap.access.Ptr.{Ptr}
use Rattle.epoch_laws.specs.declared.heap.access.Spot.{Spot}
use Rattle.epoch_laws.specs.declared.heap.access.Spot.TheVariants.{Root, Field}
use Rattle.epoch_laws.specs.Heap.{Cell, Heap, cell_at, with_cell_at, field_of, field_in, pointer_at, with_pointer}
use Rattle.epoch_laws.specs.Heap.{with_field, with_field_in}
use Rattle.epoch_laws.proofs.Names.{name_same}
use Rattle.epoch_laws.proofs.PointerSteps.{set_or_kept}
use Rattle.epoch_laws.proofs.FoundCells.{found_cell}
use Rattle.epoch_structure_laws.proofs.Custody.{same_number}

-- names are compared by slot and turn
pub same_name : (n m : Name) → (n ≡ m) ⊎ (n ≢ m)
same_name n m = elim (same_number n.slot m.slot) [
  | inr ne ↦ inr (λ e. ne (ap (λ (k : Name). k.slot) e))
  | inl slot ↦ elim (same_number n.turn m.turn) [
    | inr ne ↦ inr (λ e. ne (ap (λ (k : Name). k.turn) e))
    | inl turn ↦ inl (name_same n m slot turn)
  ]
]

-- of what is in, a change of another's cell changes nothing
pub cell_kept : (h : Heap) (m : Name) (x c : Cell) (n : Name) (y : Cell) → cell_at h m ≡ Some x → n ≢ m
    → cell_at h n ≡ Some y → cell_at (with_cell_at h m c) n ≡ Some y
cell_kept h m x c n y at ne e = elim (set_or_kept h.cells (m.slot - 1) c (n.slot - 1)) [
  | inl kept ↦ ap (if_has n.turn) kept ∙ e
  | inr new ↦ absurd (ne (one new.0))
]
  where
    one : n.slot - 1 ≡ m.slot - 1 → n ≡ m
    one slot =
        let mine = found_cell m.turn (slice_get h.cells (m.slot - 1)) x at in
        let other = found_cell n.turn (slice_get h.cells (n.slot - 1)) y e in
        let both : Some x ≡ Some y = sym mine.0 ∙ ap (λ (k : ℕ). slice_get h.cells k) (sym slot) ∙ other.0 in
        let same : x ≡ y = cc in
        name_same n m (omega (arith, slot, n.some, m.some))
        (sym other.1 ∙ ap (λ (d : Cell). d.turn) (sym same) ∙ mine.1)

has_own : (c : Cell) (t : ℕ) (v : Content) → c.turn ≡ t → c.value ≡ Some v → has c t ≡ true
has_own c t v turn value = tested c.turn t (is_some c.value) turn (ap (λ (o : Option Content). is_some o) value)
  where
    tested : (a b : ℕ) (f : Bool) → a ≡ b → f ≡ true → ((a == b) && f) ≡ true
    tested a b true e f = grind (arith, nat_tests)
    tested a b false e f = absurd (cc)

if_own : (c : Cell) (t : ℕ) → has c t ≡ true → if_has t (Some c) ≡ Some c
if_own c t e = by_test (has c t) e
  where
    by_test : (b : Bool) → b ≡ true → (if b then Some c else None) ≡ Some c
    by_test true e = refl
    by_test false e = absurd (cc)

-- a cell of a slot within
pub cell_there : (h : Heap) (m : Name) (x y : Cell) (v : Content) → slice_get h.cells (m.slot - 1) ≡ Some x
    → y.turn ≡ m.turn → y.value ≡ Some v → cell_at (with_cell_at h m y) m ≡ Some y
cell_there h m x y v at turn value =
    ap (if_has m.turn) (get_set_same h.cells (m.slot - 1) y (slice_get_within h.cells (m.slot - 1) x at))
    ∙ if_own y m.turn (has_own y m.turn v turn value)

-- a cell that is written again under its name is found there
pub cell_filled : (h : Heap) (m : Name) (x y : Cell) (v : Content) → cell_at h m ≡ Some x → y.turn ≡ x.turn
    → y.value ≡ Some v → cell_at (with_cell_at h m y) m ≡ Some y
cell_filled h m x y v at turn value =
    let mine = found_cell m.turn (slice_get h.cells (m.slot - 1)) x at in
    cell_there h m x y v mine.0 (turn ∙ mine.1) value

-- WHAT STOOD THERE BEFORE

-- a pointer in a cell after one is written
pub back_written : (h : Heap) (n : Name) (cell : Cell) (m : Name) (f : ℕ) (ptr : Ptr)
    → ((turn : ℕ) (other : Ptr) → field_in (if_has turn (Some cell)) f ≡ Some other
    → field_in (if_has turn (slice_get h.cells (n.slot - 1))) f ≡ Some other)
    → pointer_at (with_cell_at h n cell) (Field m f) ≡ Some ptr → pointer_at h (Field m f) ≡ Some ptr
back_written h n cell m f ptr was e = elim (set_or_kept h.cells (n.slot - 1) cell (m.slot - 1)) [
  | inl kept ↦ ap (λ (c : Option Cell). field_in (if_has m.turn c) f) (sym kept) ∙ e
  | inr new ↦ ap (λ (k : ℕ). field_in (if_has m.turn (slice_get h.cells k)) f) new.0
      ∙ was m.turn ptr (ap (λ (c : Option Cell). field_in (if_has m.turn c) f) (sym new.1) ∙ e)
]

-- no pointer is found in an empty cell, whatever turn is asked for
pub none_at : (next turn f : ℕ) (ptr : Ptr) → field_in (if_has turn (Some (empty next))) f ≢ Some ptr
none_at next turn f ptr e = at_test (next == turn) e
  where
    at_test : (b : Bool) → field_in (if b && false then Some (empty next) else None) f ≡ Some ptr → ⊥
    at_test true h = cc (h)
    at_test false h = cc (h)

-- A POINTER THAT IS WRITTEN

field_found : (o : Option Cell) (f : ℕ) (ptr : Ptr) → field_in o f ≡ Some ptr
    → (c : Cell) × (content : Content) × (o ≡ Some c) × (c.value ≡ Some content)
field_found None f ptr e = absurd (cc (e))
field_found (Some c) f ptr e = by_value c.value refl e
  where
    by_value : (v : Option Content) → c.value ≡ v → field_of v f ≡ Some ptr
        → (d : Cell) × (content : Content) × (Some c ≡ Some d) × (d.value ≡ Some content)
    by_value None is h = absurd (cc (h))
    by_value (Some content) is h = (c, content, refl, is)

-- where a pointer is found, a cell with a value stands
pub content_found : (h : Heap) (n : Name) (f : ℕ) (ptr : Ptr) → pointer_at h (Field n f) ≡ Some ptr
    → (c : Cell) × (content : Content) × (cell_at h n ≡ Some c) × (c.value ≡ Some content)
content_found h n f ptr e = field_found (cell_at h n) f ptr e

-- a pointer that is written where one stood is found there
pub written_there : (h : Heap) (spot : Spot) (ptr q : Ptr) → pointer_at h spot ≡ Some ptr
    → pointer_at (with_pointer h spot q) spot ≡ Some q
written_there h (Root i) ptr q e = get_set_same h.roots i q (slice_get_within h.roots i ptr e)
written_there h (Field n f) ptr q e =
    let there = content_found h n f ptr e in
    let after : Cell = record there.0 { value = option_map (λ content. with_field content f q) there.0.value } in
    let held : after.value ≡ Some (with_field there.1 f q) =
    ap (λ (o : Option Content). option_map (λ content. with_field content f q) o) there.3 in
    let entry : slice_get there.1.fields f ≡ Some ptr =
    sym (ap (λ (o : Option Content). field_of o f) there.3)
    ∙ sym (ap (λ (o : Option Cell). field_in o f) there.2) ∙ e in
    ap (λ (o : Option Cell). pointer_at (with_field_in h n f q o) (Field n f)) there.2
    ∙ ap (λ (o : Option Cell). field_in o f)
    (cell_filled h n there.0 after (with_field there.1 f q) there.2 refl held)
    ∙ ap (λ (o : Option Content). field_of o f) held
    ∙ get_set_same there.1.fields f q (slice_get_within there.1.fields f ptr entry)
