-- What a step on cells and pointers does to the pointers that stand.
use Rattle.std.proofs.Common.{◌≡◌, ◌≢◌, ℕ, zero, suc, ◌-◌, ◌==◌, ◌&&◌, Bool, true, false, List, ◌∷◌, Option, Some}
use Rattle.std.proofs.Common.{None, is_some, ◌⊎◌, inl, inr, refl, ap, sym, subst, ◌∙◌, arith, if◌then◌else◌, slice_get}
use Rattle.std.proofs.Common.{slice_set}
use Rattle.std.specs.Prelude.{option_map}
use Rattle.std.proofs.lemmas.Bool.Decides.{nat_tests}
use Rattle.epoch_cells.specs.PlainCells.{filled, empty, has, if_has}
use Rattle.epoch_cells.specs.declared.cells.name.Name.{Name}
use Rattle.epoch_laws.specs.declared.heap.access.Ptr.{Ptr}
use Rattle.epoch_laws.specs.declared.heap.access.Spot.{Spot}
use Rattle.epoch_laws.specs.declared.heap.access.Spot.TheVariants.{Root, Field}
use Rattle.epoch_laws.specs.declared.heap.heap.Content.{Content}
use Rattle.epoch_laws.specs.Heap.{Cell, Heap, null, nulls, cell_at, with_cell_at, field_of, field_in, pointer_at}
use Rattle.epoch_laws.specs.Heap.{with_field, with_field_in, with_pointer}
use Rattle.epoch_laws.specs.Reach.{Leads, IsReachable, from_root, from_field}
use Rattle.epoch_laws.proofs.FoundCells.{found_cell}
use Rattle.epoch_laws.proofs.Names.{name_same}

-- LISTS

-- what stands in a list after a write
pub set_or_kept : {A : Type 0} (xs : List A) (i : ℕ) (y : A) (j : ℕ)
    → (slice_get (slice_set xs i y) j ≡ slice_get xs j) ⊎ ((j ≡ i) × (slice_get (slice_set xs i y) j ≡ Some y))
set_or_kept (x ∷ xs) zero y zero = inr (refl, refl)
set_or_kept (x ∷ xs) (suc i) y (suc j) = elim (set_or_kept xs i y j) [
  | inl kept ↦ inl kept
  | inr new ↦ inr (ap suc new.0, new.1)
]
set_or_kept _ _ y _ = inl refl

-- a write to a list leaves every other place as it was
pub set_other : {A : Type 0} (xs : List A) (i : ℕ) (y : A) (j : ℕ)
    → j ≢ i → slice_get (slice_set xs i y) j ≡ slice_get xs j
set_other xs i y j ne = elim (set_or_kept xs i y j) [ inl kept ↦ kept | inr new ↦ absurd (ne new.0) ]

-- THE FIELDS OF CELLS

-- the fields of what stands in a cell lead there
abbrev pub FieldLeads : Option Cell → ℕ → Name → Type 0
FieldLeads cell f x = (ptr : Ptr) × (field_in cell f ≡ Some ptr) × (ptr.name ≡ Some x)

-- no pointer leads where it didn't before
abbrev pub Fewer : Heap → Heap → Type 0
Fewer old new = (spot : Spot) (x : Name) → Leads new spot x → Leads old spot x

-- where the heap stays the same, no pointer leads where it didn't before
pub fewer_same : (old new : Heap) → new ≡ old → Fewer old new
fewer_same old new e spot x leads = subst (λ h. Leads h spot x) e leads

-- the cell of a name is written, and its fields lead nowhere else
pub fewer_written : (h : Heap) (n : Name) (cell : Cell)
    → ((turn f : ℕ) (x : Name) → FieldLeads (if_has turn (Some cell)) f x
    → FieldLeads (if_has turn (slice_get h.cells (n.slot - 1))) f x)
    → Fewer h (with_cell_at h n cell)
fewer_written h n cell fewer (Root i) x leads = leads
fewer_written h n cell fewer (Field m f) x leads = elim (set_or_kept h.cells (n.slot - 1) cell (m.slot - 1)) [
  | inl kept ↦ subst (λ (c : Option Cell). FieldLeads (if_has m.turn c) f x) kept leads
  | inr new ↦ subst (λ (k : ℕ). FieldLeads (if_has m.turn (slice_get h.cells k)) f x) (sym new.0)
      (fewer m.turn f x (subst (λ (c : Option Cell). FieldLeads (if_has m.turn c) f x) new.1 leads))
]

-- an empty cell has no fields
pub none_lead : (next turn f : ℕ) (x : Name) → ¬ (FieldLeads (if_has turn (Some (empty next))) f x)
none_lead next turn f x (ptr, entry, name) = at_test (next == turn) entry
  where
    at_test : (b : Bool) → field_in (if b && false then Some (empty next) else None) f ≡ Some ptr → ⊥
    at_test true e = cc
    at_test false e = cc

nulls_name_none : (n f : ℕ) (ptr : Ptr) → slice_get (nulls n) f ≡ Some ptr → ptr.name ≡ None
nulls_name_none zero f ptr e = absurd (cc)
nulls_name_none (suc n) zero ptr e = let same : null ≡ ptr = cc in sym (ap (λ (other : Ptr). other.name) same)
nulls_name_none (suc n) (suc f) ptr e = nulls_name_none n f ptr e

-- nor do the fields of a new one lead anywhere
pub nulls_lead : (next v n turn f : ℕ) (x : Name)
    → ¬ (FieldLeads (if_has turn (Some (filled next 0 (record { value = v; fields = nulls n })))) f x)
nulls_lead next v n turn f x (ptr, entry, name) = at_test (next == turn) entry
  where
    content : Content
    content = record { value = v; fields = nulls n }

    at_test : (b : Bool)
        → field_in (if b && true then Some (filled next 0 (record { value = v; fields = nulls n })) else None) f
        ≡ Some ptr → ⊥
    at_test true e = cc (name, nulls_name_none n f ptr e)
    at_test false e = cc

-- two cells of one turn whose values have the same fields
pub record SameFields (one other : Cell) : Type 0 where
  pub turn : one.turn ≡ other.turn
  pub filled : is_some one.value ≡ is_some other.value
  pub fields : (f : ℕ) → field_of one.value f ≡ field_of other.value f

same_fields_in : (one other : Cell) → SameFields one other → (turn f : ℕ)
    → field_in (if_has turn (Some one)) f ≡ field_in (if_has turn (Some other)) f
same_fields_in one other same turn f = at_test (has one turn) (has other turn) has_same
  where
    has_same : has one turn ≡ has other turn
    has_same =
        ap (λ (t : ℕ). (t == turn) && is_some one.value) same.turn
        ∙ ap (λ (b : Bool). (other.turn == turn) && b) same.filled

    at_test : (b c : Bool) → b ≡ c
        → field_in (if b then Some one else None) f ≡ field_in (if c then Some other else None) f
    at_test true true e = same.fields f
    at_test false false e = refl
    at_test true false e = absurd (cc)
    at_test false true e = absurd (cc)

-- the cell of a name keeps its fields
pub fewer_kept : (h : Heap) (n : Name) (cell after : Cell) → cell_at h n ≡ Some cell → SameFields after cell
    → Fewer h (with_cell_at h n after)
fewer_kept h n cell after e same = fewer_written h n after (λ turn f x leads.
    let there = found_cell n.turn (slice_get h.cells (n.slot - 1)) cell e in
    subst (λ (c : Option Cell). FieldLeads (if_has turn c) f x) (sym there.0)
    (leads.0, sym (same_fields_in after cell same turn f) ∙ leads.1, leads.2))

-- ONE POINTER IS WRITTEN

-- Another field of the cell, of whatever name, stays.
field_kept : (n m : Name) (cell : Cell) (f g : ℕ) (ptr : Ptr) → cell.turn ≡ n.turn → m.slot - 1 ≡ n.slot - 1
    → Field m g ≢ Field n f
    → field_in
    (if_has m.turn (Some (record cell { value = option_map (λ content. with_field content f ptr) cell.value }))) g
    ≡ field_in (if_has m.turn (Some cell)) g
field_kept n m cell f g ptr turn slot ne = at_value (cell.turn == m.turn) refl cell.value
  where
    other_field : (cell.turn == m.turn) ≡ true → g ≢ f
    other_field test same =
        let at_turn : cell.turn ≡ m.turn = grind (arith, nat_tests) in
        let one : m ≡ n = name_same m n (omega (arith, m.some, n.some)) (sym at_turn ∙ turn) in
        ne (λ i. Field (one i) (same i))

    at_value : (b : Bool) → (cell.turn == m.turn) ≡ b → (v : Option Content)
        → field_in
        (if b && is_some (option_map (λ (content : Content). with_field content f ptr) v)
        then Some (record cell { value = option_map (λ (content : Content). with_field content f ptr) v })
        else None) g
        ≡ field_in (if b && is_some v then Some (record cell { value = v }) else None) g
    at_value true test None = refl
    at_value false test None = refl
    at_value true test (Some content) = set_other content.fields f ptr g (other_field test)
    at_value false test (Some content) = refl

-- what else stands stays
pub pointer_other : (h : Heap) (spot : Spot) (ptr : Ptr) (other : Spot) → other ≢ spot
    → pointer_at (with_pointer h spot ptr) other ≡ pointer_at h other
pointer_other h (Root i) ptr (Root j) ne = set_other h.roots i ptr j (λ e. ne (ap Root e))
pointer_other h (Root i) ptr (Field n f) ne = refl
pointer_other h (Field n f) ptr other ne = at_cell (cell_at h n) refl other ne
  where
    at_cell : (cell : Option Cell) → cell_at h n ≡ cell → (other : Spot) → other ≢ Field n f
        → pointer_at (with_field_in h n f ptr cell) other ≡ pointer_at h other
    at_cell None e other ne = refl
    at_cell (Some cell) e (Root j) ne = refl
    at_cell (Some cell) e (Field m g) ne = elim (set_or_kept h.cells (n.slot - 1) after (m.slot - 1)) [
      | inl kept ↦ ap (λ (c : Option Cell). field_in (if_has m.turn c) g) kept
      | inr new ↦ ap (λ (c : Option Cell). field_in (if_has m.turn c) g) new.1
          ∙ field_kept n m cell f g ptr there.1 new.0 ne
          ∙ ap (λ (c : Option Cell). field_in (if_has m.turn c) g)
          (sym (ap (λ (k : ℕ). slice_get h.cells k) new.0 ∙ there.0))
    ]
      where
        after : Cell
        after = record cell { value = option_map (λ content. with_field content f ptr) cell.value }

        there : (slice_get h.cells (n.slot - 1) ≡ Some cell) × (cell.turn ≡ n.turn)
        there = found_cell n.turn (slice_get h.cells (n.slot - 1)) cell e

-- REACH

-- where one field alone differs, what was in reach is so still, or the name that has the field is
pub still_reached : (old new : Heap) (y : Name) (f : ℕ)
    → ((spot : Spot) → spot ≢ Field y f → pointer_at new spot ≡ pointer_at old spot)
    → (x : Name) → IsReachable old x → ¬ (¬ (IsReachable new x ⊎ IsReachable new y))
still_reached old new y f others x (from_root i _ leads) never =
    never (inl (from_root i x (leads.0, others (Root i) (λ e. cc (e)) ∙ leads.1, leads.2)))
still_reached old new y f others x (from_field z k _ r leads) never =
    still_reached old new y f others z r (λ there. elim there [
      | inr holder ↦ never (inr holder)
      | inl kept ↦ apart (λ (e : Field z k ≡ Field y f). never (inr (subst (IsReachable new) (ap holder_of e) kept)))
          (λ (ne : Field z k ≢ Field y f). never
          (inl (from_field z k x kept (leads.0, others (Field z k) ne ∙ leads.1, leads.2))))
    ])
  where
    holder_of : Spot → Name
    holder_of (Field n g) = n
    holder_of (Root i) = y

    apart : {A : Type 0} → (¬ A) → (¬ (¬ A)) → ⊥
    apart no_a not_no_a = not_no_a no_a
