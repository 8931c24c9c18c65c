-- Which calls on cells and pointers change nothing that stands: placing, reading, leaving and loading.
use Rattle.std.proofs.Common.{◌≡◌, ℕ, ◌-◌, ◌==◌, ◌&&◌, Bool, true, false, Option, Some, None, is_some, inl, inr, refl}
use Rattle.std.proofs.Common.{ap, sym, subst, ◌∙◌, arith, if◌then◌else◌, slice_get}
use Rattle.std.proofs.lemmas.Bool.Decides.{nat_tests}
use Rattle.epoch_cells.specs.PlainCells.{if_has, has, filled, readable}
use Rattle.epoch_cells.specs.declared.cells.name.Name.{Name}
use Rattle.epoch_laws.specs.declared.heap.access.Access.{Access}
use Rattle.epoch_laws.specs.declared.heap.access.Access.TheVariants.{Place, Read, Leave, Point}
use Rattle.epoch_laws.specs.declared.heap.access.Change.TheVariants.{Load}
use Rattle.epoch_laws.specs.declared.heap.access.Ptr.{Ptr}
use Rattle.epoch_laws.specs.declared.heap.access.Spot.{Spot}
use Rattle.epoch_laws.specs.declared.heap.access.Spot.TheVariants.{Field}
use Rattle.epoch_laws.specs.declared.heap.heap.Content.{Content}
use Rattle.epoch_laws.specs.Heap.{Cell, Heap, nulls, cell_at, with_cell_at, field_of, field_in, pointer_at, Touched}
use Rattle.epoch_laws.specs.Heap.{Touches, ChangesAt, Places, raised, read_by, left_by, at_name}
use Rattle.epoch_laws.proofs.FoundCells.{found_cell}
use Rattle.epoch_laws.proofs.Names.{name_same}
use Rattle.epoch_laws.proofs.PointerSteps.{set_or_kept, fewer_written, fewer_kept, nulls_lead}
use Rattle.epoch_laws.proofs.TurnsGiven.{IsGiven, StaysGiven, place_gives}
use Rattle.epoch_structure_laws.proofs.Custody.{Calm, calm_same}
use Rattle.epoch_structure_laws.proofs.Cells.{same_name, cell_kept, cell_filled, back_written, content_found}

-- what is written keeps its turn and its value
same_in : (d c : Cell) (t f : ℕ) → d.turn ≡ c.turn → d.value ≡ c.value
    → field_in (if_has t (Some d)) f ≡ field_in (if_has t (Some c)) f
same_in d c t f turn value = at_test (has d t) (has c t) same
  where
    same : has d t ≡ has c t
    same = ap (λ (k : ℕ). (k == t) && is_some d.value) turn
        ∙ ap (λ (v : Option Content). (c.turn == t) && is_some v) value

    at_test : (b e : Bool) → b ≡ e → field_in (if b then Some d else None) f ≡ field_in (if e then Some c else None) f
    at_test true true h = ap (λ (v : Option Content). field_of v f) value
    at_test false false h = refl
    at_test true false h = absurd (cc (h))
    at_test false true h = absurd (cc (h))

-- a cell of the same turn and value is written: as for who reads it
calm_rewritten : (left : Name → Type 0) (h : Heap) (n : Name) (c d : Cell) → cell_at h n ≡ Some c → d.turn ≡ c.turn
    → d.value ≡ c.value → StaysGiven h (with_cell_at h n d) → Calm left h (with_cell_at h n d)
calm_rewritten left h n c d at turn value given = record {
  roots = refl;
  fields = refl;
  align = refl;
  kept = λ m x content l there held. elim (same_name m n) [
    | inr ne ↦ (x, cell_kept h n c d m x at ne there, held)
    | inl e ↦
        let same : c ≡ x = cc (at, subst (λ k. cell_at h k ≡ Some x) e there) in
        let holds : d.value ≡ Some content = value ∙ ap (λ (y : Cell). y.value) same ∙ held in (
          d,
          subst (λ k. cell_at (with_cell_at h n d) k ≡ Some d) (sym e) (cell_filled h n c d content at turn holds),
          holds,
        )
  ];
  back = λ m f ptr g there. back_written h n d m f ptr
      (λ t other e. ap (λ (o : Option Cell). field_in (if_has t o) f)
      (found_cell n.turn (slice_get h.cells (n.slot - 1)) c at).0 ∙ sym (same_in d c t f turn value) ∙ e) there;
  fewer = fewer_kept h n c d at (record {
    turn = turn;
    filled = ap (λ (v : Option Content). is_some v) value;
    fields = λ f. ap (λ (v : Option Content). field_of v f) value;
  });
  given = given;
}

-- a value with null fields is written into a cell that was free, under a name that was not given before
calm_placed : (left : Name → Type 0) (h : Heap) (v : ℕ) (n : Name) (c : Cell) → slice_get h.cells (n.slot - 1) ≡ Some c
    → c.value ≡ None → ¬ (IsGiven h n)
    → StaysGiven h (with_cell_at h n (filled n.turn 0 (record { value = v; fields = nulls 16 })))
    → Calm left h (with_cell_at h n (filled n.turn 0 (record { value = v; fields = nulls 16 })))
calm_placed left h v n c at free fresh given = record {
  roots = refl;
  fields = refl;
  align = refl;
  kept = λ m x content l there held. (
    x,
    elim (set_or_kept h.cells (n.slot - 1) new (m.slot - 1)) [
      | inl same ↦ ap (if_has m.turn) same ∙ there
      | inr wrote ↦
          let found = found_cell m.turn (slice_get h.cells (m.slot - 1)) x there in
          let both : Some x ≡ Some c = sym found.0 ∙ ap (λ (i : ℕ). slice_get h.cells i) wrote.0 ∙ at in
          let same : x ≡ c = cc in
          absurd (cc (ap (λ (y : Cell). y.value) same, held, free))
    ],
    held,
  );
  back = λ m f ptr g there. elim (set_or_kept h.cells (n.slot - 1) new (m.slot - 1)) [
    | inl same ↦ ap (λ (o : Option Cell). field_in (if_has m.turn o) f) (sym same) ∙ there
    | inr wrote ↦ absurd (by_turn m f ptr g
        (ap (λ (o : Option Cell). field_in (if_has m.turn o) f) (sym wrote.1) ∙ there) wrote.0)
  ];
  fewer = fewer_written h n new (λ t f x leads. absurd (nulls_lead n.turn v 16 t f x leads));
  given = given;
}
  where
    new : Cell
    new = filled n.turn 0 (record { value = v; fields = nulls 16 })

    by_turn : (m : Name) (f : ℕ) (ptr : Ptr) → IsGiven h m
        → field_in (if_has m.turn (Some (filled n.turn 0 (record { value = v; fields = nulls 16 })))) f ≡ Some ptr
        → m.slot - 1 ≡ n.slot - 1 → ⊥
    by_turn m f ptr g e slot = at_test (n.turn == m.turn) refl e
      where
        at_test : (b : Bool) → (n.turn == m.turn) ≡ b
            → field_in (if b && true then Some (filled n.turn 0 (record { value = v; fields = nulls 16 })) else None) f
            ≡ Some ptr → ⊥
        at_test true test there =
            let turn : m.turn ≡ n.turn = grind (arith, nat_tests) in
            fresh (subst (IsGiven h) (name_same m n (omega (arith, slot, m.some, n.some)) turn) g)
        at_test false test there = cc (there)

-- a call that changes no pointer and no value that stands
abbrev pub IsCalm : Access → Type 0
IsCalm (Place v) = Unit {0}
IsCalm (Read g ptr) = Unit {0}
IsCalm (Leave ptr) = Unit {0}
IsCalm (Point g spot Load) = Unit {0}
IsCalm _ = ⊥

module _ (left : Name → Type 0) (h : Heap) where
  abbrev Goal : Touched → Type 0
  Goal did = StaysGiven h did.heap → Calm left h did.heap

  same : (did : Touched) → did.heap ≡ h → Goal did
  same did e given = calm_same left h did.heap e

  -- a cell that is placed was free, so nothing that stood is another
  place : (v j : ℕ) (found : Ptr) (did : Touched) (o : Option Cell) → slice_get h.cells j ≡ o → Places v j found h o did
      → Goal did
  place v j found did None at e = subst Goal (sym e) (λ given. calm_same left h h refl)
  place v j found did (Some c) at (inr e) = subst Goal (sym e.1) (λ given. calm_same left h h refl)
  place v j found did (Some c) at (inl (free, n, slot, turn, e)) = subst Goal (sym e) (λ given.
      calm_placed left h v n c
      (let here : n.slot - 1 ≡ j = omega (arith, slot) in ap (λ (i : ℕ). slice_get h.cells i) here ∙ at)
      free.0 (place_gives v j found h (Some c) at _ (inl (free, n, slot, turn, refl)) n refl).fresh given)

  read : (n : Name) (did : Touched) (o : Option Cell) (p : Option Content) → cell_at h n ≡ o → did ≡ read_by h n o p
      → Goal did
  read n did None p at e = subst Goal (sym e) (λ given. calm_same left h h refl)
  read n did (Some c) None at e = subst Goal (sym e) (λ given. calm_same left h h refl)
  read n did (Some c) (Some content) at e =
      subst Goal (sym e) (λ given. calm_rewritten left h n c (raised c) at refl refl given)

  leave : (n : Name) (did : Touched) (o : Option Cell) → cell_at h n ≡ o → did ≡ left_by h n o → Goal did
  leave n did None at e = subst Goal (sym e) (λ given. calm_same left h h refl)
  leave n did (Some c) at e = subst Goal (sym e) (λ given.
      calm_rewritten left h n c (record c { readers = c.readers - 1 }) at refl refl given)

  named : (step : Name → Touched) (did : Touched) (o : Option Name)
      → ((n : Name) (t : Touched) → t ≡ step n → Goal t) → did ≡ at_name step h o → Goal did
  named step did None goal e = subst Goal (sym e) (λ given. calm_same left h h refl)
  named step did (Some n) goal e = goal n did e

  load : (j : ℕ) (found : Ptr) (spot : Spot) (did : Touched) (o : Option Ptr) → ChangesAt Load j found spot h o did
      → Goal did
  load j found spot did None e = subst Goal (sym e) (λ given. calm_same left h h refl)
  load j found spot did (Some ptr) e = subst Goal (sym e) (λ given. calm_same left h h refl)

  -- each step of such a call changes nothing that stands
  pub calm_call : (a : Access) (j : ℕ) (found : Ptr) (did : Touched) → IsCalm a → Touches a j found h did → Goal did
  calm_call (Place v) j found did ok e = place v j found did (slice_get h.cells j) refl e
  calm_call (Read g ptr) j found did ok e = named _ did ptr.name
      (λ n t is. read n t (cell_at h n) (readable (cell_at h n)) refl is) e
  calm_call (Leave ptr) j found did ok e = named _ did ptr.name (λ n t is. leave n t (cell_at h n) refl is) e
  calm_call (Point g spot Load) j found did ok e = load j found spot did (pointer_at h spot) e
  calm_call _ j found did ok e = absurd ok

-- a pointer in a cell that has not left stays
pub calm_pointer : (left : Name → Type 0) (h h' : Heap) → Calm left h h' → (n : Name) (f : ℕ) (ptr : Ptr) → ¬ (left n)
    → pointer_at h (Field n f) ≡ Some ptr → pointer_at h' (Field n f) ≡ Some ptr
calm_pointer left h h' calm n f ptr l e =
    let there = content_found h n f ptr e in
    let kept = calm.kept n there.0 there.1 l there.2 there.3 in
    ap (λ (o : Option Cell). field_in o f) kept.1 ∙ ap (λ (v : Option Content). field_of v f) (kept.2 ∙ sym there.3)
    ∙ sym (ap (λ (o : Option Cell). field_in o f) there.2) ∙ e
