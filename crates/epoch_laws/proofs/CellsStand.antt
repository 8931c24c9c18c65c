-- What a step on cells and pointers does to the names whose cells stand.
use Rattle.std.proofs.Common.{◌≡◌, ℕ, ◌+◌, ◌-◌, ◌<◌, ◌==◌, ◌&&◌, Bool, true, false, Option, Some, None, is_some, ◌⊎◌}
use Rattle.std.proofs.Common.{inl, inr, refl, ap, sym, subst, ◌∙◌, arith, if◌then◌else◌, slice_get, slice_set}
use Rattle.std.specs.Prelude.{option_map}
use Rattle.std.proofs.lemmas.Bool.Decides.{nat_tests}
use Rattle.std.proofs.lemmas.Option.{slice_get_within}
use Rattle.epoch_cells.proofs.PlainCellLists.{get_set_same}
use Rattle.epoch_cells.specs.PlainCells.{filled, empty, has, if_has, unread, readable, removal_of}
use Rattle.epoch_cells.specs.declared.cells.name.Name.{Name}
use Rattle.epoch_cells.specs.declared.cells.Removal.TheVariants.{Destroyed as RemovalDestroyed}
use Rattle.epoch_cells.specs.declared.cells.Removal.TheVariants.{HeldElsewhere as RemovalHeld}
use Rattle.epoch_bags.specs.declared.job.Called.TheVariants.{Destroyed}
use Rattle.epoch_laws.specs.declared.heap.access.Access.{Access}
use Rattle.epoch_laws.specs.declared.heap.access.Access.TheVariants.{Place, Read, Leave, Write, Take, Point}
use Rattle.epoch_laws.specs.declared.heap.access.Accessed.{Accessed}
use Rattle.epoch_laws.specs.declared.heap.access.Accessed.TheVariants.{Answers}
use Rattle.epoch_laws.specs.declared.heap.access.AccessAnswer.TheVariants.{Value, Name as NameAnswer}
use Rattle.epoch_laws.specs.declared.step.Progress.TheVariants.{Ends}
use Rattle.epoch_laws.specs.declared.step.Reply.TheVariants.{Done}
use Rattle.epoch_laws.specs.Run.{progress_after}
use Rattle.epoch_laws.specs.declared.heap.access.Change.{Change}
use Rattle.epoch_laws.specs.declared.heap.access.Ptr.{Ptr}
use Rattle.epoch_laws.specs.declared.heap.access.Spot.{Spot}
use Rattle.epoch_laws.specs.declared.heap.access.Spot.TheVariants.{Root, Field}
use Rattle.epoch_laws.specs.declared.heap.heap.Content.{Content}
use Rattle.epoch_laws.proofs.PointersWritten.{kept_or_written}
use Rattle.epoch_laws.specs.Heap.{Cell, Heap, cell_at, with_cell_at, with_field, with_field_in, with_pointer, nulls}
use Rattle.epoch_laws.specs.Heap.{without_cell, outcome_of, called_by, heap_after_job, Touched, raised, read_by}
use Rattle.epoch_laws.specs.Heap.{left_by, written_by, taken_by, at_name, Places, ChangesAt, Touches}
use Rattle.epoch_laws.specs.Standing.{IsInHeap}
use Rattle.epoch_laws.proofs.Names.{name_same}
use Rattle.epoch_laws.proofs.FoundCells.{found_cell}
use Rattle.epoch_laws.proofs.PointerSteps.{set_or_kept}
use Rattle.epoch_laws.proofs.PointersChanged.{unread_there}
use Rattle.epoch_laws.proofs.HeldByTouches.{holds_named, holds_placed}
use Rattle.epoch_laws.proofs.TurnsGiven.{IsGiven, GivenAt, next_at, next_turn, some_value, stands_filled}

-- what a change of cells does: nothing that was given comes back, and what stood stands still or is emptied
pub record ChangesCells (old new : Heap) (empties : Name → Type 0) : Type 0 where
  pub back : (x : Name) → IsGiven old x → IsInHeap new x → IsInHeap old x
  pub kept : (x : Name) → IsInHeap old x → IsInHeap new x ⊎ empties x
  pub gone : (x : Name) → empties x → IsInHeap old x × (¬ (IsInHeap new x))
  pub risen : (x : Name) → IsGiven new x → IsGiven old x ⊎ IsInHeap new x
  pub start : new.start_turn ≡ old.start_turn

abbrev pub none_emptied : Name → Type 0
none_emptied x = ⊥

-- where the heap stays the same, no cell is emptied and no name is given
pub cells_same : (old new : Heap) → new ≡ old → ChangesCells old new none_emptied
cells_same old new e = record {
  back = λ x given stands. subst (λ h. IsInHeap h x) e stands;
  kept = λ x stands. inl (subst (λ h. IsInHeap h x) (sym e) stands);
  gone = λ x none. absurd none;
  risen = λ x given. inl (subst (λ h. IsGiven h x) e given);
  start = ap (λ (h : Heap). h.start_turn) e;
}

-- ONE CELL IS WRITTEN

abbrev StandsAt : ℕ → Option Cell → Type 0
StandsAt turn there = is_some (if_has turn there) ≡ true

stands_has : (turn : ℕ) (cell : Cell) → is_some (if_has turn (Some cell)) ≡ has cell turn
stands_has turn cell = at_test (has cell turn)
  where
    at_test : (b : Bool) → is_some (if b then Some cell else None) ≡ b
    at_test true = refl
    at_test false = refl

both : (a b : Bool) → (a && b) ≡ true → (a ≡ true) × (b ≡ true)
both true b h = (refl, h)
both false b h = absurd (cc)

has_turn : (cell : Cell) (turn : ℕ) → has cell turn ≡ true → (cell.turn ≡ turn) × (is_some cell.value ≡ true)
has_turn cell turn h =
    let parts = both (cell.turn == turn) (is_some cell.value) h in (test_true cell.turn turn parts.0, parts.1)
  where
    test_true : (a b : ℕ) → (a == b) ≡ true → a ≡ b
    test_true a b h = grind (arith, nat_tests)

-- by what the cell says of each turn before and after
written : (h : Heap) (n : Name) (after : Cell) (empties : Name → Type 0)
    → ((x : Name) → x.slot - 1 ≡ n.slot - 1 → GivenAt x.turn (slice_get h.cells (n.slot - 1))
    → StandsAt x.turn (Some after)
    → StandsAt x.turn (slice_get h.cells (n.slot - 1)))
    → ((x : Name) → x.slot - 1 ≡ n.slot - 1 → StandsAt x.turn (slice_get h.cells (n.slot - 1))
    → StandsAt x.turn (Some after) ⊎ empties x)
    → ((x : Name) → empties x → IsInHeap h x × (¬ (IsInHeap (with_cell_at h n after) x)))
    → ((x : Name) → x.slot - 1 ≡ n.slot - 1 → GivenAt x.turn (Some after)
    → GivenAt x.turn (slice_get h.cells (n.slot - 1)) ⊎ StandsAt x.turn (Some after))
    → ChangesCells h (with_cell_at h n after) empties
written h n after empties back kept gone risen = record {
  back = λ x given stands. elim (set_or_kept h.cells (n.slot - 1) after (x.slot - 1)) [
    | inl same ↦ subst (StandsAt x.turn) same stands
    | inr new ↦ subst (λ (k : ℕ). StandsAt x.turn (slice_get h.cells k)) (sym new.0)
        (back x new.0 (subst (λ (k : ℕ). GivenAt x.turn (slice_get h.cells k)) new.0 given)
        (subst (StandsAt x.turn) new.1 stands))
  ];
  kept = λ x stands. elim (set_or_kept h.cells (n.slot - 1) after (x.slot - 1)) [
    | inl same ↦ inl (subst (StandsAt x.turn) (sym same) stands)
    | inr new ↦ elim (kept x new.0 (subst (λ (k : ℕ). StandsAt x.turn (slice_get h.cells k)) new.0 stands)) [
      | inl still ↦ inl (subst (StandsAt x.turn) (sym new.1) still)
      | inr emptied ↦ inr emptied
    ]
  ];
  gone = gone;
  risen = λ x given. elim (set_or_kept h.cells (n.slot - 1) after (x.slot - 1)) [
    | inl same ↦ inl (subst (GivenAt x.turn) same given)
    | inr new ↦ elim (risen x new.0 (subst (GivenAt x.turn) new.1 given)) [
      | inl was ↦ inl (subst (λ (k : ℕ). GivenAt x.turn (slice_get h.cells k)) (sym new.0) was)
      | inr stands ↦ inr (subst (StandsAt x.turn) (sym new.1) stands)
    ]
  ];
  start = refl;
}

same_next : (t : ℕ) (v w : Option Content) → is_some v ≡ is_some w → next_at t v ≡ next_at t w
same_next t (Some a) (Some b) e = refl
same_next t None None e = refl
same_next t (Some a) None e = absurd (cc)
same_next t None (Some b) e = absurd (cc)

-- a cell that stands for the same turn, and has a value as it had
cells_kept : (h : Heap) (n : Name) (cell after : Cell) → cell_at h n ≡ Some cell → after.turn ≡ cell.turn
    → is_some after.value ≡ is_some cell.value → ChangesCells h (with_cell_at h n after) none_emptied
cells_kept h n cell after e turn full = written h n after none_emptied
    (λ x at given stands. subst (StandsAt x.turn) (sym there) (sym (same x.turn) ∙ stands))
    (λ x at stands. inl (same x.turn ∙ subst (StandsAt x.turn) there stands))
    (λ x none. absurd none)
    (λ x at given. inl (subst (GivenAt x.turn) (sym there) (earlier x.turn given)))
  where
    there : slice_get h.cells (n.slot - 1) ≡ Some cell
    there = (found_cell n.turn (slice_get h.cells (n.slot - 1)) cell e).0

    earlier : (t : ℕ) → t < next_turn after → t < next_turn cell
    earlier t lt =
        omega (arith, lt, same_next after.turn after.value cell.value full, ap (λ (u : ℕ). next_at u cell.value) turn)

    same : (t : ℕ) → is_some (if_has t (Some after)) ≡ is_some (if_has t (Some cell))
    same t = stands_has t after ∙ ap (λ (u : ℕ). (u == t) && is_some after.value) turn
        ∙ ap (λ (b : Bool). (cell.turn == t) && b) full ∙ sym (stands_has t cell)

none_stands : (next turn : ℕ) → ¬ (StandsAt turn (Some (empty next)))
none_stands next turn stands = at_test (next == turn) (empty next) stands
  where
    at_test : (b : Bool) (cell : Cell) → is_some (if b && false then Some cell else None) ≡ true → ⊥
    at_test true cell e = cc
    at_test false cell e = cc

-- a cell that stands is emptied
cells_emptied : (h : Heap) (n : Name) (cell : Cell) → cell_at h n ≡ Some cell
    → ChangesCells h (with_cell_at h n (empty (n.turn + 1))) (λ x. x ≡ n)
cells_emptied h n cell e = written h n (empty (n.turn + 1)) (λ x. x ≡ n)
    (λ x at given stands. absurd (none_stands (n.turn + 1) x.turn stands))
    (λ x at stands. inr
    (one x at (has_turn cell x.turn (sym (stands_has x.turn cell) ∙ subst (StandsAt x.turn) found.0 stands))))
    (λ x same.
    (stood x same, λ stands. none_stands (n.turn + 1) x.turn (subst (StandsAt x.turn) (at_own x same) stands)))
    (λ x at given. inl (subst (GivenAt x.turn) (sym found.0) (earlier x.turn given)))
  where
    found : (slice_get h.cells (n.slot - 1) ≡ Some cell) × (cell.turn ≡ n.turn)
    found = found_cell n.turn (slice_get h.cells (n.slot - 1)) cell e

    earlier : (t : ℕ) → t < n.turn + 1 → t < next_turn cell
    earlier t lt = omega (arith, lt, stands_filled h n cell e)

    one : (x : Name) → x.slot - 1 ≡ n.slot - 1 → (cell.turn ≡ x.turn) × (is_some cell.value ≡ true) → x ≡ n
    one x at turn = name_same x n (omega (arith, at, x.some, n.some)) (sym turn.0 ∙ found.1)

    stood : (x : Name) → x ≡ n → IsInHeap h x
    stood x same = subst (IsInHeap h) (sym same) (ap (λ (there : Option Cell). is_some there) e)

    at_own : (x : Name) → x ≡ n
        → slice_get (slice_set h.cells (n.slot - 1) (empty (n.turn + 1))) (x.slot - 1) ≡ Some (empty (n.turn + 1))
    at_own x same = ap (λ (m : Name). slice_get (slice_set h.cells (n.slot - 1) (empty (n.turn + 1))) (m.slot - 1)) same
        ∙ get_set_same h.cells (n.slot - 1) (empty (n.turn + 1)) (slice_get_within h.cells (n.slot - 1) cell found.0)

-- a free cell takes a value
cells_filled : (h : Heap) (n : Name) (cell after : Cell)
    → slice_get h.cells (n.slot - 1) ≡ Some cell → cell.value ≡ None
    → next_turn cell ≡ n.turn → after.turn ≡ n.turn
    → is_some after.value ≡ true → ChangesCells h (with_cell_at h n after) none_emptied
cells_filled h n cell after there none first turn full = written h n after none_emptied
    (λ x at given stands. absurd (omega (
      arith,
      first,
      turn,
      (has_turn after x.turn (sym (stands_has x.turn after) ∙ stands)).0,
      below x.turn given,
    )))
    (λ x at stands. absurd (cc (
      (has_turn cell x.turn (sym (stands_has x.turn cell) ∙ subst (StandsAt x.turn) there stands)).1,
      ap (λ (v : Option Content). is_some v) none,
    )))
    (λ x nothing. absurd nothing)
    (λ x at given. elim (split x.turn given) [
      | inl lt ↦ inl (subst (GivenAt x.turn) (sym there) lt)
      | inr same ↦ inr (stands_has x.turn after ∙ has_at x.turn same)
    ])
  where
    below : (t : ℕ) → GivenAt t (slice_get h.cells (n.slot - 1)) → t < next_turn cell
    below t given = subst (GivenAt t) there given

    split : (t : ℕ) → t < next_turn after → (t < next_turn cell) ⊎ (t ≡ n.turn)
    split t lt = elim (two t n.turn (omega (arith, lt, some_value after.value after.turn full, turn))) [
      | inl below ↦ inl (omega (arith, below, first))
      | inr same ↦ inr same
    ]
      where
        two : (a b : ℕ) → a < b + 1 → (a < b) ⊎ (a ≡ b)
        two a b lt = grind arith

    has_at : (t : ℕ) → t ≡ n.turn → has after t ≡ true
    has_at t same =
        let at_turn : after.turn ≡ t = turn ∙ sym same in tested after.turn t (is_some after.value) at_turn full
      where
        tested : (a b : ℕ) (v : Bool) → a ≡ b → v ≡ true → ((a == b) && v) ≡ true
        tested a b true e f = grind (arith, nat_tests)
        tested a b false e f = absurd (cc)

remapped : (old new : Heap) (one other : Name → Type 0) → ChangesCells old new one → ((x : Name) → one x → other x)
    → ((x : Name) → other x → one x) → ChangesCells old new other
remapped old new one other c to from = record {
  back = c.back;
  kept = λ x stands. elim (c.kept x stands) [ inl still ↦ inl still | inr emptied ↦ inr (to x emptied) ];
  gone = λ x emptied. c.gone x (from x emptied);
  risen = c.risen;
  start = c.start;
}

-- nothing is emptied
empties_none : (old new : Heap) (empties : Name → Type 0) → ChangesCells old new none_emptied
    → ((x : Name) → ¬ (empties x)) → ChangesCells old new empties
empties_none old new empties c none =
    remapped old new none_emptied empties c (λ x nothing. absurd nothing) (λ x emptied. none x emptied)

-- REMOVALS

-- the removal destroys this name's value
abbrev pub RemovesCell : Heap → Option Name → Name → Type 0
RemovesCell h removes x = (removes ≡ Some x) × (outcome_of h removes ≡ Destroyed)

removes_cell : (h : Heap) (n : Name) (cell : Option Cell) → cell_at h n ≡ cell
    → ChangesCells h (without_cell h n (removal_of cell))
    (λ x. (Some n ≡ Some x) × (called_by (removal_of cell) ≡ Destroyed))
removes_cell h n None e = empties_none h h _ (cells_same h h refl) (λ x emptied. cc (emptied.1))
removes_cell h n (Some cell) e = at_test (cell.readers == 0)
  where
    at_test : (b : Bool) → ChangesCells h (without_cell h n (if b then RemovalDestroyed else RemovalHeld))
        (λ x. (Some n ≡ Some x) × (called_by (if b then RemovalDestroyed else RemovalHeld) ≡ Destroyed))
    at_test true = remapped h _ _ _ (cells_emptied h n cell e)
        (λ x same. (ap (λ (m : Name). Some m) (sym same), refl))
        (λ x emptied. let same : n ≡ x = cc (emptied.0) in sym same)
    at_test false = empties_none h h _ (cells_same h h refl) (λ x emptied. cc (emptied.1))

-- the call of a job empties the cell whose value its removal destroys, and no other
pub job_changes : (h : Heap) (removes : Option Name) → ChangesCells h (heap_after_job h removes) (RemovesCell h removes)
job_changes h None = empties_none h h _ (cells_same h h refl) (λ x emptied. cc (emptied.0))
job_changes h (Some n) = removes_cell h n (cell_at h n) refl

-- CALLS ON CELLS

abbrev pub TakesValue : Accessed → Type 0
TakesValue (Answers (Value v)) = Unit {0}
TakesValue _ = ⊥

-- a Take that answers the value of this name
abbrev pub Empties : Access → Accessed → Name → Type 0
Empties (Take g ptr) told x = TakesValue told × (ptr.name ≡ Some x)
Empties _ told x = ⊥

changes_read : (h : Heap) (n : Name) (cell : Option Cell) (content : Option Content) → cell_at h n ≡ cell
    → ChangesCells h (read_by h n cell content).heap none_emptied
changes_read h n (Some cell) (Some content) e = cells_kept h n cell (raised cell) e refl refl
changes_read h n (Some cell) None e = cells_same h h refl
changes_read h n None content e = cells_same h h refl

changes_left : (h : Heap) (n : Name) (cell : Option Cell) → cell_at h n ≡ cell
    → ChangesCells h (left_by h n cell).heap none_emptied
changes_left h n (Some cell) e = cells_kept h n cell (record cell { readers = cell.readers - 1 }) e refl refl
changes_left h n None e = cells_same h h refl

changes_put : (h : Heap) (n : Name) (v : ℕ) (content : Option Content) → unread (cell_at h n) ≡ content
    → ChangesCells h (written_by h n v content).heap none_emptied
changes_put h n v None e = cells_same h h refl
changes_put h n v (Some content) e =
    let there = unread_there (cell_at h n) content e in
    let found = found_cell n.turn (slice_get h.cells (n.slot - 1)) there.0 there.1 in
    cells_kept h n there.0 (filled n.turn 0 (record content { value = v })) there.1 (sym found.1)
    (ap (λ (other : Option Content). is_some other) (sym there.2))

changes_taken : (h : Heap) (n : Name) (content : Option Content) → unread (cell_at h n) ≡ content
    → ChangesCells h (taken_by h n content).heap (λ x. TakesValue (taken_by h n content).told × (Some n ≡ Some x))
changes_taken h n None e = empties_none h h _ (cells_same h h refl) (λ x emptied. absurd emptied.0)
changes_taken h n (Some content) e =
    let there = unread_there (cell_at h n) content e in
    remapped h _ _ _ (cells_emptied h n there.0 there.1) (λ x same. (tt, ap (λ (m : Name). Some m) (sym same)))
    (λ x emptied. let same : n ≡ x = cc (emptied.1) in sym same)

takes_at : (h : Heap) (name : Option Name)
    → ChangesCells h (at_name (λ n. taken_by h n (unread (cell_at h n))) h name).heap
    (λ x. TakesValue (at_name (λ n. taken_by h n (unread (cell_at h n))) h name).told × (name ≡ Some x))
takes_at h (Some n) = changes_taken h n (unread (cell_at h n)) refl
takes_at h None = empties_none h h _ (cells_same h h refl) (λ x emptied. absurd emptied.0)

changes_placed : (v k : ℕ) (found : Ptr) (h : Heap) (did : Touched)
    → Places v k found h (slice_get h.cells k) did → ChangesCells h did.heap none_emptied
changes_placed v k found h did is =
    holds_placed (λ after. ChangesCells h after none_emptied) v k found h did
    (cells_same h h refl) (λ n cell at none turn.
    cells_filled h n cell (filled n.turn 0 _) at none (ap (next_at cell.turn) none ∙ sym turn) refl refl) is

-- POINTER CALLS

mapped_some : (F : Content → Content) (v : Option Content) → is_some (option_map F v) ≡ is_some v
mapped_some F (Some content) = refl
mapped_some F None = refl

changes_pointer : (h : Heap) (spot : Spot) (ptr : Ptr) → ChangesCells h (with_pointer h spot ptr) none_emptied
changes_pointer h (Root i) ptr = record {
  back = λ x given stands. stands;
  kept = λ x stands. inl stands;
  gone = λ x none. absurd none;
  risen = λ x given. inl given;
  start = refl;
}
changes_pointer h (Field n f) ptr = at_cell (cell_at h n) refl
  where
    at_cell : (cell : Option Cell) → cell_at h n ≡ cell → ChangesCells h (with_field_in h n f ptr cell) none_emptied
    at_cell None e = cells_same h h refl
    at_cell (Some cell) e =
        cells_kept h n cell (record cell { value = option_map (λ content. with_field content f ptr) cell.value }) e refl
        (mapped_some (λ content. with_field content f ptr) cell.value)

changes_written : (change : Change) (k : ℕ) (found : Ptr) (spot : Spot) (h : Heap) (ptr : Option Ptr) (did : Touched)
    → ChangesAt change k found spot h ptr did → ChangesCells h did.heap none_emptied
changes_written change k found spot h ptr did e = elim (kept_or_written change k found spot h ptr did e) [
  | inl same ↦ cells_same h did.heap same
  | inr wrote ↦ subst (λ (heap : Heap). ChangesCells h heap none_emptied) (sym wrote.1)
      (changes_pointer h spot wrote.0)
]

-- EACH CALL

pub touch_changes : (a : Access) (k : ℕ) (found : Ptr) (h : Heap) (did : Touched) → Touches a k found h did
    → ChangesCells h did.heap (Empties a did.told)
touch_changes (Place v) k found h did e = changes_placed v k found h did e
touch_changes (Read g ptr) k found h did e = subst (λ (d : Touched). ChangesCells h d.heap none_emptied) (sym e)
    (holds_named (λ after. ChangesCells h after none_emptied) _ h ptr.name (cells_same h h refl)
    (λ n. changes_read h n (cell_at h n) (readable (cell_at h n)) refl))
touch_changes (Leave ptr) k found h did e = subst (λ (d : Touched). ChangesCells h d.heap none_emptied) (sym e)
    (holds_named (λ after. ChangesCells h after none_emptied) _ h ptr.name (cells_same h h refl)
    (λ n. changes_left h n (cell_at h n) refl))
touch_changes (Write g ptr v) k found h did e = subst (λ (d : Touched). ChangesCells h d.heap none_emptied) (sym e)
    (holds_named (λ after. ChangesCells h after none_emptied) _ h ptr.name (cells_same h h refl)
    (λ n. changes_put h n v (unread (cell_at h n)) refl))
touch_changes (Take g ptr) k found h did e =
    subst (λ (d : Touched). ChangesCells h d.heap (Empties (Take g ptr) d.told)) (sym e) (takes_at h ptr.name)
touch_changes (Point g spot change) k found h did e = changes_written change k found spot h _ did e

-- WHAT A PLACE GIVES

stands_new : (h : Heap) (n : Name) (cell after : Cell)
    → slice_get h.cells (n.slot - 1) ≡ Some cell → has after n.turn ≡ true
    → IsInHeap (with_cell_at h n after) n
stands_new h n cell after there full = subst (StandsAt n.turn)
    (sym (get_set_same h.cells (n.slot - 1) after (slice_get_within h.cells (n.slot - 1) cell there)))
    (stands_has n.turn after ∙ full)

has_own : (n : Name) (content : Content) → has (filled n.turn 0 content) n.turn ≡ true
has_own n content = itself n.turn
  where
    itself : (t : ℕ) → ((t == t) && true) ≡ true
    itself t = grind (arith, nat_tests)

-- the name that a Place answers has its cell then
pub place_stands : (v k : ℕ) (found : Ptr) (h : Heap) (cell : Option Cell)
    → slice_get h.cells k ≡ cell → (did : Touched)
    → Places v k found h cell did → (n : Name) → progress_after (Place v) k did.told ≡ Ends (Done (NameAnswer n))
    → IsInHeap did.heap n
place_stands v k found h None e did is n answer = absurd (cc (is, answer))
place_stands v k found h (Some cell) e did (inr is) n answer = absurd (cc (is.1, answer))
place_stands v k found h (Some cell) e did (inl (free, m, slot, turn, is)) n answer =
    subst (λ (other : Name). IsInHeap did.heap other) same
    (subst (λ (d : Touched). IsInHeap d.heap m) (sym is)
    (stands_new h m cell (filled m.turn 0 content) at_slot (has_own m content)))
  where
    content : Content
    content = record { value = v; fields = nulls 16 }

    same : m ≡ n
    same = cc (is, answer)

    at_slot : slice_get h.cells (m.slot - 1) ≡ Some cell
    at_slot = let here : m.slot - 1 ≡ k = omega (arith, slot) in ap (λ (j : ℕ). slice_get h.cells j) here ∙ e

-- what stands was given
pub stands_given : (h : Heap) (x : Name) → IsInHeap h x → IsGiven h x
stands_given h x stands = at_cell (cell_at h x) refl stands
  where
    at_cell : (cell : Option Cell) → cell_at h x ≡ cell → is_some cell ≡ true → IsGiven h x
    at_cell None e there = absurd (cc)
    at_cell (Some cell) e there =
        let lt : x.turn < next_turn cell = omega (arith, stands_filled h x cell e) in
        subst (GivenAt x.turn) (sym (found_cell x.turn (slice_get h.cells (x.slot - 1)) cell e).0) lt
