-- Turns of slots only go up, so no name is given twice.
use Rattle.std.proofs.Common.{◌≡◌, ℕ, ◌+◌, ◌-◌, ◌<◌, ◌≤◌, ◌==◌, ◌&&◌, Bool, true, false, Option, Some, None, is_some}
use Rattle.std.proofs.Common.{inl, inr, refl, ap, sym, subst, ◌∙◌, arith, le_refl, if◌then◌else◌, slice_get}
use Rattle.std.specs.Prelude.{option_map}
use Rattle.epoch_cells.specs.PlainCells.{filled, empty, has, if_has, unread, readable, removal_of}
use Rattle.epoch_cells.specs.declared.cells.name.Name.{Name}
use Rattle.epoch_cells.specs.declared.cells.Removal.TheVariants.{Destroyed, HeldElsewhere}
use Rattle.epoch_laws.specs.declared.heap.access.Access.{Access}
use Rattle.epoch_laws.specs.declared.heap.access.Access.TheVariants.{Place}
use Rattle.epoch_laws.specs.declared.heap.access.Ptr.{Ptr}
use Rattle.epoch_laws.specs.declared.heap.access.Spot.{Spot}
use Rattle.epoch_laws.specs.declared.heap.access.Spot.TheVariants.{Root, Field}
use Rattle.std.proofs.lemmas.Option.{slice_get_within}
use Rattle.epoch_cells.proofs.PlainCellLists.{get_set_same}
use Rattle.epoch_laws.specs.declared.heap.access.AccessAnswer.TheVariants.{Name as NameAnswer}
use Rattle.epoch_laws.specs.declared.step.Progress.TheVariants.{Ends}
use Rattle.epoch_laws.specs.declared.step.Reply.TheVariants.{Done}
use Rattle.epoch_laws.specs.Run.{progress_after}
use Rattle.epoch_laws.specs.declared.heap.heap.Content.{Content}
use Rattle.epoch_laws.specs.Heap.{Cell, Heap, cell_at, with_cell_at, nulls, with_field, with_field_in, with_pointer}
use Rattle.epoch_laws.specs.Heap.{without_cell, heap_after_job, Touched, raised, read_by, left_by, written_by, taken_by}
use Rattle.epoch_laws.specs.Heap.{Places, Touches}
use Rattle.epoch_laws.proofs.FoundCells.{found_cell}
use Rattle.epoch_laws.proofs.PointerSteps.{set_or_kept}
use Rattle.epoch_laws.proofs.PointersChanged.{unread_there}
use Rattle.epoch_laws.proofs.HeldByTouches.{holds_touched}

-- the first turn of a slot that wasn't given
abbrev pub next_at : ℕ → Option Content → ℕ
next_at turn (Some content) = turn + 1
next_at turn None = turn

abbrev pub next_turn : Cell → ℕ
next_turn cell = next_at cell.turn cell.value

-- the turn was given
abbrev pub GivenAt : ℕ → Option Cell → Type 0
GivenAt turn (Some cell) = turn < next_turn cell
GivenAt turn None = ⊥

abbrev pub IsGiven : Heap → Name → Type 0
IsGiven h n = GivenAt n.turn (slice_get h.cells (n.slot - 1))

-- what was given stays given
abbrev pub StaysGiven : Heap → Heap → Type 0
StaysGiven old new = (n : Name) → IsGiven old n → IsGiven new n

-- where the heap stays the same, what was given stays given
pub given_same : (old new : Heap) → new ≡ old → StaysGiven old new
given_same old new e n given = subst (λ h. IsGiven h n) (sym e) given

-- a cell is written that stands for no earlier turn
given_written : (h : Heap) (n : Name) (cell : Cell)
    → ((turn : ℕ) → GivenAt turn (slice_get h.cells (n.slot - 1)) → turn < next_turn cell)
    → StaysGiven h (with_cell_at h n cell)
given_written h n cell later m given = elim (set_or_kept h.cells (n.slot - 1) cell (m.slot - 1)) [
  | inl kept ↦ subst (λ (c : Option Cell). GivenAt m.turn c) (sym kept) given
  | inr new ↦ subst (λ (c : Option Cell). GivenAt m.turn c) (sym new.1)
      (later m.turn (subst (λ (k : ℕ). GivenAt m.turn (slice_get h.cells k)) new.0 given))
]

-- the cell of a name is written
given_kept : (h : Heap) (n : Name) (cell after : Cell) → cell_at h n ≡ Some cell → next_turn cell ≤ next_turn after
    → StaysGiven h (with_cell_at h n after)
given_kept h n cell after e up = given_written h n after (λ turn given.
    let there = found_cell n.turn (slice_get h.cells (n.slot - 1)) cell e in
    let lt : turn < next_turn cell = subst (λ (c : Option Cell). GivenAt turn c) there.0 given in
    omega (arith, lt, up))

-- what stands under a name is its turn's value
pub some_value : (v : Option Content) (turn : ℕ) → is_some v ≡ true → next_at turn v ≡ turn + 1
some_value (Some content) turn e = refl
some_value None turn e = absurd (cc)

-- where a name has its cell, the first turn of its slot that wasn't given is the one after the name's
pub stands_filled : (h : Heap) (n : Name) (cell : Cell) → cell_at h n ≡ Some cell → next_turn cell ≡ n.turn + 1
stands_filled h n cell e =
    let there = found_cell n.turn (slice_get h.cells (n.slot - 1)) cell e in
    let full : is_some cell.value ≡ true = is_full (slice_get h.cells (n.slot - 1)) e in
    some_value cell.value cell.turn full ∙ ap (λ (t : ℕ). t + 1) there.1
  where
    both : (a b : Bool) → (a && b) ≡ true → b ≡ true
    both true b h = h
    both false b h = absurd (cc)

    is_full : (there : Option Cell) → if_has n.turn there ≡ Some cell → is_some cell.value ≡ true
    is_full None e = absurd (cc)
    is_full (Some other) e = at_test (has other n.turn) refl e
      where
        at_test : (b : Bool)
            → has other n.turn ≡ b → (if b then Some other else None) ≡ Some cell → is_some cell.value ≡ true
        at_test true test h =
            let same : other ≡ cell = cc in
            ap (λ (c : Cell). is_some c.value) (sym same) ∙ both (other.turn == n.turn) (is_some other.value) test
        at_test false test h = absurd (cc)

given_emptied : (h : Heap) (n : Name) (cell : Cell) → cell_at h n ≡ Some cell
    → StaysGiven h (with_cell_at h n (empty (n.turn + 1)))
given_emptied h n cell e =
    given_kept h n cell (empty (n.turn + 1)) e (omega (arith, stands_filled h n cell e))

-- REMOVALS

given_without : (h : Heap) (n : Name) (cell : Option Cell) → cell_at h n ≡ cell
    → StaysGiven h (without_cell h n (removal_of cell))
given_without h n None e = given_same h h refl
given_without h n (Some cell) e = at_test (cell.readers == 0)
  where
    at_test : (b : Bool) → StaysGiven h (without_cell h n (if b then Destroyed else HeldElsewhere))
    at_test true = given_emptied h n cell e
    at_test false = given_same h h refl

-- at the call of a job, what was given stays given
pub given_job : (h : Heap) (removes : Option Name) → StaysGiven h (heap_after_job h removes)
given_job h None = given_same h h refl
given_job h (Some n) = given_without h n (cell_at h n) refl

-- CALLS ON CELLS

given_read : (h : Heap) (n : Name) (cell : Option Cell) (content : Option Content) → cell_at h n ≡ cell
    → StaysGiven h (read_by h n cell content).heap
given_read h n (Some cell) (Some content) e = given_kept h n cell (raised cell) e (le_refl _)
given_read h n (Some cell) None e = given_same h h refl
given_read h n None content e = given_same h h refl

given_left : (h : Heap) (n : Name) (cell : Option Cell) → cell_at h n ≡ cell → StaysGiven h (left_by h n cell).heap
given_left h n (Some cell) e = given_kept h n cell (record cell { readers = cell.readers - 1 }) e (le_refl _)
given_left h n None e = given_same h h refl

given_put : (h : Heap) (n : Name) (v : ℕ) (content : Option Content) → unread (cell_at h n) ≡ content
    → StaysGiven h (written_by h n v content).heap
given_put h n v None e = given_same h h refl
given_put h n v (Some content) e =
    let there = unread_there (cell_at h n) content e in
    given_kept h n there.0 (filled n.turn 0 (record content { value = v })) there.1
    (omega (arith, stands_filled h n there.0 there.1))

given_taken : (h : Heap) (n : Name) (content : Option Content) → unread (cell_at h n) ≡ content
    → StaysGiven h (taken_by h n content).heap
given_taken h n None e = given_same h h refl
given_taken h n (Some content) e =
    let there = unread_there (cell_at h n) content e in given_emptied h n there.0 there.1

given_placed : (h : Heap) (v : ℕ) (n : Name) (cell : Cell) → slice_get h.cells (n.slot - 1) ≡ Some cell
    → cell.value ≡ None → n.turn ≡ cell.turn
    → StaysGiven h (with_cell_at h n (filled n.turn 0 (record { value = v; fields = nulls 16 })))
given_placed h v n cell at none turn = given_written h n (filled n.turn 0 _) (λ t given.
    let lt : t < next_turn cell = subst (λ (c : Option Cell). GivenAt t c) at given in
    omega (arith, lt, ap (next_at cell.turn) none ∙ sym turn))

-- POINTER CALLS

mapped_next : (F : Content → Content) (turn : ℕ) (v : Option Content) → next_at turn (option_map F v) ≡ next_at turn v
mapped_next F turn (Some content) = refl
mapped_next F turn None = refl

given_pointer : (h : Heap) (spot : Spot) (ptr : Ptr) → StaysGiven h (with_pointer h spot ptr)
given_pointer h (Root i) ptr = λ n given. given
given_pointer h (Field n f) ptr = at_cell (cell_at h n) refl
  where
    at_cell : (cell : Option Cell) → cell_at h n ≡ cell → StaysGiven h (with_field_in h n f ptr cell)
    at_cell None e = given_same h h refl
    at_cell (Some cell) e =
        given_kept h n cell (record cell { value = option_map (λ content. with_field content f ptr) cell.value }) e
        (omega (arith, mapped_next (λ content. with_field content f ptr) cell.turn cell.value))

-- EACH CALL

pub touches_given : (a : Access) (k : ℕ) (found : Ptr) (h : Heap) (did : Touched) → Touches a k found h did
    → StaysGiven h did.heap
touches_given a k found h did e = holds_touched (StaysGiven h) h (record {
  before = given_same h h refl;
  placed = given_placed h;
  read = λ n. given_read h n (cell_at h n) (readable (cell_at h n)) refl;
  left = λ n. given_left h n (cell_at h n) refl;
  put = λ v n. given_put h n v (unread (cell_at h n)) refl;
  taken = λ n. given_taken h n (unread (cell_at h n)) refl;
  pointed = given_pointer h;
}) a k found did e

-- what a place gives wasn't given, and is given then
pub record GivesNew (old new : Heap) (n : Name) : Type 0 where
  pub fresh : ¬ (IsGiven old n)
  pub given : IsGiven new n

gives_at : (h : Heap) (n : Name) (cell after : Cell) → slice_get h.cells (n.slot - 1) ≡ Some cell
    → next_turn cell ≡ n.turn → next_turn after ≡ n.turn + 1 → GivesNew h (with_cell_at h n after) n
gives_at h n cell after there none some = record {
  fresh = λ given. let lt : n.turn < next_turn cell = subst (λ (c : Option Cell). GivenAt n.turn c) there given in
      absurd (omega (arith, lt, none));
  given = subst (λ (c : Option Cell). GivenAt n.turn c)
      (sym (get_set_same h.cells (n.slot - 1) after (slice_get_within h.cells (n.slot - 1) cell there)))
      (let lt : n.turn < next_turn after = omega (arith, some) in lt);
}

-- a Place that answers a name gives a new one: it wasn't given before, and is given then
pub place_gives : (v k : ℕ) (found : Ptr) (h : Heap) (cell : Option Cell) → slice_get h.cells k ≡ cell → (did : Touched)
    → Places v k found h cell did → (n : Name) → progress_after (Place v) k did.told ≡ Ends (Done (NameAnswer n))
    → GivesNew h did.heap n
place_gives v k found h None e did is n answer =
    absurd (cc (is, answer))
place_gives v k found h (Some cell) e did (inr is) n answer = absurd (cc (is.1, answer))
place_gives v k found h (Some cell) e did (inl (free, m, slot, turn, is)) n answer =
    subst (λ (other : Name). GivesNew h did.heap other) same
    (subst (λ (d : Touched). GivesNew h d.heap m) (sym is)
    (gives_at h m cell (filled m.turn 0 _) at_slot (ap (next_at cell.turn) free.0 ∙ sym turn) refl))
  where
    same : m ≡ n
    same = cc (is, answer)

    at_slot : slice_get h.cells (m.slot - 1) ≡ Some cell
    at_slot = let here : m.slot - 1 ≡ k = omega (arith, slot) in ap (λ (j : ℕ). slice_get h.cells j) here ∙ e
