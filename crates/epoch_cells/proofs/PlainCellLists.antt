-- Writing one slot of a list of cells.
use Rattle.std.proofs.Common.{◌≡◌, ◌≢◌, ℕ, zero, suc, ◌+◌, ◌-◌, ◌<◌, ◌==◌, ◌&&◌, ◌⊎◌, true, false, List, [], ◌∷◌}
use Rattle.std.proofs.Common.{length, get_or, Option, Some, None, IfSome, Result, Ok, Err, IfOk, OnErr, is_some}
use Rattle.std.proofs.Common.{slice_get, slice_set, if◌then◌else◌, refl, ap, sym, ◌∙◌, inl, inr, arith}
use Rattle.std.proofs.lemmas.Grind.{common_steps}
use Rattle.std.proofs.lemmas.Bool.{false≢true}
use Rattle.std.proofs.lemmas.Bool.Decides.{eqb_tells}
use Rattle.std.proofs.lemmas.Option.{slice_get_within, slice_get_read}
use Rattle.epoch_cells.specs.PlainCells.{Numbered, empty, filled, has, if_has, cell_of, KeepsOthers, Stands}

-- what is written at a place within a list stands there
pub get_set_same : {X : Type 0} (xs : List X) (i : ℕ) (x : X) → i < length xs → slice_get (slice_set xs i x) i ≡ Some x
get_set_same [] i x within = absurd (omega (arith, within))
get_set_same (y ∷ xs) zero x within = refl
get_set_same (y ∷ xs) (suc i) x within = get_set_same xs i x (omega (arith, within))

-- a write at one place leaves what stands at every other
pub get_set_other : {X : Type 0} (xs : List X) (i j : ℕ) (x : X)
    → j ≢ i → slice_get (slice_set xs i x) j ≡ slice_get xs j
get_set_other [] i j x other = refl
get_set_other (y ∷ xs) zero zero x other = absurd (other refl)
get_set_other (y ∷ xs) zero (suc j) x other = refl
get_set_other (y ∷ xs) (suc i) zero x other = refl
get_set_other (y ∷ xs) (suc i) (suc j) x other = get_set_other xs i j x (λ same. other (ap suc same))

-- what stands there is written again
pub set_same : {X : Type 0} (xs : List X) (i : ℕ) (x : X) → slice_get xs i ≡ Some x → slice_set xs i x ≡ xs
set_same [] i x at = refl
set_same (y ∷ xs) zero x at = grind (arith, at)
set_same (y ∷ xs) (suc i) x at = ap (λ l. y ∷ l) (set_same xs i x at)

-- a slot without a value has none of any turn
pub has_none : {V : Type 0} (cell : Numbered V) (turn : ℕ) → cell.value ≡ None → has cell turn ≡ false
has_none cell turn none =
    rw none (elim (cell.turn == turn) as (λ same. same && false ≡ false) [ true ↦ refl | false ↦ refl ])

-- a slot of one turn has no value of another
pub has_other : {V : Type 0} (cell : Numbered V) (turn other : ℕ)
    → cell.turn ≡ turn → other ≢ turn → has cell other ≡ false
has_other cell turn other same differs = grind (arith, common_steps)

-- the slot has no value, or one of this turn
abbrev pub HasAtMost : {V : Type 0} → ℕ → Numbered V → Type 0
HasAtMost turn cell = (cell.value ≡ None) ⊎ (cell.turn ≡ turn)

-- a slot that has at most the value of one turn gives no cell for another turn
pub if_has_other : {V : Type 0} (cell : Numbered V) (turn other : ℕ)
    → HasAtMost turn cell → other ≢ turn → if_has other (Some cell) ≡ None
if_has_other cell turn other (inl none) differs = rw (has_none cell other none) refl
if_has_other cell turn other (inr same) differs = rw (has_other cell turn other same differs) refl

-- where a slot has at most this turn's value before and after, every other name keeps its cell
pub set_keeps_others : {V : Type 0} (cells : List (Numbered V)) (slot turn : ℕ) (before after : Numbered V)
    → 0 < slot
    → slice_get cells (slot - 1) ≡ Some before
    → HasAtMost turn before
    → HasAtMost turn after
    → KeepsOthers slot turn cells (slice_set cells (slot - 1) after)
set_keeps_others cells slot turn before after some at was is other_slot other_turn other_some other =
    elim (eqb_tells other_slot slot) [
      | inl same ↦
          let within : slot - 1 < length cells = slice_get_within cells (slot - 1) before at in
          let now : slice_get (slice_set cells (slot - 1) after) (slot - 1) ≡ Some after = get_set_same cells
          (slot - 1) after within in
          let differs : other_turn ≢ turn = λ e. other (same.1, e) in
          rw same.1 (ap (if_has other_turn) now ∙ (if_has_other after turn other_turn is differs
          ∙ sym (ap (if_has other_turn) at ∙ if_has_other before turn other_turn was differs)))
      | inr differs ↦
          let apart : other_slot - 1 ≢ slot - 1 = omega (arith, differs.1, some, other_some) in
          ap (if_has other_turn) (get_set_other cells (slot - 1) (other_slot - 1) after apart)
    ]

-- what is known of the cell that a name finds
pub record Found {V : Type 0} (cells : List (Numbered V)) (slot turn : ℕ) (cell : Numbered V) : Type 0 where
  pub at : slice_get cells (slot - 1) ≡ Some cell
  pub turn_is : cell.turn ≡ turn
  pub there : has cell turn ≡ true
  pub is_cell : cell_of cells slot turn ≡ Some cell

-- a slot that has the value of a turn is at this turn
pub has_turn : {V : Type 0} (cell : Numbered V) (turn : ℕ) → has cell turn ≡ true → cell.turn ≡ turn
has_turn cell turn there = elim (eqb_tells cell.turn turn) [
  | inl same ↦ same.1
  | inr differs ↦ absurd (false≢true (sym (ap (λ same. same && is_some cell.value) differs.0) ∙ there))
]

-- a name finds the cell that stands at its slot and has the value of its turn
pub found_at : {V : Type 0} (cells : List (Numbered V)) (slot turn : ℕ) (cell : Numbered V)
    → slice_get cells (slot - 1) ≡ Some cell
    → has cell turn ≡ true
    → Found cells slot turn cell
found_at cells slot turn cell at there = record {
  at = at;
  turn_is = has_turn cell turn there;
  there = there;
  is_cell = ap (if_has turn) at ∙ ap (λ found. if found then Some cell else None) there;
}

-- a cell that a name finds has a value
pub found_value : {V : Type 0} {cells : List (Numbered V)} {slot turn : ℕ} {cell : Numbered V}
    → Found cells slot turn cell → cell.value ≢ None
found_value {turn = turn} {cell = cell} it none = false≢true (sym (has_none cell turn none) ∙ it.there)

-- the cell read at a place of the list
pub read_at : {V : Type 0} (cells view : List (Numbered V)) (index : ℕ) (cell : Numbered V)
    → cells ≡ view
    → index < length view
    → cell ≡ get_or cells index cell
    → slice_get view index ≡ Some cell
read_at cells view index cell same_list within read =
    slice_get_read view (length view) index cell refl within (rw same_list at read)

-- the cell read at the place that a name found
pub found : {V : Type 0} (cells view : List (Numbered V)) (slot turn index : ℕ) (cell : Numbered V)
    → cells ≡ view
    → (index ≡ slot - 1) × (index < length view) × Stands view slot turn
    → cell ≡ get_or cells index cell
    → Found view slot turn cell
found cells view slot turn index cell same_list (place, within, stands) read =
    let here : slice_get view index ≡ Some cell = read_at cells view index cell same_list within read in
    let at : slice_get view (slot - 1) ≡ Some cell = rw place at here in
    let both : Some cell ≡ Some stands.0 = sym at ∙ stands.1 in
    let same : cell ≡ stands.0 = cc in
    found_at view slot turn cell at (ap (λ it. has it turn) same ∙ stands.2)

-- a cell that is written as it was leaves the list as it was
pub writes_nothing : {V : Type 0} (cells view : List (Numbered V)) (slot index : ℕ) (before after : Numbered V)
    → cells ≡ view
    → index ≡ slot - 1
    → slice_get view (slot - 1) ≡ Some before
    → after ≡ before
    → slice_set cells index after ≡ view
writes_nothing cells view slot index before after same_list place at same =
    rw (same_list, place, same) (set_same view (slot - 1) before at)

-- a cell that has at most the value of a name, before and after, leaves the other names as they were
pub writes_one : {V : Type 0} (cells view : List (Numbered V)) (slot turn index : ℕ) (before after : Numbered V)
    → cells ≡ view
    → index ≡ slot - 1
    → 0 < slot
    → slice_get view (slot - 1) ≡ Some before
    → HasAtMost turn before
    → HasAtMost turn after
    → KeepsOthers slot turn view (slice_set cells index after)
writes_one cells view slot turn index before after same_list place some at was is =
    rw (same_list, place) (set_keeps_others view slot turn before after some at was is)

-- a cell that is written at the place found is written under its slot
pub writes_cell : {V : Type 0} (cells view : List (Numbered V)) (slot index : ℕ) (after wanted : Numbered V)
    → cells ≡ view
    → index ≡ slot - 1
    → after ≡ wanted
    → slice_set cells index after ≡ slice_set view (slot - 1) wanted
writes_cell cells view slot index after wanted same_list place same = rw (same_list, place, same) refl

-- a slot whose value was taken, or that stays as it was
pub vacated : {V : Type 0} (value : Option V) (turn : ℕ) (before after : Numbered V)
    → before.turn ≡ turn
    → IfSome value (λ _. after ≡ empty (before.turn + 1))
    → (value ≡ None → after ≡ before)
    → HasAtMost turn after
vacated (Some v) turn before after at taken stays = inl (ap (λ cell. cell.value) taken)
vacated None turn before after at taken stays = inr (ap (λ cell. cell.turn) (stays refl) ∙ at)

-- a slot whose value one more reads, or that stays as it was
pub entered : {V : Type 0} (value : Option V) (turn : ℕ) (before after : Numbered V)
    → before.turn ≡ turn
    → IfSome value (λ v. after ≡ filled before.turn (before.readers + 1) v)
    → (value ≡ None → after ≡ before)
    → HasAtMost turn after
entered (Some v) turn before after at counted stays = inr (ap (λ cell. cell.turn) counted ∙ at)
entered None turn before after at counted stays = inr (ap (λ cell. cell.turn) (stays refl) ∙ at)

-- a slot that has no value afterwards, or stays at its turn, has at most the value of that turn
pub at_most : {V : Type 0} (turn : ℕ) (before after : Numbered V)
    → before.turn ≡ turn → (after.value ≡ None) ⊎ (after.turn ≡ before.turn) → HasAtMost turn after
at_most turn before after at (inl none) = inl none
at_most turn before after at (inr same) = inr (same ∙ at)

-- where one fact about a value brings another, it does so for the value in an option, if there is one
pub on_some : {X : Type 0} {A B : X → Type 0} (o : Option X) → ((x : X) → A x → B x) → IfSome o A → IfSome o B
on_some (Some x) f a = f x a
on_some None f none = none

-- the same of the value in a result that succeeded
pub on_ok : {X E : Type 0} {A B : X → Type 0} (r : Result X E) → ((x : X) → A x → B x) → IfOk r A → IfOk r B
on_ok (Ok x) f a = f x a
on_ok (Err e) f none = none

-- the same of a fact that holds where a result failed
pub on_err : {X E A B : Type 0} (r : Result X E) → (A → B) → OnErr r A → OnErr r B
on_err (Ok x) f none = none
on_err (Err e) f a = f a
