-- The cell of a slot that has the value of a turn.
use Rattle.std.proofs.Common.{◌≡◌, ℕ, ◌==◌, ◌&&◌, Bool, true, false, Option, Some, None, is_some, if◌then◌else◌, refl}
use Rattle.std.proofs.Common.{ap, sym, ◌∙◌, arith}
use Rattle.std.proofs.lemmas.Bool.Decides.{nat_tests}
use Rattle.epoch_cells.specs.PlainCells.{has, if_has}
use Rattle.epoch_laws.specs.Heap.{Cell}

-- what is found in a slot for a turn is the slot's cell, and the cell has this turn
pub found_cell : (turn : ℕ) (there : Option Cell) (cell : Cell) → if_has turn there ≡ Some cell
    → (there ≡ Some cell) × (cell.turn ≡ turn)
found_cell turn None cell e = absurd (cc)
found_cell turn (Some other) cell e = at_test (has other turn) refl e
  where
    turn_is : (v : Bool) → ((other.turn == turn) && v) ≡ true → other.turn ≡ turn
    turn_is true h = grind (arith, nat_tests)
    turn_is false h = grind (arith, nat_tests)

    at_test : (b : Bool) → has other turn ≡ b → (if b then Some other else None) ≡ Some cell
        → (Some other ≡ Some cell) × (cell.turn ≡ turn)
    at_test true test h = let same : other ≡ cell = cc in
        (h, sym (ap (λ (c : Cell). c.turn) same) ∙ turn_is (is_some other.value) test)
    at_test false test h = absurd (cc)
