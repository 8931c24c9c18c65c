-- Slots that are numbered in a row.
use Rattle.std.proofs.Common.{◌≡◌, ℕ, zero, suc, ◌+◌, ◌<◌, List, [], ◌∷◌, ◌++◌, length, get_or, arith}
use Rattle.std.proofs.Math.Logic.{∥∥₁_elim}
use Rattle.std.specs.Coded.{Coded-set, coded_ℕ}
use Rattle.epoch_cells.specs.SlotNumbers.{AreNumbered}

-- The first one is this number, and each one is the next number.
abbrev pub CountsFrom : ℕ → List ℕ → Type 0
CountsFrom first [] = Unit {0}
CountsFrom first (number ∷ numbers) = (number ≡ first) × CountsFrom (suc first) numbers

-- one more slot has the number after theirs
pub counts_push : (first : ℕ) (numbers : List ℕ) (number : ℕ)
    → number ≡ first + length numbers → CountsFrom first numbers → CountsFrom first (numbers ++ number ∷ [])
counts_push first [] number same counts = (omega (arith, same), tt)
counts_push first (n ∷ numbers) number same counts =
    (counts.0, counts_push (suc first) numbers number (omega (arith, same)) counts.1)

number_at : (first : ℕ) (numbers : List ℕ) (place other : ℕ)
    → CountsFrom first numbers → place < length numbers → get_or numbers place other ≡ first + place
number_at first [] place other counts within = absurd (omega (arith, within))
number_at first (n ∷ numbers) zero other counts within = omega (arith, counts.0)
number_at first (n ∷ numbers) (suc place) other counts within =
    let there = number_at (suc first) numbers place other counts.1 (omega (arith, within)) in omega (arith, there)

are_numbered : (numbers : List ℕ) → CountsFrom 1 numbers → AreNumbered numbers
are_numbered numbers counts place other within =
    let there = number_at 1 numbers place other counts within in omega (arith, there)

-- slots that count from 1 are numbered as those of a store
pub all_numbered : (numbers : List ℕ) → CountsFrom 1 numbers → ∥ AreNumbered numbers ∥₁
all_numbered numbers counts = ∣ are_numbered numbers counts ∣₁

-- where slots are numbered so, the number of each is one more than its place
pub number_of : (numbers : List ℕ) (place other : ℕ)
    → ∥ AreNumbered numbers ∥₁ → place < length numbers → get_or numbers place other ≡ place + 1
number_of numbers place other numbered within =
    ∥∥₁_elim numbered (Coded-set coded_ℕ _ _) (λ are. are place other within)
