-- Tests of two numbers.
use Rattle.std.proofs.Common.{◌≡◌, ◌≢◌, ℕ, ◌≤◌, nat_le, ◌==◌, Bool, true, false, refl, arith}
use Rattle.std.proofs.lemmas.Bool.Decides.{nat_tests}

-- a number that is at most another one passes the test for that
pub at_most : (m n : ℕ) → m ≤ n → nat_le m n ≡ true
at_most m n le = grind (arith, nat_tests)

-- a number that passes the test is at most the other one
pub most_of : (m n : ℕ) → nat_le m n ≡ true → m ≤ n
most_of m n e = grind (arith, nat_tests)

-- a number that isn't at most the other one fails the test
pub not_most : (m n : ℕ) → ¬ (m ≤ n) → nat_le m n ≡ false
not_most m n not = by_test (nat_le m n) refl
  where
    by_test : (t : Bool) → nat_le m n ≡ t → nat_le m n ≡ false
    by_test true e = absurd (not (most_of m n e))
    by_test false e = e

-- two numbers that are the same pass the test for that
pub is_same : (m n : ℕ) → m ≡ n → (m == n) ≡ true
is_same m n e = grind (arith, nat_tests)

-- two numbers that differ fail the test for being the same
pub is_other : (m n : ℕ) → m ≢ n → (m == n) ≡ false
is_other m n e = grind (arith, nat_tests)
