-- How often a guard is in a list of guards, and how many there are, after one is added or taken.
use Rattle.std.proofs.Common.{◌≡◌, ◌≢◌, ◌⊎◌, ℕ, ◌+◌, ◌-◌, ◌≤◌, ◌==◌, ◌||◌, Bool, true, false, List, [], ◌∷◌, length}
use Rattle.std.proofs.Common.{count_by, refl, ap, ◌∙◌, arith, if◌then◌else◌, nat_lt}
use Rattle.std.proofs.lemmas.Bool.Decides.{nat_tests}
use Rattle.std.proofs.lemmas.List.Sums.{sum_by-cons, count_by-le-length}
use Rattle.epoch_laws.specs.declared.histories.known.GuardChange.{GuardChange}
use Rattle.epoch_laws.specs.declared.histories.known.GuardChange.TheVariants.{Takes}
use Rattle.epoch_laws.specs.Known.{changed}
use Rattle.epoch_laws.specs.Run.{is_out, without}

abbrev pub times_in : ℕ → List ℕ → ℕ
times_in g guards = count_by (λ (other : ℕ). other == g) guards

times_cons : (g h : ℕ) (guards : List ℕ)
    → times_in g (h ∷ guards) ≡ (if h == g then 1 else 0) + times_in g guards
times_cons g h guards = sum_by-cons (λ (other : ℕ). if other == g then 1 else 0) h guards

-- no more than there are guards
few : (g : ℕ) (guards : List ℕ) → times_in g guards ≤ length guards
few g guards = count_by-le-length (λ (other : ℕ). other == g) guards

times_without : (g h : ℕ) (guards : List ℕ)
    → times_in g (without h guards) ≡ (if h == g then times_in g guards - 1 else times_in g guards)
times_without g h [] = grind (arith, nat_tests)
times_without g h (x ∷ guards) = at_first (times_without g h guards) (x == h) (grind (arith, nat_tests))
  where
    at_first : times_in g (without h guards) ≡ (if h == g then times_in g guards - 1 else times_in g guards)
        → (first : Bool) → ((first ≡ true) × (x ≡ h)) ⊎ ((first ≡ false) × (x ≢ h))
        → times_in g (if first then guards else x ∷ without h guards)
        ≡ (if h == g then times_in g (x ∷ guards) - 1 else times_in g (x ∷ guards))
    at_first rest true tells = grind (arith, nat_tests, times_cons g x guards)
    at_first rest false tells = grind (arith, nat_tests, times_cons g x guards, times_cons g x (without h guards))

-- a guard that is taken away is in the list once less, if it was, and every other as often as before
pub times_taken : (g h : ℕ) (change : GuardChange) (guards : List ℕ) → change ≡ Takes h
    → times_in g (changed change guards) ≡ (if h == g then times_in g guards - 1 else times_in g guards)
times_taken g h change guards is =
    ap (λ (made : GuardChange). times_in g (changed made guards)) is ∙ times_without g h guards

-- a guard that is among them leaves one fewer
pub length_without : (h : ℕ) (guards : List ℕ)
    → length (without h guards) ≡ (if nat_lt 0 (times_in h guards) then length guards - 1 else length guards)
length_without h [] = grind (arith, nat_tests)
length_without h (x ∷ guards) = at_first (length_without h guards) (x == h) (grind (arith, nat_tests))
  where
    at_first : length (without h guards) ≡ (if nat_lt 0 (times_in h guards) then length guards - 1 else length guards)
        → (first : Bool) → ((first ≡ true) × (x ≡ h)) ⊎ ((first ≡ false) × (x ≢ h))
        → length (if first then guards else x ∷ without h guards)
        ≡ (if nat_lt 0 (times_in h (x ∷ guards)) then length (x ∷ guards) - 1 else length (x ∷ guards))
    at_first rest true tells = grind (arith, nat_tests, times_cons h x guards)
    at_first rest false tells = grind (arith, nat_tests, times_cons h x guards, few h guards)

-- a guard is out where it is counted
pub out_counted : (g : ℕ) (guards : List ℕ) → is_out g guards ≡ nat_lt 0 (times_in g guards)
out_counted g [] = grind (arith, nat_tests)
out_counted g (x ∷ guards) = at_first (x == g) refl (out_counted g guards)
  where
    at_first : (first : Bool) → (x == g) ≡ first → is_out g guards ≡ nat_lt 0 (times_in g guards)
        → (first || is_out g guards) ≡ nat_lt 0 (times_in g (x ∷ guards))
    at_first true same rest = grind (arith, nat_tests, times_cons g x guards)
    at_first false other rest = grind (arith, nat_tests, times_cons g x guards)

-- a list of one guard, in which this guard is once, is of this guard alone
pub only_one : (g : ℕ) (guards : List ℕ) → length guards ≡ 1 → times_in g guards ≡ 1 → guards ≡ g ∷ []
only_one g [] one times = absurd (omega arith)
only_one g (x ∷ []) one times = ap (λ (k : ℕ). k ∷ []) (grind (arith, nat_tests, times_cons g x []))
only_one g (x ∷ y ∷ guards) one times = absurd (omega arith)

-- in a list of this guard alone, it is once
pub times_of_one : (g : ℕ) → times_in g (g ∷ []) ≡ 1
times_of_one g = grind (arith, nat_tests, times_cons g g [])
