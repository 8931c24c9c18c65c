-- Lists of guards: which is the only one, and whether one is left.
use Rattle.std.proofs.Common.{◌≡◌, ◌≢◌, ℕ, ◌==◌, Bool, true, false, not, List, [], ◌∷◌, ◌++◌, length, refl, ap, ◌∙◌}
use Rattle.std.proofs.Common.{arith, if◌then◌else◌}
use Rattle.std.proofs.lemmas.Bool.Decides.{nat_tests}
use Rattle.epoch_machine.specs.Machine.{is_empty}
use Rattle.epoch_laws.specs.Run.{is_out, without}

abbrev pub has_any : List ℕ → Bool
has_any guards = not (is_empty guards)

-- a list that counts no guards passes the test for being empty
pub none_left : (guards : List ℕ) → length guards ≡ 0 → is_empty guards ≡ true
none_left [] e = refl
none_left (g ∷ guards) e = absurd (omega arith)

-- a list that counts no guards is the empty one
pub none_is : (guards : List ℕ) → length guards ≡ 0 → guards ≡ []
none_is [] e = refl
none_is (g ∷ guards) e = absurd (omega arith)

-- a list that counts some guards isn't empty
pub some_left : (guards : List ℕ) → length guards ≢ 0 → is_empty guards ≡ false
some_left [] e = absurd (e refl)
some_left (g ∷ guards) e = refl

-- where a guard is out, the list isn't empty
pub some_out : (g : ℕ) (guards : List ℕ) → is_out g guards ≡ true → is_empty guards ≡ false
some_out g [] out = absurd (cc)
some_out g (x ∷ guards) out = refl

-- the one guard that is out
pub only_out : (g : ℕ) (guards : List ℕ) → length guards ≡ 1 → is_out g guards ≡ true → guards ≡ g ∷ []
only_out g [] one out = absurd (omega arith)
only_out g (x ∷ y ∷ guards) one out = absurd (omega arith)
only_out g (x ∷ []) one out = ap (λ (k : ℕ). k ∷ []) (grind (arith, nat_tests))

-- without its only guard, a list is empty
pub none_without : (g : ℕ) (guards : List ℕ) → guards ≡ g ∷ [] → is_empty (without g guards) ≡ true
none_without g guards one = ap (λ (gs : List ℕ). is_empty (without g gs)) one ∙ itself
  where
    itself : is_empty (if g == g then [] else g ∷ []) ≡ true
    itself = grind (arith, nat_tests)

-- of more guards than one, some are left without one of them
pub some_without : (g : ℕ) (guards : List ℕ) → length guards ≢ 1 → is_out g guards ≡ true
    → is_empty (without g guards) ≡ false
some_without g [] more out = absurd (cc)
some_without g (x ∷ []) more out = absurd (more refl)
some_without g (x ∷ y ∷ guards) more out = at_first (x == g)
  where
    at_first : (b : Bool) → is_empty (if b then y ∷ guards else x ∷ without g (y ∷ guards)) ≡ false
    at_first true = refl
    at_first false = refl

-- with one more guard, a list isn't empty
pub some_with : (guards : List ℕ) (g : ℕ) → is_empty (guards ++ g ∷ []) ≡ false
some_with [] g = refl
some_with (x ∷ guards) g = refl
