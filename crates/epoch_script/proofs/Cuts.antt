-- What a cut at the first byte of a kind gives.
use Rattle.std.proofs.Common.{◌≡◌, ◌≢◌, ℕ, ◌<◌, List, [], ◌∷◌, ◌++◌, length, get_or, Option, Some, None, Bor, suc}
use Rattle.std.proofs.Common.{arith, refl}
use Rattle.std.proofs.lemmas.Bool.Decides.{nat_tests}
use Rattle.std.proofs.lemmas.Str.Pattern.{IsSplitOnceResult, split_parts}
use Rattle.epoch_script.specs.Words.{before, behind}

-- no byte is this one
abbrev pub Lacks : ℕ → List ℕ → Type 0
Lacks m bs = (i : ℕ) → i < length bs → get_or bs i 0 ≢ m

lacks_behind : (m b : ℕ) (bs : List ℕ) → Lacks m (b ∷ bs) → Lacks m bs
lacks_behind m b bs lacks i within = lacks (suc i) (omega arith)

lacks_first : (m b : ℕ) (bs : List ℕ) → Lacks m (b ∷ bs) → b ≢ m
lacks_first m b bs lacks = lacks 0 (omega arith)

-- where the front lacks the byte, the front is what stands before the first one
pub before_mark : (m : ℕ) (front back : List ℕ) → Lacks m front → before m (front ++ m ∷ back) ≡ front
before_mark m [] back lacks = grind (arith, nat_tests)
before_mark m (b ∷ bs) back lacks =
    grind (arith, nat_tests, lacks_first m b bs lacks, before_mark m bs back (lacks_behind m b bs lacks))

-- where the front lacks the byte, the back is what stands after the first one
pub behind_mark : (m : ℕ) (front back : List ℕ) → Lacks m front → behind m (front ++ m ∷ back) ≡ Some back
behind_mark m [] back lacks = grind (arith, nat_tests)
behind_mark m (b ∷ bs) back lacks =
    grind (arith, nat_tests, lacks_first m b bs lacks, behind_mark m bs back (lacks_behind m b bs lacks))

-- where a text lacks the byte, what stands before it is the whole text
pub before_whole : (m : ℕ) (bs : List ℕ) → Lacks m bs → before m bs ≡ bs
before_whole m [] lacks = refl
before_whole m (b ∷ bs) lacks =
    grind (arith, nat_tests, lacks_first m b bs lacks, before_whole m bs (lacks_behind m b bs lacks))

-- where a text lacks the byte, nothing stands after it
pub behind_none : (m : ℕ) (bs : List ℕ) → Lacks m bs → behind m bs ≡ None
behind_none m [] lacks = refl
behind_none m (b ∷ bs) lacks =
    grind (arith, nat_tests, lacks_first m b bs lacks, behind_none m bs (lacks_behind m b bs lacks))

module _ (m : ℕ) (one_byte : m < 128) (bs : List ℕ) (r : Option (Bor (List ℕ) × Bor (List ℕ)))
    (split : IsSplitOnceResult m bs r) where
  pub first_of_cut : (x : Bor (List ℕ) × Bor (List ℕ)) → r ≡ Some x → before m bs ≡ x.0.now
  first_of_cut x is =
      let (parts, lacks) = rw is at (split_parts m bs r split one_byte) in
      rw parts (before_mark m x.0.now x.1.now lacks)

  pub others_of_cut : (x : Bor (List ℕ) × Bor (List ℕ)) → r ≡ Some x → behind m bs ≡ Some x.1.now
  others_of_cut x is =
      let (parts, lacks) = rw is at (split_parts m bs r split one_byte) in
      rw parts (behind_mark m x.0.now x.1.now lacks)

  pub first_uncut : r ≡ None → before m bs ≡ bs
  first_uncut is = before_whole m bs (rw is at (split_parts m bs r split one_byte))

  pub others_uncut : r ≡ None → behind m bs ≡ None
  others_uncut is = behind_none m bs (rw is at (split_parts m bs r split one_byte))
