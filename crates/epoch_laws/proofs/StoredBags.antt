-- Bags in the store: their seals, their number, and what one bag less leaves.
use Rattle.std.proofs.Common.{◌≡◌, ℕ, ◌+◌, ◌≤◌, List, [], ◌∷◌, ◌++◌, length, refl, ap, sym, subst, arith, length-append}
use Rattle.epoch_bags.specs.Stores.{AllExpired, IsInserted}
use Rattle.epoch_laws.specs.Run.{Bag}
use Rattle.epoch_laws.proofs.DeferralEpochs.{SealedBehind}

-- each bag's seal is at most this
abbrev pub SealedBy : ℕ → List Bag → Type 0
SealedBy bound [] = Unit {0}
SealedBy bound (bag ∷ bags) = (bag.seal ≤ bound) × SealedBy bound bags

-- where bags are sealed no later than the epoch, and the epoch is within a bound, so are their seals
pub sealed_by : (when : ℕ → ℕ) (tickets epoch bound : ℕ) (bags : List Bag)
    → epoch ≤ bound → SealedBehind when tickets epoch bags → SealedBy bound bags
sealed_by when tickets epoch bound [] le h = tt
sealed_by when tickets epoch bound (bag ∷ bags) le h =
    (omega (arith, h.0), sealed_by when tickets epoch bound bags le h.2)

-- two epochs past the bound all are expired
pub all_expired : (bound x : ℕ) (bags : List Bag) → bound + 2 ≤ x → SealedBy bound bags → AllExpired x bags
all_expired bound x [] le h = tt
all_expired bound x (bag ∷ bags) le h = (omega (arith, h.0), all_expired bound x bags le h.1)

sealed_without : (bound : ℕ) (front back : List Bag) (bag : Bag)
    → SealedBy bound (front ++ bag ∷ back) → SealedBy bound (front ++ back)
sealed_without bound [] back bag h = h.1
sealed_without bound (x ∷ front) back bag h = (h.0, sealed_without bound front back bag h.1)

-- a bag is taken out
pub sealed_less : (bound : ℕ) (old new : List Bag) (bag : Bag)
    → IsInserted bag new old → SealedBy bound old → SealedBy bound new
sealed_less bound old new bag at h =
    subst (SealedBy bound) (sym at.without)
    (sealed_without bound at.front at.back bag (subst (SealedBy bound) at.with h))

sealed_between : (bound : ℕ) (front back : List Bag) (bag : Bag)
    → SealedBy bound (front ++ back) → bag.seal ≤ bound → SealedBy bound (front ++ bag ∷ back)
sealed_between bound [] back bag h le = (le, h)
sealed_between bound (x ∷ front) back bag h le = (h.0, sealed_between bound front back bag h.1 le)

-- a bag is put in
pub sealed_more : (bound : ℕ) (old new : List Bag) (bag : Bag)
    → IsInserted bag old new → SealedBy bound old → bag.seal ≤ bound → SealedBy bound new
sealed_more bound old new bag at h le =
    subst (SealedBy bound) (sym at.with)
    (sealed_between bound at.front at.back bag (subst (SealedBy bound) at.without h) le)

-- a bag that is taken out leaves one less
pub one_less : (old new : List Bag) (bag : Bag) → IsInserted bag new old → length old ≡ length new + 1
one_less old new bag at =
    omega (
      arith,
      ap length at.with,
      ap length at.without,
      length-append at.front (bag ∷ at.back),
      length-append at.front at.back,
    )

-- where the number of bags is 0 there are none
pub none_left : (bags : List Bag) → length bags ≤ 0 → bags ≡ []
none_left [] le = refl
none_left (x ∷ bags) le = absurd (omega arith)
