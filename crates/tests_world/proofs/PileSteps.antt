-- What a collection finds that goes down a pile.
use Rattle.std.proofs.Common.{◌≡◌, ℕ, zero, suc, ◌+◌, ◌≤◌, nat_le, min, List, [], ◌∷◌, ◌++◌, take, drop, length}
use Rattle.std.proofs.Common.{slice_index_or, refl, ap, ◌∙◌, arith, add-one}
use Rattle.std.proofs.Math.Seq.{take-length}
use Rattle.epoch_bags.specs.Bags.{Sealed, IsExpired}
use Rattle.epoch_bags.specs.Places.{one_if}
use Rattle.epoch_bags.specs.Stores.{AllExpired}
use Rattle.epoch_bags.proofs.NumberTests.{at_most, not_most}
use Rattle.tests_world.specs.Piles.{expired_count}

-- where none is left to be looked at, none is expired
pub none_below : {J : Type 0} (x cursor : ℕ) (bags : List (Sealed J))
    → min cursor (length bags) ≡ 0 → expired_count x (take cursor bags) ≡ 0
none_below x zero bags none = refl
none_below x (suc cursor) [] none = refl
none_below x (suc cursor) (bag ∷ bags) none = absurd (omega (arith, none))

-- the one that is looked at next counts if it is expired
one_below : {J : Type 0} (x cursor place : ℕ) (bags : List (Sealed J)) (other : Sealed J)
    → min cursor (length bags) ≡ place + 1
    → expired_count x (take cursor bags)
    ≡ expired_count x (take place bags) + one_if (nat_le ((slice_index_or bags place other).seal + 2) x)
one_below x zero place bags other is = absurd (omega (arith, is))
one_below x (suc cursor) place [] other is = absurd (omega (arith, is))
one_below x (suc cursor) zero (bag ∷ bags) other is = omega (arith, none_below x cursor bags (omega (arith, is)))
one_below x (suc cursor) (suc place) (bag ∷ bags) other is =
    omega (arith, one_below x cursor place bags other (omega (arith, is)))

-- one that isn't expired is passed
pub one_passed : {J : Type 0} (x cursor place : ℕ) (bags : List (Sealed J)) (bag : Sealed J)
    → min cursor (length bags) ≡ place + 1
    → bag ≡ slice_index_or bags place bag
    → ¬ (IsExpired x bag) → expired_count x (take cursor bags) ≡ expired_count x (take place bags)
one_passed {J} x cursor place bags bag is at late =
    omega (
      arith,
      one_below x cursor place bags bag is,
      ap (λ (b : Sealed J). one_if (nat_le (b.seal + 2) x)) at,
      ap one_if (not_most (bag.seal + 2) x late),
    )

-- those below one that is taken out stay
below_kept : {A : Type 0} (place : ℕ) (xs : List A)
    → place ≤ length xs → take place (take place xs ++ drop (suc place) xs) ≡ take place xs
below_kept zero xs le = refl
below_kept (suc place) [] le = absurd (omega arith)
below_kept (suc place) (x ∷ xs) le = ap (λ (ys : List _). x ∷ ys) (below_kept place xs (omega arith))

-- one that is expired is taken
pub one_taken : {J : Type 0} (x cursor place : ℕ) (old new : List (Sealed J)) (bag : Sealed J)
    → min cursor (length old) ≡ place + 1
    → bag ≡ slice_index_or old place bag → IsExpired x bag → new ≡ take place old ++ drop (place + 1) old
    → expired_count x (take cursor old) ≡ expired_count x (take place new) + 1
one_taken {J} x cursor place old new bag is at expired rest =
    let kept : take place new ≡ take place old =
    ap (take place) rest ∙ rw add-one (below_kept place old (omega (arith, is))) in
    omega (
      arith,
      one_below x cursor place old bag is,
      ap (λ (b : Sealed J). one_if (nat_le (b.seal + 2) x)) at,
      ap one_if (at_most (bag.seal + 2) x expired),
      ap (expired_count x) kept,
    )

-- where all are expired, all count
all_count : {J : Type 0} (x : ℕ) (bags : List (Sealed J)) → AllExpired x bags → expired_count x bags ≡ length bags
all_count x [] all = refl
all_count x (bag ∷ bags) all = omega (arith, ap one_if (at_most (bag.seal + 2) x all.0), all_count x bags all.1)

pub all_below : {J : Type 0} (x : ℕ) (bags : List (Sealed J))
    → AllExpired x bags → expired_count x (take (length bags) bags) ≡ length bags
all_below x bags all = ap (expired_count x) (take-length bags) ∙ all_count x bags all
