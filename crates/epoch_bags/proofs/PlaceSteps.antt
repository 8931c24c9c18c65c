-- What the steps at one place do to the store.
use Rattle.std.proofs.Common.{◌≡◌, ◌≢◌, ℕ, ◌+◌, ◌<◌, ◌≤◌, List, [], ◌∷◌, Option, Some, None, IsSome, length}
use Rattle.std.proofs.Common.{slice_index_or, slice_set, slice_get, inl, inr, sym, ap, subst, ◌∙◌, arith, true}
use Rattle.std.proofs.Common.{get_or-set_same, get_or-set_other}
use Rattle.epoch_bags.specs.Bags.{Sealed}
use Rattle.epoch_bags.specs.Stores.{IsInserted, TakesAny}
use Rattle.epoch_bags.specs.PlaceLists.{PlaceList, ArePlaces, bags_in, taken_places, IsClaimedAt, Fills, Empties}
use Rattle.epoch_bags.proofs.PlaceWords.{same_or_not, bag_seen, seen_taken}
use Rattle.epoch_bags.proofs.PlacedBags.{put_in, take_out}

-- the place just passed is the one that was seen occupied
pub passed_one : (words : List ℕ) (at place : ℕ)
    → at < length words → slice_index_or words at 0 ≢ 0 → at ≤ place → place < at + 1
    → slice_get (taken_places words) place ≡ Some true
passed_one words at place within seen from below =
    let here : at ≡ place = omega arith in
    subst (λ k. slice_get (taken_places words) k ≡ Some true) here (seen_taken words at within seen)

-- an empty place that is claimed holds no bag
pub claims_empty : {J : Type 0} (old new : PlaceList J) (at : ℕ) → at < length old.words → ArePlaces old.words old.bags
    → slice_index_or old.words at 0 ≡ 0 → new.words ≡ slice_set old.words at 2 → new.bags ≡ old.bags
    → (place : ℕ) → IsClaimedAt new place → IsClaimedAt old place
claims_empty {J} old new at within agree empty words bags place claimed = elim (same_or_not place at) [
  | inl here ↦
      let home : IsSome (slice_index_or old.bags at None) = subst (λ k. IsSome (slice_index_or old.bags k None)) here
      (subst (λ (l : List (Option (Sealed J))). IsSome (slice_index_or l place None)) bags claimed.1) in
      absurd (bag_seen (slice_index_or old.words at 0) (slice_index_or old.bags at None)
      (agree.words_match at) home empty)
  | inr differs ↦ (
    sym (get_or-set_other old.words at place 2 0 differs)
        ∙ ap (λ (l : List ℕ). slice_index_or l place 0) (sym words) ∙ claimed.0,
    subst (λ (l : List (Option (Sealed J))). IsSome (slice_index_or l place None)) bags claimed.1,
  )
]

-- a fill puts its bag into the store
pub fills_bag : {J : Type 0} (old new : PlaceList J) (at : ℕ) (bag : Sealed J)
    → at < length old.words → ArePlaces old.words old.bags
    → Fills old at bag new → IsInserted bag (bags_in old.bags) (bags_in new.bags)
fills_bag {J} old new at bag within agree filled =
    subst (λ (l : List (Option (Sealed J))). IsInserted bag (bags_in old.bags) (bags_in l)) (sym filled.bags)
    (put_in old.bags at bag (omega (arith, agree.beside)) filled.was_empty)

-- an emptied place gives its bag
pub empties_bag : {J : Type 0} (old new : PlaceList J) (at : ℕ) (bag : Sealed J)
    → Empties old at bag new → IsInserted bag (bags_in new.bags) (bags_in old.bags)
empties_bag {J} old new at bag emptied =
    subst (λ (l : List (Option (Sealed J))). IsInserted bag (bags_in l) (bags_in old.bags)) (sym emptied.bags)
    (take_out old.bags at bag emptied.was_there)

-- there are no more bags than places
pub few_bags : {J : Type 0} (homes : List (Option (Sealed J))) → length (bags_in homes) ≤ length homes
few_bags [] = omega arith
few_bags (None ∷ homes) = omega (arith, few_bags homes)
few_bags (Some bag ∷ homes) = omega (arith, few_bags homes)

-- a place that is cleared gives its bag
pub clears_bag : {J : Type 0} (homes new : List (Option (Sealed J))) (at : ℕ) (taken : Option (Sealed J))
    → taken ≡ slice_index_or homes at None → IsSome (slice_index_or homes at None)
    → new ≡ slice_set homes at None → TakesAny (bags_in homes) taken (bags_in new)
clears_bag homes new at None is there cleared = absurd (nothing (slice_index_or homes at None) (sym is) there)
  where
    nothing : {A : Type 0} (o : Option A) → o ≡ None → ¬ (IsSome o)
    nothing o none some = cc (none, some)
clears_bag {J} homes new at (Some bag) is there cleared =
    subst (λ (l : List (Option (Sealed J))). IsInserted bag (bags_in l) (bags_in homes)) (sym cleared)
    (take_out homes at bag (sym is))

-- clearing a place claims none
pub clears_claim : {J : Type 0} (old new : PlaceList J) (at : ℕ) → at < length old.words
    → new.words ≡ slice_set old.words at 0 → new.bags ≡ slice_set old.bags at None → (place : ℕ)
    → IsClaimedAt new place → IsClaimedAt old place
clears_claim {J} old new at within words bags place claimed = elim (same_or_not place at) [
  | inl same ↦
      let zero_word : slice_index_or new.words place 0 ≡ 0 = ap (λ k. slice_index_or new.words k 0) same
      ∙ ap (λ (l : List ℕ). slice_index_or l at 0) words ∙ get_or-set_same old.words at 0 0 within in
      absurd (omega (arith, zero_word, claimed.0))
  | inr differs ↦ (
    sym (get_or-set_other old.words at place 0 0 differs)
        ∙ ap (λ (l : List ℕ). slice_index_or l place 0) (sym words) ∙ claimed.0,
    subst IsSome (ap (λ (l : List (Option (Sealed J))). slice_index_or l place None) bags
        ∙ get_or-set_other old.bags at place None None differs) claimed.1,
  )
]
