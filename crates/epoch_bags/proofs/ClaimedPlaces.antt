-- Places that are claimed, with no bag at home.
use Rattle.std.proofs.Common.{◌≡◌, ◌≢◌, ℕ, zero, suc, ◌<◌, ◌≤◌, List, [], ◌∷◌, Option, Some, None, IsSome, length}
use Rattle.std.proofs.Common.{slice_index_or, slice_set, slice_get, ◌⊎◌, inl, inr, refl, sym, ap, subst, ◌∙◌, arith}
use Rattle.std.proofs.Common.{Bool, true, false, not, ◌==◌, ◌||◌, get_or-set_same, get_or-set_other}
use Rattle.epoch_bags.specs.Bags.{Sealed}
use Rattle.epoch_bags.specs.Stores.{how_many}
use Rattle.epoch_bags.specs.Queues.{first_occupied}
use Rattle.epoch_bags.specs.PlaceLists.{PlaceList, is_place, bags_in, taken_places, homes_taken, IsReservedAt}
use Rattle.epoch_bags.specs.PlaceLists.{LeavesPlace}
use Rattle.epoch_bags.specs.Places.{ReservesAt, ClaimsAt}
use Rattle.epoch_bags.specs.declared.queue.places.PutCursor.{PutCursor}
use Rattle.epoch_bags.specs.declared.queue.places.PutCursor.TheVariants.{Look as PutLook, Claim as PutClaim}
use Rattle.epoch_bags.specs.declared.queue.places.PutCursor.TheVariants.{Fill as PutFill}
use Rattle.epoch_bags.specs.declared.queue.places.TakeCursor.{TakeCursor}
use Rattle.epoch_bags.specs.declared.queue.places.TakeCursor.TheVariants.{Look as TakeLook, Claim as TakeClaim}
use Rattle.epoch_bags.specs.declared.queue.places.TakeCursor.TheVariants.{Empty as TakeEmpty}
use Rattle.epoch_bags.proofs.PlaceWords.{same_or_not, eq_true}

-- as many homes have a bag as there are bags
pub count_homes : {J : Type 0} (homes : List (Option (Sealed J)))
    → how_many (homes_taken homes) ≡ length (bags_in homes)
count_homes [] = refl
count_homes (None ∷ homes) = count_homes homes
count_homes (Some bag ∷ homes) = omega (arith, count_homes homes)

-- the first places are as many as there are
pub count_first : (places taken : ℕ) → taken ≤ places → how_many (first_occupied places taken) ≡ taken
count_first zero taken few = omega arith
count_first (suc places) zero few = count_first places zero (omega arith)
count_first (suc places) (suc taken) few = omega (arith, count_first places taken (omega arith))

-- an occupied place has a bag at home, or is claimed
pub taken_why : {J : Type 0} (words : List ℕ) (homes : List (Option (Sealed J))) (place : ℕ)
    → length words ≡ length homes
    → ((k : ℕ) → is_place (slice_index_or words k 0) (slice_index_or homes k None) ≡ true)
    → slice_get (taken_places words) place ≡ Some true
    → (slice_get (homes_taken homes) place ≡ Some true)
    ⊎ ((slice_index_or words place 0 ≡ 2) × (slice_index_or homes place None ≡ None))
taken_why [] homes place beside matches taken = absurd (cc (taken))
taken_why (word ∷ words) [] place beside matches taken = absurd (omega arith)
taken_why (word ∷ words) (Some bag ∷ homes) zero beside matches taken = inl refl
taken_why (word ∷ words) (None ∷ homes) zero beside matches taken =
    inr (two word (same (word == 0) taken) (matches 0), refl)
  where
    same : (b : Bool) → Some (not b) ≡ Some true → b ≡ false
    same true e = absurd (cc (e))
    same false e = refl

    two : (w : ℕ) → (w == 0) ≡ false → ((w == 0) || (w == 2)) ≡ true → w ≡ 2
    two w off either = eq_true w 2 (subst (λ t. (t || (w == 2)) ≡ true) off either)
taken_why (word ∷ words) (home ∷ homes) (suc place) beside matches taken =
    taken_why words homes place (omega arith) (λ k. matches (suc k)) taken

-- a put that looks or claims has claimed nothing
pub look_reserves : (cursor : PutCursor) (at place : ℕ) → cursor ≡ PutLook at → ¬ (ReservesAt cursor place)
look_reserves cursor at place is r = subst (λ u. ReservesAt u place) is r

-- a put whose next step is to claim a place has claimed none yet
pub claim_reserves : (cursor : PutCursor) (at place : ℕ) → cursor ≡ PutClaim at → ¬ (ReservesAt cursor place)
claim_reserves cursor at place is r = subst (λ u. ReservesAt u place) is r

-- a put whose next step fills a place has claimed no other one
pub fill_reserves : (cursor : PutCursor) (at place : ℕ) → cursor ≡ PutFill at → place ≢ at → ¬ (ReservesAt cursor place)
fill_reserves cursor at place is differs r = differs (subst (λ u. ReservesAt u place) is r)

-- nor has a collection
pub look_claims_none : (cursor : TakeCursor) (at place : ℕ) → cursor ≡ TakeLook at → ¬ (ClaimsAt cursor place)
look_claims_none cursor at place is r = subst (λ u. ClaimsAt u place) is r

-- a collection whose next step is to claim a place has claimed none yet
pub claim_claims_none : (cursor : TakeCursor) (at word place : ℕ)
    → cursor ≡ TakeClaim at word → ¬ (ClaimsAt cursor place)
claim_claims_none cursor at word place is r = subst (λ u. ClaimsAt u place) is r

-- a collection whose next step empties a place has claimed no other one
pub empty_claims : (cursor : TakeCursor) (at place : ℕ) → cursor ≡ TakeEmpty at → place ≢ at → ¬ (ClaimsAt cursor place)
empty_claims cursor at place is differs r = differs (subst (λ u. ClaimsAt u place) is r)

-- a claim that is won claims one place
pub reserves_one : {J : Type 0} (old new : PlaceList J) (at place : ℕ)
    → new.words ≡ slice_set old.words at 2 → new.bags ≡ old.bags
    → IsReservedAt new place → (place ≡ at) ⊎ IsReservedAt old place
reserves_one {J} old new at place words bags reserved = elim (same_or_not place at) [
  | inl here ↦ inl here
  | inr differs ↦ inr (
    sym (get_or-set_other old.words at place 2 0 differs)
        ∙ ap (λ (l : List ℕ). slice_index_or l place 0) (sym words) ∙ reserved.0,
    ap (λ (l : List (Option (Sealed J))). slice_index_or l place None) (sym bags) ∙ reserved.1,
  )
]

-- a claim that is lost claims none
pub reserves_same : {J : Type 0} (old new : PlaceList J) (place : ℕ)
    → new.words ≡ old.words → new.bags ≡ old.bags → IsReservedAt new place → IsReservedAt old place
reserves_same {J} old new place words bags reserved = (
  ap (λ (l : List ℕ). slice_index_or l place 0) (sym words) ∙ reserved.0,
  ap (λ (l : List (Option (Sealed J))). slice_index_or l place None) (sym bags) ∙ reserved.1,
)

-- where a word is written that is not that of a claimed place, the place is let go
pub reserves_less : {J : Type 0} (old new : PlaceList J) (at word place : ℕ) (home : Option (Sealed J))
    → at < length old.words → word ≢ 2
    → new.words ≡ slice_set old.words at word → new.bags ≡ slice_set old.bags at home → IsReservedAt new place
    → IsReservedAt old place × (place ≢ at)
reserves_less {J} old new at word place home within other words bags reserved = elim (same_or_not place at) [
  | inl here ↦
      let there : slice_index_or new.words place 0 ≡ word = ap (λ k. slice_index_or new.words k 0) here
      ∙ ap (λ (l : List ℕ). slice_index_or l at 0) words ∙ get_or-set_same old.words at word 0 within in
      absurd (other (sym there ∙ reserved.0))
  | inr differs ↦ (
    (
      sym (get_or-set_other old.words at place word 0 differs)
          ∙ ap (λ (l : List ℕ). slice_index_or l place 0) (sym words) ∙ reserved.0,
      sym (get_or-set_other old.bags at place home None differs)
          ∙ ap (λ (l : List (Option (Sealed J))). slice_index_or l place None) (sym bags) ∙ reserved.1,
    ),
    differs,
  )
]

-- a place that is let go is not claimed
pub reserves_left : {J : Type 0} (x : ℕ) (old new : PlaceList J) (at place : ℕ)
    → LeavesPlace x old at new → IsReservedAt new place → IsReservedAt old place × (place ≢ at)
reserves_left {J} x old new at place left reserved = elim (same_or_not place at) [
  | inl here ↦ absurd (left.unclaimed (ap (λ k. slice_index_or new.words k 0) (sym here) ∙ reserved.0))
  | inr differs ↦ (
    (
      sym (left.others place differs) ∙ reserved.0,
      ap (λ (l : List (Option (Sealed J))). slice_index_or l place None) (sym left.bags) ∙ reserved.1,
    ),
    differs,
  )
]

-- a place with a bag at home is none of these
pub reserves_not : {J : Type 0} (store : PlaceList J) (at place : ℕ)
    → IsSome (slice_index_or store.bags at None) → IsReservedAt store place → place ≢ at
reserves_not store at place some reserved here =
    absurd (cc (subst (λ k. IsSome (slice_index_or store.bags k None)) (sym here) some, reserved.1))

-- after the last place is none
pub reserves_past : {J : Type 0} (store : PlaceList J) (at place : ℕ)
    → length store.words ≤ at → IsReservedAt store place → place ≢ at
reserves_past {J} store at place past reserved here =
    absurd (omega (arith, reserved.0, none store.words place (omega (arith, past, here))))
  where
    none : (words : List ℕ) (k : ℕ) → length words ≤ k → slice_index_or words k 0 ≡ 0
    none [] k past = refl
    none (word ∷ words) zero past = absurd (omega arith)
    none (word ∷ words) (suc k) past = none words k (omega arith)
