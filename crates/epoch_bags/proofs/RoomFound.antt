-- Whether a put over numbered places will find one.
use Rattle.std.proofs.Common.{◌≡◌, ◌≢◌, ℕ, zero, suc, ◌+◌, ◌<◌, ◌≤◌, List, [], ◌∷◌, Option, Some, None, IsSome, drop}
use Rattle.std.proofs.Common.{length, slice_index_or, slice_get, refl, sym, ap, subst, ◌∙◌, arith, Bool, true, false}
use Rattle.std.proofs.Common.{not, is_some, ◌==◌, ◌||◌, if◌then◌else◌, add-one, drop-cons}
use Rattle.epoch_bags.specs.Bags.{Sealed}
use Rattle.epoch_bags.specs.Stores.{FindsRoom}
use Rattle.epoch_bags.specs.declared.queue.PutStep.{PutStep}
use Rattle.epoch_bags.specs.declared.queue.PutStep.TheVariants.{Again as PutAgain, Full as PutFull}
use Rattle.epoch_bags.specs.declared.queue.places.PutCursor.{PutCursor}
use Rattle.epoch_bags.specs.declared.queue.places.PutCursor.TheVariants.{Look as PutLook, Claim as PutClaim}
use Rattle.epoch_bags.specs.declared.queue.places.PutCursor.TheVariants.{Fill as PutFill}
use Rattle.epoch_bags.specs.PlaceLists.{PlaceList, ArePlaces, taken_places}
use Rattle.epoch_bags.specs.Places.{put_passed, has_empty, is_home_free, has_room}
use Rattle.epoch_bags.proofs.PlaceWords.{eq_true, bag_seen}
use Rattle.epoch_bags.proofs.NumberTests.{is_other}

-- what the word at a place, and those after it, say
empty_at : (words : List ℕ) (at : ℕ) → at < length words
    → has_empty (drop at words) ≡ ((slice_index_or words at 0 == 0) || has_empty (drop (at + 1) words))
empty_at words at within = rw add-one (ap has_empty (drop-cons words at 0 within))

empty_past : (words : List ℕ) (at : ℕ) → length words ≤ at → has_empty (drop at words) ≡ false
empty_past [] zero past = refl
empty_past [] (suc at) past = refl
empty_past (word ∷ words) zero past = absurd (omega arith)
empty_past (word ∷ words) (suc at) past = empty_past words at (omega arith)

home_there : {A : Type 0} (homes : List (Option A)) (at : ℕ) (home : Option A)
    → at < length homes → slice_index_or homes at None ≡ home → slice_get homes at ≡ Some home
home_there [] at home within is = absurd (omega arith)
home_there (h ∷ homes) zero home within is = ap Some is
home_there (h ∷ homes) (suc at) home within is = home_there homes at home (omega arith) is

-- past the last place there is none
pub room_past : {J : Type 0} (store : PlaceList J) (cursor : PutCursor)
    → length store.words ≤ put_passed cursor → length store.words ≡ length store.bags → has_room store cursor ≡ false
room_past store (PutLook at) past beside = empty_past store.words at past
room_past store (PutClaim at) past beside = empty_past store.words at past
room_past {J} store (PutFill at) past beside =
    ap (λ (o : Option (Option (Sealed J))). is_home_free o || has_empty (drop (at + 1) store.words))
    (none_past store.bags at (omega arith)) ∙ empty_past store.words (at + 1) (omega arith)
  where
    none_past : {A : Type 0} (xs : List A) (i : ℕ) → length xs ≤ i → slice_get xs i ≡ None
    none_past [] i past = refl
    none_past (x ∷ xs) zero past = absurd (omega arith)
    none_past (x ∷ xs) (suc i) past = none_past xs i (omega arith)

-- a place that is seen occupied is passed
pub room_passed : {J : Type 0} (store : PlaceList J) (at : ℕ) → at < length store.words
    → slice_index_or store.words at 0 ≢ 0 → has_room store (PutLook (at + 1)) ≡ has_room store (PutLook at)
room_passed store at within seen =
    sym (empty_at store.words at within
    ∙ ap (λ (b : Bool). b || has_empty (drop (at + 1) store.words)) (is_other (slice_index_or store.words at 0) 0 seen))

-- an empty place that is claimed has room
pub room_claimed : {J : Type 0} (old new : PlaceList J) (at : ℕ)
    → at < length old.words → ArePlaces old.words old.bags → slice_index_or old.words at 0 ≡ 0 → new.bags ≡ old.bags
    → has_room new (PutFill at) ≡ has_room old (PutClaim at)
room_claimed {J} old new at within agree empty bags =
    ap (λ (o : Option (Option (Sealed J))). is_home_free o || has_empty (drop (at + 1) new.words))
    (ap (λ (l : List (Option (Sealed J))). slice_get l at) bags
    ∙ home_there old.bags at None (omega (arith, agree.beside)) (none (slice_index_or old.bags at None) refl))
    ∙ sym (empty_at old.words at within ∙ ap (λ (w : ℕ). (w == 0) || has_empty (drop (at + 1) old.words)) empty)
  where
    none : (home : Option (Sealed J)) → slice_index_or old.bags at None ≡ home → slice_index_or old.bags at None ≡ None
    none None e = e
    none (Some bag) e = absurd (bag_seen (slice_index_or old.words at 0) (slice_index_or old.bags at None)
        (agree.words_match at) (ap is_some e) empty)

-- what is filled had room
pub room_filled : {J : Type 0} (store : PlaceList J) (at : ℕ)
    → at < length store.bags → slice_index_or store.bags at None ≡ None → has_room store (PutFill at) ≡ true
room_filled {J} store at within none = ap (λ (o : Option (Option (Sealed J))). is_home_free o
    || has_empty (drop (at + 1) store.words)) (home_there store.bags at None within none)

-- a place with a bag at home is passed
pub room_taken : {J : Type 0} (store : PlaceList J) (at : ℕ) → at < length store.bags
    → IsSome (slice_index_or store.bags at None) → has_room store (PutLook (at + 1)) ≡ has_room store (PutFill at)
room_taken {J} store at within some = by_home (slice_index_or store.bags at None) refl some
  where
    by_home : (home : Option (Sealed J)) → slice_index_or store.bags at None ≡ home → IsSome home
        → has_room store (PutLook (at + 1)) ≡ has_room store (PutFill at)
    by_home None e some = absurd (cc (some))
    by_home (Some bag) e some = sym (ap (λ (o : Option (Option (Sealed J))). is_home_free o
        || has_empty (drop (at + 1) store.words)) (home_there store.bags at (Some bag) within e))

-- the answer of a put that goes on after its place
pub puts_on : {J : Type 0} (store : PlaceList J) (cursor : PutCursor) (result : PutStep) (at places : ℕ) (before : Bool)
    → places ≡ length store.words → cursor ≡ PutLook (at + 1)
    → result ≡ (if at + 1 == places then PutFull else PutAgain) → has_room store (PutLook (at + 1)) ≡ before
    → FindsRoom before result (has_room store cursor)
puts_on store cursor result at places before count is answers same =
    subst (λ u. FindsRoom before result (has_room store u)) (sym is) (subst (λ r. FindsRoom before r
    (has_room store (PutLook (at + 1)))) (sym answers) (by_test (at + 1 == places) refl))
  where
    by_test : (t : Bool) → (at + 1 == places) ≡ t
        → FindsRoom before (if t then PutFull else PutAgain) (has_room store (PutLook (at + 1)))
    by_test true e =
        let last : at + 1 ≡ places = eq_true (at + 1) places e in
        sym same ∙ empty_past store.words (at + 1) (omega arith)
    by_test false e = same

-- where a place is free, a put that begins has room
pub free_room : (words : List ℕ) (place : ℕ)
    → slice_get (taken_places words) place ≡ Some false → has_empty words ≡ true
free_room [] place free = absurd (cc (free))
free_room (word ∷ words) zero free = ap (λ (b : Bool). b || has_empty words) (is_zero (word == 0) (same free))
  where
    is_zero : (b : Bool) → not b ≡ false → b ≡ true
    is_zero true e = refl
    is_zero false e = absurd (cc (e))

    same : Some (not (word == 0)) ≡ Some false → not (word == 0) ≡ false
    same e = cc (e)
free_room (word ∷ words) (suc place) free = either (word == 0) (free_room words place free)
  where
    either : (b : Bool) → has_empty words ≡ true → (b || has_empty words) ≡ true
    either true e = refl
    either false e = e
