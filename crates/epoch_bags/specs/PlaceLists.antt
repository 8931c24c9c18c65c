-- A list of places, each a word and a home for a bag.
use Rattle.std.specs.Prelude.{◌≡◌, ◌≢◌, ℕ, ◌+◌, ◌*◌, ◌<◌, ◌≤◌, List, [], ◌∷◌, ◌++◌, Option, Some, None, IsSome, length}
use Rattle.std.specs.Prelude.{slice_index_or, slice_set, Bool, true, not, is_some, ◌==◌, ◌||◌, suc, refl}
use Rattle.std.proofs.Common.{ap}
use Rattle.std.specs.Option.{option_to_list}
use Rattle.epoch_bags.specs.Bags.{Sealed, IsExpired}

-- the words, and beside each the bag at home there
pub record PlaceList (J : Type 0) : Type 0 where
  pub words : List ℕ
  pub bags : List (Option (Sealed J))

-- The word tells what is at home, save that a claimed place may be with or without a bag.
abbrev pub is_place : {J : Type 0} → ℕ → Option (Sealed J) → Bool
is_place word None = (word == 0) || (word == 2)
is_place word (Some bag) = (word == 2) || (word == 2 * bag.seal + 1)

-- There are 1 to 4096 places, and each word is that of its place.
pub record ArePlaces {J : Type 0} (words : List ℕ) (bags : List (Option (Sealed J))) : Type 0 where
  pub some : 0 < length words
  pub most : length words ≤ 4096
  pub beside : length words ≡ length bags
  pub words_match : (place : ℕ) → is_place (slice_index_or words place 0) (slice_index_or bags place None) ≡ true

-- the bags at home, in the order of the places
abbrev pub bags_in : {J : Type 0} → List (Option (Sealed J)) → List (Sealed J)
bags_in [] = []
bags_in (home ∷ homes) = option_to_list home ++ bags_in homes

-- for each place, whether its word is another than that of an empty one
abbrev pub taken_places : List ℕ → List Bool
taken_places [] = []
taken_places (word ∷ words) = not (word == 0) ∷ taken_places words

-- there are as many as places
pub length-taken_places : (words : List ℕ) → length (taken_places words) ≡ length words
length-taken_places [] = refl
length-taken_places (word ∷ words) = ap suc (length-taken_places words)

-- for each place, whether a bag is at home there
abbrev pub homes_taken : {J : Type 0} → List (Option (Sealed J)) → List Bool
homes_taken [] = []
homes_taken (home ∷ homes) = is_some home ∷ homes_taken homes

-- at this place stands a bag that a collection has claimed
abbrev pub IsClaimedAt : {J : Type 0} → PlaceList J → ℕ → Type 0
IsClaimedAt store place = (slice_index_or store.words place 0 ≡ 2) × IsSome (slice_index_or store.bags place None)

-- this place is claimed, and no bag is at home there
abbrev pub IsReservedAt : {J : Type 0} → PlaceList J → ℕ → Type 0
IsReservedAt store place = (slice_index_or store.words place 0 ≡ 2) × (slice_index_or store.bags place None ≡ None)

-- the place has no bag at home, and then this one, with the word that tells its seal
pub record Fills {J : Type 0} (old : PlaceList J) (place : ℕ) (bag : Sealed J) (new : PlaceList J) : Type 0 where
  pub was_empty : slice_index_or old.bags place None ≡ None
  pub words : new.words ≡ slice_set old.words place (2 * bag.seal + 1)
  pub bags : new.bags ≡ slice_set old.bags place (Some bag)

-- this bag is at home at the place, and then none
pub record Empties {J : Type 0} (old : PlaceList J) (place : ℕ) (bag : Sealed J) (new : PlaceList J) : Type 0 where
  pub was_there : slice_index_or old.bags place None ≡ Some bag
  pub words : new.words ≡ slice_set old.words place 0
  pub bags : new.bags ≡ slice_set old.bags place None

-- No bag moves, the place is not left claimed, and a bag at home there is not expired for the epoch x.
pub record LeavesPlace {J : Type 0} (x : ℕ) (old : PlaceList J) (place : ℕ) (new : PlaceList J) : Type 0 where
  pub bags : new.bags ≡ old.bags
  pub as_many : length new.words ≡ length old.words
  pub unclaimed : slice_index_or new.words place 0 ≢ 2
  pub others : (other : ℕ) → other ≢ place → slice_index_or new.words other 0 ≡ slice_index_or old.words other 0
  pub not_expired : (bag : Sealed J) → slice_index_or old.bags place None ≡ Some bag → ¬ (IsExpired x bag)
