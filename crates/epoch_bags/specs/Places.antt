-- Numbered places: their words, and the bags at home beside them.
use Rattle.std.specs.Prelude.{◌≡◌, ℕ, ◌+◌, ◌-◌, ◌*◌, ◌/◌, ◌%◌, ◌==◌, nat_le, Bool, true, false, ◌&&◌, ◌||◌}
use Rattle.std.specs.Prelude.{if◌then◌else◌, List, [], ◌∷◌, Option, None, Some, drop, slice_get, slice_index_or}
use Rattle.epoch_bags.specs.Bags.{Sealed}
use Rattle.epoch_bags.specs.PlaceLists.{PlaceList}
use Rattle.epoch_bags.specs.declared.queue.places.PutCursor.{PutCursor}
use Rattle.epoch_bags.specs.declared.queue.places.PutCursor.TheVariants.{Look as PutLook, Claim as PutClaim, Fill}
use Rattle.epoch_bags.specs.declared.queue.places.TakeCursor.{TakeCursor}
use Rattle.epoch_bags.specs.declared.queue.places.TakeCursor.TheVariants.{Look as TakeLook, Claim as TakeClaim, Empty}

-- the place that the put's next step is at, which is how many it has passed
abbrev pub put_passed : PutCursor → ℕ
put_passed (PutLook place) = place
put_passed (PutClaim place) = place
put_passed (Fill place) = place

-- the put has claimed this place, and fills it next
abbrev pub ReservesAt : PutCursor → ℕ → Type 0
ReservesAt (PutLook at) place = ⊥
ReservesAt (PutClaim at) place = ⊥
ReservesAt (Fill at) place = place ≡ at

-- how many steps a put takes at most before one past the last place
abbrev pub put_left : ℕ → PutCursor → ℕ
put_left places (PutLook place) = 3 * (places - place)
put_left places (PutClaim place) = 3 * (places - place) - 1
put_left places (Fill place) = 3 * (places - place) - 2

-- one of these words is that of an empty place
abbrev pub has_empty : List ℕ → Bool
has_empty [] = false
has_empty (word ∷ words) = (word == 0) || has_empty words

-- a place without a bag at home
abbrev pub is_home_free : {J : Type 0} → Option (Option (Sealed J)) → Bool
is_home_free (Some None) = true
is_home_free _ = false

-- a put at this cursor will find a place if nobody else changes one: the place that it has claimed, or one from its own
-- place on
abbrev pub has_room : {J : Type 0} → PlaceList J → PutCursor → Bool
has_room store (PutLook at) = has_empty (drop at store.words)
has_room store (PutClaim at) = has_empty (drop at store.words)
has_room store (Fill at) = is_home_free (slice_get store.bags at) || has_empty (drop (at + 1) store.words)

-- the place that the collection's next step is at
abbrev pub take_place : TakeCursor → ℕ
take_place (TakeLook place) = place
take_place (TakeClaim place word) = place
take_place (Empty place) = place

-- how many steps a collection takes at most before one past the last place
abbrev pub take_left : ℕ → TakeCursor → ℕ
take_left places (TakeLook place) = 3 * (places - place)
take_left places (TakeClaim place word) = 3 * (places - place) - 1
take_left places (Empty place) = 3 * (places - place) - 2

-- the collection has claimed this place, and empties it next
abbrev pub ClaimsAt : TakeCursor → ℕ → Type 0
ClaimsAt (TakeLook at) place = ⊥
ClaimsAt (TakeClaim at word) place = ⊥
ClaimsAt (Empty at) place = place ≡ at

-- the word tells of a bag that is expired for the epoch x
abbrev pub tells_expired : ℕ → ℕ → Bool
tells_expired x word = (word % 2 == 1) && nat_le (word / 2 + 2) x

abbrev pub one_if : Bool → ℕ
one_if true = 1
one_if false = 0

-- how many of these words do
abbrev pub words_expired : ℕ → List ℕ → ℕ
words_expired x [] = 0
words_expired x (word ∷ words) = one_if (tells_expired x word) + words_expired x words

-- 1 where a bag is at home that is expired for the epoch x
abbrev pub home_expired : {J : Type 0} → ℕ → Option (Sealed J) → ℕ
home_expired x None = 0
home_expired x (Some bag) = one_if (nat_le (bag.seal + 2) x)

-- how many bags a collection for the epoch x, at this cursor, will take if nobody else changes a place: that of the
-- place it is at, if its claim will be won, and those that the words after it tell of
abbrev pub bags_ahead : {J : Type 0} → ℕ → PlaceList J → TakeCursor → ℕ
bags_ahead x store (TakeLook at) = words_expired x (drop at store.words)
bags_ahead x store (TakeClaim at word) = (if slice_index_or store.words at 0 == word
    then home_expired x (slice_index_or store.bags at None) else 0) + words_expired x (drop (at + 1) store.words)
bags_ahead x store (Empty at) =
    home_expired x (slice_index_or store.bags at None) + words_expired x (drop (at + 1) store.words)
