-- The rule of the shared places for bags: what holds between any two steps, whatever threads take them.
-- A place's word is 0 where it is empty, 2 while a seat has claimed it, and 2s + 1 where it holds a bag sealed with s.
use Rattle.std.specs.Prelude.{◌≡◌, ◌≢◌, ℕ, ◌+◌, ◌*◌, ◌<◌, List, [], ◌∷◌, ◌++◌, length, slice_index, Option, Some, None}
use Rattle.std.specs.Prelude.{◌⊎◌, sum_by}
use mathlib.Core.Option.{some, none}
use mathlib.Core.Option.{Option as InTable}
use lib.ListN.{get_elem?}
use Rattle.atomic_table.specs.Table.{State, Me, Step}
use Rattle.atomic_table.specs.Seated.{TableId}
use Rattle.atomic_table.specs.declared.shared.Seat.{Seat}
use Rattle.epoch_bags.specs.Bags.{Sealed}
use Rattle.epoch_tables.specs.declared.shared_places.view.PlaceView.{PlaceView}

-- what a caller sees of shared places: how many there are, and which table they are
pub record PlaceBoard : Type 0 where
  pub capacity : ℕ
  pub table : TableId

-- where the word of a place stands: 128 bytes after the one before
abbrev pub place_word_at : ℕ → ℕ
place_word_at place = 16 * place

abbrev pub place_words_for : ℕ → ℕ
place_words_for places = 16 * places

-- what the word of a place can be
abbrev pub IsPlaceWord : ℕ → Type 0
IsPlaceWord word = (word ≡ 0) ⊎ ((word ≡ 2) ⊎ ((seal : ℕ) × (word ≡ 2 * seal + 1)))

-- what is at home in a place whose word is this one, and isn't 2
abbrev pub IsAtHome : {J : Type 0} → ℕ → Option (Sealed J) → Type 0
IsAtHome word None = word ≡ 0
IsAtHome word (Some bag) = word ≡ 2 * bag.seal + 1

abbrev pub PlaceSeatSees : {S J : Type 0} → State S (PlaceView J) → ℕ → PlaceView J → Type 0
PlaceSeatSees s seat view = get_elem? s.views seat ≡ some view

-- WEIGHTS
-- Where lists are weighed alike in whatever way, each bag stands in both as often.

-- what a bag weighs; where there is none, that is 0
abbrev pub bag_weight : {J : Type 0} → (Sealed J → ℕ) → Option (Sealed J) → ℕ
bag_weight weigh None = 0
bag_weight weigh (Some bag) = weigh bag

-- what a slot weighs that is at home; while a seat has it, that is 0
abbrev pub home_weight : {J : Type 0} → (Sealed J → ℕ) → InTable (Option (Sealed J)) → ℕ
home_weight weigh none = 0
home_weight weigh (some content) = bag_weight weigh content

-- what all seats have left in places, what all of them have won there, and what is at home
abbrev pub left_weight : {J : Type 0} → (Sealed J → ℕ) → List (PlaceView J) → ℕ
left_weight weigh views = sum_by (λ view. sum_by (bag_weight weigh) view.left) views

abbrev pub won_weight : {J : Type 0} → (Sealed J → ℕ) → List (PlaceView J) → ℕ
won_weight weigh views = sum_by (λ view. sum_by (bag_weight weigh) view.won) views

abbrev pub homes_weight : {J : Type 0} → (Sealed J → ℕ) → List (InTable (Option (Sealed J))) → ℕ
homes_weight weigh homes = sum_by (home_weight weigh) homes

-- Each bag that some seat has left in a place is at home in one, or some seat has won it: as often as it was left.
abbrev pub IsBalanced : {J : Type 0} → List (PlaceView J) → List (InTable (Option (Sealed J))) → Type 0
IsBalanced {J} views homes = (weigh : Sealed J → ℕ)
    → left_weight weigh views ≡ won_weight weigh views + homes_weight weigh homes

-- THE RULE

pub record PlacesAgree {J : Type 0} (places : ℕ) (s : State (Option (Sealed J)) (PlaceView J)) : Type 0 where
  pub as_many : length s.words ≡ place_words_for places
  pub as_many_slots : length s.homes ≡ places
  pub is_word : (place : ℕ) → place < places → IsPlaceWord (slice_index s.words (place_word_at place))
  -- A place that isn't claimed has its slot at home: with no bag at 0, and with a bag sealed with s at 2s + 1.
  pub at_home : (place : ℕ) → place < places → slice_index s.words (place_word_at place) ≢ 2
      → (bag : Option (Sealed J)) × (get_elem? s.homes place ≡ some (some bag))
      × IsAtHome (slice_index s.words (place_word_at place)) bag
  pub is_out : (place : ℕ) → place < places → slice_index s.words (place_word_at place) ≡ 2
      → get_elem? s.homes place ≡ some none
  pub balanced : IsBalanced s.views s.homes
  -- A place at 2 is claimed by one seat. A view names at most one place that its seat has claimed.
  pub has_claimer : (place : ℕ) → place < places → slice_index s.words (place_word_at place) ≡ 2
      → (seat : ℕ) × (view : PlaceView J) × PlaceSeatSees s seat view × (view.claimed ≡ Some place)
  pub one_claimer_each : (seat other : ℕ) (view its : PlaceView J) (place : ℕ)
      → PlaceSeatSees s seat view → PlaceSeatSees s other its
      → view.claimed ≡ Some place → its.claimed ≡ Some place → seat ≡ other
  pub claims_match : (seat : ℕ) (view : PlaceView J) (place : ℕ) → PlaceSeatSees s seat view → view.claimed ≡ Some place
      → (place < places) × (slice_index s.words (place_word_at place) ≡ 2)

-- However bags are weighed, what all seats have left in places is what they have won there and what is at home.
abbrev pub LosesNoBag : Type 0 → Type 0
LosesNoBag J = (places : ℕ) (s : State (Option (Sealed J)) (PlaceView J)) → PlacesAgree places s
    → IsBalanced s.views s.homes

-- SEATS

-- it is a seat at these places
abbrev pub IsPlaceSeatOf : {J : Type 0} → PlaceBoard → Seat (Option (Sealed J)) (PlaceView J) → Type 0
IsPlaceSeatOf board seat = seat.table_id ≡ board.table

-- it is the same seat of the same places
abbrev pub IsSamePlaceSeat : {J : Type 0}
    → Seat (Option (Sealed J)) (PlaceView J) → Seat (Option (Sealed J)) (PlaceView J) → Type 0
IsSamePlaceSeat before after = (after.table_id ≡ before.table_id) × (after.id ≡ before.id)

-- VIEWS

abbrev pub with_claim : {J : Type 0}
    → Option ℕ → List ℕ → List ℕ → List (Option (Sealed J)) → List (Option (Sealed J)) → PlaceView J
with_claim claimed looked found left won =
    record { claimed = claimed; looked = looked; found = found; left = left; won = won }

-- it found this word at this place
abbrev pub after_look : {J : Type 0} → PlaceView J → ℕ → ℕ → PlaceView J
after_look v place word = with_claim v.claimed (v.looked ++ place ∷ []) (v.found ++ word ∷ []) v.left v.won

-- it found this word at this place, and claimed it, where this was at home
abbrev pub after_place_claim : {J : Type 0} → PlaceView J → ℕ → ℕ → Option (Sealed J) → PlaceView J
after_place_claim v place word home =
    with_claim (Some place) (v.looked ++ place ∷ []) (v.found ++ word ∷ []) v.left (v.won ++ home ∷ [])

-- it filled or emptied the place that it had claimed, and left this there
abbrev pub after_store : {J : Type 0} → PlaceView J → Option (Sealed J) → PlaceView J
after_store v content = with_claim None v.looked v.found (v.left ++ content ∷ []) v.won

-- WHAT EACH STEP TELLS
-- of the step, the seat before, the word found (at a store, the word stored), and the seat after

abbrev pub PlaceStep : Type 0 → Type 0
PlaceStep J = Step (Option (Sealed J))

abbrev pub PlaceMe : Type 0 → Type 0
PlaceMe J = Me (Option (Sealed J)) (PlaceView J)

module _ {J : Type 0} where
  abbrev pub SitsAtPlaces : PlaceStep J → PlaceMe J → ℕ → PlaceMe J → Type 0
  SitsAtPlaces step before word after = after ≡ (with_claim None [] [] [] [], [])

  abbrev pub LooksAtPlace : PlaceStep J → PlaceMe J → ℕ → PlaceMe J → Type 0
  LooksAtPlace step before word after = IsPlaceWord word
      × ((place : ℕ) → step.word ≡ place_word_at place → after ≡ (after_look before.0 place word, before.1))

  -- A claim that is won takes the slot, with what was at home there.
  abbrev pub ClaimsPlace : PlaceStep J → PlaceMe J → ℕ → PlaceMe J → Type 0
  ClaimsPlace step before word after = IsPlaceWord word
      × (word ≢ step.first → (place : ℕ) → step.word ≡ place_word_at place
      → after ≡ (after_look before.0 place word, before.1))
      × (word ≡ step.first → (place : ℕ) → step.word ≡ place_word_at place
      → (bag : Option (Sealed J)) × IsAtHome word bag
      × (after ≡ (after_place_claim before.0 place word bag, (place, bag) ∷ before.1)))

  -- The slot goes home with what is left in it, and the view keeps that.
  abbrev pub StoresPlace : PlaceStep J → PlaceMe J → ℕ → PlaceMe J → Type 0
  StoresPlace step before word after = (place : ℕ) → (content : Option (Sealed J)) → before.1 ≡ (place, content) ∷ []
      → after ≡ (after_store before.0 content, [])
