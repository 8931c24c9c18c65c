-- A table of two positions with a seat at each, and a place for bags with two seats: when they are as the rules say.
use Rattle.std.proofs.Common.{◌≡◌, ◌≢◌, ℕ, zero, suc, ◌+◌, ◌*◌, ◌<◌, ◌≤◌, [], ◌∷◌, ◌++◌, replicate, Option, Some}
use Rattle.std.proofs.Common.{None, refl, sym, subst, ◌∙◌, arith}
use Rattle.std.proofs.lemmas.Option.{same_Some, none-some}
use Rattle.std.specs.List.{Contains}
use mathlib.Core.Option.{some, some-injective, some-ne-none}
use lib.ListN.{get_elem?}
use Rattle.atomic_table.specs.Table.{State}
use Rattle.epoch_bags.specs.Bags.{Sealed}
use Rattle.std.specs.Prelude.{slice_index}
use Rattle.epoch_tables.specs.Table.{EpochsAgree, Sees, seat_word, word_at}
use Rattle.epoch_tables.specs.SharedPlaces.{PlacesAgree, IsBalanced, PlaceSeatSees, IsPlaceWord, IsAtHome}
use Rattle.epoch_tables.specs.SharedPlaces.{place_word_at}
use Rattle.epoch_tables.specs.declared.table.view.ParticipantView.{ParticipantView}
use Rattle.epoch_tables.specs.declared.shared_places.view.PlaceView.{PlaceView}

-- what holds of the first and of the second of two views holds of each
each_of_two : {V : Type 0} (P : ℕ → V → Type 0) (a b : V) → P 0 a → P 1 b
    → (seat : ℕ) (view : V) → get_elem? (a ∷ b ∷ []) seat ≡ some view → P seat view
each_of_two P a b first second zero view at = subst (P 0) (some-injective a view at) first
each_of_two P a b first second (suc zero) view at = subst (P 1) (some-injective b view at) second
each_of_two P a b first second (suc (suc seat)) view at = absurd (some-ne-none view (sym at))

-- THE PARTICIPANTS' TABLE

-- a seat at this position that has passed no word with its scan, and is ahead of nothing
pub record IsSeatAt (epoch position : ℕ) (view : ParticipantView) : Type 0 where
  pub has : view.position ≡ Some position
  pub seen : view.seen ≤ epoch
  pub published : (number : ℕ) → view.published ≡ Some number → number ≤ view.seen
  pub near : (first : ℕ) → view.first_read ≡ Some first
      → (number : ℕ) × (view.published ≡ Some number) × (number ≤ first) × (first ≤ epoch) × (epoch ≤ first + 1)
  pub scans : (scanned passed : ℕ) → view.scan ≡ Some (scanned, passed)
      → (passed ≡ 0) × ((first : ℕ) × (view.first_read ≡ Some first) × (first ≤ scanned)) × (scanned ≤ view.seen)

abbrev pub table : ℕ → ParticipantView → ParticipantView → State (Unit {0}) ParticipantView
table epoch a b = record {
  words = 2 * epoch ∷ (replicate 15 0 ++ seat_word a.published ∷ (replicate 15 0
      ++ seat_word b.published ∷ replicate 15 0));
  homes = [];
  views = a ∷ b ∷ [];
}

module _ (epoch : ℕ) (a b : ParticipantView) (first : IsSeatAt epoch 0 a) (second : IsSeatAt epoch 1 b) where
  abbrev each : (P : ℕ → ParticipantView → Type 0) → P 0 a → P 1 b
      → (seat : ℕ) (view : ParticipantView) → Sees (table epoch a b) seat view → P seat view
  each P = each_of_two P a b

  -- a seat's position is its number
  position_is : (seat : ℕ) (view : ParticipantView) → Sees (table epoch a b) seat view → view.position ≡ Some seat
  position_is = each (λ seat view. view.position ≡ Some seat) first.has second.has

  fits : (seat : ℕ) (view : ParticipantView) → Sees (table epoch a b) seat view → IsSeatAt epoch seat view
  fits = each (IsSeatAt epoch) first second

  at_position : (seat : ℕ) (view : ParticipantView) (position : ℕ) → Sees (table epoch a b) seat view
      → view.position ≡ Some position → seat ≡ position
  at_position seat view position sees at = same_Some seat position (sym (position_is seat view sees) ∙ at)

  -- They are as the rule says, if each epoch that there was is stored by one of them.
  pub two_agree : ((number : ℕ) → 0 < number → number ≤ epoch
      → (seat : ℕ) × (view : ParticipantView) × Sees (table epoch a b) seat view × Contains view.advanced number)
      → EpochsAgree 2 (table epoch a b)
  two_agree reached = record {
    epoch = epoch;
    as_many = refl;
    epoch_word = refl;
    reached = reached;
    words_match = words_match;
    taken_by_seat = taken_by_seat;
    one_seat_each = λ seat other view its position sees sees' at at'.
        at_position seat view position sees at ∙ sym (at_position other its position sees' at');
    none_ahead = λ seat view sees. (fits seat view sees).seen;
    pins_known = λ seat view number sees is.
        ((seat, (fits seat view sees).has), (fits seat view sees).published number is);
    pinned_near = λ seat view number sees is. (fits seat view sees).near number is;
    scans_known = λ seat view scanned passed sees is.
        let scans = (fits seat view sees).scans scanned passed is in (scans.1, scans.2);
    scans_hold = λ seat view scanned passed other its position number sees is sees' at below read.
        absurd (omega (arith, below, ((fits seat view sees).scans scanned passed is).0));
  }
    where
      words_match : (seat : ℕ) (view : ParticipantView) (position : ℕ) → Sees (table epoch a b) seat view
          → view.position ≡ Some position → (position < 2)
          × (slice_index (table epoch a b).words (word_at position) ≡ seat_word view.published)
      words_match seat view position sees at = each (λ k v. v.position ≡ Some position → (position < 2)
          × (slice_index (table epoch a b).words (word_at position) ≡ seat_word v.published))
          (λ is. subst (λ k. (k < 2) × (slice_index (table epoch a b).words (word_at k) ≡ seat_word a.published))
          (same_Some 0 position (sym first.has ∙ is)) (omega arith, refl))
          (λ is. subst (λ k. (k < 2) × (slice_index (table epoch a b).words (word_at k) ≡ seat_word b.published))
          (same_Some 1 position (sym second.has ∙ is)) (omega arith, refl))
          seat view sees at

      taken_by_seat : (position : ℕ) → position < 2 → slice_index (table epoch a b).words (word_at position) ≢ 0
          → (seat : ℕ) × (view : ParticipantView) × Sees (table epoch a b) seat view × (view.position ≡ Some position)
      taken_by_seat zero below taken = (0, a, refl, first.has)
      taken_by_seat (suc zero) below taken = (1, b, refl, second.has)
      taken_by_seat (suc (suc position)) below taken = absurd (omega (arith, below))

-- THE PLACE

-- a place with this word, and with what is at home there, which neither seat has claimed
abbrev pub one_place : {J : Type 0} → ℕ → Option (Sealed J) → PlaceView J → PlaceView J
    → State (Option (Sealed J)) (PlaceView J)
one_place word content a b =
    record { words = word ∷ replicate 15 0; homes = some content ∷ []; views = a ∷ b ∷ [] }

-- The place is as the rule says, if its word tells what is at home there, neither seat has claimed it, and each bag
-- that a seat left is at home or was won.
pub two_share : {J : Type 0} (word : ℕ) (content : Option (Sealed J)) (a b : PlaceView J) → IsPlaceWord word
    → IsAtHome word content → word ≢ 2 → a.claimed ≡ None → b.claimed ≡ None
    → IsBalanced (a ∷ b ∷ []) (some content ∷ []) → PlacesAgree 1 (one_place word content a b)
two_share {J} word content a b can_be home unclaimed first second balanced = record {
  as_many = refl;
  as_many_slots = refl;
  is_word = is_word;
  at_home = at_home;
  is_out = λ place below is. absurd (claimed place below is);
  balanced = balanced;
  has_claimer = λ place below is. absurd (claimed place below is);
  one_claimer_each = λ seat other view its place sees sees' has has'. absurd (none_claims seat view place sees has);
  claims_match = λ seat view place sees has. absurd (none_claims seat view place sees has);
}
  where
    none_claims : (seat : ℕ) (view : PlaceView J) (place : ℕ) → PlaceSeatSees (one_place word content a b) seat view
        → view.claimed ≡ Some place → ⊥
    none_claims seat view place sees has =
        none-some place (sym (each_of_two (λ k v. v.claimed ≡ None) a b first second seat view sees) ∙ has)

    is_word : (place : ℕ) → place < 1
        → IsPlaceWord (slice_index (one_place word content a b).words (place_word_at place))
    is_word zero below = can_be
    is_word (suc place) below = absurd (omega (arith, below))

    at_home : (place : ℕ) → place < 1 → slice_index (one_place word content a b).words (place_word_at place) ≢ 2
        → (bag : Option (Sealed J)) × (get_elem? (one_place word content a b).homes place ≡ some (some bag))
        × IsAtHome (slice_index (one_place word content a b).words (place_word_at place)) bag
    at_home zero below not = (content, refl, home)
    at_home (suc place) below not = absurd (omega (arith, below))

    claimed : (place : ℕ) → place < 1 → slice_index (one_place word content a b).words (place_word_at place) ≡ 2 → ⊥
    claimed zero below is = unclaimed is
    claimed (suc place) below is = omega (arith, below)
