-- What places have at last weighs as much as what is at home in the last state, where no seat has claimed a place.
use Rattle.std.proofs.Common.{◌≡◌, ℕ, zero, suc, ◌+◌, ◌<◌, List, [], ◌∷◌, length, Option, Some, None, get_or, sym, refl}
use Rattle.std.proofs.Common.{ap, ◌∙◌, subst}
use Rattle.std.proofs.Common.{inl, inr, arith}
use Rattle.std.proofs.lemmas.Bool.Decides.{eqb_tells}
use Rattle.std.proofs.lemmas.List.Sums.{sum_by-cons}
use Rattle.std.proofs.lemmas.Option.{none-some}
use Rattle.std.specs.Prelude.{All, sum_by}
use mathlib.Core.Option.{some, some-injective, some-ne-none}
use mathlib.Core.Option.{Option as InTable}
use lib.ListN.{get_elem?}
use Rattle.epoch_bags.specs.Bags.{Sealed}
use Rattle.epoch_tables.specs.declared.shared_places.view.PlaceView.{PlaceView}
use Rattle.epoch_tables.specs.SharedPlaces.{bag_weight, home_weight, homes_weight, place_word_at}
use Rattle.epoch_tables.proofs.Views.{is_seat}
use Rattle.epoch_tables.specs.ClosedPlaces.{AreLast, LastHaveTheRest}

-- what stands at a place is what is read there
read_there : {A : Type 0} (l : List A) (i : ℕ) (a : A) → get_elem? l i ≡ some a → get_or l i a ≡ a
read_there [] i a at = absurd (some-ne-none a (sym at))
read_there (x ∷ xs) zero a at = some-injective x a at
read_there (x ∷ xs) (suc i) a at = read_there xs i a at

-- what holds of each view holds of the one that is seen
of_seen : {A : Type 0} (P : A → Type 0) (l : List A) (i : ℕ) (a : A) → All P l → get_elem? l i ≡ some a → P a
of_seen P l i a each at = subst P (read_there l i a at) (each i a (is_seat l i a at))

module _ {J : Type 0} where
  -- each slot is at home, with what stands at its place
  same_weight : (weigh : Sealed J → ℕ) (homes : List (InTable (Option (Sealed J))))
      (contents : List (Option (Sealed J)))
      → length homes ≡ length contents
      → ((k : ℕ) → k < length homes → (content : Option (Sealed J)) × (get_elem? homes k ≡ some (some content))
      × (get_elem? contents k ≡ some content))
      → homes_weight weigh homes ≡ sum_by (bag_weight weigh) contents
  same_weight weigh [] [] same each = refl
  same_weight weigh [] (x ∷ xs) same each = absurd (omega (arith, same))
  same_weight weigh (h ∷ hs) [] same each = absurd (omega (arith, same))
  same_weight weigh (h ∷ hs) (x ∷ xs) same each =
      let first = each 0 (omega arith) in
      let more = same_weight weigh hs xs (omega (arith, same)) (λ k less. each (suc k) (omega (arith, less))) in
      let one = ap (home_weight weigh) (some-injective h (some first.0) first.1) in
      let other = ap (bag_weight weigh) (some-injective x first.0 first.2) in
      omega (arith, more, one, other, sum_by-cons (home_weight weigh) h hs, sum_by-cons (bag_weight weigh) x xs)

  -- no seat has claimed a place, so that each slot is at home
  pub last_have_the_rest : LastHaveTheRest J
  last_have_the_rest places contents last rest weigh =
      let r = last.agrees in
      let s = last.state in
      let at_home : (place : ℕ) → place < length s.homes → (content : Option (Sealed J))
      × (get_elem? s.homes place ≡ some (some content)) × (get_elem? contents place ≡ some content) =
      (λ place less. let below : place < places = omega (arith, less, r.as_many_slots) in
      elim (eqb_tells (get_or s.words (place_word_at place) 0) 2) [
        | inl claimed ↦ let by = r.has_claimer place below claimed.1 in
            absurd (none-some place (sym (of_seen (λ view. view.claimed ≡ None) s.views by.0 by.1 rest by.2) ∙ by.3))
        | inr free ↦ let home = r.at_home place below free.1 in (home.0, home.1, last.at_home place home.0 home.1)
      ]) in
      let same = same_weight weigh s.homes contents (r.as_many_slots ∙ sym last.as_many) at_home in
      let balanced = r.balanced weigh in
      omega (arith, same, balanced)
