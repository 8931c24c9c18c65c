-- A look at a place keeps the rule of the places, and so does each step that changes no word and no slot. A new seat
-- keeps it, and new places do.
use Rattle.std.proofs.Common.{◌≡◌, ◌≢◌, ℕ, ◌+◌, ◌*◌, ◌<◌, ◌⊎◌, List, [], ◌∷◌, ◌++◌, map, length, replicate, get_or, set}
use Rattle.std.proofs.Common.{sym, refl, ap, ◌∙◌, subst, ⊎_elim, inl, arith, Option, Some, None}
use Rattle.std.proofs.lemmas.Option.{none-some}
use mathlib.Core.Logic.{dite}
use mathlib.Core.Option.{none, some}
use native.Mathlib.Decide.{ℕ_discrete}
use lib.ListN.{get_elem?, length-map, length-replicate}
use lib.Seq.{set-get_or}
use Rattle.atomic_table.specs.Table.{State, Me, step, keeps, Allows, Enters, opening}
use Rattle.atomic_table.proofs.Lists.{at_snoc, at_longer, set_here, set_else}
use Rattle.epoch_bags.specs.Bags.{Sealed}
use Rattle.epoch_tables.specs.declared.shared_places.view.PlaceView.{PlaceView}
use Rattle.epoch_tables.specs.SharedPlaces.{place_word_at, place_words_for, PlaceSeatSees, PlacesAgree, with_claim}
use Rattle.epoch_tables.specs.SharedPlaces.{after_look, SitsAtPlaces, LooksAtPlace}
use Rattle.epoch_tables.proofs.Views.{each_view, is_seat, one_view, only_view}
use Rattle.epoch_tables.proofs.BagBalance.{new_balances, enters_balances, look_balances}

-- each word of a new table is 0
blank : (n i : ℕ) → get_or (replicate {A = ℕ} n 0) i 0 ≡ 0
blank Rattle.std.proofs.Common.zero i = refl
blank (Rattle.std.proofs.Common.suc n) Rattle.std.proofs.Common.zero = refl
blank (Rattle.std.proofs.Common.suc n) (Rattle.std.proofs.Common.suc i) = blank n i

-- in a new table each slot is at home, and holds the same
all_at_home : {A : Type 0} (n i : ℕ) (a : A) → i < n → get_elem? (map some (replicate n a)) i ≡ some (some a)
all_at_home Rattle.std.proofs.Common.zero i a below = absurd (omega arith)
all_at_home (Rattle.std.proofs.Common.suc n) Rattle.std.proofs.Common.zero a below = refl
all_at_home (Rattle.std.proofs.Common.suc n) (Rattle.std.proofs.Common.suc i) a below = all_at_home n i a (omega arith)

-- an empty place is no claimed one
zero_is_not_two : (x : ℕ) → x ≡ 0 → x ≡ 2 → ⊥
zero_is_not_two x zero two = omega arith

module _ {J : Type 0} (places : ℕ) where
  -- what holds of the places between any two steps
  abbrev Rule : State (Option (Sealed J)) (PlaceView J) → Type 0
  Rule = PlacesAgree places

  -- a step that leaves the words, the slots and what is claimed
  pub look_keeps : (s : State (Option (Sealed J)) (PlaceView J)) (r : Rule s) (i id : ℕ) (v : PlaceView J)
      (looked found : List ℕ) → PlaceSeatSees s id v
      → Rule record {
        words = set s.words i (get_or s.words i 0);
        homes = s.homes;
        views = set s.views id (with_claim v.claimed looked found v.left v.won);
      }
  look_keeps s r i id v looked found here = let w : PlaceView J = with_claim v.claimed looked found v.left v.won in
      subst (λ (ws : List ℕ). Rule record { words = ws; homes = s.homes; views = set s.views id w })
      (sym (set-get_or s.words i 0)) record {
        as_many = r.as_many;
        as_many_slots = r.as_many_slots;
        is_word = r.is_word;
        at_home = r.at_home;
        is_out = r.is_out;
        balanced = look_balances s.views s.homes id v w here refl refl r.balanced;
        has_claimer = λ k below is. let by = r.has_claimer k below is in dite (ℕ_discrete by.0 id)
            (λ same. (
              id,
              w,
              set_here s.views id w (is_seat s.views id v here),
              ap (λ (z : PlaceView J). z.claimed)
                  (one_view s.views id v by.1 here (subst (λ (z : ℕ). PlaceSeatSees s z by.1) same by.2)) ∙ by.3,
            ))
            (λ other. (by.0, by.1, set_else s.views id by.0 w other ∙ by.2, by.3));
        one_claimer_each =
            λ i j u its k at_i at_j. each_view (λ i u. u.claimed ≡ Some k → its.claimed ≡ Some k → i ≡ j) s.views id w
            (λ mine theirs. each_view (λ j its. its.claimed ≡ Some k → id ≡ j) s.views id w (λ _. refl)
            (λ j its other at has. r.one_claimer_each id j v its k here at mine has) j its at_j theirs)
            (λ i u other at_i mine theirs. each_view (λ j its. its.claimed ≡ Some k → i ≡ j) s.views id w
            (λ has. r.one_claimer_each i id u v k at_i here mine has)
            (λ j its _ at has. r.one_claimer_each i j u its k at_i at mine has) j its at_j theirs)
            i u at_i;
        claims_match = λ j u k at.
            each_view (λ j u. u.claimed ≡ Some k → (k < places) × (get_or s.words (place_word_at k) 0 ≡ 2)) s.views id w
            (r.claims_match id v k here) (λ j u other at_j has. r.claims_match j u k at_j has) j u at;
      }

  -- a load of the word of a place changes no word, and the seat then knows what it has found there
  pub place_look_keeps : (slots id : ℕ) (me : Me (Option (Sealed J)) (PlaceView J)) (k : ℕ) → k < places
      → Allows Rule slots id me (place_word_at k) (λ x. x) (LooksAtPlace (step slots (place_word_at k) 0 0 none) me)
  place_look_keeps slots id me k below s r _ here _ = let word : ℕ = get_or s.words (place_word_at k) 0 in (
    after_look me.0 k word,
    keeps,
    tt,
    look_keeps s r (place_word_at k) id me.0 (me.0.looked ++ k ∷ []) (me.0.found ++ word ∷ []) here,
    (
      r.is_word k below,
      λ k' at_k'. let same : k ≡ k' = omega arith in ap (λ (z : ℕ). (after_look me.0 z word, me.1)) same,
    ),
  )

  -- a new seat has claimed nothing, and so takes nothing from the others
  pub new_seat_enters : (slots : ℕ) (first : PlaceView J)
      → Enters Rule slots 0 (λ x w. SitsAtPlaces {J = J} (step slots 0 0 0 none) (first, []) x (w, []))
  new_seat_enters slots first s r _ _ = let w : PlaceView J = with_claim None [] [] [] [] in
      let unclaimed : (u : PlaceView J) (k : ℕ) → w ≡ u → u.claimed ≡ Some k → ⊥ =
      (λ u k is has. none-some k (ap (λ (z : PlaceView J). z.claimed) is ∙ has)) in (
        w,
        record {
          as_many = r.as_many;
          as_many_slots = r.as_many_slots;
          is_word = r.is_word;
          at_home = r.at_home;
          is_out = r.is_out;
          balanced = enters_balances s.views s.homes w refl refl r.balanced;
          has_claimer = λ k below is.
              let by = r.has_claimer k below is in
              (by.0, by.1, at_longer s.views (w ∷ []) by.0 by.1 by.2, by.3);
          one_claimer_each = λ i j u its k at_i at_j mine theirs. ⊎_elim
              (λ old. ⊎_elim (λ old'. r.one_claimer_each i j u its k old old' mine theirs)
              (λ is. absurd (unclaimed its k is theirs)) (at_snoc s.views w its j at_j))
              (λ is. absurd (unclaimed u k is mine)) (at_snoc s.views w u i at_i);
          claims_match = λ j u k at has. ⊎_elim (λ old. r.claims_match j u k old has)
              (λ is. absurd (unclaimed u k is has)) (at_snoc s.views w u j at);
        },
        refl,
      )

  -- new places hold no bag, and their one seat has none in hand
  pub new_places_keep : Rule (opening (replicate (place_words_for places) 0) (replicate places None)
      (with_claim None [] [] [] []))
  new_places_keep = let v : PlaceView J = with_claim None [] [] [] [] in
      let free = blank (place_words_for places) in
      let unclaimed : (j : ℕ) (u : PlaceView J) (k : ℕ) → get_elem? (v ∷ []) j ≡ some u → u.claimed ≡ Some k → ⊥ =
      (λ j u k at has. none-some k (ap (λ (z : PlaceView J). z.claimed) (only_view v j u at) ∙ has)) in
      record {
        as_many = length-replicate (place_words_for places) 0;
        as_many_slots = length-map (replicate places None) some ∙ length-replicate places None;
        is_word = λ k below. inl (free (place_word_at k));
        at_home = λ k below not. (None, all_at_home places k None below, free (place_word_at k));
        is_out = λ k below is. absurd (zero_is_not_two _ (free (place_word_at k)) is);
        balanced = new_balances places v refl refl;
        has_claimer = λ k below is. absurd (zero_is_not_two _ (free (place_word_at k)) is);
        one_claimer_each = λ i j u its k at_i at_j mine theirs. absurd (unclaimed i u k at_i mine);
        claims_match = λ j u k at has. absurd (unclaimed j u k at has);
      }
