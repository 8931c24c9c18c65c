-- A fill and an empty keep the rule of the places: the slot goes home with what was left in it, under the word that
-- says so.
use Rattle.std.proofs.Common.{◌≡◌, ◌≢◌, ℕ, ◌<◌, List, [], ◌∷◌, ◌++◌, get_or, set, sym, refl, ap, ◌∙◌, subst, inl, inr}
use Rattle.std.proofs.Common.{arith}
use Rattle.std.proofs.Common.{Option, Some, None, length-set, get_or-set_other, get_or-set_same}
use Rattle.std.proofs.lemmas.Option.{same_Some, none-some}
use mathlib.Core.Logic.{dite}
use mathlib.Core.Option.{none, some}
use native.Mathlib.Decide.{ℕ_discrete}
use lib.ListN.{get_elem?}
use Rattle.atomic_table.specs.Table.{State, Me, step, gives, rest, stepped, Allows}
use Rattle.atomic_table.proofs.Lists.{set_here, set_else}
use Rattle.epoch_bags.specs.Bags.{Sealed}
use Rattle.epoch_tables.specs.declared.shared_places.view.PlaceView.{PlaceView}
use Rattle.epoch_tables.specs.SharedPlaces.{place_word_at, IsPlaceWord, IsAtHome, PlaceSeatSees, PlacesAgree}
use Rattle.epoch_tables.specs.SharedPlaces.{with_claim, after_store, StoresPlace}
use Rattle.epoch_tables.proofs.BagBalance.{store_balances}
use Rattle.epoch_tables.proofs.Views.{each_view, one_view}

-- the word of a place that is at home is that of no bag, or of a bag
at_home_is_word : {J : Type 0} (word : ℕ) (bag : Option (Sealed J)) → IsAtHome word bag → IsPlaceWord word
at_home_is_word word None is = inl is
at_home_is_word word (Some bag) is = inr (inr (bag.seal, is))

-- and so is not that of a claimed place
at_home_is_unclaimed : {J : Type 0} (word : ℕ) (bag : Option (Sealed J)) → IsAtHome word bag → word ≢ 2
at_home_is_unclaimed word None is two = omega arith
at_home_is_unclaimed word (Some bag) is two = omega arith

-- what is in the slot taken last
abbrev pub content_or : {A : Type 0} → A → List (ℕ × A) → A
content_or d [] = d
content_or d (slot ∷ slots) = slot.1

module _ {J : Type 0} (places : ℕ) where
  -- what holds of the places between any two steps
  abbrev Rule : State (Option (Sealed J)) (PlaceView J) → Type 0
  Rule = PlacesAgree places

  -- the claimed place gets this word, over what is left in its slot
  store_keeps : (s : State (Option (Sealed J)) (PlaceView J)) (r : Rule s) (id k word : ℕ)
      (bag : Option (Sealed J)) (v : PlaceView J)
      (looked found : List ℕ) → PlaceSeatSees s id v
      → v.claimed ≡ Some k → IsAtHome word bag
      → Rule record {
        words = set s.words (place_word_at k) word;
        homes = set s.homes k (some bag);
        views = set s.views id (with_claim None looked found (v.left ++ bag ∷ []) v.won);
      }
  store_keeps s r id k word bag v looked found here is_mine left =
      let w : PlaceView J = with_claim None looked found (v.left ++ bag ∷ []) v.won in
      let long = r.as_many in
      let long_slots = r.as_many_slots in
      let mine = r.claims_match id v k here is_mine in
      let below = mine.0 in
      let now : get_or (set s.words (place_word_at k) word) (place_word_at k) 0 ≡ word = get_or-set_same s.words
      (place_word_at k) word 0 (omega arith) in
      let now_at : (k' : ℕ) → k' ≡ k → get_or (set s.words (place_word_at k) word) (place_word_at k') 0 ≡ word =
      (λ k' same. ap (λ (z : ℕ). get_or (set s.words (place_word_at k) word) (place_word_at z) 0) same ∙ now) in
      let else : (k' : ℕ) → k' ≢ k
      → get_or (set s.words (place_word_at k) word) (place_word_at k') 0 ≡ get_or s.words (place_word_at k') 0 =
      (λ k' apart. get_or-set_other s.words (place_word_at k) (place_word_at k') word 0 (λ e. apart (omega arith))) in
      record {
        as_many = length-set s.words (place_word_at k) word ∙ r.as_many;
        as_many_slots = length-set s.homes k (some bag) ∙ r.as_many_slots;
        is_word = λ k' inside. dite (ℕ_discrete k' k)
            (λ same. subst IsPlaceWord (sym (now_at k' same)) (at_home_is_word word bag left))
            (λ apart. subst IsPlaceWord (sym (else k' apart)) (r.is_word k' inside));
        at_home = λ k' inside not. dite (ℕ_discrete k' k)
            (λ same. (
              bag,
              ap (λ (z : ℕ). get_elem? (set s.homes k (some bag)) z) same ∙ set_here s.homes k (some bag) (omega arith),
              subst (λ (z : ℕ). IsAtHome z bag) (sym (now_at k' same)) left,
            ))
            (λ apart. let t = r.at_home k' inside (λ is. not (else k' apart ∙ is)) in (
              t.0,
              set_else s.homes k k' (some bag) apart ∙ t.1,
              subst (λ (z : ℕ). IsAtHome z t.0) (sym (else k' apart)) t.2,
            ));
        is_out = λ k' inside is. dite (ℕ_discrete k' k)
            (λ same. absurd (at_home_is_unclaimed word bag left (sym (now_at k' same) ∙ is)))
            (λ apart. set_else s.homes k k' (some bag) apart ∙ r.is_out k' inside (sym (else k' apart) ∙ is));
        balanced = store_balances s.views s.homes id k v w bag here (r.is_out k below mine.1) refl refl r.balanced;
        has_claimer = λ k' inside is. dite (ℕ_discrete k' k)
            (λ same. absurd (at_home_is_unclaimed word bag left (sym (now_at k' same) ∙ is)))
            (λ apart. let by = r.has_claimer k' inside (sym (else k' apart) ∙ is) in
            let not_me : by.0 ≢ id = (λ same. apart (same_Some k' k (sym by.3
            ∙ (ap (λ (z : PlaceView J). z.claimed)
            (one_view s.views id by.1 v (subst (λ (z : ℕ). PlaceSeatSees s z by.1) same by.2) here) ∙ is_mine)))) in
            (by.0, by.1, set_else s.views id by.0 w not_me ∙ by.2, by.3));
        one_claimer_each = λ i j u its k' at_i at_j.
            each_view (λ i u. u.claimed ≡ Some k' → its.claimed ≡ Some k' → i ≡ j) s.views id w
            (λ has _. absurd (none-some k' has))
            (λ i u other at_i has theirs. each_view (λ j its. its.claimed ≡ Some k' → i ≡ j) s.views id w
            (λ none. absurd (none-some k' none))
            (λ j its _ at has'. r.one_claimer_each i j u its k' at_i at has has') j its at_j theirs)
            i u at_i;
        claims_match = λ j u k' at. each_view (λ j u. u.claimed ≡ Some k'
            → (k' < places) × (get_or (set s.words (place_word_at k) word) (place_word_at k') 0 ≡ 2)) s.views id w
            (λ has. absurd (none-some k' has))
            (λ j u other at_j has. let t = r.claims_match j u k' at_j has in
            let apart : k' ≢ k = (λ same. other (r.one_claimer_each j id u v k at_j here
            (has ∙ ap (λ (z : ℕ). let o : Option ℕ = Some z in o) same) is_mine)) in
            (t.0, else k' apart ∙ t.1))
            j u at;
      }

  -- the seat that has claimed a place may put back what it holds, with the word that tells of it
  pub place_store_keeps : (slots id : ℕ) (me : Me (Option (Sealed J)) (PlaceView J)) (k word : ℕ)
      (bag : Option (Sealed J))
      → me.0.claimed ≡ Some k → me.1 ≡ (k, bag) ∷ [] → IsAtHome word bag
      → Allows Rule slots id me (place_word_at k) (λ _. word)
      (λ _. StoresPlace (step slots (place_word_at k) word 0 none) me word)
  place_store_keeps slots id me k word bag is_mine carried left s r _ here _ = let v : PlaceView J = me.0 in
      let w : PlaceView J = after_store v bag in (
        w,
        gives,
        tt,
        subst (λ (c : List (ℕ × Option (Sealed J))). Rule (stepped s (place_word_at k) word id c w gives)) (sym carried)
            (store_keeps s r id k word bag v w.looked w.found here is_mine left),
        λ place content holds. let same : bag ≡ content = ap (content_or bag) (sym carried ∙ holds) in
            ap (λ (x : List (ℕ × Option (Sealed J)) × Option (Sealed J)). (after_store v x.1, rest x.0))
            (λ i. (carried i, same i)),
      )
