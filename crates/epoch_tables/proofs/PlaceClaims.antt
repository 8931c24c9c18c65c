-- The claim of a place keeps the rule of the places, and takes the slot with what was at home there.
use Rattle.std.proofs.Common.{◌≡◌, ◌≢◌, ℕ, ◌<◌, eqb, List, [], ◌∷◌, ◌++◌, get_or, set, sym, refl, ap, ◌∙◌, subst, inl}
use Rattle.std.proofs.Common.{inr, arith, Option, Some, None, length-set, get_or-set_other, get_or-set_same, eq-eqb}
use Rattle.std.proofs.Common.{ne_eqb}
use Rattle.std.proofs.lemmas.Option.{same_Some, none-some}
use mathlib.Core.Logic.{dite}
use mathlib.Core.Option.{none, some}
use native.Mathlib.Decide.{ℕ_discrete}
use lib.ListN.{get_elem?}
use prog.Atomic.{either}
use Rattle.atomic_table.specs.Table.{State, Me, step, keeps, takes, stepped, Allows}
use Rattle.atomic_table.proofs.Lists.{set_here, set_else}
use Rattle.epoch_bags.specs.Bags.{Sealed}
use Rattle.epoch_tables.specs.declared.shared_places.view.PlaceView.{PlaceView}
use Rattle.epoch_tables.specs.SharedPlaces.{place_word_at, IsPlaceWord, IsAtHome, PlaceSeatSees, PlacesAgree}
use Rattle.epoch_tables.specs.SharedPlaces.{with_claim, after_look, after_place_claim, ClaimsPlace}
use Rattle.epoch_tables.proofs.Views.{each_view, is_seat, one_view}
use Rattle.epoch_tables.proofs.BagBalance.{claim_balances}
use Rattle.epoch_tables.proofs.PlaceLooks.{look_keeps}

module _ {J : Type 0} (places : ℕ) where
  -- what holds of the places between any two steps
  abbrev Rule : State (Option (Sealed J)) (PlaceView J) → Type 0
  Rule = PlacesAgree places

  -- a claim that is won moves what was at home in the place into the hands of the seat
  won_keeps : (s : State (Option (Sealed J)) (PlaceView J)) (r : Rule s) (id k : ℕ) (v : PlaceView J)
      (looked found : List ℕ) (home : Option (Sealed J)) → k < places
      → PlaceSeatSees s id v → v.claimed ≡ None → get_or s.words (place_word_at k) 0 ≢ 2
      → get_elem? s.homes k ≡ some (some home)
      → Rule record {
        words = set s.words (place_word_at k) 2;
        homes = set s.homes k none;
        views = set s.views id (with_claim (Some k) looked found v.left (v.won ++ home ∷ []));
      }
  won_keeps s r id k v looked found home below here no_claim unclaimed has =
      let w : PlaceView J = with_claim (Some k) looked found v.left (v.won ++ home ∷ []) in
      let long = r.as_many in
      let long_slots = r.as_many_slots in
      let now : get_or (set s.words (place_word_at k) 2) (place_word_at k) 0 ≡ 2 = get_or-set_same s.words
      (place_word_at k) 2 0 (omega arith) in
      let now_at : (k' : ℕ) → k' ≡ k → get_or (set s.words (place_word_at k) 2) (place_word_at k') 0 ≡ 2 =
      (λ k' same. ap (λ (z : ℕ). get_or (set s.words (place_word_at k) 2) (place_word_at z) 0) same ∙ now) in
      let else : (k' : ℕ) → k' ≢ k
      → get_or (set s.words (place_word_at k) 2) (place_word_at k') 0 ≡ get_or s.words (place_word_at k') 0 =
      (λ k' apart. get_or-set_other s.words (place_word_at k) (place_word_at k') 2 0 (λ e. apart (omega arith))) in
      let nobodys : (j : ℕ) (u : PlaceView J) → PlaceSeatSees s j u → u.claimed ≢ Some k =
      (λ j u at has. unclaimed (r.claims_match j u k at has).1) in
      record {
        as_many = length-set s.words (place_word_at k) 2 ∙ r.as_many;
        as_many_slots = length-set s.homes k none ∙ r.as_many_slots;
        is_word = λ k' inside. dite (ℕ_discrete k' k)
            (λ same. inr (inl (now_at k' same)))
            (λ apart. subst IsPlaceWord (sym (else k' apart)) (r.is_word k' inside));
        at_home = λ k' inside not. dite (ℕ_discrete k' k)
            (λ same. absurd (not (now_at k' same)))
            (λ apart. let t = r.at_home k' inside (λ is. not (else k' apart ∙ is)) in
            (t.0, set_else s.homes k k' none apart ∙ t.1, subst (λ (z : ℕ). IsAtHome z t.0) (sym (else k' apart)) t.2));
        is_out = λ k' inside is. dite (ℕ_discrete k' k)
            (λ same. ap (λ (z : ℕ). get_elem? (set s.homes k none) z) same ∙ set_here s.homes k none (omega arith))
            (λ apart. set_else s.homes k k' none apart ∙ r.is_out k' inside (sym (else k' apart) ∙ is));
        balanced = claim_balances s.views s.homes id k v w home here has refl refl r.balanced;
        has_claimer = λ k' inside is. dite (ℕ_discrete k' k)
            (λ same. (
              id,
              w,
              set_here s.views id w (is_seat s.views id v here),
              ap (λ (z : ℕ). let o : Option ℕ = Some z in o) (sym same),
            ))
            (λ apart. let by = r.has_claimer k' inside (sym (else k' apart) ∙ is) in
            let not_me : by.0 ≢ id = (λ same. none-some k' (sym no_claim
            ∙ (ap (λ (z : PlaceView J). z.claimed)
            (one_view s.views id v by.1 here (subst (λ (z : ℕ). PlaceSeatSees s z by.1) same by.2)) ∙ by.3))) in
            (by.0, by.1, set_else s.views id by.0 w not_me ∙ by.2, by.3));
        one_claimer_each = λ i j u its k' at_i at_j.
            each_view (λ i u. u.claimed ≡ Some k' → its.claimed ≡ Some k' → i ≡ j) s.views id w
            (λ mine theirs. each_view (λ j its. its.claimed ≡ Some k' → id ≡ j) s.views id w (λ _. refl)
            (λ j its other at has. absurd (nobodys j its at (has ∙ sym mine))) j its at_j theirs)
            (λ i u other at_i mine theirs. each_view (λ j its. its.claimed ≡ Some k' → i ≡ j) s.views id w
            (λ has. absurd (nobodys i u at_i (mine ∙ sym has)))
            (λ j its _ at has. r.one_claimer_each i j u its k' at_i at mine has) j its at_j theirs)
            i u at_i;
        claims_match = λ j u k' at. each_view (λ j u. u.claimed ≡ Some k'
            → (k' < places) × (get_or (set s.words (place_word_at k) 2) (place_word_at k') 0 ≡ 2)) s.views id w
            (λ mine. let same = same_Some k k' mine in
            let inside : k' < places = omega arith in
            (inside, now_at k' (sym same)))
            (λ j u other at_j has. let t = r.claims_match j u k' at_j has in
            let apart : k' ≢ k =
            (λ same. nobodys j u at_j (has ∙ ap (λ (z : ℕ). let o : Option ℕ = Some z in o) same)) in
            (t.0, else k' apart ∙ t.1))
            j u at;
      }

  -- a seat that has claimed no place may try to claim one, by an exchange of the word that it has found; a lost
  -- exchange changes nothing
  pub place_claim_keeps : (slots id : ℕ) (me : Me (Option (Sealed J)) (PlaceView J)) (k old : ℕ)
      → me.0.claimed ≡ None → k < places → old ≢ 2
      → Allows Rule slots id me (place_word_at k) (λ x. either (eqb x old) 2 x)
      (ClaimsPlace (step slots (place_word_at k) old 2 none) me)
  place_claim_keeps slots id me k old no_claim below unclaimed s r _ here _ = let v : PlaceView J = me.0 in
      let x : ℕ = get_or s.words (place_word_at k) 0 in
      dite (ℕ_discrete x old)
      (λ hit. let not : x ≢ 2 = (λ is. unclaimed (sym hit ∙ is)) in
      let held = r.at_home k below not in
      let w : PlaceView J = after_place_claim v k x held.0 in (
        w,
        takes k held.0,
        held.1,
        subst (λ b. Rule (stepped s (place_word_at k) (either b 2 x) id me.1 w (takes k held.0)))
            (sym (eq-eqb x old hit)) (won_keeps s r id k v (v.looked ++ k ∷ []) (v.found ++ x ∷ []) held.0
            below here no_claim not held.1),
        (
          r.is_word k below,
          (λ miss. absurd (miss hit)),
          λ _ k' at_k'. let same : k ≡ k' = omega arith in
              (held.0, held.2, ap (λ (z : ℕ). (after_place_claim v z x held.0, (z, held.0) ∷ me.1)) same),
        ),
      ))
      (λ miss. (
        after_look v k x,
        keeps,
        tt,
        subst (λ b. Rule (stepped s (place_word_at k) (either b 2 x) id me.1 (after_look v k x) keeps))
            (sym (ne_eqb x old miss))
            (look_keeps places s r (place_word_at k) id v (v.looked ++ k ∷ []) (v.found ++ x ∷ []) here),
        (
          r.is_word k below,
          (λ _ k' at_k'. let same : k ≡ k' = omega arith in ap (λ (z : ℕ). (after_look v z x, me.1)) same),
          λ hit. absurd (miss hit),
        ),
      ))
