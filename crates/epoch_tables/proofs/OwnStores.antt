-- A store of the own word keeps the rule: pinned, not pinned, or free.
use Rattle.std.proofs.Common.{◌≡◌, ◌≢◌, ℕ, ◌+◌, ◌*◌, ◌<◌, ◌≤◌, get_or, set, sym, refl, ap, ◌∙◌, inl, inr, arith, Option}
use Rattle.std.proofs.Common.{Some, None, length-set, get_or-set_other, get_or-set_same, subst, List}
use Rattle.std.proofs.lemmas.Option.{same_Some, none-some}
use mathlib.Core.Logic.{dite}
use mathlib.Core.Option as maybe
use native.Mathlib.Decide.{ℕ_discrete}
use Rattle.std.specs.List.{Contains}
use Rattle.atomic_table.specs.Table.{State, Me, step, keeps, Allows}
use Rattle.epoch_tables.specs.declared.table.view.ParticipantView.{ParticipantView}
use Rattle.epoch_tables.specs.Table.{word_at, seat_word, Sees, EpochsAgree}
use Rattle.epoch_tables.specs.TableSteps.{after_own, after_free, Publishes, Unpins, Frees}
use Rattle.epoch_tables.proofs.SeatSteps.{step_keeps}
use Rattle.epoch_tables.proofs.Views.{one_view}

-- what a view w owes after its seat, which had the view v and the position k, stored this word there
record Stored (v w : ParticipantView) (k word : ℕ) : Type 0 where
  pub only : (k' : ℕ) → w.position ≡ Some k' → (k' ≡ k) × (word ≡ seat_word w.published)
  pub kept : word ≢ 0 → w.position ≡ Some k
  pub same_seen : w.seen ≡ v.seen
  pub same_advanced : w.advanced ≡ v.advanced
  pub pinned : (p : ℕ) → w.published ≡ Some p → (w.position ≡ Some k) × (p ≤ v.seen)
  pub no_first : w.first_read ≡ None
  pub no_scan : w.scan ≡ None

module _ {S : Type 0} (positions : ℕ) where
  -- what holds of the table between any two steps
  abbrev Rule : State S ParticipantView → Type 0
  Rule = EpochsAgree positions

  -- a store of a participant into its own word keeps all that is said of the others, whose words and views stay
  own_store_keeps : (s : State S ParticipantView) (r : Rule s) (id : ℕ) (v w : ParticipantView) (k word : ℕ)
      → Sees s id v
      → v.position ≡ Some k → Stored v w k word
      → Rule record { words = set s.words (word_at k) word; homes = s.homes; views = set s.views id w }
  own_store_keeps s r id v w k word here is_at o = let mine = r.words_match id v k here is_at in
      let below = mine.0 in
      let long = r.as_many in
      let low = r.none_ahead id v here in
      let same_seen = o.same_seen in
      let now = get_or-set_same s.words (word_at k) word 0 (omega arith) in
      let else : (k' : ℕ) → k' ≢ k
      → get_or (set s.words (word_at k) word) (word_at k') 0 ≡ get_or s.words (word_at k') 0 =
      (λ k' apart. get_or-set_other s.words (word_at k) (word_at k') word 0 (λ e. apart (omega arith))) in
      let no_first : (q : ℕ) → w.first_read ≡ Some q → ⊥ = (λ q is. none-some q (sym o.no_first ∙ is)) in
      let no_scan : (x m : ℕ) → w.scan ≡ Some (x, m) → ⊥ = (λ x m is. none-some (x, m) (sym o.no_scan ∙ is)) in
      step_keeps positions s r id v w (set s.words (word_at k) word) r.epoch here record {
        long = length-set s.words (word_at k) word;
        word = get_or-set_other s.words (word_at k) 0 word 0 (λ e. omega arith) ∙ r.epoch_word;
        up = omega arith;
        reaches = λ n below. inl below;
        advanced = λ u at n has. subst (λ (l : List ℕ). Contains l n)
            (ap (λ (z : ParticipantView). z.advanced) (one_view s.views id u v at here) ∙ sym o.same_advanced) has;
        own = λ k' has. let t = o.only k' has in
            let same = t.0 in
            let inside : k' < positions = omega arith in
            (inside, ap (λ (z : ℕ). get_or (set s.words (word_at k) word) (word_at z) 0) same ∙ (now ∙ t.1));
        others = λ j u k' other at has. let apart : k' ≢ k = (λ same. other (r.one_seat_each j id u v k' at here has
            (is_at ∙ ap (λ (z : ℕ). let o : Option ℕ = Some z in o) (sym same)))) in
            (else k' apart, λ mine. apart (o.only k' mine).0);
        taken = λ k' inside held. dite (ℕ_discrete k' k)
            (λ same. let not_free : word ≢ 0 =
            (λ zero. held (ap (λ (z : ℕ). get_or (set s.words (word_at k) word) (word_at z) 0) same ∙ (now ∙ zero))) in
            inl (o.kept not_free ∙ ap (λ (z : ℕ). let o : Option ℕ = Some z in o) (sym same)))
            (λ apart. inr (
              (λ zero. held (else k' apart ∙ zero)),
              λ u at has. absurd (apart (same_Some k' k
                  (sym has ∙ (ap (λ (z : ParticipantView). z.position) (one_view s.views id u v at here) ∙ is_at)))),
            ));
        seen_now = omega arith;
        pinned = λ p is. let t = o.pinned p is in let le = t.1 in ((k, t.0), omega arith);
        within = λ q is. absurd (no_first q is);
        near = λ j u q other at is. (r.pinned_near j u q at is).4;
        scanning = λ x m is. absurd (no_scan x m is);
        by_me = λ x m j u k q is other at has lt first. absurd (no_scan x m is);
        of_me = λ j u x m k q other at theirs has lt first. absurd (no_first q first);
        myself = λ x m k q is has lt first. absurd (no_first q first);
      } s.homes

  -- a participant may publish an epoch that it has seen
  pub publish_keeps : (slots id : ℕ) (me : Me S ParticipantView) (k p : ℕ) → me.0.position ≡ Some k → p ≤ me.0.seen
      → Allows Rule slots id me (word_at k) (λ _. 2 * p + 1)
      (λ _. Publishes (step slots (word_at k) (2 * p + 1) 0 maybe.none) me (2 * p + 1))
  publish_keeps slots id me k p is_at low s r _ here _ = (
    after_own me.0 (Some p),
    keeps,
    tt,
    own_store_keeps s r id me.0 (after_own me.0 (Some p)) k (2 * p + 1) here is_at record {
      only = λ k' has. (same_Some k' k (sym has ∙ is_at), refl);
      kept = λ _. is_at;
      same_seen = refl;
      same_advanced = refl;
      pinned = λ p' is. let same = same_Some p p' is in (is_at, omega arith);
      no_first = refl;
      no_scan = refl;
    },
    (refl, λ p' is. let same : p ≡ p' = omega arith in ap (λ (z : ℕ). after_own me.0 (Some z)) same),
  )

  -- a participant may store the word of one that is not pinned
  pub unpin_keeps : (slots id : ℕ) (me : Me S ParticipantView) (k : ℕ) → me.0.position ≡ Some k
      → Allows Rule slots id me (word_at k) (λ _. 2) (λ _. Unpins (step slots (word_at k) 2 0 maybe.none) me 2)
  unpin_keeps slots id me k is_at s r _ here _ = (
    after_own me.0 None,
    keeps,
    tt,
    own_store_keeps s r id me.0 (after_own me.0 None) k 2 here is_at record {
      only = λ k' has. (same_Some k' k (sym has ∙ is_at), refl);
      kept = λ _. is_at;
      same_seen = refl;
      same_advanced = refl;
      pinned = λ p is. absurd (none-some p is);
      no_first = refl;
      no_scan = refl;
    },
    (refl, refl),
  )

  -- a participant may give its position back
  pub free_keeps : (slots id : ℕ) (me : Me S ParticipantView) (k : ℕ) → me.0.position ≡ Some k
      → Allows Rule slots id me (word_at k) (λ _. 0) (λ _. Frees (step slots (word_at k) 0 0 maybe.none) me 0)
  free_keeps slots id me k is_at s r _ here _ = (
    after_free me.0,
    keeps,
    tt,
    own_store_keeps s r id me.0 (after_free me.0) k 0 here is_at record {
      only = λ k' has. absurd (none-some k' has);
      kept = λ not_free. absurd (not_free refl);
      same_seen = refl;
      same_advanced = refl;
      pinned = λ p is. absurd (none-some p is);
      no_first = refl;
      no_scan = refl;
    },
    (refl, refl),
  )
