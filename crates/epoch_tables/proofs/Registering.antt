-- The claim of a position keeps the rule, and so does a new seat. A new table keeps it too.
use Rattle.std.proofs.Common.{◌≡◌, ◌≢◌, ℕ, ◌+◌, ◌*◌, ◌<◌, ◌≤◌, eqb, List, [], ◌∷◌, ◌++◌, length, get_or, set, sym, refl}
use Rattle.std.proofs.Common.{ap, ◌∙◌, subst, ⊎_elim, inl, inr, arith, Option, Some, None, length-set, get_or-set_other}
use Rattle.std.proofs.Common.{get_or-set_same, eq-eqb, ne_eqb}
use Rattle.std.proofs.lemmas.Option.{same_Some, none-some}
use mathlib.Core.Logic.{dite}
use mathlib.Core.Option.{some, some-injective, some-ne-none}
use mathlib.Core.Option as maybe
use native.Mathlib.Decide.{ℕ_discrete}
use lib.ListN.{get_elem?}
use prog.Atomic.{either}
use Rattle.std.specs.List.{Contains}
use Rattle.atomic_table.specs.Table.{State, Me, step, keeps, stepped, Allows, Enters, opening}
use Rattle.atomic_table.proofs.Lists.{at_snoc, at_longer}
use Rattle.epoch_tables.specs.declared.table.view.ParticipantView.{ParticipantView}
use Rattle.epoch_tables.specs.Table.{word_at, words_for, seat_word, Sees, EpochsAgree}
use Rattle.epoch_tables.specs.TableSteps.{without_position, spent, after_word, after_claim, Sits, ClaimsPosition}
use Rattle.epoch_tables.proofs.SeatSteps.{step_keeps}
use Rattle.epoch_tables.proofs.Views.{one_view, only_view}
use Rattle.epoch_tables.proofs.WordLoads.{load_keeps, same_scan, is_word}

-- the word of a participant is not 0, which is that of a free position
word_of_some : (published : Option ℕ) → 0 < seat_word published
word_of_some None = omega arith
word_of_some (Some p) = omega arith

module _ {S : Type 0} (positions : ℕ) where
  -- what holds of the table between any two steps
  abbrev Rule : State S ParticipantView → Type 0
  Rule = EpochsAgree positions

  -- a claim that is won makes the position that of the participant: it was free, so no other participant has it
  claim_won_keeps : (s : State S ParticipantView) (r : Rule s) (id : ℕ) (v : ParticipantView) (k word : ℕ) → Sees s id v
      → v.position ≡ None → k < positions → get_or s.words (word_at k) 0 ≡ 0
      → Rule
      record { words = set s.words (word_at k) 2; homes = s.homes; views = set s.views id (after_claim v k word) }
  claim_won_keeps s r id v k word here no_position below free = let w : ParticipantView = after_claim v k word in
      let long = r.as_many in
      let low = r.none_ahead id v here in
      let now = get_or-set_same s.words (word_at k) 2 0 (omega arith) in
      let else : (k' : ℕ) → k' ≢ k → get_or (set s.words (word_at k) 2) (word_at k') 0 ≡ get_or s.words (word_at k') 0 =
      (λ k' apart. get_or-set_other s.words (word_at k) (word_at k') 2 0 (λ e. apart (omega arith))) in
      let nobodys : (j : ℕ) (u : ParticipantView) → Sees s j u → u.position ≢ Some k = (λ j u at has.
      let word = (r.words_match j u k at has).1 in
      let not_free = word_of_some u.published in
      let x : ℕ = seat_word u.published in
      let is : get_or s.words (word_at k) 0 ≡ x = word in
      omega arith) in
      step_keeps positions s r id v w (set s.words (word_at k) 2) r.epoch here record {
        long = length-set s.words (word_at k) 2;
        word = get_or-set_other s.words (word_at k) 0 2 0 (λ e. omega arith) ∙ r.epoch_word;
        up = omega arith;
        reaches = λ n below. inl below;
        advanced = λ u at n has. subst (λ (z : ParticipantView). Contains z.advanced n)
            (one_view s.views id u v at here) has;
        own = λ k' has. let same = same_Some k k' has in
            let inside : k' < positions = omega arith in
            (inside, ap (λ (z : ℕ). get_or (set s.words (word_at k) 2) (word_at z) 0) (sym same) ∙ now);
        others = λ j u k' other at has.
            let apart : k' ≢ k = (λ same. nobodys j u at (has ∙ ap (λ (z : ℕ). let o : Option ℕ = Some z in o) same)) in
            (else k' apart, λ mine. apart (sym (same_Some k k' mine)));
        taken = λ k' inside held. dite (ℕ_discrete k' k)
            (λ same. inl (ap (λ (z : ℕ). let o : Option ℕ = Some z in o) (sym same)))
            (λ apart. inr (
              (λ zero. held (else k' apart ∙ zero)),
              λ u at has. absurd (none-some k' (sym no_position
                  ∙ (ap (λ (z : ParticipantView). z.position) (one_view s.views id v u here at) ∙ has))),
            ));
        seen_now = low;
        pinned = λ p is. absurd (none-some p is);
        within = λ q is. absurd (none-some q is);
        near = λ j u q other at is. (r.pinned_near j u q at is).4;
        scanning = λ x m is. absurd (none-some (x, m) is);
        by_me = λ x m j u k q is other at has lt first. absurd (none-some (x, m) is);
        of_me = λ j u x m k q other at theirs has lt first. absurd (none-some q first);
        myself = λ x m k q is has lt first. absurd (none-some q first);
      } s.homes

  -- a participant without a position may try to claim one, by an exchange of 0 for the word of one that is not pinned
  pub claim_keeps : (slots id : ℕ) (me : Me S ParticipantView) (k : ℕ) → me.0.position ≡ None → k < positions
      → Allows Rule slots id me (word_at k) (λ x. either (eqb x 0) 2 x)
      (ClaimsPosition (step slots (word_at k) 0 2 maybe.none) me)
  claim_keeps slots id me k no_position below s r _ here _ = let v : ParticipantView = me.0 in
      let i : ℕ = word_at k in
      let x : ℕ = get_or s.words i 0 in
      dite (ℕ_discrete x 0)
      (λ free. let w : ParticipantView = after_claim v k x in (
        w,
        keeps,
        tt,
        subst (λ b. Rule (stepped s i (either b 2 x) id me.1 w keeps)) (sym (eq-eqb x 0 free))
            (claim_won_keeps s r id v k x here no_position below free),
        (refl, is_word positions s r k below, (k, refl, (λ _. refl), λ not_free. absurd (not_free free))),
      ))
      (λ not_free. (
        after_word v k x,
        keeps,
        tt,
        subst (λ b. Rule (stepped s i (either b 2 x) id me.1 (after_word v k x) keeps)) (sym (ne_eqb x 0 not_free))
            (load_keeps positions s r i id v v.scan (v.looked ++ Some k ∷ []) (v.found ++ x ∷ []) here
            (same_scan positions s r id v here)),
        (refl, is_word positions s r k below, (k, refl, (λ zero. absurd (not_free zero)), λ _. refl)),
      ))

  -- the views with that of a new seat, which has no position
  module _ (s : State S ParticipantView) (r : Rule s) (seen : ℕ) (looked : List (Option ℕ)) (found : List ℕ)
      (low : seen ≤ r.epoch) where
    abbrev new_view : ParticipantView
    new_view = without_position seen looked found [] []

    abbrev more_views : List ParticipantView
    more_views = s.views ++ new_view ∷ []

    -- a fact about each view that was there, and about a view that says nothing
    each_old : (P : ParticipantView → Type 0) (j : ℕ) (u : ParticipantView) → get_elem? more_views j ≡ some u
        → (Sees s j u → P u) → P new_view → P u
    each_old P j u at old new = ⊎_elim old (λ (is : new_view ≡ u). subst P is new) (at_snoc s.views new_view u j at)

    new_seat_keeps : Rule record { words = s.words; homes = s.homes; views = more_views }
    new_seat_keeps = record {
      epoch = r.epoch;
      as_many = r.as_many;
      epoch_word = r.epoch_word;
      reached = λ n above below.
          let t = r.reached n above below in
          (t.0, t.1, at_longer s.views (new_view ∷ []) t.0 t.1 t.2, t.3);
      words_match = λ j u k at.
          each_old (λ u. u.position ≡ Some k → (k < positions) × (get_or s.words (word_at k) 0 ≡ seat_word u.published))
          j u at (λ old has. r.words_match j u k old has) (λ has. absurd (none-some k has));
      taken_by_seat = λ k below held.
          let t = r.taken_by_seat k below held in
          (t.0, t.1, at_longer s.views (new_view ∷ []) t.0 t.1 t.2, t.3);
      one_seat_each =
          λ i j u its k at_i at_j. each_old (λ u. u.position ≡ Some k → its.position ≡ Some k → i ≡ j) i u at_i
          (λ old mine. each_old (λ its. its.position ≡ Some k → i ≡ j) j its at_j
          (λ old' theirs. r.one_seat_each i j u its k old old' mine theirs) (λ has. absurd (none-some k has)))
          (λ has. absurd (none-some k has));
      none_ahead = λ j u at. each_old (λ u. u.seen ≤ r.epoch) j u at (λ old. r.none_ahead j u old) low;
      pins_known = λ j u p at. each_old (λ u. u.published ≡ Some p → ((k : ℕ) × (u.position ≡ Some k)) × (p ≤ u.seen))
          j u at (λ old is. r.pins_known j u p old is) (λ is. absurd (none-some p is));
      pinned_near = λ j u q at. each_old (λ u. u.first_read ≡ Some q
          → (p : ℕ) × (u.published ≡ Some p) × (p ≤ q) × (q ≤ r.epoch) × (r.epoch ≤ q + 1))
          j u at (λ old is. r.pinned_near j u q old is) (λ is. absurd (none-some q is));
      scans_known = λ j u x m at.
          each_old (λ u. u.scan ≡ Some (x, m) → ((q : ℕ) × (u.first_read ≡ Some q) × (q ≤ x)) × (x ≤ u.seen))
          j u at (λ old is. r.scans_known j u x m old is) (λ is. absurd (none-some (x, m) is));
      scans_hold = λ j u x m i its k q at_j scans at_i. each_old
          (λ u. u.scan ≡ Some (x, m) → its.position ≡ Some k → k < m → its.first_read ≡ Some q → x ≤ q) j u at_j
          (λ old mine. each_old (λ its. its.position ≡ Some k → k < m → its.first_read ≡ Some q → x ≤ q) i its at_i
          (λ old' has lt first.
          r.scans_hold j u x m i its k q old mine old' has lt first) (λ has. absurd (none-some k has)))
          (λ is. absurd (none-some (x, m) is)) scans;
    }

  -- a new participant has no position yet, and so takes none from the others
  pub new_seat_enters : (slots : ℕ) (first : ParticipantView)
      → Enters Rule slots 0 (λ x w. Sits {S = S} (step slots 0 0 0 maybe.none) (first, []) x (w, []))
  new_seat_enters slots first s r _ _ = let e : ℕ = r.epoch in (
    without_position e (None ∷ []) (2 * e ∷ []) [] [],
    new_seat_keeps s r e (None ∷ []) (2 * e ∷ []) (omega arith),
    (refl, (e, r.epoch_word, refl)),
  )

  -- a new table is at epoch 0, and each of its positions is free
  pub new_table_keeps : (words : List ℕ) (slots : List S) → length words ≡ words_for positions
      → ((i : ℕ) → i < length words → get_or words i 0 ≡ 0) → Rule (opening words slots spent)
  new_table_keeps words slots long blank = record {
    epoch = 0;
    as_many = long;
    epoch_word = blank 0 (omega arith);
    reached = λ n above below. absurd (omega arith);
    words_match =
        λ j u k at has. absurd (none-some k (ap (λ (z : ParticipantView). z.position) (only_view spent j u at) ∙ has));
    taken_by_seat = λ k below held. absurd (held (blank (word_at k) (omega arith)));
    one_seat_each = λ i j u its k at at' has has'.
        absurd (none-some k (ap (λ (z : ParticipantView). z.position) (only_view spent i u at) ∙ has));
    none_ahead = λ j u at. subst (λ (z : ParticipantView). z.seen ≤ 0) (only_view spent j u at) (omega arith);
    pins_known =
        λ j u p at is. absurd (none-some p (ap (λ (z : ParticipantView). z.published) (only_view spent j u at) ∙ is));
    pinned_near =
        λ j u q at is. absurd (none-some q (ap (λ (z : ParticipantView). z.first_read) (only_view spent j u at) ∙ is));
    scans_known =
        λ j u x m at is. absurd (none-some (x, m) (ap (λ (z : ParticipantView). z.scan) (only_view spent j u at) ∙ is));
    scans_hold = λ j u x m i its k q at is at' has lt first.
        absurd (none-some (x, m) (ap (λ (z : ParticipantView). z.scan) (only_view spent j u at) ∙ is));
  }
