-- A step of one seat keeps the rule, where the words after it and the new view owe little.
use Rattle.std.proofs.Common.{◌≡◌, ◌≢◌, ℕ, ◌+◌, ◌*◌, ◌<◌, ◌≤◌, ◌⊎◌, List, length, get_or, set, refl, ◌∙◌, subst, ⊎_elim}
use Rattle.std.proofs.Common.{arith, Some}
use mathlib.Core.Logic.{dite}
use mathlib.Core.Option.{some, some-injective, some-ne-none}
use mathlib.Core.Option as maybe
use native.Mathlib.Decide.{ℕ_discrete}
use lib.ListN.{get_elem?}
use Rattle.std.specs.List.{Contains}
use Rattle.atomic_table.specs.Table.{State}
use Rattle.atomic_table.proofs.Lists.{set_here, set_else}
use Rattle.epoch_tables.specs.declared.table.view.ParticipantView.{ParticipantView}
use Rattle.epoch_tables.specs.Table.{word_at, seat_word, Sees, EpochsAgree}
use Rattle.epoch_tables.proofs.Views.{each_view, is_seat}

module _ {S : Type 0} where
  -- What the new view w of the seat `me` owes, where the words become these and the epoch goes from `before` to
  -- `after`.
  pub record Owes (positions : ℕ) (s : State S ParticipantView) (before : ℕ) (words : List ℕ) (after : ℕ) (me : ℕ)
      (w : ParticipantView) : Type 0 where
    pub long : length words ≡ length s.words
    pub word : get_or words 0 0 ≡ 2 * after
    pub up : before ≤ after
    -- the epochs that it stored
    pub reaches : (n : ℕ) → n ≤ after → (n ≤ before) ⊎ Contains w.advanced n
    pub advanced : (u : ParticipantView) → Sees s me u → (n : ℕ) → Contains u.advanced n → Contains w.advanced n
    -- its own word
    pub own : (k : ℕ) → w.position ≡ Some k → (k < positions) × (get_or words (word_at k) 0 ≡ seat_word w.published)
    pub others : (j : ℕ) (u : ParticipantView) (k : ℕ) → j ≢ me → Sees s j u → u.position ≡ Some k
        → (get_or words (word_at k) 0 ≡ get_or s.words (word_at k) 0) × (w.position ≢ Some k)
    pub taken : (k : ℕ) → k < positions → get_or words (word_at k) 0 ≢ 0
        → (w.position ≡ Some k) ⊎ ((get_or s.words (word_at k) 0 ≢ 0)
        × ((u : ParticipantView) → Sees s me u → u.position ≡ Some k → w.position ≡ Some k))
    -- what it read and published
    pub seen_now : w.seen ≤ after
    pub pinned : (p : ℕ) → w.published ≡ Some p → ((k : ℕ) × (w.position ≡ Some k)) × (p ≤ w.seen)
    pub within : (r : ℕ) → w.first_read ≡ Some r
        → (p : ℕ) × (w.published ≡ Some p) × (p ≤ r) × (r ≤ after) × (after ≤ r + 1)
    pub near : (j : ℕ) (u : ParticipantView) (r : ℕ) → j ≢ me → Sees s j u → u.first_read ≡ Some r → after ≤ r + 1
    -- its scan, and the scans of others
    pub scanning : (x m : ℕ) → w.scan ≡ Some (x, m) → ((r : ℕ) × (w.first_read ≡ Some r) × (r ≤ x)) × (x ≤ w.seen)
    pub by_me : (x m : ℕ) (j : ℕ) (u : ParticipantView) (k r : ℕ) → w.scan ≡ Some (x, m) → j ≢ me → Sees s j u
        → u.position ≡ Some k → k < m → u.first_read ≡ Some r → x ≤ r
    pub of_me : (j : ℕ) (u : ParticipantView) (x m k r : ℕ) → j ≢ me → Sees s j u → u.scan ≡ Some (x, m)
        → w.position ≡ Some k → k < m → w.first_read ≡ Some r → x ≤ r
    pub myself : (x m k r : ℕ) → w.scan ≡ Some (x, m) → w.position ≡ Some k → k < m → w.first_read ≡ Some r → x ≤ r

  module _ (positions : ℕ) (s : State S ParticipantView) (r : EpochsAgree positions s) (me : ℕ) (v w : ParticipantView)
      (words : List ℕ) (after : ℕ) (at_me : Sees s me v) (o : Owes positions s r.epoch words after me w) where
    abbrev pub after_views : List ParticipantView
    after_views = set s.views me w

    words_still_match : (j : ℕ) (u : ParticipantView) (k : ℕ) → get_elem? after_views j ≡ some u → u.position ≡ Some k
        → (k < positions) × (get_or words (word_at k) 0 ≡ seat_word u.published)
    words_still_match j u k at = each_view
        (λ j u. u.position ≡ Some k → (k < positions) × (get_or words (word_at k) 0 ≡ seat_word u.published))
        s.views me w (o.own k)
        (λ j u other at_j has.
        let before = r.words_match j u k at_j has in
        (before.0, (o.others j u k other at_j has).0 ∙ before.1))
        j u at

    still_taken : (k : ℕ) → k < positions → get_or words (word_at k) 0 ≢ 0
        → (j : ℕ) × (u : ParticipantView) × (get_elem? after_views j ≡ some u) × (u.position ≡ Some k)
    still_taken k below not_free = let me_there = set_here s.views me w (is_seat s.views me v at_me) in ⊎_elim
        (λ mine. (me, w, me_there, mine))
        (λ (t : (get_or s.words (word_at k) 0 ≢ 0)
        × ((u : ParticipantView) → Sees s me u → u.position ≡ Some k → w.position ≡ Some k)).
        let held = r.taken_by_seat k below t.0 in
        dite (ℕ_discrete held.0 me)
        (λ same. (me, w, me_there, t.1 held.1 (subst (λ (z : ℕ). Sees s z held.1) same held.2) held.3))
        (λ other. (held.0, held.1, set_else s.views me held.0 w other ∙ held.2, held.3)))
        (o.taken k below not_free)

    still_reached : (n : ℕ) → 0 < n → n ≤ after
        → (j : ℕ) × (u : ParticipantView) × (get_elem? after_views j ≡ some u) × Contains u.advanced n
    still_reached n above below = let me_there = set_here s.views me w (is_seat s.views me v at_me) in ⊎_elim
        (λ (old : n ≤ r.epoch). let by = r.reached n above old in
        dite (ℕ_discrete by.0 me)
        (λ same. (me, w, me_there, o.advanced by.1 (subst (λ (z : ℕ). Sees s z by.1) same by.2) n by.3))
        (λ other. (by.0, by.1, set_else s.views me by.0 w other ∙ by.2, by.3)))
        (λ mine. (me, w, me_there, mine))
        (o.reaches n below)

    still_one_seat_each : (i j : ℕ) (u its : ParticipantView) (k : ℕ) → get_elem? after_views i ≡ some u
        → get_elem? after_views j ≡ some its → u.position ≡ Some k → its.position ≡ Some k → i ≡ j
    still_one_seat_each i j u its k at_i at_j =
        each_view (λ i u. u.position ≡ Some k → its.position ≡ Some k → i ≡ j) s.views me w
        (λ mine theirs. each_view (λ j its. its.position ≡ Some k → me ≡ j) s.views me w (λ _. refl)
        (λ j its other at_j has. absurd ((o.others j its k other at_j has).1 mine)) j its at_j theirs)
        (λ i u other at_i mine theirs. each_view (λ j its. its.position ≡ Some k → i ≡ j) s.views me w
        (λ has. absurd ((o.others i u k other at_i mine).1 has))
        (λ j its _ at_j has. r.one_seat_each i j u its k at_i at_j mine has) j its at_j theirs)
        i u at_i

    still_near : (j : ℕ) (u : ParticipantView) (q : ℕ) → get_elem? after_views j ≡ some u → u.first_read ≡ Some q
        → (p : ℕ) × (u.published ≡ Some p) × (p ≤ q) × (q ≤ after) × (after ≤ q + 1)
    still_near j u q at = each_view
        (λ j u. u.first_read ≡ Some q → (p : ℕ) × (u.published ≡ Some p) × (p ≤ q) × (q ≤ after) × (after ≤ q + 1))
        s.views me w (o.within q)
        (λ j u other at_j has. let before = r.pinned_near j u q at_j has in
        let up = o.up in
        let below = before.3 in
        (before.0, before.1, before.2, omega arith, o.near j u q other at_j has))
        j u at

    scans_still_hold : (j : ℕ) (u : ParticipantView) (x m : ℕ) (i : ℕ) (its : ParticipantView) (k q : ℕ)
        → get_elem? after_views j ≡ some u → u.scan ≡ Some (x, m) → get_elem? after_views i ≡ some its
        → its.position ≡ Some k → k < m → its.first_read ≡ Some q → x ≤ q
    scans_still_hold j u x m i its k q at_j scans at_i = each_view
        (λ j u. u.scan ≡ Some (x, m) → its.position ≡ Some k → k < m → its.first_read ≡ Some q → x ≤ q) s.views me w
        (λ mine. each_view (λ i its. its.position ≡ Some k → k < m → its.first_read ≡ Some q → x ≤ q) s.views me w
        (λ has lt first. o.myself x m k q mine has lt first)
        (λ i its other at_i has lt first. o.by_me x m i its k q mine other at_i has lt first) i its at_i)
        (λ j u other at_j theirs.
        each_view (λ i its. its.position ≡ Some k → k < m → its.first_read ≡ Some q → x ≤ q) s.views me w
        (λ has lt first. o.of_me j u x m k q other at_j theirs has lt first)
        (λ i its _ at_i has lt first. r.scans_hold j u x m i its k q at_j theirs at_i has lt first) i its at_i)
        j u at_j scans

    pub step_keeps : (homes : List (maybe.Option S))
        → EpochsAgree positions record { words = words; homes = homes; views = after_views }
    step_keeps homes = record {
      epoch = after;
      as_many = o.long ∙ r.as_many;
      epoch_word = o.word;
      reached = still_reached;
      words_match = words_still_match;
      taken_by_seat = still_taken;
      one_seat_each = still_one_seat_each;
      none_ahead = each_view (λ j u. u.seen ≤ after) s.views me w o.seen_now
          (λ j u other at_j. let before = r.none_ahead j u at_j in let up = o.up in omega arith);
      pins_known =
          λ j u p at. each_view (λ j u. u.published ≡ Some p → ((k : ℕ) × (u.position ≡ Some k)) × (p ≤ u.seen))
          s.views me w (o.pinned p) (λ j u other at_j. r.pins_known j u p at_j) j u at;
      pinned_near = still_near;
      scans_known = λ j u x m at. each_view
          (λ j u. u.scan ≡ Some (x, m) → ((q : ℕ) × (u.first_read ≡ Some q) × (q ≤ x)) × (x ≤ u.seen))
          s.views me w (o.scanning x m) (λ j u other at_j. r.scans_known j u x m at_j) j u at;
      scans_hold = scans_still_hold;
    }
