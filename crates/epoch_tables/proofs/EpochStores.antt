-- A store of the epoch after a whole scan keeps the rule: it raises the epoch, or leaves it as another scan raised it.
use Rattle.std.proofs.Common.{◌≡◌, ℕ, ◌+◌, ◌*◌, ◌≤◌, get_or, set, refl, ap, ◌∙◌, subst, inr, arith, Some, length-set}
use Rattle.std.proofs.Common.{get_or-set_other, get_or-set_same, inl, sym, ◌∷◌, []}
use Rattle.std.proofs.lemmas.List.Elements.{Contains-append_left, Contains-append_right}
use mathlib.Core.Logic.{dite}
use native.Mathlib.Decide.{ℕ_discrete}
use Rattle.std.proofs.lemmas.Option.{none-some}
use mathlib.Core.Option as maybe
use Rattle.std.specs.List.{Contains}
use Rattle.atomic_table.specs.Table.{State, Me, step, keeps, Allows}
use Rattle.epoch_tables.specs.declared.table.view.ParticipantView.{ParticipantView}
use Rattle.epoch_tables.specs.Table.{word_at, Sees, EpochsAgree}
use Rattle.epoch_tables.specs.TableSteps.{after_advance, StoresEpoch}
use Rattle.epoch_tables.proofs.SeatSteps.{step_keeps}
use Rattle.epoch_tables.proofs.Views.{one_view}

module _ {S : Type 0} (positions : ℕ) where
  -- what holds of the table between any two steps
  abbrev Rule : State S ParticipantView → Type 0
  Rule = EpochsAgree positions

  -- after a whole scan, whoever is pinned and has read the epoch again read the scanned epoch or a later one
  none_behind : (s : State S ParticipantView) (r : Rule s) (id : ℕ) (v : ParticipantView) (x : ℕ)
      → Sees s id v → v.scan ≡ Some (x, positions)
      → (j : ℕ) (u : ParticipantView) (q : ℕ) → Sees s j u → u.first_read ≡ Some q → x ≤ q
  none_behind s r id v x here is j u q at first = let near = r.pinned_near j u q at first in
      let place = (r.pins_known j u near.0 at near.1).0 in
      r.scans_hold id v x positions j u place.0 q here is at place.1 (r.words_match j u place.0 at place.1).0 first

  -- a participant whose scan has passed every position may store the next epoch: no pinned participant is behind the
  -- one that the scan is for
  pub epoch_store_keeps : (slots id : ℕ) (me : Me S ParticipantView) (x : ℕ) → me.0.scan ≡ Some (x, positions)
      → Allows Rule slots id me 0 (λ _. 2 * (x + 1))
      (λ _. StoresEpoch (step slots 0 (2 * (x + 1)) 0 maybe.none) me (2 * (x + 1)))
  epoch_store_keeps slots id me x is s r _ here _ = let v : ParticipantView = me.0 in
      let w : ParticipantView = after_advance v (x + 1) in
      let begun = r.scans_known id v x positions here is in
      let first = begun.0 in
      let low = first.2 in
      let near = (r.pinned_near id v first.0 here first.1).4 in
      let known = r.none_ahead id v here in
      let long = r.as_many in
      let ahead = none_behind s r id v x here is in
      let else : (k : ℕ) → get_or (set s.words 0 (2 * (x + 1))) (word_at k) 0 ≡ get_or s.words (word_at k) 0 =
      (λ k. get_or-set_other s.words 0 (word_at k) (2 * (x + 1)) 0 (λ e. omega arith)) in (
        w,
        keeps,
        tt,
        step_keeps positions s r id v w (set s.words 0 (2 * (x + 1))) (x + 1) here record {
          long = length-set s.words 0 (2 * (x + 1));
          word = get_or-set_same s.words 0 (2 * (x + 1)) 0 (omega arith);
          up = omega arith;
          reaches = λ n below. dite (ℕ_discrete n (x + 1))
              (λ same. inr (Contains-append_right v.advanced ((x + 1) ∷ []) n (0, omega arith, sym same)))
              (λ earlier. inl (omega arith));
          advanced = λ u at n has. Contains-append_left v.advanced ((x + 1) ∷ []) n
              (subst (λ (z : ParticipantView). Contains z.advanced n) (one_view s.views id u v at here) has);
          own = λ k has. let t = r.words_match id v k here has in (t.0, else k ∙ t.1);
          others = λ j u k other at has. (else k, λ mine. other (r.one_seat_each j id u v k at here has mine));
          taken = λ k below held. inr (
            (λ zero. held (else k ∙ zero)),
            λ u at has. subst (λ (z : ParticipantView). z.position ≡ Some k) (one_view s.views id u v at here) has,
          );
          seen_now = omega arith;
          pinned = λ p has. let t = r.pins_known id v p here has in let below = t.1 in (t.0, omega arith);
          within = λ q has. let t = r.pinned_near id v q here has in
              let below = t.3 in
              let above = ahead id v q here has in
              (t.0, t.1, t.2, omega arith, omega arith);
          near = λ j u q other at has. let above = ahead j u q at has in omega arith;
          scanning = λ y m scans. absurd (none-some (y, m) scans);
          by_me = λ y m j u k q scans other at has lt first. absurd (none-some (y, m) scans);
          of_me = λ j u y m k q other at theirs has lt first. r.scans_hold j u y m id v k q at theirs here has lt first;
          myself = λ y m k q scans has lt first. absurd (none-some (y, m) scans);
        } s.homes,
        (refl, λ e same. let next : x + 1 ≡ e = omega arith in (omega arith, ap (λ (z : ℕ). after_advance v z) next)),
      )
