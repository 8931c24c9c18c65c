-- A load of the epoch keeps the rule.
use Rattle.std.proofs.Common.{◌≡◌, ℕ, ◌+◌, ◌≤◌, ◌⊎◌, List, set, sym, refl, ap, subst, ⊎_elim, inl, inr, arith, Option}
use Rattle.std.proofs.Common.{Some, None}
use Rattle.std.proofs.lemmas.Option.{same_Some, none-some}
use mathlib.Core.Option as maybe
use lib.Seq.{set-get_or}
use Rattle.std.specs.List.{Contains}
use Rattle.atomic_table.specs.Table.{State, Me, step, keeps, Allows}
use Rattle.epoch_tables.specs.declared.table.view.ParticipantView.{ParticipantView}
use Rattle.epoch_tables.specs.Table.{EpochsAgree}
use Rattle.epoch_tables.specs.TableSteps.{first_after, scan_after, after_epoch, LoadsEpoch}
use Rattle.epoch_tables.proofs.SeatSteps.{step_keeps}
use Rattle.epoch_tables.proofs.Views.{one_view}

-- the first epoch read since publishing, between the one published and the present one
abbrev Near : Option ℕ → ℕ → ℕ → Type 0
Near published first epoch = (p : ℕ) × (published ≡ Some p) × (p ≤ first) × (first ≤ epoch) × (epoch ≤ first + 1)

-- what a participant keeps as its first reading is near the epoch: an older reading stays, and a new one is the epoch
-- itself
first_is_near : (published first : Option ℕ) (epoch q : ℕ) → ((p : ℕ) → published ≡ Some p → p ≤ epoch)
    → ((r : ℕ) → first ≡ Some r → Near published r epoch) → first_after published first epoch ≡ Some q
    → Near published q epoch
first_is_near None first epoch q below old is = old q is
first_is_near (Some p) None epoch q below old is = let now = same_Some epoch q is in
    let low = below p refl in
    (p, refl, omega arith, omega arith, omega arith)
first_is_near (Some p) (Some r) epoch q below old is =
    subst (λ (z : ℕ). Near (Some p) z epoch) (same_Some r q is) (old r refl)

-- the first reading is this one, or an earlier one
first_is_now_or_old : (published first : Option ℕ) (epoch q : ℕ)
    → first_after published first epoch ≡ Some q → (epoch ≡ q) ⊎ (first ≡ Some q)
first_is_now_or_old None first epoch q is = inr is
first_is_now_or_old (Some p) None epoch q is = inl (same_Some epoch q is)
first_is_now_or_old (Some p) (Some r) epoch q is = inr is

-- the scan that begins is for the epoch read, has passed no position, and is by a seat that has read the epoch again
abbrev Begins : Option ℕ → Option ℕ → ℕ → ℕ → ℕ → Type 0
Begins published first epoch scanned passed =
    ((q : ℕ) × (first_after published first epoch ≡ Some q) × (q ≤ scanned)) × (scanned ≡ epoch) × (passed ≡ 0)

-- a load of the epoch by a pinned participant begins a scan for that epoch, which has passed no position yet
scan_begins : (published first : Option ℕ) (epoch scanned passed : ℕ) → ((r : ℕ) → first ≡ Some r → r ≤ epoch)
    → scan_after published epoch ≡ Some (scanned, passed) → Begins published first epoch scanned passed
scan_begins None first epoch scanned passed old is = absurd (none-some _ is)
scan_begins (Some p) None epoch scanned passed old is = let same = same_Some (epoch, 0) (scanned, passed) is in
    let scanned_for = ap (λ (z : ℕ × ℕ). z.0) same in
    let none = ap (λ (z : ℕ × ℕ). z.1) same in
    ((epoch, refl, omega arith), sym scanned_for, sym none)
scan_begins (Some p) (Some r) epoch scanned passed old is = let same = same_Some (epoch, 0) (scanned, passed) is in
    let scanned_for = ap (λ (z : ℕ × ℕ). z.0) same in
    let none = ap (λ (z : ℕ × ℕ). z.1) same in
    let low = old r refl in
    ((r, refl, omega arith), sym scanned_for, sym none)

module _ {S : Type 0} (positions : ℕ) where
  -- what holds of the table between any two steps
  abbrev Rule : State S ParticipantView → Type 0
  Rule = EpochsAgree positions

  -- a load of the epoch changes no word, and what the participant then knows of it holds
  pub epoch_load_keeps : (slots id : ℕ) (me : Me S ParticipantView)
      → Allows Rule slots id me 0 (λ x. x) (LoadsEpoch (step slots 0 0 0 maybe.none) me)
  epoch_load_keeps slots id me s r _ here _ = let e : ℕ = r.epoch in
      let v : ParticipantView = me.0 in
      let w : ParticipantView = after_epoch v e in
      let lowest = r.none_ahead id v here in
      let begins : (x m : ℕ) → w.scan ≡ Some (x, m) → Begins v.published v.first_read e x m =
      (λ x m is. scan_begins v.published v.first_read e x m (λ q has. (r.pinned_near id v q here has).3) is) in (
        w,
        keeps,
        tt,
        subst (λ (ws : List ℕ). Rule record { words = ws; homes = s.homes; views = set s.views id w })
            (sym (set-get_or s.words 0 0))
            (step_keeps positions s r id v w s.words e here record {
              long = refl;
              word = r.epoch_word;
              up = omega arith;
              reaches = λ n below. inl below;
              advanced = λ u at n has. subst (λ (z : ParticipantView). Contains z.advanced n)
                  (one_view s.views id u v at here) has;
              own = λ k has. r.words_match id v k here has;
              others = λ j u k other at has. (refl, λ mine. other (r.one_seat_each j id u v k at here has mine));
              taken = λ k below held. inr (
                held,
                λ u at has. subst (λ (z : ParticipantView). z.position ≡ Some k) (one_view s.views id u v at here) has,
              );
              seen_now = omega arith;
              pinned = λ p is. let old = r.pins_known id v p here is in let low = old.1 in (old.0, omega arith);
              within = λ q is. first_is_near v.published v.first_read e q
                  (λ p is. let old = r.pins_known id v p here is in let low = old.1 in omega arith)
                  (λ q is. r.pinned_near id v q here is) is;
              near = λ j u q other at is. (r.pinned_near j u q at is).4;
              scanning = λ x m is. let t = begins x m is in let same = t.1 in (t.0, omega arith);
              by_me = λ x m j u k q is other at has lt first. let none = (begins x m is).2 in absurd (omega arith);
              of_me = λ j u x m k q other at scans has lt first. ⊎_elim
                  (λ (now : e ≡ q).
                  let known = (r.scans_known j u x m at scans).1 in
                  let below = r.none_ahead j u at in
                  omega arith)
                  (λ old. r.scans_hold j u x m id v k q at scans here has lt old)
                  (first_is_now_or_old v.published v.first_read e q first);
              myself = λ x m k q is has lt first. let none = (begins x m is).2 in absurd (omega arith);
            } s.homes),
        (refl, (e, r.epoch_word, lowest, refl)),
      )
