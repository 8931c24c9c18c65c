-- A load of a position's word keeps the rule, and so does each load that leaves all of a view but its scan and its
-- list.
use Rattle.std.proofs.Common.{◌≡◌, ℕ, ◌+◌, ◌*◌, ◌<◌, ◌≤◌, List, [], ◌∷◌, ◌++◌, get_or, set, sym, refl, ap, ◌∙◌, subst}
use Rattle.std.proofs.Common.{⊎_elim, inl, inr, arith, Option, Some, None}
use Rattle.std.proofs.lemmas.Option.{same_Some}
use mathlib.Core.Logic.{dite}
use mathlib.Core.Option as maybe
use native.Mathlib.Decide.{ℕ_discrete}
use lib.Seq.{set-get_or}
use Rattle.std.specs.List.{Contains}
use Rattle.atomic_table.specs.Table.{State, Me, step, keeps, Allows}
use Rattle.epoch_tables.specs.declared.table.view.ParticipantView.{ParticipantView}
use Rattle.epoch_tables.specs.Table.{word_at, seat_word, IsWord, LetsPass, Sees, EpochsAgree}
use Rattle.epoch_tables.specs.TableSteps.{after_word, after_pass, LoadsWord}
use Rattle.epoch_tables.proofs.SeatSteps.{step_keeps}
use Rattle.epoch_tables.proofs.Views.{one_view}

-- the word of a participant is one that a scan understands
word_of_is_word : (published : Option ℕ) (word : ℕ) → word ≡ seat_word published → IsWord word
word_of_is_word None word is = inr (inl is)
word_of_is_word (Some p) word is = inr (inr (p, is))

-- whether a word lets a scan pass can be decided
lets_pass : (epoch word : ℕ) → Dec (LetsPass epoch word)
lets_pass epoch word = dite (ℕ_discrete word 0)
    (λ free. yes (inl free))
    (λ not_free. dite (ℕ_discrete word 2)
    (λ unpinned. yes (inr (inl unpinned)))
    (λ not_two. dite (ℕ_discrete word (2 * epoch + 1))
    (λ same. yes (inr (inr same)))
    (λ apart. no (λ any. ⊎_elim not_free (λ rest. ⊎_elim not_two apart rest) any))))

module _ {S : Type 0} (positions : ℕ) where
  -- what holds of the table between any two steps
  abbrev Rule : State S ParticipantView → Type 0
  Rule = EpochsAgree positions

  -- and so is each word of the table, also that of a free position
  pub is_word : (s : State S ParticipantView) → Rule s → (k : ℕ) → k < positions → IsWord (get_or s.words (word_at k) 0)
  is_word s r k below = dite (ℕ_discrete (get_or s.words (word_at k) 0) 0)
      (λ free. inl free)
      (λ not_free. let held = r.taken_by_seat k below not_free in
      word_of_is_word held.1.published (get_or s.words (word_at k) 0) (r.words_match held.0 held.1 k held.2 held.3).1)

  -- a pinned seat whose word lets a scan pass has read the scanned epoch again, or a later one
  not_behind : (s : State S ParticipantView) (r : Rule s) (x k j : ℕ) (u : ParticipantView) (q : ℕ)
      → LetsPass x (get_or s.words (word_at k) 0) → Sees s j u → u.position ≡ Some k → u.first_read ≡ Some q → x ≤ q
  not_behind s r x k j u q pass at has first = let near = r.pinned_near j u q at first in
      let low = near.2 in
      let word : get_or s.words (word_at k) 0 ≡ 2 * near.0 + 1 = (r.words_match j u k at has).1 ∙ ap seat_word near.1 in
      ⊎_elim (λ zero. absurd (omega arith))
      (λ rest. ⊎_elim (λ two. absurd (omega arith)) (λ odd. omega arith) rest) pass

  -- what the scan of a view says: it began after a reading of its own, and holds for the positions passed
  pub record Scans (s : State S ParticipantView) (v : ParticipantView) (scan : Option (ℕ × ℕ)) : Type 0 where
    pub known : (x m : ℕ) → scan ≡ Some (x, m) → ((q : ℕ) × (v.first_read ≡ Some q) × (q ≤ x)) × (x ≤ v.seen)
    pub hold : (x m : ℕ) (j : ℕ) (u : ParticipantView) (k q : ℕ) → scan ≡ Some (x, m) → Sees s j u → u.position ≡ Some k
        → k < m → u.first_read ≡ Some q → x ≤ q

  -- a load by a seat whose position, number and first reading stay
  pub load_keeps : (s : State S ParticipantView) (r : Rule s) (i id : ℕ) (v : ParticipantView) (scan : Option (ℕ × ℕ))
      (looked : List (Option ℕ)) (found : List ℕ) → Sees s id v → Scans s v scan
      → Rule record {
        words = set s.words i (get_or s.words i 0);
        homes = s.homes;
        views = set s.views id (record v { scan = scan; looked = looked; found = found });
      }
  load_keeps s r i id v scan looked found here scans =
      let w : ParticipantView = record v { scan = scan; looked = looked; found = found } in
      subst (λ (ws : List ℕ). Rule record { words = ws; homes = s.homes; views = set s.views id w })
      (sym (set-get_or s.words i 0))
      (step_keeps positions s r id v w s.words r.epoch here record {
        long = refl;
        word = r.epoch_word;
        up = omega arith;
        reaches = λ n below. inl below;
        advanced = λ u at n has. subst (λ (z : ParticipantView). Contains z.advanced n)
            (one_view s.views id u v at here) has;
        own = λ k has. r.words_match id v k here has;
        others = λ j u k other at has. (refl, λ mine. other (r.one_seat_each j id u v k at here has mine));
        taken = λ k below held. inr (
          held,
          λ u at has. subst (λ (z : ParticipantView). z.position ≡ Some k) (one_view s.views id u v at here) has,
        );
        seen_now = r.none_ahead id v here;
        pinned = λ p is. r.pins_known id v p here is;
        within = λ q is. r.pinned_near id v q here is;
        near = λ j u q other at is. (r.pinned_near j u q at is).4;
        scanning = scans.known;
        by_me = λ x m j u k q is other at has lt first. scans.hold x m j u k q is at has lt first;
        of_me = λ j u x m k q other at theirs has lt first. r.scans_hold j u x m id v k q at theirs here has lt first;
        myself = λ x m k q is has lt first. scans.hold x m id v k q is here has lt first;
      } s.homes)

  -- the scan as it was
  pub same_scan : (s : State S ParticipantView) (r : Rule s) (id : ℕ) (v : ParticipantView)
      → Sees s id v → Scans s v v.scan
  same_scan s r id v here = record {
    known = λ x m is. r.scans_known id v x m here is;
    hold = λ x m j u k q is at has lt first. r.scans_hold id v x m j u k q here is at has lt first;
  }

  -- the scan that has passed one position more
  longer_scan : (s : State S ParticipantView) (r : Rule s) (id : ℕ) (v : ParticipantView) (x k : ℕ) → Sees s id v
      → v.scan ≡ Some (x, k) → LetsPass x (get_or s.words (word_at k) 0) → Scans s v (Some (x, k + 1))
  longer_scan s r id v x k here is pass = record {
    known = λ x' m is'. let same = ap (λ (z : ℕ × ℕ). z.0) (same_Some (x, k + 1) (x', m) is') in
        subst (λ (z : ℕ). ((q : ℕ) × (v.first_read ≡ Some q) × (q ≤ z)) × (z ≤ v.seen)) same
        (r.scans_known id v x k here is);
    hold = λ x' m j u k' q is' at has lt first. let both = same_Some (x, k + 1) (x', m) is' in
        let same = ap (λ (z : ℕ × ℕ). z.0) both in
        let more = ap (λ (z : ℕ × ℕ). z.1) both in
        let low : x ≤ q = dite (ℕ_discrete k' k)
        (λ last. not_behind s r x k j u q pass at (has ∙ ap (λ (z : ℕ). let o : Option ℕ = Some z in o) last) first)
        (λ other. r.scans_hold id v x k j u k' q here is at has (omega arith) first) in
        omega arith;
  }

  -- a load of the word that a scan is at changes no word; past it the scan knows that its participant holds no
  -- advance back
  pub word_load_keeps : (slots id : ℕ) (me : Me S ParticipantView) (x k : ℕ) → me.0.scan ≡ Some (x, k) → k < positions
      → Allows Rule slots id me (word_at k) (λ x. x) (LoadsWord (step slots (word_at k) 0 0 maybe.none) me)
  word_load_keeps slots id me x k is below s r _ here _ = let v : ParticipantView = me.0 in
      let found : ℕ = get_or s.words (word_at k) 0 in
      dite (lets_pass x found)
      (λ pass. (
        after_pass v x k found,
        keeps,
        tt,
        load_keeps s r (word_at k) id v (Some (x, k + 1)) (v.looked ++ Some k ∷ []) (v.found ++ found ∷ []) here
            (longer_scan s r id v x k here is pass),
        (
          refl,
          is_word s r k below,
          λ x' k' is'. let both = same_Some (x, k) (x', k') (sym is ∙ is') in
              let same = ap (λ (z : ℕ × ℕ). z.0) both in (
                ap (λ (z : ℕ × ℕ). word_at z.1) both,
                (λ _. ap (λ (z : ℕ × ℕ). after_pass v z.0 z.1 found) both),
                λ held. absurd (held (subst (λ (z : ℕ). LetsPass z found) same pass)),
              ),
        ),
      ))
      (λ held. (
        after_word v k found,
        keeps,
        tt,
        load_keeps s r (word_at k) id v v.scan (v.looked ++ Some k ∷ []) (v.found ++ found ∷ []) here
            (same_scan s r id v here),
        (
          refl,
          is_word s r k below,
          λ x' k' is'. let both = same_Some (x, k) (x', k') (sym is ∙ is') in
              let same = ap (λ (z : ℕ × ℕ). z.0) both in (
                ap (λ (z : ℕ × ℕ). word_at z.1) both,
                (λ pass. absurd (held (subst (λ (z : ℕ). LetsPass z found) (sym same) pass))),
                λ _. ap (λ (z : ℕ × ℕ). after_word v z.1 found) both,
              ),
        ),
      ))
