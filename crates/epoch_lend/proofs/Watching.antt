-- What a watch over many loans knows, and that each value's loans come back by it. Assumes `Logic`.
use Rattle.std.proofs.Common.{ℕ, List, [], ◌∷◌, ◌++◌, sym, refl, length, inl, inr}
use mathlib.Core.Bool.{true}
use Rattle.std.specs.Prelude.{eqb}
use Rattle.std.proofs.Common.{◌≡◌, ◌⊎◌}
use Rattle.std.proofs.lemmas.Bool.{and_parts, and_from, or_cases, or_left, or_right, eqb-true, eq-eqb, false≢true}
use seplogic.Ra.Ura.{Ura}
use base.Fraction.{full_share}
use base.Logic.{SProp, ent, sep, id⊢}
use base.Fml.{Fml, ftrue, fsep, fall, flft, fdead}
use types.Logic.{Logic, sem}
use types.Kit.{‵, ◌⊛◌, later, ◌$◌, ◌∵◌, !, qed, by, move, keep, drop, split, fsplit, fjoin, use1, use2}
use types.Kit.{rewrite, updating, await, now, done, frame, each}
use denote.Steps.{nothing}
use Rattle.epoch_lend.specs.Loans.{left_after, loan_share, Loan, stock, SeenPost, Shows, shown_by}
use Rattle.epoch_lend.specs.Loans.{all_shown, is_shown, are_shown, AreShown}
use Rattle.epoch_lend.specs.Watching.{entries, is_watched, are_watched, AreWatched}
use Rattle.epoch_lend.proofs.Loans.{entered_dup, first_shown, comes_home}

-- what is watched is so where more is
one_more : (l : Loan) (more all : List Loan) → is_watched l all ≡ true → is_watched l (more ++ all) ≡ true
one_more l [] all watched = watched
one_more l (m ∷ ms) all watched = or_right (eqb l.atom m.atom) (is_watched l (ms ++ all)) (one_more l ms all watched)

-- loans that are watched stay so where the watch has more loans
pub watched_more : (ls more all : List Loan) → AreWatched ls all → AreWatched ls (more ++ all)
watched_more [] more all watched = refl
watched_more (l ∷ ls) more all watched =
    let parts = and_parts (is_watched l all) (are_watched ls all) watched in
    and_from (is_watched l (more ++ all)) (are_watched ls (more ++ all)) (one_more l more all parts.0)
    (watched_more ls more all parts.1)

-- loans are watched by themselves and others
pub watched_these : (ls rest : List Loan) → AreWatched ls (ls ++ rest)
watched_these [] rest = refl
watched_these (l ∷ ls) rest = and_from (is_watched l (l ∷ (ls ++ rest))) (are_watched ls (l ∷ (ls ++ rest)))
    (or_left (eqb l.atom l.atom) (is_watched l (ls ++ rest)) (eq-eqb l.atom l.atom refl))
    (watched_more ls (l ∷ []) (ls ++ rest) (watched_these ls rest))

module _ {M : Type 1} {𝓤 : Ura M} (𝓛 : Logic 𝓤) where
  open 𝓛 use {H, A}

  abbrev Pr : Type 2
  Pr = SProp 𝓤

  abbrev ◌⊢◌ : Pr → Pr → Type 1
  P ⊢ Q = ent 𝓤 P Q

  abbrev ◌∗◌ : Pr → Pr → Pr
  P ∗ Q = sep 𝓤 P Q

  abbrev ⟦◌⟧ : Fml → Pr
  ⟦ P ⟧ = sem 𝓛 P

  infix 26 ◌⊢◌
  infixr 35 ◌∗◌
  -- that pins are entered is a fact, which may be had twice
  pub entries_dup : (ls : List Loan) → ⟦ entries ls ⟧ ⊢ ⟦ entries ls ⟧ ∗ ⟦ entries ls ⟧
  entries_dup [] = qed 𝓛 (‵ ftrue ∷ []) ∵ nothing ! $ done !
  entries_dup (l ∷ ls) = let r : Fml = entries (l ∷ []) in
      let one : Fml = Rattle.epoch_lend.specs.Posts.entered (l.atom, l.epoch) l.log in
      qed 𝓛 (‵ (entries (l ∷ ls)) ∷ []) ∵ fsplit ! $
      use1 𝓛 (‵ one ⊛ ‵ one) (entered_dup 𝓛 0 (l.atom, l.epoch) l.log) $ split ! $ move ! (2 ∷ []) $
      use1 𝓛 (‵ (entries ls) ⊛ ‵ (entries ls)) (entries_dup ls) $ split ! $
      -- [entries; entries; entered; entered]
      move ! (2 ∷ 0 ∷ []) $ fjoin ! $ frame ! $ move ! (1 ∷ 0 ∷ []) $ fjoin ! $ done !

  -- the entries of two lists of loans
  pub entries_glue : (ls ms : List Loan) → ⟦ entries ls ⟧ ∗ ⟦ entries ms ⟧ ⊢ ⟦ entries (ls ++ ms) ⟧
  entries_glue [] ms = qed 𝓛 (‵ ftrue ∷ ‵ (entries ms) ∷ []) ∵ drop ! $ done !
  entries_glue (l ∷ ls) ms = qed 𝓛 (‵ (entries (l ∷ ls)) ∷ ‵ (entries ms) ∷ []) ∵ fsplit ! $ move ! (1 ∷ 2 ∷ []) $
      use2 𝓛 (‵ (entries (ls ++ ms))) (entries_glue ls ms) $ move ! (1 ∷ 0 ∷ []) $ fjoin ! $ done !

  -- the guards of these loans are over
  abbrev pub all_dead : List Loan → Fml
  all_dead [] = ftrue
  all_dead (l ∷ ls) = fsep (fdead (l.atom ∷ [])) (all_dead ls)

  dead_dup : (ls : List Loan) → ⟦ all_dead ls ⟧ ⊢ ⟦ all_dead ls ⟧ ∗ ⟦ all_dead ls ⟧
  dead_dup [] = qed 𝓛 (‵ ftrue ∷ []) ∵ nothing ! $ done !
  dead_dup (l ∷ ls) = qed 𝓛 (‵ (all_dead (l ∷ ls)) ∷ []) ∵ fsplit ! $
      use1 𝓛 (‵ (fdead (l.atom ∷ [])) ⊛ ‵ (fdead (l.atom ∷ []))) (𝓛.lfts.dead_dup (l.atom ∷ [])) $ split ! $
      move ! (2 ∷ []) $ use1 𝓛 (‵ (all_dead ls) ⊛ ‵ (all_dead ls)) (dead_dup ls) $ split ! $
      move ! (2 ∷ 0 ∷ []) $ fjoin ! $ frame ! $ move ! (1 ∷ 0 ∷ []) $ fjoin ! $ done !

  -- where looks showed it of each loan, they are
  pub all_over : (ss : List SeenPost) (ls : List Loan) → AreShown ss ls → ⟦ all_shown ss ls ⟧ ⊢ ⟦ all_dead ls ⟧
  all_over ss [] shown = qed 𝓛 (‵ (all_shown ss []) ∷ []) ∵ drop ! $ nothing ! $ done !
  all_over ss (l ∷ ls) shown = let parts = and_parts (is_shown ss l) (are_shown ss ls) shown in
      qed 𝓛 (‵ (all_shown ss (l ∷ ls)) ∷ []) ∵
      use1 𝓛 (‵ (fdead (l.atom ∷ [])) ⊛ ‵ (all_shown ss ls)) (first_shown 𝓛 0 ss l ls parts.0) $ split ! $ frame ! $
      by ! (all_over ss ls parts.1)

  -- guards that are over are so after each look
  one_again : (s : SeenPost) (ls : List Loan) → ⟦ all_dead ls ⟧ ⊢ ⟦ shown_by s ls ⟧
  one_again s [] = id⊢ 𝓤 _
  one_again s (l ∷ ls) = qed 𝓛 (‵ (all_dead (l ∷ ls)) ∷ []) ∵ fsplit ! $ move ! (1 ∷ []) $
      use1 𝓛 (‵ (shown_by s ls)) (one_again s ls) $ move ! (1 ∷ []) $
      use1 𝓛 (‵ (fall (Shows s l) (λ _. fdead (l.atom ∷ [])))) (qed 𝓛 (‵ (fdead (l.atom ∷ [])) ∷ []) ∵
      each ! (λ (_ : Shows s l). A.dead (l.atom ∷ [])) (λ _. done !)) $ fjoin ! $ done !

  pub shown_again : (ss : List SeenPost) (ls : List Loan) → ⟦ all_dead ls ⟧ ⊢ ⟦ all_shown ss ls ⟧
  shown_again [] ls = qed 𝓛 (‵ (all_dead ls) ∷ []) ∵ drop ! $ nothing ! $ done !
  shown_again (s ∷ ss) ls = qed 𝓛 (‵ (all_dead ls) ∷ []) ∵
      use1 𝓛 (‵ (all_dead ls) ⊛ ‵ (all_dead ls)) (dead_dup ls) $ split ! $
      use1 𝓛 (‵ (shown_by s ls)) (one_again s ls) $ frame ! $ by ! (shown_again ss ls)

  -- so is the guard of a loan that is watched
  one_dead : (l : Loan) (ls : List Loan) → is_watched l ls ≡ true
      → ⟦ all_dead ls ⟧ ⊢ ⟦ all_dead ls ⟧ ∗ A.dead (l.atom ∷ [])
  one_dead l [] x = absurd (false≢true x)
  one_dead l (m ∷ ms) x = cases (or_cases (eqb l.atom m.atom) (is_watched l ms) x) (one_dead l ms)
    where
      cases : (eqb l.atom m.atom ≡ true) ⊎ (is_watched l ms ≡ true)
          → (is_watched l ms ≡ true → ⟦ all_dead ms ⟧ ⊢ ⟦ all_dead ms ⟧ ∗ A.dead (l.atom ∷ []))
          → ⟦ all_dead (m ∷ ms) ⟧ ⊢ ⟦ all_dead (m ∷ ms) ⟧ ∗ A.dead (l.atom ∷ [])
      cases (inl e) others = qed 𝓛 (‵ (all_dead (m ∷ ms)) ∷ []) ∵ fsplit ! $
          use1 𝓛 (‵ (fdead (m.atom ∷ [])) ⊛ ‵ (fdead (m.atom ∷ []))) (𝓛.lfts.dead_dup (m.atom ∷ [])) $ split ! $
          move ! (0 ∷ 2 ∷ []) $ fjoin ! $ move ! (1 ∷ []) $
          rewrite ! 0 (λ (k : ℕ). ‵ (fdead (k ∷ []))) (sym (eqb-true l.atom m.atom e)) refl $ move ! (1 ∷ 0 ∷ []) $
          done !
      cases (inr i) others = qed 𝓛 (‵ (all_dead (m ∷ ms)) ∷ []) ∵ fsplit ! $ move ! (1 ∷ []) $
          use1 𝓛 (‵ (all_dead ms) ⊛ ‵ (fdead (l.atom ∷ []))) (others i) $ split ! $ move ! (2 ∷ 0 ∷ []) $ fjoin ! $
          done !

  -- and those of some of them
  pub some_dead : (ls all : List Loan) → AreWatched ls all
      → ⟦ all_dead all ⟧ ⊢ ⟦ all_dead all ⟧ ∗ ⟦ all_dead ls ⟧
  some_dead [] all watched = qed 𝓛 (‵ (all_dead all) ∷ []) ∵ frame ! $ nothing ! $ done !
  some_dead (l ∷ ls) all watched = let parts = and_parts (is_watched l all) (are_watched ls all) watched in
      qed 𝓛 (‵ (all_dead all) ∷ []) ∵
      use1 𝓛 (‵ (all_dead all) ⊛ ‵ (fdead (l.atom ∷ []))) (one_dead l all parts.0) $ split ! $
      use1 𝓛 (‵ (all_dead all) ⊛ ‵ (all_dead ls)) (some_dead ls all parts.1) $ split ! $ frame ! $
      move ! (1 ∷ 0 ∷ []) $ fjoin ! $ done !

  -- every loan comes back, where the guard of each is over: the whole token is there again
  pub all_back : (a : ℕ) (ls : List Loan) → ⟦ stock a ls ⟧ ∗ ⟦ all_dead ls ⟧ ⊢ H.⇛ (A.lft (a ∷ []) full_share)
  all_back a [] = qed 𝓛 (‵ (stock a []) ∷ ‵ (all_dead []) ∷ []) ∵ updating ! $ fsplit ! $ now ! $ keep ! (0 ∷ []) $
      done !
  all_back a (l ∷ ls) = let n : ℕ = length ls in
      qed 𝓛 (‵ (stock a (l ∷ ls)) ∷ ‵ (all_dead (l ∷ ls)) ∷ []) ∵
      updating ! $ fsplit ! $ move ! (1 ∷ []) $ fsplit ! $ move ! (3 ∷ []) $ fsplit ! $
      -- [dead; the others dead; loan; loans; the token]
      move ! (2 ∷ 0 ∷ []) $ use2 𝓛 (later (‵ (flft (a ∷ []) (loan_share n)))) (comes_home 𝓛 a n l) $ await ! tt $
      move ! (0 ∷ 3 ∷ []) $ use2 𝓛 (‵ (flft (a ∷ []) (left_after n))) (𝓛.lfts.lft_join (a ∷ []) (left_after n)) $
      move ! (0 ∷ 2 ∷ []) $ fjoin ! $ by ! (all_back a ls)
