-- A loan is made, and all loans come back. Assumes `Logic`.
use Rattle.std.proofs.Common.{◌≡◌, ◌≢◌, ℕ, suc, List, [], ◌∷◌, ◌++◌, sym, refl, ap, subst, length, inl, inr}
use native.Mathlib.Nat.{suc-ne-zero}
use mathlib.Core.Bool.{Bool, true, false, not}
use Rattle.std.proofs.Common.{◌∙◌, ◌⊎◌}
use Rattle.std.specs.Prelude.{eqb}
use Rattle.std.proofs.lemmas.Bool.{and_parts, or_cases, eqb-true, eq-eqb, not_from_true, not_from_false, false≢true}
use seplogic.Ra.Ura.{Ura}
use base.Share
use base.Fraction.{full_share}
use base.Stored.{Coded, coded×, coded_ℕ}
use base.Logic.{SProp, ent, sep, upd, upd_i, id⊢, emp}
use base.Fml.{Fml, ftrue, fex, flft, fdead, fobs, fauth, flent}
use types.Logic.{Logic, sem}
use types.Kit.{‵, raw, ◌⊛◌, given, ◌$◌, ◌∵◌, !, qed, by, move, keep, drop, split, split3, fsplit, fsplit3, fjoin}
use types.Kit.{fjoin3, fpick, fpack, learn, suffices, settle, use0, use1, use2, rewrite, updating, now, done}
use types.Tokens.{lent_back}
use types.Growing.{latest_bounds, at_least_dup}
use base.Growing.{latest, at_least}
use native.Mathlib.Decide.{ℕ_discrete}
use mathlib.Core.Logic.{dite}
use mathlib.Core.List.{IsPrefix}
use denote.Steps.{nothing}
use types.Kit.{use3, each, frame}
use base.Logic.{all_e}
use base.Fml.{fall}
use Rattle.epoch_lend.specs.Posts.{IsOneOf, Entry, posted, logs, entered, entered_in, are_over}
use Rattle.epoch_lend.specs.Watching.{entries}
use Rattle.epoch_lend.specs.Loans.{left_after, loan_share, no_loan, nth_loan, filled_pocket, pocket_with, pocket_case}
use Rattle.epoch_lend.specs.Loans.{pocket, Loan, loan, loans, stock, SeenPost, Shows, shown_by, all_shown, shows}
use Rattle.epoch_lend.specs.Loans.{is_shown}

-- a loan is told apart from no loan, and from every other one
abbrev pocket_coded : Coded (ℕ × ℕ)
pocket_coded = coded× coded_ℕ coded_ℕ

-- what says which loan a pocket has never says that it has none
pub some_loan : (a n : ℕ) → nth_loan a n ≢ no_loan
some_loan a n e = suc-ne-zero n (ap (λ (l : ℕ × ℕ). l.0) (pocket_coded.inj (suc n, a) (0, 0) e))

same_loan : (a b m n : ℕ) → nth_loan a m ≡ nth_loan b n → (a ≡ b) × (m ≡ n)
same_loan a b m n e = let same : (suc m, a) ≡ (suc n, b) = pocket_coded.inj (suc m, a) (suc n, b) e in (
  ap (λ (l : ℕ × ℕ). l.1) same,
  omega (native.Mathlib.Omega.arith, ap (λ (l : ℕ × ℕ). l.0) same),
)

module _ {M : Type 1} {𝓤 : Ura M} (𝓛 : Logic 𝓤) (a : ℕ) where
  open 𝓛 use {H, A}

  abbrev Pr : Type 2
  Pr = SProp 𝓤

  abbrev ◌⊢◌ : Pr → Pr → Type 1
  P ⊢ Q = ent 𝓤 P Q

  abbrev ◌∗◌ : Pr → Pr → Pr
  P ∗ Q = sep 𝓤 P Q

  abbrev ⟦◌⟧ : Fml → Pr
  ⟦ P ⟧ = sem 𝓛 P

  infix 26 ◌⊢◌
  infixr 35 ◌∗◌
  -- at the load: the cell lends half of what is left, against the lender's right to the pocket
  pub lends : (ls : List Loan) (l : Loan)
      → ⟦ stock a ls ⟧ ∗ A.lent (l.atom ∷ []) (pocket l.pocket_name) ∗ A.obs l.pocket_name no_loan ∗ A.auth
      l.pocket_name no_loan ∗ ⟦ entered (l.atom, l.epoch) l.log ⟧
      ⊢ upd 𝓤 (⟦ stock a (l ∷ ls) ⟧ ∗ ⟦ filled_pocket a l.pocket_name (length ls) ⟧)
  lends ls l = let δ : ℕ = l.pocket_name in
      let n : ℕ = length ls in
      let u = nth_loan a n in
      let Goal : Pr = ⟦ stock a (l ∷ ls) ⟧ ∗ ⟦ filled_pocket a δ n ⟧ in
      qed 𝓛 (‵ (stock a ls) ∷ ‵ (flent (l.atom ∷ []) (pocket l.pocket_name)) ∷ ‵ (fobs l.pocket_name no_loan) ∷ ‵
      (fauth l.pocket_name no_loan) ∷ ‵ (entered (l.atom, l.epoch) l.log) ∷ []) ∵ move ! (2 ∷ 3 ∷ []) $
      use2 𝓛 (raw (upd 𝓤 (A.obs δ u ∗ A.auth δ u))) (𝓛.names.name_set_upd δ no_loan no_loan u) $
      settle 𝓛 Goal (‵ (fobs δ u) ⊛ ‵ (fauth δ u)) $ split ! $ suffices ! Goal (upd_i 𝓤 Goal) $
      move ! (2 ∷ []) $ fsplit ! $
      use1 𝓛 (‵ (flft (a ∷ []) (Share.left (left_after n))) ⊛ ‵ (flft (a ∷ []) (Share.right (left_after n))))
      (𝓛.lfts.lft_split (a ∷ []) (left_after n)) $ split ! $
      -- [left; right; loans; obs; auth; lent; entered]
      move ! (3 ∷ 0 ∷ []) $ fjoin ! $ move ! (3 ∷ 5 ∷ []) $ fjoin ! $ move ! (4 ∷ 0 ∷ []) $ fjoin ! $
      move ! (0 ∷ 3 ∷ []) $ fjoin ! $ move ! (2 ∷ 0 ∷ []) $ fjoin ! $ done !

  -- the pocket of a guard that is over holds what was lent
  pub comes_home : (n : ℕ) (l : Loan) → ⟦ loan a n l ⟧ ∗ A.dead (l.atom ∷ []) ⊢ H.⇛ (A.lft (a ∷ []) (loan_share n))
  comes_home n l = let δ : ℕ = l.pocket_name in qed 𝓛 (‵ (loan a n l) ∷ ‵ (fdead (l.atom ∷ [])) ∷ []) ∵ updating ! $
      fsplit3 ! $ move ! (3 ∷ 0 ∷ []) $ lent_back ! tt $ keep ! (0 ∷ 1 ∷ []) $ fpick ! (λ y. by ! (cases y))
    where
      -- the name says that the pocket holds this loan
      cases : (y : Bool) → ⟦ pocket_case l.pocket_name y ⟧ ∗ A.auth l.pocket_name (nth_loan a n) ⊢ H.⇛ (A.lft (a ∷
          []) (loan_share n))
      cases true = qed 𝓛 (‵ (fobs l.pocket_name no_loan) ∷ ‵ (fauth l.pocket_name (nth_loan a n)) ∷ []) ∵
          use2 𝓛 (given (no_loan ≡ nth_loan a n) (‵ (fobs l.pocket_name no_loan) ⊛ ‵ (fauth l.pocket_name (nth_loan a
          n)))) (𝓛.names.name_agree l.pocket_name no_loan (nth_loan a n)) $
          learn ! (λ e. absurd (some_loan a n (sym e)))
      cases false = qed 𝓛 (‵ (fex (ℕ × ℕ) (pocket_with l.pocket_name)) ∷ ‵ (fauth l.pocket_name (nth_loan a n)) ∷ []) ∵
          updating ! $ fpick ! (λ m. fsplit ! $ move ! (0 ∷ 2 ∷ []) $
          use2 𝓛 (given (nth_loan m.0 m.1 ≡ nth_loan a n) (‵ (fobs l.pocket_name (nth_loan m.0 m.1)) ⊛ ‵ (fauth
          l.pocket_name (nth_loan a n)))) (𝓛.names.name_agree l.pocket_name (nth_loan m.0 m.1) (nth_loan a n)) $
          learn ! (λ e. split ! $ keep ! (2 ∷ []) $ let same = same_loan m.0 a m.1 n e in
          rewrite ! 0 (λ (b : ℕ). ‵ (flft (b ∷ []) (loan_share m.1))) same.0 refl $
          rewrite ! 0 (λ (k : ℕ). ‵ (flft (a ∷ []) (loan_share k))) same.1 refl $ now ! $ done !))

  -- that the guards of one of these pins are over
  pub one_over : (g : Entry) (gs : List Entry) → IsOneOf g gs → ⟦ are_over gs ⟧ ⊢ ⟦ are_over gs ⟧ ∗ A.dead (g.0 ∷ [])
  one_over g [] x = elim x [ ]
  one_over g (h ∷ hs) (inl e) = qed 𝓛 (‵ (are_over (h ∷ hs)) ∷ []) ∵ fsplit ! $
      use1 𝓛 (‵ (fdead (h.0 ∷ [])) ⊛ ‵ (fdead (h.0 ∷ []))) (𝓛.lfts.dead_dup (h.0 ∷ [])) $ split ! $
      move ! (0 ∷ 2 ∷ []) $ fjoin ! $ move ! (1 ∷ []) $
      rewrite ! 0 (λ (k : Entry). ‵ (fdead (k.0 ∷ []))) (sym e) refl $ move ! (1 ∷ 0 ∷ []) $ done !
  one_over g (h ∷ hs) (inr i) = qed 𝓛 (‵ (are_over (h ∷ hs)) ∷ []) ∵ fsplit ! $ move ! (1 ∷ []) $
      use1 𝓛 (‵ (are_over hs) ⊛ ‵ (fdead (g.0 ∷ []))) (one_over g hs i) $ split ! $ move ! (2 ∷ 0 ∷ []) $ fjoin ! $
      done !

  -- one pin more that is over
  pub over_snoc : (gs : List Entry) (g : Entry) → ⟦ are_over gs ⟧ ∗ A.dead (g.0 ∷ []) ⊢ ⟦ are_over (gs ++ g ∷ []) ⟧
  over_snoc [] g = qed 𝓛 (‵ ftrue ∷ ‵ (fdead (g.0 ∷ [])) ∷ []) ∵ move ! (1 ∷ 0 ∷ []) $ done !
  over_snoc (h ∷ hs) g = qed 𝓛 (‵ (are_over (h ∷ hs)) ∷ ‵ (fdead (g.0 ∷ [])) ∷ []) ∵ fsplit ! $ move ! (1 ∷ 2 ∷ []) $
      use2 𝓛 (‵ (are_over (hs ++ g ∷ []))) (over_snoc hs g) $ move ! (1 ∷ 0 ∷ []) $ fjoin ! $ done !

  -- that a pin is one of a post's is a fact, which may be had twice
  pub entered_dup : (g : Entry) (η : ℕ) → ⟦ entered g η ⟧ ⊢ ⟦ entered g η ⟧ ∗ ⟦ entered g η ⟧
  entered_dup g η = qed 𝓛 (‵ (entered g η) ∷ []) ∵ fpick ! (λ ks. fsplit ! $
      use1 𝓛 (‵ (at_least logs η ks) ⊛ ‵ (at_least logs η ks)) (at_least_dup logs 𝓛 η ks) $ split ! $
      move ! (2 ∷ []) $ fpick ! (λ i. drop ! $
      nothing ! $ fpack ! (IsOneOf g ks) (λ _. ftrue) i $ move ! (1 ∷ 0 ∷ []) $ fjoin ! $
      fpack ! (List Entry) (entered_in g η) ks $ frame ! $
      nothing ! $ fpack ! (IsOneOf g ks) (λ _. ftrue) i $ move ! (1 ∷ 0 ∷ []) $ fjoin ! $
      fpack ! (List Entry) (entered_in g η) ks $ done !))

  -- what looks tell of these loans they tell of those behind the first
  one_shown : (ss : List SeenPost) (l : Loan) (ls : List Loan) → ⟦ all_shown ss (l ∷ ls) ⟧ ⊢ ⟦ all_shown ss ls ⟧
  one_shown [] l ls = id⊢ 𝓤 _
  one_shown (s ∷ ss) l ls = qed 𝓛 (‵ (all_shown (s ∷ ss) (l ∷ ls)) ∷ []) ∵ fsplit ! $ fsplit ! $ drop ! $
      move ! (1 ∷ []) $ use1 𝓛 (‵ (all_shown ss ls)) (one_shown ss l ls) $ move ! (1 ∷ 0 ∷ []) $ fjoin ! $ done !

  -- what the test of one look says
  shows_fact : (s : SeenPost) (l : Loan) → shows s l ≡ true → Shows s l
  shows_fact s l e =
      let parts = and_parts (eqb l.log s.0) (not (eqb s.1 (posted l.epoch))) e in
      let here : l.log ≡ s.0 = eqb-true l.log s.0 parts.0 in (
        here,
        (λ same. false≢true (sym (not_from_true (not (eqb s.1 (posted l.epoch))) parts.1) ∙ not_from_same same)),
      )
    where
      not_from_same : s.1 ≡ posted l.epoch → not (not (eqb s.1 (posted l.epoch))) ≡ true
      not_from_same same = not_from_false (not (eqb s.1 (posted l.epoch))) (not_from_true (eqb s.1 (posted l.epoch))
          (eq-eqb s.1 (posted l.epoch) same))

  -- the guard of the first loan is over, where this look or one of the others shows it
  shown_by_one : (s : SeenPost) (ss : List SeenPost) (l : Loan) (ls : List Loan)
      → (is_shown ss l ≡ true → ⟦ all_shown ss (l ∷ ls) ⟧ ⊢ A.dead (l.atom ∷ []) ∗ ⟦ all_shown ss ls ⟧)
      → (shows s l ≡ true) ⊎ (is_shown ss l ≡ true)
      → ⟦ all_shown (s ∷ ss) (l ∷ ls) ⟧ ⊢ A.dead (l.atom ∷ []) ∗ ⟦ all_shown (s ∷ ss) ls ⟧
  shown_by_one s ss l ls others (inl e) = qed 𝓛 (‵ (all_shown (s ∷ ss) (l ∷ ls)) ∷ []) ∵ fsplit ! $ fsplit ! $
      use1 𝓛 (‵ (fdead (l.atom ∷ []))) (all_e 𝓤 (λ (_ : Shows s l). A.dead (l.atom ∷ [])) (shows_fact s l e)) $
      frame ! $
      move ! (1 ∷ []) $ use1 𝓛 (‵ (all_shown ss ls)) (one_shown ss l ls) $ move ! (1 ∷ 0 ∷ []) $ fjoin ! $ done !
  shown_by_one s ss l ls others (inr i) = qed 𝓛 (‵ (all_shown (s ∷ ss) (l ∷ ls)) ∷ []) ∵ fsplit ! $ fsplit ! $
      drop ! $
      move ! (1 ∷ []) $ use1 𝓛 (‵ (fdead (l.atom ∷ [])) ⊛ ‵ (all_shown ss ls)) (others i) $ split ! $
      frame ! $ move ! (1 ∷ 0 ∷ []) $ fjoin ! $ done !

  -- the guard of the first loan is over, where one of the looks shows it
  pub first_shown : (ss : List SeenPost) (l : Loan) (ls : List Loan) → is_shown ss l ≡ true
      → ⟦ all_shown ss (l ∷ ls) ⟧ ⊢ A.dead (l.atom ∷ []) ∗ ⟦ all_shown ss ls ⟧
  first_shown [] l ls shown = absurd (false≢true shown)
  first_shown (s ∷ ss) l ls shown = shown_by_one s ss l ls (first_shown ss l ls) (or_cases (shows s l) (is_shown ss
      l) shown)

  -- ---- what a look at a post tells
  abbrev pub all_entered : List Loan → Fml
  all_entered = entries

  -- loans keep that their guards' pins are entered
  pub loans_tell : (ls : List Loan) → ⟦ loans a ls ⟧ ⊢ ⟦ loans a ls ⟧ ∗ ⟦ all_entered ls ⟧
  loans_tell [] = qed 𝓛 (‵ ftrue ∷ []) ∵ nothing ! $ done !
  loans_tell (l ∷ ls) = let r : Fml = entered (
    l.atom,
    l.epoch,
  ) l.log in qed 𝓛 (‵ (loans a (l ∷ ls)) ∷ []) ∵ fsplit ! $ fsplit3 ! $ move ! (2 ∷ []) $
      use1 𝓛 (‵ r ⊛ ‵ r) (entered_dup (l.atom, l.epoch) l.log) $ split ! $ move ! (4 ∷ []) $
      use1 𝓛 (‵ (loans a ls) ⊛ ‵ (all_entered ls)) (loans_tell ls) $ split ! $
      -- [loans; told; entered; entered; lent; auth]
      move ! (2 ∷ 1 ∷ []) $ fjoin ! $ move ! (3 ∷ 4 ∷ 2 ∷ []) $ fjoin3 ! $ move ! (0 ∷ 2 ∷ []) $ fjoin ! $ done !

  -- a pin of a log is one of every longer log
  is_prefix : (g : Entry) (ks rest : List Entry) → IsOneOf g ks → IsOneOf g (ks ++ rest)
  is_prefix g [] rest x = elim x [ ]
  is_prefix g (k ∷ ks) rest (inl e) = inl e
  is_prefix g (k ∷ ks) rest (inr i) = inr (is_prefix g ks rest i)

  module _ (η n : ℕ) (all gs : List Entry) (others : (g : Entry) → n ≢ posted g.1 → IsOneOf g all → IsOneOf g gs) where
    abbrev Log : Pr
    Log = ⟦ latest logs full_share η all ⟧

    abbrev Told : Loan → Fml
    Told l = fall (Shows (η, n) l) (λ _. fdead (l.atom ∷ []))

    -- the look tells nothing of this loan
    untold : (l : Loan) → (Shows (η, n) l → ⊥) → emp 𝓤 ⊢ ⟦ Told l ⟧
    untold l unlike = qed 𝓛 [] ∵ each ! (λ (_ : Shows (η, n) l). A.dead (l.atom ∷ [])) (λ e. absurd (unlike e))

    -- the guard is of another pin than the post's last, so it is over
    told : (l : Loan) → Shows (η, n) l
        → Log ∗ ⟦ are_over gs ⟧ ∗ ⟦ entered (l.atom, l.epoch) l.log ⟧ ⊢ Log ∗ ⟦ are_over gs ⟧ ∗ ⟦ Told l ⟧
    told l shows = let g : Entry = (
      l.atom,
      l.epoch,
    ) in qed 𝓛 (‵ (latest logs full_share η all) ∷ ‵ (are_over gs) ∷ ‵ (entered g l.log) ∷ []) ∵ move !
        (2 ∷ []) $ fpick ! (λ ks. fsplit ! $ move ! (1 ∷ []) $ fpick ! (λ i. drop ! $
        rewrite ! 0 (λ (h : ℕ). ‵ (at_least logs h ks)) shows.0 refl $ move ! (1 ∷ 0 ∷ []) $
        use2 𝓛 (given (IsPrefix ks all) (‵ (latest logs full_share η all) ⊛ ‵ (at_least logs η ks)))
        (latest_bounds logs 𝓛 full_share η all ks) $ learn ! (λ p. split ! $
        move ! (2 ∷ []) $ use1 𝓛 (‵ (are_over gs) ⊛ ‵ (fdead (l.atom ∷ []))) (one_over g gs (others g shows.1 (subst
        (IsOneOf g) p.1 (is_prefix g ks p.0 i)))) $ split ! $
        -- [over; dead; latest; at_least]
        move ! (2 ∷ 0 ∷ 1 ∷ []) $ frame ! $ frame ! $ keep ! (0 ∷ []) $
        each ! (λ (_ : Shows (η, n) l). A.dead (l.atom ∷ [])) (λ _. done !))))

    -- a look tells of this loan, or has nothing to tell of it
    one_told : (l : Loan)
        → Log ∗ ⟦ are_over gs ⟧ ∗ ⟦ entered (l.atom, l.epoch) l.log ⟧ ⊢ Log ∗ ⟦ are_over gs ⟧ ∗ ⟦ Told l ⟧
    one_told l = let F = ‵ (latest logs full_share η all) ∷ ‵ (are_over gs) ∷ ‵ (entered (
      l.atom,
      l.epoch,
    ) l.log) ∷ [] in dite (ℕ_discrete l.log η)
        (λ here. dite (ℕ_discrete n (posted l.epoch))
        (λ same. qed 𝓛 F ∵ keep ! (0 ∷ 1 ∷ []) $ frame ! $ frame ! $
        use0 𝓛 (‵ (Told l)) (untold l (λ shows. shows.1 same)) $ done !)
        (λ other. told l (here, other)))
        (λ there. qed 𝓛 F ∵ keep ! (0 ∷ 1 ∷ []) $ frame ! $ frame ! $
        use0 𝓛 (‵ (Told l)) (untold l (λ shows. there shows.0)) $ done !)

    -- a look that found n tells of each loan at this post whose epoch n isn't of
    pub tells : (ls : List Loan)
        → Log ∗ ⟦ are_over gs ⟧ ∗ ⟦ all_entered ls ⟧ ⊢ Log ∗ ⟦ are_over gs ⟧ ∗ ⟦ shown_by (η, n) ls ⟧
    tells [] = id⊢ 𝓤 _
    tells (l ∷ ls) = qed 𝓛 (‵ (latest logs full_share η all) ∷ ‵ (are_over gs) ∷ ‵ (all_entered (l ∷ ls)) ∷ []) ∵
        move ! (2 ∷ []) $ fsplit ! $ move ! (2 ∷ 3 ∷ 0 ∷ []) $
        use3 𝓛 (‵ (latest logs full_share η all) ⊛ ‵ (are_over gs) ⊛ ‵ (Told l)) (one_told l) $ split3 ! $
        move ! (0 ∷ 1 ∷ 3 ∷ []) $
        use3 𝓛 (‵ (latest logs full_share η all) ⊛ ‵ (are_over gs) ⊛ ‵ (shown_by (η, n) ls)) (tells ls) $ split3 ! $
        frame ! $ frame ! $ move ! (1 ∷ 0 ∷ []) $ fjoin ! $ done !
