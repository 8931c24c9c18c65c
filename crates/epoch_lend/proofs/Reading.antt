-- One look at a word under a guard, and its marking. Assumes `Logic`.
use Rattle.std.proofs.Common.{◌≡◌, ℕ, ◌++◌, List, [], ◌∷◌, refl}
use Rattle.std.specs.Prelude.{Option, Some, None}
use mathlib.Core.Bool.{Bool, true, false}
use seplogic.Ra.Ura.{Ura}
use base.Logic.{SProp, ent, sep, ex, upd_i, id⊢, never_e}
use base.Fml.{
  Lft,
  GName,
  Share,
  Incl,
  Fml,
  ftrue,
  fsep,
  fseps,
  fex,
  fwand,
  fupd,
  flft,
  fdead,
  fobs,
  fauth,
  fbor,
  fobor,
  flent,
}
use base.Before.{chain}
use contract.BorrowLft.{meet_⊑_left}
use types.Logic.{Logic, sem}
use types.Kit.{‵, ◌⊛◌, given, ◌$◌, ◌∵◌, !, qed, move, keep, split, fsplit, fsplit3, fjoin, fjoin3, fpick, fpack}
use types.Kit.{learn, show, assume, suffices, use1, use2, updating, now, done}
use types.Tokens.{name_new, bor_new, bor_open, obor_close, obor_alter, bor_fracture}
use denote.RattleType.{RattleType, RowLaws}
use denote.RawPtr.{Ptr}
use denote.Sharing.{ShrLaws}
use denote.Moves.{moves_from}
use denote.Steps.{nothing}
use denote.Struct.Lending.{Lends, lent_at, lent_at_shr_laws}
use base.FractionLaws.{Counts}
use Rattle.epoch_lend.specs.Parted.{tokens}
use Rattle.epoch_lend.specs.Posts.{entered, guard_owns, guard_shares}
use Rattle.epoch_lend.specs.Loans.{
  loan_share,
  no_loan,
  nth_loan,
  filled_pocket,
  pocket_with,
  pocket_case,
  pocket,
  Shown,
  shown_at,
  sees,
}
use Rattle.core.proofs.cell.Borrows.{by_one}
use Rattle.epoch_lend.proofs.Loans.{some_loan, entered_dup}
use Rattle.epoch_lend.proofs.PartSteps.{tokens_in}

-- who has the right to see a value sees one
abbrev pub Sees : Lft → (R : RattleType) → Ptr → Option R.Denot → R.Denot → Fml
Sees κ R p v x = fex (v ≡ Some x) (λ _. lent_at R p x κ)

-- a look that gained the right to see a value found one, and it is lent for the same lifetime
pub sees_one : {M : Type 1} {𝓤 : Ura M} (𝓛 : Logic 𝓤) (κ : Lft) (R : RattleType) (p : Ptr) (v : Option R.Denot)
    → ent 𝓤 (sem 𝓛 (sees κ R p v)) (sem 𝓛 (fex R.Denot (Sees κ R p v)))
sees_one {M} {𝓤} 𝓛 κ R p None = never_e 𝓤 _
sees_one 𝓛 κ R p (Some x) = qed 𝓛 (‵ (lent_at R p x κ) ∷ []) ∵
    fpack ! (Some x ≡ Some x) (λ _. lent_at R p x κ) refl $ fpack ! R.Denot (Sees κ R p (Some x)) x $ done !

module _ {M : Type 1} {𝓤 : Ura M} (𝓛 : Logic 𝓤) where
  open 𝓛 use {H, A}

  abbrev Pr : Type 2
  Pr = SProp 𝓤

  abbrev ◌⊢◌ : Pr → Pr → Type 1
  P ⊢ Q = ent 𝓤 P Q

  abbrev ◌∗◌ : Pr → Pr → Pr
  P ∗ Q = sep 𝓤 P Q

  abbrev ⟦◌⟧ : Fml → Pr
  ⟦ P ⟧ = sem 𝓛 P

  infix 26 ◌⊢◌
  infixr 35 ◌∗◌
  -- a guard that is lent for κ ends no earlier than κ
  module _ (γ epoch η k : ℕ) (κ : Lft) where
    abbrev Has : Fml
    Has = guard_owns γ epoch η k

    abbrev Way : Share → Fml
    Way e = fwand (fsep (fdead κ) (fseps (flft (γ ∷ []) e ∷ []))) (fupd Has)

    -- once the loan of a guard is over, the guard is there again
    kept_back : (e : Share) → Counts 63 e k → ⟦ entered (γ, epoch) η ⟧ ⊢ ⟦ Way e ⟧
    unfolding fseps
    kept_back e c = qed 𝓛 (‵ (entered (
      γ,
      epoch,
    ) η) ∷ []) ∵ assume ! (‵ (fsep (fdead κ) (fsep (flft (γ ∷ []) e) ftrue))) $
        suffices ! ⟦ Has ⟧ (upd_i 𝓤 ⟦ Has ⟧) $
        fsplit3 ! $ move ! (1 ∷ []) $ use1 𝓛 (‵ (tokens γ k)) (tokens_in 𝓛 γ k e c) $ keep ! (0 ∷ 3 ∷ []) $ fjoin ! $
        done !

    -- a guard is lent against a share of the token of the loan
    guard_by_token : (q : Share) → A.bor κ Has ∗ A.lft κ q ⊢ H.⇛ (⟦ guard_shares γ epoch η κ ⟧ ∗ A.lft κ q)
    unfolding fseps
    guard_by_token q = let r : Fml = entered (
      γ,
      epoch,
    ) η in qed 𝓛 (‵ (fbor κ Has) ∷ ‵ (flft κ q) ∷ []) ∵ updating ! $ bor_open ! tt $ move ! (1 ∷ []) $
        fsplit ! $ fpick ! (λ e. fpick ! (λ c. move ! (1 ∷ []) $
        use1 𝓛 (‵ r ⊛ ‵ r) (entered_dup 𝓛 0 (γ, epoch) η) $ split ! $ use1 𝓛 (‵ (Way e)) (kept_back e c) $
        nothing ! $ move ! (3 ∷ 0 ∷ []) $ fjoin ! $ move ! (3 ∷ 0 ∷ 1 ∷ []) $
        obor_alter ! tt (flft (γ ∷ []) e ∷ []) $ use1 𝓛 (‵ (fbor κ (flft (γ ∷ []) e)) ⊛ ‵ ftrue) (id⊢ 𝓤 _) $
        split ! $
        bor_fracture ! tt (λ s. flft (γ ∷ []) s) e $ nothing ! $
        fpack ! (Incl ((γ ∷ []) ++ κ) (γ ∷ [])) (λ _. ftrue) (meet_⊑_left (γ ∷ []) κ) $ move ! (1 ∷ 0 ∷ []) $
        fjoin ! $ fpack ! (List Lft) (λ νs. chain νs κ (γ ∷ [])) ((γ ∷ []) ∷ []) $
        move ! (0 ∷ 3 ∷ []) $ fjoin ! $ now ! $ keep ! (0 ∷ 2 ∷ []) $ done !))

  -- a guard may be lent for any lifetime that it lasts for
  pub guard_lends : (γ epoch η k : ℕ) (l : Lft) → Lends 𝓛 (guard_owns γ epoch η k) (guard_shares γ epoch η) l
  guard_lends γ epoch η k l κ ts inc sp = by_one 𝓛 κ ts sp (A.bor κ (guard_owns γ epoch η k)) ⟦ guard_shares γ epoch
      η κ ⟧ (guard_by_token γ epoch η k κ)

  module _ (γ epoch η : ℕ) (r : Share) where
    -- before the look: a pocket is borrowed for the guard's lifetime, and open
    abbrev pub Offer : GName → Fml
    Offer δ = fsep (flent (γ ∷ []) (pocket δ)) (fsep (fobs δ no_loan) (fsep (fauth δ no_loan) (entered (
      γ,
      epoch,
    ) η)))

    abbrev pub Prepared : GName → Pr
    Prepared δ = A.obor (γ ∷ []) r (pocket δ) ∗ ⟦ Offer δ ⟧

    -- the pocket is borrowed and opened, with nothing in it
    opened : (δ : GName) (y : Bool)
        → ⟦ pocket_case δ y ⟧ ∗ A.auth δ no_loan ⊢ ⟦ fsep (fobs δ no_loan) (fauth δ no_loan) ⟧
    opened δ true = qed 𝓛 (‵ (fobs δ no_loan) ∷ ‵ (fauth δ no_loan) ∷ []) ∵ fjoin ! $ done !
    opened δ false = qed 𝓛 (‵ (fex (ℕ × ℕ) (pocket_with δ)) ∷ ‵ (fauth δ no_loan) ∷ []) ∵ fpick ! (λ m. fsplit ! $
        move ! (0 ∷ 2 ∷ []) $
        use2 𝓛 (given (nth_loan m.0 m.1 ≡ no_loan) (‵ (fobs δ (nth_loan m.0 m.1)) ⊛ ‵ (fauth δ no_loan)))
        (𝓛.names.name_agree δ (nth_loan m.0 m.1) no_loan) $ learn ! (λ e. absurd (some_loan m.0 m.1 e)))

    -- what a look brings along is made
    pub prepares : A.lft (γ ∷ []) r ∗ ⟦ entered (γ, epoch) η ⟧ ⊢ H.⇛ (ex 𝓤 Prepared)
    prepares = qed 𝓛 (‵ (flft (γ ∷ []) r) ∷ ‵ (entered (γ, epoch) η) ∷ []) ∵ updating ! $
        name_new ! tt no_loan (λ δ. fpack ! Bool (pocket_case δ) true $ bor_new ! tt (γ ∷ []) $
        move ! (0 ∷ 3 ∷ []) $ bor_open ! tt $ move ! (1 ∷ []) $ fpick ! (λ y. move ! (0 ∷ 3 ∷ []) $
        use2 𝓛 (‵ (fsep (fobs δ no_loan) (fauth δ no_loan))) (opened δ y) $ fsplit ! $
        -- [obs; auth; the open borrow; the lender's right; entered]
        move ! (1 ∷ 4 ∷ []) $ fjoin ! $ move ! (3 ∷ 1 ∷ 0 ∷ []) $ fjoin3 ! $ now ! $ show ! Prepared δ $
        move ! (1 ∷ 0 ∷ []) $ done !))

  -- a pocket is closed with nothing in it
  pub stays_empty : (γ : ℕ) (r : Share) (δ : GName)
      → A.obor (γ ∷ []) r (pocket δ) ∗ ⟦ fobs δ no_loan ⟧ ⊢ H.⇛ (A.lft (γ ∷ []) r)
  stays_empty γ r δ = qed 𝓛 (‵ (fobor (γ ∷ []) r (pocket δ)) ∷ ‵ (fobs δ no_loan) ∷ []) ∵ updating ! $
      move ! (1 ∷ []) $ fpack ! Bool (pocket_case δ) true $ move ! (1 ∷ 0 ∷ []) $ obor_close ! tt $ now ! $
      keep ! (1 ∷ []) $ done !

  module _ (R : RattleType) (d : Shown R.Denot) where
    abbrev a : ℕ
    a = d.lifetime

    abbrev S : Lft → Fml
    S = shown_at R d

    -- what a look that finds the value is lent: the pocket with a loan in it, and the value for the lifetime of its own
    abbrev pub Loaned : GName → Fml
    Loaned δ = fsep (fex ℕ (filled_pocket a δ)) (S (a ∷ []))

    module _ (L : RowLaws R) where
      abbrev SL : ShrLaws S
      SL = lent_at_shr_laws R L d.at d.value

      module _ (γ : ℕ) (r : Share) (δ : GName) where
        -- the pocket with this loan in it is a pocket again
        way : (m : ℕ) → A.obs δ (nth_loan a m) ⊢ ⟦ fwand (fsep (fdead (γ ∷ [])) (fseps (flft (a ∷ []) (loan_share m)
            ∷ []))) (fupd (pocket δ)) ⟧
        unfolding fseps
        way m = qed 𝓛 (‵ (fobs δ (nth_loan a m)) ∷ []) ∵ assume ! (‵ (fsep (fdead (γ ∷ [])) (fsep (flft (a ∷ [])
            (loan_share m)) ftrue))) $ suffices ! ⟦ pocket δ ⟧ (upd_i 𝓤 ⟦ pocket δ ⟧) $
            fsplit3 ! $ move ! (3 ∷ 1 ∷ []) $ fjoin ! $ fpack ! (ℕ × ℕ) (pocket_with δ) (a, m) $
            fpack ! Bool (pocket_case δ) false $ keep ! (0 ∷ []) $ done !

        -- a pocket is closed with the loan in it
        pub fills : A.obor (γ ∷ []) r (pocket δ) ∗ ⟦ Loaned δ ⟧ ⊢ H.⇛ (A.lft (γ ∷ []) r ∗ ⟦ S (γ ∷ []) ⟧)
        unfolding fseps
        fills = qed 𝓛 (‵ (fobor (γ ∷ []) r (pocket δ)) ∷ ‵ (Loaned δ) ∷ []) ∵ updating ! $
            move ! (1 ∷ []) $ fsplit ! $ fpick ! (λ m. fsplit ! $
            use1 𝓛 (‵ (fwand (fsep (fdead (γ ∷ [])) (fseps (flft (a ∷ []) (loan_share m) ∷ []))) (fupd (pocket
            δ)))) (way m) $ nothing ! $ move ! (2 ∷ 0 ∷ []) $ fjoin ! $ move ! (3 ∷ 0 ∷ 1 ∷ []) $
            obor_alter ! tt (flft (a ∷ []) (loan_share m) ∷ []) $
            use1 𝓛 (‵ (fbor (γ ∷ []) (flft (a ∷ []) (loan_share m))) ⊛ ‵ ftrue) (id⊢ 𝓤 _) $ split ! $
            bor_fracture ! tt (λ q. flft (a ∷ []) q) (loan_share m) $
            move ! (0 ∷ 3 ∷ []) $ use2 𝓛 (‵ (S (γ ∷ []))) (moves_from 𝓛 S SL (γ ∷ []) (a ∷ []) (a ∷ []) (meet_⊑_left
            (a ∷ []) (γ ∷ []))) $ now ! $ keep ! (2 ∷ 0 ∷ []) $ done !)
