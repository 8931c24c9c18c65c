-- A look for a turn: one plain load tells which value is shown at this turn, and lends it to a guard. Assumes `Logic`.
use Rattle.std.proofs.Common.{◌≡◌, ◌≢◌, ℕ, ◌+◌, ◌*◌, List, [], ◌∷◌, ◌++◌, sym, refl, ◌∙◌, length}
use Rattle.std.specs.Prelude.{Option, Some, None}
use Rattle.std.proofs.lemmas.Bool.{and_from}
use native.Mathlib.Decide.{ℕ_discrete}
use mathlib.Core.Logic.{dite}
use mathlib.Core.Bool.{Bool, true, false}
use seplogic.Ra.Ura.{Ura}
use base.Fraction.{full_share}
use base.Growing.{latest, at_least}
use base.Logic.{SProp, ent, sep, ex, guard, upd, upd_i}
use base.Fml.{Lft, GName, Share, Fml, ftrue, fsep, fex, flft, fobs, fbor, fobor, flent}
use base.Before.{before}
use types.Logic.{Logic, sem}
use types.Kit.{‵, raw, ◌⊛◌, later, ◌$◌, ◌∵◌, !, qed, by, move, keep, drop, split, fsplit, fsplit3, fjoin, fjoin3}
use types.Kit.{fpick, fpack, show, frame, suffices, settle, use1, use2, rewrite, updating, await, now, check, done}
use types.Growing.{latest_shows}
use denote.RattleType.{RattleType, RowLaws}
use denote.RawPtr.{block_ptr, lies_at}
use denote.SharingLaws.{contraction}
use denote.Steps.{nothing}
use denote.Struct.Lending.{lent_at, lent_at_shr_laws}
use Rattle.core.specs.Sync.RawAtomic.{asks, always}
use Rattle.epoch_lend.specs.Posts.{known, is_among, IsAmong}
use Rattle.epoch_lend.specs.Loans.{Loan, no_loan, filled_pocket, pocket, stock, Shown, are_within, Within, glance_owns}
use Rattle.epoch_lend.proofs.Loans.{lends}
use Rattle.epoch_lend.proofs.Reading as reading
use Rattle.epoch_lend.specs.Turning.{TurnNames, TurnStage, shown, turn_word, TurnOf, turn_logs, is_turn, value_in}
use Rattle.epoch_lend.specs.Turning.{turn_is, found_of, lent_with, lent_of, shown_with, turn_holds, at_turn}
use Rattle.epoch_lend.specs.Turning.{at_turn_word}
use Rattle.epoch_lend.proofs.Turned as steps

module _ {M : Type 1} {𝓤 : Ura M} (𝓛 : Logic 𝓤) (R : RattleType) (d : TurnNames) (L : RowLaws R) where
  open 𝓛 use {H, A}

  abbrev Pr : Type 2
  Pr = SProp 𝓤

  abbrev ◌⊢◌ : Pr → Pr → Type 1
  P ⊢ Q = ent 𝓤 P Q

  abbrev ◌∗◌ : Pr → Pr → Pr
  P ∗ Q = sep 𝓤 P Q

  abbrev ⟦◌⟧ : Fml → Pr
  ⟦ P ⟧ = sem 𝓛 P

  infix 26 ◌⊢◌
  infixr 35 ◌∗◌
  abbrev W : ℕ → Fml
  W = at_turn_word R d

  abbrev E : Type 0
  E = TurnOf R.Denot

  module _ (t γ epoch η : ℕ) (of : IsAmong η d.posts) (r : Share) (δ : GName) where
    abbrev w : ℕ
    w = 4 * t + 2

    abbrev pub Offer : Fml
    Offer = reading.Offer 𝓛 γ epoch η r δ

    -- a value of this turn, as a look sees it
    abbrev Seen : E → Shown R.Denot
    Seen e = record { at = value_in R d.at; value = e.0; lifetime = e.1; posts = d.posts }

    abbrev lent_now : Loan
    lent_now = record { atom = γ; epoch = epoch; log = η; pocket_name = δ }

    abbrev Loaned : E → Fml
    Loaned e = reading.Loaned 𝓛 R (Seen e) δ

    -- what a look has: where it found the word of this turn, the value of this turn with a loan of it
    abbrev saw_with : E → Fml
    saw_with e = fsep (turn_is R d.log t e) (Loaned e)

    abbrev saw_case : ℕ → Bool → Fml
    saw_case n true = fsep (known (n ≡ w)) (fex E saw_with)
    saw_case n false = fsep (known (n ≢ w)) (fobs δ no_loan)

    abbrev pub Saw : ℕ → Fml
    Saw n = fex Bool (saw_case n)

    -- the loan is left with the word
    lends_it : (e : E) (ls : List Loan) → Within d.posts ls
        → ⟦ fsep (stock e.1 ls) (fsep (lent_at R (value_in R d.at) e.0 (e.1 ∷ [])) (flent (e.1 ∷ []) (lies_at R
        full_share (value_in R d.at)
        e.0))) ⟧ ∗ ⟦ Offer ⟧ ⊢ upd 𝓤 (⟦ lent_of R d e ⟧ ∗ ⟦ Loaned e ⟧)
    lends_it e ls within = let Goal : Pr = ⟦ lent_of R d e ⟧ ∗ ⟦ Loaned e ⟧ in
        qed 𝓛 (‵ (fsep (stock e.1 ls) (fsep (lent_at R (value_in R d.at) e.0 (e.1 ∷ [])) (flent (e.1 ∷ []) (lies_at R
        full_share (value_in R d.at)
        e.0)))) ∷ ‵ Offer ∷ []) ∵ fsplit3 ! $ move ! (3 ∷ []) $ fsplit3 ! $ move ! (2 ∷ []) $ fsplit ! $
        -- [auth; entered; the lender's right; obs; stock; shown; the value afterwards]
        move ! (4 ∷ 2 ∷ 3 ∷ 0 ∷ 1 ∷ []) $ types.Kit.group ! 5 $
        use1 𝓛 (raw (upd 𝓤 (⟦ stock e.1 (lent_now ∷ ls) ⟧ ∗ ⟦ filled_pocket e.1 δ (length ls) ⟧))) (lends 𝓛 e.1 ls
        lent_now) $
        settle 𝓛 Goal (‵ (stock e.1 (lent_now ∷ ls)) ⊛ ‵ (filled_pocket e.1 δ (length ls))) $ split ! $
        suffices ! Goal (upd_i 𝓤 Goal) $ move ! (2 ∷ []) $
        use1 𝓛 (‵ (lent_at R (value_in R d.at) e.0 (e.1 ∷ [])) ⊛ ‵ (lent_at R (value_in R d.at) e.0 (e.1 ∷ [])))
        (contraction 𝓛 (lent_at R
        (value_in R d.at) e.0) (lent_at_shr_laws R L (value_in R d.at) e.0) (e.1 ∷ [])) $ split ! $
        nothing ! $ fpack ! (Within d.posts (lent_now ∷ ls)) (λ _. ftrue) (and_from (is_among η d.posts) (are_within
        d.posts ls) of within) $
        -- [within; shown; shown; stock; the pocket; the value afterwards]
        move ! (3 ∷ 1 ∷ 0 ∷ []) $ fjoin3 ! $ move ! (0 ∷ 3 ∷ []) $ fjoin ! $
        fpack ! (List Loan) (lent_with R d e) (lent_now ∷ ls) $ frame ! $
        move ! (1 ∷ []) $ fpack ! ℕ (filled_pocket e.1 δ) (length ls) $ fjoin ! $ done !

    -- what is shown at this turn: the value that was placed last, with the log that tells it
    abbrev held_with : List E × E → Fml
    held_with = shown_with R d t

    -- a look that finds a value shown is lent it
    sees_hit : (n : ℕ) → n ≡ w → ⟦ W n ⟧ ∗ ⟦ Offer ⟧ ⊢ upd 𝓤 (⟦ W n ⟧ ∗ ⟦ Saw n ⟧)
    sees_hit n hit = let Goal : Pr = ⟦ W n ⟧ ∗ ⟦ Saw n ⟧ in
        let O = turn_logs R in
        qed 𝓛 (‵ (W n) ∷ ‵ Offer ∷ []) ∵ fpick ! (λ s. fsplit3 ! $ fpick ! (λ is. drop ! $ move ! (1 ∷ []) $
        rewrite ! 0 (λ (z : TurnStage). ‵ (turn_holds R d z)) (steps.is_shown s t (sym is ∙ hit)) refl $ fsplit ! $
        move ! (1 ∷ []) $ fpick ! (λ last. fsplit3 ! $ let fs : List E = last.0 ++ last.1 ∷ [] in
        -- [latest; length; what was lent; obs; auth; the offer]
        use1 𝓛 (‵ (latest O full_share d.log fs) ⊛ ‵ (at_least O d.log fs)) (latest_shows O 𝓛 full_share d.log fs fs
        (O.same fs)) $ split ! $ move ! (2 ∷ []) $ fpick ! (λ long. drop ! $ move ! (2 ∷ []) $
        fpick ! (λ ls. fsplit ! $ fsplit3 ! $ move ! (2 ∷ []) $ fpick ! (λ within. drop ! $
        -- [stock; shown; the value afterwards; latest; at_least; obs; auth; the offer]
        fjoin3 ! $ move ! (0 ∷ 5 ∷ []) $
        use2 𝓛 (raw (upd 𝓤 (⟦ lent_of R d last.1 ⟧ ∗ ⟦ Loaned last.1 ⟧))) (lends_it last.1 ls within) $
        settle 𝓛 Goal (‵ (lent_of R d last.1) ⊛ ‵ (Loaned last.1)) $ split ! $ suffices ! Goal (upd_i 𝓤 Goal) $
        -- [what was lent; the loan; latest; at_least; obs; auth]
        nothing ! $ fpack ! (length last.0 ≡ t) (λ _. ftrue) long $ move ! (3 ∷ 0 ∷ 1 ∷ []) $ fjoin3 ! $
        fpack ! (List E × E) held_with last $
        -- [what is shown; the loan; at_least; obs; auth]
        move ! (3 ∷ 0 ∷ []) $ fjoin ! $ move ! (3 ∷ 0 ∷ []) $ fjoin ! $ nothing ! $
        fpack ! (n ≡ turn_word (shown t)) (λ _. ftrue) hit $ fjoin ! $ fpack ! TurnStage (at_turn R d n) (shown t) $
        frame ! $ nothing ! $ fpack ! (length last.0 ≡ t) (λ _. ftrue) long $ move ! (2 ∷ 0 ∷ []) $ fjoin ! $
        fpack ! (List E) (is_turn R d.log t last.1) last.0 $ fjoin ! $ fpack ! E saw_with last.1 $ nothing ! $
        fpack ! (n ≡ w) (λ _. ftrue) hit $ fjoin ! $ fpack ! Bool (saw_case n) true $ done !))))))

    -- any other look is lent nothing
    sees_miss : (n : ℕ) → n ≢ w → ⟦ W n ⟧ ∗ ⟦ Offer ⟧ ⊢ upd 𝓤 (⟦ W n ⟧ ∗ ⟦ Saw n ⟧)
    sees_miss n miss = let Goal : Pr = ⟦ W n ⟧ ∗ ⟦ Saw n ⟧ in
        qed 𝓛 (‵ (W n) ∷ ‵ Offer ∷ []) ∵ suffices ! Goal (upd_i 𝓤 Goal) $ frame ! $ fsplit3 ! $ keep ! (1 ∷ []) $
        nothing ! $ fpack ! (n ≢ w) (λ _. ftrue) miss $ fjoin ! $ fpack ! Bool (saw_case n) false $ done !

    sees : (n : ℕ) → ⟦ W n ⟧ ∗ ⟦ Offer ⟧ ⊢ upd 𝓤 (⟦ W n ⟧ ∗ ⟦ Saw n ⟧)
    sees n = dite (ℕ_discrete n w) (sees_hit n) (sees_miss n)

    -- one plain load looks for the value of this turn
    pub sees_it : (α : Lft) (q : Share) (b o : ℕ)
        → A.inv (fbor α (steps.Memory 𝓛 R d α q b o)) ∗ (A.lft α q ∗ ⟦ Offer ⟧) ⊢ asks 𝓛 (block_ptr b (o + 0)) (λ n. n)
        always (λ n. fsep (flft α q) (Saw n))
    sees_it α q b o = steps.stepped 𝓛 R d α q b o (λ n. n) Saw Offer sees

    -- what was lent is now lent for the guard's lifetime
    abbrev got_with : E → Fml
    got_with e = fsep (turn_is R d.log t e) (lent_at R (value_in R d.at) e.0 (γ ∷ []))

    abbrev got_case : ℕ → Bool → Fml
    got_case n true = fsep (known (n ≡ w)) (fex E got_with)
    got_case n false = known (n ≢ w)

    abbrev pub Got : ℕ → Fml
    Got n = fex Bool (got_case n)

    -- after the look the pocket is closed, with what it found
    settled : (n : ℕ) (y : Bool)
        → A.obor (γ ∷ []) r (pocket δ) ∗ ⟦ saw_case n y ⟧ ⊢ H.⇛ (A.lft (γ ∷ []) r ∗ ⟦ Got n ⟧)
    settled n true = qed 𝓛 (‵ (fobor (γ ∷ []) r (pocket δ)) ∷ ‵ (saw_case n true) ∷ []) ∵ updating ! $
        move ! (1 ∷ []) $ fsplit ! $ move ! (1 ∷ []) $ fpick ! (λ e. fsplit ! $
        -- [the value of the turn; the loan; known; the pocket]
        move ! (3 ∷ 1 ∷ []) $
        use2 𝓛 (later (‵ (flft (γ ∷ []) r) ⊛ ‵ (lent_at R (value_in R d.at) e.0 (γ ∷ [])))) (reading.fills 𝓛 R (Seen
        e) L γ r δ) $
        await ! tt $ split ! $
        -- [the guard's token; the value; the value of the turn; known]
        move ! (2 ∷ 1 ∷ []) $ fjoin ! $ fpack ! E got_with e $ move ! (2 ∷ 0 ∷ []) $ fjoin ! $
        fpack ! Bool (got_case n) true $ now ! $ keep ! (1 ∷ 0 ∷ []) $ done !)
    settled n false = qed 𝓛 (‵ (fobor (γ ∷ []) r (pocket δ)) ∷ ‵ (saw_case n false) ∷ []) ∵ updating ! $
        move ! (1 ∷ []) $ fsplit ! $ move ! (2 ∷ 1 ∷ []) $
        use2 𝓛 (later (‵ (flft (γ ∷ []) r))) (reading.stays_empty 𝓛 γ r δ) $ await ! tt $
        move ! (1 ∷ []) $ fpack ! Bool (got_case n) false $ now ! $ keep ! (1 ∷ 0 ∷ []) $ done !

    pub settles : (n : ℕ) → A.obor (γ ∷ []) r (pocket δ) ∗ ⟦ Saw n ⟧ ⊢ H.⇛ (A.lft (γ ∷ []) r ∗ ⟦ Got n ⟧)
    settles n = qed 𝓛 (‵ (fobor (γ ∷ []) r (pocket δ)) ∷ ‵ (Saw n) ∷ []) ∵ move ! (1 ∷ []) $
        fpick ! (λ y. move ! (1 ∷ 0 ∷ []) $ by ! (settled n y))

    -- which value was found, and the right to see it: one where the word was that of this turn, and else none
    module _ (κ : Lft) (n : ℕ) where
      abbrev pub Gain : ℕ × Option R.Denot × ℕ → Pr
      Gain g = guard 𝓤 (steps.Gains 𝓛 R d w n g.0) ⟦ fsep (found_of R d.log t g.2 g.1 g.0) (glance_owns κ R (value_in
          R d.at) g.1
          g.0) ⟧

      gain : (y : Bool) → ⟦ got_case n y ⟧ ∗ ⟦ before κ (γ ∷ []) ⟧ ⊢ ex 𝓤 Gain
      gain true = qed 𝓛 (‵ (got_case n true) ∷ ‵ (before κ (γ ∷ [])) ∷ []) ∵ fsplit ! $ fpick ! (λ hit. drop ! $
          fpick ! (λ e. fsplit ! $ move ! (2 ∷ 1 ∷ []) $
          use2 𝓛 (‵ (lent_at R (value_in R d.at) e.0 κ)) ((lent_at_shr_laws R L (value_in R d.at) e.0).mono M 𝓤 𝓛 κ
          (γ ∷ [])) $
          move ! (1 ∷ 0 ∷ []) $ fjoin ! $
          show ! Gain (1, Some e.0, e.1) $ check ! ((λ _. refl), (λ miss. absurd (miss hit))) $ done !))
      gain false = qed 𝓛 (‵ (got_case n false) ∷ ‵ (before κ (γ ∷ [])) ∷ []) ∵ fpick ! (λ miss. drop ! $ drop ! $
          nothing ! $ nothing ! $ fjoin ! $
          show ! Gain (0, None, 0) $ check ! ((λ hit. absurd (miss hit)), (λ _. refl)) $ done !)

      pub gains : ⟦ Got n ⟧ ∗ ⟦ before κ (γ ∷ []) ⟧ ⊢ ex 𝓤 Gain
      gains = qed 𝓛 (‵ (Got n) ∷ ‵ (before κ (γ ∷ [])) ∷ []) ∵ fpick ! (λ y. by ! (gain y))
