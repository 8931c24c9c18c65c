-- A load of a place's word tells which value is shown, and two who know the value of one turn know one value. Assumes
-- `Logic`.
use Rattle.std.proofs.Common.{◌≡◌, ◌≢◌, ℕ, ◌+◌, ◌*◌, List, [], ◌∷◌, ◌++◌, sym, refl, ap, ◌∙◌, length}
use native.Mathlib.Omega.{arith}
use native.Mathlib.Decide.{ℕ_discrete}
use mathlib.Core.Logic.{dite}
use seplogic.Ra.Ura.{Ura}
use base.Fraction.{full_share}
use base.Growing.{Least, latest, at_least}
use base.Logic.{SProp, ent, sep, ex, all_e, guard, upd, upd_i, emp, never_e}
use base.Fml.{Lft, Share, Fml, ftrue, fsep, fex, fall, flft, fbor}
use types.Logic.{Logic, sem}
use types.Kit.{‵, ◌⊛◌, some, given, ◌$◌, ◌∵◌, !, qed, move, keep, drop, split, fsplit, fsplit3, fjoin, fjoin3}
use types.Kit.{fpick, fpack, pick, learn, show, frame, each, suffices, use0, use1, use2, rewrite, check, done}
use types.Growing.{latest_shows, at_least_join}
use denote.RattleType.{RattleType}
use denote.RawPtr.{block_ptr}
use denote.Steps.{nothing}
use Rattle.core.specs.Sync.RawAtomic.{asks, always}
use Rattle.std.specs.Prelude.{Option, Some, None}
use Rattle.epoch_lend.specs.Turning.{TurnNames, TurnStage, shown, turn_word, TurnOf, turn_logs, is_turn}
use Rattle.epoch_lend.specs.Turning.{turn_is, found_of, shown_with, turn_holds, at_turn, at_turn_word}
use Rattle.epoch_lend.proofs.Turned as steps

-- the first of a list, and what is behind it
abbrev first_or : {X : Type 0} → X → List X → X
first_or x [] = x
first_or x (y ∷ ys) = y

abbrev behind : {X : Type 0} → List X → List X
behind [] = []
behind (y ∷ ys) = ys

-- two lists with one beginning of the same length go on with the same value
same_next : {X : Type 0} (xs ys more rest : List X) (x y : X) → length xs ≡ length ys
    → (xs ++ x ∷ []) ++ more ≡ (ys ++ y ∷ []) ++ rest → x ≡ y
same_next [] [] more rest x y e p = ap (first_or x) p
same_next [] (z ∷ ys) more rest x y e p = absurd (omega (arith, e))
same_next (z ∷ xs) [] more rest x y e p = absurd (omega (arith, e))
same_next (z ∷ xs) (w ∷ ys) more rest x y e p = same_next xs ys more rest x y (omega (arith, e)) (ap behind p)

-- two who know the value of one turn know one value
pub turn_agrees : {M : Type 1} {𝓤 : Ura M} (𝓛 : Logic 𝓤) (R : RattleType) (log t : ℕ) (e f : TurnOf R.Denot)
    → ent 𝓤 (sep 𝓤 (sem 𝓛 (turn_is R log t e)) (sem 𝓛 (turn_is R log t f))) (guard 𝓤 (e ≡ f) (emp 𝓤))
turn_agrees 𝓛 R log t e f = let O = turn_logs R in
    qed 𝓛 (‵ (turn_is R log t e) ∷ ‵ (turn_is R log t f) ∷ []) ∵ fpick ! (λ es. fsplit ! $ move ! (1 ∷ []) $
    fpick ! (λ long. drop ! $ move ! (1 ∷ []) $ fpick ! (λ fs. fsplit ! $ move ! (1 ∷ []) $ fpick ! (λ as_long. drop ! $
    move ! (1 ∷ 0 ∷ []) $
    use2 𝓛 (some (λ (c : List (TurnOf R.Denot)). given (Least O.le (es ++ e ∷ []) (fs ++ f ∷ []) c) (‵ (at_least O log
    c)))) (at_least_join O 𝓛 log (es ++ e ∷ []) (fs ++ f ∷ [])) $ pick ! (λ c. learn ! (λ least. drop ! $
    check ! (same_next es fs least.0.0 least.1.0 e f (long ∙ sym as_long) (least.0.1 ∙ sym least.1.1)) $ done !))))))

module _ {M : Type 1} {𝓤 : Ura M} (𝓛 : Logic 𝓤) (R : RattleType) (d : TurnNames) where
  open 𝓛 use {H, A}

  abbrev Pr : Type 2
  Pr = SProp 𝓤

  abbrev ◌⊢◌ : Pr → Pr → Type 1
  P ⊢ Q = ent 𝓤 P Q

  abbrev ◌∗◌ : Pr → Pr → Pr
  P ∗ Q = sep 𝓤 P Q

  abbrev ⟦◌⟧ : Fml → Pr
  ⟦ P ⟧ = sem 𝓛 P

  infix 26 ◌⊢◌
  infixr 35 ◌∗◌
  abbrev W : ℕ → Fml
  W = at_turn_word R d

  abbrev E : Type 0
  E = TurnOf R.Denot

  module _ (t : ℕ) where
    abbrev w : ℕ
    w = 4 * t + 2

    -- what a load tells: where it finds the word of this turn, the value of this turn
    abbrev Told : Fml
    Told = fex E (turn_is R d.log t)

    abbrev pub Tells : ℕ → Fml
    Tells n = fall (n ≡ w) (λ _. Told)

    -- a load that finds a value shown tells which
    finds_hit : (n : ℕ) → n ≡ w → ⟦ W n ⟧ ∗ ⟦ ftrue ⟧ ⊢ upd 𝓤 (⟦ W n ⟧ ∗ ⟦ Tells n ⟧)
    finds_hit n hit = let Goal : Pr = ⟦ W n ⟧ ∗ ⟦ Tells n ⟧ in
        let O = turn_logs R in
        qed 𝓛 (‵ (W n) ∷ ‵ ftrue ∷ []) ∵ suffices ! Goal (upd_i 𝓤 Goal) $ fpick ! (λ s. fsplit3 ! $ fpick ! (λ is.
        drop ! $ move ! (1 ∷ []) $
        rewrite ! 0 (λ (z : TurnStage). ‵ (turn_holds R d z)) (steps.is_shown s t (sym is ∙ hit)) refl $ fsplit ! $
        move ! (1 ∷ []) $ fpick ! (λ now. fsplit3 ! $ let fs : List E = now.0 ++ now.1 ∷ [] in
        -- [latest; length; what was lent; obs; auth; nothing]
        use1 𝓛 (‵ (latest O full_share d.log fs) ⊛ ‵ (at_least O d.log fs)) (latest_shows O 𝓛 full_share d.log fs fs
        (O.same fs)) $ split ! $ move ! (2 ∷ []) $ fpick ! (λ long. drop ! $ nothing ! $
        fpack ! (length now.0 ≡ t) (λ _. ftrue) long $
        -- [length; latest; at_least; what was lent; obs; auth; nothing]
        move ! (1 ∷ 0 ∷ 3 ∷ []) $ fjoin3 ! $ fpack ! (List E × E) (shown_with R d t) now $
        -- [what is shown; at_least; obs; auth; nothing]
        move ! (2 ∷ 0 ∷ []) $ fjoin ! $ move ! (2 ∷ 0 ∷ []) $ fjoin ! $ nothing ! $
        fpack ! (n ≡ turn_word (shown t)) (λ _. ftrue) hit $ fjoin ! $ fpack ! TurnStage (at_turn R d n) (shown t) $
        frame ! $ keep ! (0 ∷ []) $ nothing ! $ fpack ! (length now.0 ≡ t) (λ _. ftrue) long $
        move ! (1 ∷ 0 ∷ []) $ fjoin ! $ fpack ! (List E) (is_turn R d.log t now.1) now.0 $
        fpack ! E (turn_is R d.log t) now.1 $ each ! (λ (_ : n ≡ w). ⟦ Told ⟧) (λ _. done !)))))

    -- a load that finds another word tells nothing
    finds_miss : (n : ℕ) → n ≢ w → ⟦ W n ⟧ ∗ ⟦ ftrue ⟧ ⊢ upd 𝓤 (⟦ W n ⟧ ∗ ⟦ Tells n ⟧)
    finds_miss n miss = qed 𝓛 (‵ (W n) ∷ ‵ ftrue ∷ []) ∵ suffices ! _ (upd_i 𝓤 (⟦ W n ⟧ ∗ ⟦ Tells n ⟧)) $ frame ! $
        drop ! $ use0 𝓛 (‵ (Tells n)) (qed 𝓛 [] ∵ each ! (λ (_ : n ≡ w). ⟦ Told ⟧) (λ e. absurd (miss e))) $ done !

    finds : (n : ℕ) → ⟦ W n ⟧ ∗ ⟦ ftrue ⟧ ⊢ upd 𝓤 (⟦ W n ⟧ ∗ ⟦ Tells n ⟧)
    finds n = dite (ℕ_discrete n w) (finds_hit n) (finds_miss n)

    -- one plain load finds what is shown
    module _ (α : Lft) (q : Share) (b o : ℕ) where
      pub finds_it : A.inv (fbor α (steps.Memory 𝓛 R d α q b o)) ∗ (A.lft α q ∗ ⟦ ftrue ⟧) ⊢ asks 𝓛 (block_ptr b (o +
          0)) (λ n. n) always (λ n. fsep (flft α q) (Tells n))
      finds_it = steps.stepped 𝓛 R d α q b o (λ n. n) Tells ftrue finds

    -- which value was found: one where the word was that of this turn, and else none
    module _ (n : ℕ) where
      abbrev pub Find : ℕ × Option R.Denot × ℕ → Pr
      Find g = guard 𝓤 (steps.Gains 𝓛 R d w n g.0) ⟦ found_of R d.log t g.2 g.1 g.0 ⟧

      pub found : ⟦ Tells n ⟧ ⊢ ex 𝓤 Find
      found = dite (ℕ_discrete n w)
          (λ hit. qed 𝓛 (‵ (Tells n) ∷ []) ∵ use1 𝓛 (‵ Told) (all_e 𝓤 (λ (_ : n ≡ w). ⟦ Told ⟧) hit) $ fpick ! (λ e.
          show ! Find (1, Some e.0, e.1) $ check ! ((λ _. refl), (λ miss. absurd (miss hit))) $ done !))
          (λ miss. qed 𝓛 (‵ (Tells n) ∷ []) ∵ drop ! $ nothing ! $ show ! Find (0, None, 0) $
          check ! ((λ hit. absurd (miss hit)), (λ _. refl)) $ done !)

-- who found a value has its name
module _ {M : Type 1} {𝓤 : Ura M} (𝓛 : Logic 𝓤) (R : RattleType) (log t lifetime : ℕ) where
  abbrev pub Named : Option R.Denot → R.Denot → Fml
  Named v x = fex (v ≡ Some x) (λ _. turn_is R log t (x, lifetime))

  pub found_names : (v : Option R.Denot)
      → ent 𝓤 (sem 𝓛 (found_of R log t lifetime v 1)) (sem 𝓛 (fex R.Denot (Named v)))
  found_names None = never_e 𝓤 _
  found_names (Some x) = qed 𝓛 (‵ (turn_is R log t (x, lifetime)) ∷ []) ∵
      fpack ! (Some x ≡ Some x) (λ _. turn_is R log t (x, lifetime)) refl $ fpack ! R.Denot (Named (Some x)) x $ done !
