-- The steps on the word of a place, under its invariant. Assumes `Logic`.
use Rattle.std.proofs.Common.{◌≡◌, ◌≢◌, inl, inr, ℕ, zero, suc, ◌+◌, ◌*◌, List, [], ◌∷◌, ◌++◌, sym, refl, ap}
use Rattle.std.proofs.Common.{◌∙◌, subst, length}
use Rattle.std.proofs.Common.{eqb, eq-eqb, ne_eqb}
use Rattle.std.proofs.lemmas.List.{length-append}
use native.Mathlib.Omega.{arith}
use native.Mathlib.Decide.{ℕ_discrete}
use mathlib.Core.Logic.{dite}
use mathlib.Core.Bool.{Bool}
use mathlib.Core.List.{IsPrefix}
use seplogic.Ra.Ura.{Ura}
use prog.Atomic.{either}
use base.Fraction.{full_share}
use base.Stored.{gnum, num}
use base.Growing.{latest, at_least}
use base.Logic.{SProp, ent, sep, ex, all_e, guard, upd, upd_i, emp}
use base.Fml.{Lft, Share, Fml, ftrue, fsep, fex, fall, flft, fobs, fauth, fbor, flent}
use types.Logic.{Logic, sem}
use types.Kit.{‵, raw, ◌⊛◌, given, ◌$◌, ◌∵◌, !, qed, by, move, keep, drop, split, fsplit, fsplit3, fjoin}
use types.Kit.{fjoin3}
use types.Kit.{fpick, fpack, learn, show, frame, each, assume, suffices, settle, use0, use1, use2, rewrite, done}
use types.Growing.{latest_grows, latest_shows, latest_bounds, at_least_dup}
use denote.RattleType.{RattleType}
use denote.RawPtr.{block_ptr, lies_at}
use denote.Steps.{nothing}
use denote.Struct.Lending.{lent_at}
use Rattle.core.specs.Sync.RawAtomic.{asks, always, word}
use Rattle.core.proofs.raw_atomic.Asked.{borrowed, Lies, Again}
use Rattle.epoch_lend.specs.Posts.{known}
use Rattle.epoch_lend.specs.Loans.{Loan, Within, marked_owns}
use Rattle.epoch_lend.specs.Turning.{TurnNames, TurnStage, vacant, claimed, shown, removed, turn_word, TurnOf}
use Rattle.epoch_lend.specs.Turning.{turn_logs, is_turn, turn_is, claim_has, claim_of, vacancy_of, log_of}
use Rattle.epoch_lend.specs.Turning.{Awaits, turns_so_far, lent_with, lent_of, shown_with, turn_holds, at_turn}
use Rattle.epoch_lend.specs.Turning.{at_turn_word, turns_at, value_in}

-- the stage of a word that is four times a turn
is_vacant : (s : TurnStage) (t : ℕ) → turn_word s ≡ 4 * t → s ≡ vacant t
is_vacant (vacant u) t e = ap vacant (omega (arith, e))
is_vacant (claimed u) t e = absurd (omega (arith, e))
is_vacant (shown u) t e = absurd (omega (arith, e))
is_vacant (removed u) t e = absurd (omega (arith, e))

-- the stage of a word that is four times a turn, and 1
is_claimed : (s : TurnStage) (t : ℕ) → turn_word s ≡ 4 * t + 1 → s ≡ claimed t
is_claimed (vacant u) t e = absurd (omega (arith, e))
is_claimed (claimed u) t e = ap claimed (omega (arith, e))
is_claimed (shown u) t e = absurd (omega (arith, e))
is_claimed (removed u) t e = absurd (omega (arith, e))

-- the stage of a word that is four times a turn, and 2
pub is_shown : (s : TurnStage) (t : ℕ) → turn_word s ≡ 4 * t + 2 → s ≡ shown t
is_shown (vacant u) t e = absurd (omega (arith, e))
is_shown (claimed u) t e = absurd (omega (arith, e))
is_shown (shown u) t e = ap shown (omega (arith, e))
is_shown (removed u) t e = absurd (omega (arith, e))

-- the stage of a word that is four times a turn, and 3
is_removed : (s : TurnStage) (t : ℕ) → turn_word s ≡ 4 * t + 3 → s ≡ removed t
is_removed (vacant u) t e = absurd (omega (arith, e))
is_removed (claimed u) t e = absurd (omega (arith, e))
is_removed (shown u) t e = absurd (omega (arith, e))
is_removed (removed u) t e = ap removed (omega (arith, e))

-- a place at which a caller may show the value of a turn has the turns before it, and no more
holds_before : (R : RattleType) (d : TurnNames) (s : TurnStage) (t p : ℕ) → Awaits t p → turn_word s ≡ p
    → turn_holds R d s ≡ turns_so_far R d t
holds_before R d s t p (inl e) is = ap (turn_holds R d) (is_claimed s t (is ∙ e))
holds_before R d s zero p (inr e) is = absurd (omega (arith, e))
holds_before R d s (suc u) p (inr e) is = ap (turn_holds R d) (is_removed s u (omega (arith, e, is)))

-- the first of a list, and what is behind it
abbrev first_or : {X : Type 0} → X → List X → X
first_or x [] = x
first_or x (y ∷ ys) = y

abbrev behind : {X : Type 0} → List X → List X
behind [] = []
behind (y ∷ ys) = ys

-- of two logs, one the beginning of the other, the last values are one where they are of one turn
same_turn : {X : Type 0} (xs ys rest : List X) (x y : X) → length xs ≡ length ys
    → (xs ++ x ∷ []) ++ rest ≡ ys ++ y ∷ [] → y ≡ x
same_turn [] [] rest x y e p = sym (ap (first_or x) p)
same_turn [] (z ∷ ys) rest x y e p = absurd (omega (arith, e))
same_turn (z ∷ xs) [] rest x y e p = absurd (omega (arith, e))
same_turn (z ∷ xs) (w ∷ ys) rest x y e p = same_turn xs ys rest x y (omega (arith, e)) (ap behind p)

-- the value of a turn is a fact, which may be had twice
pub turn_dup : {M : Type 1} {𝓤 : Ura M} (𝓛 : Logic 𝓤) (R : RattleType) (log t : ℕ) (e : TurnOf R.Denot)
    → ent 𝓤 (sem 𝓛 (turn_is R log t e)) (sep 𝓤 (sem 𝓛 (turn_is R log t e)) (sem 𝓛 (turn_is R log t e)))
turn_dup 𝓛 R log t e = let O = turn_logs R in qed 𝓛 (‵ (turn_is R log t e) ∷ []) ∵ fpick ! (λ es. fsplit ! $
    use1 𝓛 (‵ (at_least O log (es ++ e ∷ [])) ⊛ ‵ (at_least O log (es ++ e ∷ []))) (at_least_dup O 𝓛 log (es ++ e ∷
    [])) $
    split ! $ move ! (2 ∷ []) $ fpick ! (λ long. drop ! $
    nothing ! $ fpack ! (length es ≡ t) (λ _. ftrue) long $ move ! (1 ∷ 0 ∷ []) $ fjoin ! $
    fpack ! (List (TurnOf R.Denot)) (is_turn R log t e) es $ frame ! $
    nothing ! $ fpack ! (length es ≡ t) (λ _. ftrue) long $ move ! (1 ∷ 0 ∷ []) $ fjoin ! $
    fpack ! (List (TurnOf R.Denot)) (is_turn R log t e) es $ done !))

module _ {M : Type 1} {𝓤 : Ura M} (𝓛 : Logic 𝓤) (R : RattleType) (d : TurnNames) where
  open 𝓛 use {H, A}

  abbrev Pr : Type 2
  Pr = SProp 𝓤

  abbrev ◌⊢◌ : Pr → Pr → Type 1
  P ⊢ Q = ent 𝓤 P Q

  abbrev ◌∗◌ : Pr → Pr → Pr
  P ∗ Q = sep 𝓤 P Q

  abbrev ⟦◌⟧ : Fml → Pr
  ⟦ P ⟧ = sem 𝓛 P

  infix 26 ◌⊢◌
  infixr 35 ◌∗◌
  abbrev δ : ℕ
  δ = d.state

  abbrev W : ℕ → Fml
  W = at_turn_word R d

  abbrev E : Type 0
  E = TurnOf R.Denot

  -- ---- a claim
  module _ (t : ℕ) where
    abbrev pub Gained : Fml
    Gained = claim_has R (value_in R d.at) δ (4 * t + 1)

    abbrev pub Claimed : ℕ → Fml
    Claimed n = fall (n ≡ 4 * t) (λ _. Gained)

    -- nothing is claimed by an exchange that found another word
    unclaimed : (n : ℕ) → n ≢ 4 * t → emp 𝓤 ⊢ ⟦ Claimed n ⟧
    unclaimed n miss = qed 𝓛 [] ∵ each ! (λ (_ : n ≡ 4 * t). ⟦ Gained ⟧) (λ e. absurd (miss e))

    -- an exchange that finds the place vacant takes the place out
    claims_hit : (n : ℕ) → n ≡ 4 * t → ⟦ W n ⟧ ∗ ⟦ ftrue ⟧ ⊢ upd 𝓤 (⟦ W (4 * t + 1) ⟧ ∗ ⟦ Claimed n ⟧)
    claims_hit n hit = let u = gnum (4 * t + 1) in
        let Goal : Pr = ⟦ W (4 * t + 1) ⟧ ∗ ⟦ Claimed n ⟧ in
        qed 𝓛 (‵ (W n) ∷ ‵ ftrue ∷ []) ∵ fpick ! (λ s. fsplit3 ! $ fpick ! (λ is. drop ! $ move ! (1 ∷ []) $
        rewrite ! 0 (λ (z : TurnStage). ‵ (turn_holds R d z)) (is_vacant s t (sym is ∙ hit)) refl $ fsplit3 ! $
        move ! (0 ∷ 3 ∷ []) $
        use2 𝓛 (raw (upd 𝓤 (A.obs δ u ∗ A.auth δ u))) (𝓛.names.name_set_upd δ (gnum (4 * t)) (gnum n) u) $
        settle 𝓛 Goal (‵ (fobs δ u) ⊛ ‵ (fauth δ u)) $ split ! $ suffices ! Goal (upd_i 𝓤 Goal) $
        -- [obs; auth; turns; the room]
        move ! (1 ∷ 2 ∷ []) $ fjoin ! $ nothing ! $
        fpack ! (4 * t + 1 ≡ 4 * t + 1) (λ _. ftrue) refl $ fjoin ! $
        fpack ! TurnStage (at_turn R d (4 * t + 1)) (claimed t) $ frame ! $ keep ! (0 ∷ 1 ∷ []) $ fjoin ! $
        each ! (λ (_ : n ≡ 4 * t). ⟦ Gained ⟧) (λ _. done !)))

    -- an exchange that finds another word leaves all as it is
    claims_miss : (n : ℕ) → n ≢ 4 * t → ⟦ W n ⟧ ∗ ⟦ ftrue ⟧ ⊢ upd 𝓤 (⟦ W n ⟧ ∗ ⟦ Claimed n ⟧)
    claims_miss n miss = qed 𝓛 (‵ (W n) ∷ ‵ ftrue ∷ []) ∵ suffices ! _ (upd_i 𝓤 (⟦ W n ⟧ ∗ ⟦ Claimed n ⟧)) $ frame ! $
        drop ! $ use0 𝓛 (‵ (Claimed n)) (unclaimed n miss) $ done !

    claims : (n : ℕ) → ⟦ W n ⟧ ∗ ⟦ ftrue ⟧ ⊢ upd 𝓤 (⟦ W (either (eqb n (4 * t)) (4 * t + 1) n) ⟧ ∗ ⟦ Claimed n ⟧)
    claims n = let F : Bool → Type 1 = λ y. ⟦ W n ⟧ ∗ ⟦ ftrue ⟧ ⊢ upd 𝓤 (⟦ W (either y (4 * t + 1) n) ⟧ ∗ ⟦ Claimed n
        ⟧) in
        dite (ℕ_discrete n (4 * t))
        (λ hit. subst F (sym (eq-eqb n (4 * t) hit)) (claims_hit n hit))
        (λ miss. subst F (sym (ne_eqb n (4 * t) miss)) (claims_miss n miss))

  -- ---- a value is shown
  module _ (t p : ℕ) (e : E) where
    -- what a caller has at a place of this word once its value is lent for a lifetime of its own
    abbrev pub Showing : Fml
    Showing = fsep (fobs δ (gnum p)) (fsep (flft (e.1 ∷ []) full_share) (fsep (lent_at R (value_in R d.at) e.0 (e.1 ∷
        []))
        (flent (e.1 ∷ []) (lies_at R full_share (value_in R d.at) e.0))))

    -- the place shows the value, as that of its turn
    shows_at : (n : ℕ) → Awaits t p → n ≡ p → (s : TurnStage)
        → ⟦ at_turn R d n s ⟧ ∗ ⟦ Showing ⟧ ⊢ upd 𝓤 (⟦ W (4 * t + 2) ⟧ ∗ ⟦ turn_is R d.log t e ⟧)
    shows_at n awaits at s = let u = gnum (4 * t + 2) in
        let Goal : Pr = ⟦ W (4 * t + 2) ⟧ ∗ ⟦ turn_is R d.log t e ⟧ in
        let O = turn_logs R in
        qed 𝓛 (‵ (at_turn R d n s) ∷ ‵ Showing ∷ []) ∵ fsplit3 ! $ fpick ! (λ is. drop ! $ move ! (1 ∷ []) $
        rewrite ! 0 (λ (z : Fml). ‵ z) (holds_before R d s t p awaits (sym is ∙ at)) refl $ move ! (2 ∷ []) $
        fsplit3 ! $ move ! (0 ∷ 4 ∷ []) $
        -- [obs; auth; the token; what is shown and lent; turns]
        use2 𝓛 (raw (upd 𝓤 (A.obs δ u ∗ A.auth δ u))) (𝓛.names.name_set_upd δ (gnum p) (gnum n) u) $
        settle 𝓛 Goal (‵ (fobs δ u) ⊛ ‵ (fauth δ u)) $ split ! $ move ! (4 ∷ []) $ fpick ! (λ es. fsplit ! $
        let fs : List E = es ++ e ∷ [] in
        use1 𝓛 (raw (upd 𝓤 ⟦ latest O full_share d.log fs ⟧)) (latest_grows O 𝓛 d.log es fs (e ∷ [], refl)) $
        settle 𝓛 Goal (‵ (latest O full_share d.log fs)) $ suffices ! Goal (upd_i 𝓤 Goal) $
        use1 𝓛 (‵ (latest O full_share d.log fs) ⊛ ‵ (at_least O d.log fs)) (latest_shows O 𝓛 full_share d.log fs fs
        (O.same fs)) $ split ! $
        -- [latest; at_least; length; obs; auth; the token; what is shown and lent]
        move ! (2 ∷ []) $ fpick ! (λ long. drop ! $ move ! (5 ∷ []) $ fsplit ! $ move ! (6 ∷ []) $ nothing ! $
        move ! (1 ∷ 0 ∷ []) $ fjoin ! $ nothing ! $ fpack ! (Within d.posts []) (λ _. ftrue) refl $ move ! (2 ∷ 0 ∷
        []) $
        fjoin ! $ move ! (1 ∷ 0 ∷ []) $ fjoin ! $ move ! (0 ∷ 1 ∷ []) $ fjoin ! $ fpack ! (List Loan) (lent_with R d
        e) [] $
        -- [lent; latest; at_least; obs; auth]
        nothing ! $ fpack ! (length es ≡ t) (λ _. ftrue) long $ move ! (2 ∷ 0 ∷ 1 ∷ []) $ fjoin3 ! $
        fpack ! (List E × E) (shown_with R d t) (es, e) $ move ! (2 ∷ 0 ∷ []) $ fjoin ! $ move ! (2 ∷ 0 ∷ []) $ fjoin
        ! $
        nothing ! $ fpack ! (4 * t + 2 ≡ 4 * t + 2) (λ _. ftrue) refl $ fjoin ! $
        fpack ! TurnStage (at_turn R d (4 * t + 2)) (shown t) $ frame ! $
        nothing ! $ fpack ! (length es ≡ t) (λ _. ftrue) long $ move ! (1 ∷ 0 ∷ []) $ fjoin ! $
        fpack ! (List E) (is_turn R d.log t e) es $ done !)))

    shows : Awaits t p → (n : ℕ) → ⟦ W n ⟧ ∗ ⟦ Showing ⟧ ⊢ upd 𝓤 (⟦ W (4 * t + 2) ⟧ ∗ ⟦ turn_is R d.log t e ⟧)
    shows awaits n = let Rest = fsep (flft (e.1 ∷ []) full_share) (fsep (lent_at R (value_in R d.at) e.0 (e.1 ∷ []))
        (flent (e.1 ∷ []) (lies_at R full_share (value_in R d.at) e.0))) in
        qed 𝓛 (‵ (W n) ∷ ‵ Showing ∷ []) ∵ fpick ! (λ s. fsplit3 ! $ move ! (3 ∷ []) $ fsplit ! $ move ! (0 ∷ 3 ∷ []) $
        use2 𝓛 (given (gnum p ≡ gnum n) (‵ (fobs δ (gnum p)) ⊛ ‵ (fauth δ (gnum n))))
        (𝓛.names.name_agree δ (gnum p) (gnum n)) $ learn ! (λ same. split ! $
        -- [obs; auth; the rest; known; what the stage holds]
        move ! (0 ∷ 2 ∷ []) $ fjoin ! $ move ! (2 ∷ 1 ∷ 3 ∷ []) $ fjoin3 ! $
        by ! (shows_at n awaits (sym (ap num same)) s)))

  -- ---- a mark, by who knows the value of its turn
  module _ (t : ℕ) (e : E) where
    abbrev w : ℕ
    w = 4 * t + 2

    abbrev pub Known : Fml
    Known = turn_is R d.log t e

    abbrev Held : List E × E → Fml
    Held = shown_with R d t

    -- a place that is shown at this turn has the value of this turn
    abbrev pub Open : List E → Fml
    Open es = fsep (latest (turn_logs R) full_share d.log (es ++ e ∷ [])) (fsep (known (length es ≡ t)) (lent_of R d e))

    opens : ⟦ fex (List E × E) Held ⟧ ∗ ⟦ Known ⟧ ⊢ ⟦ fex (List E) Open ⟧
    opens = let O = turn_logs R in qed 𝓛 (‵ (fex (List E × E) Held) ∷ ‵ Known ∷ []) ∵ fpick ! (λ now. fsplit3 ! $
        move ! (1 ∷ []) $ fpick ! (λ long. drop ! $ move ! (2 ∷ []) $ fpick ! (λ es. fsplit ! $ move ! (1 ∷ []) $
        fpick ! (λ as_long. drop ! $ move ! (1 ∷ 0 ∷ []) $
        use2 𝓛 (given (IsPrefix (es ++ e ∷ []) (now.0 ++ now.1 ∷ [])) (‵ (latest O full_share d.log (now.0 ++ now.1 ∷
        [])) ⊛
        ‵ (at_least O d.log (es ++ e ∷ [])))) (latest_bounds O 𝓛 full_share d.log (now.0 ++ now.1 ∷ []) (es ++ e ∷
        [])) $
        learn ! (λ p. split ! $ let same : now.1 ≡ e = same_turn es now.0 p.0 e now.1 (as_long ∙ sym long) p.1 in
        keep ! (0 ∷ 2 ∷ []) $
        rewrite ! 0 (λ (z : E). ‵ (latest O full_share d.log (now.0 ++ z ∷ []))) same refl $ move ! (1 ∷ []) $
        rewrite ! 0 (λ (z : E). ‵ (lent_of R d z)) same refl $ nothing ! $
        fpack ! (length now.0 ≡ t) (λ _. ftrue) long $ move ! (2 ∷ 0 ∷ 1 ∷ []) $ fjoin3 ! $
        fpack ! (List E) Open now.0 $ done !)))))

    abbrev pub Out : Fml
    Out = fsep (fobs δ (gnum (4 * t + 3))) (lent_of R d e)

    abbrev pub Outed : ℕ → Fml
    Outed n = fall (n ≡ w) (λ _. Out)

    -- a mark that finds the value shown takes it out
    marks_hit : (n : ℕ) → n ≡ w → ⟦ W n ⟧ ∗ ⟦ Known ⟧ ⊢ upd 𝓤 (⟦ W (4 * t + 3) ⟧ ∗ ⟦ Outed n ⟧)
    marks_hit n hit = let u = gnum (4 * t + 3) in
        let Goal : Pr = ⟦ W (4 * t + 3) ⟧ ∗ ⟦ Outed n ⟧ in
        qed 𝓛 (‵ (W n) ∷ ‵ Known ∷ []) ∵ fpick ! (λ s. fsplit3 ! $ fpick ! (λ is. drop ! $ move ! (1 ∷ []) $
        rewrite ! 0 (λ (z : TurnStage). ‵ (turn_holds R d z)) (is_shown s t (sym is ∙ hit)) refl $ fsplit ! $
        move ! (1 ∷ 3 ∷ []) $ use2 𝓛 (‵ (fex (List E) Open)) opens $ fpick ! (λ es. fsplit3 ! $ move ! (3 ∷ 4 ∷ []) $
        use2 𝓛 (raw (upd 𝓤 (A.obs δ u ∗ A.auth δ u))) (𝓛.names.name_set_upd δ (gnum w) (gnum n) u) $
        settle 𝓛 Goal (‵ (fobs δ u) ⊛ ‵ (fauth δ u)) $ split ! $ suffices ! Goal (upd_i 𝓤 Goal) $
        -- [obs; auth; latest; length; what was lent]
        move ! (3 ∷ []) $ fpick ! (λ long. drop ! $ nothing ! $
        fpack ! (length (es ++ e ∷ []) ≡ suc t) (λ _. ftrue) (omega (arith, length-append es (e ∷ []), long)) $
        move ! (3 ∷ 0 ∷ []) $ fjoin ! $ fpack ! (List E) (log_of R d (suc t)) (es ++ e ∷ []) $ move ! (2 ∷ 0 ∷ []) $
        fjoin ! $ nothing ! $ fpack ! (4 * t + 3 ≡ 4 * t + 3) (λ _. ftrue) refl $ fjoin ! $
        fpack ! TurnStage (at_turn R d (4 * t + 3)) (removed t) $ frame ! $ fjoin ! $
        each ! (λ (_ : n ≡ w). ⟦ Out ⟧) (λ _. done !)))))

    -- a mark that finds another word leaves all as it is
    marks_miss : (n : ℕ) → n ≢ w → ⟦ W n ⟧ ∗ ⟦ Known ⟧ ⊢ upd 𝓤 (⟦ W n ⟧ ∗ ⟦ Outed n ⟧)
    marks_miss n miss = qed 𝓛 (‵ (W n) ∷ ‵ Known ∷ []) ∵ suffices ! _ (upd_i 𝓤 (⟦ W n ⟧ ∗ ⟦ Outed n ⟧)) $ frame ! $
        drop ! $ use0 𝓛 (‵ (Outed n)) (qed 𝓛 [] ∵ each ! (λ (_ : n ≡ w). ⟦ Out ⟧) (λ e. absurd (miss e))) $ done !

    marks : (n : ℕ) → ⟦ W n ⟧ ∗ ⟦ Known ⟧ ⊢ upd 𝓤 (⟦ W (either (eqb n w) (4 * t + 3) n) ⟧ ∗ ⟦ Outed n ⟧)
    marks n = let F : Bool → Type 1 = λ y. ⟦ W n ⟧ ∗ ⟦ Known ⟧ ⊢ upd 𝓤 (⟦ W (either y (4 * t + 3) n) ⟧ ∗ ⟦ Outed n ⟧) in
        dite (ℕ_discrete n w)
        (λ hit. subst F (sym (eq-eqb n w hit)) (marks_hit n hit))
        (λ miss. subst F (sym (ne_eqb n w miss)) (marks_miss n miss))

  -- ---- a place is vacant, at the turn that it awaits
  module _ (t p : ℕ) where
    abbrev pub Kept : Fml
    Kept = claim_has R (value_in R d.at) δ p

    -- who has the word gives the place back
    releases : Awaits t p → (n : ℕ) → ⟦ W n ⟧ ∗ ⟦ Kept ⟧ ⊢ upd 𝓤 (⟦ W (4 * t) ⟧ ∗ ⟦ ftrue ⟧)
    releases awaits n = let u = gnum (4 * t) in
        let Goal : Pr = ⟦ W (4 * t) ⟧ ∗ ⟦ ftrue ⟧ in
        qed 𝓛 (‵ (W n) ∷ ‵ Kept ∷ []) ∵ fpick ! (λ s. fsplit3 ! $ move ! (3 ∷ []) $ fsplit ! $ move ! (2 ∷ []) $
        fpick ! (λ is. drop ! $ move ! (0 ∷ 2 ∷ []) $
        use2 𝓛 (given (gnum p ≡ gnum n) (‵ (fobs δ (gnum p)) ⊛ ‵ (fauth δ (gnum n))))
        (𝓛.names.name_agree δ (gnum p) (gnum n)) $ learn ! (λ same. split ! $ move ! (3 ∷ []) $
        rewrite ! 0 (λ (z : Fml). ‵ z) (holds_before R d s t p awaits (sym is ∙ sym (ap num same))) refl $
        move ! (1 ∷ 2 ∷ []) $
        use2 𝓛 (raw (upd 𝓤 (A.obs δ u ∗ A.auth δ u))) (𝓛.names.name_set_upd δ (gnum p) (gnum n) u) $
        settle 𝓛 Goal (‵ (fobs δ u) ⊛ ‵ (fauth δ u)) $ split ! $ suffices ! Goal (upd_i 𝓤 Goal) $
        -- [obs; auth; turns; the room]
        move ! (0 ∷ 2 ∷ 3 ∷ []) $ fjoin3 ! $ move ! (1 ∷ 0 ∷ []) $ fjoin ! $ nothing ! $
        fpack ! (4 * t ≡ 4 * t) (λ _. ftrue) refl $ fjoin ! $
        fpack ! TurnStage (at_turn R d (4 * t)) (vacant t) $ frame ! $ nothing ! $ done !)))

  -- ---- the word's end
  module _ (n : ℕ) where
    abbrev pub Left : ℕ → Pr
    Left k = guard 𝓤 ((t : ℕ) → n ≡ 4 * t → k ≡ 1) ⟦ claim_of R (value_in R d.at) δ n k ⟧

    left_at : (s : TurnStage) → n ≡ turn_word s → ⟦ turn_holds R d s ⟧ ⊢ ex 𝓤 Left
    left_at (vacant u) is = qed 𝓛 (‵ (turn_holds R d (vacant u)) ∷ []) ∵ fsplit3 ! $ keep ! (0 ∷ 2 ∷ []) $
        rewrite ! 0 (λ (m : ℕ). ‵ (fobs δ (gnum m))) (sym is) refl $ fjoin ! $ show ! Left 1 $
        types.Kit.check ! (λ t e. refl) $ done !
    left_at (claimed u) is = qed 𝓛 (‵ (turn_holds R d (claimed u)) ∷ []) ∵ drop ! $ nothing ! $ show ! Left 0 $
        types.Kit.check ! (λ t e. absurd (omega (arith, is, e))) $ done !
    left_at (shown u) is = qed 𝓛 (‵ (turn_holds R d (shown u)) ∷ []) ∵ drop ! $ nothing ! $ show ! Left 0 $
        types.Kit.check ! (λ t e. absurd (omega (arith, is, e))) $ done !
    left_at (removed u) is = qed 𝓛 (‵ (turn_holds R d (removed u)) ∷ []) ∵ drop ! $ nothing ! $ show ! Left 0 $
        types.Kit.check ! (λ t e. absurd (omega (arith, is, e))) $ done !

    -- at its end a place has the room for a value, if its word is that of a vacant one
    pub leaves : ⟦ W n ⟧ ⊢ ex 𝓤 Left
    leaves = qed 𝓛 (‵ (W n) ∷ []) ∵ fpick ! (λ s. fsplit3 ! $ fpick ! (λ is. drop ! $ drop ! $ by ! (left_at s is)))

  -- ---- under the invariant
  module _ (α : Lft) (q : Share) (b o : ℕ) where
    abbrev pub Memory : Fml
    Memory = turns_at R d b o

    -- one step under the invariant of the word
    pub stepped : (f : ℕ → ℕ) (after : ℕ → Fml) (K : Fml)
        → ((n : ℕ) → ⟦ W n ⟧ ∗ ⟦ K ⟧ ⊢ upd 𝓤 (⟦ W (f n) ⟧ ∗ ⟦ after n ⟧))
        → A.inv (fbor α Memory) ∗ (A.lft α q ∗ ⟦ K ⟧) ⊢ asks 𝓛 (block_ptr b (o + 0)) f always (λ n. fsep (flft α q)
        (after n))
    stepped f after K law = let at : ℕ = o + 0 in
        let G : Pr = ex 𝓤 (Lies 𝓛 α q Memory b at f always after) in borrowed 𝓛 α q Memory b at f always after ⟦ K ⟧ (
        qed 𝓛 (‵ Memory ∷ ‵ K ∷ []) ∵ suffices ! _ (upd_i 𝓤 G) $ fpick ! (λ n. fsplit ! $
        let Goal : Pr = ⟦ Memory ⟧ ∗ ⟦ after n ⟧ in
        show ! (Lies 𝓛 α q Memory b at f always after) n $ frame ! $
        each ! (λ (_ : Unit {0}). Again 𝓛 α q Memory b at f always after n) (λ _. assume ! (‵ (word b at (f n))) $
        move ! (1 ∷ 2 ∷ []) $ use2 𝓛 (raw (upd 𝓤 (⟦ W (f n) ⟧ ∗ ⟦ after n ⟧))) (law n) $
        settle 𝓛 Goal (‵ (W (f n)) ⊛ ‵ (after n)) $ split ! $ suffices ! _ (upd_i 𝓤 Goal) $
        move ! (2 ∷ 0 ∷ []) $ fjoin ! $ fpack ! ℕ (λ m. fsep (word b at m) (W m)) (f n) $ done !)))

    -- one exchange claims the place
    pub claims_it : (t : ℕ) → A.inv (fbor α Memory) ∗ (A.lft α q ∗ ⟦ ftrue ⟧) ⊢ asks 𝓛 (block_ptr b (o + 0)) (λ n.
        either
        (eqb n (4 * t)) (4 * t + 1) n) always (λ n. fsep (flft α q) (Claimed t n))
    claims_it t = stepped (λ n. either (eqb n (4 * t)) (4 * t + 1) n) (Claimed t) ftrue (claims t)

    -- one store shows the value
    pub shows_it : (t p : ℕ) (e : E) → Awaits t p
        → A.inv (fbor α Memory) ∗ (A.lft α q ∗ ⟦ Showing t p e ⟧) ⊢ asks 𝓛 (block_ptr b (o + 0))
        (λ _. 4 * t + 2) always (λ n. fsep (flft α q) (turn_is R d.log t e))
    shows_it t p e awaits = stepped (λ _. 4 * t + 2) (λ _. turn_is R d.log t e) (Showing t p e) (shows t p e awaits)

    -- one exchange marks the value
    pub marks_it : (t : ℕ) (e : E) → A.inv (fbor α Memory) ∗ (A.lft α q ∗ ⟦ turn_is R d.log t e ⟧) ⊢ asks 𝓛 (block_ptr b
        (o + 0)) (λ n. either (eqb n (4 * t + 2)) (4 * t + 3) n) always (λ n. fsep (flft α q) (Outed t e n))
    marks_it t e = stepped (λ n. either (eqb n (4 * t + 2)) (4 * t + 3) n) (Outed t e) (Known t e) (marks t e)

    -- one store makes the place vacant
    pub releases_it : (t p : ℕ) → Awaits t p
        → A.inv (fbor α Memory) ∗ (A.lft α q ∗ ⟦ Kept t p ⟧) ⊢ asks 𝓛 (block_ptr b (o + 0)) (λ _. 4 * t) always
        (λ n. fsep (flft α q) ftrue)
    releases_it t p awaits = stepped (λ _. 4 * t) (λ _. ftrue) (Kept t p) (releases t p awaits)

  -- ---- what an exchange gained
  abbrev pub Gains : ℕ → ℕ → ℕ → Type 0
  Gains old n k = (n ≡ old → k ≡ 1) × (n ≢ old → k ≡ 0)

  module _ (t n : ℕ) where
    abbrev pub Gain : ℕ → Pr
    Gain k = guard 𝓤 (Gains (4 * t) n k) ⟦ claim_of R (value_in R d.at) δ (4 * t + 1) k ⟧

    -- a claim has the place where the word was that of a vacant place at this turn, and else nothing
    pub gains : ⟦ Claimed t n ⟧ ⊢ ex 𝓤 Gain
    gains = dite (ℕ_discrete n (4 * t))
        (λ hit. qed 𝓛 (‵ (Claimed t n) ∷ []) ∵ use1 𝓛 (‵ (Gained t)) (all_e 𝓤 (λ (_ : n ≡ 4 * t). ⟦ Gained t ⟧) hit) $
        show ! Gain 1 $ types.Kit.check ! ((λ _. refl), (λ miss. absurd (miss hit))) $ done !)
        (λ miss. qed 𝓛 (‵ (Claimed t n) ∷ []) ∵ drop ! $ nothing ! $ show ! Gain 0 $
        types.Kit.check ! ((λ hit. absurd (miss hit)), (λ _. refl)) $ done !)

  module _ (t : ℕ) (e : E) (n : ℕ) where
    abbrev pub Take : ℕ × List Loan → Pr
    Take g = guard 𝓤 (Gains (4 * t + 2) n g.0 × Within d.posts g.1) ⟦ fsep (marked_owns R (value_in R d.at) e.0 e.1
        g.0 g.1 [])
        (vacancy_of R (value_in R d.at) δ (4 * t + 3) e g.0) ⟧

    -- a mark has the value with its loans where the word was that of its turn, and else nothing
    pub takes : ⟦ Outed t e n ⟧ ⊢ ex 𝓤 Take
    takes = dite (ℕ_discrete n (4 * t + 2))
        (λ hit. qed 𝓛 (‵ (Outed t e n) ∷ []) ∵ use1 𝓛 (‵ (Out t e)) (all_e 𝓤 (λ (_ : n ≡ 4 * t + 2). ⟦ Out t e ⟧) hit) $
        fsplit ! $ move ! (1 ∷ []) $ fpick ! (λ ls. fsplit ! $ fsplit3 ! $ move ! (2 ∷ []) $ fpick ! (λ within.
        -- [nothing; stock; shown; the value afterwards; obs]
        move ! (1 ∷ 2 ∷ 0 ∷ []) $ fjoin3 ! $ move ! (2 ∷ 1 ∷ []) $ fjoin ! $ move ! (1 ∷ 0 ∷ []) $ fjoin ! $
        show ! Take (1, ls) $ types.Kit.check ! (((λ _. refl), (λ miss. absurd (miss hit))), within) $ done !)))
        (λ miss. qed 𝓛 (‵ (Outed t e n) ∷ []) ∵ drop ! $ nothing ! $ nothing ! $ fjoin ! $ show ! Take (0, []) $
        types.Kit.check ! (((λ hit. absurd (miss hit)), (λ _. refl)), refl) $ done !)
