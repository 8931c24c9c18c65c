-- A `&` to a `Turns` is an invariant over the borrow of its word, with what the word says. Assumes `Logic`.
use Rattle.std.proofs.Common.{ℕ, List, [], ◌∷◌}
use seplogic.Ra.Ura.{Ura}
use mir.Val.{Val}
use base.Fraction.{full_share}
use base.Logic.{SProp, ent, sep, ex, id⊢, upd_i, snd∗}
use base.Fml.{Lft, Share, Fml, ftrue, fsep, fseps, fwand, fupd, fdead, fbor, flft, finv, Incl-refl}
use base.Before.{before}
use types.Logic.{Logic, sem}
use types.Kit.{‵, ◌⊛◌, some, later, ◌$◌, ◌∵◌, !, qed, by, move, keep, drop, split, split3, fsplit, fsplit3, fjoin}
use types.Kit.{fjoin3, fpick, fpack, pick, show, assume, suffices, frame, use0, use1, use2, updating, await, now, done}
use types.Tokens.{bor_open, obor_alter}
use types.Na.{before-Incl}
use denote.RattleType.{RattleType}
use denote.Memory.{part_of, part_at, cell_at}
use denote.RawPtr.{block_of, count_of}
use denote.Steps.{nothing}
use denote.Sharing as lent
use denote.SharingLaws.{some_shr_laws, beside_shr_laws, ends_shr_laws, always_shr_laws}
use denote.Param.Laws.{Laws}
use Rattle.core.proofs.cell.Borrows.{by_one}
use Rattle.epoch_lend.specs.Turning.{TurnNames, turns_here, turns_share, LiesThere, lies_there, memory_back}
use Rattle.epoch_lend.specs.contracts.cells.turns.Turns as C
use Rattle.epoch_lend.specs.contracts.cells.turns.Turns.TheInside as inside
use Rattle.epoch_lend.proofs.cells.turns.Turns.TheLaw.Statement.{statement}

-- that a place isn't null can be had twice
lies_dup : (R : RattleType) {M : Type 1} {𝓤 : Ura M} (𝓛 : Logic 𝓤) (d : TurnNames)
    → ent 𝓤 (sem 𝓛 (lies_there R d)) (sep 𝓤 (sem 𝓛 (lies_there R d)) (sem 𝓛 (lies_there R d)))
lies_dup R 𝓛 d = qed 𝓛 (‵ (lies_there R d) ∷ []) ∵ fpick ! (λ inb. fpack ! (LiesThere R d) (λ _. ftrue) inb $ frame ! $
    nothing ! $ fpack ! (LiesThere R d) (λ _. ftrue) inb $ done !)

module _ (R : RattleType) {M : Type 1} {𝓤 : Ura M} (𝓛 : Logic 𝓤) (d : TurnNames) (b o : ℕ) (κ : Lft) (q : Share)
  where
    open 𝓛 use {H, A}

    abbrev ⟦◌⟧ : Fml → SProp 𝓤
    ⟦ P ⟧ = sem 𝓛 P

    abbrev P : Fml
    P = part_at (C.the_written R) full_share d b o

    abbrev I : Fml
    I = turns_here R d

    abbrev Lies : Fml
    Lies = lies_there R d

    -- what is left of it without the word
    abbrev Keeps : List Val → Fml
    Keeps vs = fsep (fsep (cell_at full_share (C.the_written R).mir vs b o) ((inside.the_row R).own_val (record {
      marker = record {};
    }) vs)) (memory_back R (block_of d.at) (count_of d.at))

    out : ent 𝓤 ⟦ P ⟧ (ex 𝓤 (λ (vs : List Val). sep 𝓤 ⟦ Keeps vs ⟧ (sep 𝓤 ⟦ Lies ⟧ ⟦ I ⟧)))
    unfolding part_of
    out = qed 𝓛 (‵ P ∷ []) ∵ fpick ! (λ vs. fsplit ! $ move ! (1 ∷ []) $ fsplit ! $ move ! (1 ∷ []) $ fsplit3 ! $
        -- [that it lies there; the word; the way back; its bytes; the cell]
        move ! (4 ∷ 3 ∷ []) $ fjoin ! $ move ! (0 ∷ 3 ∷ []) $ fjoin ! $
        show ! (λ (us : List Val). sep 𝓤 ⟦ Keeps us ⟧ (sep 𝓤 ⟦ Lies ⟧ ⟦ I ⟧)) vs $ done !)

    back : (vs : List Val) → ent 𝓤 (sep 𝓤 ⟦ Keeps vs ⟧ (sep 𝓤 ⟦ Lies ⟧ ⟦ I ⟧)) ⟦ P ⟧
    unfolding part_of
    back vs = qed 𝓛 (‵ (Keeps vs) ∷ ‵ Lies ∷ ‵ I ∷ []) ∵ fsplit ! $ fsplit ! $
        -- [the cell; its bytes; the way back; that it lies there; the word]
        move ! (3 ∷ 4 ∷ 2 ∷ []) $ fjoin3 ! $ move ! (2 ∷ 0 ∷ []) $ fjoin ! $ move ! (1 ∷ 0 ∷ []) $ fjoin ! $
        fpack ! (List Val) (λ us. fsep (cell_at full_share (C.the_written R).mir us b o) ((C.the_written R).own_val d
        us)) vs $ done !

    way_back : (vs : List Val) → ent 𝓤 (sep 𝓤 ⟦ Keeps vs ⟧ ⟦ Lies ⟧) ⟦ fwand (fsep (fdead κ) (fseps (I ∷ []))) (fupd
        P) ⟧
    unfolding fseps
    way_back vs = qed 𝓛 (‵ (Keeps vs) ∷ ‵ Lies ∷ []) ∵ assume ! (‵ (fsep (fdead κ) (fseps (I ∷ [])))) $
        suffices ! ⟦ P ⟧ (upd_i 𝓤 ⟦ P ⟧) $ fsplit3 ! $ drop ! $ keep ! (2 ∷ 3 ∷ 0 ∷ []) $ by ! (back vs)

    shared : ent 𝓤 (sep 𝓤 (A.bor κ P) (A.lft κ q)) (H.⇛ (sep 𝓤 ⟦ turns_share R d κ ⟧ (A.lft κ q)))
    unfolding fseps
    shared = qed 𝓛 (‵ (fbor κ P) ∷ ‵ (flft κ q) ∷ []) ∵ updating ! $ bor_open ! tt $ move ! (1 ∷ []) $
        use1 𝓛 (some (λ (vs : List Val). ‵ (Keeps vs) ⊛ ‵ Lies ⊛ ‵ I)) out $ pick ! (λ vs. split3 ! $ move ! (1 ∷ []) $
        use1 𝓛 (‵ Lies ⊛ ‵ Lies) (lies_dup R 𝓛 d) $ split ! $ move ! (2 ∷ 0 ∷ []) $
        -- [what is left; that it lies there, twice; the word; the open borrow]
        use2 𝓛 (‵ (fwand (fsep (fdead κ) (fseps (I ∷ []))) (fupd P))) (way_back vs) $ move ! (2 ∷ []) $ nothing ! $
        move ! (1 ∷ 0 ∷ []) $ fjoin ! $ move ! (3 ∷ 0 ∷ 1 ∷ []) $
        obor_alter ! tt (I ∷ []) $
        use1 𝓛 (‵ (fbor κ I) ⊛ ‵ ftrue) (id⊢ 𝓤 _) $ split ! $
        use1 𝓛 (later (‵ (finv (fbor κ I)))) (𝓛.invs.inv_new (fbor κ I)) $ await ! tt $
        use0 𝓛 (‵ (before κ κ)) (before-Incl 𝓛 κ κ (Incl-refl κ)) $ fjoin ! $
        fpack ! Lft (λ s. fsep (before κ s) (finv (fbor s I))) κ $ move ! (3 ∷ 0 ∷ []) $ fjoin ! $ now ! $
        keep ! (0 ∷ 2 ∷ []) $ done !)

pub shares : (T : RattleType) (L : Laws T) → statement T L
shares T L = record {
  shr_laws = λ d b o. let I : Fml = turns_here T d in beside_shr_laws (lent.said (lies_there T d)) (lent.some Lft (λ α.
      lent.beside (lent.ends α) (lent.always (fbor α I)))) (record {
        contraction = λ M 𝓤 𝓛 κ. lies_dup T 𝓛 d;
        mono = λ M 𝓤 𝓛 κ' κ. snd∗ 𝓤 (sem 𝓛 (before κ' κ)) (sem 𝓛 (lies_there T d));
      }) (some_shr_laws Lft (λ α. lent.beside (lent.ends α) (lent.always (fbor α I))) (λ α. beside_shr_laws (lent.ends
      α) (lent.always (fbor α I)) (ends_shr_laws α) (always_shr_laws (fbor α I))));
  shares = λ M 𝓤 𝓛 d κ ts b o inc sp. by_one 𝓛 κ ts sp (𝓛.A.bor κ (part_at (C.the_written T) full_share d b o)) (sem
      𝓛 (turns_share T d κ)) (shared T 𝓛 d b o κ);
}
