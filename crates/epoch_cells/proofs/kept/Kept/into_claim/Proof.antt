-- The claim comes out of the struct.
use Rattle.std.proofs.Common.{◌≡◌, List, [], ◌∷◌, refl}
use mir.Syntax.{dcons, dnil, a_type}
use mir.Val.{Val}
use mir.MapTy.{inst_fn}
use base.Logic.{SProp, emp, guard_i}
use base.Fml.{Fml}
use contract.Running.{tables}
use contract.Monad.{fact, fact_i, fact_use}
use types.Logic.{sem}
use types.Kit.{‵, raw, ◌⊛◌, given, ◌$◌, ◌∵◌, !, qed, by, move, keep, drop, split, fsplit, fsplit3, fjoin, fpick}
use types.Kit.{learn, rewrite, use0, use1}
use types.Run.{stop, fld, of_opd, returns, enter}
use types.ByLocal.{alloc_all, pass_all, free_all, look_at, get, get_in, sets}
use types.Part.{sub, whole}
use denote.Exit.{no}
use denote.Laws.{Is, shows}
use denote.RattleType.{RattleType, owns}
use denote.RawPtr.{Ptr, InBlock}
use denote.Signature.{types_at, plain, named_lft}
use denote.Steps.{nothing, peeks}
use denote.Param.{param, bounded}
use denote.Triple.Entry.{alive}
use denote.Triple.Walked.{Stays, stay_dropped, walk_of}
use Rattle.core.proofs.alloc.Calls.{Goes-blank}
use Rattle.atomic_table.proofs.Walks.{proved, leaves}
use Rattle.counted_slot.specs.Counting.{claim_owns}
use Rattle.counted_slot.specs.contracts.Claim as hand
use Rattle.counted_slot.proofs.Fields.{hand_of, typed, told, owns_placed}
use Rattle.epoch_cells.proofs.Values.{kept_of, kept_typed, kept_told}
use Rattle.epoch_cells.specs.contracts.kept.Kept as kept
use Rattle.epoch_cells.specs.contracts.kept.Kept.into_claim.{ended, clauses}
use Rattle.epoch_cells.specs.contracts.kept.Kept.into_claim.Key.{name as #self}
use Rattle.epoch_cells.proofs.kept.Kept.into_claim.Statement.{statement}
use Rattle.epoch_cells.proofs.kept.Kept.into_claim.Code as code

pub into_claim_spec : {M : Type 1} → statement M
into_claim_spec 𝓤 𝓛 𝓜 𝓡 wired X Y _ _ g d _ =
    let H = 𝓛.H in
    let 𝓣 = tables 𝓤 H 𝓜 𝓡 𝓡.env in
    let R : RattleType = param 0 X in
    let G : RattleType = param 1 Y in
    let En = ended X Y g d in
    let c = clauses X Y g d 𝓛 𝓜.mem 𝓡.returns in
    let inst = bounded (a_type ∷ a_type ∷ []) (X, (Y, tt)) (dcons d dnil) in
    let fn = inst_fn inst code.function in
    let p0 = plain (λ κs. kept.the_row (named_lft 3 0 tt κs) R G g) in
    let hs : Stays En.signature.params En.kept = (stay_dropped p0 no, tt) in
    proved 𝓛 En hs c 𝓜 𝓡 (Goes-blank 𝓛 3 p0 no (λ κs x f. tt), tt) (#self inst) fn
    (code.unfolded 𝓤 H 𝓜 𝓡 wired (X, (Y, tt)) d) (λ κs. ((λ k. kept_of k.claim.slot ∷ []), tt))
    (λ κs. ((λ k vs so. kept_told (named_lft 3 0 tt κs) R G g k vs so), tt)) (λ κs qs bounds a gh are.
    let ℓ = named_lft 3 0 tt κs in
    let Cr : RattleType = hand.the_row ℓ R G g in
    let h : Cr.Denot = a.0.claim in
    let p : Ptr = h.slot in
    let Owned : Fml = claim_owns ℓ.lft R (g.fits h.tag) p h.right h.value in
    let y : (walk_of 𝓛 En hs c).Ghost = ((κs, qs, bounds, a, (kept_of p ∷ [], tt)), gh) in
    let Post : Val → SProp 𝓤 = (walk_of 𝓛 En hs c).post y in
    let Told : Type 0 = (h ≡ h) × (h.right ≡ 2) in
    qed 𝓛 ((raw (alive 𝓛 En.signature κs qs) ⊛ ‵ (owns (types_at En.signature.params κs) a y.0.4)) ∷
    raw ((c κs a).requires gh) ∷ []) ∵
    split ! $ move ! (1 ∷ []) $ fsplit ! $ fsplit ! $ fpick ! (λ vss. fsplit3 ! $ drop ! $
    peeks ! Cr (Is Cr) (shows 𝓛 Cr) h vss.0 (λ so.
    rewrite ! 0 (λ (ws : List Val). ‵ (Cr.own_val h ws)) (told ℓ R G g p vss.0 so.0) refl $ keep ! (0 ∷ 4 ∷ []) $
    fsplit ! $
    -- [its bytes; the claim; the tokens]
    move ! (1 ∷ []) $ use1 𝓛 (given (InBlock p) (‵ Owned)) (fact_use 𝓤 _ (owns_placed 𝓛 ℓ.lft R (g.fits h.tag) p h.right
    h.value) (guard_i 𝓤 (InBlock p) (sem 𝓛 Owned))) $ learn ! (λ inb. move ! (1 ∷ 0 ∷ []) $ fjoin ! $
    -- [the claim; the tokens]
    enter ! 𝓣.C 𝓣.Λ fn (kept_of p ∷ []) Post $ alloc_all ! (λ l. pass_all ! refl (kept_typed p inb, tt) $
    sets ! (of_opd ! (get_in ! (fld ! refl (stop !)) (sub ! 0 refl (whole !)))) refl (typed p inb) $
    sets ! (of_opd ! (get ! refl)) refl (typed p inb) $
    use0 𝓛 (raw (fact 𝓤 Told)) (fact_i 𝓤 Told (emp 𝓤) (refl, a.0.writes)) $ nothing ! $ nothing ! $ fjoin ! $
    returns ! (look_at ! 0 refl) $ free_all ! refl $ keep ! (3 ∷ 0 ∷ 2 ∷ 1 ∷ []) $
    by ! (leaves 𝓛 En hs c y (hand_of p) h ((tt, tt), tt) (tt, tt)))))))
