-- The claim goes into the struct.
use Rattle.std.proofs.Common.{◌≡◌, List, [], ◌∷◌, ◌++◌, refl}
use mir.Syntax.{dcons, dnil, a_type}
use mir.Val.{Val, vstruct, of_list}
use mir.MapTy.{inst_fn}
use base.Logic.{SProp, emp, guard_i}
use base.Fml.{Fml, fsep, feq}
use contract.Running.{tables}
use contract.Monad.{fact, fact_i, fact_use}
use types.Logic.{sem}
use types.Kit.{‵, raw, ◌⊛◌, given, ◌$◌, ◌∵◌, !, qed, by, move, keep, split, fsplit, fjoin, fpack, learn, use0, use1}
use types.Kit.{feq_i}
use types.Run.{of_opd, no_more, and_then, returns, enter}
use types.ByLocal.{alloc_all, pass_all, free_all, look_at, get, sets}
use types.Part.{agg}
use denote.Exit.{no}
use denote.RattleType.{RattleType, Valss, owns}
use denote.RawPtr.{Ptr, InBlock}
use denote.Signature.{types_at, plain, named_lft}
use denote.Steps.{nothing, heard}
use denote.Param.{param, bounded}
use denote.Triple.Entry.{alive}
use denote.Triple.Walked.{Stays, stay_dropped, walk_of, Goes-dropped}
use Rattle.atomic_table.proofs.Walks.{proved, leaves}
use Rattle.counted_slot.specs.Counting.{claim_owns}
use Rattle.counted_slot.specs.contracts.Claim as hand
use Rattle.counted_slot.proofs.Fields.{hand_of, typed, told, owns_placed}
use Rattle.epoch_cells.proofs.Values.{kept_of, kept_typed}
use Rattle.epoch_cells.specs.contracts.kept.Kept as kept
use Rattle.epoch_cells.specs.contracts.kept.Kept.new.{ended, clauses}
use Rattle.epoch_cells.specs.contracts.kept.Kept.new.Key.{name as #self}
use Rattle.epoch_cells.proofs.kept.Kept.new.Statement.{statement}
use Rattle.epoch_cells.proofs.kept.Kept.new.Code as code

pub new_spec : {M : Type 1} → statement M
new_spec 𝓤 𝓛 𝓜 𝓡 wired X Y _ _ g d _ =
    let H = 𝓛.H in
    let 𝓣 = tables 𝓤 H 𝓜 𝓡 𝓡.env in
    let R : RattleType = param 0 X in
    let G : RattleType = param 1 Y in
    let En = ended X Y g d in
    let c = clauses X Y g d 𝓛 𝓜.mem 𝓡.returns in
    let inst = bounded (a_type ∷ a_type ∷ []) (X, (Y, tt)) (dcons d dnil) in
    let fn = inst_fn inst code.function in
    let p0 = plain (λ κs. hand.the_row (named_lft 3 0 tt κs) R G g) in
    let hs : Stays En.signature.params En.kept = (stay_dropped p0 no, tt) in
    proved 𝓛 En hs c 𝓜 𝓡 (Goes-dropped 𝓛 3 p0 no (λ κs x f. refl), tt) (#self inst) fn
    (code.unfolded 𝓤 H 𝓜 𝓡 wired (X, (Y, tt)) d) (λ κs. ((λ h. hand_of h.slot ∷ []), tt))
    (λ κs. ((λ h vs so. told (named_lft 3 0 tt κs) R G g h.slot vs so.0), tt)) (λ κs qs bounds a gh are.
    let ℓ = named_lft 3 0 tt κs in
    let Cr : RattleType = hand.the_row ℓ R G g in
    let Kr : RattleType = kept.the_row ℓ R G g in
    let h : Cr.Denot = a.0 in
    let p : Ptr = h.slot in
    let Owned : Fml = claim_owns ℓ.lft R (g.fits h.tag) p h.right h.value in
    let u : Val = kept_of p in
    let y : (walk_of 𝓛 En hs c).Ghost = ((κs, qs, bounds, a, (hand_of p ∷ [], tt)), gh) in
    let Post : Val → SProp 𝓤 = (walk_of 𝓛 En hs c).post y in
    qed 𝓛 ((raw (alive 𝓛 En.signature κs qs) ⊛ ‵ (owns (types_at En.signature.params κs) a y.0.4)) ∷ raw (fact 𝓤 _) ∷
    raw (fact 𝓤 _) ∷ raw (fact 𝓤 (h.right ≡ 2)) ∷ []) ∵
    keep ! (3 ∷ 0 ∷ []) $ heard ! (h.right ≡ 2) (λ writes. split ! $ move ! (1 ∷ []) $ fsplit ! $ fsplit ! $
    -- [its bytes; the claim; nothing; the tokens]
    move ! (1 ∷ []) $ use1 𝓛 (given (InBlock p) (‵ Owned)) (fact_use 𝓤 _ (owns_placed 𝓛 ℓ.lft R (g.fits h.tag) p h.right
    h.value) (guard_i 𝓤 (InBlock p) (sem 𝓛 Owned))) $ learn ! (λ inb. move ! (1 ∷ 0 ∷ []) $ fjoin ! $ fjoin ! $
    -- [the claim; the tokens]
    let r : Kr.Denot = record { claim = h; writes = writes } in
    feq_i ! (List Val) (u ∷ []) (u ∷ []) refl $ fjoin ! $
    fpack ! (Valss (Cr ∷ [])) (λ vss. fsep (feq (List Val) (u ∷ []) (vstruct (of_list (vss.0 ++ [])) ∷ []))
    (owns (Cr ∷ []) (h, tt) vss)) (hand_of p ∷ [], tt) $ nothing ! $ move ! (1 ∷ 0 ∷ []) $ fjoin ! $
    enter ! 𝓣.C 𝓣.Λ fn (hand_of p ∷ []) Post $ alloc_all ! (λ l. pass_all ! refl (typed p inb, tt) $
    sets ! (of_opd ! (get ! refl)) refl (typed p inb) $
    sets ! (agg ! (and_then ! (get ! refl) (no_more !))) refl (kept_typed p inb) $
    use0 𝓛 (raw (fact 𝓤 (h ≡ h))) (fact_i 𝓤 (h ≡ h) (emp 𝓤) refl) $ nothing ! $ nothing ! $ fjoin ! $
    returns ! (look_at ! 0 refl) $ free_all ! refl $ keep ! (3 ∷ 0 ∷ 2 ∷ 1 ∷ []) $
    by ! (leaves 𝓛 En hs c y u r (tt, tt) (tt, tt))))))
