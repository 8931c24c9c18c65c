-- `get` shows the value for as long as the guard is lent.
use Rattle.std.proofs.Common.{◌≡◌, ℕ, List, [], ◌∷◌, sym, refl, ap}
use Rattle.std.specs.Prelude.{Option, Some}
use mir.Syntax.{a_type}
use mir.Val.{Val, vptr}
use mir.MapTy.{inst_fn}
use base.Logic.{SProp, emp}
use base.Fml.{Lft, fex}
use types.Kit.{‵, raw, ◌⊛◌, at_ret, ◌$◌, ◌∵◌, !, qed, by, move, keep, split, fsplit, fjoin, fpick, use0, use1}
use types.Kit.{rewrite, feq_i}
use types.Run.{stop, fld, addr, of_opd, first, blocks, exec, returns, enter}
use types.ByLocal.{alloc_all, pass_all, free_all, look_at, get, through, sets, env}
use contract.Running.{tables}
use contract.Monad.{fact, fact_i}
use denote.Exit.{no}
use denote.RattleType.{RattleType, owns}
use denote.Signature.{types_at, plain, named_lft}
use denote.RawPtr.{Ptr, InBlock, block_ptr, ptr_val}
use denote.Steps.{nothing, heard}
use denote.Param.{param, layouts}
use denote.Triple.Entry.{alive}
use denote.Triple.Walked.{Stays, stay_dropped, walk_of, Goes-dropped}
use Rattle.core.proofs.atomic.Steps.{tail}
use Rattle.atomic_table.proofs.Walks.{proved, leaves}
use Rattle.epoch_lend.specs.Loans.{glance_owns}
use Rattle.epoch_lend.specs.contracts.lending.Glance as glance
use Rattle.epoch_lend.proofs.Fields.{hand_of, hand_typed}
use types.ByLocal.{get_in, sets_last, is}
use types.Part.{sub, whole}
use denote.RawPtr.{block_of, count_of, at_block}
use denote.Opens.{hide}
use denote.Struct.Lending.{in_block_says}
use Rattle.epoch_lend.proofs.Fields.{hand_told}
use Rattle.epoch_lend.proofs.Reading as reading
use Rattle.epoch_lend.specs.contracts.lending.Glance.get.{ended, clauses}
use Rattle.epoch_lend.specs.contracts.lending.Glance.get.Key.{name as #self}
use Rattle.epoch_lend.proofs.lending.Glance.get.Statement.{statement}
use Rattle.epoch_lend.proofs.lending.Glance.get.Code as code

pub get_spec : {M : Type 1} → statement M
get_spec 𝓤 𝓛 𝓜 𝓡 wired X L =
    let H = 𝓛.H in
    let 𝓣 = tables 𝓤 H 𝓜 𝓡 𝓡.env in
    let R : RattleType = param 0 X in
    let En = ended X in
    let c = clauses X 𝓛 𝓜.mem 𝓡.returns in
    let inst = layouts (a_type ∷ []) (X, tt) in
    let fn = inst_fn inst code.function in
    let closed = code.unfolded 𝓤 H 𝓜 𝓡 wired (X, tt) in
    let self = plain (λ κs. glance.the_row (named_lft 2 0 tt κs) R) in
    let hs : Stays En.signature.params En.kept = (stay_dropped self no, tt) in
    proved 𝓛 En hs c 𝓜 𝓡 (Goes-dropped 𝓛 2 self no (λ κs x f. refl), tt) (#self inst) fn closed
    (λ κs. ((λ x. hand_of x.at ∷ []), tt)) (λ κs. (
      (λ x vs so. hand_told (named_lft 2 0 tt κs) R x.at vs so.0),
      tt,
    )) (λ κs qs bounds a gh are.
    let Hr : RattleType = glance.the_row (named_lft 2 0 tt κs) R in
    let h : Hr.Denot = a.0 in
    let p : Ptr = h.at in
    let v : Option X.Denot = h.value in
    let κ : Lft = κs.0 in
    let there : Val = vptr (block_of p) (count_of p) in
    let y : (walk_of 𝓛 En hs c).Ghost = ((κs, qs, bounds, a, (hand_of p ∷ [], tt)), gh) in
    let Post : Val → SProp 𝓤 = (walk_of 𝓛 En hs c).post y in
    qed 𝓛 ((raw (alive 𝓛 En.signature κs qs) ⊛ ‵ (owns (types_at En.signature.params κs) a y.0.4)) ∷ raw (fact 𝓤 _) ∷
    raw (fact 𝓤 (h.right ≡ 1)) ∷ []) ∵
    keep ! (2 ∷ 0 ∷ []) $ heard ! (h.right ≡ 1) (λ asked. split ! $ move ! (1 ∷ []) $ fsplit ! $ fsplit ! $
    keep ! (1 ∷ 3 ∷ []) $
    rewrite ! 0 (λ (k : ℕ). ‵ (glance_owns κ R p v k)) asked refl $
    use1 𝓛 (‵ (fex R.Denot (reading.Sees κ R p v))) (reading.sees_one 𝓛 κ R p v) $ fpick ! (λ x. fpick ! (λ found.
    fsplit ! $
    use1 𝓛 (raw (fact 𝓤 (InBlock p))) (in_block_says 𝓛 p) $ heard ! (InBlock p) (λ inb. hide ! $
    let at : p ≡ block_ptr (block_of p) (count_of p) = at_block p inb in
    enter ! 𝓣.C 𝓣.Λ fn (hand_of p ∷ []) Post $ alloc_all ! (λ l. pass_all ! refl (hand_typed p, tt) $
    let Ev = env fn.locals l in
    sets ! (is ! (of_opd ! (get_in ! (fld ! refl (stop !)) (sub ! 0 refl (whole !)))) (ap ptr_val at)) refl (tt, tt) $
    first ! $ blocks ! $ sets_last ! (addr ! (through ! refl (stop !))) refl (tt, tt) $
    exec ! 𝓣.C 𝓣.Λ Ev (tail (tail fn.body)) (at_ret Ev Post) $ sets ! (of_opd ! (get ! refl)) refl (tt, tt) $
    feq_i ! (List Val) (there ∷ []) (there ∷ []) refl $ fjoin ! $
    use0 𝓛 (raw (fact 𝓤 (Some x ≡ v))) (fact_i 𝓤 (Some x ≡ v) (emp 𝓤) (sym found)) $ nothing ! $ nothing ! $ fjoin ! $
    returns ! (look_at ! 0 refl) $ free_all ! refl $ keep ! (3 ∷ 0 ∷ 2 ∷ 1 ∷ []) $
    by ! (leaves 𝓛 En hs c y there (record { ref_ptr = (block_of p, count_of p); now = x }) (tt, tt) (tt, tt))))))))
