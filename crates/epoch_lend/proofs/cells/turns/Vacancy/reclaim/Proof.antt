-- `reclaim` ends the value's lifetime by all of its parts.
use Rattle.std.proofs.Common.{◌≡◌, ℕ, ◌^◌, [], ◌∷◌, refl}
use mir.Syntax.{a_type}
use mir.Val.{Val}
use mir.MapTy.{inst_fn}
use base.Fraction.{full_share}
use base.Logic.{SProp, emp}
use base.Fml.{Fml}
use types.Kit.{‵, raw, ◌⊛◌, later, ◌$◌, ◌∵◌, !, qed, by, move, keep, split}
use types.Kit.{fsplit, fjoin, use0, use2, await, rewrite}
use types.Run.{stop, fld, of_opd, no_more, and_then, returns, enter}
use types.ByLocal.{alloc_all, pass_all, free_all, look_at, get, get_in, sets}
use types.Part.{agg, sub, whole}
use contract.Running.{tables}
use contract.Monad.{fact, fact_i}
use denote.Exit.{no}
use denote.RattleType.{RattleType, owns}
use denote.Signature.{types_at, plain}
use denote.RawPtr.{Ptr, lies_at}
use denote.Steps.{nothing, heard}
use denote.Param.{param, layouts}
use denote.Param.Laws.{param_laws}
use denote.Struct.Lending.{lent_at, lent_at_shr_laws}
use denote.Triple.Entry.{alive}
use denote.Triple.Walked.{Stays, stay_dropped, walk_of, Goes-dropped}
use Rattle.atomic_table.proofs.Walks.{proved, leaves}
use Rattle.epoch_lend.proofs.Fields.{ptr_typed}
use Rattle.epoch_lend.proofs.Fields.{word, word_typed}
use Rattle.epoch_lend.proofs.PartSteps.{freezes, Frozen, tokens_whole}
use Rattle.epoch_lend.specs.contracts.part.Part as part_is
use Rattle.epoch_lend.proofs.PartFields as part_fields
use Rattle.epoch_lend.specs.Parted.{tokens}
use Rattle.epoch_lend.specs.Turning.{vacancy_of}
use Rattle.epoch_lend.specs.contracts.cells.turns.Turns as turns_is
use Rattle.epoch_lend.specs.contracts.cells.turns.Filled as filled_is
use Rattle.epoch_lend.specs.contracts.cells.turns.Vacancy as vacancy_is
use Rattle.epoch_lend.specs.contracts.cells.turns.TurnName as name_is
use Rattle.epoch_lend.proofs.TurnFields as fields
use Rattle.epoch_lend.specs.contracts.cells.turns.Vacancy.reclaim.{ended, clauses}
use Rattle.epoch_lend.specs.contracts.cells.turns.Vacancy.reclaim.Key.{name as #self}
use Rattle.epoch_lend.proofs.cells.turns.Vacancy.reclaim.Statement.{statement}
use Rattle.epoch_lend.proofs.cells.turns.Vacancy.reclaim.Code as code

pub reclaim_spec : {M : Type 1} → statement M
reclaim_spec 𝓤 𝓛 𝓜 𝓡 wired X L =
    let H = 𝓛.H in
    let 𝓣 = tables 𝓤 H 𝓜 𝓡 𝓡.env in
    let R : RattleType = param 0 X in
    let En = ended X in
    let c = clauses X 𝓛 𝓜.mem 𝓡.returns in
    let inst = layouts (a_type ∷ []) (X, tt) in
    let fn = inst_fn inst code.function in
    let closed = code.unfolded 𝓤 H 𝓜 𝓡 wired (X, tt) in
    let Row : RattleType = turns_is.the_row R in
    let Fr : RattleType = filled_is.the_row R in
    let Nr : RattleType = name_is.the_row R in
    let LR = param_laws 0 X L in
    let p0 = plain (λ _. vacancy_is.the_row R) in
    let p1 = plain (λ _. part_is.the_row R) in
    let hs : Stays En.signature.params En.kept = (stay_dropped p0 no, (stay_dropped p1 no, tt)) in
    proved 𝓛 En hs c 𝓜 𝓡 (Goes-dropped 𝓛 1 p0 no (λ κs x f. refl), (Goes-dropped 𝓛 1 p1 no (λ κs x f. refl), tt))
    (#self inst) fn closed
    (λ κs. ((λ x. word x.at ∷ []), ((λ x. part_fields.word x.ptr ∷ []), tt)))
    (λ κs. ((λ x vs so. fields.vacancy_told R x.at vs so.0), ((λ x vs so. part_fields.told R x.ptr vs so.0), tt))) (λ
    κs qs bounds a gh are.
    let Vr : RattleType = vacancy_is.the_row R in
    let Pr : RattleType = part_is.the_row R in
    let u : Vr.Denot = a.0 in
    let all : Pr.Denot = a.1.0 in
    let p : Ptr = u.at in
    let n : ℕ = u.lifetime in
    let whole_value : Fml = lies_at R full_share p u.value in
    let Asked : Type 0 = (u.right ≡ 1) × (all.lifetime ≡ n) × (all.count ≡ 2 ^ 63) in
    let h : Fr.Denot = record { at = p; state = u.state; word = u.word; value = u.value } in
    let Told : Type 0 = (u.value ≡ u.value) × (u.state ≡ u.state) × (u.word ≡ u.word) × (p ≡ p) in
    let y : (walk_of 𝓛 En hs c).Ghost = ((κs, qs, bounds, a, (word p ∷ [], (part_fields.word all.ptr ∷ [], tt))), gh) in
    let Post : Val → SProp 𝓤 = (walk_of 𝓛 En hs c).post y in
    qed 𝓛 ((raw (alive 𝓛 En.signature κs qs) ⊛ ‵ (owns (types_at En.signature.params κs) a y.0.4)) ∷ raw (fact 𝓤 _) ∷
    raw (fact 𝓤 Asked) ∷ []) ∵
    keep ! (2 ∷ 0 ∷ []) $ heard ! Asked (λ asked. split ! $ move ! (1 ∷ []) $ fsplit ! $ fsplit ! $
    keep ! (2 ∷ 1 ∷ 3 ∷ []) $ fsplit ! $ fsplit ! $ keep ! (1 ∷ 3 ∷ 4 ∷ []) $ fsplit ! $ keep ! (0 ∷ 2 ∷ 3 ∷ []) $
    -- [the parts' tokens; the vacancy; the tokens]
    rewrite ! 0 (λ (z : ℕ × ℕ). ‵ (tokens z.0 z.1)) (λ i. (asked.1 i, asked.2 i)) refl $ move ! (1 ∷ []) $
    rewrite ! 0 (λ (k : ℕ). ‵ (vacancy_of R p u.state u.word (u.value, n) k)) asked.0 refl $ fsplit ! $ move ! (1 ∷ 2
    ∷ []) $
    enter ! 𝓣.C 𝓣.Λ fn (word p ∷ part_fields.word all.ptr ∷ []) Post $
    alloc_all ! (λ l. pass_all ! refl (word_typed p, (word_typed all.ptr, tt)) $
    use2 𝓛 (later (‵ whole_value)) (Rattle.epoch_lend.proofs.PartSteps.thaws (lent_at R p u.value) (lent_at_shr_laws R
    LR.shr_laws p u.value) 𝓛 whole_value n) $ await ! tt $ move ! (1 ∷ 0 ∷ []) $ fjoin ! $
    sets ! (of_opd ! (get_in ! (fld ! refl (stop !)) (sub ! 0 refl (whole !)))) refl (ptr_typed p) $
    sets ! (agg ! (and_then ! (get ! refl) (no_more !))) refl (word_typed p) $
    use0 𝓛 (‵ ((fields.Filled R).own_val (p, tt) (word p ∷ []))) (fields.filled_made R 𝓛 p) $ fjoin ! $
    use0 𝓛 (raw (fact 𝓤 Told)) (fact_i 𝓤 Told (emp 𝓤) (refl, refl, refl, refl)) $ nothing ! $ nothing ! $ fjoin
    ! $ nothing ! $ fjoin ! $
    returns ! (look_at ! 0 refl) $ free_all ! refl $ keep ! (3 ∷ 0 ∷ 2 ∷ 1 ∷ []) $
    by ! (leaves 𝓛 En hs c y (word p) h (tt, (tt, tt)) (tt, (tt, tt))))))
