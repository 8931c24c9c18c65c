-- `name` passes on which value was found.
use Rattle.std.proofs.Common.{◌≡◌, ℕ, [], ◌∷◌, sym, refl}
use Rattle.std.specs.Prelude.{Some}
use mir.Syntax.{a_type}
use mir.Val.{Val}
use mir.MapTy.{inst_fn}
use base.Logic.{SProp, emp}
use base.Fml.{fex}
use types.Kit.{‵, raw, ◌⊛◌, ◌$◌, ◌∵◌, !, qed, by, move, keep, split, fsplit, fjoin, fpick, use0, use1, rewrite}
use types.Run.{stop, fld, of_opd, no_more, and_then, returns, enter}
use types.ByLocal.{alloc_all, pass_all, free_all, look_at, get, get_in, sets}
use types.Part.{agg, sub, whole}
use contract.Running.{tables}
use contract.Monad.{fact, fact_i}
use denote.Exit.{no}
use denote.RattleType.{RattleType, owns}
use denote.Signature.{types_at, plain}
use denote.Steps.{nothing, heard}
use denote.Param.{param, layouts}
use denote.Triple.Entry.{alive}
use denote.Triple.Walked.{Stays, stay_dropped, walk_of, Goes-dropped}
use Rattle.atomic_table.proofs.Walks.{proved, leaves}
use Rattle.epoch_lend.specs.Turning.{found_of}
use Rattle.epoch_lend.specs.contracts.cells.turns.Found as found_is
use Rattle.epoch_lend.specs.contracts.cells.turns.TurnName as name_is
use Rattle.epoch_lend.proofs.TurnFields as fields
use Rattle.epoch_lend.proofs.Finding as finding
use Rattle.epoch_lend.specs.contracts.cells.turns.Found.name.{ended, clauses}
use Rattle.epoch_lend.specs.contracts.cells.turns.Found.name.Key.{name as #self}
use Rattle.epoch_lend.proofs.cells.turns.Found.name.Statement.{statement}
use Rattle.epoch_lend.proofs.cells.turns.Found.name.Code as code

pub name_spec : {M : Type 1} → statement M
name_spec 𝓤 𝓛 𝓜 𝓡 wired X L =
    let H = 𝓛.H in
    let 𝓣 = tables 𝓤 H 𝓜 𝓡 𝓡.env in
    let R : RattleType = param 0 X in
    let En = ended X in
    let c = clauses X 𝓛 𝓜.mem 𝓡.returns in
    let inst = layouts (a_type ∷ []) (X, tt) in
    let fn = inst_fn inst code.function in
    let closed = code.unfolded 𝓤 H 𝓜 𝓡 wired (X, tt) in
    let Nr : RattleType = name_is.the_row R in
    let Fr : RattleType = found_is.the_row R in
    let p0 = plain (λ _. found_is.the_row R) in
    let hs : Stays En.signature.params En.kept = (stay_dropped p0 no, tt) in
    proved 𝓛 En hs c 𝓜 𝓡 (Goes-dropped 𝓛 1 p0 no (λ κs x f. refl), tt)
    (#self inst) fn closed
    (λ κs. ((λ x. fields.name_val x.turn ∷ []), tt))
    (λ κs. ((λ x vs so. fields.found_told R x.turn vs so.0), tt)) (λ κs qs bounds a gh are.
    let h : Fr.Denot = a.0 in
    let t : ℕ = h.turn in
    let n : ℕ = h.lifetime in
    let fits = are.0.0.1.1.0.1 in
    let Asked : Type 0 = h.right ≡ 1 in
    let y : (walk_of 𝓛 En hs c).Ghost = ((κs, qs, bounds, a, (fields.name_val t ∷ [], tt)), gh) in
    let Post : Val → SProp 𝓤 = (walk_of 𝓛 En hs c).post y in
    qed 𝓛 ((raw (alive 𝓛 En.signature κs qs) ⊛ ‵ (owns (types_at En.signature.params κs) a y.0.4)) ∷ raw (fact 𝓤 _) ∷
    raw (fact 𝓤 Asked) ∷ []) ∵
    keep ! (2 ∷ 0 ∷ []) $ heard ! Asked (λ asked. split ! $ move ! (1 ∷ []) $ fsplit ! $ fsplit ! $
    keep ! (1 ∷ 3 ∷ []) $
    rewrite ! 0 (λ (k : ℕ). ‵ (found_of R h.log t n h.value k)) asked refl $
    use1 𝓛 (‵ (fex R.Denot (finding.Named 𝓛 R h.log t n h.value))) (finding.found_names 𝓛 R h.log t n h.value) $
    fpick ! (λ x. fpick ! (λ is.
    -- [the value of the turn; the tokens]
    let r : Nr.Denot = record { turn = t; marker = record {}; log = h.log; value = x; lifetime = n } in
    let Told : Type 0 = (t ≡ t) × (h.log ≡ h.log) × (Some x ≡ h.value) × (n ≡ n) in
    enter ! 𝓣.C 𝓣.Λ fn (fields.name_val t ∷ []) Post $
    alloc_all ! (λ l. pass_all ! refl (fields.name_typed t fits, tt) $
    sets ! (of_opd ! (get_in ! (fld ! refl (stop !)) (sub ! 0 refl (whole !)))) refl (tt, record { fits = fits }) $
    sets ! (agg ! (no_more !)) refl (tt, tt) $
    sets ! (agg ! (and_then ! (get ! refl) (and_then ! (get ! refl) (no_more !)))) refl (fields.name_typed t fits) $
    use0 𝓛 (‵ ((fields.Name R).own_val (t, (record {}, tt)) (fields.name_val t ∷ []))) (fields.name_made R 𝓛 t fits) $
    fjoin ! $
    use0 𝓛 (raw (fact 𝓤 Told)) (fact_i 𝓤 Told (emp 𝓤) (refl, refl, sym is, refl)) $ nothing ! $ nothing ! $ fjoin ! $
    returns ! (look_at ! 0 refl) $ free_all ! refl $ keep ! (3 ∷ 0 ∷ 2 ∷ 1 ∷ []) $
    by ! (leaves 𝓛 En hs c y (fields.name_val t) r (tt, tt) (tt, tt)))))))
