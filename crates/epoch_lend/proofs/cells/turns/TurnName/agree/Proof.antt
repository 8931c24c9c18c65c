-- `agree` reads nothing: both names show the value of one turn.
use Rattle.std.proofs.Common.{◌≡◌, ℕ, List, [], ◌∷◌, refl, ap}
use mir.Syntax.{a_type, named}
use mir.Val.{Val, vptr, vunit}
use mir.MapTy.{inst_fn}
use base.Logic.{SProp, emp}
use base.Fml.{Lft, Fml, ftrue, fsep, flft, fhide}
use types.Kit.{‵, raw, ◌⊛◌, given, ◌$◌, ◌∵◌, !, qed, by, move, keep, drop, split, fsplit, fjoin, learn}
use types.Kit.{use0, use1, use2, rewrite, feq_i}
use types.Run.{unit_lit, of_opd, returns, enter}
use types.ByLocal.{alloc_all, pass_all, free_all, look_at, sets}
use contract.Running.{tables}
use contract.Monad.{fact, fact_i}
use denote.Exit.{yes}
use denote.RattleType.{RattleType, owns}
use denote.Signature.{types_at, plain}
use denote.Steps.{nothing, heard}
use denote.Opens.{unhide}
use denote.Memory.{hidden_shr}
use denote.Param.{param, layouts}
use denote.Builtin.{RefOf}
use denote.Ref.{shr_vals, shr_Tells}
use denote.Struct.Lending.{lent_out}
use denote.Triple.Walked.{Stays, stay_dropped, walk_of, Goes-dropped}
use Rattle.core.specs.contracts.marker.PhantomData as marker
use Rattle.atomic_table.proofs.Walks.{proved, leaves}
use Rattle.epoch_lend.specs.Turning.{TurnOf, turn_is, turn_shares}
use Rattle.epoch_lend.specs.contracts.cells.turns.TurnName as name_is
use Rattle.epoch_lend.proofs.TurnFields as fields
use Rattle.epoch_lend.proofs.Finding as finding
use Rattle.epoch_lend.specs.contracts.cells.turns.TurnName.agree.{ended, clauses}
use Rattle.epoch_lend.specs.contracts.cells.turns.TurnName.agree.Key.{name as #self}
use Rattle.epoch_lend.proofs.cells.turns.TurnName.agree.Statement.{statement}
use Rattle.epoch_lend.proofs.cells.turns.TurnName.agree.Code as code

pub agree_spec : {M : Type 1} → statement M
agree_spec 𝓤 𝓛 𝓜 𝓡 wired X L =
    let H = 𝓛.H in
    let 𝓣 = tables 𝓤 H 𝓜 𝓡 𝓡.env in
    let R : RattleType = param 0 X in
    let En = ended X in
    let c = clauses X 𝓛 𝓜.mem 𝓡.returns in
    let inst = layouts (a_type ∷ []) (X, tt) in
    let fn = inst_fn inst code.function in
    let closed = code.unfolded 𝓤 H 𝓜 𝓡 wired (X, tt) in
    let Nr : RattleType = name_is.the_row R in
    let p0 = RefOf (0 ∷ []) tt (plain (λ _. Nr)) (λ _. tt) in
    let p1 = RefOf (1 ∷ []) tt (plain (λ _. Nr)) (λ _. tt) in
    let hs : Stays En.signature.params En.kept = (stay_dropped p0 yes, (stay_dropped p1 yes, tt)) in
    proved 𝓛 En hs c 𝓜 𝓡 (
      Goes-dropped 𝓛 3 p0 yes (λ κs x f. refl),
      (Goes-dropped 𝓛 3 p1 yes (λ κs x f. refl), tt),
    ) (#self inst) fn closed
    (λ κs. (shr_vals, (shr_vals, tt)))
    (λ κs. (shr_Tells (named 0) κs.0 Nr, (shr_Tells (named 1) κs.1.0 Nr, tt)))
    (λ κs qs bounds a gh are.
    let b : ℕ = a.0.ref_ptr.0 in
    let o : ℕ = a.0.ref_ptr.1 in
    let κ : Lft = κs.0 in
    let one : Nr.Denot = a.0.now in
    let e : TurnOf R.Denot = (one.value, one.lifetime) in
    let pb : ℕ = a.1.0.ref_ptr.0 in
    let po : ℕ = a.1.0.ref_ptr.1 in
    let κo : Lft = κs.1.0 in
    let other : Nr.Denot = a.1.0.now in
    let f : TurnOf R.Denot = (other.value, other.lifetime) in
    let Asked : Type 0 = (one.log ≡ other.log) × (one.turn ≡ other.turn) in
    let Told : Type 0 = (one.value ≡ other.value) × (one.lifetime ≡ other.lifetime) in
    let others : Fml = fsep (flft κs.1.1.0 qs.1.1.0) ftrue in
    let y : (walk_of 𝓛 En hs c).Ghost = ((κs, qs, bounds, a, (vptr b o ∷ [], (vptr pb po ∷ [], tt))), gh) in
    let Post : Val → SProp 𝓤 = (walk_of 𝓛 En hs c).post y in
    qed 𝓛 (((‵ (flft κ qs.0) ⊛ ‵ (flft κo qs.1.0) ⊛ ‵ others) ⊛ ‵ (owns (types_at En.signature.params κs) a y.0.4)) ∷
    raw (fact 𝓤 _) ∷ raw (fact 𝓤 Asked) ∷ []) ∵
    keep ! (2 ∷ 0 ∷ []) $ heard ! Asked (λ asked. split ! $ move ! (1 ∷ []) $ fsplit ! $ fsplit ! $
    keep ! (2 ∷ 1 ∷ 3 ∷ []) $ fsplit ! $ fsplit ! $ keep ! (1 ∷ 3 ∷ 4 ∷ []) $
    -- [the other; this one; the tokens]
    enter ! 𝓣.C 𝓣.Λ fn (vptr b o ∷ vptr pb po ∷ []) Post $ alloc_all !
    (λ l. pass_all ! refl ((tt, tt), ((tt, tt), tt)) $
    use1 𝓛 (‵ (hidden_shr (fields.Name R) κo (other.turn, (record {}, tt)) pb po) ⊛ ‵ (fhide (turn_shares R other.log
    other.turn f κo))) (lent_out 𝓛 (name_is.struct R) (name_is.the_codes X.Denot R.coded (marker.the_row R).coded)
    (name_is.the_heap R) (name_is.the_lent R) κo other pb po) $ split ! $ drop ! $ unhide ! $ move ! (1 ∷ []) $
    use1 𝓛 (‵ (hidden_shr (fields.Name R) κ (one.turn, (record {}, tt)) b o) ⊛ ‵ (fhide (turn_shares R one.log
    one.turn e κ))) (lent_out 𝓛 (name_is.struct R) (name_is.the_codes X.Denot R.coded (marker.the_row R).coded)
    (name_is.the_heap R) (name_is.the_lent R) κ one b o) $ split ! $ drop ! $ unhide ! $
    rewrite ! 0 (λ (z : ℕ × ℕ). ‵ (turn_is R z.0 z.1 e)) (λ i. (asked.0 i, asked.1 i)) refl $ move ! (0 ∷ 1 ∷ []) $
    use2 𝓛 (given (e ≡ f) (raw (emp 𝓤))) (finding.turn_agrees 𝓛 R other.log other.turn e f) $ learn ! (λ same. drop ! $
    sets ! (of_opd ! (unit_lit !)) refl (tt, tt) $
    use0 𝓛 (raw (fact 𝓤 Told)) (fact_i 𝓤 Told (emp 𝓤) (
      ap (λ (z : TurnOf R.Denot). z.0) same,
      ap (λ (z : TurnOf R.Denot). z.1) same,
    )) $
    feq_i ! (List Val) (vunit ∷ []) (vunit ∷ []) refl $ nothing ! $ nothing ! $ fjoin ! $ nothing ! $ fjoin ! $
    returns ! (look_at ! 0 refl) $ free_all ! refl $ keep ! (3 ∷ 0 ∷ 1 ∷ 2 ∷ []) $
    by ! (leaves 𝓛 En hs c y vunit tt (tt, (tt, tt)) (tt, (tt, tt)))))))
