-- `find` is one plain load, and what it tells of the value that is shown.
use Rattle.std.proofs.Common.{◌≡◌, ◌≢◌, ℕ, ◌+◌, ◌*◌, ◌^◌, List, [], ◌∷◌, ◌++◌, sym, refl, subst, ◌∙◌}
use Rattle.std.proofs.Common.{lit<, w64}
use Rattle.std.specs.Prelude.{Option}
use mir.Syntax.{a_type, named}
use mir.Val.{Val, vint, vptr, vstruct, of_list}
use mir.MapTy.{inst_fn}
use base.Logic.{SProp, ent, id⊢, wand, emp, via, apply∗}
use base.Fml.{Lft, Share, Fml, ftrue, fsep, feq, flft}
use types.Kit.{‵, raw, ◌⊛◌, some, given, later, mean, at_ret, ◌$◌, ◌∵◌, !, qed, by, move, keep, split, join}
use prog.Wp.{WpFn}
use types.Kit.{drop, suffices, fsplit, fjoin, fjoin3, fpick, fpack, pick}
use types.Kit.{learn, use0, use1, use2, use3, await, feq_i, flt_i}
use types.Run.{stop, fld, addr, lit, of_opd, no_more, and_then, first, blocks, exec, Calls-last, returns, enter}
use types.ByLocal.{alloc_all, pass_all, free_all, look_at, get, through, sets, lands_last, env}
use types.Part.{agg}
use contract.Running.{tables}
use contract.Monad.{fact, fact_i}
use contract.Shared.{Lends-one}
use denote.Exit.{yes}
use denote.RattleType.{RattleType, Valss, owns}
use denote.Signature.{types_at, plain}
use denote.RawPtr.{Ptr, RawPtr, block_ptr, ptr_val, rawptr_vals, rawptr_Tells, block_of, count_of, at_block}
use denote.Steps.{nothing, heard}
use denote.Opens.{unhide}
use denote.Param.{param, layouts}
use denote.Builtin.{RefOf, u64}
use denote.Ref.{shr_vals, shr_Tells}
use denote.Plain.{uint_vals, uint_Tells}
use denote.Triple.Walked.{Stays, stay_dropped, walk_of, Goes-dropped}
use Rattle.core.proofs.atomic.Steps.{tail}
use Rattle.atomic_table.proofs.Walks.{proved, leaves}
use Rattle.atomic_table.proofs.Calls.{fm, seq_cst, found, finds, loads}
use Rattle.epoch_lend.specs.Turning.{TurnNames, found_of}
use Rattle.epoch_lend.specs.contracts.cells.turns.Turns as turns_is
use Rattle.epoch_lend.specs.contracts.cells.turns.Found as found_is
use Rattle.epoch_lend.proofs.TurnFields as fields
use Rattle.epoch_lend.proofs.Turned as steps
use Rattle.epoch_lend.proofs.Finding as finding
use Rattle.epoch_lend.specs.contracts.cells.turns.Turns.find.{ended, clauses}
use Rattle.epoch_lend.specs.contracts.cells.turns.Turns.find.Key.{name as #self}
use Rattle.epoch_lend.proofs.cells.turns.Turns.find.Statement.{statement}
use Rattle.epoch_lend.proofs.cells.turns.Turns.find.Code as code

pub find_spec : {M : Type 1} → statement M
find_spec 𝓤 𝓛 𝓜 𝓡 wired X L =
    let H = 𝓛.H in
    let 𝓣 = tables 𝓤 H 𝓜 𝓡 𝓡.env in
    let R : RattleType = param 0 X in
    let En = ended X in
    let c = clauses X 𝓛 𝓜.mem 𝓡.returns in
    let inst = layouts (a_type ∷ []) (X, tt) in
    let fn = inst_fn inst code.function in
    let closed = code.unfolded 𝓤 H 𝓜 𝓡 wired (X, tt) in
    let Row : RattleType = turns_is.the_row R in
    let Fr : RattleType = found_is.the_row R in
    let p0 = RefOf (0 ∷ []) tt (plain (λ _. Row)) (λ _. tt) in
    let p1 = plain (λ _. RawPtr) in
    let p2 = plain (λ _. u64) in
    let p3 = plain (λ _. u64) in
    let hs : Stays En.signature.params En.kept = (
      stay_dropped p0 yes,
      (stay_dropped p1 yes, (stay_dropped p2 yes, (stay_dropped p3 yes, tt))),
    ) in
    proved 𝓛 En hs c 𝓜 𝓡 (
      Goes-dropped 𝓛 2 p0 yes (λ κs x f. refl),
      (
        Goes-dropped 𝓛 2 p1 yes (λ κs x f. refl),
        (Goes-dropped 𝓛 2 p2 yes (λ κs x f. refl), (Goes-dropped 𝓛 2 p3 yes (λ κs x f. refl), tt)),
      ),
    ) (#self inst) fn closed
    (λ κs. (shr_vals, (rawptr_vals, (uint_vals w64, (uint_vals w64, tt)))))
    (λ κs. (shr_Tells (named 0) κs.0 Row, (rawptr_Tells, (uint_Tells w64, (uint_Tells w64, tt)))))
    (λ κs qs bounds a gh are.
    let rp : ℕ × ℕ = a.0.ref_ptr in
    let κ : Lft = κs.0 in
    let q : Share = qs.0 in
    let d : TurnNames = a.0.now in
    let b : ℕ = block_of d.at in
    let o : ℕ = count_of d.at in
    let p : Ptr = a.1.0 in
    let t : ℕ = a.1.1.0 in
    let w : ℕ = a.1.1.1.0 in
    let Asked : Type 0 = (p ≡ d.at) × (w ≡ 4 * t + 2) in
    let others : Fml = fsep (flft κs.1.0 qs.1.0) ftrue in
    let us : List Val = vptr rp.0 rp.1 ∷ vptr b o ∷ vint w64 t ∷ vint w64 w ∷ [] in
    let y : (walk_of 𝓛 En hs c).Ghost = (
      (κs, qs, bounds, a, (vptr rp.0 rp.1 ∷ [], (ptr_val p ∷ [], (vint w64 t ∷ [], (vint w64 w ∷ [], tt))))),
      gh,
    ) in
    let Post : Val → SProp 𝓤 = (walk_of 𝓛 En hs c).post y in
    let Run : List Val → SProp 𝓤 = λ ws. WpFn 𝓤 H 𝓣.C 𝓣.Λ fn ws Post in
    qed 𝓛 (((‵ (flft κ q) ⊛ ‵ others) ⊛ ‵ (owns (types_at En.signature.params κs) a y.0.4)) ∷ raw (fact 𝓤 _) ∷ raw
    (fact 𝓤 Asked) ∷ []) ∵
    keep ! (2 ∷ 0 ∷ []) $ heard ! Asked (λ asked. split ! $ split ! $ move ! (2 ∷ []) $ fsplit ! $ fsplit ! $
    keep ! (1 ∷ 3 ∷ 4 ∷ []) $ unhide ! $ fsplit ! $ fpick ! (λ inb. drop ! $
    suffices ! (Run us) (subst (λ (u : Ptr). ent 𝓤 (Run us) (Run (vptr rp.0 rp.1 ∷ ptr_val u ∷ vint w64 t ∷ vint w64 w ∷
    []))) (sym (asked.0 ∙ at_block d.at inb.0)) (id⊢ 𝓤 (Run us))) $
    enter ! 𝓣.C 𝓣.Λ fn us Post $ alloc_all ! (λ l. pass_all ! refl (
      (tt, tt),
      ((tt, tt), ((tt, record { fits = are.1.1.0.1 }), ((tt, record { fits = are.1.1.1.0.1 }), tt))),
    ) $
    let Ev = env fn.locals l in
    fpick ! (λ α. fsplit ! $ move ! (0 ∷ 2 ∷ []) $
    use2 𝓛 (later (some (λ (s : Share). ‵ (flft α s) ⊛ raw (wand 𝓤 (𝓛.A.lft α s) (H.⇛ (𝓛.A.lft κ q)))))) (Lends-one 𝓛
    𝓜 𝓡
    κ α q) $ await ! tt $ pick ! (λ s. split ! $
    let Saw : ℕ → Fml = finding.Tells 𝓛 R d t in
    let after : ℕ → Fml = λ n. fsep (flft α s) (Saw n) in first ! $ blocks ! $
    sets ! (addr ! (through ! refl (fld ! refl (stop !)))) refl (tt, tt) $ nothing ! $ move ! (3 ∷ 1 ∷ 0 ∷ []) $
    use3 𝓛 (raw (𝓣.C _ (vptr b (o + 0) ∷ seq_cst ∷ []) (λ u. mean 𝓛 (found after u))))
    (via 𝓤 _ (finding.finds_it 𝓛 R d t α s b o) (loads 𝓛 𝓜 𝓡
    (code.calls-core::raw_atomic::load 𝓡.env wired) (block_ptr b (o + 0)) after)) $
    sets ! (agg ! (and_then ! (lit ! tt) (no_more !))) refl (tt, (record { fits = lit< tt }, tt)) $
    Calls-last ! (fm 𝓛 𝓜 𝓡) (found after) (and_then ! (get ! refl) (and_then ! (get ! refl) (no_more !))) (λ u. finds
    ! after (λ n fits.
    lands_last ! refl (tt, record { fits = fits }) $ exec ! 𝓣.C 𝓣.Λ Ev (tail fn.body) (at_ret Ev Post) $
    sets ! (of_opd ! (get ! refl)) refl (tt, record { fits = fits }) $
    sets ! (agg ! (no_more !)) refl (tt, tt) $
    sets ! (agg ! (and_then ! (get ! refl) (and_then ! (get ! refl) (no_more !)))) refl
    (fields.name_typed t are.1.1.0.1) $
    sets ! (agg ! (and_then ! (get ! refl) (and_then ! (get ! refl) (no_more !)))) refl (fields.found_typed n t fits
    are.1.1.0.1) $
    fsplit ! $ move ! (0 ∷ 2 ∷ []) $ use2 𝓛 (later (‵ (flft κ q))) (apply∗ 𝓤 (𝓛.A.lft α s) (H.⇛ (𝓛.A.lft κ q))) $
    await ! tt $
    move ! (0 ∷ 2 ∷ []) $ join ! $ move ! (1 ∷ []) $
    use1 𝓛 (some (λ (g : ℕ × Option R.Denot × ℕ). given (steps.Gains 𝓛 R d (4 * t + 2) n g.0) (‵ (found_of R d.log t
    g.2 g.1 g.0)))) (finding.found 𝓛 R d t n) $ pick ! (λ g. learn ! (λ so.
    let h : Fr.Denot = record {
      turn = t;
      marker = record {};
      right = g.0;
      log = d.log;
      value = g.1;
      lifetime = g.2;
    } in
    let v : Val = fields.found_pair n t in
    let Told : Type 0 = (n ≡ w → g.0 ≡ 1) × (n ≢ w → g.0 ≡ 0) × (d.log ≡ d.log) × (t ≡ t) in
    use0 𝓛 (‵ ((fields.Found R).own_val (t, (record {}, tt)) (fields.name_val t ∷ []))) (fields.found_made R 𝓛 t
    are.1.1.0.1) $ fjoin ! $ nothing ! $
    flt_i ! n (2 ^ 64) fits $ feq_i ! (List Val) (vint w64 n ∷ []) (vint w64 n ∷ []) refl $ fjoin ! $
    move ! (0 ∷ 2 ∷ 1 ∷ []) $ fjoin3 ! $ feq_i ! (List Val) (v ∷ []) (v ∷ []) refl $ fjoin ! $
    fpack ! (Valss (u64 ∷ Fr ∷ [])) (λ uss. fsep (feq (List Val) (v ∷ []) (vstruct (of_list (uss.0 ++ (uss.1.0 ++
    []))) ∷ [])) (owns (u64 ∷ Fr ∷ []) (n, (h, tt)) uss)) (vint w64 n ∷ [], (fields.name_val t ∷ [], tt)) $
    use0 𝓛 (raw (fact 𝓤 Told)) (fact_i 𝓤 Told (emp 𝓤) (
      (λ e. so.0 (e ∙ asked.1)),
      (λ ne. so.1 (λ e. ne (e ∙ sym asked.1))),
      refl,
      refl,
    )) $ nothing ! $ nothing ! $ fjoin ! $ nothing ! $ fjoin ! $ nothing ! $ fjoin ! $ nothing ! $ fjoin ! $
    returns ! (look_at ! 0 refl) $ free_all ! refl $ keep ! (3 ∷ 0 ∷ 2 ∷ 1 ∷ []) $
    by ! (leaves 𝓛 En hs c y v (n, h) (tt, (tt, (tt, (tt, tt)))) (tt, (tt, (tt, (tt, tt)))))))))))))))
