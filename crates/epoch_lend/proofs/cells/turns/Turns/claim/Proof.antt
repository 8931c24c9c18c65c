-- `claim` is one compare-exchange, which takes the place where it was vacant.
use Rattle.std.proofs.Common.{◌≡◌, ◌≢◌, ℕ, ◌+◌, ◌*◌, ◌^◌, List, [], ◌∷◌, ◌++◌, sym, refl, ◌∙◌, ap}
use Rattle.std.proofs.Common.{subst, w64}
use mir.Syntax.{a_type, named}
use mir.Val.{Val, vint, vptr, vstruct, of_list}
use mir.MapTy.{inst_fn}
use prog.Atomic.{either}
use base.Logic.{SProp, ent, sep, wand, emp, via, apply∗, id⊢}
use base.Fml.{Lft, Share, Fml, ftrue, fsep, feq, flft, fbor}
use types.Logic.{sem}
use types.Kit.{‵, raw, ◌⊛◌, some, given, later, mean, at_ret, ◌$◌}
use types.Kit.{◌∵◌, !, qed, by, move, keep, split, join, drop, suffices}
use types.Kit.{fsplit, fjoin, fjoin3, fpick, fpack, pick, learn, use0, use1, use2, use3, await, rewrite, feq_i, flt_i}
use types.Run.{stop, fld, addr, of_opd, no_more, and_then, first, blocks, exec, Calls-last, returns, enter}
use types.ByLocal.{alloc_all, pass_all, free_all, look_at, get, through, sets, sets_last, lands_last, env}
use types.Part.{agg}
use contract.Running.{tables}
use contract.Monad.{fact, fact_i}
use contract.Shared.{Lends-one}
use denote.Exit.{yes}
use denote.RattleType.{RattleType, Valss, owns}
use denote.Signature.{types_at, plain}
use denote.RawPtr.{Ptr, RawPtr, block_ptr, ptr_val, rawptr_vals, rawptr_Tells, block_of, count_of, at_block}
use denote.Steps.{nothing, heard}
use denote.Opens.{unhide}
use denote.Param.{param, layouts}
use denote.Param.Laws.{param_laws}
use denote.Builtin.{RefOf, u64}
use denote.Ref.{shr_vals, shr_Tells}
use denote.Plain.{uint_vals, uint_Tells}
use denote.Triple.Walked.{Stays, stay_dropped, walk_of, Goes-dropped}
use Rattle.core.proofs.atomic.Steps.{tail}
use Rattle.core.specs.Sync.RawAtomic.{asks, always}
use Rattle.atomic_table.proofs.Walks.{proved, leaves}
use Rattle.atomic_table.proofs.Calls.{fm, found, finds, exchanges}
use prog.Wp.{WpFn}
use Rattle.epoch_lend.proofs.Fields.{pair_of}
use Rattle.epoch_lend.proofs.Fields.{word, word_typed, marked_typed}
use Rattle.epoch_lend.specs.Turning.{TurnNames, claim_of, value_in}
use Rattle.epoch_lend.specs.contracts.cells.turns.Turns as turns_is
use Rattle.epoch_lend.specs.contracts.cells.turns.TurnClaim as claim_is
use Rattle.epoch_lend.specs.contracts.cells.turns.TurnName as name_is
use Rattle.epoch_lend.proofs.TurnFields as fields
use Rattle.epoch_lend.proofs.Turned as steps
use Rattle.epoch_lend.specs.contracts.cells.turns.Turns.claim.{ended, clauses}
use Rattle.epoch_lend.specs.contracts.cells.turns.Turns.claim.Key.{name as #self}
use Rattle.epoch_lend.proofs.cells.turns.Turns.claim.Statement.{statement}
use Rattle.epoch_lend.proofs.cells.turns.Turns.claim.Code as code

pub claim_spec : {M : Type 1} → statement M
claim_spec 𝓤 𝓛 𝓜 𝓡 wired X L =
    let H = 𝓛.H in
    let 𝓣 = tables 𝓤 H 𝓜 𝓡 𝓡.env in
    let R : RattleType = param 0 X in
    let En = ended X in
    let c = clauses X 𝓛 𝓜.mem 𝓡.returns in
    let inst = layouts (a_type ∷ []) (X, tt) in
    let fn = inst_fn inst code.function in
    let closed = code.unfolded 𝓤 H 𝓜 𝓡 wired (X, tt) in
    let Row : RattleType = turns_is.the_row R in
    let Cr : RattleType = claim_is.the_row R in
    let Nr : RattleType = name_is.the_row R in
    let LR = param_laws 0 X L in
    let p0 = RefOf (0 ∷ []) tt (plain (λ _. Row)) (λ _. tt) in
    let p1 = plain (λ _. RawPtr) in
    let p2 = plain (λ _. u64) in
    let p3 = plain (λ _. u64) in
    let p4 = plain (λ _. u64) in
    let hs : Stays En.signature.params En.kept = (
      stay_dropped p0 yes,
      (
        stay_dropped p1 yes,
        (
          stay_dropped p2 yes,
          (stay_dropped p3 yes, (stay_dropped p4 yes, tt)),
        ),
      ),
    ) in
    proved 𝓛 En hs c 𝓜 𝓡 (
      Goes-dropped 𝓛 2 p0 yes (λ κs x f. refl),
      (
        Goes-dropped 𝓛 2 p1 yes (λ κs x f. refl),
        (
          Goes-dropped 𝓛 2 p2 yes (λ κs x f. refl),
          (
            Goes-dropped 𝓛 2 p3 yes (λ κs x f. refl),
            (
              Goes-dropped 𝓛 2 p4 yes
                  (λ κs x f. refl),
              tt,
            ),
          ),
        ),
      ),
    ) (#self inst) fn closed
    (λ κs. (shr_vals, (rawptr_vals, (uint_vals w64, (uint_vals w64, (uint_vals w64, tt))))))
    (λ κs. (shr_Tells (named 0) κs.0 Row, (rawptr_Tells, (uint_Tells w64, (uint_Tells w64, (uint_Tells w64, tt))))))
    (λ κs qs bounds a gh are.
    let rp : ℕ × ℕ = a.0.ref_ptr in
    let κ : Lft = κs.0 in
    let q : Share = qs.0 in
    let d : TurnNames = a.0.now in
    let b : ℕ = block_of d.at in
    let o : ℕ = count_of d.at in
    let x : Ptr = value_in R (block_ptr b o) in
    let p : Ptr = a.1.0 in
    let t : ℕ = a.1.1.0 in
    let old : ℕ = a.1.1.1.0 in
    let new : ℕ = a.1.1.1.1.0 in
    let Asked : Type 0 = (p ≡ d.at) × (old ≡ 4 * t) × (new ≡ 4 * t + 1) in
    let others : Fml = fsep (flft κs.1.0 qs.1.0) ftrue in
    let us : List Val = vptr rp.0 rp.1 ∷ vptr b o ∷ vint w64 t ∷ vint w64 old ∷ vint w64 new ∷ [] in
    let y : (walk_of 𝓛 En hs c).Ghost = (
      (
        κs,
        qs,
        bounds,
        a,
        (
          vptr rp.0 rp.1 ∷ [],
          (
            ptr_val p ∷ [],
            (
              vint w64 t ∷ [],
              (
                vint w64 old
                    ∷ [],
                (vint w64 new ∷ [], tt),
              ),
            ),
          ),
        ),
      ),
      gh,
    ) in
    let Post : Val → SProp 𝓤 = (walk_of 𝓛 En hs c).post y in
    let Run : List Val → SProp 𝓤 = λ ws. WpFn 𝓤 H 𝓣.C 𝓣.Λ fn ws Post in
    qed 𝓛 (((‵ (flft κ q) ⊛ ‵ others) ⊛ ‵ (owns (types_at En.signature.params κs) a y.0.4)) ∷ raw (fact 𝓤 _) ∷ raw
    (fact 𝓤 Asked) ∷ []) ∵
    keep ! (2 ∷ 0 ∷ []) $ heard ! Asked (λ asked. split ! $ split ! $ move ! (2 ∷ []) $ fsplit ! $ fsplit ! $
    keep ! (1 ∷ 3 ∷ 4 ∷ []) $ unhide ! $ fsplit ! $ fpick ! (λ inb. drop ! $
    let there : d.at ≡ block_ptr b o = at_block d.at inb.0 in
    let inside : value_in R d.at ≡ x = ap (value_in R) there in
    suffices ! (Run us) (subst (λ (u : Ptr). ent 𝓤 (Run us) (Run (vptr rp.0 rp.1 ∷ ptr_val u ∷ vint w64 t ∷ vint w64 old
    ∷ vint w64 new ∷ []))) (sym (asked.0 ∙ there)) (id⊢ 𝓤 (Run us))) $
    enter ! 𝓣.C 𝓣.Λ fn us Post $ alloc_all ! (λ l. pass_all ! refl (
      (tt, tt),
      (
        (tt, tt),
        (
          (
            tt,
            record {
              fits =
                  are.1.1.0.1;
            },
          ),
          ((tt, record { fits = are.1.1.1.0.1 }), ((tt, record { fits = are.1.1.1.1.0.1 }), tt)),
        ),
      ),
    ) $
    let Ev = env fn.locals l in
    fpick ! (λ α. fsplit ! $ move ! (0 ∷ 2 ∷ []) $
    use2 𝓛 (later (some (λ (s : Share). ‵ (flft α s) ⊛ raw (wand 𝓤 (𝓛.A.lft α s) (H.⇛ (𝓛.A.lft κ q)))))) (Lends-one 𝓛
    𝓜 𝓡
    κ α q) $ await ! tt $ pick ! (λ s. split ! $
    let W : ℕ → Fml = steps.Claimed 𝓛 R d t in
    let after : ℕ → Fml = λ n. fsep (flft α s) (W n) in first ! $ blocks ! $
    sets ! (addr ! (through ! refl (fld ! refl (stop !)))) refl (tt, tt) $ nothing ! $ move ! (3 ∷ 1 ∷ 0 ∷ []) $
    use3 𝓛 (raw (𝓣.C _ (vptr b (o + 0) ∷ vint w64 old ∷ vint w64 new ∷ []) (λ u. mean 𝓛 (found after u))))
    (via 𝓤 _ (subst (λ (k : ℕ × ℕ). ent 𝓤 (sep 𝓤 (𝓛.A.inv (fbor α (steps.Memory 𝓛 R d α s b o))) (sep 𝓤 (𝓛.A.lft α s)
    (sem 𝓛
    ftrue))) (asks 𝓛 (block_ptr b (o + 0)) (λ n. either (Rattle.std.specs.Prelude.eqb n k.0) k.1 n) always after)) (λ
    i. (
      sym
          asked.1 i,
      sym asked.2 i,
    )) (steps.claims_it 𝓛 R d α s b o t)) (exchanges 𝓛 𝓜 𝓡 (code.calls-atomic_table::exchange 𝓡.env
    wired) (block_ptr b (o + 0)) old new are.1.1.1.0.1 are.1.1.1.1.0.1 after)) $
    Calls-last ! (fm 𝓛 𝓜 𝓡) (found after) (and_then ! (get ! refl) (and_then ! (get ! refl) (and_then ! (get ! refl)
    (no_more !)))) (λ u. finds ! after (λ n fits.
    lands_last ! refl (tt, record { fits = fits }) $ exec ! 𝓣.C 𝓣.Λ Ev (tail fn.body) (at_ret Ev Post) $
    sets ! (of_opd ! (get ! refl)) refl (tt, record { fits = fits }) $
    first ! $ blocks ! $ sets_last ! (addr ! (through ! refl (fld ! refl (stop !)))) refl (tt, tt) $
    exec ! 𝓣.C 𝓣.Λ Ev (tail (tail (tail fn.body))) (at_ret Ev Post) $
    sets ! (of_opd ! (get ! refl)) refl (tt, tt) $
    sets ! (agg ! (and_then ! (get ! refl) (no_more !))) refl (word_typed x) $
    sets ! (agg ! (and_then ! (get ! refl) (and_then ! (get ! refl) (no_more !)))) refl (marked_typed x n fits) $
    fsplit ! $ move ! (0 ∷ 2 ∷ []) $ use2 𝓛 (later (‵ (flft κ q))) (apply∗ 𝓤 (𝓛.A.lft α s) (H.⇛ (𝓛.A.lft κ q))) $
    await ! tt $
    move ! (0 ∷ 2 ∷ []) $ join ! $ move ! (1 ∷ []) $
    use1 𝓛 (some (λ (k : ℕ). given (steps.Gains 𝓛 R d (4 * t) n k) (‵ (claim_of R (value_in R d.at) d.state (4 * t +
    1) k))))
    (steps.gains 𝓛 R d t n) $ pick ! (λ k. learn ! (λ so.
    rewrite ! 0 (λ (z : Ptr × ℕ). ‵ (claim_of R z.0 d.state z.1 k)) (λ i. (inside i, sym asked.2 i)) refl $
    let h : Cr.Denot = record { at = x; right = k; state = d.state; word = new } in
    let v : Val = pair_of n (word x) in
    let Told : Type 0 = (n ≡ old → k ≡ 1) × (n ≢ old → k ≡ 0) × (d.state ≡ d.state) × (new ≡ new) × (x ≡ d.value) in
    use0 𝓛 (‵ ((fields.Claim R).own_val (x, tt) (word x ∷ []))) (fields.claim_made R 𝓛 x) $ fjoin ! $ nothing ! $
    flt_i ! n (2 ^ 64) fits $ feq_i ! (List Val) (vint w64 n ∷ []) (vint w64 n ∷ []) refl $ fjoin ! $
    move ! (0 ∷ 2 ∷ 1 ∷ []) $ fjoin3 ! $ feq_i ! (List Val) (v ∷ []) (v ∷ []) refl $ fjoin ! $
    fpack ! (Valss (u64 ∷ Cr ∷ [])) (λ uss. fsep (feq (List Val) (v ∷ []) (vstruct (of_list (uss.0 ++ (uss.1.0 ++
    []))) ∷ [])) (owns (u64 ∷ Cr ∷ []) (n, (h, tt)) uss)) (vint w64 n ∷ [], (word x ∷ [], tt)) $
    use0 𝓛 (raw (fact 𝓤 Told)) (fact_i 𝓤 Told (emp 𝓤) (
      (λ e. so.0 (e ∙ asked.1)),
      (λ ne. so.1 (λ e. ne (e ∙ sym asked.1))),
      refl,
      refl,
      sym inside ∙ sym inb.1,
    )) $ nothing ! $ nothing ! $ fjoin ! $ nothing ! $ fjoin ! $ nothing ! $ fjoin ! $ nothing ! $ fjoin ! $ nothing !
    $ fjoin ! $
    returns ! (look_at ! 0 refl) $ free_all ! refl $ keep ! (3 ∷ 0 ∷ 2 ∷ 1 ∷ []) $
    by ! (leaves 𝓛 En hs c y v (n, h) (tt, (tt, (tt, (tt, (tt, tt))))) (tt, (tt, (tt, (tt, (tt, tt))))))))))))))))
