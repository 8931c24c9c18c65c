-- `look` is one plain load, and what it answers has what it gained.
use Rattle.std.proofs.Common.{◌≡◌, ◌≢◌, ℕ, ◌+◌, ◌*◌, ◌^◌, List, [], ◌∷◌, ◌++◌, sym, refl, ◌∙◌, subst, ap}
use Rattle.std.proofs.Common.{lit<, w64}
use Rattle.std.specs.Prelude.{Option}
use mir.Syntax.{a_type, named}
use mir.Val.{Val, vint, vptr, vstruct, of_list}
use mir.MapTy.{inst_fn}
use base.Logic.{SProp, wand, emp, via, apply∗, ent, id⊢}
use base.Fml.{Lft, Share, Fml, ftrue, fsep, feq, flft, fobor, fhide}
use base.Before.{before}
use types.Kit.{‵, raw, ◌⊛◌, some, given, later, mean, at_ret, ◌$◌}
use types.Kit.{◌∵◌, !, qed, by, move, keep, drop, split, split3, suffices}
use types.Kit.{join}
use types.Kit.{fsplit, fjoin, fpick, fpack, pick, learn, use0, use1, use2, use3, await, rewrite, feq_i, flt_i}
use types.Run.{stop, fld, addr, lit, of_opd, no_more, and_then, first, blocks, exec, Calls-last, returns, enter}
use types.ByLocal.{alloc_all, pass_all, free_all, look_at, get, through, sets, sets_last, lands_last, env}
use types.Part.{agg}
use types.Na.{before_dup}
use contract.Running.{tables}
use contract.Monad.{fact, fact_i}
use contract.Shared.{Lends-one}
use denote.Exit.{yes}
use denote.RattleType.{RattleType, Valss, owns}
use denote.Signature.{types_at, plain, named_lft}
use denote.RawPtr.{Ptr, RawPtr, block_ptr, ptr_val, rawptr_vals, rawptr_Tells, block_of, count_of, at_block}
use denote.Steps.{nothing, heard}
use denote.Opens.{unhide}
use denote.Memory.{hidden_shr}
use denote.Param.{param, layouts}
use denote.Param.Laws.{param_laws}
use denote.Builtin.{RefOf, u64, unit}
use denote.Ref.{shr_vals, shr_Tells}
use denote.Plain.{uint_vals, uint_Tells}
use denote.Struct.Lending.{lent_out}
use denote.Triple.Walked.{Stays, stay_dropped, walk_of, Goes-dropped}
use Rattle.core.proofs.atomic.Steps.{tail}
use Rattle.core.specs.contracts.marker.PhantomData as marker
use Rattle.atomic_table.proofs.Walks.{proved, leaves}
use Rattle.atomic_table.proofs.Calls.{fm, seq_cst, found, finds, loads}
use prog.Wp.{WpFn}
use Rattle.epoch_lend.specs.Posts.{guard_shares, IsAmong}
use Rattle.epoch_lend.specs.Loans.{glance_owns, pocket}
use Rattle.epoch_lend.proofs.Fields.{Token, hand_of, hand_typed, Words, hand_made}
use Rattle.epoch_lend.proofs.Reading as reading
use Rattle.epoch_lend.specs.contracts.post.PostGuard as lent_guard
use Rattle.epoch_lend.specs.contracts.lending.Glance as glance
use Rattle.epoch_lend.specs.Turning.{TurnNames, found_of, value_in}
use Rattle.epoch_lend.specs.contracts.cells.turns.Turns as turns_is
use Rattle.epoch_lend.specs.contracts.cells.turns.Found as found_is
use Rattle.epoch_lend.proofs.TurnFields as fields
use Rattle.epoch_lend.proofs.Turned as steps
use Rattle.epoch_lend.proofs.Seeing as seeing
use Rattle.epoch_lend.specs.contracts.cells.turns.Turns.look.{ended, clauses}
use Rattle.epoch_lend.specs.contracts.cells.turns.Turns.look.Key.{name as #self}
use Rattle.epoch_lend.proofs.cells.turns.Turns.look.Statement.{statement}
use Rattle.epoch_lend.proofs.cells.turns.Turns.look.Code as code

pub look_spec : {M : Type 1} → statement M
look_spec 𝓤 𝓛 𝓜 𝓡 wired X L =
    let H = 𝓛.H in
    let 𝓣 = tables 𝓤 H 𝓜 𝓡 𝓡.env in
    let R : RattleType = param 0 X in
    let En = ended X in
    let c = clauses X 𝓛 𝓜.mem 𝓡.returns in
    let inst = layouts (a_type ∷ []) (X, tt) in
    let fn = inst_fn inst code.function in
    let closed = code.unfolded 𝓤 H 𝓜 𝓡 wired (X, tt) in
    let Row : RattleType = turns_is.the_row R in
    let Fr : RattleType = found_is.the_row R in
    let LR = param_laws 0 X L in
    let p0 = RefOf (0 ∷ []) tt (plain (λ _. Row)) (λ _. tt) in
    let p1 = plain (λ _. u64) in
    let p2 = RefOf (1 ∷ []) tt (plain (λ _. lent_guard.the_row)) (λ _. tt) in
    let p3 = plain (λ _. RawPtr) in
    let p4 = plain (λ _. u64) in
    let hs : Stays En.signature.params En.kept = (
      stay_dropped p0 yes,
      (stay_dropped p1 yes, (stay_dropped p2 yes, (stay_dropped p3 yes, (stay_dropped p4 yes, tt)))),
    ) in
    proved 𝓛 En hs c 𝓜 𝓡 (
      Goes-dropped 𝓛 3 p0 yes (λ κs x f. refl),
      (
        Goes-dropped 𝓛 3 p1 yes (λ κs x f. refl),
        (
          Goes-dropped 𝓛 3 p2 yes (λ κs x f. refl),
          (Goes-dropped 𝓛 3 p3 yes (λ κs x f. refl), (Goes-dropped 𝓛 3 p4 yes (λ κs x f. refl), tt)),
        ),
      ),
    ) (#self inst) fn closed
    (λ κs. (shr_vals, (uint_vals w64, (shr_vals, (rawptr_vals, (uint_vals w64, tt))))))
    (λ κs. (
      shr_Tells (named 0) κs.0 Row,
      (
        uint_Tells w64,
        (shr_Tells (named 1) κs.1.0 lent_guard.the_row, (rawptr_Tells, (uint_Tells w64, tt))),
      ),
    )) (λ κs qs bounds a gh are.
    let rp : ℕ × ℕ = a.0.ref_ptr in
    let κ : Lft = κs.0 in
    let q : Share = qs.0 in
    let d : TurnNames = a.0.now in
    let b : ℕ = block_of d.at in
    let o : ℕ = count_of d.at in
    let x : Ptr = value_in R (block_ptr b o) in
    let t : ℕ = a.1.0 in
    let pb : ℕ = a.1.1.0.ref_ptr.0 in
    let po : ℕ = a.1.1.0.ref_ptr.1 in
    let κg : Lft = κs.1.0 in
    let qg : Share = qs.1.0 in
    let Pr : RattleType = lent_guard.the_row in
    let gd : Pr.Denot = a.1.1.0.now in
    let γ : ℕ = gd.atom in
    let f : ℕ = gd.epoch in
    let η : ℕ = gd.log in
    let p : Ptr = a.1.1.1.0 in
    let w : ℕ = a.1.1.1.1.0 in
    let Asked : Type 0 = (p ≡ d.at) × (w ≡ 4 * t + 2) × IsAmong η d.posts in
    let others : Fml = fsep (flft κs.1.1.0 qs.1.1.0) ftrue in
    let ℓ = named_lft 3 1 tt κs in
    let Hr : RattleType = glance.the_row ℓ R in
    let us : List Val = vptr rp.0 rp.1 ∷ vint w64 t ∷ vptr pb po ∷ vptr b o ∷ vint w64 w ∷ [] in
    let y : (walk_of 𝓛 En hs c).Ghost = (
      (
        κs,
        qs,
        bounds,
        a,
        (vptr rp.0 rp.1 ∷ [], (vint w64 t ∷ [], (vptr pb po ∷ [], (ptr_val p ∷ [], (vint w64 w ∷ [], tt))))),
      ),
      gh,
    ) in
    let Post : Val → SProp 𝓤 = (walk_of 𝓛 En hs c).post y in
    let Run : List Val → SProp 𝓤 = λ ws. WpFn 𝓤 H 𝓣.C 𝓣.Λ fn ws Post in
    qed 𝓛 (((‵ (flft κ q) ⊛ ‵ (flft κg qg) ⊛ ‵ others) ⊛ ‵ (owns (types_at En.signature.params κs) a y.0.4)) ∷ raw
    (fact 𝓤 _) ∷ raw (fact 𝓤 Asked) ∷ []) ∵
    keep ! (2 ∷ 0 ∷ []) $ heard ! Asked (λ asked. split ! $ split3 ! $ move ! (3 ∷ []) $ fsplit ! $ fsplit ! $
    keep ! (2 ∷ 1 ∷ 3 ∷ 4 ∷ 5 ∷ []) $ fsplit ! $ drop ! $ fsplit ! $ fsplit ! $ keep ! (1 ∷ 3 ∷ 4 ∷ 5 ∷ 6 ∷ []) $
    -- [the guard; the place; κ; κg; the others]
    move ! (1 ∷ []) $ unhide ! $ fsplit ! $ fpick ! (λ inb. drop ! $ move ! (1 ∷ 0 ∷ []) $
    let there : d.at ≡ block_ptr b o = at_block d.at inb.0 in
    let inside : value_in R d.at ≡ x = ap (value_in R) there in
    suffices ! (Run us) (subst (λ (u : Ptr). ent 𝓤 (Run us) (Run (vptr rp.0 rp.1 ∷ vint w64 t ∷ vptr pb po ∷ ptr_val u ∷
    vint w64 w ∷ []))) (sym (asked.0 ∙ there)) (id⊢ 𝓤 (Run us))) $
    enter ! 𝓣.C 𝓣.Λ fn us Post $ alloc_all ! (λ l. pass_all ! refl (
      (tt, tt),
      (
        (tt, record { fits = are.1.0.1 }),
        ((tt, tt), ((tt, tt), ((tt, record { fits = are.1.1.1.1.0.1 }), tt))),
      ),
    ) $ let Ev = env fn.locals l in
    use1 𝓛 (‵ (hidden_shr Token κg (record {}, tt) pb po) ⊛ ‵ (fhide (guard_shares γ f η κg))) (lent_out 𝓛
    lent_guard.struct
    (lent_guard.the_codes (marker.the_row unit).coded) lent_guard.the_heap lent_guard.the_lent κg gd pb po) $ split ! $
    drop ! $ unhide ! $ fsplit ! $
    use1 𝓛 (‵ (before κg (γ ∷ [])) ⊛ ‵ (before κg (γ ∷ []))) (before_dup 𝓛 κg (γ ∷ [])) $ split ! $
    -- [before; before; entered; the place; κ; κg; the others]
    move ! (0 ∷ 5 ∷ []) $
    use2 𝓛 (later (some (λ (r : Share). ‵ (flft (γ ∷ []) r) ⊛ raw (wand 𝓤 (𝓛.A.lft (γ ∷ []) r) (H.⇛ (𝓛.A.lft κg
    qg)))))) (Lends-one 𝓛 𝓜 𝓡 κg (γ ∷ []) qg) $ await ! tt $ pick ! (λ r. split ! $ move ! (0 ∷ 3 ∷ []) $
    use2 𝓛 (later (some (λ (pk : ℕ). ‵ (fobor (γ ∷ []) r (pocket pk)) ⊛ ‵ (reading.Offer 𝓛 γ f η r pk))))
    (reading.prepares 𝓛 γ f η r) $ await ! tt $ pick ! (λ pk. split ! $
    -- [the pocket; the offer; κg's way back; before; the place; κ; the others]
    move ! (4 ∷ []) $ fpick ! (λ α. fsplit ! $ move ! (0 ∷ 6 ∷ []) $
    use2 𝓛 (later (some (λ (s : Share). ‵ (flft α s) ⊛ raw (wand 𝓤 (𝓛.A.lft α s) (H.⇛ (𝓛.A.lft κ q)))))) (Lends-one 𝓛
    𝓜 𝓡
    κ α q) $ await ! tt $ pick ! (λ s. split ! $
    -- [α; its way back; the invariant; the pocket; the offer; κg's way back; before; the others]
    let Saw : ℕ → Fml = seeing.Saw 𝓛 R d LR.shr_laws t γ f η asked.2 r pk in
    let after : ℕ → Fml = λ n. fsep (flft α s) (Saw n) in first ! $ blocks ! $
    sets ! (addr ! (through ! refl (fld ! refl (stop !)))) refl (tt, tt) $ move ! (2 ∷ 0 ∷ 4 ∷ []) $
    use3 𝓛 (raw (𝓣.C _ (vptr b (o + 0) ∷ seq_cst ∷ []) (λ u. mean 𝓛 (found after u))))
    (via 𝓤 _ (seeing.sees_it 𝓛 R d LR.shr_laws t γ f η asked.2 r pk α s b o) (loads 𝓛 𝓜 𝓡
    (code.calls-core::raw_atomic::load 𝓡.env wired) (block_ptr b (o + 0)) after)) $
    sets ! (agg ! (and_then ! (lit ! tt) (no_more !))) refl (tt, (record { fits = lit< tt }, tt)) $
    Calls-last ! (fm 𝓛 𝓜 𝓡) (found after) (and_then ! (get ! refl) (and_then ! (get ! refl) (no_more !))) (λ u. finds
    ! after (λ n fits.
    lands_last ! refl (tt, record { fits = fits }) $ exec ! 𝓣.C 𝓣.Λ Ev (tail fn.body) (at_ret Ev Post) $
    sets ! (of_opd ! (get ! refl)) refl (tt, record { fits = fits }) $
    sets ! (agg ! (no_more !)) refl (tt, tt) $
    sets ! (agg ! (and_then ! (get ! refl) (and_then ! (get ! refl) (no_more !)))) refl
    (fields.name_typed t are.1.0.1) $
    first ! $ blocks ! $ sets_last ! (addr ! (through ! refl (fld ! refl (stop !)))) refl (tt, tt) $
    exec ! 𝓣.C 𝓣.Λ Ev (tail (tail (tail (tail (tail fn.body))))) (at_ret Ev Post) $
    sets ! (of_opd ! (get ! refl)) refl (tt, tt) $
    sets ! (agg ! (no_more !)) refl (tt, tt) $
    sets ! (agg ! (and_then ! (get ! refl) (and_then ! (get ! refl) (no_more !)))) refl (hand_typed x) $
    sets ! (agg ! (and_then ! (get ! refl) (and_then ! (get ! refl) (and_then ! (get ! refl) (no_more !))))) refl
    (fields.looked_typed x n t fits are.1.0.1) $
    -- [α and what was found; its way back; the pocket; κg's way back; before; the others]
    fsplit ! $ move ! (0 ∷ 2 ∷ []) $ use2 𝓛 (later (‵ (flft κ q))) (apply∗ 𝓤 (𝓛.A.lft α s) (H.⇛ (𝓛.A.lft κ q))) $
    await ! tt $ move ! (2 ∷ 1 ∷ []) $
    use2 𝓛 (later (‵ (flft (γ ∷ []) r) ⊛ ‵ (seeing.Got 𝓛 R d LR.shr_laws t γ f η asked.2 r pk n)))
    (seeing.settles 𝓛 R d LR.shr_laws t γ f η asked.2 r pk n) $
    await ! tt $ split ! $ move ! (0 ∷ 3 ∷ []) $
    use2 𝓛 (later (‵ (flft κg qg))) (apply∗ 𝓤 (𝓛.A.lft (γ ∷ []) r) (H.⇛ (𝓛.A.lft κg qg))) $ await ! tt $
    -- [κg; what was got; κ; before; the others]
    move ! (0 ∷ 4 ∷ []) $ join ! $ move ! (2 ∷ 0 ∷ []) $ join ! $ move ! (1 ∷ 2 ∷ []) $
    -- [what was got; before; the tokens]
    use2 𝓛 (some (λ (g : ℕ × Option R.Denot × ℕ). given (steps.Gains 𝓛 R d (4 * t + 2) n g.0) (‵ (fsep (found_of R
    d.log t g.2 g.1 g.0) (glance_owns κg R (value_in R d.at) g.1 g.0)))))
    (seeing.gains 𝓛 R d LR.shr_laws t γ f η asked.2 r pk κg n) $ pick ! (λ g. learn ! (λ so.
    rewrite ! 0 (λ (z : Ptr). ‵ (fsep (found_of R d.log t g.2 g.1 g.0) (glance_owns κg R z g.1 g.0))) inside
    refl $ fsplit ! $
    let h : Fr.Denot = record {
      turn = t;
      marker = record {};
      right = g.0;
      log = d.log;
      value = g.1;
      lifetime = g.2;
    } in
    let z : Hr.Denot = record { at = x; marker = record {}; right = g.0; value = g.1 } in
    let v : Val = fields.three_of n (fields.name_val t) (hand_of x) in
    let Told : Type 0 = (n ≡ w → (g.0 ≡ 1) × (g.0 ≡ 1)) × (n ≢ w → (g.0 ≡ 0) × (g.0 ≡ 0)) × (d.log ≡ d.log) × (t ≡ t)
    × (g.1 ≡ g.1) in
    use0 𝓛 (‵ ((fields.Found R).own_val (t, (record {}, tt)) (fields.name_val t ∷ []))) (fields.found_made R 𝓛 t
    are.1.0.1) $ fjoin ! $ move ! (1 ∷ []) $
    use0 𝓛 (‵ ((Words ℓ R).own_val (x, (tt, tt)) (hand_of x ∷ []))) (hand_made ℓ R 𝓛 x) $ fjoin ! $ nothing ! $
    move ! (1 ∷ 0 ∷ []) $ fjoin ! $ move ! (1 ∷ 0 ∷ []) $ fjoin ! $
    flt_i ! n (2 ^ 64) fits $ feq_i ! (List Val) (vint w64 n ∷ []) (vint w64 n ∷ []) refl $ fjoin ! $
    fjoin ! $ feq_i ! (List Val) (v ∷ []) (v ∷ []) refl $ fjoin ! $
    fpack ! (Valss (u64 ∷ Fr ∷ Hr ∷ [])) (λ uss. fsep (feq (List Val) (v ∷ []) (vstruct (of_list (uss.0 ++ (uss.1.0 ++
    (uss.1.1.0 ++ [])))) ∷ [])) (owns (u64 ∷ Fr ∷ Hr ∷ []) (n, (h, (z, tt))) uss)) (
      vint w64 n ∷ [],
      (fields.name_val t ∷ [], (hand_of x ∷ [], tt)),
    ) $
    use0 𝓛 (raw (fact 𝓤 Told)) (fact_i 𝓤 Told (emp 𝓤) (
      (λ e. (so.0 (e ∙ asked.1), so.0 (e ∙ asked.1))),
      (λ ne. (so.1 (λ e. ne (e ∙ sym asked.1)), so.1 (λ e. ne (e ∙ sym asked.1)))),
      refl,
      refl,
      refl,
    )) $ nothing ! $ nothing ! $ fjoin ! $ nothing ! $ fjoin ! $ nothing ! $ fjoin ! $ nothing ! $ fjoin ! $
    nothing ! $ fjoin ! $
    returns ! (look_at ! 0 refl) $ free_all ! refl $ keep ! (3 ∷ 0 ∷ 2 ∷ 1 ∷ []) $
    by ! (leaves 𝓛 En hs c y v (n, h, z) (tt, (tt, (tt, (tt, (tt, tt))))) (tt, (tt, (tt, (tt, (tt, tt))))))))))))))))))
