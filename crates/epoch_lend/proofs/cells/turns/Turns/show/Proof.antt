-- `show` lends the value for a lifetime of its own, and is one store, which the log of turns goes with.
use Rattle.std.proofs.Common.{◌≡◌, ℕ, ◌+◌, ◌*◌, List, [], ◌∷◌, sym, refl, ◌∙◌}
use Rattle.std.proofs.Common.{subst, lit<, w64}
use mir.Syntax.{a_type, named}
use mir.Val.{Val, vint, vptr}
use mir.MapTy.{inst_fn}
use base.Fraction.{full_share}
use base.Logic.{SProp, ent, sep, wand, emp, via, apply∗, id⊢}
use base.Fml.{Lft, Share, Fml, ftrue, fsep, fex, flft, fbor}
use types.Logic.{sem}
use types.Kit.{‵, raw, ◌⊛◌, some, later, mean, at_ret, ◌$◌, ◌∵◌, !, qed, by, move, keep, split, join, drop, suffices}
use types.Kit.{fsplit, fjoin, fpick, pick, use0, use1, use2, use3, await, rewrite}
use types.Run.{stop, fld, addr, lit, no_more, and_then, first, blocks, exec, Calls-last, returns, enter}
use types.ByLocal.{alloc_all, pass_all, free_all, look_at, get, through, sets, lands_last, env}
use types.Part.{agg}
use contract.Running.{tables}
use contract.Monad.{fact, fact_i}
use contract.BorrowLft.{◌⊑◌}
use contract.Shared.{Lends-one}
use denote.Exit.{yes, no}
use denote.RattleType.{RattleType, owns}
use denote.Signature.{types_at, plain}
use denote.RawPtr.{Ptr, block_ptr, lies_at, RawPtr, ptr_val, rawptr_vals, rawptr_Tells, block_of, count_of, at_block}
use denote.Steps.{nothing, heard}
use denote.Opens.{unhide}
use denote.Param.{param, layouts}
use denote.Param.Laws.{param_laws}
use denote.Builtin.{RefOf, u64}
use denote.Ref.{shr_vals, shr_Tells}
use denote.Plain.{uint_vals, uint_Tells}
use denote.Struct.Lending.{lent_at, lent_at_shr_laws, Lends-lies}
use denote.Triple.Walked.{Stays, stay_dropped, walk_of, Goes-dropped}
use Rattle.core.proofs.atomic.Steps.{tail}
use Rattle.core.specs.Sync.RawAtomic.{asks, always}
use Rattle.atomic_table.proofs.Walks.{proved, leaves}
use Rattle.atomic_table.proofs.Calls.{fm, seq_cst, stored, has_stored, stores}
use prog.Wp.{WpFn}
use Rattle.epoch_lend.proofs.Fields.{word, word_typed}
use Rattle.epoch_lend.proofs.PartSteps.{freezes, Frozen, tokens_whole}
use Rattle.epoch_lend.specs.Turning.{Awaits, TurnNames, TurnOf, turn_is, filled_has, value_in}
use Rattle.epoch_lend.specs.contracts.cells.turns.Turns as turns_is
use Rattle.epoch_lend.specs.contracts.cells.turns.Filled as filled_is
use Rattle.epoch_lend.specs.contracts.cells.turns.TurnName as name_is
use Rattle.epoch_lend.proofs.TurnFields as fields
use Rattle.epoch_lend.proofs.Turned as steps
use Rattle.epoch_lend.specs.contracts.cells.turns.Turns.show.{ended, clauses}
use Rattle.epoch_lend.specs.contracts.cells.turns.Turns.show.Key.{name as #self}
use Rattle.epoch_lend.proofs.cells.turns.Turns.show.Statement.{statement}
use Rattle.epoch_lend.proofs.cells.turns.Turns.show.Code as code

pub show_spec : {M : Type 1} → statement M
show_spec 𝓤 𝓛 𝓜 𝓡 wired X L =
    let H = 𝓛.H in
    let 𝓣 = tables 𝓤 H 𝓜 𝓡 𝓡.env in
    let R : RattleType = param 0 X in
    let En = ended X in
    let c = clauses X 𝓛 𝓜.mem 𝓡.returns in
    let inst = layouts (a_type ∷ []) (X, tt) in
    let fn = inst_fn inst code.function in
    let closed = code.unfolded 𝓤 H 𝓜 𝓡 wired (X, tt) in
    let Row : RattleType = turns_is.the_row R in
    let Cr : RattleType = filled_is.the_row R in
    let Nr : RattleType = name_is.the_row R in
    let LR = param_laws 0 X L in
    let p0 = RefOf (0 ∷ []) tt (plain (λ _. Row)) (λ _. tt) in
    let p1 = plain (λ _. RawPtr) in
    let p2 = plain (λ _. Cr) in
    let p3 = plain (λ _. u64) in
    let p4 = plain (λ _. u64) in
    let hs : Stays En.signature.params En.kept = (
      stay_dropped p0 yes,
      (stay_dropped p1 yes, (stay_dropped p2 no, (stay_dropped p3 yes, (stay_dropped p4 yes, tt)))),
    ) in
    proved 𝓛 En hs c 𝓜 𝓡 (
      Goes-dropped 𝓛 2 p0 yes (λ κs x f. refl),
      (
        Goes-dropped 𝓛 2 p1 yes (λ κs x f. refl),
        (
          Goes-dropped 𝓛 2 p2 no (λ κs x f. refl),
          (Goes-dropped 𝓛 2 p3 yes (λ κs x f. refl), (Goes-dropped 𝓛 2 p4 yes (λ κs x f. refl), tt)),
        ),
      ),
    ) (#self inst) fn
    closed
    (λ κs. (shr_vals, (rawptr_vals, ((λ x. word x.at ∷ []), (uint_vals w64, (uint_vals w64, tt))))))
    (λ κs. (
      shr_Tells (named 0) κs.0 Row,
      (
        rawptr_Tells,
        ((λ x vs so. fields.filled_told R x.at vs so.0), (uint_Tells w64, (uint_Tells w64, tt))),
      ),
    )) (λ κs qs bounds a gh are.
    let rp : ℕ × ℕ = a.0.ref_ptr in
    let κ : Lft = κs.0 in
    let q : Share = qs.0 in
    let d : TurnNames = a.0.now in
    let b : ℕ = block_of d.at in
    let o : ℕ = count_of d.at in
    let place : Ptr = a.1.0 in
    let h : Cr.Denot = a.1.1.0 in
    let p : Ptr = h.at in
    let t : ℕ = a.1.1.1.0 in
    let w : ℕ = a.1.1.1.1.0 in
    let us : List Val = vptr rp.0 rp.1 ∷ vptr b o ∷ word p ∷ vint w64 t ∷ vint w64 w ∷ [] in
    let y : (walk_of 𝓛 En hs c).Ghost = (
      (
        κs,
        qs,
        bounds,
        a,
        (
          vptr rp.0 rp.1 ∷ [],
          (ptr_val place ∷ [], (word p ∷ [], (vint w64 t ∷ [], (vint w64 w ∷ [], tt)))),
        ),
      ),
      gh,
    ) in
    let Post : Val → SProp 𝓤 = (walk_of 𝓛 En hs c).post y in
    let Run : List Val → SProp 𝓤 = λ ws. WpFn 𝓤 H 𝓣.C 𝓣.Λ fn ws Post in
    let AtPlace : Type 0 = place ≡ d.at in
    let OfPlace : Type 0 = (h.state ≡ d.state) × (h.at ≡ d.value) in
    let OfTurn : Type 0 = Awaits t h.word × (w ≡ 4 * t + 2) in
    let tX : Fml = flft κs.1.0 qs.1.0 in
    let inX : Type 0 = κs.1.0 ⊑ X.lives in
    qed 𝓛 (((‵ (flft κ q) ⊛ ‵ (fsep tX ftrue)) ⊛ ‵ (owns (types_at En.signature.params κs) a y.0.4)) ∷ raw (fact 𝓤
    inX) ∷
    raw (fact 𝓤 AtPlace) ∷ raw (fact 𝓤 OfPlace) ∷ raw (fact 𝓤 OfTurn) ∷ []) ∵
    move ! (1 ∷ 2 ∷ 3 ∷ 4 ∷ []) $ heard ! inX (λ le. heard ! AtPlace (λ at_place. heard ! OfPlace (λ of_place. heard !
    OfTurn (λ of_turn. split ! $
    split ! $
    move ! (2 ∷ []) $ fsplit ! $ fsplit ! $
    -- [its bytes; the place; the pointer and the rest; κ; X's token]
    keep ! (2 ∷ 1 ∷ 3 ∷ 4 ∷ []) $ fsplit ! $ drop ! $ fsplit ! $ fsplit ! $ keep ! (1 ∷ 3 ∷ 4 ∷ 5 ∷ []) $
    let x : R.Denot = h.value in
    move ! (1 ∷ []) $ unhide ! $ fsplit ! $ fpick ! (λ inb. drop ! $ move ! (1 ∷ 0 ∷ []) $
    let there : d.at ≡ block_ptr b o = at_block d.at inb.0 in
    rewrite ! 0 (λ (z : Ptr × ℕ × ℕ). ‵ (filled_has R z.0 z.1 z.2 x)) (λ i. (
      (of_place.1 ∙ inb.1) i,
      of_place.0 i,
      h.word,
    )) refl $ fsplit ! $
    -- [obs; the value; the place; κ; X's token]
    suffices ! (Run us) (subst (λ (u : Ptr). ent 𝓤 (Run us) (Run (vptr rp.0 rp.1 ∷ ptr_val u ∷ word p ∷ vint w64 t ∷
    vint w64 w ∷ []))) (sym (at_place ∙ there)) (id⊢ 𝓤 (Run us))) $
    enter ! 𝓣.C 𝓣.Λ fn us Post $ alloc_all ! (λ l. pass_all ! refl (
      (tt, tt),
      (
        (tt, tt),
        (word_typed p, ((tt, record { fits = are.1.1.1.0.1 }), ((tt, record { fits = are.1.1.1.1.0.1 }), tt))),
      ),
    ) $ let Ev = env fn.locals l in
    move ! (4 ∷ []) $ fsplit ! $ move ! (3 ∷ 0 ∷ []) $
    let v : Ptr = value_in R d.at in
    let laws = lent_at_shr_laws R LR.shr_laws v x in
    use2 𝓛 (later (‵ (fex ℕ (Frozen (lent_at R v x) laws 𝓛 (lies_at R full_share v x))) ⊛ ‵ tX)) (freezes
    (lent_at R v x) laws 𝓛 (lies_at R full_share v x) R.lives κs.1.0 qs.1.0 (Lends-lies 𝓛 R R.lives v x (LR.shares 𝓛 x))
    le) $
    await ! tt $ split ! $ fpick ! (λ n. fsplit ! $ move ! (1 ∷ []) $ fsplit ! $
    use1 𝓛 (‵ (flft (n ∷ []) full_share)) (tokens_whole 𝓛 n) $
    -- [the token; shown; the value afterwards; X's token; nothing; obs; the place; κ]
    move ! (1 ∷ 2 ∷ []) $ fjoin ! $ move ! (1 ∷ 0 ∷ []) $ fjoin ! $ move ! (3 ∷ 0 ∷ []) $ fjoin ! $
    let e : TurnOf R.Denot = (x, n) in
    -- [what is shown; X's token; nothing; the place; κ]
    move ! (3 ∷ []) $ fpick ! (λ α. fsplit ! $ move ! (0 ∷ 5 ∷ []) $
    use2 𝓛 (later (some (λ (s : Share). ‵ (flft α s) ⊛ raw (wand 𝓤 (𝓛.A.lft α s) (H.⇛ (𝓛.A.lft κ q)))))) (Lends-one 𝓛
    𝓜 𝓡
    κ α q) $ await ! tt $ pick ! (λ s. split ! $
    let after : Fml = fsep (flft α s) (turn_is R d.log t e) in first ! $ blocks ! $
    sets ! (addr ! (through ! refl (fld ! refl (stop !)))) refl (tt, tt) $ move ! (2 ∷ 0 ∷ 3 ∷ []) $
    use3 𝓛 (raw (𝓣.C _ (vptr b (o + 0) ∷ vint w64 w ∷ seq_cst ∷ []) (λ u. mean 𝓛 (stored after u))))
    (via 𝓤 _ (subst (λ (k : ℕ). ent 𝓤 (sep 𝓤 (𝓛.A.inv (fbor α (steps.Memory 𝓛 R d α s b o))) (sep 𝓤 (𝓛.A.lft α s) (sem 𝓛
    (steps.Showing 𝓛 R d t h.word e)))) (asks 𝓛 (block_ptr b (o + 0)) (λ _. k) always (λ _. after))) (sym of_turn.1)
    (steps.shows_it 𝓛 R d α s b o t h.word e of_turn.0))
    (stores 𝓛 𝓜 𝓡 (code.calls-core::raw_atomic::store 𝓡.env wired) (block_ptr b
    (o + 0)) w are.1.1.1.1.0.1 after)) $
    sets ! (agg ! (and_then ! (lit ! tt) (no_more !))) refl (tt, (record { fits = lit< tt }, tt)) $
    Calls-last ! (fm 𝓛 𝓜 𝓡) (stored after) (and_then ! (get ! refl) (and_then ! (get ! refl) (and_then ! (get ! refl)
    (no_more !)))) (λ u. has_stored ! after (
    lands_last ! refl (tt, tt) $ exec ! 𝓣.C 𝓣.Λ Ev (tail fn.body) (at_ret Ev Post) $
    sets ! (agg ! (no_more !)) refl (tt, tt) $
    sets ! (agg ! (and_then ! (get ! refl) (and_then ! (get ! refl) (no_more !)))) refl (fields.name_typed t
    are.1.1.1.0.1) $
    -- [the place's lifetime and the entry; its way back; X's token; nothing]
    fsplit ! $ move ! (0 ∷ 2 ∷ []) $ use2 𝓛 (later (‵ (flft κ q))) (apply∗ 𝓤 (𝓛.A.lft α s) (H.⇛ (𝓛.A.lft κ q))) $
    await ! tt $
    move ! (2 ∷ 3 ∷ []) $ fjoin ! $ move ! (1 ∷ 0 ∷ []) $ join ! $ move ! (1 ∷ []) $
    let r : Nr.Denot = record { turn = t; marker = record {}; log = d.log; value = x; lifetime = n } in
    let Told : Type 0 = (t ≡ t) × (d.log ≡ d.log) × (x ≡ x) in
    use0 𝓛 (‵ ((fields.Name R).own_val (t, (record {}, tt)) (fields.name_val t ∷ []))) (fields.name_made R 𝓛 t
    are.1.1.1.0.1) $
    fjoin ! $
    use0 𝓛 (raw (fact 𝓤 Told)) (fact_i 𝓤 Told (emp 𝓤) (refl, refl, refl)) $ nothing ! $ nothing ! $ fjoin ! $
    nothing ! $ fjoin ! $ nothing ! $ fjoin ! $ nothing ! $ fjoin ! $ nothing ! $ fjoin ! $
    returns ! (look_at ! 0 refl) $ free_all ! refl $ keep ! (3 ∷ 0 ∷ 2 ∷ 1 ∷ []) $
    by ! (leaves 𝓛 En hs c y (fields.name_val t) r (tt, (tt, (tt, (tt, (tt, tt))))) (
      tt,
      (
        tt,
        (
          tt,
          (
            tt,
            (
              tt,
              tt,
            ),
          ),
        ),
      ),
    ))))))))))))))
