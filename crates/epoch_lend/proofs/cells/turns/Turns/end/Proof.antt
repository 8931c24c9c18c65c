-- `end` takes the word, and what the place has left.
use Rattle.std.proofs.Common.{◌≡◌, ℕ, ◌*◌, ◌^◌, List, [], ◌∷◌, ◌++◌, sym, refl, subst, w64, ap, T, ◌+◌, ◌∙◌}
use mir.Syntax.{a_type, ty_int}
use mir.Val.{Val, vint, vstruct, of_list, vptr, WT, has_ty}
use mir.MapTy.{inst_fn}
use base.Logic.{SProp, ent, emp, id⊢}
use base.Fml.{ftrue, fsep, feq}
use types.Kit.{‵, raw, ◌⊛◌, some, given, ◌$◌, ◌∵◌, !, qed, by, move, keep, drop, split, join, use3, at_ret}
use types.Kit.{fsplit, fsplit3, fjoin, fjoin3, fpick, fpack, pick, learn, use0, use1, rewrite, feq_i, flt_i, suffices}
use types.Run.{stop, fld, of_opd, no_more, and_then, returns, enter, load, look, first, blocks, exec}
use types.ByLocal.{alloc_all, pass_all, free_all, look_at, get, sets, through, sets_last, is, env}
use types.Part.{agg}
use contract.Running.{tables}
use contract.Monad.{fact, fact_i}
use prog.Wp.{WpFn}
use denote.Exit.{yes, no}
use denote.RattleType.{RattleType, Valss, owns}
use denote.Signature.{plain}
use denote.RawPtr.{Ptr, RawPtr, ptr_val, rawptr_Tells, block_ptr, block_of, count_of, at_block}
use denote.Steps.{nothing, heard, peeks}
use denote.Laws.{Is, shows}
use denote.Builtin.{u64}
use denote.Param.{param, layouts}
use denote.Triple.Entry.{alive}
use denote.Triple.Walked.{Stays, stay_dropped, walk_of, Goes-dropped}
use Rattle.atomic_table.proofs.Walks.{proved_at, leaves}
use base.Fraction.{full_share}
use Rattle.core.proofs.atomic.Steps.{tail}
use Rattle.core.specs.Sync.RawAtomic.{word as at_word}
use Rattle.epoch_lend.proofs.PlaceMemory.{whole as whole_again}
use Rattle.epoch_lend.proofs.Fields.{pair_of, word, word_typed, marked_typed}
use Rattle.epoch_lend.specs.Turning.{TurnNames, claim_of, value_in}
use Rattle.epoch_lend.specs.contracts.cells.turns.Turns as turns_is
use Rattle.epoch_lend.specs.contracts.cells.turns.TurnClaim as claim_is
use Rattle.epoch_lend.specs.contracts.cells.turns.Space as space_is
use Rattle.epoch_lend.proofs.TurnFields as fields
use Rattle.epoch_lend.proofs.Turned as steps
use Rattle.epoch_lend.specs.contracts.cells.turns.Turns.end.{ended, clauses}
use Rattle.epoch_lend.specs.contracts.cells.turns.Turns.end.Key.{name as #self}
use Rattle.epoch_lend.proofs.cells.turns.Turns.end.Statement.{statement}
use Rattle.epoch_lend.proofs.cells.turns.Turns.end.Code as code

pub end_spec : {M : Type 1} → statement M
end_spec 𝓤 𝓛 𝓜 𝓡 wired X L =
    let H = 𝓛.H in
    let 𝓣 = tables 𝓤 H 𝓜 𝓡 𝓡.env in
    let R : RattleType = param 0 X in
    let En = ended X in
    let c = clauses X 𝓛 𝓜.mem 𝓡.returns in
    let inst = layouts (a_type ∷ []) (X, tt) in
    let fn = inst_fn inst code.function in
    let closed = code.unfolded 𝓤 H 𝓜 𝓡 wired (X, tt) in
    let Row : RattleType = turns_is.the_row R in
    let F : RattleType = fields.Inside R in
    let Wr : RattleType = space_is.the_row R in
    let Cr : RattleType = claim_is.the_row Wr in
    let p0 = plain (λ _. Row) in
    let p1 = plain (λ _. RawPtr) in
    let hs : Stays En.signature.params En.kept = (stay_dropped p0 no, (stay_dropped p1 yes, tt)) in
    proved_at 𝓛 En hs c 𝓜 𝓡 (Goes-dropped 𝓛 1 p0 no (λ κs x f. refl), (Goes-dropped 𝓛 1 p1 yes (λ κs x f. refl), tt))
    (#self inst) fn closed (λ z are.
    let κs = z.0.0 in
    let qs = z.0.1 in
    let d : TurnNames = z.0.3.0 in
    let b : ℕ = block_of d.at in
    let o : ℕ = count_of d.at in
    let p : Ptr = z.0.3.1.0 in
    let Asked : Type 0 = p ≡ d.at in
    let Post : Val → SProp 𝓤 = (walk_of 𝓛 En hs c).post z in
    let Run : List Val → SProp 𝓤 = λ ws. WpFn 𝓤 H 𝓣.C 𝓣.Λ fn ws Post in
    qed 𝓛 ((raw (alive 𝓛 En.signature κs qs) ⊛ ‵ (fsep (Row.own_val d z.0.4.0) (fsep (RawPtr.own_val p z.0.4.1.0)
    ftrue))) ∷ raw (fact 𝓤 _) ∷ raw (fact 𝓤 Asked) ∷ []) ∵
    keep ! (2 ∷ 0 ∷ []) $ heard ! Asked (λ asked. split ! $ move ! (1 ∷ []) $ fsplit3 ! $ keep ! (0 ∷ 3 ∷ []) $
    -- [the place; the tokens]
    fsplit ! $ drop ! $ fsplit ! $
    peeks ! F (Is F) (shows 𝓛 F) (record { marker = record {} }) z.0.4.0 (λ bytes.
    let told = fields.inside_told R z.0.4.0 bytes in
    drop ! $ fsplit3 ! $ fpick ! (λ inb. drop ! $ fpick ! (λ n. fsplit ! $
    -- [the word; what it says; the way back; the tokens]
    let there : d.at ≡ block_ptr b o = at_block d.at inb.0 in
    use1 𝓛 (given (T (has_ty (ty_int w64) (vint w64 n)) × WT (vint w64 n)) (‵ (at_word b (o + 0) n))) (𝓛.laws.at_wt
    full_share (ty_int w64) b (o + 0) (vint w64 n)) $ learn ! (λ good.
    let fits = good.1.fits in
    let us : List Val = fields.none_val ∷ vptr b o ∷ [] in
    suffices ! (Run us) (subst (λ (ws : List Val). ent 𝓤 (Run us) (Run ws)) (sym (λ i. told i ++ ((rawptr_Tells p
    z.0.4.1.0 are.1.0 ∙ ap (λ (y : Ptr). ptr_val y ∷ []) (asked ∙ there)) i ++ []))) (id⊢ 𝓤 (Run us))) $
    enter ! 𝓣.C 𝓣.Λ fn us Post $ alloc_all ! (λ l. pass_all ! refl (fields.none_typed, ((tt, tt), tt)) $
    let Ev = env fn.locals l in
    first ! $ blocks ! $
    sets_last ! (of_opd ! (load ! (through ! refl (fld ! refl (stop !))) (look ! 0 refl))) refl (
      tt,
      record {
        fits =
            fits;
      },
    )
    $ exec ! 𝓣.C 𝓣.Λ Ev (tail fn.body) (at_ret Ev Post) $
    sets ! (of_opd ! (get ! refl)) refl (tt, record { fits = fits }) $
    sets ! (is ! (agg ! (and_then ! (get ! refl) (no_more !))) (ap (λ (y : Ptr). word y) (sym (asked ∙ there)))) refl
    (word_typed p) $
    sets ! (agg ! (and_then ! (get ! refl) (and_then ! (get ! refl) (no_more !)))) refl (marked_typed p n fits) $
    move ! (1 ∷ []) $
    use1 𝓛 (some (λ (k : ℕ). given ((t : ℕ) → n ≡ 4 * t → k ≡ 1) (‵ (claim_of R (value_in R d.at) d.state n k))))
    (steps.leaves 𝓛 R d n) $ pick ! (λ k. learn ! (λ so.
    rewrite ! 0 (λ (y : Ptr). ‵ (claim_of R (value_in R y) d.state n k)) there refl $
    use3 𝓛 (‵ (claim_of Wr (block_ptr b o) d.state n k)) (whole_again X b o 𝓛 d.state n k) $
    rewrite ! 0 (λ (y : Ptr). ‵ (claim_of Wr y d.state n k)) (sym (asked ∙ there)) refl $
    let h : Cr.Denot = record { at = p; right = k; state = d.state; word = n } in
    let v : Val = pair_of n (word p) in
    let Vacant : Type 0 = (t : ℕ) → n ≡ 4 * t → k ≡ 1 in
    let At : Type 0 = p ≡ d.at in
    use0 𝓛 (‵ ((fields.Claim Wr).own_val (p, tt) (word p ∷ []))) (fields.claim_made Wr 𝓛 p) $ fjoin ! $ nothing ! $
    flt_i ! n (2 ^ 64) fits $ feq_i ! (List Val) (vint w64 n ∷ []) (vint w64 n ∷ []) refl $ fjoin ! $
    move ! (0 ∷ 2 ∷ 1 ∷ []) $ fjoin3 ! $ feq_i ! (List Val) (v ∷ []) (v ∷ []) refl $ fjoin ! $
    fpack ! (Valss (u64 ∷ Cr ∷ [])) (λ uss. fsep (feq (List Val) (v ∷ []) (vstruct (of_list (uss.0 ++ (uss.1.0 ++
    []))) ∷ [])) (owns (u64 ∷ Cr ∷ []) (n, (h, tt)) uss)) (vint w64 n ∷ [], (word p ∷ [], tt)) $
    use0 𝓛 (raw (fact 𝓤 At)) (fact_i 𝓤 At (emp 𝓤) asked) $
    use0 𝓛 (raw (fact 𝓤 Vacant)) (fact_i 𝓤 Vacant (emp 𝓤) so) $ join ! $ nothing ! $ nothing ! $ fjoin ! $
    nothing ! $ fjoin ! $
    returns ! (look_at ! 0 refl) $ free_all ! refl $ keep ! (3 ∷ 0 ∷ 2 ∷ 1 ∷ []) $
    by ! (leaves 𝓛 En hs c z v (n, h) (tt, (tt, tt)) (tt, (tt, tt))))))))))))
