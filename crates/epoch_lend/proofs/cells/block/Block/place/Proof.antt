-- `place` returns the pointer that is so many values further on.
use Rattle.std.proofs.Common.{◌≡◌, ℕ, ◌+◌, ◌*◌, ◌^◌, ◌<◌, List, [], ◌∷◌, ◌∙◌, sym, refl, ap, subst, w64}
use native.Mathlib.Nat.{add_comm}
use mir.Syntax.{a_type, dcons, dnil, named}
use mir.Val.{Val, vint, vptr}
use mir.MapTy.{inst_fn}
use base.Logic.{SProp, ent, emp, id⊢}
use base.Fml.{Lft, Fml, ftrue, fsep, flft, fhide}
use prog.Wp.{WpFn}
use types.Kit.{‵, raw, ◌⊛◌, at_ret, ◌$◌, ◌∵◌, !, qed, by, move, keep, drop, split, fsplit, fjoin, fpick, use0, use1}
use types.Kit.{feq_i, suffices}
use types.Run.{of_opd, bin, size_word, returns, enter, first, blocks, exec}
use types.ByLocal.{alloc_all, pass_all, free_all, look_at, get, sets, sets_last, is, env}
use contract.Running.{tables}
use contract.Monad.{fact, fact_i}
use denote.Builtin.{RefOf, usize}
use denote.Exit.{yes}
use denote.Memory.{hidden_shr}
use denote.Opens.{unhide}
use denote.Plain.{uint_vals, uint_Tells}
use denote.RattleType.{RattleType, owns}
use denote.Ref.{shr_vals, shr_Tells}
use denote.Signature.{types_at, plain}
use denote.RawPtr.{RawPtr, Ptr, null_ptr, block_ptr, ptr_val, rawptr_Tells, InBlock, block_of, count_of, at_block, ◌+ₚ◌}
use denote.Steps.{nothing, heard}
use denote.Struct.Lending.{lent_out}
use denote.Struct.Tuple.{Tuple}
use denote.Param.{bounded, param}
use denote.Triple.Walked.{Stays, stay_dropped, walk_of, Goes-dropped}
use Rattle.core.proofs.atomic.Steps.{tail}
use Rattle.core.specs.Mem.{type_size}
use Rattle.core.specs.contracts.marker.PhantomData as marker
use Rattle.atomic_table.proofs.Walks.{proved, leaves}
use Rattle.epoch_lend.proofs.BlockParts as parts
use Rattle.epoch_lend.specs.Blocks.{place_in, block_shares}
use Rattle.epoch_lend.specs.contracts.cells.block.Block as block
use Rattle.epoch_lend.specs.contracts.cells.block.Block.place.{ended, clauses}
use Rattle.epoch_lend.specs.contracts.cells.block.Block.place.Key.{name as #self}
use Rattle.epoch_lend.proofs.cells.block.Block.place.Statement.{statement}
use Rattle.epoch_lend.proofs.cells.block.Block.place.Code as code

-- where the machine finds a place
on : (p : Ptr) (k : ℕ) → InBlock p → vptr (block_of p) (k + count_of p) ≡ ptr_val (p +ₚ k)
on (block_ptr b o) k so = ap (vptr b) (add_comm k o)
on null_ptr k so = absurd so

pub place_spec : {M : Type 1} → statement M
place_spec 𝓤 𝓛 𝓜 𝓡 wired X Z L LZ g d dd met md =
    let H = 𝓛.H in
    let 𝓣 = tables 𝓤 H 𝓜 𝓡 𝓡.env in
    let R : RattleType = param 0 X in
    let A : RattleType = param 1 Z in
    let Br : RattleType = block.the_row R A g in
    let En = ended X Z g d dd in
    let c = clauses X Z g d dd 𝓛 𝓜.mem 𝓡.returns in
    let inst = bounded (a_type ∷ a_type ∷ []) (X, (Z, tt)) (dcons d (dcons dd dnil)) in
    let fn = inst_fn inst code.function in
    let p0 = RefOf (0 ∷ []) tt (plain (λ _. Br)) (λ _. tt) in
    let p1 = plain (λ _. RawPtr) in
    let p2 = plain (λ _. usize) in
    let hs : Stays En.signature.params En.kept = (
      stay_dropped p0 yes,
      (
        stay_dropped p1 yes,
        (
          stay_dropped p2 yes,
          tt,
        ),
      ),
    ) in
    proved 𝓛 En hs c 𝓜 𝓡 (
      Goes-dropped 𝓛 3 p0 yes (λ κs x f. refl),
      (
        Goes-dropped 𝓛 3 p1 yes (λ κs x f. refl),
        (Goes-dropped 𝓛 3 p2 yes (λ κs x f. refl), tt),
      ),
    ) (#self inst) fn (code.unfolded 𝓤 H 𝓜 𝓡 wired (X, (Z, tt)) d dd)
    (λ κs. (shr_vals, ((λ p. ptr_val p ∷ []), (uint_vals w64, tt))))
    (λ κs. (shr_Tells (named 0) κs.0 Br, (rawptr_Tells, (uint_Tells w64, tt)))) (λ κs qs bounds a gh are.
    let h : Br.Denot = a.0.now in
    let rp : ℕ × ℕ = a.0.ref_ptr in
    let p : Ptr = a.1.0 in
    let n : ℕ = a.1.1.0 in
    let s : ℕ = type_size R in
    let b : ℕ = block_of p in
    let o : ℕ = count_of p in
    let κ : Lft = κs.0 in
    let others : Fml = fsep (flft κs.1.0 qs.1.0) (fsep (flft κs.1.1.0 qs.1.1.0) ftrue) in
    let y : (walk_of 𝓛 En hs c).Ghost = (
      (
        κs,
        qs,
        bounds,
        a,
        (
          vptr rp.0 rp.1 ∷ [],
          (
            ptr_val p ∷ [],
            (
              vint w64 n ∷ [],
              tt,
            ),
          ),
        ),
      ),
      gh,
    ) in
    let Post : Val → SProp 𝓤 = (walk_of 𝓛 En hs c).post y in
    let Run : List Val → SProp 𝓤 = λ ws. WpFn 𝓤 H 𝓣.C 𝓣.Λ fn ws Post in
    let Asked : Type 0 = (p ≡ h.at) × (n < h.taken + h.left) in
    qed 𝓛 (((‵ (flft κ qs.0) ⊛ ‵ others) ⊛ ‵ (owns (types_at En.signature.params κs) a y.0.4)) ∷ raw (fact 𝓤 _) ∷ raw
    (fact 𝓤 _) ∷ raw (fact 𝓤 Asked) ∷ []) ∵
    keep ! (3 ∷ 0 ∷ []) $ heard ! Asked (λ asked. split ! $ move ! (1 ∷ []) $ fsplit ! $ fsplit ! $
    keep ! (1 ∷ 3 ∷ []) $
    use1 𝓛 (‵ (hidden_shr (parts.Marked (Tuple (R ∷ A ∷ []))) κ (record {}, tt) rp.0 rp.1) ⊛ ‵ (fhide (block_shares R
    h.at h.stride (h.taken + h.left) κ))) (lent_out 𝓛 (block.struct R A g) (block.the_codes X.Denot Z.Denot R.coded
    A.coded (marker.the_row (Tuple (R ∷ A ∷ []))).coded) (block.the_heap R A g) (block.the_lent R A g) κ h rp.0 rp.1) $
    split ! $ drop ! $ unhide ! $ fpick ! (λ so. drop ! $
    -- [the tokens]
    let inb : InBlock p = subst InBlock (sym asked.0) so.0 in
    let small : n * s < 2 ^ 64 = parts.near s n (h.taken + h.left) asked.1 so.2.0 in
    let us : List Val = vptr rp.0 rp.1 ∷ vptr b o ∷ vint w64 n ∷ [] in
    let q : Ptr = place_in h.at h.stride n in
    let out : Val = vptr b (n * s + o) in
    let found : out ≡ ptr_val q = on p (n * s) inb ∙ (λ i. ptr_val (place_in (asked.0 i) (sym so.1 i) n)) in
    suffices ! (Run us) (subst (λ (u : Ptr). ent 𝓤 (Run us) (Run (vptr rp.0 rp.1 ∷ ptr_val u ∷ vint w64 n ∷ []))) (sym
    (at_block p inb)) (id⊢ 𝓤 (Run us))) $
    enter ! 𝓣.C 𝓣.Λ fn us Post $ alloc_all ! (λ l. pass_all ! refl (
      (tt, tt),
      (
        (tt, tt),
        (
          (
            tt,
            record {
              fits =
                  are.1.1.0.1;
            },
          ),
          tt,
        ),
      ),
    ) $
    let Ev = env fn.locals l in
    first ! $ blocks ! $
    sets ! (is ! (bin ! (get ! refl) (size_word !) (record {
      fits = subst (λ (j : ℕ). j < 2 ^ 64) (sym (parts.uncapped n
          s small)) small;
    })) (ap (vint w64) (parts.uncapped n s small))) refl (tt, record { fits = small }) $
    sets_last ! (bin ! (get ! refl) (get ! refl) tt) refl (tt, tt) $ exec ! 𝓣.C 𝓣.Λ Ev (tail fn.body) (at_ret Ev Post) $
    sets ! (of_opd ! (get ! refl)) refl (tt, tt) $
    let Told : Type 0 = q ≡ q in
    use0 𝓛 (raw (fact 𝓤 Told)) (fact_i 𝓤 Told (emp 𝓤) refl) $
    feq_i ! (List Val) (out ∷ []) (ptr_val q ∷ []) (ap (λ (v : Val). v ∷ []) found) $
    nothing ! $ nothing ! $ fjoin ! $ nothing ! $ fjoin ! $ nothing ! $ fjoin ! $
    returns ! (look_at ! 0 refl) $ free_all ! refl $ keep ! (3 ∷ 0 ∷ 1 ∷ 2 ∷ []) $
    by ! (leaves 𝓛 En hs c y out q (tt, (tt, (tt, tt))) (tt, (tt, (tt, tt))))))))
