-- `free` gives the memory of a block back, each of whose places is in it.
use Rattle.std.proofs.Common.{◌≡◌, ℕ, ◌+◌, ◌*◌, ◌^◌, ◌<◌, List, [], ◌∷◌, sym, refl, ap, subst, arith, w64}
use lib.Dec.{T}
use mir.Syntax.{Ty, a_type, dcons, dnil, named, ty_array, ty_unit}
use mir.Raw.{raw as bare}
use mir.Val.{Val, vunit, vint, vptr, has_ty, WT}
use mir.MapTy.{inst_fn}
use base.Logic.{SProp, ent, id⊢}
use base.Fml.{Lft, Share, Fml, ftrue, fsep, flft, froom, Incl-trans}
use prog.Memory.{align, capped}
use prog.Capped.{capped_fits}
use prog.Wp.{WpFn}
use types.Kit.{‵, raw, ◌⊛◌, given, later, at_ret, ◌$◌, ◌∵◌, !, qed, by, move, keep, use1, use3, split, join}
use types.Kit.{fsplit, fsplit3, fjoin, fjoin3, fpick, fpack, learn, suffices, await, rewrite, feq_i}
use types.Run.{unit_lit, size_word, align_word, of_opd, bin, no_more, and_then, first, blocks, exec}
use types.Run.{returns, enter}
use types.ByLocal.{alloc_all, pass_all, free_all, look_at, get, sets, lands_last, is, env}
use contract.BorrowLft.{◌⊑◌}
use contract.Running.{tables}
use contract.Monad.{fact}
use denote.Builtin.{RefOf, usize}
use denote.Exit.{yes, no}
use denote.Plain.{uint_vals, uint_Tells}
use denote.RattleType.{RattleType, owns}
use denote.Ref.{shr_vals, shr_Tells}
use denote.Signature.{types_at, plain}
use denote.Memory.{lone}
use denote.RawPtr.{Ptr, RawPtr, ptr_val, rawptr_Tells, block_ptr, block_of, count_of, at_block}
use denote.Steps.{nothing, heard}
use denote.Param.{bounded, param}
use denote.Struct.Tuple.{Tuple}
use denote.Triple.Call.{calls_at_last}
use denote.Triple.Walked.{Stays, stay_dropped, walk_of, Goes-dropped}
use Rattle.core.proofs.alloc.Calls.{Al, Gives, at_gives, Gives-goes, Gives-Gives}
use Rattle.core.proofs.atomic.Steps.{tail}
use Rattle.core.specs.Mem.{type_size}
use Rattle.atomic_table.proofs.Calls.{fm}
use Rattle.atomic_table.proofs.Walks.{proved, leaves}
use Rattle.std_alloc.specs.Vec.Ownership.{FitsInBlock}
use Rattle.epoch_lend.proofs.BlockParts as parts
use Rattle.epoch_lend.specs.Blocks.{block_owns, block_right, IsBlock}
use Rattle.epoch_lend.specs.contracts.cells.block.Block as block
use Rattle.epoch_lend.specs.contracts.cells.block.Block.free.{ended, clauses}
use Rattle.epoch_lend.specs.contracts.cells.block.Block.free.Key.{name as #self}
use Rattle.epoch_lend.proofs.cells.block.Block.free.Statement.{statement}
use Rattle.epoch_lend.proofs.cells.block.Block.free.Code as code

pub free_spec : {M : Type 1} → statement M
free_spec 𝓤 𝓛 𝓜 𝓡 wired X Z L LZ g d dd met md =
    let H = 𝓛.H in
    let 𝓣 = tables 𝓤 H 𝓜 𝓡 𝓡.env in
    let R : RattleType = param 0 X in
    let A : RattleType = param 1 Z in
    let Br : RattleType = block.the_row R A g in
    let En = ended X Z g d dd in
    let c = clauses X Z g d dd 𝓛 𝓜.mem 𝓡.returns in
    let inst = bounded (a_type ∷ a_type ∷ []) (X, (Z, tt)) (dcons d (dcons dd dnil)) in
    let fn = inst_fn inst code.function in
    let hd : Al = record { row = Z; laws = LZ; g = g; d = d; drops = dd } in
    let al : ℕ = capped (align (lone R.mir)) in
    let p0 = plain (λ _. Br) in
    let p1 = RefOf (0 ∷ []) tt (plain (λ _. A)) (λ _. tt) in
    let p2 = plain (λ _. RawPtr) in
    let p3 = plain (λ _. usize) in
    let hs : Stays En.signature.params En.kept = (
      stay_dropped p0 no,
      (
        stay_dropped p1 yes,
        (
          stay_dropped p2 yes,
          (stay_dropped p3 yes, tt),
        ),
      ),
    ) in
    proved 𝓛 En hs c 𝓜 𝓡 (
      Goes-dropped 𝓛 3 p0 no (λ κs x f. refl),
      (
        Goes-dropped 𝓛 3 p1 yes (λ κs x f. refl),
        (Goes-dropped 𝓛 3 p2 yes (λ κs x f. refl), (Goes-dropped 𝓛 3 p3 yes (λ κs x f. refl), tt)),
      ),
    ) (#self inst) fn
    (code.unfolded 𝓤 H 𝓜 𝓡 wired (X, (Z, tt)) d dd)
    (λ κs. ((λ _. parts.block_val ∷ []), (shr_vals, ((λ p. ptr_val p ∷ []), (uint_vals w64, tt)))))
    (λ κs. (
      (λ x vs so. parts.block_told (Tuple (R ∷ A ∷ [])) vs so.0),
      (
        shr_Tells (named 0) κs.0 A,
        (
          rawptr_Tells,
          (uint_Tells w64, tt),
        ),
      ),
    )) (λ κs qs bounds a gh are.
    let h : Br.Denot = a.0 in
    let hp : ℕ × ℕ = a.1.0.ref_ptr in
    let heap : Z.Denot = a.1.0.now in
    let p : Ptr = a.1.1.0 in
    let n : ℕ = a.1.1.1.0 in
    let τ : Ty = bare (ty_array (lone R.mir) n) in
    let s : ℕ = n * type_size R in
    let κ : Lft = κs.0 in
    let q : Share = qs.0 in
    let frees : Ty → Ptr → Fml = g.dealloc_token heap in
    let y : (walk_of 𝓛 En hs c).Ghost = (
      (
        κs,
        qs,
        bounds,
        a,
        (
          parts.block_val ∷ [],
          (
            vptr hp.0 hp.1 ∷ [],
            (
              ptr_val p ∷
                  [],
              (vint w64 n ∷ [], tt),
            ),
          ),
        ),
      ),
      gh,
    ) in
    let Post : Val → SProp 𝓤 = (walk_of 𝓛 En hs c).post y in
    let others : Fml = fsep (flft κs.1.0 qs.1.0) (fsep (flft κs.1.1.0 qs.1.1.0) ftrue) in
    let Asked : Type 0 = (h.heap ≡ heap) × (h.at ≡ p) × (h.taken ≡ 0) × (h.left ≡ n) in
    let b : ℕ = block_of p in
    let o : ℕ = count_of p in
    let p' : Ptr = block_ptr b o in
    let us : Ptr → List Val = λ u. parts.block_val ∷ vptr hp.0 hp.1 ∷ ptr_val u ∷ vint w64 n ∷ [] in
    let Run : List Val → SProp 𝓤 = λ ws. WpFn 𝓤 H 𝓣.C 𝓣.Λ fn ws Post in
    qed 𝓛 (((‵ (flft κ q) ⊛ ‵ others) ⊛ ‵ (owns (types_at En.signature.params κs) a y.0.4)) ∷ raw (fact 𝓤 _) ∷ raw
    (fact 𝓤 (κs.1.1.0 ⊑ Z.lives)) ∷ raw (fact 𝓤 Asked) ∷ []) ∵
    keep ! (2 ∷ 3 ∷ 0 ∷ []) $ heard ! (κs.1.1.0 ⊑ Z.lives) (λ inside. heard ! Asked (λ asked. split ! $ split ! $
    move ! (2 ∷ []) $ fsplit3 ! $ fsplit ! $ move ! (2 ∷ []) $ fsplit ! $ keep ! (3 ∷ 1 ∷ 5 ∷ 6 ∷ []) $
    -- [the block; the allocator; the tokens]
    rewrite ! 0 (λ (u : Z.Denot × Ptr × ℕ × ℕ). ‵ (block_owns R (g.dealloc_token u.0) u.1 h.stride u.2 u.3)) (λ i. (
      asked.0 i,
      asked.1 i,
      asked.2 i,
      asked.3 i,
    )) refl $
    fsplit3 ! $ move ! (2 ∷ []) $ fpick ! (λ so. fpack ! (IsBlock R p h.stride (0 + n)) (λ _. ftrue) so $
    move ! (1 ∷ 2 ∷ 0 ∷ []) $ fjoin3 ! $
    rewrite ! 0 (λ (u : Ptr). ‵ (block_owns R frees u h.stride 0 n)) (at_block p so.0) refl $
    use1 𝓛 (given (FitsInBlock R n) (‵ (froom τ b o) ⊛ ‵ (block_right R frees n p'))) (parts.whole 𝓛 R frees b o
    h.stride n) $
    learn ! (λ fits. let small : s < 2 ^ 64 = (let x = fits.0 in omega arith) in split ! $
    suffices ! (Run (us p')) (subst (λ (u : Ptr). ent 𝓤 (Run (us p')) (Run (us u))) (sym (at_block p so.0)) (id⊢ 𝓤 (Run
    (us p')))) $
    -- [the room; the right to free it; the allocator; the tokens]
    enter ! 𝓣.C 𝓣.Λ fn (us p') Post $ alloc_all ! (λ l. pass_all ! refl (
      (tt, (tt, tt)),
      (
        (tt, tt),
        (
          (tt, tt),
          (
            (
              tt,
              record { fits = are.1.1.1.0.1 },
            ),
            tt,
          ),
        ),
      ),
    ) $
    let Ev = env fn.locals l in
    first ! $ blocks ! $ sets ! (of_opd ! (get ! refl)) refl (tt, tt) $
    sets ! (is ! (bin ! (get ! refl) (size_word !) (record {
      fits = subst (λ (j : ℕ). j < 2 ^ 64) (sym (parts.uncapped n
          (type_size R) small)) small;
    })) (ap (vint w64) (parts.uncapped n (type_size R) small))) refl (
      tt,
      record {
        fits =
            small;
      },
    ) $
    move ! (2 ∷ 3 ∷ []) $ join ! $ move ! (1 ∷ 2 ∷ 0 ∷ []) $
    let Asks = Gives hd 𝓛 𝓜.mem 𝓡.returns in
    let w : Asks.Ghost = at_gives hd 𝓛 𝓜.mem 𝓡.returns κ q hp heap b o s al τ in
    use3 𝓛 (raw (Asks.pre w)) (Gives-goes hd 𝓛 𝓜.mem 𝓡.returns κ q hp heap (Incl-trans bounds.0 inside) b o s al τ
    (parts.block_size R n small) (parts.block_align R n) small (capped_fits (align (lone R.mir)))) $
    calls_at_last ! (fm 𝓛 𝓜 𝓡) Asks (met.deallocate dd) w (and_then ! (get ! refl) (and_then ! (get ! refl) (and_then !
    (get ! refl) (and_then ! (align_word !) (no_more !))))) (λ u.
    use1 𝓛 (later (given (u ≡ vunit) (‵ (flft κ q)))) (Gives-Gives hd 𝓛 𝓜.mem 𝓡.returns κ q hp heap b o s al τ u) $
    await ! tt $ learn ! (λ e. lands_last ! refl (subst (λ (z : Val). T (has_ty ty_unit z) × WT z) (sym e) (tt, tt)) $
    exec ! 𝓣.C 𝓣.Λ Ev (tail fn.body) (at_ret Ev Post) $ sets ! (of_opd ! (unit_lit !)) refl (tt, tt) $ join ! $
    nothing ! $ feq_i ! (List Val) (vunit ∷ []) (vunit ∷ []) refl $
    nothing ! $ nothing ! $ fjoin ! $ nothing ! $ fjoin ! $ nothing ! $ fjoin ! $ nothing ! $ fjoin ! $
    returns ! (look_at ! 0 refl) $ free_all ! refl $ keep ! (3 ∷ 0 ∷ 1 ∷ 2 ∷ []) $
    by ! (leaves 𝓛 En hs c y vunit tt (tt, (tt, (tt, (tt, tt)))) (tt, (tt, (tt, (tt, tt)))))))))))))
