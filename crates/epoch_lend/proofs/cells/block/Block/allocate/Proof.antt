-- `allocate` asks the allocator for the memory of a block.
use Rattle.std.proofs.Common.{◌≡◌, ℕ, ◌*◌, ◌^◌, ◌<◌, true, false, List, [], ◌∷◌, sym, refl, ap, subst}
use Rattle.std.proofs.Common.{arith, lit<, w64}
use mir.Syntax.{Ty, Body, a_type, dcons, dnil, named, ty_array}
use mir.Raw.{raw as bare}
use mir.Val.{Val, WT, vint, vptr, vstruct, vcons, vnil}
use mir.MapTy.{inst_fn}
use base.Logic.{SProp, emp}
use base.Fml.{Lft, Share, Fml, ftrue, fsep, flft, Incl-trans}
use prog.Memory.{align, capped}
use prog.Capped.{capped_fits}
use prog.Wp.{Wp, after_seq, at_return}
use types.Kit.{‵, raw, ◌⊛◌, later, at_ret, any_q, ◌$◌, ◌∵◌, !, qed, by, move, keep, use0, use1, use2, split, join}
use types.Kit.{fsplit, fjoin, fpack, await, feq_i}
use types.Match.{live, vrt, in_variant}
use types.Run.{stop, fld, lit, size_word, align_word, of_opd, bin, no_more, and_then, first, exec, switches_on}
use types.Run.{returns, enter}
use types.ByLocal.{alloc_all, pass_all, free_all, look_at, get, get_in, get_tag, sets, sets_last, lands_as, is, env}
use types.Part.{agg, whole}
use contract.BorrowLft.{◌⊑◌}
use contract.Running.{tables}
use contract.Monad.{fact, fact_i}
use denote.Builtin.{RefOf, usize}
use denote.Exit.{yes}
use denote.Plain.{uint_vals, uint_Tells}
use denote.RattleType.{RattleType, Valss, owns}
use denote.Ref.{shr_vals, shr_Tells}
use denote.Shadow.{makes_shadow}
use denote.Signature.{types_at, plain}
use denote.Memory.{lone}
use denote.RawPtr.{Ptr, RawPtr, block_ptr}
use denote.Steps.{nothing, heard}
use denote.Param.{bounded, param}
use denote.Struct.Declared as declared
use denote.Struct.Struct.{within}
use denote.Struct.Tuple.{Tuple, tuple_type}
use denote.Triple.Call.{calls_at}
use denote.Triple.Walked.{Stays, stay_dropped, walk_of, Goes-dropped}
use Rattle.core.proofs.alloc.Calls.{Al, Answer-typed, Takes, at_takes, Answered, Takes-goes, Takes-gives, answers}
use Rattle.core.proofs.once.Made.{ok_of, err_of}
use Rattle.core.proofs.slots.Bodies.{after, head, arm_body}
use Rattle.core.specs.Mem.{type_size}
use Rattle.core.specs.contracts.alloc.AllocError as refusal
use Rattle.core.specs.contracts.result.Result as result
use Rattle.core.specs.declared.result.Result.TheVariants.{Ok, Err}
use Rattle.atomic_table.proofs.Calls.{fm}
use Rattle.atomic_table.proofs.Walks.{proved, leaves}
use Rattle.std_alloc.specs.Vec.Ownership.{FitsInBlock}
use Rattle.epoch_lend.proofs.BlockParts as parts
use Rattle.epoch_lend.specs.Blocks.{block_owns}
use Rattle.epoch_lend.specs.contracts.cells.block.Block as block
use Rattle.epoch_lend.specs.contracts.cells.block.Block.allocate.{ended, clauses}
use Rattle.epoch_lend.specs.contracts.cells.block.Block.allocate.Key.{name as #self}
use Rattle.epoch_lend.proofs.cells.block.Block.allocate.Statement.{statement}
use Rattle.epoch_lend.proofs.cells.block.Block.allocate.Code as code

pub allocate_spec : {M : Type 1} → statement M
allocate_spec 𝓤 𝓛 𝓜 𝓡 wired X Z L LZ g d dd met md =
    let H = 𝓛.H in
    let 𝓣 = tables 𝓤 H 𝓜 𝓡 𝓡.env in
    let R : RattleType = param 0 X in
    let A : RattleType = param 1 Z in
    let Br : RattleType = block.the_row R A g in
    let En = ended X Z g d dd in
    let c = clauses X Z g d dd 𝓛 𝓜.mem 𝓡.returns in
    let inst = bounded (a_type ∷ a_type ∷ []) (X, (Z, tt)) (dcons d (dcons dd dnil)) in
    let fn = inst_fn inst code.function in
    let hd : Al = record { row = Z; laws = LZ; g = g; d = d; drops = dd } in
    let al : ℕ = capped (align (lone R.mir)) in
    let p0 = RefOf (0 ∷ []) tt (plain (λ _. A)) (λ _. tt) in
    let p1 = plain (λ _. usize) in
    let hs : Stays En.signature.params En.kept = (stay_dropped p0 yes, (stay_dropped p1 yes, tt)) in
    let Two : RattleType = Tuple (RawPtr ∷ Br ∷ []) in
    let Out : RattleType = result.the_row Two refusal.the_row in
    proved 𝓛 En hs c 𝓜 𝓡 (Goes-dropped 𝓛 3 p0 yes (λ κs x f. refl), (Goes-dropped 𝓛 3 p1 yes (λ κs x f. refl), tt))
    (#self inst) fn (code.unfolded 𝓤 H 𝓜 𝓡 wired (X, (Z, tt)) d dd) (λ κs. (shr_vals, (uint_vals w64, tt)))
    (λ κs. (shr_Tells (named 0) κs.0 A, (uint_Tells w64, tt))) (λ κs qs bounds a gh are.
    let hp : ℕ × ℕ = a.0.ref_ptr in
    let heap : Z.Denot = a.0.now in
    let n : ℕ = a.1.0 in
    let τ : Ty = bare (ty_array (lone R.mir) n) in
    let s : ℕ = n * type_size R in
    let κ : Lft = κs.0 in
    let q : Share = qs.0 in
    let frees : Ty → Ptr → Fml = g.dealloc_token heap in
    let y : (walk_of 𝓛 En hs c).Ghost = ((κs, qs, bounds, a, (vptr hp.0 hp.1 ∷ [], (vint w64 n ∷ [], tt))), gh) in
    let Post : Val → SProp 𝓤 = (walk_of 𝓛 En hs c).post y in
    let others : Fml = fsep (flft κs.1.0 qs.1.0) (fsep (flft κs.1.1.0 qs.1.1.0) ftrue) in
    qed 𝓛 (((‵ (flft κ q) ⊛ ‵ others) ⊛ ‵ (owns (types_at En.signature.params κs) a y.0.4)) ∷ raw (fact 𝓤 _) ∷ raw
    (fact 𝓤 (κs.1.1.0 ⊑ Z.lives)) ∷ raw (fact 𝓤 (FitsInBlock R n)) ∷ []) ∵
    keep ! (2 ∷ 3 ∷ 0 ∷ []) $ heard ! (κs.1.1.0 ⊑ Z.lives) (λ inside. heard ! (FitsInBlock R n) (λ fits.
    let small : s < 2 ^ 64 = (let x = fits.0 in omega arith) in
    split ! $ split ! $ move ! (2 ∷ []) $ fsplit ! $ fsplit ! $ keep ! (1 ∷ 3 ∷ 4 ∷ []) $
    -- [the allocator; the tokens]
    enter ! 𝓣.C 𝓣.Λ fn (vptr hp.0 hp.1 ∷ vint w64 n ∷ []) Post $
    alloc_all ! (λ l. pass_all ! refl ((tt, tt), ((tt, record { fits = are.1.0.1 }), tt)) $
    let Ev = env fn.locals l in
    let both : Body = head (after 2 fn.body) in
    let Then = any_q (after_seq 𝓤 H (Wp 𝓤 H 𝓣.C 𝓣.Λ Ev (after 3 fn.body) (at_return 𝓤 H Ev Post)) (at_return 𝓤 H Ev
    Post)) in
    let Asked = Takes hd 𝓛 𝓜.mem 𝓡.returns in
    let w : Asked.Ghost = at_takes hd 𝓛 𝓜.mem 𝓡.returns κ q hp heap s al τ in
    sets ! (is ! (bin ! (get ! refl) (size_word !) (record {
      fits = subst (λ (j : ℕ). j < 2 ^ 64) (sym (parts.uncapped n
          (type_size R) small)) small;
    })) (ap (vint w64) (parts.uncapped n (type_size R) small))) refl (
      tt,
      record {
        fits =
            small;
      },
    ) $
    use2 𝓛 (raw (Asked.pre w)) (Takes-goes hd 𝓛 𝓜.mem 𝓡.returns κ q hp heap (Incl-trans bounds.0 inside) s al τ
    (parts.block_size R n small) (parts.block_align R n) small (capped_fits (align (lone R.mir)))) $
    calls_at ! (fm 𝓛 𝓜 𝓡) Asked (met.allocate dd) w (and_then ! (get ! refl) (and_then ! (get ! refl) (and_then !
    (align_word !) (no_more !)))) (λ u.
    use1 𝓛 (later (raw (Answered hd 𝓛 𝓜.mem 𝓡.returns heap τ u) ⊛ ‵ (flft κ q))) (Takes-gives hd 𝓛 𝓜.mem 𝓡.returns κ q
    hp heap s al τ u) $ await ! tt $ split ! $ move ! (1 ∷ 2 ∷ []) $ join ! $ move ! (1 ∷ []) $
    -- [what was answered; the tokens]
    answers hd ! 𝓜.mem 𝓡.returns heap τ u
    (λ b o e.
    let p : Ptr = block_ptr b o in
    let made : Br.Denot = record {
      marker = record {};
      heap = heap;
      at = p;
      stride = type_size R;
      taken = 0;
      left = n;
    } in
    let pair : Val = vstruct (vcons (vptr b o) (vcons parts.block_val vnil)) in
    let val : Val = live 0 (vcons pair vnil) in
    let good : WT val = (record { fits = lit< tt }, ((tt, ((tt, tt), tt)), tt)) in
    let Told : Type 0 = (heap ≡ heap) × (p ≡ p) × (0 ≡ 0) × (n ≡ n) in
    use2 𝓛 (‵ (block_owns R frees p (type_size R) 0 n)) (parts.fresh 𝓛 R frees b o n fits) $
    lands_as ! e refl (Answer-typed true b o) $ first ! $
    switches_on ! (get_tag ! (vrt ! refl (fld ! refl (stop !))) (whole !)) $
    exec ! 𝓣.C 𝓣.Λ Ev (arm_body 0 both) Then $
    sets ! (of_opd ! (get_in ! (vrt ! refl (fld ! refl (stop !))) (in_variant ! 0 0 refl refl (whole !)))) refl (
      tt,
      tt,
    ) $
    sets ! (of_opd ! (get ! refl)) refl (tt, tt) $ sets ! (agg ! (no_more !)) refl (tt, tt) $
    sets ! (agg ! (and_then ! (get ! refl) (no_more !))) refl (tt, (tt, tt)) $
    sets ! (agg ! (and_then ! (get ! refl) (and_then ! (get ! refl) (no_more !)))) refl (tt, (tt, ((tt, tt), tt))) $
    sets_last ! (agg ! (and_then ! (lit ! tt) (and_then ! (get ! refl) (no_more !)))) refl (tt, good) $
    exec ! 𝓣.C 𝓣.Λ Ev (after 3 fn.body) (at_ret Ev Post) $ sets ! (of_opd ! (get ! refl)) refl (tt, good) $
    use0 𝓛 (‵ ((parts.Marked (Tuple (R ∷ A ∷ []))).own_val (record {}, tt) (parts.block_val ∷ []))) (parts.block_made
    (Tuple (R ∷ A ∷ [])) 𝓛) $ fjoin ! $ nothing ! $ move ! (1 ∷ 0 ∷ []) $ fjoin ! $
    feq_i ! (List Val) (vptr b o ∷ []) (vptr b o ∷ []) refl $ fjoin ! $
    feq_i ! (List Val) (pair ∷ []) (pair ∷ []) refl $ fjoin ! $
    fpack ! (Valss (RawPtr ∷ Br ∷ [])) (within (declared.shape (tuple_type (RawPtr ∷ Br ∷ []))) (p, (made, tt)) (pair ∷
    [])) (vptr b o ∷ [], (parts.block_val ∷ [], tt)) $
    use1 𝓛 (‵ (Out.own_val (Ok (p, made)) (val ∷ []))) (ok_of 𝓛 Two refusal.the_row (p, made) pair) $
    use0 𝓛 (raw (fact 𝓤 Told)) (fact_i 𝓤 Told (emp 𝓤) (refl, refl, refl, refl)) $
    nothing ! $ nothing ! $ fjoin ! $ nothing ! $ fjoin ! $
    returns ! (look_at ! 0 refl) $ free_all ! refl $ keep ! (3 ∷ 0 ∷ 2 ∷ 1 ∷ []) $
    by ! (leaves 𝓛 En hs c y val (Ok (p, made)) (tt, (tt, tt)) (tt, (tt, tt))))
    (λ e.
    let val : Val = live 1 (vcons (vstruct vnil) vnil) in
    let good : WT val = (record { fits = lit< tt }, (tt, tt)) in
    let F : Fml = refusal.the_row.own_val (record {}) (vstruct vnil ∷ []) in
    lands_as ! e refl (Answer-typed false 0 0) $ first ! $
    switches_on ! (get_tag ! (vrt ! refl (fld ! refl (stop !))) (whole !)) $
    exec ! 𝓣.C 𝓣.Λ Ev (arm_body 1 both) Then $
    sets ! (of_opd ! (get_in ! (vrt ! refl (fld ! refl (stop !))) (in_variant ! 1 0 refl refl (whole !)))) refl (
      tt,
      tt,
    ) $
    sets_last ! (agg ! (and_then ! (lit ! tt) (and_then ! (get ! refl) (no_more !)))) refl (tt, good) $
    exec ! 𝓣.C 𝓣.Λ Ev (after 3 fn.body) (at_ret Ev Post) $ sets ! (of_opd ! (get ! refl)) refl (tt, good) $
    use0 𝓛 (‵ F) (makes_shadow 𝓛 F (λ uss. (tt, tt)) (tt, (refl, tt))) $
    use1 𝓛 (‵ (Out.own_val (Err (record {})) (val ∷ []))) (err_of 𝓛 Two refusal.the_row (record {}) (vstruct vnil)) $
    use0 𝓛 (raw (fact 𝓤 (Unit {0}))) (fact_i 𝓤 (Unit {0}) (emp 𝓤) tt) $
    nothing ! $ nothing ! $ fjoin ! $ nothing ! $ fjoin ! $
    returns ! (look_at ! 0 refl) $ free_all ! refl $ keep ! (3 ∷ 0 ∷ 2 ∷ 1 ∷ []) $
    by ! (leaves 𝓛 En hs c y val (Err (record {})) (tt, (tt, tt)) (tt, (tt, tt)))))))))
