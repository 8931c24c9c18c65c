-- `take` takes the next place out of the block.
use Rattle.std.proofs.Common.{◌≡◌, ℕ, suc, ◌+◌, ◌-◌, ◌<◌, List, [], ◌∷◌, ◌++◌, sym, refl, arith}
use mir.Syntax.{Ty, a_type, dcons, dnil}
use mir.Val.{Val, vstruct, of_list}
use mir.MapTy.{inst_fn}
use mir.Raw.{raw as bare}
use base.Logic.{SProp, emp}
use base.Fml.{Fml, fsep, feq}
use types.Kit.{‵, raw, ◌⊛◌, ◌$◌, ◌∵◌, !, qed, by, move, keep, drop, split, join, fsplit, fsplit3, fjoin, fjoin3, fpack}
use types.Kit.{use0, use1, rewrite, feq_i}
use types.Run.{stop, fld, of_opd, no_more, and_then, returns, enter}
use types.ByLocal.{alloc_all, pass_all, free_all, look_at, get, get_in, sets}
use types.Part.{agg, sub, whole}
use contract.Running.{tables}
use contract.Monad.{fact, fact_i}
use denote.Exit.{yes, no}
use denote.RattleType.{RattleType, Valss, owns}
use denote.Signature.{types_at, plain}
use denote.Memory.{lone}
use denote.RawPtr.{Ptr, RawPtr, ptr_val, rawptr_Tells, room_for}
use denote.Steps.{nothing, heard}
use denote.Param.{bounded, param}
use denote.Struct.Tuple.{Tuple}
use denote.Triple.Entry.{alive}
use denote.Triple.Walked.{Stays, stay_dropped, walk_of, Goes-dropped}
use Rattle.atomic_table.proofs.Walks.{proved, leaves}
use Rattle.epoch_lend.proofs.Fields.{ptr_typed, word, word_typed}
use Rattle.epoch_lend.proofs.BlockParts as parts
use Rattle.epoch_lend.proofs.TurnFields as fields
use Rattle.epoch_lend.specs.Blocks.{place_in, block_owns}
use Rattle.epoch_lend.specs.Turning.{turn_room_of}
use Rattle.epoch_lend.specs.contracts.cells.block.Block as block
use Rattle.epoch_lend.specs.contracts.cells.turns.Place as place_is
use Rattle.epoch_lend.specs.contracts.cells.block.Block.take.{ended, clauses}
use Rattle.epoch_lend.specs.contracts.cells.block.Block.take.Key.{name as #self}
use Rattle.epoch_lend.proofs.cells.block.Block.take.Statement.{statement}
use Rattle.epoch_lend.proofs.cells.block.Block.take.Code as code

pub take_spec : {M : Type 1} → statement M
take_spec 𝓤 𝓛 𝓜 𝓡 wired X Z L LZ g d dd met md =
    let H = 𝓛.H in
    let 𝓣 = tables 𝓤 H 𝓜 𝓡 𝓡.env in
    let R : RattleType = param 0 X in
    let A : RattleType = param 1 Z in
    let Br : RattleType = block.the_row R A g in
    let Pr : RattleType = place_is.the_row R in
    let En = ended X Z g d dd in
    let c = clauses X Z g d dd 𝓛 𝓜.mem 𝓡.returns in
    let inst = bounded (a_type ∷ a_type ∷ []) (X, (Z, tt)) (dcons d (dcons dd dnil)) in
    let fn = inst_fn inst code.function in
    let p0 = plain (λ _. Br) in
    let p1 = plain (λ _. RawPtr) in
    let hs : Stays En.signature.params En.kept = (stay_dropped p0 no, (stay_dropped p1 yes, tt)) in
    proved 𝓛 En hs c 𝓜 𝓡 (Goes-dropped 𝓛 2 p0 no (λ κs x f. refl), (Goes-dropped 𝓛 2 p1 yes (λ κs x f. refl), tt))
    (#self inst) fn (code.unfolded 𝓤 H 𝓜 𝓡 wired (X, (Z, tt)) d dd)
    (λ κs. ((λ _. parts.block_val ∷ []), ((λ p. ptr_val p ∷ []), tt)))
    (λ κs. ((λ x vs so. parts.block_told (Tuple (R ∷ A ∷ [])) vs so.0), (rawptr_Tells, tt))) (λ κs qs bounds a gh are.
    let h : Br.Denot = a.0 in
    let at : Ptr = a.1.0 in
    let frees : Ty → Ptr → Fml = g.dealloc_token h.heap in
    let left : ℕ = h.left - 1 in
    let y : (walk_of 𝓛 En hs c).Ghost = ((κs, qs, bounds, a, (parts.block_val ∷ [], (ptr_val at ∷ [], tt))), gh) in
    let Post : Val → SProp 𝓤 = (walk_of 𝓛 En hs c).post y in
    let Asked : Type 0 = (at ≡ place_in h.at h.stride h.taken) × (0 < h.left) in
    qed 𝓛 ((raw (alive 𝓛 En.signature κs qs) ⊛ ‵ (owns (types_at En.signature.params κs) a y.0.4)) ∷ raw (fact 𝓤 _) ∷
    raw (fact 𝓤 _) ∷ raw (fact 𝓤 Asked) ∷ []) ∵
    keep ! (3 ∷ 0 ∷ []) $ heard ! Asked (λ asked. split ! $ move ! (1 ∷ []) $ fsplit3 ! $ keep ! (0 ∷ 3 ∷ []) $
    fsplit ! $ drop ! $
    -- [the block; the tokens]
    rewrite ! 0 (λ (n : ℕ). ‵ (block_owns R frees h.at h.stride h.taken n)) (let pos : 0 < h.left = asked.1 in
    let r : h.left ≡ suc left = omega arith in r) refl $
    use1 𝓛 (‵ (room_for (bare (lone R.mir)) (place_in h.at h.stride h.taken)) ⊛ ‵ (block_owns R frees h.at h.stride
    (suc h.taken) left)) (parts.take_out 𝓛 R frees h.at h.stride h.taken left) $ split ! $
    rewrite ! 0 (λ (q : Ptr). ‵ (turn_room_of R q)) (sym asked.0) refl $
    -- [the place; the block; the tokens]
    enter ! 𝓣.C 𝓣.Λ fn (parts.block_val ∷ ptr_val at ∷ []) Post $
    alloc_all ! (λ l. pass_all ! refl ((tt, (tt, tt)), (ptr_typed at, tt)) $
    sets ! (of_opd ! (get_in ! (fld ! refl (stop !)) (sub ! 0 refl (whole !)))) refl (tt, tt) $
    sets ! (agg ! (and_then ! (get ! refl) (no_more !))) refl (tt, (tt, tt)) $
    sets ! (agg ! (and_then ! (get ! refl) (no_more !))) refl (word_typed at) $
    sets ! (agg ! (and_then ! (get ! refl) (and_then ! (get ! refl) (no_more !)))) refl (parts.taken_typed at) $
    use0 𝓛 (‵ ((fields.Place R).own_val (at, tt) (word at ∷ []))) (fields.place_made R 𝓛 at) $ fjoin ! $
    move ! (1 ∷ []) $
    use0 𝓛 (‵ ((parts.Marked (Tuple (R ∷ A ∷ []))).own_val (record {}, tt) (parts.block_val ∷ []))) (parts.block_made
    (Tuple (R ∷ A ∷ [])) 𝓛) $ fjoin ! $
    -- [the block; the place; the tokens]
    let out : Val = parts.taken_val at in
    let rest : Br.Denot = record {
      marker = record {};
      heap = h.heap;
      at = h.at;
      stride = h.stride;
      taken =
          suc h.taken;
      left = left;
    } in
    let one : Pr.Denot = record { at = at } in
    let Kept : Type 0 = (h.heap ≡ h.heap) × (h.at ≡ h.at) × (h.stride ≡ h.stride) × (suc h.taken ≡
    h.taken + 1) × (left + 1 ≡ h.left) in
    let At : Type 0 = at ≡ at in
    nothing ! $ move ! (1 ∷ 2 ∷ 0 ∷ []) $ fjoin3 ! $ feq_i ! (List Val) (out ∷ []) (out ∷ []) refl $ fjoin ! $
    fpack ! (Valss (Br ∷ Pr ∷ [])) (λ uss. fsep (feq (List Val) (out ∷ []) (vstruct (of_list (uss.0 ++ (uss.1.0 ++
    []))) ∷ [])) (owns (Br ∷ Pr ∷ []) (rest, (one, tt)) uss)) (parts.block_val ∷ [], (word at ∷ [], tt)) $
    use0 𝓛 (raw (fact 𝓤 At)) (fact_i 𝓤 At (emp 𝓤) refl) $
    use0 𝓛 (raw (fact 𝓤 Kept)) (fact_i 𝓤 Kept (emp 𝓤) (
      refl,
      refl,
      refl,
      omega arith,
      (let pos : 0 < h.left = asked.1 in
          omega arith),
    )) $ join ! $ nothing ! $ nothing ! $ fjoin ! $ nothing ! $ fjoin ! $
    returns ! (look_at ! 0 refl) $ free_all ! refl $ keep ! (3 ∷ 0 ∷ 2 ∷ 1 ∷ []) $
    by ! (leaves 𝓛 En hs c y out (rest, one) (tt, (tt, tt)) (tt, (tt, tt))))))
