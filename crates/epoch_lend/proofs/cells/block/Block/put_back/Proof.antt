-- `put_back` puts the last place that was taken back into the block.
use Rattle.std.proofs.Common.{◌≡◌, ℕ, suc, ◌+◌, [], ◌∷◌, ◌∙◌, refl, arith, w64}
use mir.Syntax.{Ty, a_type, dcons, dnil}
use mir.Val.{Val, vint}
use mir.MapTy.{inst_fn}
use base.Logic.{SProp, emp}
use base.Fml.{Fml}
use types.Kit.{‵, raw, ◌⊛◌, ◌$◌, ◌∵◌, !, qed, by, move, keep, drop, split, fsplit, fsplit3, fjoin}
use types.Kit.{use0, use2, rewrite}
use types.Run.{stop, fld, of_opd, no_more, and_then, returns, enter}
use types.ByLocal.{alloc_all, pass_all, free_all, look_at, get, get_in, sets}
use types.Part.{agg, sub, whole}
use contract.Running.{tables}
use contract.Monad.{fact, fact_i}
use denote.Builtin.{usize}
use denote.Exit.{yes, no}
use denote.Plain.{uint_vals, uint_Tells}
use denote.RattleType.{RattleType, owns}
use denote.Signature.{types_at, plain}
use denote.RawPtr.{Ptr}
use denote.Steps.{nothing, heard}
use denote.Param.{bounded, param}
use denote.Struct.Tuple.{Tuple}
use denote.Triple.Entry.{alive}
use denote.Triple.Walked.{Stays, stay_dropped, walk_of, Goes-dropped}
use Rattle.atomic_table.proofs.Walks.{proved, leaves}
use Rattle.epoch_lend.proofs.Fields.{word, word_typed}
use Rattle.epoch_lend.proofs.BlockParts as parts
use Rattle.epoch_lend.proofs.TurnFields as fields
use Rattle.epoch_lend.specs.Blocks.{place_in, block_owns}
use Rattle.epoch_lend.specs.Turning.{claim_of}
use Rattle.epoch_lend.specs.contracts.cells.block.Block as block
use Rattle.epoch_lend.specs.contracts.cells.turns.TurnClaim as claim_is
use Rattle.epoch_lend.specs.contracts.cells.block.Block.put_back.{ended, clauses}
use Rattle.epoch_lend.specs.contracts.cells.block.Block.put_back.Key.{name as #self}
use Rattle.epoch_lend.proofs.cells.block.Block.put_back.Statement.{statement}
use Rattle.epoch_lend.proofs.cells.block.Block.put_back.Code as code

pub put_back_spec : {M : Type 1} → statement M
put_back_spec 𝓤 𝓛 𝓜 𝓡 wired X Z L LZ g d dd met md =
    let H = 𝓛.H in
    let 𝓣 = tables 𝓤 H 𝓜 𝓡 𝓡.env in
    let R : RattleType = param 0 X in
    let A : RattleType = param 1 Z in
    let Br : RattleType = block.the_row R A g in
    let Cr : RattleType = claim_is.the_row R in
    let En = ended X Z g d dd in
    let c = clauses X Z g d dd 𝓛 𝓜.mem 𝓡.returns in
    let inst = bounded (a_type ∷ a_type ∷ []) (X, (Z, tt)) (dcons d (dcons dd dnil)) in
    let fn = inst_fn inst code.function in
    let p0 = plain (λ _. Br) in
    let p1 = plain (λ _. usize) in
    let p2 = plain (λ _. Cr) in
    let hs : Stays En.signature.params En.kept = (
      stay_dropped p0 no,
      (
        stay_dropped p1 yes,
        (
          stay_dropped p2 no,
          tt,
        ),
      ),
    ) in
    proved 𝓛 En hs c 𝓜 𝓡 (
      Goes-dropped 𝓛 2 p0 no (λ κs x f. refl),
      (
        Goes-dropped 𝓛 2 p1 yes (λ κs x f. refl),
        (Goes-dropped 𝓛 2 p2 no (λ κs x f. refl), tt),
      ),
    ) (#self inst) fn (code.unfolded 𝓤 H 𝓜 𝓡 wired (X, (Z, tt)) d dd)
    (λ κs. ((λ _. parts.block_val ∷ []), (uint_vals w64, ((λ x. word x.at ∷ []), tt))))
    (λ κs. (
      (λ x vs so. parts.block_told (Tuple (R ∷ A ∷ [])) vs so.0),
      (
        uint_Tells w64,
        (
          (λ x vs so. fields.claim_told
              R x.at vs so.0),
          tt,
        ),
      ),
    )) (λ κs qs bounds a gh are.
    let h : Br.Denot = a.0 in
    let n : ℕ = a.1.0 in
    let k : Cr.Denot = a.1.1.0 in
    let frees : Ty → Ptr → Fml = g.dealloc_token h.heap in
    let y : (walk_of 𝓛 En hs c).Ghost = (
      (
        κs,
        qs,
        bounds,
        a,
        (
          parts.block_val ∷ [],
          (
            vint w64 n ∷ [],
            (
              word k.at ∷ [],
              tt,
            ),
          ),
        ),
      ),
      gh,
    ) in
    let Post : Val → SProp 𝓤 = (walk_of 𝓛 En hs c).post y in
    let Asked : Type 0 = (k.right ≡ 1) × (k.at ≡ place_in h.at h.stride n) × (h.taken ≡ n + 1) in
    qed 𝓛 ((raw (alive 𝓛 En.signature κs qs) ⊛ ‵ (owns (types_at En.signature.params κs) a y.0.4)) ∷ raw (fact 𝓤 _) ∷
    raw (fact 𝓤 _) ∷ raw (fact 𝓤 Asked) ∷ []) ∵
    keep ! (3 ∷ 0 ∷ []) $ heard ! Asked (λ asked. split ! $ move ! (1 ∷ []) $ fsplit3 ! $ keep ! (0 ∷ 2 ∷ 3 ∷ []) $
    fsplit ! $ drop ! $ move ! (1 ∷ []) $ fsplit ! $ fsplit ! $ drop ! $
    -- [the claim; nothing; the block; the tokens]
    rewrite ! 0 (λ (u : ℕ × Ptr). ‵ (claim_of R u.1 k.state k.word u.0)) (λ i. (asked.0 i, asked.1 i)) refl $
    fsplit ! $ drop ! $ keep ! (0 ∷ 2 ∷ 3 ∷ []) $
    rewrite ! 1 (λ (t : ℕ). ‵ (block_owns R frees h.at h.stride t h.left)) (asked.2 ∙ (let r : n + 1 ≡ suc n =
    omega arith in r)) refl $
    use2 𝓛 (‵ (block_owns R frees h.at h.stride n (suc h.left))) (parts.put_in 𝓛 R frees h.at h.stride n h.left) $
    -- [the block; the tokens]
    enter ! 𝓣.C 𝓣.Λ fn (parts.block_val ∷ vint w64 n ∷ word k.at ∷ []) Post $
    alloc_all ! (λ l. pass_all ! refl ((tt, (tt, tt)), ((tt, record { fits = are.1.0.1 }), (word_typed k.at, tt))) $
    sets ! (of_opd ! (get_in ! (fld ! refl (stop !)) (sub ! 0 refl (whole !)))) refl (tt, tt) $
    sets ! (agg ! (and_then ! (get ! refl) (no_more !))) refl (tt, (tt, tt)) $
    let back : Br.Denot = record {
      marker = record {};
      heap = h.heap;
      at = h.at;
      stride = h.stride;
      taken = n;
      left = suc h.left;
    } in
    let Kept : Type 0 = (h.heap ≡ h.heap) × (h.at ≡ h.at) × (h.stride ≡ h.stride) × (n ≡ n) × (suc h.left ≡
    h.left + 1) in
    use0 𝓛 (‵ ((parts.Marked (Tuple (R ∷ A ∷ []))).own_val (record {}, tt) (parts.block_val ∷ []))) (parts.block_made
    (Tuple (R ∷ A ∷ [])) 𝓛) $ fjoin ! $
    use0 𝓛 (raw (fact 𝓤 Kept)) (fact_i 𝓤 Kept (emp 𝓤) (refl, refl, refl, refl, omega arith)) $ nothing ! $ nothing ! $
    fjoin ! $ nothing ! $ fjoin ! $ nothing ! $ fjoin ! $
    returns ! (look_at ! 0 refl) $ free_all ! refl $ keep ! (3 ∷ 0 ∷ 2 ∷ 1 ∷ []) $
    by ! (leaves 𝓛 En hs c y parts.block_val back (tt, (tt, (tt, tt))) (tt, (tt, (tt, tt)))))))
