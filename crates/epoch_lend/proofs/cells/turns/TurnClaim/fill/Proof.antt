-- `fill` writes the value into the room.
use Rattle.std.proofs.Common.{◌≡◌, ℕ, List, [], ◌∷◌, sym, refl, ap}
use Rattle.std.proofs.Common.{subst}
use mir.Syntax.{a_type}
use mir.Raw.{raw as bare}
use mir.Val.{Val}
use mir.MapTy.{inst_fn}
use base.Fraction.{full_share}
use base.Logic.{SProp, ent, emp, guard_i}
use types.Logic.{sem}
use types.Kit.{‵, raw, ◌⊛◌, given, at_ret, ◌$◌, ◌∵◌, !, qed, by, move, keep, split}
use types.Kit.{fsplit, fsplit3, fjoin, learn, use0, use1, use2, rewrite}
use types.Run.{stop, fld, of_opd, no_more, and_then, first, blocks, exec, returns, enter}
use types.Run.{assigns_last, init}
use types.ByLocal.{is}
use types.ByLocal.{alloc_all, pass_all, free_all, look_at, get, get_in, through, sets, env}
use types.Part.{agg, sub, whole}
use contract.Running.{tables}
use contract.Monad.{fact, fact_i, fact_use}
use prog.Wp.{WpFn}
use denote.Exit.{no}
use denote.RattleType.{RattleType, owns}
use denote.Signature.{types_at, plain}
use denote.Memory.{lone, part_at}
use denote.RawPtr.{Ptr, InBlock, block_of, count_of, block_ptr, at_block, ptr_val, lies_at, room_in_block}
use denote.Steps.{nothing, heard}
use denote.Param.{param, layouts}
use denote.Triple.Entry.{alive}
use denote.Triple.Walked.{Stays, stay_dropped, walk_of, Goes-dropped}
use borrow.Table.OneValue.{part_in}
use Rattle.core.proofs.atomic.Steps.{tail}
use Rattle.core.proofs.mem.Param.{El, lawful, Good, one}
use Rattle.atomic_table.proofs.Walks.{proved_at, leaves}
use Rattle.std_alloc.proofs.RawLayout.{as_written}
use Rattle.epoch_lend.proofs.Fields.{ptr_typed}
use Rattle.epoch_lend.proofs.Fields.{word, word_typed}
use Rattle.epoch_lend.specs.Turning.{turn_room_of, claim_of}
use Rattle.epoch_lend.specs.contracts.cells.turns.TurnClaim as claim_is
use Rattle.epoch_lend.specs.contracts.cells.turns.Filled as filled_is
use Rattle.epoch_lend.proofs.TurnFields as fields
use Rattle.epoch_lend.specs.contracts.cells.turns.TurnClaim.fill.{ended, clauses}
use Rattle.epoch_lend.specs.contracts.cells.turns.TurnClaim.fill.Key.{name as #self}
use Rattle.epoch_lend.proofs.cells.turns.TurnClaim.fill.Statement.{statement}
use Rattle.epoch_lend.proofs.cells.turns.TurnClaim.fill.Code as code

pub fill_spec : {M : Type 1} → statement M
fill_spec 𝓤 𝓛 𝓜 𝓡 wired X L =
    let H = 𝓛.H in
    let 𝓣 = tables 𝓤 H 𝓜 𝓡 𝓡.env in
    let R : RattleType = param 0 X in
    let En = ended X in
    let c = clauses X 𝓛 𝓜.mem 𝓡.returns in
    let inst = layouts (a_type ∷ []) (X, tt) in
    let fn = inst_fn inst code.function in
    let closed = code.unfolded 𝓤 H 𝓜 𝓡 wired (X, tt) in
    let Cr : RattleType = claim_is.the_row R in
    let Fr : RattleType = filled_is.the_row R in
    let E : El = record { row = X; laws = L } in
    let p0 = plain (λ _. Cr) in
    let p1 = plain (λ _. R) in
    let hs : Stays En.signature.params En.kept = (stay_dropped p0 no, (stay_dropped p1 no, tt)) in
    proved_at 𝓛 En hs c 𝓜 𝓡 (Goes-dropped 𝓛 1 p0 no (λ κs x f. refl), (Goes-dropped 𝓛 1 p1 no (λ κs x f. refl), tt))
    (#self inst) fn closed (λ z are.
    let κs = z.0.0 in
    let qs = z.0.1 in
    let a = z.0.3 in
    let h : Cr.Denot = a.0 in
    let p : Ptr = h.at in
    let b : ℕ = block_of p in
    let o : ℕ = count_of p in
    let x : X.Denot = a.1.0 in
    let got = one E z.0.4.1.0 ((lawful E 𝓛).typed x z.0.4.1.0 are.1.0) in
    let vy : Val = got.0 in
    let fy : Good E vy = got.2 in
    let At : List Val × (List Val × Unit {0}) → (walk_of 𝓛 En hs c).Ghost = λ vss. ((κs, qs, z.0.2, a, vss), z.1) in
    let y : (walk_of 𝓛 En hs c).Ghost = At (word p ∷ [], (vy ∷ [], tt)) in
    let Post : Val → SProp 𝓤 = (walk_of 𝓛 En hs c).post y in
    subst (λ (vss : List Val × (List Val × Unit {0})). ent 𝓤 ((walk_of 𝓛 En hs c).pre (At vss)) (WpFn 𝓤 H 𝓣.C 𝓣.Λ fn
    ((walk_of 𝓛 En hs c).args (At vss)) ((walk_of 𝓛 En hs c).post (At vss))))
    (λ i. (sym (fields.claim_told R p z.0.4.0 are.0.0) i, (sym got.1 i, tt))) (
    qed 𝓛 ((raw (alive 𝓛 En.signature κs qs) ⊛ ‵ (owns (types_at En.signature.params κs) a y.0.4)) ∷ raw (fact 𝓤 _) ∷
    raw (fact 𝓤 (h.right ≡ 1)) ∷ []) ∵
    keep ! (2 ∷ 0 ∷ []) $ heard ! (h.right ≡ 1) (λ asked. split ! $ move ! (1 ∷ []) $ fsplit3 ! $ fsplit ! $
    -- [its bytes; the claim; the new value; nothing; the tokens]
    keep ! (1 ∷ 2 ∷ 4 ∷ []) $
    rewrite ! 0 (λ (k : ℕ). ‵ (claim_of R p h.state h.word k)) asked refl $ fsplit ! $ move ! (1 ∷ []) $
    use1 𝓛 (given (InBlock p) (‵ (turn_room_of R p))) (fact_use 𝓤 _ (room_in_block 𝓛 (bare (lone R.mir)) p) (guard_i 𝓤
    (InBlock p) (sem 𝓛 (turn_room_of R p)))) $ learn ! (λ inb. let at : p ≡ block_ptr b o = at_block p inb in
    rewrite ! 0 (λ (z : Ptr). ‵ (turn_room_of R z)) at refl $ as_written ! (lone R.mir) b o $
    -- [the room; obs; the value; the tokens]
    enter ! 𝓣.C 𝓣.Λ fn (word p ∷ vy ∷ []) Post $ alloc_all ! (λ l. pass_all ! refl (word_typed p, (fy, tt)) $
    let Ev = env fn.locals l in
    sets ! (of_opd ! (get_in ! (fld ! refl (stop !)) (sub ! 0 refl (whole !)))) refl (ptr_typed p) $ first ! $ blocks
    ! $
    sets ! (is ! (of_opd ! (get ! refl)) (ap ptr_val at)) refl (tt, tt) $ sets ! (of_opd ! (get ! refl)) refl fy $
    assigns_last ! (of_opd ! (get ! refl)) (through ! refl (stop !)) (init ! 0 refl fy) $
    exec ! 𝓣.C 𝓣.Λ Ev (tail (tail fn.body)) (at_ret Ev Post) $
    sets ! (agg ! (and_then ! (get ! refl) (no_more !))) refl (word_typed p) $
    move ! (0 ∷ 2 ∷ []) $ use2 𝓛 (‵ (part_at R full_share x b o)) (part_in 𝓛 R refl full_share x b o vy) $
    rewrite ! 0 (λ (z : Ptr). ‵ (lies_at R full_share z x)) (sym at) refl $ move ! (1 ∷ 0 ∷ []) $ fjoin ! $
    -- [the claim with its value; the tokens]
    let r : Fr.Denot = record { at = p; state = h.state; word = h.word; value = x } in
    let Told : Type 0 = (x ≡ x) × (h.state ≡ h.state) × (h.word ≡ h.word) × (p ≡ p) in
    use0 𝓛 (‵ ((fields.Filled R).own_val (p, tt) (word p ∷ []))) (fields.filled_made R 𝓛 p) $ fjoin ! $
    use0 𝓛 (raw (fact 𝓤 Told)) (fact_i 𝓤 Told (emp 𝓤) (refl, refl, refl, refl)) $
    nothing ! $ nothing ! $ fjoin ! $ nothing ! $ fjoin ! $
    returns ! (look_at ! 0 refl) $ free_all ! refl $ keep ! (3 ∷ 0 ∷ 2 ∷ 1 ∷ []) $
    by ! (leaves 𝓛 En hs c y (word p) r (tt, (tt, tt)) (tt, (tt, tt))))))))
