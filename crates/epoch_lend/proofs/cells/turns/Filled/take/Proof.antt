-- `take` moves the value out, and leaves the room.
use Rattle.std.proofs.Common.{◌≡◌, ℕ, List, [], ◌∷◌, ◌++◌, sym, refl, ap}
use mir.Syntax.{a_type}
use mir.Val.{Val, vstruct, of_list}
use mir.MapTy.{inst_fn}
use base.Fraction.{full_share}
use base.Logic.{SProp, emp, guard_i}
use base.Fml.{fsep, feq, fat, froom}
use types.Logic.{sem}
use types.Kit.{‵, raw, ◌⊛◌, some, given, at_ret, ◌$◌, ◌∵◌, !, qed, by, move, keep, split, join, pick}
use types.Kit.{fsplit, fjoin, fpack, learn, use0, use1, rewrite, feq_i}
use types.Run.{stop, fld, of_opd, no_more, and_then, first, blocks, exec, returns, enter, load, look}
use types.ByLocal.{sets_last, is}
use types.ByLocal.{alloc_all, pass_all, free_all, look_at, get, get_in, through, sets, env}
use types.Part.{agg, sub, whole}
use contract.Running.{tables}
use contract.Monad.{fact, fact_i, fact_use}
use denote.Exit.{no}
use denote.RattleType.{RattleType, Valss, owns}
use denote.Signature.{types_at, plain}
use denote.Laws.{Is, shows}
use denote.Memory.{lone}
use denote.RawPtr.{Ptr, InBlock, block_of, count_of, block_ptr, at_block, ptr_val, lies_at, lies_in_block}
use denote.Steps.{nothing, peeks}
use denote.Param.{param, layouts}
use denote.Triple.Entry.{alive}
use denote.Triple.Walked.{Stays, stay_dropped, walk_of, Goes-dropped}
use borrow.Table.OneValue.{part_out}
use Rattle.core.proofs.atomic.Steps.{tail}
use Rattle.core.proofs.mem.Param.{El, lawful, Good}
use Rattle.atomic_table.proofs.Walks.{proved, leaves}
use Rattle.std_alloc.proofs.RawLayout.{as_raw}
use Rattle.epoch_lend.proofs.Fields.{word, word_typed}
use Rattle.epoch_lend.specs.Turning.{turn_room_of}
use Rattle.epoch_lend.specs.contracts.cells.turns.TurnClaim as claim_is
use Rattle.epoch_lend.specs.contracts.cells.turns.Filled as filled_is
use Rattle.epoch_lend.proofs.TurnFields as fields
use Rattle.epoch_lend.specs.contracts.cells.turns.Filled.take.{ended, clauses}
use Rattle.epoch_lend.specs.contracts.cells.turns.Filled.take.Key.{name as #self}
use Rattle.epoch_lend.proofs.cells.turns.Filled.take.Statement.{statement}
use Rattle.epoch_lend.proofs.cells.turns.Filled.take.Code as code

pub take_spec : {M : Type 1} → statement M
take_spec 𝓤 𝓛 𝓜 𝓡 wired X L =
    let H = 𝓛.H in
    let 𝓣 = tables 𝓤 H 𝓜 𝓡 𝓡.env in
    let R : RattleType = param 0 X in
    let En = ended X in
    let c = clauses X 𝓛 𝓜.mem 𝓡.returns in
    let inst = layouts (a_type ∷ []) (X, tt) in
    let fn = inst_fn inst code.function in
    let closed = code.unfolded 𝓤 H 𝓜 𝓡 wired (X, tt) in
    let Cr : RattleType = claim_is.the_row R in
    let Fr : RattleType = filled_is.the_row R in
    let E : El = record { row = X; laws = L } in
    let p0 = plain (λ _. Fr) in
    let hs : Stays En.signature.params En.kept = (stay_dropped p0 no, tt) in
    proved 𝓛 En hs c 𝓜 𝓡 (Goes-dropped 𝓛 1 p0 no (λ κs x f. refl), tt) (#self inst) fn closed
    (λ κs. ((λ x. word x.at ∷ []), tt))
    (λ κs. ((λ x vs so. fields.filled_told R x.at vs so.0), tt)) (λ κs qs bounds a gh are.
    let h : Fr.Denot = a.0 in
    let p : Ptr = h.at in
    let b : ℕ = block_of p in
    let o : ℕ = count_of p in
    let x : X.Denot = h.value in
    let y : (walk_of 𝓛 En hs c).Ghost = ((κs, qs, bounds, a, (word p ∷ [], tt)), gh) in
    let Post : Val → SProp 𝓤 = (walk_of 𝓛 En hs c).post y in
    qed 𝓛 ((raw (alive 𝓛 En.signature κs qs) ⊛ ‵ (owns (types_at En.signature.params κs) a y.0.4)) ∷ raw ((c κs
    a).requires gh) ∷ []) ∵
    split ! $ move ! (1 ∷ []) $ fsplit ! $ fsplit ! $ keep ! (1 ∷ 3 ∷ []) $ fsplit ! $ move ! (1 ∷ []) $
    -- [the value; obs; the tokens]
    use1 𝓛 (given (InBlock p) (‵ (lies_at R full_share p x))) (fact_use 𝓤 _ (lies_in_block 𝓛 R full_share p x)
    (guard_i 𝓤 (InBlock p) (sem 𝓛 (lies_at R full_share p x)))) $ learn ! (λ inb.
    let at : p ≡ block_ptr b o = at_block p inb in
    rewrite ! 0 (λ (z : Ptr). ‵ (lies_at R full_share z x)) at refl $
    use1 𝓛 (some (λ (v : Val). ‵ (fat full_share (lone R.mir) b o v) ⊛ ‵ (R.own_val x (v ∷ [])))) (part_out 𝓛 R refl
    full_share x b o) $ pick ! (λ v. split ! $ move ! (1 ∷ []) $ peeks ! R (Is R) (shows 𝓛 R) x (v ∷ []) (λ is_so.
    let fo : Good E v = ((lawful E 𝓛).typed x (v ∷ []) is_so).0 in move ! (1 ∷ 0 ∷ []) $
    -- [the cell; the value; obs; the tokens]
    enter ! 𝓣.C 𝓣.Λ fn (word p ∷ []) Post $ alloc_all ! (λ l. pass_all ! refl (word_typed p, tt) $
    let Ev = env fn.locals l in
    sets ! (is ! (of_opd ! (get_in ! (fld ! refl (stop !)) (sub ! 0 refl (whole !)))) (ap ptr_val at)) refl (tt, tt) $
    first ! $ blocks ! $
    sets_last ! (of_opd ! (load ! (through ! refl (stop !)) (look ! 0 refl))) refl fo $
    exec ! 𝓣.C 𝓣.Λ Ev (tail (tail fn.body)) (at_ret Ev Post) $
    sets ! (of_opd ! (get ! refl)) refl fo $
    sets ! (is ! (agg ! (and_then ! (get ! refl) (no_more !))) (ap (λ (z : Ptr). word z) (sym at))) refl (word_typed p)
    $
    sets ! (of_opd ! (get ! refl)) refl fo $
    sets ! (agg ! (and_then ! (get ! refl) (and_then ! (get ! refl) (no_more !)))) refl (fields.taken_typed E p v fo) $
    use1 𝓛 (‵ (froom (lone R.mir) b o)) (𝓛.laws.at_room (lone R.mir) b o v) $ as_raw ! (lone R.mir) b o $
    rewrite ! 0 (λ (z : Ptr). ‵ (turn_room_of R z)) (sym at) refl $ move ! (2 ∷ 0 ∷ []) $ fjoin ! $
    -- [the claim; the value; the tokens]
    let r : Cr.Denot = record { at = p; right = 1; state = h.state; word = h.word } in
    let out : Val = fields.two_of (word p) v in
    let Value : Type 0 = x ≡ x in
    let Told : Type 0 = (r.right ≡ 1) × (h.state ≡ h.state) × (h.word ≡ h.word) × (p ≡ p) in
    use0 𝓛 (‵ ((fields.Claim R).own_val (p, tt) (word p ∷ []))) (fields.claim_made R 𝓛 p) $ fjoin ! $ nothing ! $
    move ! (2 ∷ 0 ∷ []) $ fjoin ! $ move ! (1 ∷ 0 ∷ []) $ fjoin ! $ feq_i ! (List Val) (out ∷ []) (out ∷ []) refl $
    fjoin ! $
    fpack ! (Valss (Cr ∷ R ∷ [])) (λ uss. fsep (feq (List Val) (out ∷ []) (vstruct (of_list (uss.0 ++ (uss.1.0 ++
    []))) ∷ [])) (owns (Cr ∷ R ∷ []) (r, (x, tt)) uss)) (word p ∷ [], (v ∷ [], tt)) $
    use0 𝓛 (raw (fact 𝓤 Told)) (fact_i 𝓤 Told (emp 𝓤) (refl, refl, refl, refl)) $
    use0 𝓛 (raw (fact 𝓤 Value)) (fact_i 𝓤 Value (emp 𝓤) refl) $ join ! $
    nothing ! $ nothing ! $ fjoin ! $
    returns ! (look_at ! 0 refl) $ free_all ! refl $ keep ! (3 ∷ 0 ∷ 2 ∷ 1 ∷ []) $
    by ! (leaves 𝓛 En hs c y out (r, x) (tt, tt) (tt, tt)))))))
