-- `replace` reads the slot's address out of the claim's bytes, and swaps the value through the writer's borrow. Then
-- the borrow goes back, and the claim is as it was.
use Rattle.std.proofs.Common.{◌≡◌, ℕ, ◌+◌, List, [], ◌∷◌, ◌++◌, sym, refl, ap}
use Rattle.std.proofs.Common.{subst, Option}
use mir.Syntax.{dcons, dnil, a_type}
use mir.Val.{Val, vstruct, of_list}
use mir.MapTy.{inst_fn}
use prog.Wp.{WpFn}
use base.Fraction.{full_share}
use base.Logic.{SProp, ent, wand, emp, apply∗, guard_i}
use base.Fml.{Lft, Share, Fml, ftrue, fsep, fex, feq, flft}
use types.Logic.{sem}
use types.Kit.{‵, raw, ◌⊛◌, some, given, later, at_ret, ◌$◌, ◌∵◌, !, qed, by, move, keep, drop, split, join}
use types.Kit.{fsplit, fsplit3, fjoin, fpick, fpack, pick, learn, use0, use1, use2, await, rewrite, feq_i}
use types.Run.{stop, fld, from, load, addr, of_opd, no_more, and_then, first, blocks, exec, assigns}
use types.Run.{look_raw, store_raw, returns, enter}
use types.ByLocal.{alloc_all, pass_all, free_all, look_at, look_in_at, get, through, sets, sets_last, is, env}
use types.Part.{agg, sub, whole}
use types.Tokens.{bor_open, obor_close}
use types.Na.{before_dup}
use base.Before.{before}
use contract.Running.{tables}
use contract.Monad.{fact, fact_i, fact_use}
use contract.Shared.{Lends-one}
use denote.Exit.{no}
use denote.RattleType.{RattleType, Valss, owns}
use denote.Signature.{types_at, plain, named_lft}
use denote.RawPtr.{Ptr, InBlock, block_ptr, ptr_val, block_of, count_of, at_block}
use denote.Steps.{nothing, peeks, heard}
use denote.Laws.{Is, shows}
use denote.Memory.{part_of, part_at, cell_at}
use denote.Param.{param, bounded}
use denote.Triple.Walked.{Stays, stay_dropped, walk_of, Goes-dropped}
use Rattle.core.proofs.atomic.Steps.{tail}
use Rattle.core.proofs.mem.Param.{El, lawful, Good, one}
use Rattle.atomic_table.proofs.Walks.{proved_at, leaves}
use Rattle.counted_slot.specs.Counting.{Id, offset, kept, right_to, claim_owns}
use Rattle.counted_slot.specs.contracts.Claim as hand
use Rattle.counted_slot.proofs.Fields.{hand_of, Words, typed, told, made, owns_placed}
use Rattle.epoch_cells.proofs.Values.{answer_of, answer_typed}
use Rattle.epoch_cells.specs.contracts.claims.replace.{ended, clauses}
use Rattle.epoch_cells.specs.contracts.claims.replace.Key.{name as #self}
use Rattle.epoch_cells.proofs.claims.replace.Statement.{statement}
use Rattle.epoch_cells.proofs.claims.replace.Code as code

pub replace_spec : {M : Type 1} → statement M
unfolding part_of
replace_spec 𝓤 𝓛 𝓜 𝓡 wired X Y L _ g d _ =
    let H = 𝓛.H in
    let 𝓣 = tables 𝓤 H 𝓜 𝓡 𝓡.env in
    let R : RattleType = param 0 X in
    let G : RattleType = param 1 Y in
    let E : El = record { row = X; laws = L } in
    let En = ended X Y g d in
    let c = clauses X Y g d 𝓛 𝓜.mem 𝓡.returns in
    let inst = bounded (a_type ∷ a_type ∷ []) (X, (Y, tt)) (dcons d dnil) in
    let fn = inst_fn inst code.function in
    let closed = code.unfolded 𝓤 H 𝓜 𝓡 wired (X, (Y, tt)) d in
    let p0 = plain (λ κs. hand.the_row (named_lft 3 0 tt κs) R G g) in
    let p1 = plain (λ _. R) in
    let hs : Stays En.signature.params En.kept = (stay_dropped p0 no, (stay_dropped p1 no, tt)) in
    proved_at 𝓛 En hs c 𝓜 𝓡 (Goes-dropped 𝓛 3 p0 no (λ κs x f. refl), (Goes-dropped 𝓛 3 p1 no (λ κs x f. refl), tt))
    (#self inst) fn closed (λ z are.
    let κs = z.0.0 in
    let qs = z.0.1 in
    let a = z.0.3 in
    let ℓ = named_lft 3 0 tt κs in
    let β : Lft = κs.0 in
    let q : Share = qs.0 in
    let others : Fml = fsep (flft κs.1.0 qs.1.0) (fsep (flft κs.1.1.0 qs.1.1.0) ftrue) in
    let Cr : RattleType = hand.the_row ℓ R G g in
    let h : Cr.Denot = a.0 in
    let p : Ptr = h.slot in
    let b : ℕ = block_of p in
    let o : ℕ = count_of p in
    let v : Option X.Denot = h.value in
    let ok = g.fits h.tag in
    let x : X.Denot = a.1.0 in
    let e : ℕ = o + offset R in
    let got = one E z.0.4.1.0 ((lawful E 𝓛).typed x z.0.4.1.0 are.1.0) in
    let vy : Val = got.0 in
    let fy : Good E vy = got.2 in
    let At : List Val × (List Val × Unit {0}) → (walk_of 𝓛 En hs c).Ghost = λ vss. ((κs, qs, z.0.2, a, vss), z.1) in
    let y : (walk_of 𝓛 En hs c).Ghost = At (hand_of p ∷ [], (vy ∷ [], tt)) in
    let Post : Val → SProp 𝓤 = (walk_of 𝓛 En hs c).post y in
    let Asked : Type 0 = (h.right ≡ 2) × ok x in
    subst (λ (vss : List Val × (List Val × Unit {0})). ent 𝓤 ((walk_of 𝓛 En hs c).pre (At vss)) (WpFn 𝓤 H 𝓣.C 𝓣.Λ fn
    ((walk_of 𝓛 En hs c).args (At vss)) ((walk_of 𝓛 En hs c).post (At vss))))
    (λ i. (sym (told ℓ R G g p z.0.4.0 are.0.0) i, (sym got.1 i, tt))) (
    qed 𝓛 (((‵ (flft β q) ⊛ ‵ others) ⊛ ‵ (owns (types_at En.signature.params κs) a y.0.4)) ∷ raw (fact 𝓤 _) ∷
    raw (fact 𝓤 _) ∷ raw (fact 𝓤 Asked) ∷ []) ∵
    keep ! (3 ∷ 0 ∷ []) $ heard ! Asked (λ asked. split ! $ split ! $ move ! (2 ∷ []) $ fsplit3 ! $ fsplit ! $
    -- [its bytes; the claim; the new value; nothing; the token; the other tokens]
    keep ! (1 ∷ 2 ∷ 4 ∷ 5 ∷ []) $
    use1 𝓛 (given (InBlock p) (‵ (claim_owns β R ok p h.right v))) (fact_use 𝓤 _ (owns_placed 𝓛 β R ok p h.right v)
    (guard_i 𝓤 (InBlock p) (sem 𝓛 (claim_owns β R ok p h.right v)))) $ learn ! (λ inb.
    let at : p ≡ block_ptr b o = at_block p inb in
    rewrite ! 0 (λ (w : Ptr × ℕ). ‵ (claim_owns β R ok w.0 w.1 v)) (λ i. (at i, asked.0 i)) refl $
    enter ! 𝓣.C 𝓣.Λ fn (hand_of p ∷ vy ∷ []) Post $ alloc_all ! (λ l. pass_all ! refl (typed p inb, (fy, tt)) $
    let Ev = env fn.locals l in
    fpick ! (λ t. fsplit ! $ fsplit ! $
    use1 𝓛 (‵ (before β t.0) ⊛ ‵ (before β t.0)) (before_dup 𝓛 β t.0) $ split ! $ move ! (1 ∷ 2 ∷ []) $ fjoin ! $
    -- [the invariant; the bound on the token; the right; the new value; the token; the other tokens]
    move ! (1 ∷ 4 ∷ []) $
    use2 𝓛 (later (some (λ (s : Share). ‵ (flft t.0 s) ⊛ raw (wand 𝓤 (𝓛.A.lft t.0 s) (H.⇛ (𝓛.A.lft β q))))))
    (Lends-one 𝓛 𝓜 𝓡 β t.0 q) $ await ! tt $ pick ! (λ s. split ! $
    move ! (3 ∷ []) $ fsplit ! $
    -- [out; the borrow; its token; the way back; the invariant; the new value; the other tokens]
    move ! (1 ∷ 2 ∷ []) $ bor_open ! tt $ move ! (1 ∷ []) $ fpick ! (λ old. fsplit ! $ move ! (1 ∷ []) $
    fpick ! (λ fit. drop ! $ fpick ! (λ vs. fsplit ! $ move ! (1 ∷ []) $ peeks ! R (Is R) (shows 𝓛 R) old vs (λ is_so.
    let was = one E vs ((lawful E 𝓛).typed old vs is_so) in
    let vo : Val = was.0 in
    let fo : Good E vo = was.2 in
    rewrite ! 0 (λ (ws : List Val). ‵ (R.own_val old ws)) was.1 refl $
    rewrite ! 1 (λ (ws : List Val). ‵ (cell_at full_share R.mir ws b e)) was.1 refl $ move ! (1 ∷ []) $
    -- [the cell; the old value; the open borrow; out; the way back; the invariant; the new value; the other tokens]
    sets ! (of_opd ! (get ! refl)) refl (typed p inb) $ first ! $ blocks ! $
    sets ! (addr ! (from ! (stop !))) refl (tt, tt) $
    sets ! (is ! (of_opd ! (load ! (through ! refl (stop !)) (look_in_at ! 3 (sub ! 0 refl (whole !))))) (ap ptr_val
    at)) refl (tt, tt) $
    sets ! (addr ! (through ! refl (fld ! refl (stop !)))) refl (tt, tt) $
    sets ! (of_opd ! (load ! (through ! refl (stop !)) (look_raw ! 0 refl))) refl fo $
    sets ! (of_opd ! (get ! refl)) refl fy $
    assigns ! (of_opd ! (get ! refl)) (through ! refl (stop !)) (store_raw ! 0 refl fy) $
    sets_last ! (of_opd ! (get ! refl)) refl fo $
    exec ! 𝓣.C 𝓣.Λ Ev (tail (tail fn.body)) (at_ret Ev Post) $
    sets ! (of_opd ! (get ! refl)) refl fo $
    sets ! (of_opd ! (get ! refl)) refl (typed p inb) $
    sets ! (of_opd ! (get ! refl)) refl fo $
    sets ! (agg ! (and_then ! (get ! refl) (and_then ! (get ! refl) (no_more !)))) refl (answer_typed E p vo inb fo) $
    -- the new value goes into the borrow
    move ! (0 ∷ 6 ∷ []) $ fjoin ! $
    fpack ! (List Val) (λ us. fsep (cell_at full_share R.mir us b e) (R.own_val x us)) (vy ∷ []) $
    nothing ! $ fpack ! (ok x) (λ _. ftrue) asked.1 $ move ! (1 ∷ 0 ∷ []) $ fjoin ! $
    fpack ! X.Denot (λ w. fsep (part_at R full_share w b e) (fex (ok w) (λ _. ftrue))) x $
    move ! (2 ∷ 0 ∷ []) $ obor_close ! tt $
    -- [the borrow; its token; the old value; out; the way back; the invariant; the other tokens]
    move ! (1 ∷ 4 ∷ []) $
    use2 𝓛 (later (‵ (flft β q))) (apply∗ 𝓤 (𝓛.A.lft t.0 s) (H.⇛ (𝓛.A.lft β q))) $ await ! tt $
    move ! (0 ∷ 5 ∷ []) $ join ! $
    -- [the tokens; the borrow; the old value; out; the invariant]
    move ! (3 ∷ 1 ∷ []) $ fjoin ! $ move ! (3 ∷ 0 ∷ []) $ fjoin ! $
    fpack ! Id (λ w. fsep (kept R ok b o w β) (right_to R ok b o w 2 v)) t $
    rewrite ! 0 (λ (w : Ptr). ‵ (claim_owns β R ok w 2 v)) (sym at) refl $
    -- [what the claim owns; the tokens; the old value]
    let r : Cr.Denot = record { slot = p; marker = record {}; tag = h.tag; right = 2; value = v } in
    let out : Val = answer_of p vo in
    let Holds : Type 0 = (r.right ≡ 2) × (r.tag ≡ h.tag) in
    use0 𝓛 (‵ ((Words ℓ R G g).own_val (p, (tt, tt)) (hand_of p ∷ []))) (made ℓ R G g 𝓛 p) $ fjoin ! $
    nothing ! $ move ! (3 ∷ 0 ∷ []) $ fjoin ! $ move ! (1 ∷ 0 ∷ []) $ fjoin ! $
    feq_i ! (List Val) (out ∷ []) (out ∷ []) refl $ fjoin ! $
    fpack ! (Valss (Cr ∷ R ∷ [])) (λ uss. fsep (feq (List Val) (out ∷ []) (vstruct (of_list (uss.0 ++ (uss.1.0 ++
    []))) ∷ [])) (owns (Cr ∷ R ∷ []) (r, (old, tt)) uss)) (hand_of p ∷ [], (vo ∷ [], tt)) $
    use0 𝓛 (raw (fact 𝓤 (ok old))) (fact_i 𝓤 (ok old) (emp 𝓤) fit) $
    use0 𝓛 (raw (fact 𝓤 Holds)) (fact_i 𝓤 Holds (emp 𝓤) (refl, refl)) $ join ! $
    nothing ! $ nothing ! $ fjoin ! $ nothing ! $ fjoin ! $
    -- [what is left of the parameters; the facts; the answer; the tokens]
    returns ! (look_at ! 0 refl) $ free_all ! refl $ keep ! (3 ∷ 0 ∷ 2 ∷ 1 ∷ []) $
    by ! (leaves 𝓛 En hs c y out (r, old) (tt, (tt, tt)) (tt, (tt, tt))))))))))))))
