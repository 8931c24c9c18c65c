-- `new` makes a log with no turn, and the word has the place.
use Rattle.std.proofs.Common.{length, ◌≡◌, ℕ, ◌*◌, List, [], ◌∷◌, refl, sym, ap, ◌+◌}
use Rattle.std.proofs.Common.{lit<}
use mir.Syntax.{a_type, named}
use mir.Val.{Val}
use mir.MapTy.{inst_fn}
use base.Fraction.{full_share}
use base.Stored.{gnum}
use base.Logic.{SProp, emp, via, guard_i}
use base.Fml.{ftrue, fsep}
use types.Kit.{‵, raw, ◌⊛◌, some, later, ◌$◌, ◌∵◌, !, qed, by, move, keep, split, given, learn, use1, rewrite, at_ret}
use types.Kit.{fsplit, fjoin, fjoin3, fpack, pick, use0, await}
use types.Run.{lit, no_more, and_then, returns, enter, stop, fld, addr, of_opd, first, blocks, exec, assigns_last, init}
use types.ByLocal.{alloc_all, pass_all, free_all, look_at, get, sets, get_in, through, is, env}
use types.Part.{agg, sub, whole}
use contract.Running.{tables}
use contract.Monad.{fact, fact_i, fact_use}
use denote.Exit.{yes, no}
use denote.RattleType.{RattleType, owns}
use denote.Signature.{types_at, plain}
use denote.RawPtr.{Ptr, InBlock, block_ptr, ptr_val, block_of, count_of, at_block, room_in_block}
use denote.Steps.{nothing}
use denote.Param.{param, layouts}
use denote.Param.Laws.{param_laws}
use denote.Triple.Entry.{alive}
use denote.Triple.Walked.{Stays, stay_dropped, walk_of, Goes-dropped}
use Rattle.atomic_table.proofs.Walks.{proved, leaves}
use types.Logic.{sem}
use Rattle.core.proofs.atomic.Steps.{tail}
use Rattle.core.specs.Sync.RawAtomic.{word as at_word}
use Rattle.epoch_lend.proofs.PlaceMemory.{memory_rooms, apart}
use Rattle.epoch_lend.specs.Posts.{logs_of}
use Rattle.epoch_lend.proofs.Fields.{word, word_typed}
use Rattle.epoch_lend.specs.Turning.{LiesThere, TurnNames, TurnOf, value_in, turn_room_of, place_type, memory_back}
use Rattle.epoch_lend.specs.contracts.cells.turns.Turns as turns_is
use Rattle.epoch_lend.specs.contracts.cells.turns.TurnClaim as claim_is
use Rattle.epoch_lend.specs.contracts.cells.turns.TurnName as name_is
use Rattle.epoch_lend.proofs.TurnFields as fields
use denote.Slice.{slice_val, shr_slice_vals, shr_slice_Tells}
use denote.Builtin.{SliceRefOf}
use denote.Laws.{Typed}
use types.Tokens.{name_new}
use types.Owned.{basic}
use types.Growing.{latest_new}
use base.Growing.{latest}
use Rattle.epoch_lend.specs.Turning.{turn_logs, log_of, TurnStage, vacant, at_turn, at_turn_word}
use Rattle.epoch_lend.specs.contracts.cells.turns.Turns.TheInside as inside
use Rattle.epoch_lend.specs.contracts.cells.turns.Place as place_is
use Rattle.epoch_lend.specs.contracts.cells.turns.Space as space_is
use Rattle.epoch_lend.specs.contracts.post.Post as post_is
use Rattle.epoch_lend.specs.contracts.cells.turns.Turns.new.{ended, clauses}
use Rattle.epoch_lend.specs.contracts.cells.turns.Turns.new.Key.{name as #self}
use Rattle.epoch_lend.proofs.cells.turns.Turns.new.Statement.{statement}
use Rattle.epoch_lend.proofs.cells.turns.Turns.new.Code as code

pub new_spec : {M : Type 1} → statement M
new_spec 𝓤 𝓛 𝓜 𝓡 wired X L =
    let H = 𝓛.H in
    let 𝓣 = tables 𝓤 H 𝓜 𝓡 𝓡.env in
    let R : RattleType = param 0 X in
    let En = ended X in
    let c = clauses X 𝓛 𝓜.mem 𝓡.returns in
    let inst = layouts (a_type ∷ []) (X, tt) in
    let fn = inst_fn inst code.function in
    let closed = code.unfolded 𝓤 H 𝓜 𝓡 wired (X, tt) in
    let Row : RattleType = turns_is.the_row R in
    let Cr : RattleType = claim_is.the_row R in
    let Nr : RattleType = name_is.the_row R in
    let LR = param_laws 0 X L in
    let Sr : RattleType = post_is.the_row in
    let F : RattleType = inside.the_row R in
    let pv : Val = fields.none_val in
    let Wr : RattleType = space_is.the_row R in
    let Laid : Type 0 = Typed F.mir (pv ∷ []) in
    let p0 = plain (λ _. place_is.the_row Wr) in
    let p1 = SliceRefOf (0 ∷ []) tt (plain (λ _. Sr)) (λ _. tt) in
    let hs : Stays En.signature.params En.kept = (stay_dropped p0 no, (stay_dropped p1 yes, tt)) in
    proved 𝓛 En hs c 𝓜 𝓡 (Goes-dropped 𝓛 2 p0 no (λ κs x f. refl), (Goes-dropped 𝓛 2 p1 yes (λ κs x f. refl), tt))
    (#self inst) fn closed
    (λ κs. ((λ x. word x.at ∷ []), (shr_slice_vals, tt)))
    (λ κs. ((λ x vs so. fields.place_told Wr x.at vs so.0), (shr_slice_Tells (named 0) κs.0 Sr, tt))) (λ κs qs bounds a
    gh are.
    let Pl : RattleType = place_is.the_row Wr in
    let u : Pl.Denot = a.0 in
    let p : Ptr = u.at in
    let b : ℕ = block_of p in
    let o : ℕ = count_of p in
    let among : Val = slice_val a.1.0.ref_ptr (length a.1.0.now) in
    let y : (walk_of 𝓛 En hs c).Ghost = ((κs, qs, bounds, a, (word p ∷ [], (among ∷ [], tt))), gh) in
    let Post : Val → SProp 𝓤 = (walk_of 𝓛 En hs c).post y in
    let O = turn_logs R in
    qed 𝓛 ((raw (alive 𝓛 En.signature κs qs) ⊛ ‵ (owns (types_at En.signature.params κs) a y.0.4)) ∷ raw ((c κs
    a).requires gh)
    ∷ []) ∵
    split ! $ move ! (1 ∷ []) $ fsplit ! $ fsplit ! $ keep ! (1 ∷ 3 ∷ []) $
    use1 𝓛 (given (InBlock p) (‵ (turn_room_of Wr p))) (fact_use 𝓤 _ (room_in_block 𝓛 (place_type R) p) (guard_i 𝓤
    (InBlock p) (sem 𝓛 (turn_room_of Wr p)))) $ learn ! (λ inb. let there : p ≡ block_ptr b o = at_block p inb in
    rewrite ! 0 (λ (z : Ptr). ‵ (turn_room_of Wr z)) there refl $
    use1 𝓛 (‵ (memory_rooms R b o) ⊛ ‵ (memory_back R b o)) (apart R b o 𝓛) $ split ! $ fsplit ! $ move ! (1 ∷ []) $
    fsplit ! $ move ! (2 ∷ 0 ∷ 3 ∷ 4 ∷ []) $
    -- [room for the word; room for a value; the way back; the tokens; nothing]
    enter ! 𝓣.C 𝓣.Λ fn (word p ∷ among ∷ []) Post $
    alloc_all ! (λ l. pass_all ! refl (word_typed p, ((tt, (tt, (record { fits = are.1.0.0.1.0 }, tt))), tt)) $
    let Ev = env fn.locals l in
    sets ! (is ! (of_opd ! (get_in ! (fld ! refl (stop !)) (sub ! 0 refl (whole !)))) (ap ptr_val there)) refl (
      tt,
      tt,
    ) $
    first ! $ blocks ! $ sets ! (addr ! (through ! refl (fld ! refl (stop !)))) refl (tt, tt) $
    assigns_last ! (of_opd ! (lit ! tt)) (through ! refl (stop !)) (init ! 0 refl (tt, record { fits = lit< tt })) $
    exec ! 𝓣.C 𝓣.Λ Ev (tail (tail fn.body)) (at_ret Ev Post) $
    sets ! (agg ! (no_more !)) refl (tt, tt) $
    sets ! (agg ! (and_then ! (get ! refl) (no_more !))) refl fields.none_typed $
    use0 𝓛 (later (some (λ (η : ℕ). ‵ (latest O full_share η [])))) (via 𝓤 _ (latest_new O 𝓛 []) (basic 𝓛 _)) $
    await ! tt $ pick ! (λ η. name_new ! tt (gnum (4 * 0)) (λ δ.
    let d : TurnNames = record { at = p; value = value_in R p; log = η; state = δ; posts = logs_of a.1.0.now } in
    -- [obs; auth; latest; the word; room for a value; the way back; the tokens]
    move ! (4 ∷ []) $ rewrite ! 0 (λ (z : Ptr). ‵ (turn_room_of R (value_in R z))) (sym there) refl $
    nothing ! $ let none : List (TurnOf R.Denot) = [] in
    fpack ! (length none ≡ 0) (λ _. ftrue) refl $ move ! (4 ∷ 0 ∷ []) $ fjoin ! $ fpack ! (List (TurnOf R.Denot))
    (log_of R d 0) [] $ move ! (2 ∷ 0 ∷ 1 ∷ []) $
    fjoin3 ! $ move ! (1 ∷ 0 ∷ []) $ fjoin ! $ nothing ! $ fpack ! (4 * 0 ≡ 4 * 0) (λ _. ftrue) refl $ fjoin ! $
    fpack ! TurnStage (at_turn R d (4 * 0)) (vacant 0) $ move ! (1 ∷ 0 ∷ []) $ fjoin ! $
    fpack ! ℕ (λ k. fsep (at_word b (o + 0) k) (at_turn_word R d k)) 0 $ fjoin ! $
    nothing ! $ fpack ! (LiesThere R d) (λ _. ftrue) (inb, refl) $ fjoin ! $
    use0 𝓛 (‵ (F.own_val (record { marker = record {} }) (pv ∷ []))) (fields.inside_made R 𝓛) $ fjoin ! $ nothing ! $
    fpack ! Laid (λ _. ftrue) (fields.none_typed, tt) $ fjoin ! $
    let Told : Type 0 = (d.posts ≡ logs_of a.1.0.now) × (p ≡ u.at) in
    use0 𝓛 (raw (fact 𝓤 Told)) (fact_i 𝓤 Told (emp 𝓤) (refl, refl)) $ nothing ! $ nothing ! $ fjoin ! $ nothing ! $
    fjoin ! $
    returns ! (look_at ! 0 refl) $ free_all ! refl $ keep ! (3 ∷ 0 ∷ 2 ∷ 1 ∷ []) $
    by ! (leaves 𝓛 En hs c y pv d (tt, (tt, tt)) (tt, (tt, tt))))))))
