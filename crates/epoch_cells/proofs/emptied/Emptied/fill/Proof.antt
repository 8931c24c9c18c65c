-- `fill` writes the value into the room, and makes a box of it.
use Rattle.std.proofs.Common.{◌≡◌, T, List, [], ◌∷◌, ◌++◌, sym, refl, ap, subst}
use mir.Syntax.{a_type, dcons, dnil}
use mir.Val.{Val, vptr, has_ty, WT}
use mir.MapTy.{inst_fn}
use base.Fraction.{full_share}
use base.Logic.{SProp, ent, emp, id⊢}
use base.Fml.{ftrue, fsep, flft}
use types.Kit.{Item, ‵, raw, ◌⊛◌, some, later, at_ret, ◌$◌, ◌∵◌, !, qed, by, move, keep, drop, split, split3, join}
use types.Kit.{fsplit3, fjoin, fjoin3, pick, use0, use1, use2, await, feq_i, suffices}
use types.Run.{init, stop, fld, of_opd, no_more, and_then, assigns, first, blocks, exec, returns, enter}
use types.ByLocal.{alloc_all, pass_all, free_all, look_at, get, get_in, through, sets, lands_last, is, env}
use types.Part.{sub, whole}
use contract.Running.{tables}
use contract.Monad.{fact, fact_i}
use contract.BorrowLft.{◌⊑◌}
use denote.Exit.{no}
use denote.RattleType.{RattleType}
use denote.Signature.{plain}
use denote.Memory.{part_at}
use denote.RawPtr.{Ptr, block_ptr}
use denote.Steps.{nothing, only, heard}
use denote.Param.{bounded}
use denote.Triple.Clauses.{Lasts, lasts}
use denote.Triple.Spec.{triple_of}
use denote.Triple.Call.{calls_at_last}
use denote.Triple.Walked.{Stays, stay_dropped, walk_of, Goes-dropped}
use Rattle.core.proofs.alloc.Calls.{Goes-blank}
use Rattle.core.proofs.atomic.Steps.{tail}
use Rattle.atomic_table.proofs.Walks.{proved_at, leaves}
use Rattle.atomic_table.proofs.Calls.{fm}
use Rattle.std_alloc.proofs.RawLayout.{as_written}
use Rattle.std_alloc.proofs.BoxSteps.Form as box
use Rattle.std_alloc.proofs.BoxSteps.Steps.{el_in, el_tells, box_out, box_in}
use Rattle.std_alloc.specs.contracts.boxed.Box.from_raw as callee
use Rattle.std_alloc.proofs.boxed.Box.from_raw.Met as callee_met
use Rattle.epoch_cells.proofs.OfEmptied.{Row, word, typed, had}
use Rattle.epoch_cells.specs.contracts.emptied.Emptied.fill.{ended, clauses}
use Rattle.epoch_cells.specs.contracts.emptied.Emptied.fill.Key.{name as #self}
use Rattle.epoch_cells.proofs.emptied.Emptied.fill.Statement.{statement}
use Rattle.epoch_cells.proofs.emptied.Emptied.fill.Code as code

pub fill_spec : {M : Type 1} → statement M
fill_spec 𝓤 𝓛 𝓜 𝓡 wired X Z L LZ g d dd met md =
    let H = 𝓛.H in
    let 𝓣 = tables 𝓤 H 𝓜 𝓡 𝓡.env in
    let E : box.Bx = record { row = X; laws = L; al = record { row = Z; laws = LZ; g = g; d = d; drops = dd } } in
    let R : RattleType = box.R E in
    let B : RattleType = box.B E in
    let V : RattleType = Row E.al R in
    let En = ended X Z g d dd in
    let inst = bounded (a_type ∷ a_type ∷ []) (X, (Z, tt)) (dcons d (dcons dd dnil)) in
    let fn = inst_fn inst code.function in
    let c = clauses X Z g d dd 𝓛 𝓜.mem 𝓡.returns in
    let Made = triple_of 𝓛 (callee.signature X Z g d dd) (callee.spec X Z g d dd 𝓛 𝓜.mem 𝓡.returns) in
    let Ce = callee.ended X Z g d dd in
    let known = callee_met.met 𝓤 𝓛 𝓜 𝓡 (code.calls-std_alloc::boxed::Box::from_raw 𝓡.env wired) X Z L LZ g d dd met
    md in
    let hs : Stays En.signature.params En.kept = (
      stay_dropped (plain (λ _. V)) no,
      (stay_dropped (plain (λ _. R)) no, tt),
    ) in
    proved_at 𝓛 En hs c 𝓜 𝓡 (
      Goes-blank 𝓛 2 (plain (λ _. V)) no (λ κs x f. tt),
      (
        Goes-dropped 𝓛 2 (plain (λ _. R)) no (λ κs x f. refl),
        tt,
      ),
    ) (#self inst) fn (code.unfolded 𝓤 H 𝓜 𝓡 wired (X, (Z, tt)) d dd) (λ z are.
    let κs = z.0.0 in
    let qs = z.0.1 in
    let t₁ : Item 𝓤 = ‵ (flft κs.0 qs.0) in
    let t₂ : Item 𝓤 = ‵ (flft κs.1.0 qs.1.0) in
    let inX = κs.0 ⊑ X.lives in
    let inZ = κs.1.0 ⊑ Z.lives in
    let Post : Val → SProp 𝓤 = (walk_of 𝓛 En hs c).post z in
    let Run : List Val → SProp 𝓤 = λ ws. prog.Wp.WpFn 𝓤 H 𝓣.C 𝓣.Λ fn ws Post in
    let v : V.Denot = z.0.3.0 in
    let a : Z.Denot = v.alloc in
    let x : X.Denot = z.0.3.1.0 in
    qed 𝓛 (((t₁ ⊛ t₂ ⊛ ‵ ftrue) ⊛ ‵ (fsep (V.own_val v z.0.4.0) (fsep (R.own_val x z.0.4.1.0) ftrue))) ∷ raw
    (fact 𝓤 inX) ∷ raw (fact 𝓤 inZ) ∷ ‵ ftrue ∷ []) ∵
    move ! (1 ∷ 2 ∷ []) $ heard ! inX (λ leX. heard ! inZ (λ leZ. split ! $ move ! (1 ∷ []) $ fsplit3 ! $
    had E.al R ! v z.0.4.0 (λ b o hv e ev fa. move ! (3 ∷ []) $ el_tells E ! x z.0.4.1.0 (λ vx ex fx.
    let w : Val = word hv b o in
    let is_typed = typed E.al R hv b o fa in
    let us : List Val = w ∷ vx ∷ [] in
    let p : Ptr = block_ptr b o in
    let y : Made.Ghost = ((κs, qs, tt, (a, (p, tt)), (hv ∷ [], (vptr b o ∷ [], tt))), x) in
    -- [the value; the room; the right to free; the handle; nothing; the tokens]
    move ! (1 ∷ []) $ as_written ! (box.τ E) b o $ keep ! (0 ∷ 1 ∷ 2 ∷ 3 ∷ 5 ∷ []) $
    suffices ! (Run us) (subst (λ (ws : List Val). ent 𝓤 (Run us) (Run ws)) (sym (λ i. ev i ++ (ex i ++ []))) (id⊢
    𝓤 (Run us))) $
    enter ! 𝓣.C 𝓣.Λ fn us Post $ alloc_all ! (λ l. pass_all ! refl (is_typed, (fx, tt)) $
    let Ev = env fn.locals l in
    sets ! (of_opd ! (get_in ! (fld ! refl (stop !)) (sub ! 0 refl (whole !)))) refl (tt, tt) $
    sets ! (of_opd ! (get_in ! (fld ! refl (stop !)) (sub ! 1 refl (whole !)))) refl fa $
    first ! $ blocks ! $ sets ! (of_opd ! (get ! refl)) refl fx $
    assigns ! (of_opd ! (get ! refl)) (through ! refl (stop !)) (init ! 0 refl fx) $
    use2 𝓛 (‵ (part_at R full_share x b o)) (el_in E 𝓛 x b o vx) $ fjoin ! $
    sets ! (of_opd ! (get ! refl)) refl fa $
    use0 𝓛 (raw (fact 𝓤 inZ)) (fact_i 𝓤 inZ (emp 𝓤) leZ) $ join ! $
    use0 𝓛 (raw (fact 𝓤 inX)) (fact_i 𝓤 inX (emp 𝓤) leX) $ join ! $
    nothing ! $ feq_i ! (List Val) (vptr b o ∷ []) (vptr b o ∷ []) refl $
    move ! (3 ∷ 0 ∷ 1 ∷ []) $ fjoin3 ! $ move ! (2 ∷ 0 ∷ []) $ join ! $ join ! $
    use1 𝓛 (raw (Made.pre y)) (id⊢ 𝓤 _) $
    calls_at_last ! (fm 𝓛 𝓜 𝓡) Made known y (and_then ! (get ! refl) (and_then ! (get ! refl) (no_more !))) (λ u.
    use1 𝓛 (later (some (λ (r : B.Denot). ((t₁ ⊛ t₂ ⊛ ‵ ftrue) ⊛ ‵ (B.own_val r (u ∷ []))) ⊛ some (λ (ws : Lasts Ce
    κs (a, (p, tt))). ‵ (lasts Ce κs (a, (p, tt)) ws) ⊛ (raw (fact 𝓤 (r.value ≡ x)) ⊛
    raw (fact 𝓤 (r.alloc ≡ a))))))) (id⊢ 𝓤 _) $
    await ! tt $ pick ! (λ r. split ! $ move ! (1 ∷ []) $ pick ! (λ _. split3 ! $ drop ! $ move ! (1 ∷ []) $ drop ! $
    heard ! (r.value ≡ x) (λ same. split ! $ move ! (1 ∷ []) $
    box_out E ! r (u ∷ []) (λ b' o' hw e' eu fw. box_in E ! r b' o' r.value e' refl $
    let w' : Val = box.word E hw b' o' in
    let typed' = box.box_typed E hw b' o' fw in
    let is_word : u ≡ w' = ap only eu in
    lands_last ! refl (subst (λ (s : Val). T (has_ty (box.box_ty E) s) × WT s) (sym is_word) typed') $
    exec ! 𝓣.C 𝓣.Λ Ev (tail (tail (tail fn.body))) (at_ret Ev Post) $
    sets ! (is ! (of_opd ! (get ! refl)) is_word) refl typed' $
    use0 𝓛 (raw (fact 𝓤 (r.value ≡ x))) (fact_i 𝓤 (r.value ≡ x) (emp 𝓤) same) $ nothing ! $ nothing ! $ fjoin ! $
    nothing ! $ fjoin ! $
    returns ! (look_at ! 0 refl) $ free_all ! refl $ keep ! (3 ∷ 0 ∷ 2 ∷ 1 ∷ []) $
    by ! (leaves 𝓛 En hs c z w' r ((tt, (tt, tt)), (tt, tt)) (tt, (tt, tt))))))))))))))
