-- `free` lends the allocator's handle for the call that frees the room, and returns it.
use Rattle.std.proofs.Common.{◌≡◌, ℕ, ◌+◌, T, List, [], ◌∷◌, ◌++◌, sym, refl, ap, subst}
use mir.Syntax.{Tys, ty_ptr, ty_unit, tcons, tnil, a_type, dcons, dnil}
use mir.Val.{Val, Vals, vunit, vptr, vcons, vnil, has_ty, WT}
use mir.MapTy.{inst_fn}
use mir.Raw.{raw as bare}
use base.Logic.{SProp, ent, emp, id⊢}
use base.Fml.{Lft, Share, ftrue, fsep, flft, Incl-trans}
use prog.Memory.{size, align, capped, up}
use prog.Capped.{capped_fits}
use prog.RawLaws.{size-raw, align-raw}
use types.Kit.{‵, raw, ◌⊛◌, later, given, at_ret, ◌$◌, ◌∵◌, !, qed, by, move, keep, use0, use1, use3, learn, split}
use types.Kit.{split3, join, fsplit, fjoin, suffices, await}
use types.Part.{whole, sub}
use types.Run.{stop, fld, from, addr, size_word, align_word, no_more, and_then, of_opd, first, blocks, exec}
use types.Run.{returns, enter}
use types.ByLocal.{alloc_all, pass_all, free_all, look_at, take_at, give_at, get, get_in, sets, lands_last, env}
use contract.Running.{tables}
use contract.Monad.{fact, fact_i}
use contract.BorrowLft.{◌⊑◌, meet_⊑_right}
use denote.Exit.{no}
use denote.RattleType.{RattleType}
use denote.Signature.{plain}
use denote.Steps.{nothing, heard}
use denote.Param.{bounded}
use denote.Triple.Call.{calls_at_last}
use denote.Triple.Walked.{Stays, stay_dropped, walk_of}
use Rattle.core.proofs.alloc.Calls.{α, Gives, at_gives, Gives-goes, Gives-Gives, lends_field, takes_back, Goes-blank}
use Rattle.core.proofs.atomic.Steps.{tail}
use Rattle.atomic_table.proofs.Walks.{proved_at, leaves}
use Rattle.atomic_table.proofs.Calls.{fm}
use Rattle.std_alloc.proofs.BoxSteps.Form as box
use Rattle.epoch_cells.proofs.OfEmptied.{owning, Row, word, typed, had}
use Rattle.epoch_cells.specs.contracts.emptied.Emptied.free.{ended, clauses}
use Rattle.epoch_cells.specs.contracts.emptied.Emptied.free.Key.{name as #self}
use Rattle.epoch_cells.proofs.emptied.Emptied.free.Statement.{statement}
use Rattle.epoch_cells.proofs.emptied.Emptied.free.Code as code

pub free_spec : {M : Type 1} → statement M
free_spec 𝓤 𝓛 𝓜 𝓡 wired X Z L LZ g d dd met md =
    let H = 𝓛.H in
    let 𝓣 = tables 𝓤 H 𝓜 𝓡 𝓡.env in
    let E : box.Bx = record { row = X; laws = L; al = record { row = Z; laws = LZ; g = g; d = d; drops = dd } } in
    let R : RattleType = box.R E in
    let V : RattleType = Row E.al R in
    let En = ended X Z g d dd in
    let inst = bounded (a_type ∷ a_type ∷ []) (X, (Z, tt)) (dcons d (dcons dd dnil)) in
    let fn = inst_fn inst code.function in
    let c = clauses X Z g d dd 𝓛 𝓜.mem 𝓡.returns in
    let Freed = Gives E.al 𝓛 𝓜.mem 𝓡.returns in
    let hs : Stays En.signature.params En.kept = (stay_dropped (plain (λ _. V)) no, tt) in
    proved_at 𝓛 En hs c 𝓜 𝓡 (
      Goes-blank 𝓛 2 (plain (λ _. V)) no (λ κs x f. tt),
      tt,
    ) (#self inst) fn (code.unfolded 𝓤 H 𝓜 𝓡 wired (X, (Z, tt)) d dd) (λ z are.
    let ρ : Lft = z.0.0.1.0 in
    let q : Share = z.0.1.1.0 in
    let inX = z.0.0.0 ⊑ X.lives in
    let inZ = ρ ⊑ Z.lives in
    let Post : Val → SProp 𝓤 = (walk_of 𝓛 En hs c).post z in
    let Run : List Val → SProp 𝓤 = λ ws. prog.Wp.WpFn 𝓤 H 𝓣.C 𝓣.Λ fn ws Post in
    let v : V.Denot = z.0.3.0 in
    let a : Z.Denot = v.alloc in
    qed 𝓛 (((‵ (flft z.0.0.0 z.0.1.0) ⊛ ‵ (flft ρ q) ⊛ ‵ ftrue) ⊛ ‵ (fsep (V.own_val v z.0.4.0) ftrue)) ∷ raw
    (fact 𝓤 inX) ∷ raw (fact 𝓤 inZ) ∷ ‵ ftrue ∷ []) ∵
    move ! (1 ∷ 2 ∷ []) $ heard ! inX (λ leX. heard ! inZ (λ leZ. split ! $ split3 ! $ move ! (3 ∷ []) $ fsplit ! $
    had E.al R ! v z.0.4.0 (λ b o hv e ev fa.
    let w : Val = word hv b o in
    let is_typed = typed E.al R hv b o fa in
    -- [the room; the right to free; the handle; the token of the allocator's lifetime; the other token]
    keep ! (0 ∷ 1 ∷ 2 ∷ 5 ∷ 4 ∷ []) $
    suffices ! (Run (w ∷ [])) (subst (λ (us : List Val). ent 𝓤 (Run (w ∷ [])) (Run us)) (sym (λ i. ev i ++ [])) (id⊢
    𝓤 (Run (w ∷ [])))) $
    enter ! 𝓣.C 𝓣.Λ fn (w ∷ []) Post $ alloc_all ! (λ l. pass_all ! refl (is_typed, tt) $
    let Ev = env fn.locals l in
    let s : ℕ = capped (size (box.τ E)) in
    let al : ℕ = capped (align (box.τ E)) in
    let at : ℕ = up (align (α E.al)) 8 in
    let words : Vals = vcons (vptr b o) (vcons hv vnil) in
    let fields : Tys = tcons ty_ptr (tcons (α E.al) tnil) in
    let room = bare (box.τ E) in
    sets ! (of_opd ! (get ! refl)) refl is_typed $ first ! $ blocks ! $
    sets ! (addr ! (from ! (fld ! refl (stop !)))) refl (tt, tt) $
    sets ! (of_opd ! (get_in ! (fld ! refl (stop !)) (sub ! 0 refl (whole !)))) refl (tt, tt) $
    sets ! (of_opd ! (get ! refl)) refl (tt, tt) $
    take_at ! 2 $ move ! (0 ∷ 3 ∷ 4 ∷ []) $
    lends_field E.al (owning E.al R).name fields 1 at (l 2) 0 words a ρ q ! tt refl leZ (λ m.
    let κ : Lft = m.0 ∷ ρ in
    let hp : ℕ × ℕ = (l 2, 0 + at) in
    let y : Freed.Ghost = at_gives E.al 𝓛 𝓜.mem 𝓡.returns κ m.1 hp a b o s al room in
    join ! $ move ! (2 ∷ 3 ∷ 0 ∷ []) $ use3 𝓛 (raw (Freed.pre y))
    (Gives-goes E.al 𝓛 𝓜.mem 𝓡.returns κ m.1 hp a (Incl-trans (meet_⊑_right (m.0 ∷ []) ρ) leZ) b o s al room
    (ap capped (size-raw (box.τ E))) (ap capped (align-raw (box.τ E))) (capped_fits (size (box.τ E)))
    (capped_fits (align (box.τ E)))) $
    calls_at_last ! (fm 𝓛 𝓜 𝓡) Freed (met.deallocate dd) y (and_then ! (get ! refl) (and_then ! (get ! refl)
    (and_then ! (size_word !) (and_then ! (align_word !) (no_more !))))) (λ u.
    use1 𝓛 (later (given (u ≡ vunit) (‵ (flft κ m.1))))
    (Gives-Gives E.al 𝓛 𝓜.mem 𝓡.returns κ m.1 hp a b o s al room u) $ await ! tt $ learn ! (λ is_unit.
    takes_back E.al (owning E.al R).name fields 1 at (l 2) 0 words a ρ q ! tt m (λ hw fw. give_at ! 2 $
    lands_last ! refl (subst (λ (r : Val). T (has_ty ty_unit r) × WT r) (sym is_unit) (tt, tt)) $
    exec ! 𝓣.C 𝓣.Λ Ev (tail (tail fn.body)) (at_ret Ev Post) $
    sets ! (of_opd ! (get_in ! (fld ! refl (stop !)) (sub ! 1 refl (whole !)))) refl fw $
    sets ! (of_opd ! (get ! refl)) refl fw $
    returns ! (look_at ! 0 refl) $ free_all ! refl $
    use0 𝓛 (raw (fact 𝓤 (a ≡ a))) (fact_i 𝓤 (a ≡ a) (emp 𝓤) refl) $ nothing ! $ nothing ! $ fjoin ! $
    -- [what is left of the parameter; the fact; the handle; the tokens]
    nothing ! $ move ! (4 ∷ 0 ∷ []) $ join ! $ move ! (4 ∷ 0 ∷ []) $ join ! $ keep ! (0 ∷ 1 ∷ 3 ∷ 2 ∷ []) $
    by ! (leaves 𝓛 En hs c z hw a ((tt, (tt, tt)), tt) (tt, tt)))))))))))
