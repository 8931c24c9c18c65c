-- `add` copies from the loans of a value that their guards are entered.
use Rattle.std.proofs.Common.{◌≡◌, ℕ, List, [], ◌∷◌, ◌++◌, sym, refl}
use mir.Syntax.{a_type, named}
use mir.Val.{Val, vptr}
use mir.MapTy.{inst_fn}
use base.Logic.{SProp, emp}
use base.Fml.{Lft, Fml, ftrue, fsep, flft}
use types.Kit.{‵, raw, ◌⊛◌, ◌$◌, ◌∵◌, !, qed, by, move, keep, drop, split, join, fsplit, fsplit3, fjoin, fjoin3, use0}
use types.Kit.{use1, use2, rewrite, feq_i}
use types.Run.{stop, fld, of_opd, no_more, and_then, returns, enter}
use types.ByLocal.{alloc_all, pass_all, free_all, look_at, get, get_in, sets}
use types.Part.{agg, sub, whole}
use contract.Running.{tables}
use contract.Monad.{fact, fact_i}
use denote.Exit.{no}
use denote.RattleType.{RattleType, owns}
use denote.Signature.{types_at, plain}
use denote.RawPtr.{Ptr}
use denote.Steps.{nothing, heard, opens, closes}
use denote.Param.{param, layouts}
use denote.Ref.{mut_vals, mut_Tells}
use denote.Triple.Walked.{Stays, stay_dropped, stay_ref, walk_of, Goes-dropped, Goes-ref}
use Rattle.atomic_table.proofs.Walks.{proved, leaves}
use Rattle.epoch_lend.specs.Loans.{Loan, SeenPost, loans, all_shown, marked_owns}
use Rattle.epoch_lend.specs.Watching.{entries}
use Rattle.epoch_lend.specs.contracts.lending.Marked as marked_is
use Rattle.epoch_lend.specs.contracts.watch.Watch as watch_is
use Rattle.epoch_lend.proofs.Fields.{Found, word, word_typed, ptr_typed, found_told, found_made}
use Rattle.epoch_lend.proofs.Loans.{loans_tell}
use Rattle.epoch_lend.proofs.Watching.{entries_glue}
use Rattle.epoch_lend.specs.contracts.watch.Watch.add.{ended, clauses}
use Rattle.epoch_lend.specs.contracts.watch.Watch.add.Key.{name as #self}
use Rattle.epoch_lend.proofs.watch.Watch.add.Statement.{statement}
use Rattle.epoch_lend.proofs.watch.Watch.add.Code as code

pub add_spec : {M : Type 1} → statement M
add_spec 𝓤 𝓛 𝓜 𝓡 wired X L =
    let H = 𝓛.H in
    let 𝓣 = tables 𝓤 H 𝓜 𝓡 𝓡.env in
    let R : RattleType = param 0 X in
    let En = ended X in
    let c = clauses X 𝓛 𝓜.mem 𝓡.returns in
    let inst = layouts (a_type ∷ []) (X, tt) in
    let fn = inst_fn inst code.function in
    let closed = code.unfolded 𝓤 H 𝓜 𝓡 wired (X, tt) in
    let Wr : RattleType = watch_is.the_row in
    let Hr : RattleType = marked_is.the_row R in
    let self = plain (λ _. Wr) in
    let given_in = plain (λ _. Hr) in
    let hs : Stays En.signature.params En.kept = (stay_ref (0 ∷ []) tt self, (stay_dropped given_in no, tt)) in
    proved 𝓛 En hs c 𝓜 𝓡 (
      Goes-ref 𝓛 2 0 tt self,
      (Goes-dropped 𝓛 2 given_in no (λ κs x f. refl), tt),
    ) (#self inst) fn closed
    (λ κs. (mut_vals, ((λ x. word x.at ∷ []), tt))) (λ κs. (
      mut_Tells (named 0) κs.0 Wr,
      ((λ x vs so. found_told R x.at vs so.0), tt),
    )) (λ κs qs bounds a gh are.
    let b : ℕ = a.0.ref_ptr.0 in
    let o : ℕ = a.0.ref_ptr.1 in
    let κ : Lft = κs.0 in
    let d : Wr.Denot = a.0.now in
    let h : Hr.Denot = a.1.0 in
    let p : Ptr = h.at in
    let n : ℕ = h.lifetime in
    let ms : List Loan = h.loans in
    let d' : Wr.Denot = record { marker = record {}; loans = ms ++ d.loans; seen = [] } in
    let Asked : Type 0 = (h.right ≡ 1) × (d.seen ≡ []) in
    let Told : Type 0 = (d'.loans ≡ ms ++ d.loans) × (d'.seen ≡ []) × (h ≡ h) in
    let others : Fml = fsep (flft κs.1.0 qs.1.0) ftrue in
    let y : (walk_of 𝓛 En hs c).Ghost = ((κs, qs, bounds, a, (vptr b o ∷ [], (word p ∷ [], tt))), gh) in
    let Post : Val → SProp 𝓤 = (walk_of 𝓛 En hs c).post y in
    qed 𝓛 (((‵ (flft κ qs.0) ⊛ ‵ others) ⊛ ‵ (owns (types_at En.signature.params κs) a y.0.4)) ∷ raw (fact 𝓤 _) ∷ raw
    (fact 𝓤 Asked) ∷ []) ∵
    keep ! (2 ∷ 0 ∷ []) $ heard ! Asked (λ asked. split ! $ split ! $ move ! (2 ∷ []) $
    fsplit3 ! $ move ! (1 ∷ []) $ fsplit ! $ drop ! $
    rewrite ! 0 (λ (k : ℕ). ‵ (marked_owns R p h.value n k ms h.seen)) asked.0 refl $ fsplit3 ! $ fsplit ! $
    move ! (1 ∷ []) $ use1 𝓛 (‵ (loans n ms) ⊛ ‵ (entries ms)) (loans_tell 𝓛 n ms) $ split ! $
    -- [the loans; their entries; the token; the value shown; what was seen; self; nothing; κ; the others]
    move ! (2 ∷ 0 ∷ []) $ fjoin ! $ move ! (0 ∷ 2 ∷ 3 ∷ []) $ fjoin3 ! $
    rewrite ! 0 (λ (k : ℕ). ‵ (marked_owns R p h.value n k ms h.seen)) (sym asked.0) refl $
    move ! (2 ∷ []) $ fsplit3 ! $ keep ! (1 ∷ 2 ∷ 6 ∷ 7 ∷ 3 ∷ 4 ∷ []) $
    enter ! 𝓣.C 𝓣.Λ fn (vptr b o ∷ word p ∷ []) Post $
    alloc_all ! (λ l. pass_all ! refl ((tt, tt), (word_typed p, tt)) $
    opens ! tt Wr b o (λ vs. move ! (1 ∷ []) $ fsplit ! $ move ! (1 ∷ []) $ fsplit ! $ move ! (9 ∷ 0 ∷ []) $
    use2 𝓛 (‵ (entries (ms ++ d.loans))) (entries_glue 𝓛 ms d.loans) $ move ! (1 ∷ []) $
    rewrite ! 0 (λ (ss : List SeenPost). ‵ (all_shown ss d.loans)) asked.1 refl $ move ! (1 ∷ 0 ∷ []) $ fjoin ! $
    move ! (1 ∷ 0 ∷ []) $ fjoin ! $ move ! (1 ∷ 0 ∷ []) $ closes ! tt Wr d' vs b o $
    feq_i ! (List Val) (vptr b o ∷ []) (vptr b o ∷ []) refl $ fjoin3 ! $
    nothing ! $ nothing ! $ fjoin ! $ move ! (1 ∷ 0 ∷ []) $ fjoin ! $ move ! (1 ∷ 2 ∷ []) $ join ! $
    sets ! (of_opd ! (get_in ! (fld ! refl (stop !)) (sub ! 0 refl (whole !)))) refl (ptr_typed p) $
    sets ! (agg ! (and_then ! (get ! refl) (no_more !))) refl (word_typed p) $
    -- [the tokens; self; what was marked]
    move ! (2 ∷ []) $ use0 𝓛 (‵ ((Found R).own_val (p, tt) (word p ∷ []))) (found_made R 𝓛 p) $ fjoin ! $
    use0 𝓛 (raw (fact 𝓤 Told)) (fact_i 𝓤 Told (emp 𝓤) (refl, refl, refl)) $
    returns ! (look_at ! 0 refl) $ free_all ! refl $ keep ! (2 ∷ 3 ∷ 1 ∷ 0 ∷ []) $
    by ! (leaves 𝓛 En hs c y (word p) h (d', (tt, tt)) (tt, (tt, tt)))))))
