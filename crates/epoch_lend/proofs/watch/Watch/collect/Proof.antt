-- `collect` brings every loan of one value home, by what the watch knows of all loans.
use Rattle.std.proofs.Common.{◌≡◌, ℕ, ◌^◌, List, [], ◌∷◌, refl}
use mir.Syntax.{a_type, named}
use mir.Val.{Val, vptr}
use mir.MapTy.{inst_fn}
use base.Fraction.{full_share}
use base.FractionLaws.{Counts, Counts-all}
use base.Logic.{SProp, emp}
use base.Fml.{Lft, Share, Fml, ftrue, fsep, fex, flft}
use types.Kit.{‵, raw, ◌⊛◌, later, ◌$◌, ◌∵◌, !, qed, by, move, keep, drop, split, join, fsplit, fsplit3, fjoin, fjoin3}
use types.Kit.{fpack, use0, use1, use2, await, rewrite, feq_i}
use types.Run.{stop, fld, of_opd, no_more, and_then, returns, enter}
use types.ByLocal.{alloc_all, pass_all, free_all, look_at, get, get_in, sets}
use types.Part.{agg, sub, whole}
use contract.Running.{tables}
use contract.Monad.{fact, fact_i}
use denote.Exit.{no}
use denote.RattleType.{RattleType, owns}
use denote.Signature.{types_at, plain}
use denote.RawPtr.{Ptr}
use denote.Steps.{nothing, heard, opens, closes}
use denote.Param.{param, layouts}
use denote.Ref.{mut_vals, mut_Tells}
use denote.Triple.Walked.{Stays, stay_dropped, stay_ref, walk_of, Goes-dropped, Goes-ref}
use Rattle.atomic_table.proofs.Walks.{proved, leaves}
use Rattle.epoch_lend.specs.Loans.{Loan, AreShown, all_shown, marked_owns}
use Rattle.epoch_lend.specs.Watching.{AreWatched}
use Rattle.epoch_lend.specs.contracts.lending.Marked as marked_is
use Rattle.epoch_lend.specs.contracts.part.Part as part_is
use Rattle.epoch_lend.specs.contracts.watch.Watch as watch_is
use Rattle.epoch_lend.proofs.PartFields.{Data, made}
use Rattle.epoch_lend.proofs.Fields.{word, word_typed, ptr_typed, found_told}
use Rattle.epoch_lend.proofs.Watching.{all_dead, all_over, some_dead, shown_again, all_back}
use Rattle.epoch_lend.specs.contracts.watch.Watch.collect.{ended, clauses}
use Rattle.epoch_lend.specs.contracts.watch.Watch.collect.Key.{name as #self}
use Rattle.epoch_lend.proofs.watch.Watch.collect.Statement.{statement}
use Rattle.epoch_lend.proofs.watch.Watch.collect.Code as code

pub collect_spec : {M : Type 1} → statement M
collect_spec 𝓤 𝓛 𝓜 𝓡 wired X L =
    let H = 𝓛.H in
    let 𝓣 = tables 𝓤 H 𝓜 𝓡 𝓡.env in
    let R : RattleType = param 0 X in
    let En = ended X in
    let c = clauses X 𝓛 𝓜.mem 𝓡.returns in
    let inst = layouts (a_type ∷ []) (X, tt) in
    let fn = inst_fn inst code.function in
    let closed = code.unfolded 𝓤 H 𝓜 𝓡 wired (X, tt) in
    let Wr : RattleType = watch_is.the_row in
    let Hr : RattleType = marked_is.the_row R in
    let Pr : RattleType = part_is.the_row R in
    let self = plain (λ _. Wr) in
    let given_in = plain (λ _. Hr) in
    let hs : Stays En.signature.params En.kept = (stay_ref (0 ∷ []) tt self, (stay_dropped given_in no, tt)) in
    proved 𝓛 En hs c 𝓜 𝓡 (
      Goes-ref 𝓛 2 0 tt self,
      (Goes-dropped 𝓛 2 given_in no (λ κs x f. refl), tt),
    ) (#self inst) fn closed
    (λ κs. (mut_vals, ((λ x. word x.at ∷ []), tt))) (λ κs. (
      mut_Tells (named 0) κs.0 Wr,
      ((λ x vs so. found_told R x.at vs so.0), tt),
    )) (λ κs qs bounds a gh are.
    let b : ℕ = a.0.ref_ptr.0 in
    let o : ℕ = a.0.ref_ptr.1 in
    let κ : Lft = κs.0 in
    let d : Wr.Denot = a.0.now in
    let all : List Loan = d.loans in
    let h : Hr.Denot = a.1.0 in
    let p : Ptr = h.at in
    let n : ℕ = h.lifetime in
    let ls : List Loan = h.loans in
    let Right : Type 0 = h.right ≡ 1 in
    let Among : Type 0 = AreWatched ls all in
    let Clear : Type 0 = AreShown d.seen all in
    let r : Pr.Denot = record { ptr = p; value = h.value; lifetime = n; count = 2 ^ 63 } in
    let Told : Type 0 = (d ≡ d) × (h.value ≡ h.value) × (n ≡ n) × (r.count ≡ 2 ^ 63) in
    let others : Fml = fsep (flft κs.1.0 qs.1.0) ftrue in
    let y : (walk_of 𝓛 En hs c).Ghost = ((κs, qs, bounds, a, (vptr b o ∷ [], (word p ∷ [], tt))), gh) in
    let Post : Val → SProp 𝓤 = (walk_of 𝓛 En hs c).post y in
    qed 𝓛 (((‵ (flft κ qs.0) ⊛ ‵ others) ⊛ ‵ (owns (types_at En.signature.params κs) a y.0.4)) ∷ raw (fact 𝓤 _) ∷ raw
    (fact 𝓤 Right) ∷ raw (fact 𝓤 Among) ∷ raw (fact 𝓤 Clear) ∷ []) ∵
    keep ! (2 ∷ 3 ∷ 4 ∷ 0 ∷ []) $ heard ! Right (λ right. heard ! Among (λ among. heard ! Clear (λ clear.
    split ! $ split ! $ move ! (2 ∷ []) $
    fsplit3 ! $ move ! (1 ∷ []) $ fsplit ! $ drop ! $
    rewrite ! 0 (λ (k : ℕ). ‵ (marked_owns R p h.value n k ls h.seen)) right refl $ fsplit3 ! $
    -- [the stock; the value shown; what was seen; self; nothing; κ; the others]
    keep ! (3 ∷ 0 ∷ 1 ∷ 4 ∷ 5 ∷ 6 ∷ []) $ fsplit3 ! $ keep ! (1 ∷ 2 ∷ 6 ∷ 7 ∷ 3 ∷ 4 ∷ []) $
    enter ! 𝓣.C 𝓣.Λ fn (vptr b o ∷ word p ∷ []) Post $
    alloc_all ! (λ l. pass_all ! refl ((tt, tt), (word_typed p, tt)) $
    opens ! tt Wr b o (λ vs. move ! (1 ∷ []) $ fsplit ! $ move ! (1 ∷ []) $ fsplit ! $ move ! (1 ∷ []) $
    use1 𝓛 (‵ (all_dead 𝓛 all)) (all_over 𝓛 d.seen all clear) $
    use1 𝓛 (‵ (all_dead 𝓛 all) ⊛ ‵ (all_dead 𝓛 ls)) (some_dead 𝓛 ls all among) $ split ! $
    use1 𝓛 (‵ (all_shown d.seen all)) (shown_again 𝓛 d.seen all) $
    -- [shown; dead; entries; the bytes; ..; the stock; the value shown]
    move ! (2 ∷ 0 ∷ []) $ fjoin ! $ move ! (2 ∷ 0 ∷ []) $ fjoin ! $
    move ! (2 ∷ 0 ∷ 3 ∷ 4 ∷ 5 ∷ 6 ∷ []) $ closes ! tt Wr d vs b o $
    feq_i ! (List Val) (vptr b o ∷ []) (vptr b o ∷ []) refl $ fjoin3 ! $
    nothing ! $ nothing ! $ fjoin ! $ move ! (1 ∷ 0 ∷ []) $ fjoin ! $ move ! (1 ∷ 2 ∷ []) $ join ! $
    -- [the tokens; self; dead; the stock; the value shown]
    move ! (3 ∷ 2 ∷ []) $
    use2 𝓛 (later (‵ (flft (n ∷ []) full_share))) (all_back 𝓛 n ls) $ await ! tt $
    fpack ! (Counts 63 full_share (2 ^ 63)) (λ _. flft (n ∷ []) full_share) (Counts-all 63) $
    fpack ! Share (λ s. fex (Counts 63 s (2 ^ 63)) (λ _. flft (n ∷ []) s)) full_share $ move ! (0 ∷ 3 ∷ []) $ fjoin ! $
    sets ! (of_opd ! (get_in ! (fld ! refl (stop !)) (sub ! 0 refl (whole !)))) refl (ptr_typed p) $
    sets ! (agg ! (and_then ! (get ! refl) (no_more !))) refl (word_typed p) $
    use0 𝓛 (‵ ((Data R).own_val (p, tt) (word p ∷ []))) (made R 𝓛 p) $ fjoin ! $
    use0 𝓛 (raw (fact 𝓤 Told)) (fact_i 𝓤 Told (emp 𝓤) (refl, refl, refl, refl)) $
    returns ! (look_at ! 0 refl) $ free_all ! refl $ keep ! (2 ∷ 3 ∷ 1 ∷ 0 ∷ []) $
    by ! (leaves 𝓛 En hs c y (word p) r (d, (tt, tt)) (tt, (tt, tt)))))))))
