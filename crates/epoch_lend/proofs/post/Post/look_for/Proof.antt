-- `look_for` is one plain load, and what it tells of all loans of a watch.
use Rattle.std.proofs.Common.{◌≡◌, ℕ, ◌+◌, ◌^◌, List, [], ◌∷◌, ◌++◌, refl, lit<, w64}
use mir.Syntax.{named}
use mir.Val.{Val, vint, vptr, vstruct, of_list}
use base.Logic.{SProp, wand, emp, via, apply∗}
use base.Fml.{Lft, Share, Fml, ftrue, fsep, feq, flft}
use types.Kit.{‵, raw, ◌⊛◌, some, later, mean, at_ret, ◌$◌, ◌∵◌, !, qed, by, move, keep, split, join, fsplit}
use types.Kit.{fjoin, fjoin3, fpick, fpack, pick, use0, use1, use2, use3, await, feq_i, flt_i}
use types.Run.{stop, fld, addr, lit, of_opd, no_more, and_then, first, blocks, exec, Calls-last, returns, enter}
use types.ByLocal.{alloc_all, pass_all, free_all, look_at, get, through, sets, lands_last, env}
use types.Part.{agg}
use contract.Running.{tables}
use contract.Monad.{fact, fact_i}
use contract.Shared.{Lends-one}
use denote.Exit.{yes}
use denote.RattleType.{RattleType, Valss, owns}
use denote.Signature.{types_at, plain}
use denote.RawPtr.{block_ptr}
use denote.Steps.{nothing}
use denote.Opens.{unhide}
use denote.Builtin.{RefOf, u64}
use denote.Ref.{shr_vals, shr_Tells}
use denote.Triple.Walked.{Stays, stay_dropped, walk_of, Goes-dropped}
use Rattle.core.proofs.atomic.Steps.{tail}
use Rattle.atomic_table.proofs.Walks.{proved, leaves}
use Rattle.atomic_table.proofs.Calls.{fm, seq_cst, found, finds, loads}
use Rattle.epoch_lend.proofs.Fields.{pair_of, token, token_told, token_made, Token}
use Rattle.epoch_lend.specs.contracts.post.Post as post_is
use Rattle.epoch_lend.specs.contracts.watch.Watch as watch_is
use Rattle.epoch_lend.proofs.Posting as posting
use Rattle.epoch_lend.specs.Posts.{PostNames}
use Rattle.epoch_lend.specs.Loans.{Loan, SeenPost}
use Rattle.epoch_lend.specs.Watching.{entries}
use Rattle.epoch_lend.proofs.Watching.{entries_dup}
use Rattle.epoch_lend.specs.contracts.post.Post.look_for.{ended, clauses}
use Rattle.epoch_lend.specs.contracts.post.Post.look_for.Key.{name as #self}
use Rattle.epoch_lend.proofs.post.Post.look_for.Statement.{statement}
use Rattle.epoch_lend.proofs.post.Post.look_for.Code as code

pub look_for_spec : {M : Type 1} → statement M
look_for_spec 𝓤 𝓛 𝓜 𝓡 wired =
    let H = 𝓛.H in
    let 𝓣 = tables 𝓤 H 𝓜 𝓡 𝓡.env in
    let En = ended in
    let fn = code.function in
    let c = clauses 𝓛 𝓜.mem 𝓡.returns in
    let Row : RattleType = post_is.the_row in
    let Wr : RattleType = watch_is.the_row in
    let self = RefOf (0 ∷ []) tt (plain (λ _. Row)) (λ _. tt) in
    let given_in = plain (λ _. Wr) in
    let hs : Stays En.signature.params En.kept = (stay_dropped self yes, (stay_dropped given_in yes, tt)) in
    proved 𝓛 En hs c 𝓜 𝓡 (
      Goes-dropped 𝓛 1 self yes (λ κs x f. refl),
      (Goes-dropped 𝓛 1 given_in yes (λ κs x f. refl), tt),
    ) #self fn (code.unfolded 𝓤 H 𝓜 𝓡 wired)
    (λ κs. (shr_vals, ((λ x. token ∷ []), tt))) (λ κs. (
      shr_Tells (named 0) κs.0 Row,
      ((λ x vs so. token_told vs so.0), tt),
    )) (λ κs qs bounds a gh are.
    let b : ℕ = a.0.ref_ptr.0 in
    let o : ℕ = a.0.ref_ptr.1 in
    let κ : Lft = κs.0 in
    let q : Share = qs.0 in
    let d : PostNames = a.0.now in
    let h : Wr.Denot = a.1.0 in
    let ls : List Loan = h.loans in
    let y : (walk_of 𝓛 En hs c).Ghost = ((κs, qs, bounds, a, (vptr b o ∷ [], (token ∷ [], tt))), gh) in
    let Post : Val → SProp 𝓤 = (walk_of 𝓛 En hs c).post y in
    qed 𝓛 (((‵ (flft κ q) ⊛ ‵ ftrue) ⊛ ‵ (owns (types_at En.signature.params κs) a y.0.4)) ∷ raw ((c κs
    a).requires gh) ∷ []) ∵
    keep ! (0 ∷ []) $ split ! $ split ! $ move ! (2 ∷ []) $ fsplit ! $ fsplit ! $
    keep ! (2 ∷ 1 ∷ 3 ∷ 4 ∷ []) $ fsplit ! $ fsplit ! $ keep ! (1 ∷ 3 ∷ 4 ∷ 5 ∷ []) $
    fsplit ! $ use1 𝓛 (‵ (entries ls) ⊛ ‵ (entries ls)) (entries_dup 𝓛 ls) $ split ! $
    -- [entries; entries; shown; the post; κ; the others]
    enter ! 𝓣.C 𝓣.Λ fn (vptr b o ∷ token ∷ []) Post $
    alloc_all ! (λ l. pass_all ! refl ((tt, tt), ((tt, (tt, tt)), tt)) $ let Ev = env fn.locals l in
    move ! (3 ∷ []) $ unhide ! $ fpick ! (λ α. fsplit ! $ move ! (0 ∷ 5 ∷ []) $
    use2 𝓛 (later (some (λ (s : Share). ‵ (flft α s) ⊛ raw (wand 𝓤 (𝓛.A.lft α s) (H.⇛ (𝓛.A.lft κ q)))))) (Lends-one 𝓛
    𝓜 𝓡 κ α q) $ await ! tt $ pick ! (λ s. split ! $
    -- [α; its way back; the invariant; entries; entries; shown; the others]
    let after : ℕ → Fml = λ n. fsep (flft α s) (posting.Seen 𝓛 d α s b o 0 ls n) in first ! $ blocks ! $
    sets ! (addr ! (through ! refl (fld ! refl (stop !)))) refl (tt, tt) $ move ! (2 ∷ 0 ∷ 3 ∷ []) $
    use3 𝓛 (raw (𝓣.C _ (vptr b (o + 0) ∷ seq_cst ∷ []) (λ u. mean 𝓛 (found after u))))
    (via 𝓤 _ (posting.looks_at 𝓛 d α s b o 0 ls) (loads 𝓛 𝓜 𝓡 (code.calls-core::raw_atomic::load 𝓡.env wired)
    (block_ptr b (o + 0)) after)) $
    sets ! (agg ! (and_then ! (lit ! tt) (no_more !))) refl (tt, (record { fits = lit< tt }, tt)) $
    Calls-last ! (fm 𝓛 𝓜 𝓡) (found after) (and_then ! (get ! refl) (and_then ! (get ! refl) (no_more !))) (λ u. finds
    ! after (λ n fits.
    lands_last ! refl (tt, record { fits = fits }) $ exec ! 𝓣.C 𝓣.Λ Ev (tail fn.body) (at_ret Ev Post) $
    sets ! (of_opd ! (get ! refl)) refl (tt, record { fits = fits }) $
    sets ! (agg ! (no_more !)) refl (tt, tt) $
    sets ! (agg ! (and_then ! (get ! refl) (no_more !))) refl (tt, (tt, tt)) $
    sets ! (agg ! (and_then ! (get ! refl) (and_then ! (get ! refl) (no_more !)))) refl (
      tt,
      (record { fits = fits }, ((tt, tt), tt)),
    ) $
    fsplit ! $ move ! (0 ∷ 2 ∷ []) $ use2 𝓛 (later (‵ (flft κ q))) (apply∗ 𝓤 (𝓛.A.lft α s) (H.⇛ (𝓛.A.lft κ q))) $
    await ! tt $
    -- [κ; what was told; entries; shown; the others]
    move ! (0 ∷ 4 ∷ []) $ join ! $ move ! (1 ∷ 3 ∷ []) $ fjoin ! $
    let ss : List SeenPost = (d.log, n) ∷ h.seen in
    move ! (2 ∷ 0 ∷ []) $ fjoin ! $
    let r : Wr.Denot = record { marker = record {}; loans = ls; seen = ss } in
    let v : Val = pair_of n token in
    let Told : Type 0 = ss ≡ ss in
    let Same : Type 0 = ls ≡ ls in
    use0 𝓛 (‵ (Token.own_val (record {}, tt) (token ∷ []))) (token_made 𝓛) $ fjoin ! $ nothing ! $
    flt_i ! n (2 ^ 64) fits $ feq_i ! (List Val) (vint w64 n ∷ []) (vint w64 n ∷ []) refl $ fjoin ! $
    move ! (0 ∷ 2 ∷ 1 ∷ []) $ fjoin3 ! $ feq_i ! (List Val) (v ∷ []) (v ∷ []) refl $ fjoin ! $
    fpack ! (Valss (u64 ∷ Wr ∷ [])) (λ uss. fsep (feq (List Val) (v ∷ []) (vstruct (of_list (uss.0 ++ (uss.1.0 ++
    []))) ∷ [])) (owns (u64 ∷ Wr ∷ []) (n, (r, tt)) uss)) (vint w64 n ∷ [], (token ∷ [], tt)) $
    use0 𝓛 (raw (fact 𝓤 Same)) (fact_i 𝓤 Same (emp 𝓤) refl) $
    use0 𝓛 (raw (fact 𝓤 Told)) (fact_i 𝓤 Told (emp 𝓤) refl) $ join ! $ nothing ! $ nothing ! $ fjoin ! $
    nothing ! $ fjoin ! $
    returns ! (look_at ! 0 refl) $ free_all ! refl $ keep ! (3 ∷ 0 ∷ 2 ∷ 1 ∷ []) $
    by ! (leaves 𝓛 En hs c y v (n, r) (tt, (tt, tt)) (tt, (tt, tt)))))))))
