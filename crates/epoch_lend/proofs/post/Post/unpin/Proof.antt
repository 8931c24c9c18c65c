-- `unpin` is one store, which the post's log goes with.
use base.Fraction.{full_share}
use Rattle.std.proofs.Common.{◌^◌, ◌≡◌, ℕ, ◌+◌, [], ◌∷◌, refl, lit<, w64}
use mir.Syntax.{named}
use mir.Val.{Val, vint, vptr}
use base.Logic.{SProp, wand, emp, via, apply∗}
use base.Fml.{Lft, Share, Fml, ftrue, fsep, flft}
use types.Kit.{use1, ‵, raw, ◌⊛◌, some, later, mean, at_ret, ◌$◌, ◌∵◌, !, qed, by, move, keep, split, join, fsplit}
use types.Kit.{fjoin, fpick, pick, use0, use2, use3, await, rewrite}
use types.Run.{stop, fld, addr, lit, no_more, and_then, first, blocks, exec, Calls-last, returns, enter}
use types.ByLocal.{alloc_all, pass_all, free_all, look_at, get, through, sets, lands_last, env}
use types.Part.{agg}
use contract.Running.{tables}
use contract.Monad.{fact, fact_i}
use contract.Shared.{Lends-one}
use denote.Exit.{yes}
use denote.RattleType.{RattleType, owns}
use denote.Signature.{types_at, plain}
use denote.RawPtr.{block_ptr}
use denote.Steps.{nothing, heard}
use denote.Opens.{unhide}
use denote.Builtin.{RefOf}
use denote.Ref.{shr_vals, shr_Tells}
use denote.Triple.Walked.{Stays, stay_dropped, walk_of, Goes-dropped}
use Rattle.core.proofs.atomic.Steps.{tail}
use Rattle.atomic_table.proofs.Walks.{proved, leaves}
use Rattle.atomic_table.proofs.Calls.{fm, seq_cst}
use Rattle.epoch_lend.specs.contracts.post.Pin as pin
use Rattle.epoch_lend.specs.contracts.post.PostGuard as guard
use Rattle.epoch_lend.proofs.Fields.{Token}
use types.Tokens.{lft_end}
use base.Stored.{gnum}
use base.Fml.{fobs}
use Rattle.atomic_table.proofs.Calls.{stored, has_stored, stores}
use Rattle.epoch_lend.specs.Posts.{PostNames, pin_owns}
use Rattle.epoch_lend.specs.Parted.{tokens}
use Rattle.epoch_lend.proofs.PartSteps.{tokens_whole}
use Rattle.epoch_lend.specs.contracts.post.Post as post_is
use Rattle.epoch_lend.specs.contracts.post.Unpinned as unpinned
use Rattle.epoch_lend.proofs.Posting as posting
use Rattle.epoch_lend.proofs.Fields.{token, token_told, token_made}
use Rattle.epoch_lend.specs.contracts.post.Post.unpin.{ended, clauses}
use Rattle.epoch_lend.specs.contracts.post.Post.unpin.Key.{name as #self}
use Rattle.epoch_lend.proofs.post.Post.unpin.Statement.{statement}
use Rattle.epoch_lend.proofs.post.Post.unpin.Code as code

pub unpin_spec : {M : Type 1} → statement M
unpin_spec 𝓤 𝓛 𝓜 𝓡 wired =
    let H = 𝓛.H in
    let 𝓣 = tables 𝓤 H 𝓜 𝓡 𝓡.env in
    let fn = code.function in
    let c = clauses 𝓛 𝓜.mem 𝓡.returns in
    let Row : RattleType = post_is.the_row in
    let Tr : RattleType = pin.the_row in
    let Gr : RattleType = guard.the_row in
    let self = RefOf (0 ∷ []) tt (plain (λ _. Row)) (λ _. tt) in
    let given_in = plain (λ _. Tr) in
    let held_in = plain (λ _. Gr) in
    let hs : Stays ended.signature.params ended.kept = (
      stay_dropped self yes,
      (
        stay_dropped given_in yes,
        (stay_dropped held_in yes, tt),
      ),
    ) in
    proved 𝓛 ended hs c 𝓜 𝓡 (
      Goes-dropped 𝓛 1 self yes (λ κs x f. refl),
      (
        Goes-dropped 𝓛 1 given_in yes (λ κs x f. refl),
        (
          Goes-dropped 𝓛 1 held_in yes (λ κs x f. refl),
          tt,
        ),
      ),
    ) #self fn (code.unfolded 𝓤 H 𝓜 𝓡 wired)
    (λ κs. (shr_vals, ((λ _. token ∷ []), ((λ _. token ∷ []), tt)))) (λ κs. (
      shr_Tells (named 0) κs.0 Row,
      ((λ x vs so. token_told vs so.0), ((λ x vs so. token_told vs so.0), tt)),
    )) (λ κs qs bounds a gh are.
    let b : ℕ = a.0.ref_ptr.0 in
    let o : ℕ = a.0.ref_ptr.1 in
    let κ : Lft = κs.0 in
    let q : Share = qs.0 in
    let d : PostNames = a.0.now in
    let t : Tr.Denot = a.1.0 in
    let g : Gr.Denot = a.1.1.0 in
    let Asked : Type 0 = (t.log ≡ d.log) × (t.state ≡ d.state) in
    let Whole : Type 0 = (g.atom ≡ t.atom) × (g.count ≡ 2 ^ 63) in
    let y : (walk_of 𝓛 ended hs c).Ghost = (
      (κs, qs, bounds, a, (vptr b o ∷ [], (token ∷ [], (token ∷ [], tt)))),
      gh,
    ) in
    let Post : Val → SProp 𝓤 = (walk_of 𝓛 ended hs c).post y in
    qed 𝓛 (((‵ (flft κ q) ⊛ ‵ ftrue) ⊛ ‵ (owns (types_at ended.signature.params κs) a y.0.4)) ∷ raw (fact 𝓤 Asked) ∷
    raw (fact 𝓤 Whole) ∷ []) ∵
    move ! (1 ∷ []) $ heard ! Asked (λ asked. move ! (1 ∷ []) $ heard ! Whole (λ whole_here. split ! $ split ! $
    move ! (2 ∷ []) $ fsplit ! $ fsplit ! $ keep ! (2 ∷ 1 ∷ 3 ∷ 4 ∷ []) $
    fsplit ! $ fsplit ! $ keep ! (1 ∷ 2 ∷ 3 ∷ 4 ∷ 5 ∷ []) $ move ! (1 ∷ []) $ fsplit ! $ fsplit ! $
    keep ! (1 ∷ 3 ∷ 4 ∷ 5 ∷ 6 ∷ []) $ fsplit ! $ keep ! (0 ∷ 2 ∷ 3 ∷ 4 ∷ 5 ∷ []) $
    -- [the guards' tokens; the pin; the post; κ; the others]
    enter ! 𝓣.C 𝓣.Λ fn (vptr b o ∷ token ∷ token ∷ []) Post $
    alloc_all ! (λ l. pass_all ! refl ((tt, tt), ((tt, (tt, tt)), ((tt, (tt, tt)), tt))) $
    let Ev = env fn.locals l in
    let γ : ℕ = t.atom in rewrite ! 0 (λ (z : ℕ × ℕ). ‵ (tokens z.0 z.1)) (λ i. (
      whole_here.0 i,
      whole_here.1 i,
    )) refl $ use1 𝓛 (‵ (flft (γ ∷ []) full_share)) (tokens_whole 𝓛 γ) $ lft_end ! tt $
    move ! (1 ∷ []) $ rewrite ! 0 (λ (z : ℕ). ‵ (pin_owns γ z)) asked.1 refl $ move ! (0 ∷ 1 ∷ []) $ fjoin ! $
    move ! (1 ∷ []) $ unhide ! $ fpick ! (λ α. fsplit ! $ move ! (0 ∷ 3 ∷ []) $
    use2 𝓛 (later (some (λ (s : Share). ‵ (flft α s) ⊛ raw (wand 𝓤 (𝓛.A.lft α s) (H.⇛ (𝓛.A.lft κ q))))))
    (Lends-one 𝓛 𝓜 𝓡 κ α q) $ await ! tt $
    pick ! (λ s. split ! $ let after : Fml = fsep (flft α s) (fobs d.state (gnum 0)) in first ! $ blocks ! $
    sets ! (addr ! (through ! refl (fld ! refl (stop !)))) refl (tt, tt) $ move ! (2 ∷ 0 ∷ 3 ∷ []) $
    use3 𝓛 (raw (𝓣.C _ (vptr b (o + 0) ∷ vint w64 0 ∷ seq_cst ∷ []) (λ u. mean 𝓛 (stored after u))))
    (via 𝓤 _ (posting.unpins 𝓛 d α s b o γ g.epoch) (stores 𝓛 𝓜 𝓡 (code.calls-core::raw_atomic::store 𝓡.env wired)
    (block_ptr b (o + 0)) 0 (lit< tt) after)) $
    sets ! (agg ! (and_then ! (lit ! tt) (no_more !))) refl (tt, (record { fits = lit< tt }, tt)) $
    Calls-last ! (fm 𝓛 𝓜 𝓡) (stored after) (and_then ! (get ! refl) (and_then ! (lit ! tt) (and_then ! (get ! refl)
    (no_more !)))) (λ u. has_stored ! after (
    lands_last ! refl (tt, tt) $ exec ! 𝓣.C 𝓣.Λ Ev (tail fn.body) (at_ret Ev Post) $
    sets ! (agg ! (no_more !)) refl (tt, tt) $
    sets ! (agg ! (and_then ! (get ! refl) (no_more !))) refl (tt, (tt, tt)) $
    fsplit ! $ move ! (0 ∷ 2 ∷ []) $ use2 𝓛 (later (‵ (flft κ q))) (apply∗ 𝓤 (𝓛.A.lft α s) (H.⇛ (𝓛.A.lft κ q))) $
    await ! tt $ move ! (0 ∷ 2 ∷ []) $ join ! $
    let Pr : RattleType = unpinned.the_row in
    let r : Pr.Denot = record { marker = record {}; log = d.log; state = d.state } in move ! (1 ∷ []) $
    let Told : Type 0 = (d.log ≡ d.log) × (d.state ≡ d.state) in use0 𝓛 (‵ (Token.own_val (
      record {},
      tt,
    ) (token ∷ []))) (token_made 𝓛) $ fjoin ! $
    use0 𝓛 (raw (fact 𝓤 Told)) (fact_i 𝓤 Told (emp 𝓤) (refl, refl)) $ nothing ! $ nothing ! $ fjoin ! $
    nothing ! $ fjoin ! $ nothing ! $ fjoin ! $
    returns ! (look_at ! 0 refl) $ free_all ! refl $ keep ! (3 ∷ 0 ∷ 2 ∷ 1 ∷ []) $
    by ! (leaves 𝓛 ended hs c y token r (tt, (tt, (tt, tt))) (tt, (tt, (tt, tt))))))))))))
