-- `publish` is one store, which the post's log goes with.
use types.Logic.{sem}
use Rattle.core.specs.Sync.RawAtomic.{asks, always}
use base.Fraction.{full_share}
use Rattle.std.proofs.Common.{List, ◌≡◌, ℕ, ◌+◌, [], ◌∷◌, refl, lit<, w64, subst, sym, ◌++◌, ◌^◌}
use mir.Syntax.{named}
use mir.Val.{Val, vint, vptr, vstruct, vcons, vnil, of_list}
use base.Logic.{SProp, wand, emp, via, apply∗, ent, sep}
use base.Fml.{Lft, Share, Fml, ftrue, fsep, flft, feq, fbor}
use types.Kit.{use1, some, pick, fpick, fpack, feq_i, ‵, raw, ◌⊛◌, later, mean, at_ret, ◌$◌, ◌∵◌, !, qed, by, move}
use types.Kit.{keep, split, join, fsplit, fjoin, use0, use2, use3, await, rewrite}
use types.Run.{stop, fld, addr, lit, no_more, and_then, first, blocks, exec, Calls-last, returns, enter}
use types.ByLocal.{alloc_all, pass_all, free_all, look_at, get, through, sets, lands_last, env}
use types.Part.{agg}
use contract.Running.{tables}
use contract.Monad.{fact, fact_i}
use contract.Shared.{Lends-one}
use denote.Exit.{yes}
use denote.RattleType.{RattleType, owns, Valss}
use denote.Signature.{types_at, plain}
use denote.RawPtr.{block_ptr}
use denote.Steps.{nothing, heard}
use denote.Opens.{unhide}
use denote.Builtin.{u64, RefOf}
use denote.Ref.{shr_vals, shr_Tells}
use denote.Triple.Walked.{Stays, stay_dropped, walk_of, Goes-dropped}
use Rattle.core.proofs.atomic.Steps.{tail}
use Rattle.atomic_table.proofs.Walks.{proved, leaves}
use Rattle.atomic_table.proofs.Calls.{fm, seq_cst}
use Rattle.epoch_lend.specs.contracts.post.Pin as pin
use Rattle.epoch_lend.specs.contracts.post.PostGuard as guard
use Rattle.epoch_lend.specs.Posts.{PostNames, posted}
use Rattle.epoch_lend.specs.Parted.{tokens}
use Rattle.epoch_lend.proofs.PartSteps.{tokens_in}
use base.FractionLaws.{Counts-all}
use denote.Plain.{uint_vals, uint_Tells}
use Rattle.epoch_lend.proofs.Fields.{Token}
use types.Tokens.{lft_new}
use base.Stored.{gnum}
use base.Fml.{fobs}
use Rattle.atomic_table.proofs.Calls.{stored, has_stored, stores}
use Rattle.epoch_lend.specs.contracts.post.Post as post_is
use Rattle.epoch_lend.specs.contracts.post.Unpinned as unpinned
use Rattle.epoch_lend.proofs.Posting as posting
use Rattle.epoch_lend.proofs.Fields.{token, token_told, token_made}
use Rattle.epoch_lend.specs.contracts.post.Post.publish.{ended, clauses}
use Rattle.epoch_lend.specs.contracts.post.Post.publish.Key.{name as #self}
use Rattle.epoch_lend.proofs.post.Post.publish.Statement.{statement}
use Rattle.epoch_lend.proofs.post.Post.publish.Code as code

pub publish_spec : {M : Type 1} → statement M
publish_spec 𝓤 𝓛 𝓜 𝓡 wired =
    let H = 𝓛.H in
    let 𝓣 = tables 𝓤 H 𝓜 𝓡 𝓡.env in
    let fn = code.function in
    let c = clauses 𝓛 𝓜.mem 𝓡.returns in
    let Row : RattleType = post_is.the_row in
    let Tr : RattleType = unpinned.the_row in
    let self = RefOf (0 ∷ []) tt (plain (λ _. Row)) (λ _. tt) in
    let given_in = plain (λ _. Tr) in
    let num = plain (λ _. u64) in
    let hs : Stays ended.signature.params ended.kept = (
      stay_dropped self yes,
      (
        stay_dropped given_in yes,
        (stay_dropped num yes, (stay_dropped num yes, tt)),
      ),
    ) in
    proved 𝓛 ended hs c 𝓜 𝓡 (
      Goes-dropped 𝓛 1 self yes (λ κs x f. refl),
      (
        Goes-dropped 𝓛 1 given_in yes (λ κs x f. refl),
        (
          Goes-dropped 𝓛 1 num yes (λ κs x f. refl),
          (Goes-dropped 𝓛 1 num yes (λ κs x f. refl), tt),
        ),
      ),
    ) #self fn (code.unfolded 𝓤 H 𝓜 𝓡 wired)
    (λ κs. (
      shr_vals,
      (
        (λ _. token ∷ []),
        (
          uint_vals w64,
          (
            uint_vals w64,
            tt,
          ),
        ),
      ),
    )) (λ κs. (
      shr_Tells (named 0) κs.0 Row,
      (
        (λ x vs so. token_told vs so.0),
        (
          uint_Tells w64,
          (uint_Tells w64, tt),
        ),
      ),
    )) (λ κs qs bounds a gh are.
    let b : ℕ = a.0.ref_ptr.0 in
    let o : ℕ = a.0.ref_ptr.1 in
    let κ : Lft = κs.0 in
    let q : Share = qs.0 in
    let d : PostNames = a.0.now in
    let t : Tr.Denot = a.1.0 in
    let e : ℕ = a.1.1.0 in
    let w : ℕ = a.1.1.1.0 in
    let Asked : Type 0 = (t.log ≡ d.log) × (t.state ≡ d.state) × (w ≡ posted e) in
    let y : (walk_of 𝓛 ended hs c).Ghost = (
      (
        κs,
        qs,
        bounds,
        a,
        (
          vptr b o ∷ [],
          (
            token ∷ [],
            (
              vint w64 e ∷ [],
              (vint w64 w ∷ [], tt),
            ),
          ),
        ),
      ),
      gh,
    ) in
    let Post : Val → SProp 𝓤 = (walk_of 𝓛 ended hs c).post y in
    qed 𝓛 (((‵ (flft κ q) ⊛ ‵ ftrue) ⊛ ‵ (owns (types_at ended.signature.params κs) a y.0.4)) ∷ raw (fact 𝓤 Asked) ∷
    []) ∵
    move ! (1 ∷ []) $ heard ! Asked (λ asked. split ! $ split ! $ move ! (2 ∷ []) $ fsplit ! $ fsplit ! $
    keep ! (2 ∷ 1 ∷ 3 ∷ 4 ∷ []) $ fsplit ! $ fsplit ! $ keep ! (1 ∷ 3 ∷ 4 ∷ 5 ∷ []) $
    enter ! 𝓣.C 𝓣.Λ fn (vptr b o ∷ token ∷ vint w64 e ∷ vint w64 w ∷ []) Post $
    alloc_all ! (λ l. pass_all ! refl (
      (tt, tt),
      (
        (tt, (tt, tt)),
        (
          (tt, record { fits = are.1.1.0.1 }),
          (
            (
              tt,
              record { fits = are.1.1.1.0.1 },
            ),
            tt,
          ),
        ),
      ),
    ) $ let Ev = env fn.locals l in
    rewrite ! 0 (λ (k : ℕ). ‵ (fobs k (gnum 0))) asked.1 refl $ lft_new ! tt (λ γ. move ! (2 ∷ []) $ unhide ! $
    fpick ! (λ α. fsplit ! $ move ! (0 ∷ 4 ∷ []) $
    use2 𝓛 (later (some (λ (s : Share). ‵ (flft α s) ⊛ raw (wand 𝓤 (𝓛.A.lft α s) (H.⇛ (𝓛.A.lft κ q))))))
    (Lends-one 𝓛 𝓜 𝓡 κ α q) $ await ! tt $
    pick ! (λ s. split ! $ let after : Fml = fsep (flft α s) (posting.pinned 𝓛 d α s b o γ e) in first ! $ blocks ! $
    sets ! (addr ! (through ! refl (fld ! refl (stop !)))) refl (tt, tt) $ move ! (2 ∷ 0 ∷ 4 ∷ []) $
    use3 𝓛 (raw (𝓣.C _ (vptr b (o + 0) ∷ vint w64 w ∷ seq_cst ∷ []) (λ u. mean 𝓛 (stored after u))))
    (via 𝓤 _ (subst (λ (k : ℕ). ent 𝓤 (sep 𝓤 (𝓛.A.inv (fbor α (posting.Memory 𝓛 d α s b o))) (sep 𝓤 (𝓛.A.lft α s) (sem 𝓛
    (fobs d.state (gnum 0))))) (asks 𝓛 (block_ptr b (o + 0)) (λ _. k) always (λ _. after))) (sym asked.2)
    (posting.pins 𝓛 d α s b o γ e)) (stores 𝓛 𝓜 𝓡 (code.calls-core::raw_atomic::store 𝓡.env wired) (block_ptr b
    (o + 0)) w are.1.1.1.0.1 after)) $
    sets ! (agg ! (and_then ! (lit ! tt) (no_more !))) refl (tt, (record { fits = lit< tt }, tt)) $
    Calls-last ! (fm 𝓛 𝓜 𝓡) (stored after) (and_then ! (get ! refl) (and_then ! (get ! refl) (and_then ! (get ! refl)
    (no_more !)))) (λ u. has_stored ! after (
    lands_last ! refl (tt, tt) $ exec ! 𝓣.C 𝓣.Λ Ev (tail fn.body) (at_ret Ev Post) $
    sets ! (agg ! (no_more !)) refl (tt, tt) $
    sets ! (agg ! (and_then ! (get ! refl) (no_more !))) refl (tt, (tt, tt)) $
    sets ! (agg ! (no_more !)) refl (tt, tt) $
    sets ! (agg ! (and_then ! (get ! refl) (no_more !))) refl (tt, (tt, tt)) $
    sets ! (agg ! (and_then ! (get ! refl) (and_then ! (get ! refl) (no_more !)))) refl (
      tt,
      (
        (tt, tt),
        (
          (tt, tt),
          tt,
        ),
      ),
    ) $
    fsplit ! $ move ! (0 ∷ 2 ∷ []) $ use2 𝓛 (later (‵ (flft κ q))) (apply∗ 𝓤 (𝓛.A.lft α s) (H.⇛ (𝓛.A.lft κ q))) $
    await ! tt $ move ! (0 ∷ 3 ∷ []) $ join ! $
    -- [the tokens; the pin; the guards' lifetime]
    let Pr : RattleType = pin.the_row in
    let Gr : RattleType = guard.the_row in
    let r : Pr.Denot = record { marker = record {}; atom = γ; log = d.log; state = d.state } in
    let g : Gr.Denot = record { marker = record {}; atom = γ; epoch = e; log = d.log; count = 2 ^ 63 } in
    let v : Val = vstruct (vcons token (vcons token vnil)) in
    move ! (2 ∷ []) $ use1 𝓛 (‵ (tokens γ (2 ^ 63))) (tokens_in 𝓛 γ (2 ^ 63) full_share (Counts-all 63)) $
    move ! (2 ∷ []) $ fsplit ! $ move ! (1 ∷ 2 ∷ 0 ∷ 3 ∷ []) $
    -- [entered; the guards' parts; the pin; the tokens]
    move ! (1 ∷ 0 ∷ []) $ fjoin ! $ use0 𝓛 (‵ (Token.own_val (record {}, tt) (token ∷ []))) (token_made 𝓛) $
    fjoin ! $ nothing ! $ move ! (1 ∷ 0 ∷ []) $ fjoin ! $
    move ! (1 ∷ []) $ use0 𝓛 (‵ (Token.own_val (record {}, tt) (token ∷ []))) (token_made 𝓛) $ fjoin ! $ fjoin ! $
    feq_i ! (List Val) (v ∷ []) (v ∷ []) refl $ fjoin ! $
    fpack ! (Valss (Pr ∷ Gr ∷ [])) (λ uss. fsep (feq (List Val) (v ∷ []) (vstruct (of_list (uss.0 ++ (uss.1.0 ++
    []))) ∷ [])) (owns (Pr ∷ Gr ∷ []) (r, (g, tt)) uss)) (token ∷ [], (token ∷ [], tt)) $
    let Told : Type 0 = (d.log ≡ d.log) × (d.state ≡ d.state) × (γ ≡ γ) in
    let Guarded : Type 0 = (d.log ≡ d.log) × (e ≡ e) × (g.count ≡ 2 ^ 63) in
    use0 𝓛 (raw (fact 𝓤 Guarded)) (fact_i 𝓤 Guarded (emp 𝓤) (refl, refl, refl)) $
    use0 𝓛 (raw (fact 𝓤 Told)) (fact_i 𝓤 Told (emp 𝓤) (refl, refl, refl)) $ join ! $
    nothing ! $ nothing ! $ fjoin ! $ nothing ! $ fjoin ! $ nothing ! $ fjoin ! $ nothing ! $ fjoin ! $
    returns ! (look_at ! 0 refl) $ free_all ! refl $ keep ! (3 ∷ 0 ∷ 2 ∷ 1 ∷ []) $
    by ! (leaves 𝓛 ended hs c y v (r, g) (tt, (tt, (tt, (tt, tt)))) (tt, (tt, (tt, (tt, tt)))))))))))))
