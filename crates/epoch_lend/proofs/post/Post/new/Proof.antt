-- `new` makes a log with no guard, and the place has the post's turn.
use Rattle.std.proofs.Common.{◌≡◌, ℕ, List, [], ◌∷◌, ◌++◌, refl, lit<, w64}
use mir.Val.{Val, vint, vstruct, vcons, vnil, of_list}
use base.Fraction.{full_share}
use base.Logic.{SProp, emp, via}
use base.Fml.{Fml, ftrue, fsep, feq}
use types.Kit.{
  ‵,
  raw,
  ◌⊛◌,
  some,
  later,
  ◌$◌,
  ◌∵◌,
  !,
  qed,
  by,
  move,
  keep,
  split,
  fjoin,
  fjoin3,
  fpack,
  pick,
  use0,
  await,
  feq_i,
}
use types.Run.{lit, no_more, and_then, returns, enter}
use types.ByLocal.{alloc_all, pass_all, free_all, look_at, get, sets}
use types.Part.{agg}
use contract.Running.{tables}
use contract.Monad.{fact, fact_i}
use denote.RattleType.{RattleType, Valss, owns}
use denote.Steps.{nothing}
use denote.Triple.Entry.{alive}
use denote.Triple.Walked.{Stays, walk_of}
use Rattle.atomic_table.proofs.Walks.{proved, leaves}
use Rattle.epoch_lend.proofs.Fields.{Token}
use types.Tokens.{name_new}
use types.Owned.{basic}
use types.Growing.{latest_new}
use base.Growing.{latest}
use base.Stored.{gnum}
use denote.Laws.{Typed}
use denote.Shadow.{makes_shadow}
use Rattle.epoch_lend.specs.Posts.{PostNames, Entry, logs, idle, idle_log, PostStage, at_stage, at_post}
use Rattle.epoch_lend.specs.contracts.post.Post as post_is
use Rattle.epoch_lend.specs.contracts.post.Post.TheInside as inside
use Rattle.epoch_lend.specs.contracts.post.Unpinned as unpinned
use Rattle.epoch_lend.proofs.Fields.{token, token_made}
use Rattle.epoch_lend.specs.contracts.post.Post.new.{ended, clauses}
use Rattle.epoch_lend.specs.contracts.post.Post.new.Key.{name as #self}
use Rattle.epoch_lend.proofs.post.Post.new.Statement.{statement}
use Rattle.epoch_lend.proofs.post.Post.new.Code as code

pub new_spec : {M : Type 1} → statement M
new_spec 𝓤 𝓛 𝓜 𝓡 wired =
    let H = 𝓛.H in
    let 𝓣 = tables 𝓤 H 𝓜 𝓡 𝓡.env in
    let fn = code.function in
    let c = clauses 𝓛 𝓜.mem 𝓡.returns in
    let Row : RattleType = post_is.the_row in
    let Tr : RattleType = unpinned.the_row in
    let hs : Stays ended.signature.params ended.kept = tt in
    let F : RattleType = inside.the_row in
    let pv : Val = vstruct (vcons (vint w64 0) (vcons (vstruct vnil) vnil)) in
    let v : Val = vstruct (vcons pv (vcons token vnil)) in
    let Has : ℕ → Fml = λ k. F.own_val (record { word = k; marker = record {} }) (pv ∷ []) in
    let Laid : Type 0 = Typed F.mir (pv ∷ []) in
    proved 𝓛 ended hs c 𝓜 𝓡 tt #self fn (code.unfolded 𝓤 H 𝓜 𝓡 wired) (λ κs. tt) (λ κs. tt) (λ κs qs bounds a gh are.
    let y : (walk_of 𝓛 ended hs c).Ghost = ((κs, qs, bounds, a, tt), gh) in
    let Post : Val → SProp 𝓤 = (walk_of 𝓛 ended hs c).post y in
    qed 𝓛 ((raw (alive 𝓛 ended.signature κs qs) ⊛ ‵ ftrue) ∷ raw ((c κs a).requires gh) ∷ []) ∵ split ! $
    keep ! (0 ∷ []) $
    enter ! 𝓣.C 𝓣.Λ fn [] Post $ alloc_all ! (λ l. pass_all ! refl tt $
    sets ! (agg ! (no_more !)) refl (tt, tt) $
    sets ! (agg ! (and_then ! (lit ! tt) (and_then ! (get ! refl) (no_more !)))) refl (
      tt,
      (record { fits = lit< tt }, (tt, tt)),
    ) $
    sets ! (agg ! (no_more !)) refl (tt, tt) $
    sets ! (agg ! (and_then ! (get ! refl) (no_more !))) refl (tt, (tt, tt)) $
    sets ! (agg ! (and_then ! (get ! refl) (and_then ! (get ! refl) (no_more !)))) refl (
      tt,
      ((record { fits = lit< tt }, (tt, tt)), ((tt, tt), tt)),
    ) $
    use0 𝓛 (later (some (λ (η : ℕ). ‵ (latest logs full_share η [])))) (via 𝓤 _ (latest_new logs 𝓛 []) (basic 𝓛 _)) $
    await ! tt $ pick ! (λ η. name_new ! tt (gnum 0) (λ δ. let d : PostNames = record { log = η; state = δ } in
    -- [obs; auth; latest; the tokens]
    let r : Tr.Denot = record { marker = record {}; log = η; state = δ } in
    move ! (2 ∷ []) $ nothing ! $ move ! (1 ∷ 0 ∷ []) $ fjoin ! $ fpack ! (List Entry) (idle_log η) [] $
    move ! (2 ∷ 0 ∷ []) $ fjoin ! $ nothing ! $ fpack ! (0 ≡ 0) (λ _. ftrue) refl $ fjoin ! $
    fpack ! PostStage (at_stage d 0) idle $
    use0 𝓛 (‵ (Has 0)) (makes_shadow 𝓛 (Has 0) (λ vss. (tt, ((tt, tt), ((λ uss. (tt, tt)), tt)))) (
      (
        vint w64 0 ∷ [],
        (vstruct vnil ∷ [], tt),
      ),
      (refl, ((refl, lit< tt), ((tt, (refl, tt)), tt))),
    )) $ fjoin ! $
    fpack ! ℕ (λ k. fsep (Has k) (at_post d k)) 0 $ nothing ! $
    fpack ! Laid (λ _. ftrue) ((tt, (record { fits = lit< tt }, (tt, tt))), tt) $ fjoin ! $
    -- [the post; obs; the tokens]
    move ! (1 ∷ []) $ use0 𝓛 (‵ (Token.own_val (record {}, tt) (token ∷ []))) (token_made 𝓛) $ fjoin ! $ nothing ! $
    move ! (2 ∷ 1 ∷ 0 ∷ []) $ fjoin3 ! $ feq_i ! (List Val) (v ∷ []) (v ∷ []) refl $ fjoin ! $
    fpack ! (Valss (Row ∷ Tr ∷ [])) (λ uss. fsep (feq (List Val) (v ∷ []) (vstruct (of_list (uss.0 ++ (uss.1.0 ++
    []))) ∷ [])) (owns (Row ∷ Tr ∷ []) (d, (r, tt)) uss)) (pv ∷ [], (token ∷ [], tt)) $
    let Told : Type 0 = (η ≡ η) × (δ ≡ δ) in use0 𝓛 (raw (fact 𝓤 Told)) (fact_i 𝓤 Told (emp 𝓤) (refl, refl)) $
    nothing ! $
    returns ! (look_at ! 0 refl) $ free_all ! refl $ keep ! (3 ∷ 0 ∷ 2 ∷ 1 ∷ []) $
    by ! (leaves 𝓛 ended hs c y v (d, r) tt tt)))))
