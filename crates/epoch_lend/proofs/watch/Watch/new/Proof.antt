-- A new watch knows nothing, and has no bytes.
use Rattle.std.proofs.Common.{◌≡◌, [], ◌∷◌, refl}
use mir.Val.{Val}
use base.Logic.{SProp, emp}
use base.Fml.{ftrue}
use types.Kit.{‵, raw, ◌⊛◌, ◌$◌, ◌∵◌, !, qed, by, keep, split, fjoin, use0}
use types.Run.{no_more, and_then, returns, enter}
use types.ByLocal.{alloc_all, pass_all, free_all, look_at, get, sets}
use types.Part.{agg}
use contract.Running.{tables}
use contract.Monad.{fact, fact_i}
use denote.RattleType.{RattleType}
use denote.Steps.{nothing}
use denote.Triple.Entry.{alive}
use denote.Triple.Walked.{Stays, walk_of}
use Rattle.atomic_table.proofs.Walks.{proved, leaves}
use Rattle.epoch_lend.proofs.Fields.{Token, token, token_made}
use Rattle.epoch_lend.specs.contracts.watch.Watch as watch_is
use Rattle.epoch_lend.specs.contracts.watch.Watch.new.{ended, clauses}
use Rattle.epoch_lend.specs.contracts.watch.Watch.new.Key.{name as #self}
use Rattle.epoch_lend.proofs.watch.Watch.new.Statement.{statement}
use Rattle.epoch_lend.proofs.watch.Watch.new.Code as code

pub new_spec : {M : Type 1} → statement M
new_spec 𝓤 𝓛 𝓜 𝓡 wired =
    let H = 𝓛.H in
    let 𝓣 = tables 𝓤 H 𝓜 𝓡 𝓡.env in
    let fn = code.function in
    let c = clauses 𝓛 𝓜.mem 𝓡.returns in
    let Wr : RattleType = watch_is.the_row in
    let hs : Stays ended.signature.params ended.kept = tt in
    proved 𝓛 ended hs c 𝓜 𝓡 tt #self fn (code.unfolded 𝓤 H 𝓜 𝓡 wired) (λ κs. tt) (λ κs. tt) (λ κs qs bounds a gh are.
    let y : (walk_of 𝓛 ended hs c).Ghost = ((κs, qs, bounds, a, tt), gh) in
    let Post : Val → SProp 𝓤 = (walk_of 𝓛 ended hs c).post y in
    let r : Wr.Denot = record { marker = record {}; loans = []; seen = [] } in
    qed 𝓛 ((raw (alive 𝓛 ended.signature κs qs) ⊛ ‵ ftrue) ∷ raw ((c κs a).requires gh) ∷ []) ∵ split ! $
    keep ! (0 ∷ []) $
    enter ! 𝓣.C 𝓣.Λ fn [] Post $ alloc_all ! (λ l. pass_all ! refl tt $
    sets ! (agg ! (no_more !)) refl (tt, tt) $
    sets ! (agg ! (and_then ! (get ! refl) (no_more !))) refl (tt, (tt, tt)) $
    nothing ! $ nothing ! $ fjoin ! $
    use0 𝓛 (‵ (Token.own_val (record {}, tt) (token ∷ []))) (token_made 𝓛) $ fjoin ! $
    let Told : Type 0 = (r.loans ≡ []) × (r.seen ≡ []) in use0 𝓛 (raw (fact 𝓤 Told)) (fact_i 𝓤 Told (emp 𝓤) (
      refl,
      refl,
    )) $
    nothing ! $
    returns ! (look_at ! 0 refl) $ free_all ! refl $ keep ! (3 ∷ 0 ∷ 2 ∷ 1 ∷ []) $
    by ! (leaves 𝓛 ended hs c y token r tt tt)))
