use Rattle.std.proofs.Common.{◌≡◌, ◌++◌, ◌∙◌, sym, subst, ap}
use Rattle.epoch_lend.specs.Watching.{AreWatched}
use Rattle.epoch_lend.proofs.Watching.{watched_these}
use Rattle.epoch_lend.proofs.array.set_once.OncePlace.end.Goals as goal

-- src/array/set_once.rt:100:13
pub returns-then-found-shown : goal.returns-then-found-shown
returns-then-found-shown g c = (
  c.end-word.ensures.vacant 0 (c.if-word-vacant_word.false ∙ c.vacant_word.ensures),
  c.end-word.ensures.at ∙ sym c.requires,
)

-- the loans of the value are those that are watched
pub collect-requires-clause-watched : goal.collect-requires-clause-watched
collect-requires-clause-watched g c =
    let mine = c.add-marked.result.loans in
    let rest = c.new-watch.result.loans in
    let same : c.unpinned-is_clear.result.1.loans ≡ mine ++ rest = c.unpinned-is_clear.ensures.same ∙
    c.add-marked.ensures.0 ∙ ap (λ m. m.loans ++ rest) (sym c.add-marked.ensures.2) in
    subst (AreWatched mine) (sym same) (watched_these mine rest)

-- what is left has its place
pub returns : goal.returns
returns g c = (
  c.end-word-2.ensures.vacant 1 (c.if-word-vacant_word-2.false ∙ c.vacant_word-3.ensures),
  c.end-word-2.ensures.at ∙ sym c.requires,
)
