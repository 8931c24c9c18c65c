use Rattle.std.proofs.Common.{◌≡◌, ◌++◌, ◌∙◌, sym, subst, ap}
use Rattle.epoch_lend.specs.Watching.{AreWatched}
use Rattle.epoch_lend.proofs.Watching.{watched_these}
use Rattle.epoch_lend.proofs.array.slot.SlotRemoval.take_back.Goals as goal

-- the loans of the removal are those that are watched
pub take-requires-clause-watched : goal.take-requires-clause-watched
take-requires-clause-watched g c =
    let mine = c.watched-removal.result.marked.loans in
    let rest = c.new-watch.result.loans in
    let same : c.unpinned-is_clear.result.1.loans ≡ mine ++ rest =
    c.unpinned-is_clear.ensures.same ∙ c.watched-removal.ensures.watched.0
    ∙ ap (λ m. m.loans ++ rest) (sym c.watched-removal.ensures.same.0) in
    subst (AreWatched mine) (sym same) (watched_these mine rest)
