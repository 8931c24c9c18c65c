use Rattle.std.proofs.Common.{◌≡◌, Some, None, MatchOption}
use Rattle.epoch_script.specs.Words.{behind_words}
use Rattle.epoch_script.proofs.misfit.misfit_of.Given as goal

-- what is left is what stands behind the words before
abbrev pub invariant-loop-before : goal.invariant-loop-before
invariant-loop-before l = MatchOption l.rest (behind_words l.before l.line ≡ None)
    (λ text. behind_words l.before l.line ≡ Some text.now)
