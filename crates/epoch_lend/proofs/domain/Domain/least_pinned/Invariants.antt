use Rattle.epoch_lend.specs.Grace.{AllPassed}
use Rattle.epoch_lend.proofs.domain.Domain.least_pinned.Given as goal

-- each post that was looked at was unpinned, or pinned in the least epoch so far or a later one
abbrev pub invariant-loop-position : goal.invariant-loop-position
invariant-loop-position g l = AllPassed (g.S.PinSteps.did g.J.PostSet.posts) l.clock l.least l.position
