use Rattle.std.proofs.Common.{ℕ, ◌<◌}
use Rattle.epoch_bags.specs.declared.job.Called.{Called}
use Rattle.epoch_laws.specs.declared.step.Reply.TheVariants.{Called as CalledReply}
use Rattle.epoch_laws.specs.Grace.{IsReplyAt}
use Rattle.epoch_laws.proofs.histories.tickets.is_called_before.Given as goal

-- no entry so far is such a call
abbrev pub invariant-loop-other : goal.invariant-loop-other
invariant-loop-other l = (k : ℕ) (how : Called) → k < l.other → k < l.place
    → ¬ (IsReplyAt l.entries k (CalledReply l.ticket how))
