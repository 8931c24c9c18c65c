use Rattle.std.proofs.Common.{ℕ, ◌<◌}
use Rattle.epoch_bags.specs.declared.job.Called.{Called}
use Rattle.epoch_laws.specs.declared.step.Reply.TheVariants.{Called as CalledReply}
use Rattle.epoch_laws.specs.Grace.{IsReplyAt}
use Rattle.epoch_laws.specs.Lawful.{IsDeferredBefore}
use Rattle.epoch_laws.proofs.histories.tickets.calls_after_deferrals.Given as goal

-- each ticket called so far was deferred before
abbrev pub invariant-loop-place : goal.invariant-loop-place
invariant-loop-place l = (j : ℕ) → j < l.place → (t : ℕ) (how : Called) → IsReplyAt l.entries j (CalledReply t how)
    → IsDeferredBefore l.entries t j
