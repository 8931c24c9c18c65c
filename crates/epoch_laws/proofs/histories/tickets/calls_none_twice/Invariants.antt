use Rattle.std.proofs.Common.{ℕ, ◌<◌}
use Rattle.epoch_bags.specs.declared.job.Called.{Called}
use Rattle.epoch_laws.specs.declared.step.Reply.TheVariants.{Called as CalledReply}
use Rattle.epoch_laws.specs.Grace.{IsReplyAt}
use Rattle.epoch_laws.specs.Lawful.{IsCalledBefore}
use Rattle.epoch_laws.proofs.histories.tickets.calls_none_twice.Given as goal

-- no ticket called so far was called before
abbrev pub invariant-loop-place : goal.invariant-loop-place
invariant-loop-place l = (j : ℕ) → j < l.place → (t : ℕ) (how : Called) → IsReplyAt l.entries j (CalledReply t how)
    → ¬ (IsCalledBefore l.entries t j)
