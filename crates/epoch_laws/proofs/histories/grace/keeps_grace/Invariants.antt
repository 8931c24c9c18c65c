use Rattle.std.proofs.Common.{ℕ, ◌<◌, ◌+◌}
use Rattle.epoch_bags.specs.declared.job.Called.{Called}
use Rattle.epoch_laws.specs.declared.step.Reply.TheVariants.{Called as CalledReply}
use Rattle.epoch_laws.specs.Grace.{IsReplyAt, IsBlocked}
use Rattle.epoch_laws.proofs.histories.grace.keeps_grace.Given as goal

-- no call so far is of a blocked job
abbrev pub invariant-loop-place : goal.invariant-loop-place
invariant-loop-place l = (j : ℕ) → j + 1 < l.place → (t : ℕ) (how : Called)
    → IsReplyAt l.entries (j + 1) (CalledReply t how) → ¬ (IsBlocked l.entries t j)
