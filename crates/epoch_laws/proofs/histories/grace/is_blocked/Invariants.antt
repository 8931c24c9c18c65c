use Rattle.std.proofs.Common.{ℕ, ◌<◌}
use Rattle.epoch_laws.specs.declared.step.Reply.TheVariants.{Deferred}
use Rattle.epoch_laws.specs.Grace.{IsReplyAt, StaysPinned}
use Rattle.epoch_laws.proofs.histories.grace.is_blocked.Given as goal

-- no deferral of the ticket so far blocks it
abbrev pub invariant-loop-place : goal.invariant-loop-place
invariant-loop-place l = (from : ℕ) → from < l.place → IsReplyAt l.entries from (Deferred l.ticket)
    → ¬ ((who : ℕ) × StaysPinned l.entries who from l.until)
