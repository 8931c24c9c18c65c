use Rattle.std.proofs.Common.{ℕ, ◌<◌}
use Rattle.epoch_laws.specs.declared.step.Reply.TheVariants.{Deferred}
use Rattle.epoch_laws.specs.Grace.{IsReplyAt}
use Rattle.epoch_laws.proofs.histories.tickets.is_deferred_before.Given as goal

-- no entry so far is such a deferral
abbrev pub invariant-loop-other : goal.invariant-loop-other
invariant-loop-other l = (k : ℕ) → k < l.other → k < l.place → ¬ (IsReplyAt l.entries k (Deferred l.ticket))
