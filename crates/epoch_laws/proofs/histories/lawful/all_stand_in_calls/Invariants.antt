use Rattle.std.proofs.Common.{ℕ, ◌<◌}
use Rattle.epoch_laws.specs.Lawful.{nothing}
use Rattle.epoch_laws.proofs.RepliesRead.{MayReplyAt}
use Rattle.epoch_laws.proofs.histories.lawful.all_stand_in_calls.Given as goal

-- each reply so far may be that of its step
abbrev pub invariant-loop-place : goal.invariant-loop-place
invariant-loop-place l = (k : ℕ) → k < l.place → MayReplyAt (λ p. nothing) l.entries k
