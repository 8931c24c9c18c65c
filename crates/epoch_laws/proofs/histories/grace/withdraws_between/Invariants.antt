use Rattle.std.proofs.Common.{ℕ, ◌<◌}
use Rattle.epoch_laws.specs.Grace.{WithdrawsAt}
use Rattle.epoch_laws.proofs.histories.grace.withdraws_between.Given as goal

-- no place so far is such a withdrawal
abbrev pub invariant-loop-place : goal.invariant-loop-place
invariant-loop-place l = (k : ℕ) → k < l.place → l.after < k → ¬ (WithdrawsAt l.entries k l.who)
