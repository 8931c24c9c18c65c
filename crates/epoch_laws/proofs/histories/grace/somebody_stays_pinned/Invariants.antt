use Rattle.std.proofs.Common.{ℕ, ◌<◌, ◌≤◌}
use Rattle.epoch_laws.specs.Grace.{PublishesAt, WithdrawsAt}
use Rattle.epoch_laws.proofs.histories.grace.somebody_stays_pinned.Given as goal

-- who published at a place so far has withdrawn it
abbrev pub invariant-loop-place : goal.invariant-loop-place
invariant-loop-place l = (at : ℕ) → at < l.place → (who : ℕ) → PublishesAt l.entries at who
    → (k : ℕ) × (at < k) × (k ≤ l.until) × WithdrawsAt l.entries k who
