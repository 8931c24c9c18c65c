use Rattle.std.proofs.Common.{ℕ, ◌<◌}
use Rattle.epoch_laws.proofs.FitsRead.{FitsAt}
use Rattle.epoch_laws.proofs.histories.fits.each_fits.Given as goal

-- each reply so far fits
abbrev pub invariant-loop-place : goal.invariant-loop-place
invariant-loop-place l = (k : ℕ) → k < l.place → FitsAt l.entries k
