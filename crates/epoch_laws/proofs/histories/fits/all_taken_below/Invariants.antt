use Rattle.std.proofs.Common.{◌≡◌, ℕ, ◌<◌, true}
use Rattle.epoch_laws.specs.Lawful.{told_of}
use Rattle.epoch_laws.proofs.histories.fits.all_taken_below.Given as goal

-- those below are taken
abbrev pub invariant-loop-other : goal.invariant-loop-other
invariant-loop-other l = (k : ℕ) → k < l.other → (told_of k l.before).registered ≡ true
