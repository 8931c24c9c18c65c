use Rattle.std.proofs.Common.{◌≡◌, take}
use Rattle.epoch_laws.specs.Fits.{phase_of}
use Rattle.epoch_laws.proofs.histories.phase.phase_of.Given as goal

-- it is that of the entries so far
abbrev pub invariant-loop-entry : goal.invariant-loop-entry
invariant-loop-entry l = l.phase ≡ phase_of (take l.entry-index l.entries)
