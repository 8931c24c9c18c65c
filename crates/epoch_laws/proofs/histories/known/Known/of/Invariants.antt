use Rattle.std.proofs.Common.{◌≡◌, take}
use Rattle.epoch_laws.specs.Lawful.{told_of}
use Rattle.epoch_laws.specs.Known.{known_of}
use Rattle.epoch_laws.proofs.histories.known.Known.of.Given as goal

-- it is what the entries so far tell
abbrev pub invariant-loop-entry : goal.invariant-loop-entry
invariant-loop-entry l = l.known ≡ known_of (told_of l.participant (take l.entry-index l.entries))
