use Rattle.std.proofs.Common.{◌≡◌, ◌≤◌, ◌==◌, take, count_by}
use Rattle.epoch_laws.specs.Lawful.{told_of}
use Rattle.epoch_laws.specs.Known.{known_of}
use Rattle.epoch_laws.proofs.histories.guards.times_out.Given as goal

-- they are what the entries so far tell
abbrev pub invariant-loop-entry : goal.invariant-loop-entry
invariant-loop-entry l = record {
  known : l.known ≡ known_of (told_of l.participant (take l.entry-index l.entries));
  counted : l.times
      ≡ count_by (λ other. other == l.guard) (told_of l.participant (take l.entry-index l.entries)).guards;
  few : l.times ≤ l.entry-index;
}
