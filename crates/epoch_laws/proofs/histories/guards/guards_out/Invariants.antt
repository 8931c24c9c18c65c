use Rattle.std.proofs.Common.{◌≡◌, ◌≤◌, take, length}
use Rattle.epoch_laws.specs.Lawful.{told_of}
use Rattle.epoch_laws.specs.Known.{known_of}
use Rattle.epoch_laws.proofs.histories.guards.guards_out.Given as goal

-- they are what the entries so far tell
abbrev pub invariant-loop-place : goal.invariant-loop-place
invariant-loop-place l = record {
  known : l.known ≡ known_of (told_of l.participant (take l.place l.entries));
  counted : l.count ≡ length (told_of l.participant (take l.place l.entries)).guards;
  few : l.count ≤ l.place;
}
