use Rattle.std.proofs.Common.{◌≡◌, ◌-◌}
use Rattle.epoch_laws.specs.Lawful.{told_of}
use Rattle.epoch_laws.specs.Run.{lowest, lowest_from}
use Rattle.epoch_laws.proofs.histories.guards.lowest.Given as goal

-- none below is free
abbrev pub invariant-loop-number : goal.invariant-loop-number
invariant-loop-number l = lowest (told_of l.participant l.entries).guards
    ≡ lowest_from l.number (64 - l.number) (told_of l.participant l.entries).guards
