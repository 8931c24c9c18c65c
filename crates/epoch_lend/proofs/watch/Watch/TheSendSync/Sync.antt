use denote.Param.Send.{IsSync, part_keyless}
use Rattle.epoch_lend.specs.contracts.watch.Watch.{the_row}
use Rattle.epoch_lend.proofs.watch.Watch.TheSendSync.Send.{send}

-- a shared watch names no thread's token, as one that is owned names none
pub sync : IsSync the_row
sync = record { shared = λ d b o κ q. part_keyless the_row send q d b o }
