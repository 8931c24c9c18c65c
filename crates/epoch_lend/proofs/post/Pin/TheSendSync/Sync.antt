use denote.Param.Send.{IsSync, part_keyless}
use Rattle.epoch_lend.specs.contracts.post.Pin.{the_row}
use Rattle.epoch_lend.proofs.post.Pin.TheSendSync.Send.{send}

-- a shared right to end a pin names no thread's token, as one that is owned names none
pub sync : IsSync the_row
sync = record { shared = λ d b o κ q. part_keyless the_row send q d b o }
