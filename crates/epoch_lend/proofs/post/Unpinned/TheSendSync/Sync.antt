use denote.Param.Send.{IsSync, part_keyless}
use Rattle.epoch_lend.specs.contracts.post.Unpinned.{the_row}
use Rattle.epoch_lend.proofs.post.Unpinned.TheSendSync.Send.{send}

-- no part of the right to pin names a thread's token, since the right may be sent
pub sync : IsSync the_row
sync = record { shared = λ d b o κ q. part_keyless the_row send q d b o }
