use denote.RattleType.{RattleType}
use denote.Param.Send.{IsSend, IsSync, part_keyless}
use Rattle.epoch_lend.specs.contracts.lending.Marked.{the_row}
use Rattle.epoch_lend.proofs.lending.Marked.TheSendSync.Send.{send}

-- no part of what a marking gained names a thread's token, since it may be sent
pub sync : (T : RattleType) → IsSend T → IsSync T → IsSync (the_row T)
sync T s y = record { shared = λ d b o κ q. part_keyless (the_row T) (send T s y) q d b o }
