use denote.RattleType.{RattleType}
use denote.Param.Send.{IsSend, IsSync, part_keyless}
use Rattle.epoch_lend.specs.contracts.cells.turns.TurnClaim.{the_row}
use Rattle.epoch_lend.proofs.cells.turns.TurnClaim.TheSendSync.Send.{send}

-- no part of a claim names a thread's token, since the claim may be sent
pub sync : (T : RattleType) → IsSend T → IsSync (the_row T)
sync T s = record { shared = λ d b o κ q. part_keyless (the_row T) (send T s) q d b o }
