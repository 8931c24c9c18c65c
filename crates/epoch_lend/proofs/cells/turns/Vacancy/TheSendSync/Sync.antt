use denote.RattleType.{RattleType}
use denote.Param.Send.{IsSend, IsSync, part_keyless}
use Rattle.epoch_lend.specs.contracts.cells.turns.Vacancy.{the_row}
use Rattle.epoch_lend.proofs.cells.turns.Vacancy.TheSendSync.Send.{send}

-- what a mark gained, where it is shared, names no thread's token, if the values of its type name none
pub sync : (T : RattleType) → IsSend T → IsSync (the_row T)
sync T s = record { shared = λ d b o κ q. part_keyless (the_row T) (send T s) q d b o }
