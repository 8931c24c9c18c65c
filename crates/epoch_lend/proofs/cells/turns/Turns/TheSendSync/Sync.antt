use denote.RattleType.{RattleType}
use denote.Param.Send.{IsSend, IsSync}
use Rattle.core.proofs.atomic.Sent.{chain-Keyless}
use Rattle.epoch_lend.specs.contracts.cells.turns.Turns.{the_row}
use Rattle.epoch_lend.proofs.TurnsKeyless.{turns_keyless}

-- neither a cell's shared word nor what it has names a thread's token, where its values may be sent and shared
pub sync : (T : RattleType) → IsSend T → IsSync T → IsSync (the_row T)
sync T s y = record {
  shared = λ d b o κ. ((λ _. tt), λ α. ((λ νs. chain-Keyless νs κ α), λ n. (tt, turns_keyless T s y d n)));
}
