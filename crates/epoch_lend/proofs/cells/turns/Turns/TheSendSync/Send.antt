use denote.RattleType.{RattleType}
use denote.Param.Send.{IsSend, IsSync}
use Rattle.epoch_lend.specs.contracts.cells.turns.Turns.{the_row}
use Rattle.epoch_lend.proofs.TurnsKeyless.{turns_keyless}

-- the word of a cell may be sent to another thread, where its values may be sent and shared
pub send : (T : RattleType) → IsSend T → IsSync T → IsSend (the_row T)
send T s y = record {
  owned = λ d vs. (
    (λ _. tt),
    (
      (λ vss. (tt, ((λ uss. (tt, tt)), tt))),
      ((λ _. tt), ((λ n. (tt, turns_keyless T s y d n)), ((tt, (tt, tt)), tt))),
    ),
  );
  leaving = λ k d w. tt;
}
