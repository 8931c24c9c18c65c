use denote.RattleType.{RattleType}
use denote.Param.Send.{IsSend}
use Rattle.epoch_lend.specs.contracts.cells.turns.TurnName.{the_row}
use Rattle.epoch_lend.proofs.TurnsKeyless.{turn_keyless}

-- the name of a turn may go to another thread, of whatever type its value is
pub send : (T : RattleType) → IsSend (the_row T)
send T = record {
  owned = λ d vs. (
    (λ vss. (tt, ((tt, tt), ((λ uss. (tt, tt)), tt)))),
    turn_keyless T d.log d.turn (d.value, d.lifetime),
  );
  leaving = λ k f vs. tt;
}
