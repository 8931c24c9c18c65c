use mathlib.Core.List.{[], ◌∷◌}
use mir.Raw.{raw}
use mir.Syntax.{ty_int, w64}
use Prim.Native.Nat.{◌+◌}
use denote.RattleType.{RattleType}
use denote.Param.Send.{IsSync, cell_keyless}
use Rattle.epoch_lend.specs.contracts.cells.turns.TurnName.{the_row}
use Rattle.epoch_lend.proofs.TurnsKeyless.{turn_keyless}

-- what a shared name of a turn says of its value names no thread's token, whatever the value is
pub sync : (T : RattleType) → IsSync (the_row T)
sync T = record {
  shared = λ d b o κ. (
    (((λ vs. ((tt, tt), λ q. cell_keyless q (raw (ty_int w64) ∷ []) vs b (o + 0))), ((tt, λ q. tt), tt)), λ q. tt),
    turn_keyless T d.log d.turn (d.value, d.lifetime),
  );
}
