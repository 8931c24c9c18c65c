use Rattle.std.proofs.Common.{◌≡◌}
use Rattle.epoch_beside.proofs.guarded.pin_with_room.Given as goal

abbrev pub invariant-loop : goal.invariant-loop
invariant-loop g l = l.handle.machine.guards ≡ 0
