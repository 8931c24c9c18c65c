use Rattle.std.proofs.Common.{◌≡◌}
use Rattle.epoch_beside.proofs.counted_idle.CountedIdle.leave.Given as goal

-- no guard of the participant is out
abbrev pub invariant-loop : goal.invariant-loop
invariant-loop g l = l.staying.machine.guards ≡ 0
