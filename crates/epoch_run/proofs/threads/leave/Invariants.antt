use Rattle.std.proofs.Common.{◌≡◌}
use Rattle.epoch_run.proofs.threads.leave.Given as goal

abbrev pub invariant-loop : goal.invariant-loop
invariant-loop g l = l.staying.machine.guards ≡ 0
