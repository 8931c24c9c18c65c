use Rattle.std.proofs.Common.{◌≡◌}
use Rattle.epoch_run.proofs.threads.participate.Given as goal

abbrev pub invariant-loop-job : goal.invariant-loop-job
invariant-loop-job g l = l.handle.machine.guards ≡ 0
