use Rattle.std.proofs.Common.{◌≡◌}
use Rattle.epoch.specs.Handles.{IsSame}
use Rattle.epoch_beside.proofs.guarded.flush_again.Given as goal

abbrev pub invariant-loop : goal.invariant-loop
invariant-loop g l = IsSame l.fn.handle l.handle × (l.handle.machine.guards ≡ l.fn.handle.machine.guards)
