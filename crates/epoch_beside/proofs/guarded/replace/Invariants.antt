use Rattle.std.proofs.Common.{◌≡◌}
use Rattle.epoch.specs.Handles.{IsSame}
use Rattle.epoch_beside.proofs.guarded.replace.Given as goal

abbrev pub invariant-loop-value : goal.invariant-loop-value
invariant-loop-value g l = IsSame l.fn.handle l.handle × (l.handle.machine.guards ≡ l.fn.handle.machine.guards)
