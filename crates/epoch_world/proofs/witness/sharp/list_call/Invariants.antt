use Rattle.std.proofs.Common.{◌≡◌, ◌++◌, ◌-◌, ◌≤◌}
use Rattle.epoch_world.proofs.ListedSteps.{gos}
use Rattle.epoch_world.proofs.witness.sharp.list_call.Given as goal

-- the counter counts the replies of which the steps are written down
abbrev pub invariant-loop : goal.invariant-loop
invariant-loop g l = record {
  some : 1 ≤ l.counter;
  within : l.counter ≤ l.end;
  listed : l.steps.items ≡ l.initial.steps.items ++ gos l.participant (l.counter - 1);
}
