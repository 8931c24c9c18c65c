use Rattle.std.proofs.Common.{◌≡◌, ℕ, length}
use Rattle.epoch_machine.specs.Machine.{after_job}
use Rattle.epoch_handles.proofs.Collecting.{HasCalled}
use Rattle.epoch_handles.proofs.local.Local.call_hand_into.Given as goal

abbrev pub invariant-loop : goal.invariant-loop
invariant-loop g l = record {
  only : l.self ≡ record l.fn.self { machine = l.self.machine };
  called : (x k : ℕ) → l.fn.self.machine.stage ≡ after_job l.fn.self.machine x k l.fn.self.machine.hand
      → HasCalled g.W.Run.done g.W.Removing.Remove.tried l.fn.self x k l.self;
}

abbrev pub decreases-loop : goal.decreases-loop
decreases-loop g l = length l.self.machine.hand
