use Rattle.std.proofs.Common.{◌≡◌, ◌+◌, ◌*◌, ◌≤◌, ◌++◌, length, All}
use Rattle.epoch_bags.specs.Jobs.{IsCalled}
use Rattle.epoch_tables.specs.Ends.{jobs_in, IsBagCalled}
use Rattle.epoch_tables.proofs.ends.end.end_left.Given as goal

abbrev pub invariant-loop-taken : goal.invariant-loop-taken
invariant-loop-taken g l = record {
  long : l.taken + length l.left ≡ length l.fn.left;
  few : l.count ≤ 64 * l.taken;
  count : l.count + jobs_in l.left ≡ jobs_in l.fn.left;
  called : All (IsBagCalled (IsCalled g.W.Run.done g.W.Removing.Remove.tried)) l.left
      → All (IsBagCalled (IsCalled g.W.Run.done g.W.Removing.Remove.tried)) l.fn.left;
}
