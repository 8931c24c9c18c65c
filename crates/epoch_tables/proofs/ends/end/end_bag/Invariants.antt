use Rattle.std.proofs.Common.{length, All}
use Rattle.epoch_bags.specs.Jobs.{IsCalled}
use Rattle.epoch_tables.specs.Ends.{IsBagCalled}
use Rattle.epoch_tables.proofs.ends.end.end_bag.Given as goal

abbrev pub invariant-loop : goal.invariant-loop
invariant-loop g l = All (IsCalled g.W.Run.done g.W.Removing.Remove.tried) l.bag.jobs → IsBagCalled
    (IsCalled g.W.Run.done g.W.Removing.Remove.tried) l.fn.place

abbrev pub decreases-loop : goal.decreases-loop
decreases-loop g l = length l.bag.jobs
