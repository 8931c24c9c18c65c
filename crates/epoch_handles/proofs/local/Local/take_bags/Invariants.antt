use Rattle.std.proofs.Common.{ℕ}
use Rattle.epoch_bags.specs.Places.{take_left}
use Rattle.epoch_handles.specs.Handles.{HasTaken}
use Rattle.epoch_handles.proofs.local.Local.take_bags.Given as goal

abbrev pub invariant-bags : goal.invariant-bags
invariant-bags g l = (x : ℕ) × HasTaken g.W.Run.done g.W.Removing.Remove.tried l.fn.self x l.cursor l.self

abbrev pub decreases-bags : goal.decreases-bags
decreases-bags g l = take_left l.fn.self.collector.now.places.capacity l.cursor
