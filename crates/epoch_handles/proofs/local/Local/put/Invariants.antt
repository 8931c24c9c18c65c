use Rattle.epoch_bags.specs.Places.{put_left}
use Rattle.epoch_handles.proofs.Putting.{HasPut}
use Rattle.epoch_handles.proofs.local.Local.put.Given as goal

abbrev pub invariant-loop-cursor : goal.invariant-loop-cursor
invariant-loop-cursor g l = HasPut l.fn.self l.seal l.cursor l.self

abbrev pub decreases-loop-cursor : goal.decreases-loop-cursor
decreases-loop-cursor g l = put_left l.fn.self.collector.now.places.capacity l.cursor
