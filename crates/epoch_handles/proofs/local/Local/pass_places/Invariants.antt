use Rattle.epoch_bags.specs.declared.queue.places.TakeCursor.TheVariants.{Look}
use Rattle.epoch_handles.specs.Handles.{HasTaken}
use Rattle.epoch_handles.proofs.local.Local.pass_places.Given as goal

abbrev pub invariant-loop-place : goal.invariant-loop-place
invariant-loop-place g l = HasTaken g.W.Run.done g.W.Removing.Remove.tried l.fn.self l.expiry (Look l.place) l.self
