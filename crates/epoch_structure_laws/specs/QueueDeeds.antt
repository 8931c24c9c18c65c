-- What a call of the queue has done to the list, by the phase that it is in.
use Rattle.std.specs.Prelude.{ℕ, Option, Some, None}
use Rattle.epoch_cells.specs.declared.cells.name.Name.{Name}
use Rattle.epoch_laws.specs.declared.heap.access.AccessAnswer.{AccessAnswer}
use Rattle.epoch_laws.specs.declared.heap.access.AccessAnswer.TheVariants.{Exchanged, Pointer}
use Rattle.epoch_laws.specs.declared.step.Reply.{Reply}
use Rattle.epoch_laws.specs.declared.step.Reply.TheVariants.{Done}
use Rattle.epoch_structure_laws.specs.declared.queue.plan.QueueAnswer.{QueueAnswer}
use Rattle.epoch_structure_laws.specs.declared.queue.plan.QueueAnswer.TheVariants.{Pushed, Popped, PoppedLeaking, Empty}
use Rattle.epoch_structure_laws.specs.declared.queue.plan.QueuePhase.{QueuePhase}
use Rattle.epoch_structure_laws.specs.declared.queue.plan.QueuePhase.TheVariants.{Appending, Swinging, LoadingNext}
use Rattle.epoch_structure_laws.specs.declared.queue.plan.QueuePhase.TheVariants.{Taking, LookingBack, Advancing}
use Rattle.epoch_structure_laws.specs.declared.queue.plan.QueuePhase.TheVariants.{Removing, Answering}

pub data QueueDeed : Type 0 where
  DidNothing : QueueDeed
  Added : QueueDeed  -- its won exchange has added its node at the back
  Took : (value : ℕ) → QueueDeed  -- its won exchange has taken this value from the front
  SawNone : QueueDeed  -- it has found nothing behind the head

-- what a call has done that answers this
abbrev pub queue_deed_answered : QueueAnswer → QueueDeed
queue_deed_answered Pushed = Added
queue_deed_answered (Popped v) = Took v
queue_deed_answered (PoppedLeaking v) = Took v
queue_deed_answered Empty = SawNone
queue_deed_answered _ = DidNothing

-- what a call has done that is in this phase
abbrev pub queue_deed_done : QueuePhase → QueueDeed
queue_deed_done (Swinging t n) = Added
queue_deed_done (LookingBack h q v) = Took v
queue_deed_done (Advancing h q v) = Took v
queue_deed_done (Removing h v) = Took v
queue_deed_done (Answering answer) = queue_deed_answered answer
queue_deed_done _ = DidNothing

abbrev pub deed_of_look : Option Name → QueueDeed
deed_of_look None = SawNone
deed_of_look (Some q) = DidNothing

-- What it has done once the call of its phase has this reply: a won exchange of a push or a pop is a deed, and so is a
-- look behind the head that finds nothing. Nothing else changes it, and no refusal does.
abbrev pub queue_deed_told : QueuePhase → AccessAnswer → QueueDeed
queue_deed_told (Appending n t k) (Exchanged ptr) = Added
queue_deed_told (Taking h q v k) (Exchanged ptr) = Took v
queue_deed_told (LoadingNext h k) (Pointer ptr) = deed_of_look ptr.name
queue_deed_told phase answer = queue_deed_done phase

abbrev pub queue_deed_then : QueuePhase → Reply → QueueDeed
queue_deed_then phase (Done answer) = queue_deed_told phase answer
queue_deed_then phase _ = queue_deed_done phase
