-- What a try to pop has come to, and whether the tail may lead to the node that was taken off.
use Rattle.std.specs.Prelude.{ℕ, Bool, true, Option, Some, None}
use Rattle.epoch_cells.specs.declared.cells.name.Name.{Name}
use Rattle.epoch_laws.specs.declared.heap.access.Access.{Access}
use Rattle.epoch_laws.specs.declared.heap.access.Ptr.{Ptr}
use Rattle.epoch_laws.specs.declared.step.Reply.{Reply}
use Rattle.epoch_structure_calls.specs.Touching.{TouchesOn}
use Rattle.epoch_structure_calls.specs.declared.queue.tries.Tried.{Tried}
use Rattle.epoch_structure_calls.specs.declared.queue.tries.Tried.TheVariants.{Taken, Empty as NoNode, Lost}
use Rattle.epoch_structure_laws.specs.declared.queue.plan.QueuePhase.{QueuePhase}
use Rattle.epoch_structure_laws.specs.declared.queue.plan.QueuePhase.TheVariants.{LookingBack, Answering}
use Rattle.epoch_structure_laws.specs.declared.queue.plan.QueueAnswer.TheVariants.{Empty}
use Rattle.epoch_structure_laws.specs.QueueProgram.{queue_deed_of, retry_pop, names}

-- the phase that follows, with this many tries left
abbrev pub queue_phase_after : Tried → ℕ → QueuePhase
queue_phase_after (Taken head next value) left = LookingBack head next value
queue_phase_after NoNode left = Answering Empty
queue_phase_after Lost left = retry_pop left

-- From this phase, accesses alone came to the phase that follows.
abbrev pub QueueComesTo : {L : Type 0} → (L → Access → Reply → L → Type 0) → QueuePhase → L → Tried → ℕ → L → Type 0
QueueComesTo does phase links tried left links' =
    TouchesOn does (queue_deed_of 0) phase links (queue_phase_after tried left) links'

-- the tail may lead to this node: it does, or it couldn't be loaded
abbrev pub leads_on : Option Ptr → Name → Bool
leads_on (Some ptr) node = names ptr.name node
leads_on None node = true
