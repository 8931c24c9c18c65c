-- A push or a pop of a queue with no step of others in its midst.
use Rattle.std.specs.Prelude.{◌≡◌, ℕ, ◌≤◌, [], ◌∷◌, Some, ◌⊎◌}
use Rattle.epoch_cells.specs.declared.cells.name.Name.{Name}
use Rattle.epoch_laws.specs.declared.heap.access.Spot.TheVariants.{Root}
use Rattle.epoch_laws.specs.Heap.{pointer_at}
use Rattle.epoch_laws.specs.declared.step.Call.{Call}
use Rattle.epoch_laws.specs.declared.step.Step.TheVariants.{Begin, Go}
use Rattle.epoch_laws.specs.Run.{State}
use Rattle.epoch_structure_laws.specs.Plans.{PlanEvent, Answered, Makes, ptr_to}
use Rattle.epoch_structure_laws.specs.declared.queue.plan.QueuePhase.{QueuePhase}
use Rattle.epoch_structure_laws.specs.declared.queue.plan.QueueAnswer.{QueueAnswer}
use Rattle.epoch_structure_laws.specs.declared.queue.plan.QueueAnswer.TheVariants.{TriesOut, TriesOutLeaking}
use Rattle.epoch_structure_laws.specs.declared.queue.plan.QueueWork.{QueueWork}
use Rattle.epoch_structure_laws.specs.declared.queue.plan.QueueWork.TheVariants.{Build, Push, Pop}
use Rattle.epoch_structure_laws.specs.QueueProgram.{QueueLog}

-- the step is p's own, or p's call answers
abbrev pub IsOwn : ℕ → PlanEvent QueuePhase QueueAnswer → Type 0
IsOwn p (Makes x) = (x.step ≡ Go p) ⊎ ((c : Call) × (x.step ≡ Begin p c))
IsOwn p (Answered q answer) = q ≡ p
IsOwn p _ = ⊥

abbrev pub AllOwn : ℕ → QueueLog → Type 0
AllOwn p [] = Unit {0}
AllOwn p (event ∷ log) = IsOwn p event × AllOwn p log

-- the queue is built: its tail leads to a node
abbrev pub IsBuilt : State → Type 0
IsBuilt s = (t : Name) × (pointer_at s.heap (Root 1) ≡ Some (ptr_to t))

-- two tries for a push, the first of which may help a tail that lags, and one for a pop
abbrev pub HasTries : QueueWork → Type 0
HasTries Build = ⊥
HasTries (Push v k) = 2 ≤ k
HasTries (Pop k) = 1 ≤ k

-- each try was lost
abbrev pub IsQueueCallOut : QueueAnswer → Type 0
IsQueueCallOut TriesOut = Unit {0}
IsQueueCallOut TriesOutLeaking = Unit {0}
IsQueueCallOut _ = ⊥

abbrev pub AnswersOut : PlanEvent QueuePhase QueueAnswer → Type 0
AnswersOut (Answered p answer) = IsQueueCallOut answer
AnswersOut _ = ⊥

abbrev pub NeverOut : QueueLog → Type 0
NeverOut [] = Unit {0}
NeverOut (event ∷ log) = (¬ (AnswersOut event)) × NeverOut log
