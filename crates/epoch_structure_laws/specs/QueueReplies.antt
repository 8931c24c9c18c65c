-- How a queue's calls are asked for, and what the world answers to them.
use Rattle.std.specs.Prelude.{◌≡◌, ◌≤◌, List, [], ◌∷◌, length}
use Rattle.epoch_laws.specs.Run.{State}
use Rattle.epoch_structure_laws.specs.Plans.{AllPlans, PlanEvent, Answered}
use Rattle.epoch_structure_laws.specs.Served.{AsksReady, AtEachStep, ServesStep}
use Rattle.epoch_structure_laws.specs.QueueProgram.{queue, QueueStarts, QueueLog, QueueRuns, IsNewQueue}
use Rattle.epoch_structure_laws.specs.declared.queue.plan.QueuePhase.{QueuePhase}
use Rattle.epoch_structure_laws.specs.declared.queue.plan.QueueAnswer.{QueueAnswer}

-- a new queue of at most 64 participants, whose cells have one field
pub record IsUsualQueue (world : State) (plans : AllPlans QueuePhase) : Type 0 where
  pub new : IsNewQueue world plans
  pub few : length world.seats ≤ 64
  pub one_field : world.heap.fields ≡ 1

-- each call is asked for by a participant that is ready, and begins with a flush or has room in the held bag
abbrev pub AllQueueAsksReady : (world : State) (plans : AllPlans QueuePhase) (log : QueueLog) (world' : State)
    (plans' : AllPlans QueuePhase) → QueueRuns world plans log world' plans' → Type 0
AllQueueAsksReady world plans log world' plans' run =
    AtEachStep queue QueueStarts (AsksReady queue) world plans log world' plans' run

-- each step of a phase's call is replied to as expected
abbrev pub AllQueueCallsServed : (world : State) (plans : AllPlans QueuePhase) (log : QueueLog) (world' : State)
    (plans' : AllPlans QueuePhase) → QueueRuns world plans log world' plans' → Type 0
AllQueueCallsServed world plans log world' plans' run =
    AtEachStep queue QueueStarts (ServesStep queue) world plans log world' plans' run

-- what a run's calls answer, in the order of their answers
abbrev pub queue_also_answer : PlanEvent QueuePhase QueueAnswer → List QueueAnswer → List QueueAnswer
queue_also_answer (Answered p answer) rest = answer ∷ rest
queue_also_answer _ rest = rest

abbrev pub queue_answers_in : QueueLog → List QueueAnswer
queue_answers_in [] = []
queue_answers_in (event ∷ log) = queue_also_answer event (queue_answers_in log)
