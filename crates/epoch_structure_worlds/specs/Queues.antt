-- The state of a queue's world, what one step does to it, and what holds of whole lists of steps.
use Rattle.std.specs.Prelude.{◌≡◌, ◌≤◌, ℕ, List, [], ◌∷◌, ◌++◌, length}
use Rattle.std.specs.Global.{Vec}
use Rattle.epoch_laws.specs.Full.{FullWhereFound}
use Rattle.epoch_laws.specs.Run.{State, Runs, TakesStep}
use Rattle.epoch_laws.specs.declared.step.Entry.{Entry}
use Rattle.epoch_laws.specs.declared.step.Reply.TheVariants.{Began}
use Rattle.epoch_structure_worlds.specs.declared.plans.step.PlanReply.{PlanReply}
use Rattle.epoch_structure_worlds.specs.declared.plans.step.PlanReply.TheVariants.{World, Answered}
use Rattle.epoch_structure_worlds.specs.declared.plans.step.PlanStep.{PlanStep}
use Rattle.epoch_structure_worlds.specs.declared.plans.step.PlanStep.TheVariants.{Ask, Go}
use Rattle.epoch_structure_worlds.specs.PlanWorlds.{PlanState, PlanEntry, PlanTakes, GoesByPlans, ListsSteps, events_of}
use Rattle.epoch_structure_worlds.specs.PlanWorlds.{plan_run, plans_in}
use Rattle.epoch_structure_laws.specs.Plans.{world_log, run_of_world}
use Rattle.epoch_structure_laws.specs.declared.queue.plan.QueuePhase.{QueuePhase}
use Rattle.epoch_structure_laws.specs.declared.queue.plan.QueueAnswer.{QueueAnswer}
use Rattle.epoch_structure_laws.specs.declared.queue.plan.QueueWork.{QueueWork}
use Rattle.epoch_structure_laws.specs.QueueProgram.{queue, queue_deed_of, QueueStarts, begin_queue_work, QueueRuns}
use Rattle.epoch_structure_laws.specs.QueueProgram.{IsNewQueue}
use Rattle.epoch_structure_laws.specs.QueueValues.{QueueHolds, StepOnValues, FindsNoValue}
use Rattle.epoch_structure_laws.specs.QueueAlone.{HasTries, IsBuilt, IsQueueCallOut}
use Rattle.epoch_structure_laws.specs.QueueReplies.{AllQueueCallsServed}
use Rattle.epoch_laws.specs.Reach.{LeavesOnce, KeepsLoaded, past_of}

abbrev pub QueueState : Type 0
QueueState = PlanState QueuePhase

abbrev pub QueueEntry : Type 0
QueueEntry = PlanEntry QueuePhase QueueAnswer QueueWork

-- the queue takes this step, with this reply
abbrev pub QueueTakes : QueueState → PlanStep QueueWork → PlanReply QueueAnswer → QueueState → Type 0
QueueTakes old step reply new = PlanTakes queue_deed_of QueueStarts begin_queue_work old step reply new

-- the queue goes by these entries from old to new
abbrev pub GoesByQueue : QueueState → List QueueEntry → QueueState → Type 0
GoesByQueue old log new = GoesByPlans queue_deed_of QueueStarts begin_queue_work old log new

-- WHAT HOLDS OF A RUN FROM A NEW QUEUE

-- a new world with two null roots, and no call under way
abbrev pub QueueStartsEmpty : QueueState → Type 0
QueueStartsEmpty s = IsNewQueue s.world (plans_in s.plans)

-- of the steps that the queue takes now, together with all those that it took before them
abbrev pub AlongQueue : (old : QueueState) (steps : List (PlanStep QueueWork)) (new : QueueState)
    → ((fresh : QueueState) (log : List QueueEntry) (last : QueueState) → GoesByQueue fresh log last → Type 0)
    → Vec (PlanReply QueueAnswer) → Type 0
AlongQueue old steps new Holds replies = (fresh : QueueState) (earlier log : List QueueEntry)
    → QueueStartsEmpty fresh → GoesByQueue fresh earlier old → ListsSteps log steps replies.items
    → (run : GoesByQueue fresh (earlier ++ log) new) → Holds fresh (earlier ++ log) new run

-- the run of the queue's program that it is, and the run of the world that it makes
abbrev pub queue_run : (old : QueueState) (log : List QueueEntry) (new : QueueState) → GoesByQueue old log new
    → QueueRuns old.world (plans_in old.plans) (events_of log) new.world (plans_in new.plans)
queue_run old log new run =
    plan_run queue_deed_of QueueStarts begin_queue_work old.world (plans_in old.plans) log new.world
    (plans_in new.plans) run

abbrev pub queue_world_made : (old : QueueState) (log : List QueueEntry) (new : QueueState) → GoesByQueue old log new
    → Runs old.world (world_log (events_of log)) new.world
queue_world_made old log new run =
    run_of_world queue QueueStarts old.world (plans_in old.plans) (events_of log) new.world
    (plans_in new.plans) (queue_run old log new run)

-- cells leave once, by a deferred removal, and for good
abbrev pub QueueLeavesNodesOnce : (old : QueueState) (log : List QueueEntry) (new : QueueState)
    → GoesByQueue old log new
    → Type 0
QueueLeavesNodesOnce old log new run =
    LeavesOnce old.world (world_log (events_of log)) new.world (queue_world_made old log new run)

-- no name that is loaded under a guard still held is destroyed
abbrev pub QueueKeepsNamesLoaded : (old : QueueState) (log : List QueueEntry) (new : QueueState)
    → GoesByQueue old log new
    → Type 0
QueueKeepsNamesLoaded old log new run =
    KeepsLoaded (past_of old.world (world_log (events_of log)) new.world (queue_world_made old log new run))

-- the bags are told to be full exactly where the put of the call found each place of the store occupied
abbrev pub QueueTellsFullWhereFound : (old : QueueState) (log : List QueueEntry) (new : QueueState)
    → GoesByQueue old log new
    → Type 0
QueueTellsFullWhereFound old log new run = FullWhereFound old.world (world_log (events_of log)) new.world

-- a new queue holds no value, and the cells hold a list of values
abbrev pub HoldsAList : (old : QueueState) (log : List QueueEntry) (new : QueueState) → GoesByQueue old log new → Type 0
HoldsAList old log new run = QueueHolds old.world.heap [] × ((vs : List ℕ) × QueueHolds new.world.heap vs)

-- each further step of the world leaves that list, adds a push's value at the back, or takes a pop's value from the
-- front; and where a pop finds nothing the list is empty
abbrev pub FirstInFirstOut : (old : QueueState) (log : List QueueEntry) (new : QueueState) → GoesByQueue old log new
    → Type 0
FirstInFirstOut old log new run = (next : State) (x : Entry) → TakesStep new.world x.step x.reply next
    → (vs : List ℕ) → QueueHolds new.world.heap vs
    → StepOnValues new.world (plans_in new.plans) x next vs
    × (FindsNoValue new.world (plans_in new.plans) x next → vs ≡ [])

-- Each call of the world that a phase makes is replied to as expected, where there are at most 64 participants, and a
-- cell has one field.
abbrev pub ServesQueueCalls : (old : QueueState) (log : List QueueEntry) (new : QueueState) → GoesByQueue old log new
    → Type 0
ServesQueueCalls old log new run = length old.world.seats ≤ 64 → old.world.heap.fields ≡ 1
    → AllQueueCallsServed old.world (plans_in old.plans) (events_of log) new.world (plans_in new.plans)
    (queue_run old log new run)

-- A LONE CALL

-- each further step is a Go of p
abbrev pub AllQueueCallsGo : ℕ → List (PlanStep QueueWork) → Type 0
AllQueueCallsGo p [] = Unit {0}
AllQueueCallsGo p (step ∷ steps) = (step ≡ Go p) × AllQueueCallsGo p steps

-- no call answers that each try was lost
abbrev pub RepliesOut : PlanReply QueueAnswer → Type 0
RepliesOut (Answered answer) = IsQueueCallOut answer
RepliesOut (World reply) = ⊥

abbrev pub NoQueueCallOut : List (PlanReply QueueAnswer) → Type 0
NoQueueCallOut [] = Unit {0}
NoQueueCallOut (reply ∷ replies) = (¬ (RepliesOut reply)) × NoQueueCallOut replies

-- The first of these steps begins a push or a pop of p with tries enough, and the others are its own; the queue is
-- built.
pub record IsLoneCall (old : QueueState) (steps : List (PlanStep QueueWork)) (replies : List (PlanReply QueueAnswer))
    (p : ℕ) : Type 0 where
  pub guard : ℕ
  pub work : QueueWork
  pub later : List (PlanStep QueueWork)
  pub rest : List (PlanReply QueueAnswer)
  pub asks : steps ≡ Ask p guard work ∷ later
  pub begins : replies ≡ World Began ∷ rest
  pub own : AllQueueCallsGo p later
  pub tries : HasTries work
  pub built : IsBuilt old.world

-- a lone call of a queue that goes on from a new one, of at most 64 participants and with one field a cell, does not
-- run out of tries
abbrev pub RunsOutOfNone : QueueState → List (PlanStep QueueWork) → QueueState → Vec (PlanReply QueueAnswer) → Type 0
RunsOutOfNone old steps new replies = (fresh : QueueState) (earlier log : List QueueEntry) (p : ℕ)
    → QueueStartsEmpty fresh
    → length fresh.world.seats ≤ 64 → fresh.world.heap.fields ≡ 1 → GoesByQueue fresh earlier old
    → ListsSteps log steps replies.items → GoesByQueue old log new → IsLoneCall old steps replies.items p
    → NoQueueCallOut replies.items
