-- The program of a queue after Michael and Scott: the head is root 0, the tail root 1, and the first node holds no
-- value of the queue.
use Rattle.std.specs.Prelude.{ℕ, zero, suc, ◌+◌, ◌*◌, List, Bool, true, false, Option, Some, None, if◌then◌else◌, ◌≡◌}
use Rattle.std.specs.Prelude.{[], ◌∷◌}
use Rattle.epoch_cells.specs.declared.cells.name.Name.{Name}
use Rattle.epoch_laws.specs.declared.heap.access.Ptr.{Ptr}
use Rattle.epoch_laws.specs.declared.heap.access.Spot.{Spot}
use Rattle.epoch_laws.specs.declared.heap.access.Spot.TheVariants.{Root, Field}
use Rattle.epoch_laws.specs.declared.heap.access.Change.TheVariants.{Load, CompareExchange}
use Rattle.epoch_laws.specs.declared.heap.access.Access.{Access}
use Rattle.epoch_laws.specs.declared.heap.access.Access.TheVariants.{Place, Read, Leave, Point}
use Rattle.epoch_laws.specs.declared.heap.access.AccessAnswer.{AccessAnswer}
use Rattle.epoch_laws.specs.declared.heap.access.AccessAnswer.TheVariants.{Name as NameAnswer, Value, Pointer}
use Rattle.epoch_laws.specs.declared.heap.access.AccessAnswer.TheVariants.{Exchanged}
use Rattle.epoch_laws.specs.Heap.{null, is_name}
use Rattle.epoch_laws.specs.Run.{State, IsFresh}
use Rattle.epoch_structure_laws.specs.declared.plan.Plan.TheVariants.{NoPlan}
use Rattle.epoch_structure_laws.specs.Plans.{Deed, Flushes, Touches, Defers, Answers, Program, ptr_to, AllPlans}
use Rattle.epoch_structure_laws.specs.Plans.{PlanEvent, PlanRuns}
use Rattle.epoch_structure_laws.specs.declared.queue.plan.QueueWork.{QueueWork}
use Rattle.epoch_structure_laws.specs.declared.queue.plan.QueueWork.TheVariants.{Build, Push, Pop}
use Rattle.epoch_structure_laws.specs.declared.queue.plan.QueueAnswer.{QueueAnswer}
use Rattle.epoch_structure_laws.specs.declared.queue.plan.QueueAnswer.TheVariants.{Built, Pushed, Popped, PoppedLeaking}
use Rattle.epoch_structure_laws.specs.declared.queue.plan.QueueAnswer.TheVariants.{Empty, TriesOut, TriesOutLeaking}
use Rattle.epoch_structure_laws.specs.declared.queue.plan.QueueAnswer.TheVariants.{CellsFull, BagsFull}
use Rattle.epoch_structure_laws.specs.declared.queue.plan.QueuePhase.{QueuePhase}
use Rattle.epoch_structure_laws.specs.declared.queue.plan.QueuePhase.TheVariants.{MakingRoom, Founding, Crowning}
use Rattle.epoch_structure_laws.specs.declared.queue.plan.QueuePhase.TheVariants.{Seating, Placing, LoadingTail}
use Rattle.epoch_structure_laws.specs.declared.queue.plan.QueuePhase.TheVariants.{LoadingLast, Appending, Swinging}
use Rattle.epoch_structure_laws.specs.declared.queue.plan.QueuePhase.TheVariants.{Helping, TakingBack, LoadingHead}
use Rattle.epoch_structure_laws.specs.declared.queue.plan.QueuePhase.TheVariants.{LoadingNext, Reading, Leaving, Taking}
use Rattle.epoch_structure_laws.specs.declared.queue.plan.QueuePhase.TheVariants.{LookingBack, Advancing, Removing}
use Rattle.epoch_structure_laws.specs.declared.queue.plan.QueuePhase.TheVariants.{Answering}

-- one more try, if one is left
abbrev pub retry_push : Name → ℕ → QueuePhase
retry_push n zero = TakingBack n
retry_push n (suc k) = LoadingTail n k

abbrev pub retry_pop : ℕ → QueuePhase
retry_pop zero = Answering TriesOut
retry_pop (suc k) = LoadingHead k

-- the first phase of a call, where the held bag has room
abbrev pub start_queue_work : QueueWork → QueuePhase
start_queue_work Build = Founding
start_queue_work (Push v k) = Placing v k
start_queue_work (Pop k) = retry_pop k

-- and where it has room or hasn't
abbrev pub begin_queue_work : QueueWork → Bool → QueuePhase
begin_queue_work work true = start_queue_work work
begin_queue_work work false = MakingRoom work

abbrev pub queue_load : ℕ → Spot → Access
queue_load g spot = Point (Some g) spot Load

-- exchanges the pointer there, if it is this one still, for the one to the node
abbrev pub queue_exchange : ℕ → Spot → Ptr → Name → Access
queue_exchange g spot current n = Point (Some g) spot (CompareExchange current (ptr_to n))

-- WHAT FOLLOWS FROM ANSWERS

abbrev pub founded : AccessAnswer → QueuePhase
founded (NameAnswer n) = Crowning n
founded _ = Answering CellsFull

abbrev pub crowned : Name → AccessAnswer → QueuePhase
crowned n (Exchanged ptr) = Seating n
crowned n _ = TakingBack n

abbrev pub queue_placed : ℕ → AccessAnswer → QueuePhase
queue_placed k (NameAnswer n) = retry_push n k
queue_placed k _ = Answering CellsFull

abbrev pub to_last : Name → ℕ → Option Name → QueuePhase
to_last n k (Some t) = LoadingLast n t k
to_last n k None = retry_push n k

abbrev pub tail_loaded : Name → ℕ → AccessAnswer → QueuePhase
tail_loaded n k (Pointer ptr) = to_last n k ptr.name
tail_loaded n k _ = retry_push n k

abbrev pub to_append : Name → Name → ℕ → Option Name → QueuePhase
to_append n t k None = Appending n t k
to_append n t k (Some q) = Helping n t q k

abbrev pub last_loaded : Name → Name → ℕ → AccessAnswer → QueuePhase
last_loaded n t k (Pointer ptr) = to_append n t k ptr.name
last_loaded n t k _ = retry_push n k

abbrev pub appended : Name → Name → ℕ → AccessAnswer → QueuePhase
appended n t k (Exchanged ptr) = Swinging t n
appended n t k _ = retry_push n k

abbrev pub to_next : ℕ → Option Name → QueuePhase
to_next k (Some h) = LoadingNext h k
to_next k None = retry_pop k

abbrev pub queue_head_loaded : ℕ → AccessAnswer → QueuePhase
queue_head_loaded k (Pointer ptr) = to_next k ptr.name
queue_head_loaded k _ = retry_pop k

abbrev pub to_read : Name → ℕ → Option Name → QueuePhase
to_read h k (Some q) = Reading h q k
to_read h k None = Answering Empty

abbrev pub queue_next_loaded : Name → ℕ → AccessAnswer → QueuePhase
queue_next_loaded h k (Pointer ptr) = to_read h k ptr.name
queue_next_loaded h k _ = retry_pop k

abbrev pub queue_read : Name → Name → ℕ → AccessAnswer → QueuePhase
queue_read h q k (Value v) = Leaving h q v k
queue_read h q k _ = retry_pop k

abbrev pub taken : Name → Name → ℕ → ℕ → AccessAnswer → QueuePhase
taken h q v k (Exchanged ptr) = LookingBack h q v
taken h q v k _ = retry_pop k

-- the tail is looked at by whoever took the head off, so that no removal of what it leads to is deferred
abbrev pub names : Option Name → Name → Bool
names (Some t) h = is_name t h
names None h = false

abbrev pub looked_back : Name → Name → ℕ → AccessAnswer → QueuePhase
looked_back h q v (Pointer ptr) = if names ptr.name h then Advancing h q v else Removing h v
looked_back h q v _ = Advancing h q v

-- what each phase does
abbrev pub queue_deed_of : ℕ → QueuePhase → Deed QueuePhase QueueAnswer
queue_deed_of g (MakingRoom work) = Flushes (start_queue_work work) (Answering BagsFull)
queue_deed_of g Founding = Touches (Place 0) founded (Answering CellsFull)
queue_deed_of g (Crowning n) = Touches (queue_exchange g (Root 0) null n) (crowned n) (TakingBack n)
queue_deed_of g (Seating n) = Touches (queue_exchange g (Root 1) null n) (λ a. Answering Built) (Answering Built)
queue_deed_of g (Placing v k) = Touches (Place v) (queue_placed k) (Answering CellsFull)
queue_deed_of g (LoadingTail n k) = Touches (queue_load g (Root 1)) (tail_loaded n k) (retry_push n k)
queue_deed_of g (LoadingLast n t k) = Touches (queue_load g (Field t 0)) (last_loaded n t k) (retry_push n k)
queue_deed_of g (Appending n t k) = Touches (queue_exchange g (Field t 0) null n) (appended n t k) (retry_push n k)
queue_deed_of g (Swinging t n) =
    Touches (queue_exchange g (Root 1) (ptr_to t) n) (λ a. Answering Pushed) (Answering Pushed)
queue_deed_of g (Helping n t q k) =
    Touches (queue_exchange g (Root 1) (ptr_to t) q) (λ a. retry_push n k) (retry_push n k)
queue_deed_of g (TakingBack n) = Defers n (Answering TriesOut) (Answering TriesOutLeaking)
queue_deed_of g (LoadingHead k) = Touches (queue_load g (Root 0)) (queue_head_loaded k) (retry_pop k)
queue_deed_of g (LoadingNext h k) = Touches (queue_load g (Field h 0)) (queue_next_loaded h k) (retry_pop k)
queue_deed_of g (Reading h q k) = Touches (Read (Some g) (ptr_to q)) (queue_read h q k) (retry_pop k)
queue_deed_of g (Leaving h q v k) = Touches (Leave (ptr_to q)) (λ a. Taking h q v k) (Taking h q v k)
queue_deed_of g (Taking h q v k) = Touches (queue_exchange g (Root 0) (ptr_to h) q) (taken h q v k) (retry_pop k)
queue_deed_of g (LookingBack h q v) = Touches (queue_load g (Root 1)) (looked_back h q v) (Advancing h q v)
queue_deed_of g (Advancing h q v) =
    Touches (queue_exchange g (Root 1) (ptr_to h) q) (λ a. Removing h v) (Answering (PoppedLeaking v))
queue_deed_of g (Removing h v) = Defers h (Answering (Popped v)) (Answering (PoppedLeaking v))
queue_deed_of g (Answering a) = Answers a

-- how many calls of the world are made from this phase on, at most: three a try of a push, and five a try of a pop
abbrev pub queue_calls_left : QueuePhase → ℕ
queue_calls_left (MakingRoom Build) = 4
queue_calls_left (MakingRoom (Push v k)) = 3 * k + 3
queue_calls_left (MakingRoom (Pop k)) = 5 * k + 4
queue_calls_left Founding = 3
queue_calls_left (Crowning n) = 2
queue_calls_left (Seating n) = 1
queue_calls_left (Placing v k) = 3 * k + 2
queue_calls_left (LoadingTail n k) = 3 * k + 4
queue_calls_left (LoadingLast n t k) = 3 * k + 3
queue_calls_left (Appending n t k) = 3 * k + 2
queue_calls_left (Swinging t n) = 1
queue_calls_left (Helping n t q k) = 3 * k + 2
queue_calls_left (TakingBack n) = 1
queue_calls_left (LoadingHead k) = 5 * k + 8
queue_calls_left (LoadingNext h k) = 5 * k + 7
queue_calls_left (Reading h q k) = 5 * k + 6
queue_calls_left (Leaving h q v k) = 5 * k + 5
queue_calls_left (Taking h q v k) = 5 * k + 4
queue_calls_left (LookingBack h q v) = 3
queue_calls_left (Advancing h q v) = 2
queue_calls_left (Removing h v) = 1
queue_calls_left (Answering a) = 0

-- the program
abbrev pub queue : Program
queue = record { Phase = QueuePhase; Answer = QueueAnswer; deed = queue_deed_of }

-- a call begins by making room, or at once
abbrev pub QueueStarts : QueuePhase → Type 0
QueueStarts (MakingRoom work) = Unit {0}
QueueStarts Founding = Unit {0}
QueueStarts (Placing v k) = Unit {0}
QueueStarts (LoadingHead k) = Unit {0}
QueueStarts (Answering TriesOut) = Unit {0}  -- a pop in no try
QueueStarts _ = ⊥

-- what the steps of a queue show
abbrev pub QueueLog : Type 0
QueueLog = List (PlanEvent QueuePhase QueueAnswer)

-- a world and the plans of queue calls go by the steps that show these events
abbrev pub QueueRuns : State → AllPlans QueuePhase → QueueLog → State → AllPlans QueuePhase → Type 0
QueueRuns world plans log world' plans' = PlanRuns queue QueueStarts world plans log world' plans'

-- a new queue: a new world with two roots, and no call under way
pub record IsNewQueue (world : State) (plans : AllPlans QueuePhase) : Type 0 where
  pub fresh : IsFresh world
  pub two_roots : world.heap.roots ≡ null ∷ null ∷ []
  pub no_plans : (p : ℕ) → plans p ≡ NoPlan
