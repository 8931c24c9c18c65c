-- The state of a map's world, what one step does to it, and what holds of whole lists of steps.
use Rattle.std.specs.Prelude.{ℕ, List, [], ◌++◌}
use Rattle.std.specs.Global.{Vec}
use Rattle.epoch_laws.specs.Full.{FullWhereFound}
use Rattle.epoch_laws.specs.Run.{State, Runs, TakesStep}
use Rattle.epoch_laws.specs.declared.step.Entry.{Entry}
use Rattle.epoch_structure_laws.specs.declared.map.plan.MapAnswer.{MapAnswer}
use Rattle.epoch_structure_laws.specs.declared.map.plan.MapPhase.{MapPhase}
use Rattle.epoch_structure_laws.specs.declared.map.plan.MapWork.{MapWork}
use Rattle.epoch_structure_laws.specs.MapProgram.{map, map_deed_of, MapStarts, begin_map_work, MapRuns, IsNewMap}
use Rattle.epoch_structure_laws.specs.MapAnswers.{AnswersNoneAsFound}
use Rattle.epoch_structure_laws.specs.MapEntries.{Item, BucketHolds, Ascends, MapHolds, Has, Lacks, StepOnEntries}
use Rattle.epoch_structure_laws.specs.MapEntries.{FindsNoEntry}
use Rattle.epoch_structure_laws.specs.MapEntries.{FindsEntry}
use Rattle.epoch_structure_worlds.specs.declared.plans.step.PlanReply.{PlanReply}
use Rattle.epoch_structure_worlds.specs.declared.plans.step.PlanStep.{PlanStep}
use Rattle.epoch_structure_worlds.specs.PlanWorlds.{PlanState, PlanEntry, PlanTakes, GoesByPlans, ListsSteps, events_of}
use Rattle.epoch_structure_worlds.specs.PlanWorlds.{plan_run, plans_in}
use Rattle.epoch_structure_laws.specs.Plans.{world_log, run_of_world}
use Rattle.epoch_laws.specs.Reach.{LeavesOnce, KeepsLoaded, past_of}

abbrev pub MapState : Type 0
MapState = PlanState MapPhase

abbrev pub MapEntry : Type 0
MapEntry = PlanEntry MapPhase MapAnswer MapWork

-- the map takes this step, with this reply
abbrev pub MapTakes : MapState → PlanStep MapWork → PlanReply MapAnswer → MapState → Type 0
MapTakes old step reply new = PlanTakes map_deed_of MapStarts begin_map_work old step reply new

-- the map goes by these entries of the log from old to new
abbrev pub GoesByMap : MapState → List MapEntry → MapState → Type 0
GoesByMap old log new = GoesByPlans map_deed_of MapStarts begin_map_work old log new

-- WHAT HOLDS OF A RUN FROM A NEW MAP

-- a new world, and no call under way
abbrev pub MapStartsEmpty : MapState → Type 0
MapStartsEmpty s = IsNewMap s.world (plans_in s.plans)

-- of the steps that the map takes now, together with all those that it took before them
abbrev pub AlongMap : (old : MapState) (steps : List (PlanStep MapWork)) (new : MapState)
    → ((fresh : MapState) (log : List MapEntry) (last : MapState) → GoesByMap fresh log last → Type 0)
    → Vec (PlanReply MapAnswer) → Type 0
AlongMap old steps new Holds replies = (fresh : MapState) (earlier log : List MapEntry)
    → MapStartsEmpty fresh → GoesByMap fresh earlier old → ListsSteps log steps replies.items
    → (run : GoesByMap fresh (earlier ++ log) new) → Holds fresh (earlier ++ log) new run

-- the run of the map's program that it is, and the run of the world that it makes
abbrev pub map_run : (old : MapState) (log : List MapEntry) (new : MapState) → GoesByMap old log new
    → MapRuns old.world (plans_in old.plans) (events_of log) new.world (plans_in new.plans)
map_run old log new run =
    plan_run map_deed_of MapStarts begin_map_work old.world (plans_in old.plans) log new.world (plans_in new.plans) run

abbrev pub map_world_made : (old : MapState) (log : List MapEntry) (new : MapState) → GoesByMap old log new
    → Runs old.world (world_log (events_of log)) new.world
map_world_made old log new run = run_of_world map MapStarts old.world (plans_in old.plans) (events_of log) new.world
    (plans_in new.plans) (map_run old log new run)

-- cells leave once, by a deferred removal, and for good
abbrev pub MapLeavesNodesOnce : (old : MapState) (log : List MapEntry) (new : MapState) → GoesByMap old log new
    → Type 0
MapLeavesNodesOnce old log new run =
    LeavesOnce old.world (world_log (events_of log)) new.world (map_world_made old log new run)

-- no name that is loaded under a guard still held is destroyed
abbrev pub MapKeepsNamesLoaded : (old : MapState) (log : List MapEntry) (new : MapState) → GoesByMap old log new
    → Type 0
MapKeepsNamesLoaded old log new run =
    KeepsLoaded (past_of old.world (world_log (events_of log)) new.world (map_world_made old log new run))

-- the bags are told to be full exactly where the put of the call found each place of the store occupied
abbrev pub MapTellsFullWhereFound : (old : MapState) (log : List MapEntry) (new : MapState) → GoesByMap old log new
    → Type 0
MapTellsFullWhereFound old log new run = FullWhereFound old.world (world_log (events_of log)) new.world

-- a new map's buckets are empty, and each bucket has nodes of ascending keys
abbrev pub HoldsSortedLists : (old : MapState) (log : List MapEntry) (new : MapState) → GoesByMap old log new → Type 0
HoldsSortedLists old log new run =
    (i : ℕ) → MapHolds old.world.heap i [] × ((xs : List Item) × BucketHolds new.world.heap i xs × Ascends 0 xs)

-- each further step of the world leaves a bucket's entries, adds an insert's, or takes a removal's out; where a call
-- finds none of its key there is none, and where it finds an entry that one is there
abbrev pub AnswersAsAMap : (old : MapState) (log : List MapEntry) (new : MapState) → GoesByMap old log new → Type 0
AnswersAsAMap old log new run = (next : State) (x : Entry) → TakesStep new.world x.step x.reply next
    → (i : ℕ) (vs : List ℕ) → MapHolds new.world.heap i vs
    → StepOnEntries new.world (plans_in new.plans) x next i vs
    × ((key : ℕ) → FindsNoEntry new.world (plans_in new.plans) x next i key → Lacks key vs)
    × ((v : ℕ) → FindsEntry new.world (plans_in new.plans) x next i v → Has v vs)

-- a call answers `NotFound` only once it has made a step at which it found no entry of its key
abbrev pub MapAnswersNoneAsFound : (old : MapState) (log : List MapEntry) (new : MapState) → GoesByMap old log new
    → Type 0
MapAnswersNoneAsFound old log new run = AnswersNoneAsFound old.world (plans_in old.plans) (events_of log) new.world
    (plans_in new.plans) (map_run old log new run)
