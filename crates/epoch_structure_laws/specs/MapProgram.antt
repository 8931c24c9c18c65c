-- The program of a map after Harris and Michael: each bucket's root leads to the first of its nodes, whose keys ascend,
-- and a node's field with a mark, which is tag 1, says that its entry was removed. Whoever wins the exchange that
-- unlinks the node, and nobody else, defers its removal.
use Rattle.std.specs.Prelude.{ℕ, zero, suc, ◌+◌, ◌*◌, ◌/◌, ◌≤◌, Bool, true, false, Option, Some, None, ◌≡◌, List}
use Rattle.std.specs.Prelude.{nat_lt, if◌then◌else◌}
use Rattle.epoch_cells.specs.declared.cells.name.Name.{Name}
use Rattle.epoch_laws.specs.declared.heap.access.Ptr.{Ptr}
use Rattle.epoch_laws.specs.declared.heap.access.Spot.{Spot}
use Rattle.epoch_laws.specs.declared.heap.access.Spot.TheVariants.{Root, Field}
use Rattle.epoch_laws.specs.declared.heap.access.Change.TheVariants.{Load, Store, CompareExchange}
use Rattle.epoch_laws.specs.declared.heap.access.Access.{Access}
use Rattle.epoch_laws.specs.declared.heap.access.Access.TheVariants.{Place, Read, Leave, Point}
use Rattle.epoch_laws.specs.declared.heap.access.AccessAnswer.{AccessAnswer}
use Rattle.epoch_laws.specs.declared.heap.access.AccessAnswer.TheVariants.{Unit as UnitAnswer, Name as NameAnswer}
use Rattle.epoch_laws.specs.declared.heap.access.AccessAnswer.TheVariants.{Value, Pointer, Exchanged}
use Rattle.epoch_laws.specs.Run.{State, IsFresh}
use Rattle.epoch_structure_laws.specs.declared.plan.Plan.TheVariants.{NoPlan}
use Rattle.epoch_structure_laws.specs.Plans.{Deed, Flushes, Touches, Defers, Answers, Program, AllPlans, PlanEvent}
use Rattle.epoch_structure_laws.specs.Plans.{PlanRuns}
use Rattle.epoch_structure_laws.specs.declared.map.plan.MapWork.{MapWork}
use Rattle.epoch_structure_laws.specs.declared.map.plan.MapWork.TheVariants.{Insert, Remove, Get}
use Rattle.epoch_structure_laws.specs.declared.map.plan.Aim.{Aim}
use Rattle.epoch_structure_laws.specs.declared.map.plan.Aim.TheVariants.{ToInsert, ToRemove, ToGet}
use Rattle.epoch_structure_laws.specs.declared.map.plan.MapAnswer.{MapAnswer}
use Rattle.epoch_structure_laws.specs.declared.map.plan.MapAnswer.TheVariants.{Inserted, AlreadyThere}
use Rattle.epoch_structure_laws.specs.declared.map.plan.MapAnswer.TheVariants.{AlreadyThereLeaking}
use Rattle.epoch_structure_laws.specs.declared.map.plan.MapAnswer.TheVariants.{Removed, RemovedLeaking, Found, NotFound}
use Rattle.epoch_structure_laws.specs.declared.map.plan.MapAnswer.TheVariants.{MovesOut}
use Rattle.epoch_structure_laws.specs.declared.map.plan.MapAnswer.TheVariants.{MovesOutLeaking, CellsFull, BagsFull}
use Rattle.epoch_structure_laws.specs.declared.map.plan.MapPhase.{MapPhase}
use Rattle.epoch_structure_laws.specs.declared.map.plan.MapPhase.TheVariants.{MakingRoom, Placing, LoadingFirst}
use Rattle.epoch_structure_laws.specs.declared.map.plan.MapPhase.TheVariants.{Reading, Leaving, LoadingNext, Unlinking}
use Rattle.epoch_structure_laws.specs.declared.map.plan.MapPhase.TheVariants.{Burying, Linking, Inserting, Marking}
use Rattle.epoch_structure_laws.specs.declared.map.plan.MapPhase.TheVariants.{Dropping, Removing, TakingBack, Answering}

-- the key of an entry
unfoldable pub node_key : ℕ → ℕ
node_key entry = entry / 4294967296

-- POINTERS, AND CALLS ON THEM

abbrev pub plain : Option Name → Ptr
plain next = record { name = next; tag = 0 }

abbrev pub marked : Option Name → Ptr
marked next = record { name = next; tag = 1 }

abbrev pub map_load : ℕ → Spot → Access
map_load g spot = Point (Some g) spot Load

-- exchanges the pointer there, if it is this one still, for the other
abbrev pub map_exchange : ℕ → Spot → Ptr → Ptr → Access
map_exchange g spot current other = Point (Some g) spot (CompareExchange current other)

-- WHAT A WALK IS FOR

abbrev pub bucket_of : Aim → ℕ
bucket_of (ToInsert b e own) = b
bucket_of (ToRemove b key) = b
bucket_of (ToGet b key) = b

abbrev pub key_sought : Aim → ℕ
key_sought (ToInsert b e own) = node_key e
key_sought (ToRemove b key) = key
key_sought (ToGet b key) = key

-- WHAT FOLLOWS

-- no move is left: an own node is taken back
abbrev pub out_of_moves : Aim → MapPhase
out_of_moves (ToInsert b e own) = TakingBack own MovesOut
out_of_moves _ = Answering MovesOut

-- the walk begins again, if a move is left
abbrev pub again : Aim → ℕ → MapPhase
again aim zero = out_of_moves aim
again aim (suc k) = LoadingFirst aim k

-- the first phase of a call, where the held bag has room
abbrev pub start_map_work : MapWork → MapPhase
start_map_work (Insert b e k) = Placing b e k
start_map_work (Remove b key k) = again (ToRemove b key) k
start_map_work (Get b key k) = again (ToGet b key) k

-- and where it has room or hasn't
abbrev pub begin_map_work : MapWork → Bool → MapPhase
begin_map_work work true = start_map_work work
begin_map_work work false = MakingRoom work

-- the link leads past the key
abbrev pub absent : Aim → Spot → Option Name → ℕ → MapPhase
absent (ToInsert b e own) link next k = Linking b e own link next k
absent _ link next k = Answering NotFound

-- the node holds this entry of the key, and had no mark when its field was loaded
abbrev pub present : Aim → Spot → Name → ℕ → Option Name → ℕ → MapPhase
present (ToInsert b e own) link c v next k = TakingBack own (AlreadyThere v)
present (ToRemove b key) link c v next k = Marking b key link c v next k
present (ToGet b key) link c v next k = Answering (Found v)

-- a link leads to this node, if a move is left to go on to it
abbrev pub to_node : Aim → Spot → Name → ℕ → MapPhase
to_node aim link c zero = out_of_moves aim
to_node aim link c (suc k) = Reading aim link c k

abbrev pub at : Aim → Spot → Option Name → ℕ → MapPhase
at aim link None k = absent aim link None k
at aim link (Some c) k = to_node aim link c k

-- what follows from the entry that was read, before the node's field is loaded
abbrev pub to_look : Aim → Spot → Name → ℕ → ℕ → MapPhase
to_look aim link c v k =
    if nat_lt (key_sought aim) (node_key v) then absent aim link (Some c) k else LoadingNext aim link c v k

-- what follows from the node's field, by its name and tag
abbrev pub looked_at : Aim → Spot → Name → ℕ → ℕ → Option Name → ℕ → MapPhase
looked_at aim link c v k next zero =
    if nat_lt (node_key v) (key_sought aim) then at aim (Field c 0) next k else present aim link c v next k
looked_at aim link c v k next (suc tag) = Unlinking aim link c next k

-- the answer where the removal of an own node was refused
abbrev pub leaking : MapAnswer → MapAnswer
leaking (AlreadyThere v) = AlreadyThereLeaking v
leaking MovesOut = MovesOutLeaking
leaking answer = answer

-- the walk begins again, from a phase whose call did nothing
abbrev pub lost : MapPhase → MapPhase
lost (LoadingFirst aim k) = again aim k
lost (Reading aim link c k) = again aim k
lost (Leaving aim link c v k) = again aim k
lost (LoadingNext aim link c v k) = again aim k
lost (Unlinking aim link c next k) = again aim k
lost (Linking b e own link next k) = again (ToInsert b e own) k
lost (Inserting b e own link next k) = again (ToInsert b e own) k
lost (Marking b key link c v next k) = again (ToRemove b key) k
lost phase = phase

-- WHAT FOLLOWS FROM ANSWERS

abbrev pub map_placed : ℕ → ℕ → ℕ → AccessAnswer → MapPhase
map_placed b e k (NameAnswer n) = again (ToInsert b e n) k
map_placed b e k _ = Answering CellsFull

abbrev pub first_loaded : Aim → ℕ → AccessAnswer → MapPhase
first_loaded aim k (Pointer ptr) = at aim (Root (bucket_of aim)) ptr.name k
first_loaded aim k _ = again aim k

abbrev pub map_read : Aim → Spot → Name → ℕ → AccessAnswer → MapPhase
map_read aim link c k (Value v) = Leaving aim link c v k
map_read aim link c k _ = again aim k

abbrev pub map_next_loaded : Aim → Spot → Name → ℕ → ℕ → AccessAnswer → MapPhase
map_next_loaded aim link c v k (Pointer ptr) = looked_at aim link c v k ptr.name ptr.tag
map_next_loaded aim link c v k _ = again aim k

abbrev pub unlinked : Aim → Name → ℕ → AccessAnswer → MapPhase
unlinked aim c k (Exchanged ptr) = Burying aim c k
unlinked aim c k _ = again aim k

abbrev pub map_linked : ℕ → ℕ → Name → Spot → Option Name → ℕ → AccessAnswer → MapPhase
map_linked b e own link next k UnitAnswer = Inserting b e own link next k
map_linked b e own link next k _ = again (ToInsert b e own) k

abbrev pub inserted : ℕ → ℕ → Name → ℕ → AccessAnswer → MapPhase
inserted b e own k (Exchanged ptr) = Answering Inserted
inserted b e own k _ = again (ToInsert b e own) k

abbrev pub marked_now : ℕ → ℕ → Spot → Name → ℕ → Option Name → ℕ → AccessAnswer → MapPhase
marked_now b key link c v next k (Exchanged ptr) = Dropping b key link c v next
marked_now b key link c v next k _ = again (ToRemove b key) k

-- where another has unlinked the node, that one defers its removal
abbrev pub dropped : Name → ℕ → AccessAnswer → MapPhase
dropped c v (Exchanged ptr) = Removing c v
dropped c v _ = Answering (Removed v)

-- what each phase does
abbrev pub map_deed_of : ℕ → MapPhase → Deed MapPhase MapAnswer
map_deed_of g (MakingRoom work) = Flushes (start_map_work work) (Answering BagsFull)
map_deed_of g (Placing b e k) = Touches (Place e) (map_placed b e k) (Answering CellsFull)
map_deed_of g (LoadingFirst aim k) = Touches (map_load g (Root (bucket_of aim))) (first_loaded aim k) (again aim k)
map_deed_of g (Reading aim link c k) = Touches (Read (Some g) (plain (Some c))) (map_read aim link c k) (again aim k)
map_deed_of g (Leaving aim link c v k) = Touches (Leave (plain (Some c))) (λ a. to_look aim link c v k) (again aim k)
map_deed_of g (LoadingNext aim link c v k) =
    Touches (map_load g (Field c 0)) (map_next_loaded aim link c v k) (again aim k)
map_deed_of g (Unlinking aim link c next k) =
    Touches (map_exchange g link (plain (Some c)) (plain next)) (unlinked aim c k) (again aim k)
map_deed_of g (Burying aim c k) = Defers c (again aim k) (Answering MovesOutLeaking)
map_deed_of g (Linking b e own link next k) =
    Touches (Point (Some g) (Field own 0) (Store (plain next))) (map_linked b e own link next k)
    (again (ToInsert b e own) k)
map_deed_of g (Inserting b e own link next k) =
    Touches (map_exchange g link (plain next) (plain (Some own))) (inserted b e own k) (again (ToInsert b e own) k)
map_deed_of g (Marking b key link c v next k) =
    Touches (map_exchange g (Field c 0) (plain next) (marked next)) (marked_now b key link c v next k)
    (again (ToRemove b key) k)
map_deed_of g (Dropping b key link c v next) =
    Touches (map_exchange g link (plain (Some c)) (plain next)) (dropped c v) (Answering (Removed v))
map_deed_of g (Removing c v) = Defers c (Answering (Removed v)) (Answering (RemovedLeaking v))
map_deed_of g (TakingBack own answer) = Defers own (Answering answer) (Answering (leaking answer))
map_deed_of g (Answering a) = Answers a

-- how many calls of the world are made from this phase on, at most: five a move
abbrev pub map_calls_left : MapPhase → ℕ
map_calls_left (MakingRoom (Insert b e k)) = 5 * k + 3
map_calls_left (MakingRoom (Remove b key k)) = 5 * k + 2
map_calls_left (MakingRoom (Get b key k)) = 5 * k + 2
map_calls_left (Placing b e k) = 5 * k + 2
map_calls_left (LoadingFirst aim k) = 5 * k + 6
map_calls_left (Reading aim link c k) = 5 * k + 6
map_calls_left (Leaving aim link c v k) = 5 * k + 5
map_calls_left (LoadingNext aim link c v k) = 5 * k + 4
map_calls_left (Unlinking aim link c next k) = 5 * k + 3
map_calls_left (Burying aim c k) = 5 * k + 2
map_calls_left (Linking b e own link next k) = 5 * k + 3
map_calls_left (Inserting b e own link next k) = 5 * k + 2
map_calls_left (Marking b key link c v next k) = 5 * k + 3
map_calls_left (Dropping b key link c v next) = 2
map_calls_left (Removing c v) = 1
map_calls_left (TakingBack own answer) = 1
map_calls_left (Answering a) = 0

-- the program
abbrev pub map : Program
map = record { Phase = MapPhase; Answer = MapAnswer; deed = map_deed_of }

-- a call begins by making room, or at once
abbrev pub MapStarts : MapPhase → Type 0
MapStarts (MakingRoom work) = Unit {0}
MapStarts (Placing b e k) = Unit {0}
MapStarts (LoadingFirst (ToRemove b key) k) = Unit {0}
MapStarts (LoadingFirst (ToGet b key) k) = Unit {0}
MapStarts (Answering MovesOut) = Unit {0}  -- with no move
MapStarts _ = ⊥

-- what the steps of a map show
abbrev pub MapLog : Type 0
MapLog = List (PlanEvent MapPhase MapAnswer)

-- a world and the plans of map calls go by the steps that show these events
abbrev pub MapRuns : State → AllPlans MapPhase → MapLog → State → AllPlans MapPhase → Type 0
MapRuns world plans log world' plans' = PlanRuns map MapStarts world plans log world' plans'

-- A new map: a new world, whose roots are the buckets, and no call under way. Tags are taken modulo the alignment, so a
-- mark needs an alignment of 2 at least.
pub record IsNewMap (world : State) (plans : AllPlans MapPhase) : Type 0 where
  pub fresh : IsFresh world
  pub marks : 2 ≤ world.heap.align
  pub no_plans : (p : ℕ) → plans p ≡ NoPlan
