-- One run of a map, told as a flat list: a participant pins, inserts an entry of key 1, looks for key 0 and then for
-- key 1, removes the entry, and looks for it in vain.
use Rattle.std.proofs.Common.{◌≡◌, ℕ, zero, suc, false, [], ◌∷◌, Some, None, inl, refl, arith, slice_get}
use Rattle.epoch_cells.specs.PlainCells.{empty, filled}
use Rattle.epoch_laws.specs.declared.heap.access.Access.TheVariants.{Place, Read, Leave, Point}
use Rattle.epoch_laws.specs.declared.heap.access.AccessAnswer.TheVariants.{Unit as UnitAnswer, Name as NameAnswer}
use Rattle.epoch_laws.specs.declared.heap.access.AccessAnswer.TheVariants.{Value, Pointer, Exchanged}
use Rattle.epoch_laws.specs.declared.heap.access.Change.TheVariants.{Store}
use Rattle.epoch_laws.specs.declared.heap.access.Ptr.{Ptr}
use Rattle.epoch_laws.specs.declared.heap.access.Spot.TheVariants.{Root, Field}
use Rattle.epoch_laws.specs.Heap.{Cell, Heap, null, nulls}
use Rattle.epoch_laws.specs.declared.step.Progress.TheVariants.{Idle}
use Rattle.epoch_laws.specs.Run.{State, seat_of, free_seat, IsFresh}
use Rattle.epoch_structure_laws.specs.declared.plan.Plan.{Plan}
use Rattle.epoch_structure_laws.specs.declared.plan.Plan.TheVariants.{NoPlan, Under}
use Rattle.epoch_structure_laws.specs.Plans.{AllPlans}
use Rattle.epoch_structure_laws.proofs.ToldRuns.{ToLast, answering, asking, by_access, by_pin, by_removal, holds}
use Rattle.epoch_structure_laws.proofs.ToldRuns.{lone_plans, no_more, no_plans}
use Rattle.epoch_laws.proofs.LoneWorld.{sizes, lone_world, name}
use Rattle.epoch_structure_laws.specs.declared.map.plan.Aim.{Aim}
use Rattle.epoch_structure_laws.specs.declared.map.plan.Aim.TheVariants.{ToInsert, ToRemove, ToGet}
use Rattle.epoch_structure_laws.specs.declared.map.plan.MapAnswer.TheVariants.{Inserted, Removed, Found, NotFound}
use Rattle.epoch_structure_laws.specs.declared.map.plan.MapPhase.{MapPhase}
use Rattle.epoch_structure_laws.specs.declared.map.plan.MapPhase.TheVariants.{Placing, LoadingFirst, Reading, Leaving}
use Rattle.epoch_structure_laws.specs.declared.map.plan.MapPhase.TheVariants.{LoadingNext, Linking, Inserting, Marking}
use Rattle.epoch_structure_laws.specs.declared.map.plan.MapPhase.TheVariants.{Dropping, Removing, Answering}
use Rattle.epoch_structure_laws.specs.MapProgram.{node_key, plain, marked, map_load, map_exchange, map, MapStarts}
use Rattle.epoch_structure_laws.specs.MapProgram.{MapLog, MapRuns, IsNewMap}
use Rattle.epoch_structure_laws.specs.MapAnswers.{map_answers_in}

-- THE STATES

-- a world of one cell, with one bucket
abbrev heap : Ptr → Cell → Heap
heap first cell = record { roots = first ∷ []; cells = cell ∷ []; fields = 1; align = 2; start_turn = 0 }

-- the value 7 under key 1
abbrev entry : ℕ
entry = 4294967303

-- the node, its next and its readers
abbrev node : Ptr → ℕ → Cell
node next readers = filled 0 readers (record { value = entry; fields = next ∷ nulls 15 })

abbrev to_node : Ptr
to_node = plain (Some name)

abbrev none_placed : Heap
none_placed = heap null (empty 0)

abbrev off_map : Heap
off_map = heap null (node null 0)

abbrev in_map : Heap
in_map = heap to_node (node null 0)

abbrev in_reading : Heap
in_reading = heap to_node (node null 1)

abbrev marked_heap : Heap
marked_heap = heap to_node (node (marked None) 0)

abbrev dropped_heap : Heap
dropped_heap = heap null (node (marked None) 0)

abbrev fresh : State
fresh = lone_world 0 (free_seat sizes) 0 none_placed

abbrev pinned : Heap → State
pinned heap = holds None Idle heap []

abbrev removed : State
removed = holds (Some name) Idle dropped_heap []

-- THE RUN

-- from this state, with this plan, to the last one
abbrev Goes : State → Plan MapPhase → Type 0
Goes from plan = ToLast map MapStarts removed from plan

abbrev aim : Aim
aim = ToInsert 0 entry name

-- it inserts the entry
abbrev by_insert : Goes (pinned in_map) NoPlan → Goes (pinned none_placed) NoPlan
by_insert rest =
    (asking None none_placed (Placing 0 entry 1) tt
    (by_access None (Placing 0 entry 1) (Place entry) (NameAnswer name) none_placed off_map []
    (λ o. o) (refl, refl) (inl ((refl, omega arith), name, refl, refl, refl))
    (by_access None (LoadingFirst aim 0) (map_load 0 (Root 0)) (Pointer null) off_map off_map []
    (λ o. o) (refl, refl) refl
    (by_access None (Linking 0 entry name (Root 0) None 0) (Point (Some 0) (Field name 0) (Store (plain None)))
    UnitAnswer off_map off_map [] (λ o. o) (refl, refl) refl
    (by_access None (Inserting 0 entry name (Root 0) None 0) (map_exchange 0 (Root 0) (plain None) to_node)
    (Exchanged to_node) off_map in_map [] (λ o. o) (refl, refl) (inl (refl, refl))
    (answering (Answering Inserted) Inserted refl
    rest))))))

-- it looks for key 0, and reads the entry of the higher key
abbrev by_lower_key : Goes (pinned in_map) NoPlan → Goes (pinned in_map) NoPlan
unfolding node_key
by_lower_key rest =
    (asking None in_map (LoadingFirst (ToGet 0 0) 1) tt
    (by_access None (LoadingFirst (ToGet 0 0) 1) (map_load 0 (Root 0)) (Pointer to_node) in_map in_map []
    (λ o. o) (refl, refl) refl
    (by_access None (Reading (ToGet 0 0) (Root 0) name 0) (Read (Some 0) to_node) (Value entry) in_map in_reading []
    (λ o. o) (refl, refl) refl
    (by_access None (Leaving (ToGet 0 0) (Root 0) name entry 0) (Leave to_node) UnitAnswer in_reading in_map (name ∷ [])
    (λ o. o) (refl, refl) refl
    (answering (Answering NotFound) NotFound refl
    rest)))))

-- it looks for key 1, and finds the entry
abbrev by_key : Goes (pinned in_map) NoPlan → Goes (pinned in_map) NoPlan
unfolding node_key
by_key rest =
    (asking None in_map (LoadingFirst (ToGet 0 1) 1) tt
    (by_access None (LoadingFirst (ToGet 0 1) 1) (map_load 0 (Root 0)) (Pointer to_node) in_map in_map []
    (λ o. o) (refl, refl) refl
    (by_access None (Reading (ToGet 0 1) (Root 0) name 0) (Read (Some 0) to_node) (Value entry) in_map in_reading []
    (λ o. o) (refl, refl) refl
    (by_access None (Leaving (ToGet 0 1) (Root 0) name entry 0) (Leave to_node) UnitAnswer in_reading in_map (name ∷ [])
    (λ o. o) (refl, refl) refl
    (by_access None (LoadingNext (ToGet 0 1) (Root 0) name entry 0) (map_load 0 (Field name 0)) (Pointer null) in_map
    in_map [] (λ o. o) (refl, refl) refl
    (answering (Answering (Found entry)) (Found entry) refl
    rest))))))

-- it begins to remove the entry, and finds its node
abbrev by_find : Goes (pinned in_map) (Under 0 (Marking 0 1 (Root 0) name entry None 0) false)
    → Goes (pinned in_map) NoPlan
unfolding node_key
by_find rest =
    (asking None in_map (LoadingFirst (ToRemove 0 1) 1) tt
    (by_access None (LoadingFirst (ToRemove 0 1) 1) (map_load 0 (Root 0)) (Pointer to_node) in_map in_map []
    (λ o. o) (refl, refl) refl
    (by_access None (Reading (ToRemove 0 1) (Root 0) name 0) (Read (Some 0) to_node) (Value entry) in_map in_reading []
    (λ o. o) (refl, refl) refl
    (by_access None (Leaving (ToRemove 0 1) (Root 0) name entry 0) (Leave to_node) UnitAnswer in_reading in_map
    (name ∷ []) (λ o. o) (refl, refl) refl
    (by_access None (LoadingNext (ToRemove 0 1) (Root 0) name entry 0) (map_load 0 (Field name 0)) (Pointer null) in_map
    in_map [] (λ o. o) (refl, refl) refl
    rest)))))

-- it marks the node, unlinks it, and defers its removal
abbrev by_remove : Goes removed NoPlan → Goes (pinned in_map) (Under 0 (Marking 0 1 (Root 0) name entry None 0) false)
by_remove rest =
    (by_access None (Marking 0 1 (Root 0) name entry None 0) (map_exchange 0 (Field name 0) (plain None) (marked None))
    (Exchanged (marked None)) in_map marked_heap [] (λ o. o) (refl, refl) (inl (refl, refl))
    (by_access None (Dropping 0 1 (Root 0) name entry None) (map_exchange 0 (Root 0) to_node (plain None))
    (Exchanged (plain None)) marked_heap dropped_heap [] (λ o. o) (refl, refl) (inl (refl, refl))
    (by_removal (Removing name entry) name dropped_heap (λ o. o) (refl, refl)
    (answering (Answering (Removed entry)) (Removed entry) refl
    rest))))

-- it looks for key 1 in vain
abbrev finds_none : Goes removed NoPlan
finds_none =
    (asking (Some name) dropped_heap (LoadingFirst (ToGet 0 1) 1) tt
    (by_access (Some name) (LoadingFirst (ToGet 0 1) 1) (map_load 0 (Root 0)) (Pointer null) dropped_heap dropped_heap
    [] (λ o. o) (refl, refl) refl
    (answering (Answering NotFound) NotFound refl
    no_more)))

abbrev told : Goes fresh NoPlan
unfolding node_key
told = by_pin none_placed (by_insert (by_lower_key (by_key (by_find (by_remove finds_none)))))

world_fresh : IsFresh fresh
world_fresh = record {
  sized = refl;
  in_range = record {
    positions = omega arith;
    bag_jobs = (omega arith, omega arith);
    collect_bags = (omega arith, omega arith);
  };
  free = free;
  none_queued = refl;
  no_tickets = refl;
  open_end = refl;
  null_roots = null_roots;
  empty_cells = empty_cells;
}
  where
    free : (p : ℕ) → seat_of fresh p ≡ free_seat sizes
    free zero = refl
    free (suc p) = refl

    null_roots : (i : ℕ) (ptr : Ptr) → slice_get (null ∷ []) i ≡ Some ptr → ptr ≡ null
    null_roots zero ptr e = cc
    null_roots (suc i) ptr e = absurd (cc)

    empty_cells : (k : ℕ) (cell : Cell) → slice_get (empty 0 ∷ []) k ≡ Some cell → cell ≡ empty 0
    empty_cells zero cell e = cc
    empty_cells (suc k) cell e = absurd (cc)

new : IsNewMap fresh (lone_plans NoPlan)
new = record { fresh = world_fresh; marks = omega arith; no_plans = no_plans }

-- some run of a new map inserts an entry, misses a lower key, finds the entry, removes it, and then misses it
pub some_map_run_inserts_and_removes : (world : State) × (plans : AllPlans MapPhase) × (log : MapLog)
    × (world' : State) × (plans' : AllPlans MapPhase) × IsNewMap world plans × MapRuns world plans log world' plans'
    × (map_answers_in log ≡ Inserted ∷ NotFound ∷ Found 4294967303 ∷ Removed 4294967303 ∷ NotFound ∷ [])
unfolding node_key
some_map_run_inserts_and_removes =
    (fresh, lone_plans NoPlan, told.log, removed, lone_plans NoPlan, new, told.run, refl)
