-- One run of a queue, told as a flat list: a participant pins, builds the queue, pushes 7, pops 7 and finds it empty.
use Rattle.std.proofs.Common.{◌≡◌, ℕ, zero, suc, false, [], ◌∷◌, Some, None, inl, inr, refl, arith, slice_get}
use Rattle.epoch_cells.specs.PlainCells.{IsFree, empty, filled}
use Rattle.epoch_cells.specs.declared.cells.name.Name.{Name}
use Rattle.epoch_laws.specs.declared.heap.access.Access.TheVariants.{Place, Read, Leave}
use Rattle.epoch_laws.specs.declared.heap.access.AccessAnswer.TheVariants.{Unit as UnitAnswer, Name as NameAnswer}
use Rattle.epoch_laws.specs.declared.heap.access.AccessAnswer.TheVariants.{Value, Pointer, Exchanged}
use Rattle.epoch_laws.specs.declared.heap.access.Ptr.{Ptr}
use Rattle.epoch_laws.specs.declared.heap.access.Spot.TheVariants.{Root, Field}
use Rattle.epoch_laws.specs.Heap.{Cell, Heap, null, nulls}
use Rattle.epoch_laws.specs.declared.step.Progress.TheVariants.{Idle}
use Rattle.epoch_laws.specs.Run.{State, seat_of, free_seat, IsFresh}
use Rattle.epoch_structure_laws.specs.declared.plan.Plan.{Plan}
use Rattle.epoch_structure_laws.specs.declared.plan.Plan.TheVariants.{NoPlan, Under}
use Rattle.epoch_structure_laws.specs.Plans.{AllPlans, ptr_to}
use Rattle.epoch_structure_laws.proofs.ToldRuns.{ToLast, access_answers, access_begins, access_goes, answering, asking}
use Rattle.epoch_structure_laws.proofs.ToldRuns.{by_access, by_pin, by_removal, holds, lone_plans, no_more, no_plans}
use Rattle.epoch_structure_laws.specs.declared.queue.plan.QueueAnswer.TheVariants.{Built, Pushed, Popped, Empty}
use Rattle.epoch_structure_laws.specs.declared.queue.plan.QueuePhase.{QueuePhase}
use Rattle.epoch_structure_laws.specs.declared.queue.plan.QueuePhase.TheVariants.{Founding, Crowning, Seating, Placing}
use Rattle.epoch_structure_laws.specs.declared.queue.plan.QueuePhase.TheVariants.{LoadingTail, LoadingLast, Appending}
use Rattle.epoch_structure_laws.specs.declared.queue.plan.QueuePhase.TheVariants.{Swinging, LoadingHead, LoadingNext}
use Rattle.epoch_structure_laws.specs.declared.queue.plan.QueuePhase.TheVariants.{Reading, Leaving, Taking, LookingBack}
use Rattle.epoch_structure_laws.specs.declared.queue.plan.QueuePhase.TheVariants.{Removing, Answering}
use Rattle.epoch_structure_laws.specs.QueueProgram.{queue_exchange, queue_load, queue, QueueStarts, QueueLog, QueueRuns}
use Rattle.epoch_structure_laws.specs.QueueReplies.{IsUsualQueue, AllQueueAsksReady, queue_answers_in}
use Rattle.epoch_laws.proofs.LoneWorld.{sizes, lone_world}

-- THE STATES

abbrev first_node : Name
first_node = record { turn = 0; slot = 1; some = omega arith; within = omega arith }

abbrev second_node : Name
second_node = record { turn = 0; slot = 2; some = omega arith; within = omega arith }

-- a world of two cells, whose roots are the head and the tail
abbrev heap : Ptr → Ptr → Cell → Cell → Heap
heap head tail one two =
    record { roots = head ∷ tail ∷ []; cells = one ∷ two ∷ []; fields = 1; align = 1; start_turn = 0 }

abbrev none_placed : Heap
none_placed = heap null null (empty 0) (empty 0)

-- the nodes as they come: the value, the next and the readers
abbrev node : ℕ → Ptr → ℕ → Cell
node value next readers = filled 0 readers (record { value = value; fields = next ∷ nulls 15 })

abbrev to_first : Ptr
to_first = ptr_to first_node

abbrev to_second : Ptr
to_second = ptr_to second_node

abbrev founded_heap : Heap
founded_heap = heap null null (node 0 null 0) (empty 0)

abbrev crowned_heap : Heap
crowned_heap = heap to_first null (node 0 null 0) (empty 0)

abbrev built_heap : Heap
built_heap = heap to_first to_first (node 0 null 0) (empty 0)

abbrev placed_heap : Heap
placed_heap = heap to_first to_first (node 0 null 0) (node 7 null 0)

abbrev appended_heap : Heap
appended_heap = heap to_first to_first (node 0 to_second 0) (node 7 null 0)

abbrev pushed_heap : Heap
pushed_heap = heap to_first to_second (node 0 to_second 0) (node 7 null 0)

abbrev read_heap : Heap
read_heap = heap to_first to_second (node 0 to_second 0) (node 7 null 1)

abbrev taken_heap : Heap
taken_heap = heap to_second to_second (node 0 to_second 0) (node 7 null 0)

abbrev fresh : State
fresh = lone_world 0 (free_seat sizes) 0 none_placed

abbrev pinned : Heap → State
pinned heap = holds None Idle heap []

abbrev popped : State
popped = holds (Some first_node) Idle taken_heap []

-- the first cell is not free
is_used : ¬ (IsFree (node 0 null 0))
is_used free = cc (free.0)

-- THE RUN

-- from this state, with this plan, to the last one
abbrev Goes : State → Plan QueuePhase → Type 0
Goes from plan = ToLast queue QueueStarts popped from plan

-- it builds the queue
abbrev by_build : Goes (pinned built_heap) NoPlan → Goes (pinned none_placed) NoPlan
by_build rest =
    (asking None none_placed Founding tt
    (by_access None Founding (Place 0) (NameAnswer first_node) none_placed founded_heap []
    (λ o. o) (refl, refl) (inl ((refl, omega arith), first_node, refl, refl, refl))
    (by_access None (Crowning first_node) (queue_exchange 0 (Root 0) null first_node) (Exchanged to_first) founded_heap
    crowned_heap [] (λ o. o) (refl, refl) (inl (refl, refl))
    (by_access None (Seating first_node) (queue_exchange 0 (Root 1) null first_node) (Exchanged to_first) crowned_heap
    built_heap [] (λ o. o) (refl, refl) (inl (refl, refl))
    (answering (Answering Built) Built refl
    rest)))))

-- it begins to push 7, and places it in the second cell
abbrev by_place : Goes (pinned placed_heap) (Under 0 (LoadingTail second_node 0) false)
    → Goes (pinned built_heap) NoPlan
by_place rest =
    (asking None built_heap (Placing 7 1) tt
    (access_begins None (Placing 7 1) (Place 7) built_heap [] (λ o. o) (refl, refl)
    (access_goes None (Placing 7 1) (Place 7) 0 null null built_heap [] (inr (is_used, refl))
    (access_answers None (Placing 7 1) (Place 7) 1 null (NameAnswer second_node) built_heap placed_heap []
    (inl ((refl, omega arith), second_node, refl, refl, refl))
    rest))))

-- it appends the node, and brings the tail there
abbrev by_append : Goes (pinned pushed_heap) NoPlan
    → Goes (pinned placed_heap) (Under 0 (LoadingTail second_node 0) false)
by_append rest =
    (by_access None (LoadingTail second_node 0) (queue_load 0 (Root 1)) (Pointer to_first) placed_heap placed_heap []
    (λ o. o) (refl, refl) refl
    (by_access None (LoadingLast second_node first_node 0) (queue_load 0 (Field first_node 0)) (Pointer null)
    placed_heap
    placed_heap [] (λ o. o) (refl, refl) refl
    (by_access None (Appending second_node first_node 0) (queue_exchange 0 (Field first_node 0) null second_node)
    (Exchanged to_second) placed_heap appended_heap [] (λ o. o) (refl, refl) (inl (refl, refl))
    (by_access None (Swinging first_node second_node) (queue_exchange 0 (Root 1) to_first second_node)
    (Exchanged to_second) appended_heap pushed_heap [] (λ o. o) (refl, refl) (inl (refl, refl))
    (answering (Answering Pushed) Pushed refl
    rest)))))

-- it begins to pop, and reads the value behind the head
abbrev by_read : Goes (pinned pushed_heap) (Under 0 (Taking first_node second_node 7 0) false)
    → Goes (pinned pushed_heap) NoPlan
by_read rest =
    (asking None pushed_heap (LoadingHead 0) tt
    (by_access None (LoadingHead 0) (queue_load 0 (Root 0)) (Pointer to_first) pushed_heap pushed_heap []
    (λ o. o) (refl, refl) refl
    (by_access None (LoadingNext first_node 0) (queue_load 0 (Field first_node 0)) (Pointer to_second) pushed_heap
    pushed_heap [] (λ o. o) (refl, refl) refl
    (by_access None (Reading first_node second_node 0) (Read (Some 0) to_second) (Value 7) pushed_heap read_heap []
    (λ o. o) (refl, refl) refl
    (by_access None (Leaving first_node second_node 7 0) (Leave to_second) UnitAnswer read_heap pushed_heap
    (second_node ∷ []) (λ o. o) (refl, refl) refl
    rest)))))

-- it takes the head off, defers its removal, and answers 7
abbrev by_take : Goes popped NoPlan → Goes (pinned pushed_heap) (Under 0 (Taking first_node second_node 7 0) false)
by_take rest =
    (by_access None (Taking first_node second_node 7 0) (queue_exchange 0 (Root 0) to_first second_node)
    (Exchanged to_second) pushed_heap taken_heap [] (λ o. o) (refl, refl) (inl (refl, refl))
    (by_access None (LookingBack first_node second_node 7) (queue_load 0 (Root 1)) (Pointer to_second) taken_heap
    taken_heap
    [] (λ o. o) (refl, refl) refl
    (by_removal (Removing first_node 7) first_node taken_heap (λ o. o) (refl, refl)
    (answering (Answering (Popped 7)) (Popped 7) refl
    rest))))

-- it finds the queue empty
abbrev finds_none : Goes popped NoPlan
finds_none =
    (asking (Some first_node) taken_heap (LoadingHead 0) tt
    (by_access (Some first_node) (LoadingHead 0) (queue_load 0 (Root 0)) (Pointer to_second) taken_heap taken_heap []
    (λ o. o) (refl, refl) refl
    (by_access (Some first_node) (LoadingNext second_node 0) (queue_load 0 (Field second_node 0)) (Pointer null)
    taken_heap
    taken_heap [] (λ o. o) (refl, refl) refl
    (answering (Answering Empty) Empty refl
    no_more))))

abbrev told : Goes fresh NoPlan
told = by_pin none_placed (by_build (by_place (by_append (by_read (by_take finds_none)))))

world_fresh : IsFresh fresh
world_fresh = record {
  sized = refl;
  in_range = record {
    positions = omega arith;
    bag_jobs = (omega arith, omega arith);
    collect_bags = (omega arith, omega arith);
  };
  free = free;
  none_queued = refl;
  no_tickets = refl;
  open_end = refl;
  null_roots = null_roots;
  empty_cells = empty_cells;
}
  where
    free : (p : ℕ) → seat_of fresh p ≡ free_seat sizes
    free zero = refl
    free (suc p) = refl

    null_roots : (i : ℕ) (ptr : Ptr) → slice_get (null ∷ null ∷ []) i ≡ Some ptr → ptr ≡ null
    null_roots zero ptr e = cc
    null_roots (suc zero) ptr e = cc
    null_roots (suc (suc i)) ptr e = absurd (cc)

    empty_cells : (k : ℕ) (cell : Cell) → slice_get (empty 0 ∷ empty 0 ∷ []) k ≡ Some cell → cell ≡ empty 0
    empty_cells zero cell e = cc
    empty_cells (suc zero) cell e = cc
    empty_cells (suc (suc k)) cell e = absurd (cc)

usual : IsUsualQueue fresh (lone_plans NoPlan)
usual = record {
  new = record { fresh = world_fresh; two_roots = refl; no_plans = no_plans };
  few = omega arith;
  one_field = refl;
}

-- Some run of a new queue builds it, pushes 7, pops 7 and finds it empty, each asked for by a ready participant.
pub some_queue_run_pushes_and_pops : (world : State) × (plans : AllPlans QueuePhase) × (log : QueueLog)
    × (world' : State)
    × (plans' : AllPlans QueuePhase) × IsUsualQueue world plans × (run : QueueRuns world plans log world' plans')
    × AllQueueAsksReady world plans log world' plans' run
    × (queue_answers_in log ≡ Built ∷ Pushed ∷ Popped 7 ∷ Empty ∷ [])
some_queue_run_pushes_and_pops =
    (fresh, lone_plans NoPlan, told.log, popped, lone_plans NoPlan, usual, told.run, told.ready, refl)
