-- Whole runs of a queue, from a fresh world on.
use Rattle.std.proofs.Common.{◌≡◌, ◌≢◌, ℕ, suc, List, [], Option, Some, None, inl, refl, ap, sym, subst, ◌∙◌, slice_get}
use Rattle.std.proofs.Common.{◌-◌}
use Rattle.epoch_cells.specs.PlainCells.{if_has}
use Rattle.epoch_cells.specs.declared.cells.name.Name.{Name}
use Rattle.epoch_laws.specs.declared.heap.access.Ptr.{Ptr}
use Rattle.epoch_laws.specs.declared.heap.access.Spot.TheVariants.{Root, Field}
use Rattle.epoch_laws.specs.Heap.{Cell, null, field_in, pointer_at}
use Rattle.epoch_laws.specs.declared.step.Entry.{Entry}
use Rattle.epoch_laws.specs.Run.{WorldSeat, State, seat_of, TakesStep, IsFresh}
use Rattle.epoch_laws.specs.Reach.{Leads, IsReachable, from_root, from_field, no_past, past_of, LeavesOnce, KeepsLoaded}
use Rattle.epoch_laws.proofs.JobsAsDeferred.{fresh_jobs}
use Rattle.epoch_laws.proofs.ReachRuns.{every_run_keeps_reach}
use Rattle.epoch_laws.proofs.Linked.{fresh_linked}
use Rattle.epoch_structure_laws.specs.declared.plan.Plan.{Plan}
use Rattle.epoch_structure_laws.specs.Plans.{AllPlans, world_log, run_of_world}
use Rattle.epoch_structure_laws.specs.declared.queue.plan.QueuePhase.{QueuePhase}
use Rattle.epoch_structure_laws.specs.QueueProgram.{queue, QueueStarts, QueueLog, QueueRuns, IsNewQueue}
use Rattle.epoch_structure_laws.specs.QueueValues.{QueueHolds, StepOnValues, FindsNoValue}
use Rattle.epoch_structure_laws.proofs.Cells.{none_at}
use Rattle.epoch_structure_laws.proofs.Custody.{Tied, now_of, Sound, StandsNow, OwnsNow}
use Rattle.epoch_structure_laws.proofs.QueueKept.{structure}
use Rattle.epoch_structure_laws.proofs.QueueTouches.{queue_obeys}
use Rattle.epoch_structure_laws.proofs.QueueLists.{holds_some}
use Rattle.epoch_structure_laws.proofs.QueueTurns.{step_on_values, finds_none}
use Rattle.epoch_structure_laws.proofs.Runs.{runs_leave}
use Rattle.epoch_structure_laws.proofs.RunsSound.{runs_sound}

-- nothing stands in a fresh world's cells
pub no_field : (s : State) → IsFresh s → (n : Name) (f : ℕ) (ptr : Ptr) → pointer_at s.heap (Field n f) ≢ Some ptr
no_field s fresh n f ptr e = by_cell (slice_get s.heap.cells (n.slot - 1)) refl e
  where
    by_cell : (o : Option Cell) → slice_get s.heap.cells (n.slot - 1) ≡ o → field_in (if_has n.turn o) f ≢ Some ptr
    by_cell None there h = cc (h)
    by_cell (Some c) there h = none_at s.heap.start_turn n.turn f ptr
        (ap (λ (c : Cell). field_in (if_has n.turn (Some c)) f) (sym (fresh.empty_cells (n.slot - 1) c there)) ∙ h)

-- the roots of a fresh world are null
pub no_root : (s : State) → IsFresh s → (i : ℕ) (x : Name) → ¬ (Leads s.heap (Root i) x)
no_root s fresh i x (ptr, entry, name) =
    let none : ptr ≡ null = fresh.null_roots i ptr entry in
    let both : None ≡ Some x = sym (ap (λ (q : Ptr). q.name) none) ∙ name in cc (both)

-- so nothing is in reach
pub no_reach : (s : State) → IsFresh s → (n : Name) → ¬ (IsReachable s.heap n)
no_reach s fresh n (from_root i _ leads) = no_root s fresh i n leads
no_reach s fresh n (from_field y f _ r leads) = no_reach s fresh y r

-- a new queue holds what is to be kept
pub new_sound : (world : State) (plans : AllPlans QueuePhase) → IsNewQueue world plans
    → Sound queue structure no_past world plans
new_sound world plans new = record {
  ghost = [];
  shape = record {
    form = record {
      head = None;
      rooted = ap (λ (rs : List Ptr). slice_get rs 0) new.two_roots;
      last = None;
      tailed = ap (λ (rs : List Ptr). slice_get rs 1) new.two_roots;
      two = λ i x leads. no_root world new.fresh (suc (suc i)) x leads;
      single = λ y f x leads. no_field world new.fresh y (suc f) leads.0 leads.1;
      chain = refl;
      near = λ t e. absurd (cc (e));
      bare = λ e n there. absurd there;
    };
    known = λ n there. absurd there;
    tail_known = λ t e. absurd (cc (e));
    shut = λ n r. absurd r;
    plain = λ n ptr r. absurd r;
  };
  linked = fresh_linked world new.fresh;
  jobs = λ job there n e. absurd (((fresh_jobs world new.fresh).jobs job there).1.removed n e);
  ties = λ p. subst (λ (l : Plan QueuePhase). Tied queue l (seat_of world p)) (sym (new.no_plans p))
      (inl (inl (ap (λ (st : WorldSeat). st.progress) (new.fresh.free p))));
  stands = λ p. subst
      (λ (l : Plan QueuePhase). StandsNow queue structure no_past world.heap [] (now_of queue l (seat_of world p)))
      (sym (new.no_plans p)) tt;
  apart = λ p q n ne a b. absurd (subst
      (λ (l : Plan QueuePhase). OwnsNow queue structure (now_of queue l (seat_of world p)) n) (new.no_plans p) a);
  left_out = λ n l. absurd l;
  left_given = λ n l. absurd l;
  seen = λ n r. absurd (no_reach world new.fresh n r);
  reached_given = λ n r. absurd r;
}

-- cells leave a queue as they must
pub every_queue_run_leaves_cells_once : (world world' : State) (plans plans' : AllPlans QueuePhase) (log : QueueLog)
    → IsNewQueue world plans → (run : QueueRuns world plans log world' plans')
    → LeavesOnce world (world_log log) world' (run_of_world queue QueueStarts world plans log world' plans' run)
every_queue_run_leaves_cells_once world world' plans plans' log new run =
    runs_leave queue structure QueueStarts queue_obeys no_past world plans log world' plans' (new_sound world plans new)
    run

-- so no cell that a guard has loaded is destroyed while the guard is held
pub every_queue_run_keeps_reach : (world world' : State) (plans plans' : AllPlans QueuePhase) (log : QueueLog)
    → IsNewQueue world plans → (run : QueueRuns world plans log world' plans')
    → KeepsLoaded
    (past_of world (world_log log) world' (run_of_world queue QueueStarts world plans log world' plans' run))
every_queue_run_keeps_reach world world' plans plans' log new run =
    every_run_keeps_reach world world' (world_log log) new.fresh
    (run_of_world queue QueueStarts world plans log world' plans' run)
    (every_queue_run_leaves_cells_once world world' plans plans' log new run)

-- a new queue is empty, and at the end of each run it holds some list
pub every_queue_run_holds_a_list : (world world' : State) (plans plans' : AllPlans QueuePhase) (log : QueueLog)
    → IsNewQueue world plans → QueueRuns world plans log world' plans'
    → QueueHolds world.heap [] × ((vs : List ℕ) × QueueHolds world'.heap vs)
every_queue_run_holds_a_list world world' plans plans' log new run =
    let last = runs_sound queue structure QueueStarts queue_obeys no_past world plans log world' plans'
    (new_sound world plans new) run in (
      (None, ap (λ (rs : List Ptr). slice_get rs 0) new.two_roots, refl),
      holds_some world'.heap last.1.ghost last.1.shape.form,
    )

-- each step changes the list as its phase says, and a pop that finds nothing finds an empty list
pub every_queue_run_is_a_queue : (world world' new : State) (plans plans' : AllPlans QueuePhase) (log : QueueLog)
    (x : Entry) → IsNewQueue world plans → QueueRuns world plans log world' plans'
    → TakesStep world' x.step x.reply new → (vs : List ℕ) → QueueHolds world'.heap vs
    → StepOnValues world' plans' x new vs × (FindsNoValue world' plans' x new → vs ≡ [])
every_queue_run_is_a_queue world world' new plans plans' log x fresh run takes vs holds =
    let last = runs_sound queue structure QueueStarts queue_obeys no_past world plans log world' plans'
    (new_sound world plans fresh) run in (
      step_on_values last.0 world' new plans' x last.1 takes vs holds,
      finds_none last.0 world' new plans' x last.1 takes vs holds,
    )
