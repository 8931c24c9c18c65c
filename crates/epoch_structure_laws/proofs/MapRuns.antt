-- Whole runs of a map, from a fresh world on.
use Rattle.std.proofs.Common.{◌≡◌, ◌≢◌, ℕ, suc, List, [], Option, Some, None, inl, inr, refl, ap, sym, subst, ◌∙◌}
use Rattle.std.proofs.Common.{slice_get, ◌-◌}
use Rattle.epoch_cells.specs.PlainCells.{if_has}
use Rattle.epoch_cells.specs.declared.cells.name.Name.{Name}
use Rattle.epoch_laws.specs.declared.heap.access.Ptr.{Ptr}
use Rattle.epoch_laws.specs.declared.heap.access.Spot.TheVariants.{Root, Field}
use Rattle.epoch_laws.specs.Heap.{Cell, null, field_in, pointer_at}
use Rattle.epoch_laws.specs.declared.step.Entry.{Entry}
use Rattle.epoch_laws.specs.Run.{WorldSeat, State, seat_of, TakesStep, IsFresh}
use Rattle.epoch_laws.specs.Reach.{Leads, IsReachable, from_root, from_field, no_past, past_of, LeavesOnce}
use Rattle.epoch_laws.specs.Reach.{KeepsLoaded}
use Rattle.epoch_laws.proofs.JobsAsDeferred.{fresh_jobs}
use Rattle.epoch_laws.proofs.ReachRuns.{every_run_keeps_reach}
use Rattle.epoch_laws.proofs.Linked.{fresh_linked}
use Rattle.epoch_structure_laws.specs.declared.plan.Plan.{Plan}
use Rattle.epoch_structure_laws.specs.Plans.{AllPlans, world_log, run_of_world}
use Rattle.epoch_structure_laws.proofs.Cells.{none_at}
use Rattle.epoch_structure_laws.proofs.Custody.{Tied, now_of, Sound, StandsNow, OwnsNow}
use Rattle.epoch_structure_laws.proofs.Runs.{runs_leave}
use Rattle.epoch_structure_laws.proofs.RunsSound.{runs_sound}
use Rattle.epoch_structure_laws.specs.declared.map.plan.MapPhase.{MapPhase}
use Rattle.epoch_structure_laws.specs.MapProgram.{map, MapStarts, MapLog, MapRuns, IsNewMap}
use Rattle.epoch_structure_laws.specs.MapEntries.{Item, Rooted, BucketHolds, Ascends, MapHolds, Has, Lacks}
use Rattle.epoch_structure_laws.specs.MapEntries.{StepOnEntries}
use Rattle.epoch_structure_laws.specs.MapEntries.{FindsNoEntry}
use Rattle.epoch_structure_laws.specs.MapEntries.{FindsEntry}
use Rattle.epoch_structure_laws.proofs.MapKept.{structure}
use Rattle.epoch_structure_laws.proofs.MapTouches.{map_obeys}
use Rattle.epoch_structure_laws.proofs.MapTurns.{step_on_entries, finds_none, finds_entry}

-- nothing stands in a fresh world's cells
no_field : (s : State) → IsFresh s → (n : Name) (f : ℕ) (ptr : Ptr) → pointer_at s.heap (Field n f) ≢ Some ptr
no_field s fresh n f ptr e = by_cell (slice_get s.heap.cells (n.slot - 1)) refl e
  where
    by_cell : (o : Option Cell) → slice_get s.heap.cells (n.slot - 1) ≡ o → field_in (if_has n.turn o) f ≢ Some ptr
    by_cell None there h = cc (h)
    by_cell (Some c) there h = none_at s.heap.start_turn n.turn f ptr
        (ap (λ (c : Cell). field_in (if_has n.turn (Some c)) f) (sym (fresh.empty_cells (n.slot - 1) c there)) ∙ h)

-- the roots of a fresh world are null
no_root : (s : State) → IsFresh s → (i : ℕ) (x : Name) → ¬ (Leads s.heap (Root i) x)
no_root s fresh i x (ptr, entry, name) =
    let none : ptr ≡ null = fresh.null_roots i ptr entry in
    let both : None ≡ Some x = sym (ap (λ (q : Ptr). q.name) none) ∙ name in cc (both)

-- so nothing is in reach
no_reach : (s : State) → IsFresh s → (n : Name) → ¬ (IsReachable s.heap n)
no_reach s fresh n (from_root i _ leads) = no_root s fresh i n leads
no_reach s fresh n (from_field y f _ r leads) = no_reach s fresh y r

-- and each bucket is empty
pub empty_bucket : (s : State) → IsFresh s → (i : ℕ) → BucketHolds s.heap i []
empty_bucket s fresh i = (None, by_root (pointer_at s.heap (Root i)) refl, refl)
  where
    by_root : (o : Option Ptr) → pointer_at s.heap (Root i) ≡ o
        → Rooted s.heap i None
    by_root None there = inr (there, refl)
    by_root (Some ptr) there = inl (there ∙ ap Some (fresh.null_roots i ptr there))

-- a new map holds what is to be kept
pub new_sound : (world : State) (plans : AllPlans MapPhase) → IsNewMap world plans
    → Sound map structure no_past world plans
new_sound world plans new = record {
  ghost = λ i. [];
  shape = record {
    form = record {
      held = λ i. empty_bucket world new.fresh i;
      sorted = λ i. tt;
      apart = λ i j n there. absurd there;
      single = λ y f x leads. no_field world new.fresh y (suc f) leads.0 leads.1;
      marks = new.marks;
    };
    known = λ n there. absurd there.1;
    live = λ n next r. absurd r;
  };
  linked = fresh_linked world new.fresh;
  jobs = λ job there n e. absurd (((fresh_jobs world new.fresh).jobs job there).1.removed n e);
  ties = λ p. subst (λ (l : Plan MapPhase). Tied map l (seat_of world p)) (sym (new.no_plans p))
      (inl (inl (ap (λ (st : WorldSeat). st.progress) (new.fresh.free p))));
  stands = λ p. subst
      (λ (l : Plan MapPhase). StandsNow map structure no_past world.heap (λ i. []) (now_of map l (seat_of world p)))
      (sym (new.no_plans p)) tt;
  apart = λ p q n ne a b. absurd (subst
      (λ (l : Plan MapPhase). OwnsNow map structure (now_of map l (seat_of world p)) n) (new.no_plans p) a);
  left_out = λ n l. absurd l;
  left_given = λ n l. absurd l;
  seen = λ n r. absurd (no_reach world new.fresh n r);
  reached_given = λ n r. absurd r;
}

-- cells leave a map as they must
pub every_map_run_leaves_cells_once : (world world' : State) (plans plans' : AllPlans MapPhase) (log : MapLog)
    → IsNewMap world plans → (run : MapRuns world plans log world' plans')
    → LeavesOnce world (world_log log) world' (run_of_world map MapStarts world plans log world' plans' run)
every_map_run_leaves_cells_once world world' plans plans' log new run =
    runs_leave map structure MapStarts map_obeys no_past world plans log world' plans' (new_sound world plans new) run

-- so no cell that a guard has loaded is destroyed while the guard is held
pub every_map_run_keeps_reach : (world world' : State) (plans plans' : AllPlans MapPhase) (log : MapLog)
    → IsNewMap world plans → (run : MapRuns world plans log world' plans')
    → KeepsLoaded (past_of world (world_log log) world' (run_of_world map MapStarts world plans log world' plans' run))
every_map_run_keeps_reach world world' plans plans' log new run =
    every_run_keeps_reach world world' (world_log log) new.fresh
    (run_of_world map MapStarts world plans log world' plans' run)
    (every_map_run_leaves_cells_once world world' plans plans' log new run)

-- a new map is empty, and at the end of each run its buckets are lists of ascending keys
pub every_map_run_holds_sorted_lists : (world world' : State) (plans plans' : AllPlans MapPhase) (log : MapLog)
    → IsNewMap world plans → MapRuns world plans log world' plans' → (i : ℕ)
    → MapHolds world.heap i [] × ((xs : List Item) × BucketHolds world'.heap i xs × Ascends 0 xs)
every_map_run_holds_sorted_lists world world' plans plans' log new run i =
    let last = runs_sound map structure MapStarts map_obeys no_past world plans log world' plans'
    (new_sound world plans new) run in (
      ([], empty_bucket world new.fresh i, refl),
      (last.1.ghost i, last.1.shape.form.held i, last.1.shape.form.sorted i),
    )

-- each step changes its bucket as its phase says, and a call that finds an entry, or none, finds what the bucket
-- holds
pub every_map_run_is_a_map : (world world' new : State) (plans plans' : AllPlans MapPhase) (log : MapLog)
    (x : Entry) → IsNewMap world plans → MapRuns world plans log world' plans'
    → TakesStep world' x.step x.reply new → (i : ℕ) (vs : List ℕ) → MapHolds world'.heap i vs
    → StepOnEntries world' plans' x new i vs × ((key : ℕ) → FindsNoEntry world' plans' x new i key → Lacks key vs)
    × ((v : ℕ) → FindsEntry world' plans' x new i v → Has v vs)
every_map_run_is_a_map world world' new plans plans' log x fresh run takes i vs holds =
    let last = runs_sound map structure MapStarts map_obeys no_past world plans log world' plans'
    (new_sound world plans fresh) run in (
      step_on_entries last.0 world' new plans' x last.1 takes i vs holds,
      finds_none last.0 world' new plans' x last.1 takes i vs holds,
      finds_entry last.0 world' new plans' x last.1 takes i vs holds,
    )
