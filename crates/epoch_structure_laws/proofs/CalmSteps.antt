-- What a step leaves as it was at which no call on cells and pointers goes on, and which names its jobs remove.
use Rattle.std.proofs.Common.{◌≡◌, ◌≢◌, ℕ, ◌+◌, ◌==◌, Bool, true, false, Option, Some, None}
use Rattle.std.proofs.Common.{inl, inr, refl, ap, sym, subst, ◌∙◌, if◌then◌else◌}
use Rattle.epoch_cells.specs.PlainCells.{empty, removal_of}
use Rattle.epoch_cells.specs.declared.cells.name.Name.{Name}
use Rattle.epoch_cells.specs.declared.cells.Removal.TheVariants.{Destroyed, HeldElsewhere}
use Rattle.epoch_laws.specs.declared.heap.access.Access.{Access}
use Rattle.epoch_laws.specs.declared.step.Call.TheVariants.{DeferDestroy}
use Rattle.epoch_laws.specs.declared.step.Entry.{Entry}
use Rattle.epoch_laws.specs.declared.step.Progress.{Progress}
use Rattle.epoch_laws.specs.declared.step.Progress.TheVariants.{Driven, CallsNow, Accesses}
use Rattle.epoch_laws.specs.declared.heap.access.Ptr.{Ptr}
use Rattle.epoch_laws.specs.declared.step.Reply.{Reply}
use Rattle.epoch_laws.specs.declared.step.Reply.TheVariants.{Deferred}
use Rattle.epoch_laws.specs.declared.step.Step.{Step}
use Rattle.epoch_laws.specs.declared.step.Step.TheVariants.{Go}
use Rattle.epoch_laws.specs.Heap.{Cell, Heap, cell_at, without_cell, heap_after_job}
use Rattle.epoch_laws.specs.Run.{State, seat_of, removed_by}
use Rattle.epoch_laws.specs.Reach.{DefersRemoval, Past, past_after}
use Rattle.epoch_laws.proofs.TurnsGiven.{StaysGiven, given_job}
use Rattle.epoch_laws.proofs.HeapSteps.{HeapGoes}
use Rattle.epoch_laws.proofs.JobsAsDeferred.{JobsGo}
use Rattle.epoch_structure_laws.proofs.Cells.{same_name, cell_kept, back_written, none_at}
use Rattle.epoch_structure_laws.proofs.Custody.{AllLeft, Calm, calm_same}
use Rattle.epoch_laws.proofs.PointerSteps.{Fewer}
use Rattle.epoch_laws.proofs.PointersChanged.{fewer_job}

-- CELLS

-- a removal of what has left
calm_removed : (left : Name → Type 0) (h : Heap) (n : Name) (o : Option Cell) → left n → cell_at h n ≡ o
    → StaysGiven h (without_cell h n (removal_of o)) → Fewer h (without_cell h n (removal_of o))
    → Calm left h (without_cell h n (removal_of o))
calm_removed left h n None l e given fewer = calm_same left h h refl
calm_removed left h n (Some c) l e given fewer = by_test (c.readers == 0) given fewer
  where
    by_test : (b : Bool) → StaysGiven h (without_cell h n (if b then Destroyed else HeldElsewhere))
        → Fewer h (without_cell h n (if b then Destroyed else HeldElsewhere))
        → Calm left h (without_cell h n (if b then Destroyed else HeldElsewhere))
    by_test false given fewer = calm_same left h h refl
    by_test true given fewer = record {
      roots = refl;
      fields = refl;
      align = refl;
      kept = λ m d content stays here value. elim (same_name m n) [
        | inl s ↦ absurd (stays (subst left (sym s) l))
        | inr ne ↦ (d, cell_kept h n c (empty (n.turn + 1)) m d e ne here, value)
      ];
      back = λ m f ptr g there. back_written h n (empty (n.turn + 1)) m f ptr
          (λ turn other at. absurd (none_at (n.turn + 1) turn f other at)) there;
      fewer = fewer;
      given = given;
    }

-- the call of a job whose name has left
calm_job : (left : Name → Type 0) (h : Heap) (job : Option Name) → ((x : Name) → job ≡ Some x → left x)
    → Calm left h (heap_after_job h job)
calm_job left h None l = calm_same left h h refl
calm_job left h (Some n) l =
    calm_removed left h n (cell_at h n) (l n refl) refl (given_job h (Some n)) (fewer_job h (Some n))

-- a step at which no cell is removed at once and no call on cells goes on
pub calm_step : (left : Name → Type 0) (old new : State) (step : Step) (reply : Reply) → AllLeft left old
    → JobsGo old new step reply
    → ((who : ℕ) (removes : Option Name) → step ≡ Go who
    → (seat_of old who).progress ≡ CallsNow removes → removes ≡ None)
    → ((who : ℕ) (a : Access) (k : ℕ) (found : Ptr) → step ≡ Go who → (seat_of old who).progress ≢ Accesses a k found)
    → HeapGoes old new step reply → Calm left old.heap new.heap
calm_step left old new step reply jobs go no_now no_access (inl e) = calm_same left old.heap new.heap e
calm_step left old new step reply jobs go no_now no_access (inr (inl calls)) =
    let one = go.called calls.ticket calls.how calls.told in
    subst (Calm left old.heap) (sym one.heap)
    (calm_job left old.heap one.job.removes (λ x e. jobs one.job one.there x e))
calm_step left old new step reply jobs go no_now no_access (inr (inr (inl now))) =
    calm_same left old.heap new.heap
    (now.heap ∙ ap (heap_after_job old.heap) (no_now now.who now.removes now.goes now.progress))
calm_step left old new step reply jobs go no_now no_access (inr (inr (inr access))) =
    absurd (no_access access.who access.call access.steps access.found access.goes access.progress)

-- JOBS

-- a job that is kept removes the name of the deferral under way
new_job : (old : State) (x : Entry) (who : ℕ) (progress : Progress) (n : Name) → x.step ≡ Go who
    → x.reply ≡ Deferred old.tickets → (seat_of old who).progress ≡ progress → removed_by progress ≡ Some n
    → DefersRemoval old x old.tickets n
new_job old x who (Driven (DeferDestroy g ptr)) n on told is e =
    record { who = who; step = on; reply = told; guard = g; pointer = ptr; name = e; progress = is }
new_job old x who _ n on told is e = absurd (cc (e))

-- what is in a bag has left
pub jobs_left : (past : Past) (old new aside : State) (x : Entry) → AllLeft past.left old
    → JobsGo old aside x.step x.reply → AllLeft (past_after past old x new).left aside
jobs_left past old new aside x jobs go job at n e = elim (go.jobs job at) [
  | inl was ↦ inl (jobs job was n e)
  | inr new ↦ inr (inl (
    old.tickets,
    new_job old x new.who (seat_of old new.who).progress n new.goes new.deferred refl (sym new.removes ∙ e),
  ))
]
