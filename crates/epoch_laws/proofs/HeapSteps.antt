-- What any step does to cells and pointers: nothing, the call of a job, or a step of a call on them.
use Rattle.std.proofs.Common.{◌≡◌, ◌≢◌, ℕ, Option, Some, None, ◌⊎◌, inl, inr, refl, ap, sym, subst, ◌∙◌}
use Rattle.epoch_cells.specs.declared.cells.name.Name.{Name}
use Rattle.epoch_bags.specs.declared.job.Called.{Called}
use Rattle.epoch_machine.specs.declared.machine.Stage.{Stage}
use Rattle.epoch_machine.specs.declared.machine.Ask.{Ask}
use Rattle.epoch_machine.specs.declared.machine.Ask.TheVariants.{PutBag, TakeBag, CallJob}
use Rattle.epoch_laws.specs.declared.heap.access.Access.{Access}
use Rattle.epoch_laws.specs.declared.step.Call.{Call}
use Rattle.epoch_laws.specs.declared.step.Progress.{Progress}
use Rattle.epoch_laws.specs.declared.step.Progress.TheVariants.{CallsNow, Accesses}
use Rattle.epoch_laws.specs.declared.heap.access.Ptr.{Ptr}
use Rattle.epoch_laws.specs.declared.step.Reply.{Reply}
use Rattle.epoch_laws.specs.declared.step.Reply.TheVariants.{Called as CalledReply, CalledNow, Refused}
use Rattle.epoch_cells.specs.declared.fault.Fault.TheVariants.{NotRegistered}
use Rattle.epoch_laws.specs.declared.step.Step.{Step}
use Rattle.epoch_laws.specs.declared.step.Step.TheVariants.{Go}
use Rattle.epoch_laws.specs.Heap.{outcome_of, heap_after_job, Touched, Touches}
use Rattle.epoch_laws.specs.declared.step.Word.TheVariants.{Free}
use Rattle.epoch_laws.specs.Run.{WorldSeat, State, seat_of, position_word, progress_after}
use Rattle.epoch_laws.specs.Run.{with_seat, accessed_seat, DrivesCall, DoesGo, Moves}
use Rattle.epoch_laws.proofs.StepKinds.{StepKind, MachineStep, JobStep, CellsStep, EndCalls, step_kind}
use Rattle.epoch_laws.proofs.SeatLemmas.{seat_written, seat_there}

-- the job of a ticket is called
pub record CallsJob (old new : State) (reply : Reply) : Type 0 where
  pub ticket : ℕ
  pub how : Called
  pub removes : Option Name
  pub told : reply ≡ CalledReply ticket how
  pub heap : new.heap ≡ heap_after_job old.heap removes

-- a job is called at once
pub record CallsAtOnce (old new : State) (step : Step) (reply : Reply) : Type 0 where
  pub who : ℕ
  pub removes : Option Name
  pub goes : step ≡ Go who
  pub progress : (seat_of old who).progress ≡ CallsNow removes
  pub told : reply ≡ CalledNow (outcome_of old.heap removes)
  pub heap : new.heap ≡ heap_after_job old.heap removes

-- p makes this step of its call on cells and pointers
pub record MakesAccess (old new : State) (p : ℕ) (a : Access) (k : ℕ) (found : Ptr) : Type 0 where
  pub did : Touched
  pub touches : Touches a k found old.heap did
  pub after : (seat_of new p).progress ≡ progress_after a k did.told
  pub heap : new.heap ≡ did.heap

-- somebody makes a step of a call on cells and pointers
pub record AccessStep (old new : State) (step : Step) : Type 0 where
  pub who : ℕ
  pub goes : step ≡ Go who
  pub call : Access
  pub steps : ℕ
  pub found : Ptr
  pub progress : (seat_of old who).progress ≡ Accesses call steps found
  pub makes : MakesAccess old new who call steps found

abbrev pub HeapGoes : State → State → Step → Reply → Type 0
HeapGoes old new step reply =
    (new.heap ≡ old.heap) ⊎ CallsJob old new reply ⊎ CallsAtOnce old new step reply ⊎ AccessStep old new step

module _ (old new : State) (step : Step) (reply : Reply) where
  abbrev Goal : Type 0
  Goal = HeapGoes old new step reply

  along : (last : State) → new ≡ last → last.heap ≡ old.heap → Goal
  along last e is = inl (ap (λ (s : State). s.heap) e ∙ is)

  -- a machine goes on: it calls a job, or leaves cells and pointers as they are
  drives : (p : ℕ) (seat : WorldSeat) (c : Call) (s : Stage) (ask : Option Ask)
      → DrivesCall old p seat c s ask reply new → Goal
  drives p seat c s (Some (PutBag seal)) did = along _ did.4 refl
  drives p seat c s (Some (TakeBag x)) did = along _ did.5 refl
  drives p seat c s (Some CallJob) (job, jobs, hand, told, e) = inr (inl (record {
    ticket = job.ticket;
    how = outcome_of old.heap job.removes;
    removes = job.removes;
    told = told;
    heap = ap (λ (s : State). s.heap) e;
  }))
  drives p seat c s (Some _) did = along _ did.1 refl
  drives p seat c s None did = along _ did.1 refl

-- p makes a step of its call on cells and pointers
accesses : (old : State) (p : ℕ) (a : Access) (k : ℕ) (found : Ptr) (did : Touched) → position_word old p ≢ Free
    → Touches a k found old.heap did
    → MakesAccess old (record (with_seat old p (accessed_seat a k did.told (seat_of old p))) { heap = did.heap }) p a k
    found
accesses old p a k found did taken touches = record {
  did = did;
  touches = touches;
  after = ap (λ (seat : WorldSeat). seat.progress)
      (seat_written old p (accessed_seat a k did.told (seat_of old p)) (seat_there old p taken));
  heap = refl;
}

kind_goes : (old new : State) (step : Step) (reply : Reply) → StepKind old step reply new → HeapGoes old new step reply
kind_goes old _ _ _ (MachineStep p c reply new taken drive did) =
    drives old new (Go p) reply p (seat_of old p) c _ _ did
kind_goes old _ _ _ (JobStep p removes taken now) = inr (inr (inl (record {
  who = p;
  removes = removes;
  goes = refl;
  progress = now;
  told = refl;
  heap = refl;
})))
kind_goes old _ _ _ (CellsStep p a k found did taken now touches) = inr (inr (inr (record {
  who = p;
  goes = refl;
  call = a;
  steps = k;
  found = found;
  progress = now;
  makes = accesses old p a k found did taken touches;
})))
kind_goes old _ _ _ (EndCalls job jobs n at) = inr (inl (record {
  ticket = job.ticket;
  how = outcome_of old.heap job.removes;
  removes = job.removes;
  told = refl;
  heap = refl;
}))
kind_goes old _ _ _ _ = inl refl

module _ (old new : State) (step : Step) (reply : Reply) where
  pub heap_goes : (s : Step) → step ≡ s → Moves old s reply new → HeapGoes old new step reply
  heap_goes s on did = subst (λ (t : Step). HeapGoes old new t reply) (sym on)
      (kind_goes old new s reply (step_kind old new s reply did))

  -- where p has a call on cells and pointers under way, its Go is refused, or makes a step of it
  pub access_goes : (p : ℕ) (a : Access) (k : ℕ) (found : Ptr) → (seat_of old p).progress ≡ Accesses a k found
      → Moves old (Go p) reply new → (new ≡ old) ⊎ MakesAccess old new p a k found
  access_goes p a k found now (inl did) = inl did.2
  access_goes p a k found now (inr did) =
      let makes = subst (λ (progress : Progress). DoesGo old p (seat_of old p) progress reply new) now did.1 in
      inr (subst (λ (s : State). MakesAccess old s p a k found) (sym makes.3)
      (accesses old p a k found makes.0 did.0 makes.1))

  -- where p has a job to call at once, its Go is refused, or calls it
  pub now_goes : (p : ℕ) (removes : Option Name)
      → (seat_of old p).progress ≡ CallsNow removes → Moves old (Go p) reply new
      → (reply ≡ Refused NotRegistered)
      ⊎ ((reply ≡ CalledNow (outcome_of old.heap removes)) × (new.heap ≡ heap_after_job old.heap removes))
  now_goes p removes now (inl did) = inl did.1
  now_goes p removes now (inr did) =
      let calls = subst (λ (progress : Progress). DoesGo old p (seat_of old p) progress reply new) now did.1 in
      inr (calls.0, ap (λ (s : State). s.heap) calls.1)
