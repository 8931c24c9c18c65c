-- The kinds of steps: what each one replies, and what the world is after it.
use Rattle.std.proofs.Common.{◌≡◌, ◌≢◌, ℕ, ◌+◌, ◌<◌, List, [], ◌∷◌, length, Option, Some, None, inl, inr, refl, sym}
use Rattle.std.proofs.Common.{subst}
use Rattle.epoch_bags.specs.Stores.{IsInserted}
use Rattle.epoch_cells.specs.declared.cells.name.Name.{Name}
use Rattle.epoch_cells.specs.declared.fault.Fault.{Fault}
use Rattle.epoch_laws.specs.declared.heap.access.Access.{Access}
use Rattle.epoch_laws.specs.declared.heap.access.AccessAnswer.TheVariants.{Unit as UnitAnswer, Count}
use Rattle.epoch_laws.specs.declared.heap.access.Ptr.{Ptr}
use Rattle.epoch_laws.specs.Heap.{outcome_of, heap_after_job, Touched, Touches}
use Rattle.epoch_machine.specs.Machine.{ask_at}
use Rattle.epoch_laws.specs.declared.step.Call.{Call}
use Rattle.epoch_laws.specs.declared.step.Deferral.{Deferral}
use Rattle.epoch_laws.specs.declared.step.Progress.{Progress}
use Rattle.epoch_laws.specs.declared.step.Progress.TheVariants.{Idle, Driven, CallsNow, Accesses, Ends}
use Rattle.epoch_laws.specs.declared.step.Reply.{Reply}
use Rattle.epoch_laws.specs.declared.step.Reply.TheVariants.{Registered, Began, Stepped, Called as CalledReply}
use Rattle.epoch_laws.specs.declared.step.Reply.TheVariants.{CalledNow, Done, Refused}
use Rattle.epoch_laws.specs.declared.step.Step.{Step}
use Rattle.epoch_laws.specs.declared.step.Step.TheVariants.{Register, Begin, Go, End as EndStep, EndGo}
use Rattle.epoch_laws.specs.declared.step.Word.TheVariants.{Free, Unpinned}
use Rattle.epoch_laws.specs.Run.{Bag, State, Ending, Open, Emptying, Over, seat_of, position_word, with_seat}
use Rattle.epoch_laws.specs.Run.{free_seat, begun_seat, accessed_seat, access_reply, refusal, BeginsCall, DrivesCall}
use Rattle.epoch_laws.specs.Run.{DoesGo, AllFree, EndGoes, Moves}
use Rattle.epoch_laws.proofs.SeatLemmas.{IsAccepted, begin_given}

-- what a step is, with its reply and the world after it
pub data StepKind (old : State) : Step → Reply → State → Type 0 where
  Refusal : (step : Step) (fault : Fault) → StepKind old step (Refused fault) old
  Registration : (p : ℕ) → old.ending ≡ Open → p < length old.seats → position_word old p ≡ Free
      → StepKind old Register (Registered p) (with_seat old p (record (free_seat old.sizes) { word = Unpinned }))
  CallBegins : (p : ℕ) (c : Call) → IsAccepted c (seat_of old p) old.tickets old.heap
      → StepKind old (Begin p c) Began (with_seat old p (begun_seat c (seat_of old p)))
  -- a machine goes on with its call, or ends it
  MachineStep : (p : ℕ) (c : Call) (reply : Reply) (new : State) → position_word old p ≢ Free
      → (seat_of old p).progress ≡ Driven c
      → DrivesCall old p (seat_of old p) c (seat_of old p).machine.stage (ask_at (seat_of old p).machine.stage)
      reply new
      → StepKind old (Go p) reply new
  -- a job is called at once
  JobStep : (p : ℕ) (removes : Option Name) → position_word old p ≢ Free → (seat_of old p).progress ≡ CallsNow removes
      → StepKind old (Go p) (CalledNow (outcome_of old.heap removes))
      (record (with_seat old p (record (seat_of old p) { progress = Ends (Done UnitAnswer) }))
      { heap = heap_after_job old.heap removes })
  -- a call on cells and pointers goes on
  CellsStep : (p : ℕ) (a : Access) (k : ℕ) (found : Ptr) (did : Touched) → position_word old p ≢ Free
      → (seat_of old p).progress ≡ Accesses a k found → Touches a k found old.heap did
      → StepKind old (Go p) (access_reply did.told)
      (record (with_seat old p (accessed_seat a k did.told (seat_of old p))) { heap = did.heap })
  -- a call that no machine drove replies
  LastReply : (p : ℕ) (reply : Reply) → position_word old p ≢ Free → (seat_of old p).progress ≡ Ends reply
      → StepKind old (Go p) reply (with_seat old p (record (seat_of old p) { progress = Idle }))
  EndBegins : old.ending ≡ Open → AllFree old → StepKind old EndStep Began (record old { ending = Emptying [] 0 })
  -- an end calls the next job in hand
  EndCalls : (job : Deferral) (jobs : List Deferral) (n : ℕ) → old.ending ≡ Emptying (job ∷ jobs) n
      → StepKind old EndGo (CalledReply job.ticket (outcome_of old.heap job.removes))
      (record old { ending = Emptying jobs (n + 1); heap = heap_after_job old.heap job.removes })
  -- an end takes a bag
  EndTakes : (bag : Bag) (queued : List Bag) (n : ℕ) → old.ending ≡ Emptying [] n → IsInserted bag queued old.queued
      → StepKind old EndGo Stepped (record old { queued = queued; ending = Emptying bag.jobs n })
  EndIsOver : (n : ℕ) → old.ending ≡ Emptying [] n → old.queued ≡ []
      → StepKind old EndGo (Done (Count n)) (record old { ending = Over })

module _ (old new : State) (reply : Reply) where
  told : {step : Step} (r : Reply) (last : State) → reply ≡ r → new ≡ last → StepKind old step r last
      → StepKind old step reply new
  told {step = step} r last same e kind = subst (λ (s : State). StepKind old step reply s) (sym e)
      (subst (λ (t : Reply). StepKind old step t last) (sym same) kind)

  refused : {step : Step} (fault : Fault) → reply ≡ Refused fault → new ≡ old → StepKind old step reply new
  refused fault same e = told _ _ same e (Refusal _ fault)

  begins : (p : ℕ) (c : Call) (fault : Option Fault) → refusal c (seat_of old p) old.tickets old.heap ≡ fault
      → BeginsCall old p c fault reply new → StepKind old (Begin p c) reply new
  begins p c (Some fault) e did = refused _ did.0 did.1
  begins p c None e did = told _ _ did.0 did.1 (CallBegins p c (begin_given c (seat_of old p) old.tickets old.heap e))

  goes : (p : ℕ) (progress : Progress) → position_word old p ≢ Free → (seat_of old p).progress ≡ progress
      → DoesGo old p (seat_of old p) progress reply new → StepKind old (Go p) reply new
  goes p Idle taken now did = refused _ did.0 did.1
  goes p (Driven c) taken now did = MachineStep p c reply new taken now did
  goes p (CallsNow removes) taken now did = told _ _ did.0 did.1 (JobStep p removes taken now)
  goes p (Accesses a k found) taken now (did, touches, same, e) =
      told _ _ same e (CellsStep p a k found did taken now touches)
  goes p (Ends r) taken now did = told _ _ did.0 did.1 (LastReply p r taken now)

  end_goes : (ending : Ending) → old.ending ≡ ending → EndGoes old ending reply new → StepKind old EndGo reply new
  end_goes Open at did = refused _ did.0 did.1
  end_goes Over at did = refused _ did.0 did.1
  end_goes (Emptying (job ∷ jobs) n) at did = told _ _ did.0 did.1 (EndCalls job jobs n at)
  end_goes (Emptying [] n) at (inl (bag, queued, out, same, e)) = told _ _ same e (EndTakes bag queued n at out)
  end_goes (Emptying [] n) at (inr (none, same, e)) = told _ _ same e (EndIsOver n at none)

  kinds : (step : Step) → Moves old step reply new → StepKind old step reply new
  kinds Register (inl (p, opened, there, free, lowest, same, e)) = told _ _ same e (Registration p opened there free)
  kinds Register (inr (inl did)) = refused _ did.2 did.3
  kinds Register (inr (inr did)) = refused _ did.1 did.2
  kinds (Begin p c) did = begins p c _ refl did
  kinds (Go p) (inl did) = refused _ did.1 did.2
  kinds (Go p) (inr did) = goes p _ did.0 refl did.1
  kinds EndStep (inl did) = told _ _ did.2 did.3 (EndBegins did.0 did.1)
  kinds EndStep (inr (inl did)) = refused _ did.2 did.3
  kinds EndStep (inr (inr did)) = refused _ did.1 did.2
  kinds EndGo did = end_goes old.ending refl did

-- each step is one of these
pub step_kind : (old new : State) (step : Step) (reply : Reply) → Moves old step reply new → StepKind old step reply new
step_kind old new step reply did = kinds old new reply step did
