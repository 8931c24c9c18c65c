-- What a step does to the seats: nothing, or it writes one of them. `seats_go` says how that one is written, and by
-- `each_seat` a law of each seat needs only that case.
use Rattle.std.proofs.Common.{◌≡◌, ◌≢◌, ℕ, ◌<◌, List, length, Option, Some, None, ◌⊎◌, inl, inr, refl, ap, sym}
use Rattle.std.proofs.Common.{subst, ◌∙◌, slice_index_or, slice_set}
use Rattle.std.proofs.lemmas.List.{length-set}
use Rattle.epoch_bags.specs.declared.queue.PutStep.{PutStep}
use Rattle.epoch_bags.specs.declared.queue.TakeStep.{TakeStep}
use Rattle.epoch_cells.specs.declared.cells.name.Name.{Name}
use Rattle.epoch_laws.specs.declared.heap.access.Access.{Access}
use Rattle.epoch_laws.specs.declared.heap.access.AccessAnswer.TheVariants.{Unit as UnitAnswer}
use Rattle.epoch_laws.specs.declared.heap.access.Ptr.{Ptr}
use Rattle.epoch_laws.specs.Heap.{Touched, Touches}
use Rattle.epoch_machine.specs.declared.machine.Answer.{Answer}
use Rattle.epoch_machine.specs.declared.machine.Ask.{Ask}
use Rattle.epoch_machine.specs.declared.machine.Ask.TheVariants.{StorePinned, StoreRepinned, StoreUnpinned, StoreFree}
use Rattle.epoch_machine.specs.declared.machine.Ask.TheVariants.{PutBag, TakeBag, CallJob}
use Rattle.epoch_machine.specs.declared.machine.Sizes.{Sizes}
use Rattle.epoch_machine.specs.declared.machine.Stage.{Stage}
use Rattle.epoch_machine.specs.declared.machine.Stage.TheVariants.{StoreFree as LeavingStage}
use Rattle.epoch_machine.specs.Machine.{Machine, ask_at, hears, put_heard, took_heard, gives}
use Rattle.epoch_laws.specs.declared.step.Call.{Call}
use Rattle.epoch_laws.specs.declared.step.Deferral.{Deferral}
use Rattle.epoch_laws.specs.declared.step.Progress.TheVariants.{Idle, Driven, CallsNow, Accesses, Ends}
use Rattle.epoch_laws.specs.declared.step.Reply.{Reply}
use Rattle.epoch_laws.specs.declared.step.Reply.TheVariants.{Done}
use Rattle.epoch_laws.specs.declared.step.Step.{Step}
use Rattle.epoch_laws.specs.declared.step.Step.TheVariants.{Begin, Go}
use Rattle.epoch_laws.specs.declared.step.Word.{Word}
use Rattle.epoch_laws.specs.declared.step.Word.TheVariants.{Free, Unpinned}
use Rattle.epoch_laws.specs.Run.{WorldSeat, State, seat_of, position_word, with_seat}
use Rattle.epoch_laws.specs.Run.{with_word, free_seat, begun_seat, ended_seat, accessed_seat}
use Rattle.epoch_laws.specs.Run.{PerformsAsk, DrivesCall, Moves}
use Rattle.epoch_laws.proofs.StepKinds.{StepKind, Registration, CallBegins, MachineStep, JobStep, CellsStep, LastReply}
use Rattle.epoch_laws.proofs.StepKinds.{step_kind}
use Rattle.epoch_laws.proofs.SeatLemmas.{seat_written, seat_other, seat_there, same_or_other, IsAccepted}

-- HOW A SEAT IS WRITTEN

-- what a machine is after an answer to what it asks at a stage
pub data IsAnswered (m : Machine Deferral) (s : Stage) : Machine Deferral → Type 0 where
  Hears : (a : Answer Deferral) → IsAnswered m s (hears m s a)
  HearsPut : (put : PutStep) → IsAnswered m s (put_heard m put)
  HearsTake : (take : TakeStep) (jobs : List Deferral) → IsAnswered m s (took_heard m s take jobs)
  GivesJob : (jobs : List Deferral) → IsAnswered m s (gives m s jobs)

-- a Go of p, whose position is taken
abbrev pub IsGoOf : State → Step → ℕ → Type 0
IsGoOf old step p = (step ≡ Go p) × (position_word old p ≢ Free)

-- how a step writes the seat of p
pub data SeatChange (old : State) (step : Step) (p : ℕ) : WorldSeat → Type 0 where
  -- p takes the position
  Registers : position_word old p ≡ Free → SeatChange old step p (record (free_seat old.sizes) { word = Unpinned })
  -- a call begins
  Begins : (c : Call) → step ≡ Begin p c → IsAccepted c (seat_of old p) old.tickets old.heap
      → SeatChange old step p (begun_seat c (seat_of old p))
  -- the machine that drives the call goes on, under a word that isn't free
  MachineGoes : (c : Call) (w : Word) (m : Machine Deferral) → IsGoOf old step p → (seat_of old p).progress ≡ Driven c
      → w ≢ Free → (seat_of old p).machine.stage ≢ LeavingStage
      → IsAnswered (seat_of old p).machine (seat_of old p).machine.stage m
      → SeatChange old step p (with_word (seat_of old p) w m)
  -- the machine gives the position up
  Leaves : IsGoOf old step p → SeatChange old step p (free_seat old.sizes)
  -- the call ends that the machine drove
  MachineEnds : (c : Call) → IsGoOf old step p → (seat_of old p).progress ≡ Driven c
      → SeatChange old step p (ended_seat c (seat_of old p))
  -- a job is called at once
  JobCalled : (removes : Option Name) → IsGoOf old step p → (seat_of old p).progress ≡ CallsNow removes
      → SeatChange old step p (record (seat_of old p) { progress = Ends (Done UnitAnswer) })
  -- a call on cells and pointers makes a step
  AccessGoes : (a : Access) (k : ℕ) (found : Ptr) (did : Touched) → IsGoOf old step p
      → (seat_of old p).progress ≡ Accesses a k found → Touches a k found old.heap did
      → SeatChange old step p (accessed_seat a k did.told (seat_of old p))
  -- a call that no machine drove replies
  Replies : (r : Reply) → IsGoOf old step p → (seat_of old p).progress ≡ Ends r
      → SeatChange old step p (record (seat_of old p) { progress = Idle })

-- the step writes one seat within the table, in one of these ways, and no other seat
pub record WritesSeat (old new : State) (step : Step) : Type 0 where
  pub p : ℕ
  pub after : WorldSeat
  pub there : p < length old.seats
  pub seats : new.seats ≡ slice_set old.seats p after
  pub change : SeatChange old step p after

-- the sizes stay, and so do all seats or all but one
pub record SeatsGo (old new : State) (step : Step) : Type 0 where
  pub sizes : new.sizes ≡ old.sizes
  pub seats : (new.seats ≡ old.seats) ⊎ WritesSeat old new step

-- EVERY STEP

module _ (old new : State) {step : Step} where
  writes : (p : ℕ) (after : WorldSeat) → p < length old.seats → new.sizes ≡ old.sizes
      → new.seats ≡ slice_set old.seats p after → SeatChange old step p after → SeatsGo old new step
  writes p after there sizes seats change = record {
    sizes = sizes;
    seats = inr (record { p = p; after = after; there = there; seats = seats; change = change });
  }

module _ (old new : State) (p : ℕ) (taken : position_word old p ≢ Free) (c : Call)
    (drive : (seat_of old p).progress ≡ Driven c) where
  abbrev seat : WorldSeat
  seat = seat_of old p

  abbrev Goal : Type 0
  Goal = SeatsGo old new (Go p)

  -- the seat is written as in this state
  writes_as : (after : WorldSeat) (last : State) → new ≡ last → last.sizes ≡ old.sizes
      → last.seats ≡ slice_set old.seats p after → SeatChange old (Go p) p after → Goal
  writes_as after last e sizes seats change = writes old new p after (seat_there old p taken)
      (ap (λ (s : State). s.sizes) e ∙ sizes) (ap (λ (s : State). s.seats) e ∙ seats) change

  answered : (ask : Ask) (w : Word) (m : Machine Deferral) (last : State) → ask_at seat.machine.stage ≡ Some ask
      → ask ≢ StoreFree → w ≢ Free → IsAnswered seat.machine seat.machine.stage m → new ≡ last
      → last.sizes ≡ old.sizes → last.seats ≡ slice_set old.seats p (with_word seat w m) → Goal
  answered ask w m last asked kept word heard e sizes seats = writes_as _ last e sizes seats
      (MachineGoes c w m (refl, taken) drive word (λ leaving. kept (cc)) heard)

  performs : (ask : Ask) (reply : Reply) → ask_at seat.machine.stage ≡ Some ask
      → PerformsAsk old p seat seat.machine.stage ask reply new → Goal
  performs (StorePinned e) reply asked did =
      answered _ _ _ _ asked (λ is. cc (is)) (λ is. cc (is)) (Hears _) did.1 refl refl
  performs (StoreRepinned e) reply asked did =
      answered _ _ _ _ asked (λ is. cc (is)) (λ is. cc (is)) (Hears _) did.1 refl refl
  performs StoreUnpinned reply asked did =
      answered _ _ _ _ asked (λ is. cc (is)) (λ is. cc (is)) (Hears _) did.1 refl refl
  performs StoreFree reply asked did = writes_as _ _ did.1 refl refl (Leaves (refl, taken))
  performs (PutBag seal) reply asked (put, queued, told, puts, e) =
      answered _ _ _ _ asked (λ is. cc (is)) taken (HearsPut put) e refl refl
  performs (TakeBag x) reply asked (take, jobs, queued, told, took, e) =
      answered _ _ _ _ asked (λ is. cc (is)) taken (HearsTake take jobs) e refl refl
  performs CallJob reply asked (job, jobs, hand, told, e) =
      answered _ _ _ _ asked (λ is. cc (is)) taken (GivesJob jobs) e refl refl
  performs _ reply asked did = answered _ _ _ _ asked (λ is. cc (is)) taken (Hears _) did.1 refl refl

  drives : (ask : Option Ask) (reply : Reply) → ask_at seat.machine.stage ≡ ask
      → DrivesCall old p seat c seat.machine.stage ask reply new → Goal
  drives (Some ask) reply asked did = performs ask reply asked did
  drives None reply asked did = writes_as _ _ did.1 refl refl (MachineEnds c (refl, taken) drive)

kind_goes : (old new : State) (step : Step) (reply : Reply) → StepKind old step reply new → SeatsGo old new step
kind_goes old _ _ _ (Registration p opened there free) = writes old _ p _ there refl refl (Registers free)
kind_goes old _ _ _ (CallBegins p c given) =
    writes old _ p _ (seat_there old p given.taken) refl refl (Begins c refl given)
kind_goes old _ _ _ (MachineStep p c reply new taken drive did) = drives old new p taken c drive _ reply refl did
kind_goes old _ _ _ (JobStep p removes taken now) =
    writes old _ p _ (seat_there old p taken) refl refl (JobCalled removes (refl, taken) now)
kind_goes old _ _ _ (CellsStep p a k found did taken now touches) =
    writes old _ p _ (seat_there old p taken) refl refl (AccessGoes a k found did (refl, taken) now touches)
kind_goes old _ _ _ (LastReply p reply taken now) =
    writes old _ p _ (seat_there old p taken) refl refl (Replies reply (refl, taken) now)
kind_goes old _ _ _ _ = record { sizes = refl; seats = inl refl }

-- each step leaves the sizes and all seats as they were, or all seats but one, which it writes in one of these ways
pub seats_go : (old new : State) (step : Step) (reply : Reply) → Moves old step reply new → SeatsGo old new step
seats_go old new step reply did = kind_goes old new step reply (step_kind old new step reply did)

-- WHAT FOLLOWS

-- no step changes how many positions there are
pub as_many_seats : {old new : State} {step : Step} → SeatsGo old new step → length new.seats ≡ length old.seats
as_many_seats {old = old} goes = elim goes.seats [
  | inl same ↦ ap length same
  | inr writes ↦ ap length writes.seats ∙ length-set old.seats writes.p writes.after
]

looked_up : (old new : State) (seats : List WorldSeat) → new.sizes ≡ old.sizes → new.seats ≡ seats → (q : ℕ)
    → seat_of new q ≡ slice_index_or seats q (free_seat old.sizes)
looked_up old new seats sizes same q =
    ap (λ (all : List WorldSeat). slice_index_or all q (free_seat new.sizes)) same
    ∙ ap (λ (z : Sizes). slice_index_or seats q (free_seat z)) sizes

-- what held of each seat holds of each one after the step, where it holds of one that is written
pub each_seat : {old new : State} {step : Step} (I : ℕ → WorldSeat → Type 0) → ((q : ℕ) → I q (seat_of old q))
    → ((p : ℕ) (after : WorldSeat) → SeatChange old step p after → I p after)
    → SeatsGo old new step → (q : ℕ) → I q (seat_of new q)
each_seat {old = old} {new = new} {step = step} I were changed goes q = elim goes.seats [
  | inl same ↦ subst (I q) (sym (looked_up old new old.seats goes.sizes same q)) (were q)
  | inr w ↦ subst (I q) (sym (looked_up old new _ goes.sizes w.seats q)) (by_position w (same_or_other q w.p))
]
  where
    by_position : (w : WritesSeat old new step) → (q ≡ w.p) ⊎ (q ≢ w.p) → I q (seat_of (with_seat old w.p w.after) q)
    by_position w (inl same) = subst (λ (k : ℕ). I k (seat_of (with_seat old w.p w.after) k)) (sym same)
        (subst (I w.p) (sym (seat_written old w.p w.after w.there)) (changed w.p w.after w.change))
    by_position w (inr other) = subst (I q) (sym (seat_other old w.p q w.after other)) (were q)
