-- No step makes the jobs more than the tickets.
use Rattle.std.proofs.Common.{◌≡◌, ℕ, ◌+◌, ◌<◌, ◌≤◌, List, [], ◌∷◌, ◌++◌, length, Option, Some, None, refl}
use Rattle.std.proofs.Common.{ap, sym, subst, arith, slice_set}
use Rattle.std.proofs.lemmas.List.{length-append}
use Rattle.std.proofs.lemmas.List.Sums.{sum_by-append, sum_by-cons, sum_by-set}
use Rattle.epoch_bags.specs.Stores.{IsInserted}
use Rattle.epoch_bags.specs.declared.queue.PutStep.{PutStep}
use Rattle.epoch_bags.specs.declared.queue.PutStep.TheVariants.{Again, Done as PutDone, Full}
use Rattle.epoch_bags.specs.declared.queue.TakeStep.{TakeStep}
use Rattle.epoch_bags.specs.declared.queue.TakeStep.TheVariants.{Again as TakeAgain, Empty, Got}
use Rattle.epoch_machine.specs.declared.machine.Stage.{Stage}
use Rattle.epoch_machine.specs.declared.machine.Stage.TheVariants.{LoadPin, Scan, Take, Calling, Keep}
use Rattle.epoch_machine.specs.declared.machine.Stage.TheVariants.{StoreFree as FreeStage}
use Rattle.epoch_machine.specs.declared.machine.Ask.{Ask}
use Rattle.epoch_machine.specs.declared.machine.Ask.TheVariants.{LoadEpoch, LoadWord, StorePinned, StoreRepinned}
use Rattle.epoch_machine.specs.declared.machine.Ask.TheVariants.{StoreUnpinned, StoreFree, StoreEpoch, PutBag, TakeBag}
use Rattle.epoch_machine.specs.declared.machine.Ask.TheVariants.{KeepJob, CallJob}
use Rattle.epoch_machine.specs.declared.machine.Answer.{Answer}
use Rattle.epoch_machine.specs.declared.machine.Answer.TheVariants.{Epoch, Word as WordFound, Stored, Job}
use Rattle.epoch_machine.specs.Machine.{Machine, hears, put_heard, took_heard, gives, PutsHeld, TakesHand}
use Rattle.epoch_laws.specs.declared.step.Call.{Call}
use Rattle.epoch_laws.specs.declared.step.Step.{Step}
use Rattle.epoch_laws.specs.declared.step.Reply.{Reply}
use Rattle.epoch_laws.specs.declared.step.Deferral.{Deferral}
use Rattle.epoch_laws.specs.declared.step.Word.{Word}
use Rattle.epoch_laws.specs.Run.{Bag, WorldSeat, State, seat_of, with_word, free_seat, Ending, Emptying, Over}
use Rattle.epoch_laws.specs.Run.{begun_seat, ended_seat, PerformsAsk, DrivesCall}
use Rattle.epoch_laws.specs.Run.{Moves, IsFresh, with_seat, removed_by}
use Rattle.epoch_laws.specs.Kept.{jobs_of_machine, jobs_queued, jobs_at_seats, jobs_at_end, JobsFew}
use Rattle.epoch_laws.proofs.StepKinds.{StepKind, Refusal, Registration, CallBegins, MachineStep, JobStep, CellsStep}
use Rattle.epoch_laws.proofs.StepKinds.{LastReply, EndBegins, EndCalls, EndTakes, EndIsOver, step_kind}
use Rattle.epoch_laws.proofs.SeatLemmas.{seat_there}
use Rattle.epoch_laws.proofs.TicketSums.{sum_zero}
use Rattle.epoch_laws.proofs.TicketsTallied.{acted}
use Rattle.epoch_laws.proofs.GuardsStay.{machine_ended, held_begun, hand_begun}
use Rattle.epoch_laws.specs.Heap.{Heap, heap_after_job}

-- a bag more in the store
queued_more : (bag : Bag) (old new : List Bag)
    → IsInserted bag old new
    → jobs_queued new ≡ length bag.jobs + jobs_queued old
queued_more bag old new at =
    let of_bag = λ (b : Bag). length b.jobs in
    let before : jobs_queued old ≡ jobs_queued (at.front ++ at.back) = ap jobs_queued at.without in
    let after : jobs_queued new ≡ jobs_queued (at.front ++ bag ∷ at.back) = ap jobs_queued at.with in
    let more = sum_by-cons of_bag bag at.back in
    omega
    (arith, before, after, more, sum_by-append of_bag at.front (bag ∷ at.back), sum_by-append of_bag at.front at.back)

-- WHAT AN ANSWER DOES TO THE JOBS OF A MACHINE

-- the jobs that come with an answer
abbrev jobs_heard : Answer Deferral → ℕ
jobs_heard (Job job) = 1
jobs_heard _ = 0

abbrev jobs_got : TakeStep → List Deferral → ℕ
jobs_got Got jobs = length jobs
jobs_got _ jobs = 0

module _ (m : Machine Deferral) where
  hears_few : (a : Answer Deferral) (s : Stage) → jobs_of_machine (hears m s a) ≤ jobs_of_machine m + jobs_heard a
  hears_few (Job job) Keep = omega (arith, length-append m.held (job ∷ []))
  hears_few (Epoch e) LoadPin = omega arith
  hears_few (WordFound w) (Scan e k) = omega arith
  hears_few Stored FreeStage = omega arith
  hears_few _ _ = omega arith

  took_few : (s : Stage) (step : TakeStep) (jobs : List Deferral)
      → jobs_of_machine (took_heard m s step jobs) ≤ jobs_of_machine m + jobs_got step jobs
  took_few (Take x k) TakeAgain jobs = omega arith
  took_few _ _ jobs = omega arith

  gives_few : (s : Stage) (job : Deferral) (jobs : List Deferral)
      → m.hand ≡ job ∷ jobs
      → jobs_of_machine (gives m s jobs) ≤ jobs_of_machine m
  gives_few (Calling x k) job jobs hand = omega (arith, ap length hand)
  gives_few _ job jobs hand = omega arith

  put_few : (seal : ℕ) (old new : List Bag) (step : PutStep)
      → PutsHeld seal m old step new
      → jobs_of_machine (put_heard m step) + jobs_queued new ≤ jobs_of_machine m + jobs_queued old
  put_few seal old new Again same = omega (arith, ap jobs_queued same)
  put_few seal old new PutDone put = omega (arith, queued_more _ old new put)
  put_few seal old new Full same = omega (arith, ap jobs_queued same)

taken_few : (x : ℕ) (old new : List Bag) (step : TakeStep) (jobs : List Deferral)
    → TakesHand x old step new jobs
    → jobs_got step jobs + jobs_queued new ≤ jobs_queued old
taken_few x old new TakeAgain jobs same = omega (arith, ap jobs_queued same)
taken_few x old new Empty jobs same = omega (arith, ap jobs_queued same)
taken_few x old new Got jobs (bag, in_hand, expired, inserted) =
    omega (arith, ap length in_hand, queued_more bag new old inserted)

begun_same : (c : Call) (seat : WorldSeat) → jobs_of_machine (begun_seat c seat).machine ≡ jobs_of_machine seat.machine
begun_same c seat = omega (arith, ap length (held_begun seat c), ap length (hand_begun seat c))

ended_same : (c : Call) (seat : WorldSeat) → jobs_of_machine (ended_seat c seat).machine ≡ jobs_of_machine seat.machine
ended_same c seat = ap jobs_of_machine (machine_ended seat c)

-- EACH STEP

module _ (old new : State) (h : JobsFew old) where
  -- a step of one participant
  acts_beside : (p : ℕ) (after : WorldSeat) (epoch : ℕ) (queued : List Bag) (tickets : ℕ) (heap : Heap)
      → p < length old.seats
      → jobs_of_machine after.machine + jobs_queued queued + old.tickets
      ≤ jobs_of_machine (seat_of old p).machine + jobs_queued old.queued + tickets
      → new ≡ record (acted old p after epoch queued tickets) { heap = heap }
      → JobsFew new
  acts_beside p after epoch queued tickets heap there fits did =
      let seats : jobs_at_seats (slice_set old.seats p after) + jobs_of_machine (seat_of old p).machine
      ≡ jobs_at_seats old.seats + jobs_of_machine after.machine =
      sum_by-set _ old.seats p after (free_seat old.sizes) there in
      subst JobsFew (sym did) (omega (arith, h, fits, seats))

  -- cells and pointers stay
  acts : (p : ℕ) (after : WorldSeat) (epoch : ℕ) (queued : List Bag) (tickets : ℕ)
      → p < length old.seats
      → jobs_of_machine after.machine + jobs_queued queued + old.tickets
      ≤ jobs_of_machine (seat_of old p).machine + jobs_queued old.queued + tickets
      → new ≡ acted old p after epoch queued tickets
      → JobsFew new
  acts p after epoch queued tickets = acts_beside p after epoch queued tickets old.heap

  -- a step of the end
  closes : (queued : List Bag) (ending : Ending) (heap : Heap)
      → jobs_queued queued + jobs_at_end ending ≤ jobs_queued old.queued + jobs_at_end old.ending
      → new ≡ record old { queued = queued; ending = ending; heap = heap }
      → JobsFew new
  closes queued ending heap fits did = subst JobsFew (sym did) (omega (arith, h, fits))

  module _ (p : ℕ) (there : p < length old.seats) where
    abbrev seat : WorldSeat
    seat = seat_of old p

    abbrev m : Machine Deferral
    m = seat.machine

    -- the store and the tickets stay, and the jobs become no more
    keeps : (after : WorldSeat) (epoch : ℕ)
        → jobs_of_machine after.machine ≤ jobs_of_machine m
        → new ≡ acted old p after epoch old.queued old.tickets
        → JobsFew new
    keeps after epoch fits did = acts p after epoch old.queued old.tickets there (omega (arith, fits)) did

    -- nor where cells and pointers change
    keeps_beside : (after : WorldSeat) (heap : Heap)
        → jobs_of_machine after.machine ≤ jobs_of_machine m
        → new ≡ record (with_seat old p after) { heap = heap }
        → JobsFew new
    keeps_beside after heap fits did =
        acts_beside p after old.epoch old.queued old.tickets heap there (omega (arith, fits)) did

    -- its machine hears an answer that brings no job
    hears_none : (word : Word) (s : Stage) (a : Answer Deferral) (epoch : ℕ)
        → jobs_heard a ≡ 0
        → new ≡ acted old p (with_word seat word (hears m s a)) epoch old.queued old.tickets
        → JobsFew new
    hears_none word s a epoch none did =
        keeps (with_word seat word (hears m s a)) epoch (omega (arith, none, hears_few m a s)) did

    performs : (s : Stage) (ask : Ask) (reply : Reply) → PerformsAsk old p seat s ask reply new → JobsFew new
    performs s LoadEpoch reply did = hears_none seat.word s (Epoch old.epoch) old.epoch refl did.1
    performs s (LoadWord k) reply did = hears_none seat.word s (WordFound _) old.epoch refl did.1
    performs s (StorePinned e) reply did = hears_none _ s Stored old.epoch refl did.1
    performs s (StoreRepinned e) reply did = hears_none _ s Stored old.epoch refl did.1
    performs s StoreUnpinned reply did = hears_none _ s Stored old.epoch refl did.1
    performs s StoreFree reply did = keeps (free_seat old.sizes) old.epoch (omega arith) did.1
    performs s (StoreEpoch e) reply did = hears_none seat.word s Stored e refl did.1
    performs s (PutBag seal) reply (step, queued, told, puts, did) =
        acts p (with_word seat seat.word (put_heard m step)) old.epoch queued old.tickets there
        (omega (arith, put_few m seal old.queued queued step puts)) did
    performs s (TakeBag x) reply (step, jobs, queued, told, takes, did) =
        acts p (with_word seat seat.word (took_heard m s step jobs)) old.epoch queued old.tickets there
        (omega (arith, took_few m s step jobs, taken_few x old.queued queued step jobs takes)) did
    performs s KeepJob reply did =
        let job : Deferral = record { ticket = old.tickets; removes = removed_by seat.progress } in
        acts p (with_word seat seat.word (hears m s (Job job))) old.epoch old.queued (old.tickets + 1) there
        (omega (arith, hears_few m (Job job) s)) did.1
    performs s CallJob reply (job, jobs, hand, told, did) =
        keeps_beside (with_word seat seat.word (gives m s jobs)) _ (gives_few m s job jobs hand) did

    drives : (c : Call) (s : Stage) (ask : Option Ask) (reply : Reply)
        → DrivesCall old p seat c s ask reply new → JobsFew new
    drives c s (Some ask) reply did = performs s ask reply did
    drives c s None reply did = keeps (ended_seat c seat) old.epoch (omega (arith, ended_same c seat)) did.1

kind_counts : (old : State) → JobsFew old → (step : Step) (reply : Reply) (new : State) → StepKind old step reply new
    → JobsFew new
kind_counts old h _ _ _ (Refusal step fault) = h
kind_counts old h _ _ _ (Registration p opened there free) = keeps old _ h p there _ old.epoch (omega arith) refl
kind_counts old h _ _ _ (CallBegins p c given) = keeps old _ h p (seat_there old p given.taken) _ old.epoch
    (omega (arith, begun_same c (seat_of old p))) refl
kind_counts old h _ _ _ (MachineStep p c reply new taken drive did) =
    drives old new h p (seat_there old p taken) c _ _ reply did
kind_counts old h _ _ _ (JobStep p removes taken now) =
    keeps_beside old _ h p (seat_there old p taken) _ (heap_after_job old.heap removes) (omega arith) refl
kind_counts old h _ _ _ (CellsStep p a k found did taken now touches) =
    keeps_beside old _ h p (seat_there old p taken) _ did.heap (omega arith) refl
kind_counts old h _ _ _ (LastReply p reply taken now) =
    keeps old _ h p (seat_there old p taken) _ old.epoch (omega arith) refl
kind_counts old h _ _ _ (EndBegins opened free) =
    closes old _ h old.queued (Emptying [] 0) old.heap (omega arith) refl
kind_counts old h _ _ _ (EndCalls job jobs n at) =
    closes old _ h old.queued (Emptying jobs (n + 1)) (heap_after_job old.heap job.removes)
    (omega (arith, ap jobs_at_end at)) refl
kind_counts old h _ _ _ (EndTakes bag queued n at out) = closes old _ h queued (Emptying bag.jobs n) old.heap
    (omega (arith, ap jobs_at_end at, queued_more bag queued old.queued out)) refl
kind_counts old h _ _ _ (EndIsOver n at none) = closes old _ h old.queued Over old.heap (omega arith) refl

-- no step makes the jobs more than the tickets that were given, if they weren't more before it
pub moves_jobs : (old new : State) (step : Step) (reply : Reply)
    → JobsFew old
    → Moves old step reply new
    → JobsFew new
moves_jobs old new step reply h did = kind_counts old h step reply new (step_kind old new step reply did)

-- a new world has no jobs
pub fresh_jobs : (s : State) → IsFresh s → JobsFew s
fresh_jobs s fresh =
    let jobs_of = λ (seat : WorldSeat). jobs_of_machine seat.machine in
    let none_at_seats : jobs_at_seats s.seats ≡ 0 = sum_zero jobs_of s.seats (free_seat s.sizes)
    (λ p. ap jobs_of (fresh.free p)) in
    omega (arith, none_at_seats, ap jobs_queued fresh.none_queued, ap jobs_at_end fresh.open_end)
