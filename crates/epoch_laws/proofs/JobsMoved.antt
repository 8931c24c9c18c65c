-- What a step of a participant's machine does to its jobs.
use Rattle.std.proofs.Common.{◌≡◌, ◌≢◌, ℕ, ◌+◌, true, false, List, [], ◌∷◌, ◌++◌, refl, ap, sym, subst, ◌∙◌, arith}
use Rattle.epoch_bags.specs.declared.queue.PutStep.{PutStep}
use Rattle.epoch_bags.specs.declared.queue.PutStep.TheVariants.{Again, Done as PutDone, Full}
use Rattle.epoch_bags.specs.declared.queue.TakeStep.{TakeStep}
use Rattle.epoch_bags.specs.declared.queue.TakeStep.TheVariants.{Again as TakeAgain, Empty, Got}
use Rattle.epoch_machine.specs.declared.machine.Stage.{Stage}
use Rattle.epoch_machine.specs.declared.machine.Stage.TheVariants.{Take, Calling, Keep}
use Rattle.epoch_machine.specs.declared.machine.Ask.TheVariants.{KeepJob}
use Rattle.epoch_machine.specs.declared.machine.Answer.TheVariants.{Job}
use Rattle.epoch_machine.specs.Machine.{Machine, hears, put_heard, took_heard, gives, with_stage, PutsHeld, TakesHand}
use Rattle.epoch_laws.specs.declared.step.Call.{Call}
use Rattle.epoch_laws.specs.declared.step.Reply.{Reply}
use Rattle.epoch_laws.specs.declared.step.Reply.TheVariants.{Stepped, Called as CalledReply}
use Rattle.epoch_laws.specs.declared.step.Entry.{Entry}
use Rattle.epoch_laws.specs.declared.step.Deferral.{Deferral}
use Rattle.epoch_laws.specs.declared.step.Word.{Word}
use Rattle.epoch_laws.specs.declared.step.Word.TheVariants.{Free}
use Rattle.epoch_laws.specs.declared.step.Progress.{Progress}
use Rattle.epoch_laws.specs.declared.step.Progress.TheVariants.{Driven}
use Rattle.epoch_laws.specs.Run.{Bag, WorldSeat, State, seat_of, position_word, with_seat, with_machine, with_word}
use Rattle.epoch_laws.specs.Run.{Ending, Open, PerformsAsk, removed_by}
use Rattle.epoch_laws.specs.Tickets.{times, times_queued, calls_of, deferrals_of}
use Rattle.epoch_laws.proofs.SeatLemmas.{seat_there}
use Rattle.epoch_laws.proofs.TicketSums.{queued_put, times_cons, times_push, ticket_given}
use Rattle.epoch_laws.proofs.JobsPlaced.{HandAt, HeldAt, RestsAt, PlacesHere, hand_none, held_collected, held_put}
use Rattle.epoch_laws.proofs.JobsPlaced.{held_called, hand_called}
use Rattle.epoch_laws.proofs.TicketsTallied.{Tallies, tells, untold_calls, untold_deferrals, acted, GivesTicket}
use Rattle.epoch_laws.proofs.TicketsTallied.{none_given, acts}
use Rattle.epoch_bags.specs.declared.job.Called.{Called}

-- at the seat, at the machine that it goes on to, jobs move as the reply tells
abbrev MovesAt : Machine Deferral → List Bag → Reply → Machine Deferral → List Bag → Type 0
MovesAt m bags told n queued = (t : ℕ) → times t n.held + times t n.hand + times_queued t queued + calls_of t told
    ≡ times t m.held + times t m.hand + times_queued t bags + deferrals_of t told

-- where it can't be that an end has begun, none has
pub ending_open : (ending : Ending) → ¬ (ending ≢ Open) → ending ≡ Open
ending_open Open opened = refl
ending_open _ opened = absurd (opened (λ is. cc))

-- the call c of p is under way, at a step x from old to new
pub record IsGoing (old new : State) (log : List Entry) (x : Entry) (p : ℕ) (c : Call) : Type 0 where
  pub tallies : Tallies old log
  pub taken : position_word old p ≢ Free
  pub driven : (seat_of old p).progress ≡ Driven c

module _ {old new : State} {log : List Entry} {x : Entry} {p : ℕ} {c : Call} (g : IsGoing old new log x p c) where
  abbrev seat : WorldSeat
  seat = seat_of old p

  abbrev m : Machine Deferral
  m = seat.machine

  abbrev Kept : Type 0
  Kept = Tallies new (log ++ x ∷ [])

  opened : old.ending ≡ Open
  opened = ending_open old.ending (λ shut. g.taken (g.tallies.closed shut p))

  -- it goes on to n
  goes_on : (told : Reply) (word : Word) (n : Machine Deferral) (epoch : ℕ) (queued : List Bag) (tickets : ℕ)
      → x.reply ≡ told
      → word ≢ Free
      → HandAt n.hand n.stage
      → HeldAt n n.stage
      → MovesAt m old.queued told n queued
      → GivesTicket old.tickets told tickets
      → new ≡ acted old p (with_word seat word n) epoch queued tickets
      → Kept
  goes_on told word n epoch queued tickets is taken_still hand held moved given did =
      acts old new log x g.tallies told p (with_word seat word n) epoch queued tickets is (record {
        there = seat_there old p g.taken;
        ending = opened;
        places = record {
          hand = hand;
          held = held;
          rests = subst (λ (progress : Progress). RestsAt progress n.stage) (sym g.driven) tt;
          free = λ free. absurd (taken_still free);
        };
        moved = moved;
        given = given;
      }) did

  -- its jobs stay
  pub keeps_jobs : (told : Reply) (word : Word) (n : Machine Deferral) (epoch : ℕ)
      → tells told ≡ false
      → word ≢ Free
      → HeldAt n n.stage
      → m.hand ≡ []
      → (n.held ≡ m.held) × (n.hand ≡ m.hand)
      → (x.reply ≡ told) × (new ≡ acted old p (with_word seat word n) epoch old.queued old.tickets)
      → Kept
  keeps_jobs told word n epoch quiet taken_still at none same (is, did) =
      goes_on told word n epoch old.queued old.tickets is taken_still (hand_none n.hand n.stage (same.1 ∙ none)) at
      (λ t. omega (
        arith,
        untold_calls t told quiet,
        untold_deferrals t told quiet,
        ap (times t) same.0,
        ap (times t) same.1,
      ))
      (none_given old.tickets told quiet)
      did

  -- only its stage changes
  pub staged : (s : Stage) → m.hand ≡ [] → HeldAt m s
      → (x.reply ≡ Stepped) × (new ≡ with_seat old p (with_machine seat (with_stage m s)))
      → Kept
  staged s none at did =
      keeps_jobs _ seat.word (with_stage m s) old.epoch refl g.taken at none (refl, refl) did

  -- a step of the store, after which the bags may be others
  stores : (n : Machine Deferral) (queued : List Bag)
      → x.reply ≡ Stepped
      → HandAt n.hand n.stage
      → HeldAt n n.stage
      → MovesAt m old.queued Stepped n queued
      → new ≡ acted old p (with_machine seat n) old.epoch queued old.tickets
      → Kept
  stores n queued is hand held moved did =
      goes_on _ seat.word n old.epoch queued old.tickets is g.taken hand held moved
      (none_given old.tickets Stepped refl) did

  -- a step of a put keeps the tally of the tickets
  pub puts : (seal : ℕ) (step : PutStep) (queued : List Bag) → m.hand ≡ [] → x.reply ≡ Stepped
      → PutsHeld seal m old.queued step queued
      → new ≡ acted old p (with_machine seat (put_heard m step)) old.epoch queued old.tickets
      → Kept
  puts seal Again queued none is same did =
      let here : PlacesHere seat = g.tallies.seats p in
      stores m queued is here.hand here.held (λ t. omega (arith, ap (times_queued t) same)) did
  puts seal PutDone queued none is put did =
      let n : Machine Deferral = put_heard m PutDone in
      stores n queued is (hand_none m.hand n.stage none) (held_put n m.action false (λ full. refl))
      (λ t. omega (arith, queued_put t old.queued queued _ put)) did
  puts seal Full queued none is same did =
      let n : Machine Deferral = put_heard m Full in
      stores n queued is (hand_none m.hand n.stage none) (held_put n m.action true (λ full. absurd (cc)))
      (λ t. omega (arith, ap (times_queued t) same)) did

  -- a step that looks for a bag keeps the tally of the tickets
  pub takes : (y k : ℕ) (step : TakeStep) (jobs : List Deferral) (queued : List Bag)
      → m.hand ≡ []
      → x.reply ≡ Stepped
      → TakesHand y old.queued step queued jobs
      → new ≡ acted old p (with_machine seat (took_heard m (Take y k) step jobs)) old.epoch queued old.tickets
      → Kept
  takes y k TakeAgain jobs queued none is same did =
      let here : PlacesHere seat = g.tallies.seats p in
      stores m queued is here.hand here.held (λ t. omega (arith, ap (times_queued t) same)) did
  takes y k Empty jobs queued none is same did =
      let n : Machine Deferral = took_heard m (Take y k) Empty jobs in
      stores n queued is (hand_none m.hand n.stage none) (held_collected n m.action m.held refl)
      (λ t. omega (arith, ap (times_queued t) same)) did
  takes y k Got jobs queued none is (bag, in_hand, expired, inserted) did =
      let n : Machine Deferral = took_heard m (Take y k) Got jobs in
      stores n queued is (hand_called m y k jobs) (held_called m n y k jobs refl)
      (λ t. omega (arith, ap (times t) none, ap (times t) in_hand, queued_put t queued old.queued bag inserted))
      did

  -- a step that calls the first job in hand keeps the tally of the tickets
  pub calls : (y k : ℕ) (job : Deferral) (jobs : List Deferral) (how : Called) → m.hand ≡ job ∷ jobs
      → x.reply ≡ CalledReply job.ticket how
      → new ≡ with_seat old p (with_machine seat (gives m (Calling y k) jobs))
      → Kept
  calls y k job jobs how in_hand is did =
      let n : Machine Deferral = gives m (Calling y k) jobs in
      goes_on _ seat.word n old.epoch old.queued old.tickets is g.taken
      (hand_called m y k jobs) (held_called m n y k jobs refl)
      (λ t. omega (arith, ap (times t) in_hand, times_cons t job jobs))
      (λ t. omega arith)
      did

  -- a step that keeps a new job, and gives it the next ticket, keeps the tally of the tickets
  pub keeps : m.hand ≡ [] → PerformsAsk old p seat Keep KeepJob x.reply new → Kept
  keeps none (is, did) =
      let job : Deferral = record { ticket = old.tickets; removes = removed_by seat.progress } in
      goes_on _ seat.word (hears m Keep (Job job)) old.epoch old.queued (old.tickets + 1) is g.taken none tt
      (λ t. omega (arith, times_push t m.held job))
      (ticket_given old.tickets)
      did
