-- In every run a job removes the name that its deferral named.
use Rattle.std.proofs.Common.{◌≡◌, ◌≢◌, ℕ, ◌+◌, ◌<◌, ◌≤◌, Bool, List, [], ◌∷◌, ◌++◌, length, Option, Some, None, ◌⊎◌}
use Rattle.std.proofs.Common.{inl, inr, refl, ap, sym, subst, ◌∙◌, arith, slice_set, slice_index_or}
use Rattle.epoch_bags.specs.Stores.{IsInserted}
use Rattle.epoch_cells.specs.declared.cells.name.Name.{Name}
use Rattle.epoch_bags.specs.declared.job.Called.{Called}
use Rattle.epoch_bags.specs.declared.queue.PutStep.{PutStep}
use Rattle.epoch_bags.specs.declared.queue.PutStep.TheVariants.{Again, Done as PutDone, Full}
use Rattle.epoch_bags.specs.declared.queue.TakeStep.{TakeStep}
use Rattle.epoch_bags.specs.declared.queue.TakeStep.TheVariants.{Again as TakeAgain, Empty, Got}
use Rattle.epoch_machine.specs.declared.machine.Answer.TheVariants.{Job}
use Rattle.epoch_machine.specs.declared.machine.Sizes.{Sizes}
use Rattle.epoch_machine.specs.declared.machine.Stage.{Stage}
use Rattle.epoch_machine.specs.declared.machine.Stage.TheVariants.{Idle as Resting, LoadPin, StorePin, ReloadPin}
use Rattle.epoch_machine.specs.declared.machine.Stage.TheVariants.{LoadScan, Scan, Advance, Take, Calling, LoadSeal}
use Rattle.epoch_machine.specs.declared.machine.Stage.TheVariants.{Put, Keep, LoadRepin, StoreRepin, ReloadRepin}
use Rattle.epoch_machine.specs.declared.machine.Stage.TheVariants.{StoreUnpinned, StoreFree, End}
use Rattle.epoch_machine.specs.Machine.{Machine, ask_at, hears, put_heard, took_heard, PutsHeld, TakesHand}
use Rattle.epoch_laws.specs.declared.step.Call.{Call}
use Rattle.epoch_laws.specs.declared.step.Call.TheVariants.{DeferDestroy}
use Rattle.epoch_laws.specs.declared.heap.access.Ptr.{Ptr}
use Rattle.epoch_laws.specs.declared.step.Deferral.{Deferral}
use Rattle.epoch_laws.specs.declared.step.Entry.{Entry}
use Rattle.epoch_laws.specs.declared.step.Progress.{Progress}
use Rattle.epoch_laws.specs.declared.step.Progress.TheVariants.{Driven, Ends}
use Rattle.epoch_laws.specs.declared.step.Reply.{Reply}
use Rattle.epoch_laws.specs.declared.step.Reply.TheVariants.{Registered, Began, Stepped, Deferred, Done}
use Rattle.epoch_laws.specs.declared.step.Reply.TheVariants.{Called as CalledReply}
use Rattle.epoch_laws.specs.declared.heap.access.AccessAnswer.TheVariants.{Count}
use Rattle.epoch_laws.specs.declared.step.Step.{Step}
use Rattle.epoch_laws.specs.declared.step.Step.TheVariants.{Register, Begin, Go, End as EndStep, EndGo}
use Rattle.epoch_laws.specs.declared.step.Word.TheVariants.{Free}
use Rattle.epoch_laws.specs.Heap.{outcome_of, heap_after_job}
use Rattle.epoch_laws.specs.Reach.{DefersRemoval, Past, past_after, no_past}
use Rattle.epoch_laws.specs.Removals.{IsIn, IsInBags, IsAtEnd, IsInBag, IsAsDeferred, CallsAsDeferred}
use Rattle.epoch_laws.specs.Removals.{AsDeferredFrom, CallsWhatWasDeferred}
use Rattle.epoch_laws.specs.Run.{Bag, WorldSeat, State, Ending, Emptying, Over, seat_of, position_word, with_seat}
use Rattle.epoch_laws.specs.Run.{with_places, with_machine, free_seat, removed_by, begun_seat}
use Rattle.epoch_laws.specs.Run.{ended_seat, DrivesCall, Moves, TakesStep, Runs, IsFresh}
use Rattle.epoch_laws.proofs.StepKinds.{StepKind, Refusal, Registration, CallBegins, MachineStep, JobStep, CellsStep}
use Rattle.epoch_laws.proofs.StepKinds.{LastReply, EndBegins, EndCalls, EndTakes, EndIsOver, step_kind}
use Rattle.epoch_laws.proofs.SeatLemmas.{seat_written, seat_other, seat_there, same_or_other}
use Rattle.epoch_laws.proofs.QuietReplies.{IsQuiet, quiet_stepped, quiet_began, quiet_now, quiet_access, quiet_done}
use Rattle.epoch_laws.proofs.QuietReplies.{quiet_refused, quiet_end}
use Rattle.epoch_laws.proofs.SeatLinks.{AllLinked, follows_at}
use Rattle.epoch_laws.proofs.Linked.{step_linked, fresh_linked}
use Rattle.epoch_laws.proofs.GuardsStay.{machine_ended, held_begun, hand_begun}

-- BAGS

in_append : (job : Deferral) (xs ys : List Deferral) → IsIn job (xs ++ ys) → IsIn job xs ⊎ IsIn job ys
in_append job [] ys at = inr at
in_append job (x ∷ xs) ys (inl is) = inl (inl is)
in_append job (x ∷ xs) ys (inr at) = elim (in_append job xs ys at) [ inl one ↦ inl (inr one) | inr other ↦ inr other ]

bags_append : (job : Deferral) (xs ys : List Bag) → IsInBags job (xs ++ ys) → IsInBags job xs ⊎ IsInBags job ys
bags_append job [] ys at = inr at
bags_append job (x ∷ xs) ys (inl is) = inl (inl is)
bags_append job (x ∷ xs) ys (inr at) =
    elim (bags_append job xs ys at) [ inl one ↦ inl (inr one) | inr other ↦ inr other ]

bags_front : (job : Deferral) (xs ys : List Bag) → IsInBags job xs → IsInBags job (xs ++ ys)
bags_front job [] ys at = absurd at
bags_front job (x ∷ xs) ys (inl is) = inl is
bags_front job (x ∷ xs) ys (inr at) = inr (bags_front job xs ys at)

bags_back : (job : Deferral) (xs ys : List Bag) → IsInBags job ys → IsInBags job (xs ++ ys)
bags_back job [] ys at = at
bags_back job (x ∷ xs) ys at = inr (bags_back job xs ys at)

-- what is in the bags after one was put in
in_put : (job : Deferral) (bag : Bag) (old new : List Bag) → IsInserted bag old new → IsInBags job new
    → IsIn job bag.jobs ⊎ IsInBags job old
in_put job bag old new put at =
    elim (bags_append job put.front (bag ∷ put.back) (subst (IsInBags job) put.with at)) [
      | inl front ↦ inr (subst (IsInBags job) (sym put.without) (bags_front job put.front put.back front))
      | inr rest ↦ elim rest [
        | inl own ↦ inl own
        | inr back ↦ inr (subst (IsInBags job) (sym put.without) (bags_back job put.front put.back back))
      ]
    ]

in_bag : (job : Deferral) (bag : Bag) (old new : List Bag)
    → IsInserted bag old new → IsIn job bag.jobs → IsInBags job new
in_bag job bag old new put at =
    subst (IsInBags job) (sym put.with) (bags_back job put.front (bag ∷ put.back) (inl at))

in_others : (job : Deferral) (bag : Bag) (old new : List Bag)
    → IsInserted bag old new → IsInBags job old → IsInBags job new
in_others job bag old new put at =
    elim (bags_append job put.front put.back (subst (IsInBags job) put.without at)) [
      | inl front ↦ subst (IsInBags job) (sym put.with) (bags_front job put.front (bag ∷ put.back) front)
      | inr back ↦ subst (IsInBags job) (sym put.with) (bags_back job put.front (bag ∷ put.back) (inr back))
    ]

-- WHAT A STEP DOES TO JOBS

-- the reply tells of no job that has a ticket
pub record TellsNoJob (r : Reply) : Type 0 where
  pub deferred : (t : ℕ) → r ≢ Deferred t
  pub called : (t : ℕ) (how : Called) → r ≢ CalledReply t how

no_job : (r told : Reply)
    → r ≡ told → ((t : ℕ) → told ≢ Deferred t) → ((t : ℕ) (how : Called) → told ≢ CalledReply t how)
    → TellsNoJob r
no_job r told e a b = record { deferred = λ t h. a t (sym e ∙ h); called = λ t how h. b t how (sym e ∙ h) }

quiet_job : (r : Reply) → IsQuiet r → TellsNoJob r
quiet_job r quiet = record { deferred = quiet.plain.deferred; called = quiet.called }

-- p's deferral is accepted by this step, and this is its job
pub record IsNewJob (old : State) (step : Step) (reply : Reply) (job : Deferral) : Type 0 where
  pub who : ℕ
  pub goes : step ≡ Go who
  pub deferred : reply ≡ Deferred old.tickets
  pub ticket : job.ticket ≡ old.tickets
  pub removes : job.removes ≡ removed_by (seat_of old who).progress

-- the job of a ticket is called
pub record CallsOne (old new : State) (t : ℕ) (how : Called) : Type 0 where
  pub job : Deferral
  pub there : IsInBag old job
  pub ticket : job.ticket ≡ t
  pub outcome : how ≡ outcome_of old.heap job.removes
  pub heap : new.heap ≡ heap_after_job old.heap job.removes

-- What a step does to jobs: each job in a bag was in one before or is new, a deferral gets the next ticket, and a job
-- that is called was in a bag.
pub record JobsGo (old new : State) (step : Step) (reply : Reply) : Type 0 where
  pub jobs : (job : Deferral) → IsInBag new job → IsInBag old job ⊎ IsNewJob old step reply job
  pub tickets : old.tickets ≤ new.tickets
  pub deferred : (t : ℕ) → reply ≡ Deferred t → (t ≡ old.tickets) × (t < new.tickets)
  pub called : (t : ℕ) (how : Called) → reply ≡ CalledReply t how → CallsOne old new t how

module _ (old new : State) (step : Step) (reply : Reply) where
  abbrev Goal : Type 0
  Goal = JobsGo old new step reply

  abbrev Was : Deferral → Type 0
  Was job = IsInBag old job ⊎ IsNewJob old step reply job

  -- where no job is new and none is called
  quietly : TellsNoJob reply → old.tickets ≤ new.tickets → ((job : Deferral) → IsInBag new job → IsInBag old job) → Goal
  quietly quiet tickets jobs = record {
    jobs = λ job at. inl (jobs job at);
    tickets = tickets;
    deferred = λ t e. absurd (quiet.deferred t e);
    called = λ t how e. absurd (quiet.called t how e);
  }

  -- the seat of p is written, and perhaps the store
  jobs_after : (p : ℕ) (after : WorldSeat) (last : State) → p < length old.seats → last.sizes ≡ old.sizes
      → last.seats ≡ slice_set old.seats p after → last.ending ≡ old.ending
      → ((job : Deferral) → IsIn job after.machine.held ⊎ IsIn job after.machine.hand → Was job)
      → ((job : Deferral) → IsInBags job last.queued → Was job)
      → (job : Deferral) → IsInBag last job → Was job
  jobs_after p after last there sizes seats ending own queued job (inr (inl at)) = queued job at
  jobs_after p after last there sizes seats ending own queued job (inr (inr at)) =
      inl (inr (inr (subst (IsAtEnd job) ending at)))
  jobs_after p after last there sizes seats ending own queued job (inl (q, at)) = elim (same_or_other q p) [
    | inl is ↦
        own job
        (subst InSeat (looked_up q ∙ ap (seat_of (with_seat old p after)) is ∙ seat_written old p after there) at)
    | inr ne ↦ inl (inl (q, subst InSeat (looked_up q ∙ seat_other old p q after ne) at))
  ]
    where
      InSeat : WorldSeat → Type 0
      InSeat seat = IsIn job seat.machine.held ⊎ IsIn job seat.machine.hand

      looked_up : (q : ℕ) → seat_of last q ≡ seat_of (with_seat old p after) q
      looked_up q = ap (λ (all : List WorldSeat). slice_index_or all q (free_seat last.sizes)) seats
          ∙ ap (λ (z : Sizes). slice_index_or (slice_set old.seats p after) q (free_seat z)) sizes

  -- the seat of p is written, and perhaps the store, and the reply tells of no job
  writes : (p : ℕ) (after : WorldSeat) (last : State) → p < length old.seats → TellsNoJob reply → new ≡ last
      → last.sizes ≡ old.sizes → last.seats ≡ slice_set old.seats p after → last.ending ≡ old.ending
      → last.tickets ≡ old.tickets
      → ((job : Deferral) → IsIn job after.machine.held ⊎ IsIn job after.machine.hand → Was job)
      → ((job : Deferral) → IsInBags job last.queued → Was job) → Goal
  writes p after last there none e sizes seats ending tickets own queued =
      subst (λ (s : State). JobsGo old s step reply) (sym e) (record {
        jobs = jobs_after p after last there sizes seats ending own queued;
        tickets = omega (arith, tickets);
        deferred = λ t told. absurd (none.deferred t told);
        called = λ t how told. absurd (none.called t how told);
      })

-- A STEP GO

module _ (old new : State) (step : Step) (reply : Reply) (p : ℕ) (on : step ≡ Go p)
    (taken : position_word old p ≢ Free) where
  abbrev seat : WorldSeat
  seat = seat_of old p

  abbrev m : Machine Deferral
  m = seat.machine

  abbrev Shown : Type 0
  Shown = JobsGo old new step reply

  abbrev AtOld : Deferral → Type 0
  AtOld job = IsInBag old job ⊎ IsNewJob old step reply job

  -- what p has in its bags after the step, and what is in the store
  abbrev OwnJobs : WorldSeat → Type 0
  OwnJobs after = (job : Deferral) → IsIn job after.machine.held ⊎ IsIn job after.machine.hand → AtOld job

  abbrev Queued : List Bag → Type 0
  Queued bags = (job : Deferral) → IsInBags job bags → AtOld job

  own_same : (after : WorldSeat) → after.machine.held ≡ m.held → after.machine.hand ≡ m.hand → OwnJobs after
  own_same after held hand job (inl at) = inl (inl (p, inl (subst (IsIn job) held at)))
  own_same after held hand job (inr at) = inl (inl (p, inr (subst (IsIn job) hand at)))

  queued_same : (bags : List Bag) → bags ≡ old.queued → Queued bags
  queued_same bags e job at = inl (inr (inl (subst (IsInBags job) e at)))

  goes : (after : WorldSeat) (last : State) → TellsNoJob reply → new ≡ last → last.sizes ≡ old.sizes
      → last.seats ≡ slice_set old.seats p after → last.ending ≡ old.ending → last.tickets ≡ old.tickets
      → OwnJobs after → Queued last.queued → Shown
  goes after last = writes old new step reply p after last (seat_there old p taken)

  -- p's jobs and the store stay
  keeps : (after : WorldSeat) (last : State)
      → TellsNoJob reply → after.machine.held ≡ m.held → after.machine.hand ≡ m.hand
      → new ≡ last → last.sizes ≡ old.sizes → last.seats ≡ slice_set old.seats p after → last.ending ≡ old.ending
      → last.tickets ≡ old.tickets → last.queued ≡ old.queued → Shown
  keeps after last none held hand e sizes seats ending tickets queued =
      goes after last none e sizes seats ending tickets (own_same after held hand) (queued_same last.queued queued)

  steps : (n : Machine Deferral) (last : State) → reply ≡ Stepped → n.held ≡ m.held → n.hand ≡ m.hand
      → new ≡ last → last.sizes ≡ old.sizes → last.seats ≡ slice_set old.seats p (with_machine seat n)
      → last.ending ≡ old.ending → last.tickets ≡ old.tickets → last.queued ≡ old.queued → Shown
  steps n last told held hand e sizes seats ending tickets queued =
      keeps (with_machine seat n) last (quiet_job reply (quiet_stepped reply told)) held hand e sizes seats ending
      tickets queued

  took : (y k : ℕ) (step : TakeStep) (jobs : List Deferral) (bags : List Bag) → TakesHand y old.queued step bags jobs
      → OwnJobs (with_machine seat (took_heard m (Take y k) step jobs)) × Queued bags
  took y k TakeAgain jobs bags same =
      (own_same (with_machine seat (took_heard m (Take y k) TakeAgain jobs)) refl refl, queued_same bags same)
  took y k Empty jobs bags same =
      (own_same (with_machine seat (took_heard m (Take y k) Empty jobs)) refl refl, queued_same bags same)
  took y k Got jobs bags (bag, all, expired, out) =
      (own, λ job at. inl (inr (inl (in_others job bag bags old.queued out at))))
    where
      own : OwnJobs (with_machine seat (took_heard m (Take y k) Got jobs))
      own job (inl at) = inl (inl (p, inl at))
      own job (inr at) = inl (inr (inl (in_bag job bag bags old.queued out (subst (IsIn job) (sym all) at))))

  put : (seal : ℕ) (step : PutStep) (bags : List Bag) → PutsHeld seal m old.queued step bags
      → OwnJobs (with_machine seat (put_heard m step)) × Queued bags
  put seal Again bags same = (own_same (with_machine seat (put_heard m Again)) refl refl, queued_same bags same)
  put seal Full bags same = (own_same (with_machine seat (put_heard m Full)) refl refl, queued_same bags same)
  put seal PutDone bags into = (own, queued)
    where
      own : OwnJobs (with_machine seat (put_heard m PutDone))
      own job (inl at) = absurd at
      own job (inr at) = inl (inl (p, inr at))

      queued : Queued bags
      queued job at = elim (in_put job _ old.queued bags into at) [
        | inl held ↦ inl (inl (p, inl held))
        | inr rest ↦ inl (inr (inl rest))
      ]

  -- the job of the ticket that is given now is kept
  keeps_job : reply ≡ Deferred old.tickets
      → new ≡ record
      (with_seat old p
      (with_machine seat
      (hears m Keep (Job (record { ticket = old.tickets; removes = removed_by seat.progress })))))
      { tickets = old.tickets + 1 }
      → Shown
  keeps_job told e = subst (λ (s : State). JobsGo old s step reply) (sym e) (record {
    jobs =
        jobs_after old old step reply p after (record (with_seat old p after) { tickets = old.tickets + 1 })
        (seat_there old p taken) refl refl refl own (queued_same old.queued refl);
    tickets = omega arith;
    deferred = λ t is. let same : t ≡ old.tickets = cc (told, is) in (same, omega (arith, same));
    called = λ t how is. absurd (cc (told, is));
  })
    where
      job_kept : Deferral
      job_kept = record { ticket = old.tickets; removes = removed_by seat.progress }

      after : WorldSeat
      after = with_machine seat (hears m Keep (Job job_kept))

      at_last : (job : Deferral) → IsIn job (job_kept ∷ []) → AtOld job
      at_last job (inl is) = inr (record {
        who = p;
        goes = on;
        deferred = told;
        ticket = ap (λ (j : Deferral). j.ticket) (sym is);
        removes = ap (λ (j : Deferral). j.removes) (sym is);
      })
      at_last job (inr none) = absurd none

      own : OwnJobs after
      own job (inr at) = inl (inl (p, inr at))
      own job (inl at) = elim (in_append job m.held (job_kept ∷ []) at) [
        | inl held ↦ inl (inl (p, inl held))
        | inr last ↦ at_last job last
      ]

  -- the first job in hand is called
  calls : (n : Machine Deferral) (job : Deferral) (jobs : List Deferral) → m.hand ≡ job ∷ jobs
      → n.held ≡ m.held → n.hand ≡ jobs → reply ≡ CalledReply job.ticket (outcome_of old.heap job.removes)
      → new ≡ record (with_seat old p (with_machine seat n)) { heap = heap_after_job old.heap job.removes } → Shown
  calls n job jobs hand held left told e = subst (λ (s : State). JobsGo old s step reply) (sym e) (record {
    jobs = jobs_after old old step reply p (with_machine seat n)
        (record (with_seat old p (with_machine seat n)) { heap = heap_after_job old.heap job.removes })
        (seat_there old p taken) refl refl refl own (queued_same old.queued refl);
    tickets = omega arith;
    deferred = λ t is. absurd (cc (told, is));
    called = λ t how is. record {
      job = job;
      there = inl (p, inr (subst (IsIn job) (sym hand) (inl refl)));
      ticket = cc (told, is);
      outcome = cc (told, is);
      heap = refl;
    };
  })
    where
      own : OwnJobs (with_machine seat n)
      own other (inl at) = inl (inl (p, inl (subst (IsIn other) held at)))
      own other (inr at) = inl (inl (p, inr (subst (IsIn other) (sym hand) (inr (subst (IsIn other) left at)))))

  drives : (c : Call) (s : Stage) → DrivesCall old p seat c s (ask_at s) reply new → Shown
  drives c Resting did = keeps (ended_seat c seat) _ (quiet_job reply (quiet_end reply c seat did.0))
      (ap (λ (n : Machine Deferral). n.held) (machine_ended seat c))
      (ap (λ (n : Machine Deferral). n.hand) (machine_ended seat c))
      did.1 refl refl refl refl refl
  drives c (StorePin e) did =
      keeps _ _ (no_job reply _ did.0 (λ t h. cc) (λ t how h. cc)) refl refl did.1 refl refl refl refl refl
  drives c (Take y k) (step, jobs, bags, told, takes, e) = let jobs_there = took y k step jobs bags takes in
      goes _ _ (quiet_job reply (quiet_stepped reply told)) e refl refl refl refl jobs_there.0 jobs_there.1
  drives c (Calling y k) (job, jobs, hand, told, e) = calls _ job jobs hand refl refl told e
  drives c (Put s) (step, bags, told, puts, e) = let jobs_there = put s step bags puts in
      goes _ _ (quiet_job reply (quiet_stepped reply told)) e refl refl refl refl jobs_there.0 jobs_there.1
  drives c Keep did = keeps_job did.0 did.1
  drives c (StoreRepin e) did =
      keeps _ _ (no_job reply _ did.0 (λ t h. cc) (λ t how h. cc)) refl refl did.1 refl refl refl refl refl
  drives c StoreUnpinned did =
      keeps _ _ (no_job reply _ did.0 (λ t h. cc) (λ t how h. cc)) refl refl did.1 refl refl refl refl refl
  drives c StoreFree did =
      goes (free_seat old.sizes) _ (quiet_job reply (quiet_done reply _ did.0)) did.1 refl refl refl refl
      none_left (queued_same old.queued refl)
    where
      none_left : OwnJobs (free_seat old.sizes)
      none_left job (inl at) = absurd at
      none_left job (inr at) = absurd at
  drives c End did = keeps (ended_seat c seat) _ (quiet_job reply (quiet_end reply c seat did.0))
      (ap (λ (n : Machine Deferral). n.held) (machine_ended seat c))
      (ap (λ (n : Machine Deferral). n.hand) (machine_ended seat c))
      did.1 refl refl refl refl refl
  drives c _ did = steps _ _ did.0 refl refl did.1 refl refl refl refl refl

-- EVERY STEP

-- a step of the end, at which this is left in the store and in hand
closes : (old : State) (step : Step) (reply : Reply) (queued : List Bag) (ending : Ending) → TellsNoJob reply
    → ((job : Deferral) → IsInBags job queued ⊎ IsAtEnd job ending → IsInBag old job)
    → JobsGo old (record old { queued = queued; ending = ending }) step reply
closes old step reply queued ending none rest =
    quietly old (record old { queued = queued; ending = ending }) step reply none (omega arith) there
  where
    there : (job : Deferral) → IsInBag (record old { queued = queued; ending = ending }) job → IsInBag old job
    there job (inl is) = inl is
    there job (inr is) = rest job is

kind_jobs : (old : State) → AllLinked old → (step : Step) (reply : Reply) (new : State) → StepKind old step reply new
    → JobsGo old new step reply
kind_jobs old linked _ _ _ (Refusal step fault) =
    quietly old old step _ (quiet_job _ (quiet_refused _ fault refl)) (omega arith) (λ job at. at)
kind_jobs old linked _ _ _ (Registration p opened there free) = writes old _ Register (Registered p) p _ _ there
    (no_job _ _ refl (λ t h. cc) (λ t how h. cc)) refl refl refl refl refl none_left (λ job at. inl (inr (inl at)))
  where
    none_left : (job : Deferral) → ⊥ ⊎ ⊥ → IsInBag old job ⊎ IsNewJob old Register (Registered p) job
    none_left job (inl none) = absurd none
    none_left job (inr none) = absurd none
kind_jobs old linked _ _ _ (CallBegins p c given) = writes old _ (Begin p c) Began p _ _ (seat_there old p given.taken)
    (quiet_job _ (quiet_began _ refl)) refl refl refl refl refl own (λ job at. inl (inr (inl at)))
  where
    own : (job : Deferral)
        → IsIn job (begun_seat c (seat_of old p)).machine.held ⊎ IsIn job (begun_seat c (seat_of old p)).machine.hand
        → IsInBag old job ⊎ IsNewJob old (Begin p c) Began job
    own job (inl at) = inl (inl (p, inl (subst (IsIn job) (held_begun (seat_of old p) c) at)))
    own job (inr at) = inl (inl (p, inr (subst (IsIn job) (hand_begun (seat_of old p) c) at)))
kind_jobs old linked _ _ _ (MachineStep p c reply new taken drive did) =
    drives old new (Go p) reply p refl taken c _ did
kind_jobs old linked _ _ _ (JobStep p removes taken now) = keeps old _ (Go p) _ p refl taken _ _
    (quiet_job _ (quiet_now _ _ refl)) refl refl refl refl refl refl refl refl
kind_jobs old linked _ _ _ (CellsStep p a k found did taken now touches) = keeps old _ (Go p) _ p refl taken _ _
    (quiet_job _ (quiet_access _ did.told refl)) refl refl refl refl refl refl refl refl
kind_jobs old linked _ _ _ (LastReply p reply taken now) =
    let done = (follows_at old.sizes (seat_of old p) (linked.seats p) (Ends reply) now).1 in
    keeps old _ (Go p) reply p refl taken _ _ (quiet_job reply (quiet_done reply _ done.1)) refl refl refl refl refl
    refl refl refl
kind_jobs old linked _ _ _ (EndBegins opened free) =
    closes old EndStep Began old.queued (Emptying [] 0) (quiet_job _ (quiet_began _ refl)) rest
  where
    rest : (job : Deferral) → IsInBags job old.queued ⊎ ⊥ → IsInBag old job
    rest job (inl is) = inr (inl is)
    rest job (inr is) = absurd is
kind_jobs old linked _ _ _ (EndCalls job jobs n at) = record {
  jobs = λ other is. inl (there other is);
  tickets = omega arith;
  deferred = λ t is. absurd (cc (is));
  called = λ t how is. record {
    job = job;
    there = inr (inr (subst (IsAtEnd job) (sym at) (inl refl)));
    ticket = cc (is);
    outcome = cc (is);
    heap = refl;
  };
}
  where
    there : (other : Deferral)
        → IsInBag (record old { ending = Emptying jobs (n + 1); heap = heap_after_job old.heap job.removes }) other
        → IsInBag old other
    there other (inl is) = inl is
    there other (inr (inl is)) = inr (inl is)
    there other (inr (inr is)) = inr (inr (subst (IsAtEnd other) (sym at) (inr is)))
kind_jobs old linked _ _ _ (EndTakes bag queued n at out) =
    closes old EndGo Stepped queued (Emptying bag.jobs n) (quiet_job _ (quiet_stepped _ refl)) rest
  where
    rest : (job : Deferral) → IsInBags job queued ⊎ IsIn job bag.jobs → IsInBag old job
    rest job (inl is) = inr (inl (in_others job bag queued old.queued out is))
    rest job (inr is) = inr (inl (in_bag job bag queued old.queued out is))
kind_jobs old linked _ _ _ (EndIsOver n at none) =
    closes old EndGo (Done (Count n)) old.queued Over (quiet_job _ (quiet_done _ (Count n) refl)) rest
  where
    rest : (job : Deferral) → IsInBags job old.queued ⊎ ⊥ → IsInBag old job
    rest job (inl is) = inr (inl is)
    rest job (inr is) = absurd is

-- where all participants are linked, a step makes no job but by a deferral, and calls none but out of a bag
pub jobs_go : (old new : State) (step : Step) (reply : Reply) → AllLinked old → (s : Step) → step ≡ s
    → Moves old s reply new → JobsGo old new step reply
jobs_go old new step reply linked s on did = subst (λ (t : Step). JobsGo old new t reply) (sym on)
    (kind_jobs old linked s reply new (step_kind old new s reply did))

-- a deferral of the name's removal is under way
record IsRemoval (progress : Progress) (x : Name) : Type 0 where
  guard : Option ℕ
  pointer : Ptr
  name : pointer.name ≡ Some x
  call : progress ≡ Driven (DeferDestroy guard pointer)

removal_in : (progress : Progress) (x : Name) → removed_by progress ≡ Some x → IsRemoval progress x
removal_in (Driven (DeferDestroy g ptr)) x e = record { guard = g; pointer = ptr; name = e; call = refl }
removal_in _ x e = absurd (cc)

-- WHAT HOLDS BETWEEN ANY TWO STEPS

pub record JobsHold (s : State) (past : Past) : Type 1 where
  pub jobs : (job : Deferral) → IsInBag s job → (job.ticket < s.tickets) × IsAsDeferred past job
  pub given : (t : ℕ) (x : Name) → past.removes t x → t < s.tickets

module _ (old new : State) (past : Past) (entry : Entry) (h : JobsHold old past)
    (go : JobsGo old new entry.step entry.reply) where
  abbrev next : Past
  next = past_after past old entry new

  -- a ticket that was given before isn't given now
  not_again : (t : ℕ) (x : Name) → t < old.tickets → next.removes t x → past.removes t x
  not_again t x lt (inl was) = was
  not_again t x lt (inr defers) = absurd (omega (arith, (go.deferred t defers.reply).0))

  old_job : (job : Deferral) → (job.ticket < old.tickets) × IsAsDeferred past job
      → (job.ticket < new.tickets) × IsAsDeferred next job
  old_job job (lt, says) = (
    omega (arith, go.tickets),
    record {
      named = λ x removes. says.named x (not_again job.ticket x lt removes);
      removed = λ x e. inl (says.removed x e);
    },
  )

  new_job : (job : Deferral)
      → IsNewJob old entry.step entry.reply job → (job.ticket < new.tickets) × IsAsDeferred next job
  new_job job fresh = (
    omega (arith, fresh.ticket, (go.deferred old.tickets fresh.deferred).1),
    record {
      named = λ x removes. elim removes [
        | inl was ↦ absurd (omega (arith, fresh.ticket, h.given job.ticket x was))
        | inr defers ↦ let same : fresh.who ≡ defers.who = cc (fresh.goes, defers.step) in
            fresh.removes ∙ ap (λ (p : ℕ). removed_by (seat_of old p).progress) same ∙ ap removed_by defers.progress
            ∙ defers.name
      ];
      removed = λ x e. inr (by_call x (removal_in (seat_of old fresh.who).progress x (sym fresh.removes ∙ e)));
    },
  )
    where
      by_call : (x : Name) → IsRemoval (seat_of old fresh.who).progress x → DefersRemoval old entry job.ticket x
      by_call x removal = record {
        who = fresh.who;
        step = fresh.goes;
        reply = fresh.deferred ∙ ap Deferred (sym fresh.ticket);
        guard = removal.guard;
        pointer = removal.pointer;
        name = removal.name;
        progress = removal.call;
      }

  -- what holds of jobs and their tickets holds after the step too
  pub jobs_push : JobsHold new next
  jobs_push = record {
    jobs = λ job at. elim (go.jobs job at) [ inl was ↦ old_job job (h.jobs job was) | inr fresh ↦ new_job job fresh ];
    given = λ t x removes. elim removes [
      | inl was ↦ omega (arith, go.tickets, h.given t x was)
      | inr defers ↦ (go.deferred t defers.reply).1
    ];
  }

  -- a job that the step calls removes the name that its deferral named, or is work
  pub calls_push : CallsAsDeferred past old entry new
  calls_push = record {
    removal = λ t how x told removes.
        let call = go.called t how told in
        let named : call.job.removes ≡ Some x =
        (h.jobs call.job call.there).1.named x (subst (λ (u : ℕ). past.removes u x) (sym call.ticket) removes) in
        (call.outcome ∙ ap (outcome_of old.heap) named, call.heap ∙ ap (heap_after_job old.heap) named);
    work = λ t how told none.
        let call = go.called t how told in
        let nothing : call.job.removes ≡ None = unnamed call.job.removes
        (λ x e. none x
        (subst (λ (u : ℕ). past.removes u x) call.ticket ((h.jobs call.job call.there).1.removed x e))) in
        (call.outcome ∙ ap (outcome_of old.heap) nothing, call.heap ∙ ap (heap_after_job old.heap) nothing);
  }
    where
      unnamed : (name : Option Name) → ((x : Name) → ¬ (name ≡ Some x)) → name ≡ None
      unnamed None not_some = refl
      unnamed (Some x) not_some = absurd (not_some x refl)

-- WHOLE RUNS

-- the places play no part
jobs_aside : (old new : State) (places : List Bool) (seen ahead : List ℕ) (room : List Bool) (step : Step)
    (reply : Reply)
    → JobsGo old (with_places new places seen ahead room) step reply → JobsGo old new step reply
jobs_aside old new places seen ahead room step reply go = record {
  jobs = go.jobs;
  tickets = go.tickets;
  deferred = go.deferred;
  called = λ t how told. let call = go.called t how told in
      record { job = call.job; there = call.there; ticket = call.ticket; outcome = call.outcome; heap = call.heap };
}

-- where all participants are linked, a step of a run makes no job but by a deferral, whatever it sees of the places
pub step_jobs : (old new : State) (entry : Entry) → AllLinked old → TakesStep old entry.step entry.reply new
    → JobsGo old new entry.step entry.reply
step_jobs old new entry linked did = jobs_aside old new old.places old.seen old.ahead old.room entry.step entry.reply
    (jobs_go old _ entry.step entry.reply linked entry.step refl did.0)

runs_as_deferred : (old new : State) (log : List Entry) (past : Past) → AllLinked old → JobsHold old past
    → (run : Runs old log new) → AsDeferredFrom past old log new run
runs_as_deferred old new [] past linked h run = λ job at. (h.jobs job at).1
runs_as_deferred old new (x ∷ log) past linked h (mid, did, run) =
    let go : JobsGo old mid x.step x.reply = step_jobs old mid x linked did in (
      λ job at. (h.jobs job at).1,
      calls_push old mid past x h go,
      runs_as_deferred mid new log (past_after past old x mid) (step_linked old mid x.step x.reply linked did)
          (jobs_push old mid past x h go) run,
    )

-- what holds of jobs and their tickets holds of a new world, where no bag has a job and no removal was deferred
pub fresh_jobs : (s : State) → IsFresh s → JobsHold s no_past
fresh_jobs s fresh = record { jobs = λ job at. absurd (none job at); given = λ t x none. absurd none }
  where
    none : (job : Deferral) → ¬ (IsInBag s job)
    none job (inl (p, inl at)) = subst (IsIn job) (ap (λ (seat : WorldSeat). seat.machine.held) (fresh.free p)) at
    none job (inl (p, inr at)) = subst (IsIn job) (ap (λ (seat : WorldSeat). seat.machine.hand) (fresh.free p)) at
    none job (inr (inl at)) = subst (IsInBags job) fresh.none_queued at
    none job (inr (inr at)) = subst (IsAtEnd job) fresh.open_end at

-- in every run of a new world a job that is called removes the name that its deferral named, or is work
pub calls_as_deferred : (s new : State) (log : List Entry) → IsFresh s → (run : Runs s log new)
    → CallsWhatWasDeferred s log new run
calls_as_deferred s new log fresh run =
    runs_as_deferred s new log no_past (fresh_linked s fresh) (fresh_jobs s fresh) run
