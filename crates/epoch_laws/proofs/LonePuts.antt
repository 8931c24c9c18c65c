-- A call that nobody disturbs finds a place for its bag, where some place is free.
use Rattle.std.proofs.Common.{◌≡◌, ◌≢◌, ℕ, ◌-◌, ◌^◌, ◌<◌, ◌≤◌, ◌==◌, nat_le, Bool, true, false, not, List, [], ◌∷◌}
use Rattle.std.proofs.Common.{length, Option, Some, None, inl, inr, refl, ap, sym, subst, ◌∙◌, arith, if◌then◌else◌}
use Rattle.epoch_cells.specs.declared.fault.Fault.{Fault}
use Rattle.epoch_cells.specs.declared.fault.Fault.TheVariants.{BagsFull, Busy, NotRegistered, Idle as IdleFault}
use Rattle.epoch_cells.specs.declared.fault.Fault.TheVariants.{StrangerGuard, TooManyGuards, TicketsOut, GuardsOut}
use Rattle.epoch_cells.specs.declared.fault.Fault.TheVariants.{NoSuchPlace, StrangerPointer}
use Rattle.epoch_cells.specs.declared.cells.name.Name.{Name}
use Rattle.epoch_bags.specs.Bags.{is_empty as no_names}
use Rattle.epoch_bags.specs.declared.queue.PutStep.{PutStep}
use Rattle.epoch_bags.specs.declared.queue.PutStep.TheVariants.{Again as PutAgain, Done as PutDone, Full}
use Rattle.epoch_bags.specs.declared.queue.TakeStep.{TakeStep}
use Rattle.epoch_bags.specs.declared.queue.TakeStep.TheVariants.{Again as TakeAgain, Empty, Got}
use Rattle.epoch_machine.specs.declared.machine.Action.{Action}
use Rattle.epoch_machine.specs.declared.machine.Action.TheVariants.{Pin as PinAction, Unpin as UnpinAction}
use Rattle.epoch_machine.specs.declared.machine.Action.TheVariants.{Repin as RepinAction, Defer as DeferAction}
use Rattle.epoch_machine.specs.declared.machine.Action.TheVariants.{Flush as FlushAction, Release as ReleaseAction}
use Rattle.epoch_machine.specs.declared.machine.Answer.TheVariants.{Stored, Job}
use Rattle.epoch_machine.specs.declared.machine.Ask.{Ask}
use Rattle.epoch_machine.specs.declared.machine.Stage.{Stage}
use Rattle.epoch_machine.specs.declared.machine.Stage.TheVariants.{Idle as Resting, LoadPin, StorePin, ReloadPin}
use Rattle.epoch_machine.specs.declared.machine.Stage.TheVariants.{LoadScan, Scan, Advance, Take, Calling, LoadSeal}
use Rattle.epoch_machine.specs.declared.machine.Stage.TheVariants.{Put, Keep, LoadRepin, StoreRepin, ReloadRepin}
use Rattle.epoch_machine.specs.declared.machine.Stage.TheVariants.{StoreUnpinned, StoreFree, End}
use Rattle.epoch_machine.specs.Machine.{Machine, ask_at, begun, first_stage, is_empty, hears, put_heard, took_heard}
use Rattle.epoch_machine.specs.Machine.{gives, with_stage, after_collect, after_pin, after_put, after_unpin, after_job}
use Rattle.epoch_machine.specs.Machine.{past_word, TakesHand}
use Rattle.epoch_machine.proofs.StagesAfter.{either_way, after_pin_at, past_word_at, after_job_at}
use Rattle.epoch_laws.specs.declared.heap.access.AccessAnswer.TheVariants.{Unit as UnitAnswer, Released}
use Rattle.epoch_laws.specs.declared.heap.access.Access.{Access}
use Rattle.epoch_laws.specs.declared.heap.access.Access.TheVariants.{Read, Leave}
use Rattle.epoch_laws.specs.declared.heap.access.Accessed.{Accessed}
use Rattle.epoch_laws.specs.declared.heap.access.Accessed.TheVariants.{Again, Answers, NoSlot}
use Rattle.epoch_laws.specs.Heap.{Heap, outcome_of, guard_of, has_place, knows_names, is_removable}
use Rattle.epoch_laws.specs.declared.step.Call.{Call}
use Rattle.epoch_laws.specs.declared.step.Call.TheVariants.{Pin, Unpin, Repin, Pause, Resume, Defer, Flush, Release}
use Rattle.epoch_laws.specs.declared.step.Call.TheVariants.{DeferDestroy, Access as AccessCall}
use Rattle.epoch_laws.specs.declared.step.Deferral.{Deferral}
use Rattle.epoch_laws.specs.declared.step.Entry.{Entry}
use Rattle.epoch_laws.specs.declared.step.Progress.{Progress}
use Rattle.epoch_laws.specs.declared.step.Progress.TheVariants.{Idle, Driven, CallsNow, Accesses, Ends as EndsNext}
use Rattle.epoch_laws.specs.declared.step.Reply.{Reply}
use Rattle.epoch_laws.specs.declared.step.Reply.TheVariants.{Stepped, Pinned as PinnedReply, Unpinned as UnpinnedReply}
use Rattle.epoch_laws.specs.declared.step.Reply.TheVariants.{Repinned, Deferred, Called as CalledReply, CalledNow}
use Rattle.epoch_laws.specs.declared.step.Reply.TheVariants.{Began, Done, Refused}
use Rattle.epoch_laws.specs.declared.step.Step.TheVariants.{Begin, Go}
use Rattle.epoch_laws.specs.declared.step.Word.TheVariants.{Free, Unpinned, Pinned}
use Rattle.epoch_laws.specs.Calls.{call_entries, goes_of, ends_call, EndsAtLast}
use Rattle.epoch_laws.specs.Kept.{AllLinked, IsDriven, rests}
use Rattle.epoch_laws.specs.Room.{is_putting, is_at_places, PutTellsRoom, TellsRoom}
use Rattle.epoch_laws.specs.Run.{Bag, WorldSeat, State, HasFreePlace, seat_of, position_word, word_number, with_seat}
use Rattle.epoch_laws.specs.Run.{with_machine, with_word, with_places, free_seat, room_of, turn_at, turn_of}
use Rattle.epoch_laws.specs.Run.{full_or_done, end_reply, begun_seat, ended_seat, refusal, call_refusal, guard_refusal}
use Rattle.epoch_laws.specs.Run.{resume_refusal, under_guard, reading_refusal, access_refusal, reads, removed_by}
use Rattle.epoch_laws.specs.Run.{access_reply, accessed_seat, is_free, is_idle, is_out, waits, BeginsCall, DrivesCall}
use Rattle.epoch_laws.specs.Run.{DoesGo, TakesStep, Runs, IsFresh}
use Rattle.epoch_laws.proofs.Linked.{follows_at, step_linked, fresh_linked}
use Rattle.epoch_laws.proofs.PutsFind.{same_count, turn_taken}
use Rattle.epoch_laws.proofs.SeatLemmas.{seat_there, seat_written, seat_other, begin_given}
use Rattle.epoch_laws.proofs.StoredBags.{one_less}
use Rattle.epoch_laws.specs.Sharp.{EndsIn, EndsCall}
use Rattle.epoch_laws.proofs.FirstRound.{runs_linked}

-- WHAT A CALL RESTS ON, BY ITS STAGE

-- Before the load of a seal a place is free; a release may come to it after its collection. The put has room.
abbrev HasPlaceAt : Type 0 → Bool → Action → Stage → Type 0
HasPlaceAt Open room a (Put seal) = room ≡ true
HasPlaceAt Open room a LoadSeal = Open
HasPlaceAt Open room a LoadPin = a ≡ ReleaseAction → Open
HasPlaceAt Open room a (StorePin e) = a ≡ ReleaseAction → Open
HasPlaceAt Open room a ReloadPin = a ≡ ReleaseAction → Open
HasPlaceAt Open room a LoadScan = a ≡ ReleaseAction → Open
HasPlaceAt Open room a (Scan e k) = a ≡ ReleaseAction → Open
HasPlaceAt Open room a (Advance e) = a ≡ ReleaseAction → Open
HasPlaceAt Open room a (Take x k) = a ≡ ReleaseAction → Open
HasPlaceAt Open room a (Calling x k) = a ≡ ReleaseAction → Open
HasPlaceAt Open room a _ = Unit {0}

module _ (Open : Type 0) (room : Bool) where
  collected : (a : Action) (held : List Deferral)
      → (a ≡ ReleaseAction → Open) → HasPlaceAt Open room a (after_collect a held)
  collected ReleaseAction (job ∷ jobs) h = h refl
  collected _ _ h = tt

  pinned : (m : Machine Deferral) → (m.action ≡ ReleaseAction → Open) → HasPlaceAt Open room m.action (after_pin m)
  pinned m h = after_pin_at (HasPlaceAt Open room m.action) m h (collected m.action m.held h)

  looked : (a : Action) (positions e k w : ℕ)
      → (a ≡ ReleaseAction → Open) → HasPlaceAt Open room a (past_word positions e k w)
  looked a positions e k w h = past_word_at (HasPlaceAt Open room a) positions e k w h h h

  called : (m : Machine Deferral) (x k : ℕ) (jobs : List Deferral)
      → (m.action ≡ ReleaseAction → Open) → HasPlaceAt Open room m.action (after_job m x k jobs)
  called m x k jobs h = after_job_at (HasPlaceAt Open room m.action) m x k jobs h h (collected m.action m.held h)

  put_over : (a : Action) → HasPlaceAt Open room a (after_put a false)
  put_over FlushAction = λ e. absurd (cc (e))
  put_over _ = tt

  unpinned : (a : Action) (full : Bool) → HasPlaceAt Open room a (after_unpin a full)
  unpinned ReleaseAction true = tt
  unpinned _ _ = tt

-- no put begins after a put at once
pub none_putting : (a : Action) (full : Bool) → is_putting (after_put a full) ≡ false
none_putting DeferAction true = refl
none_putting _ _ = refl

-- the same of a machine, which has found no store full; one that rests has nothing to rest on
abbrev Ready : Type 0 → Bool → Machine Deferral → Stage → Type 0
Ready Open room m Resting = Unit {0}
Ready Open room m s = (m.full ≡ false) × HasPlaceAt Open room m.action s

ready_of : (Open : Type 0) (room : Bool) (m : Machine Deferral) (s : Stage)
    → m.full ≡ false → HasPlaceAt Open room m.action s → Ready Open room m s
ready_of Open room m Resting none at = tt
ready_of Open room m _ none at = (none, at)

not_full : (Open : Type 0) (room : Bool) (m : Machine Deferral) (s : Stage)
    → rests s ≡ false → Ready Open room m s → (m.full ≡ false) × HasPlaceAt Open room m.action s
not_full Open room m Resting busy ready = absurd (cc (busy))
not_full Open room m _ busy ready = ready

-- where a call begins
abbrev Begun : Type 0 → Bool → Action → Machine Deferral → Type 0
Begun Open room a m = Ready Open room (begun a m) (first_stage a m)

begins_ready : (Open : Type 0) (room : Bool) (a : Action) (m : Machine Deferral) → Open → Begun Open room a m
begins_ready Open room PinAction m free =
    either_way (Ready Open room (begun PinAction m)) (m.guards == 0) LoadPin End (refl, λ e. free) (refl, tt)
begins_ready Open room UnpinAction m free =
    either_way (Ready Open room (begun UnpinAction m)) (m.guards == 1) StoreUnpinned End (refl, tt) (refl, tt)
begins_ready Open room RepinAction m free =
    either_way (Ready Open room (begun RepinAction m)) (m.guards == 1) LoadRepin End (refl, tt) (refl, tt)
begins_ready Open room DeferAction m free = either_way (Ready Open room (begun DeferAction m))
    (length m.held == m.sizes.bag_jobs) LoadSeal Keep (refl, free) (refl, tt)
begins_ready Open room FlushAction m free = either_way (Ready Open room (begun FlushAction m))
    (is_empty m.held) LoadScan LoadSeal (refl, λ e. free) (refl, free)
begins_ready Open room ReleaseAction m free = (refl, λ e. free)

-- A PARTICIPANT WHOM NOBODY DISTURBS

abbrev Open : State → Type 0
Open s = length s.queued < length s.places

-- nobody but p is putting or taking a bag, and what p's call rests on at its stage holds
pub record IsLone (p : ℕ) (s : State) : Type 0 where
  pub linked : AllLinked s
  pub others : (q : ℕ) → q ≢ p → is_at_places (seat_of s q).machine.stage ≡ false
  pub ready : position_word s p ≢ Free → Ready (Open s) (room_of s p) (seat_of s p).machine (seat_of s p).machine.stage

-- whether a reply, or a fault that refuses a call, tells that the bags are full
abbrev full_fault : Fault → Bool
full_fault BagsFull = true
full_fault _ = false

abbrev full_refusal : Option Fault → Bool
full_refusal (Some f) = full_fault f
full_refusal None = false

abbrev full_told : Reply → Bool
full_told (Refused f) = full_fault f
full_told _ = false

-- a step of a call on cells and pointers doesn't tell so
calm_access : (told : Accessed) → full_told (access_reply told) ≡ false
calm_access (Again ptr) = refl
calm_access (Answers answer) = refl
calm_access NoSlot = refl

not_told : (r told : Reply) → r ≡ told → full_told told ≡ false → r ≢ Refused BagsFull
not_told r told is calm full = let same : full_told told ≡ true = ap full_told (sym is ∙ full) in cc (calm, same)

-- ONE STEP GO OF p

module _ (p : ℕ) (old new : State) (r : Reply) (h : IsLone p old) (did : TakesStep old (Go p) r new) where
  abbrev seat : WorldSeat
  seat = seat_of old p

  abbrev m : Machine Deferral
  m = seat.machine

  abbrev aside : State
  aside = with_places new old.places old.seen old.ahead old.room

  abbrev Comes : Type 0
  Comes = (r ≢ Refused BagsFull) × IsLone p new

  linked : AllLinked new
  linked = step_linked old new (Go p) r h.linked did

  -- no further bag is in the store
  still_open : length new.queued ≤ length old.queued → Open old → Open new
  still_open fewer free = omega (arith, fewer, free, same_count old new (Go p) did.1)

  same_open : new.queued ≡ old.queued → Open old → Open new
  same_open same = still_open (omega (arith, ap length same))

  -- p's seat is written so
  wrote : (told : Reply) (after : WorldSeat) (last : State) → r ≡ told → full_told told ≡ false → p < length old.seats
      → aside ≡ last → ((q : ℕ) → seat_of last q ≡ seat_of (with_seat old p after) q)
      → (after.word ≢ Free → Ready (Open new) (room_of new p) after.machine after.machine.stage) → Comes
  wrote told after last is calm there e writes ready = (
    not_told r told is calm,
    record {
      linked = linked;
      others = λ q other. ap (λ (s : WorldSeat). is_at_places s.machine.stage) (at q ∙ seat_other old p q after other)
          ∙ h.others q other;
      ready = subst (λ (s : WorldSeat). s.word ≢ Free → Ready (Open new) (room_of new p) s.machine s.machine.stage)
          (sym (at p ∙ seat_written old p after there)) ready;
    },
  )
    where
      at : (q : ℕ) → seat_of new q ≡ seat_of (with_seat old p after) q
      at q = ap (λ (s : State). seat_of s q) e ∙ writes q

  -- no seat is written
  stays : (told : Reply)
      → r ≡ told → full_told told ≡ false → aside ≡ old → (position_word old p ≢ Free → m.stage ≡ Resting) → Comes
  stays told is calm e resting = (
    not_told r told is calm,
    record {
      linked = linked;
      others = λ q other. ap (λ (s : State). is_at_places (seat_of s q).machine.stage) e ∙ h.others q other;
      ready = subst (λ (s : WorldSeat). s.word ≢ Free → Ready (Open new) (room_of new p) s.machine s.machine.stage)
          (sym (ap (λ (s : State). seat_of s p) e))
          (λ taken. subst (Ready (Open new) (room_of new p) m) (sym (resting taken)) tt);
    },
  )

  module _ (taken : position_word old p ≢ Free) where
    there : p < length old.seats
    there = seat_there old p taken

    -- of a call that the machine drives
    module _ (c : Call) (drive : seat.progress ≡ Driven c) where
      driven : IsDriven c m seat.guards
      driven = follows_at old.sizes seat (h.linked.seats p) (Driven c) drive

      abbrev Was : Stage → Type 0
      Was s = HasPlaceAt (Open old) (room_of old p) m.action s

      abbrev Is : Stage → Type 0
      Is t = HasPlaceAt (Open new) (room_of new p) m.action t

      abbrev Tells : Option Ask → Type 0
      Tells o = TellsRoom (HasFreePlace p old) o (seat_of new p).machine (room_of old p) (room_of new p)

      -- the machine goes on to another stage, and the store stays
      staged : (t : Stage) → m.full ≡ false → ((Open old → Open new) → Is t)
          → (r ≡ Stepped) × (aside ≡ with_seat old p (with_machine seat (with_stage m t))) → Comes
      staged t none is did = wrote Stepped (with_machine seat (with_stage m t)) _ did.0 refl there did.1 (λ q. refl)
          (λ w. ready_of (Open new) (room_of new p) (with_stage m t) t none
          (is (same_open (ap (λ (s : State). s.queued) did.1))))

      -- a bag fewer is in the store, or as many as before
      takes : (x k : ℕ) → m.stage ≡ Take x k → m.full ≡ false → (m.action ≡ ReleaseAction → Open old)
          → (step : TakeStep) (jobs : List Deferral) (queued : List Bag) → r ≡ Stepped
          → TakesHand x old.queued step queued jobs → aside
          ≡ record (with_seat old p (with_machine seat (took_heard m (Take x k) step jobs))) { queued = queued } → Comes
      takes x k at none free TakeAgain jobs queued told took e = wrote Stepped seat _ told refl there e (λ q. refl)
          (λ w. subst (Ready (Open new) (room_of new p) m) (sym at)
          (none, λ rel. same_open (ap (λ (s : State). s.queued) e ∙ took) (free rel)))
      takes x k at none free Empty jobs queued told took e = wrote Stepped
          (with_machine seat (with_stage m (after_collect m.action m.held))) _ told refl there e (λ q. refl)
          (λ w. ready_of (Open new) (room_of new p) (with_stage m (after_collect m.action m.held))
          (after_collect m.action m.held) none
          (collected (Open new) (room_of new p) m.action m.held
          (λ rel. same_open (ap (λ (s : State). s.queued) e ∙ took) (free rel))))
      takes x k at none free Got jobs queued told (bag, its, expired, inserted) e =
          wrote Stepped (with_machine seat (took_heard m (Take x k) Got jobs)) _ told refl there e (λ q. refl)
          (λ w. ready_of (Open new) (room_of new p) (took_heard m (Take x k) Got jobs) (after_job m x k jobs) none
          (called (Open new) (room_of new p) m x k jobs (λ rel. still_open
          (omega (arith, one_less old.queued queued bag inserted, ap (λ (s : State). length s.queued) e)) (free rel))))

      -- the put keeps its room, and so it isn't full at its end
      puts : (seal : ℕ) → m.stage ≡ Put seal → m.full ≡ false → room_of old p ≡ true
          → (step : PutStep) (queued : List Bag) → r ≡ Stepped
          → PutTellsRoom (seat_of new p).machine (room_of old p) (room_of new p)
          → aside ≡ record (with_seat old p (with_machine seat (put_heard m step))) { queued = queued } → Comes
      puts seal at none room PutAgain queued told tells e = wrote Stepped seat _ told refl there e (λ q. refl)
          (λ w. subst (Ready (Open new) (room_of new p) m) (sym at) (none, tells.kept still ∙ room))
        where
          still : is_putting (seat_of new p).machine.stage ≡ true
          still = ap (λ (s : State). is_putting (seat_of s p).machine.stage) e
              ∙ ap (λ (q : WorldSeat). is_putting q.machine.stage) (seat_written old p seat there) ∙ ap is_putting at
      puts seal at none room PutDone queued told tells e =
          wrote Stepped (with_machine seat (put_heard m PutDone)) _ told refl there e (λ q. refl)
          (λ w. ready_of (Open new) (room_of new p) (put_heard m PutDone) (after_put m.action false) refl
          (put_over (Open new) (room_of new p) m.action))
      puts seal at none room Full queued told tells e =
          absurd (not_both (sym (ap (λ (q : Machine Deferral). q.full) here) ∙ tells.told over ∙ ap not room))
        where
          here : (seat_of new p).machine ≡ put_heard m Full
          here = ap (λ (s : State). (seat_of s p).machine) e
              ∙ ap (λ (q : WorldSeat). q.machine) (seat_written old p (with_machine seat (put_heard m Full)) there)

          over : is_putting (seat_of new p).machine.stage ≡ false
          over = ap (λ (q : Machine Deferral). is_putting q.stage) here ∙ none_putting m.action true

          not_both : true ≡ false → ⊥
          not_both x = cc (x)

      -- a call that ends found no store full
      calm_end : m.full ≡ false → (d : Call) → full_told (end_reply d seat) ≡ false
      calm_end none (Defer g) = ap (λ (b : Bool). full_told (full_or_done b)) none
      calm_end none (Flush g) = ap (λ (b : Bool). full_told (full_or_done b)) none
      calm_end none Release = ap (λ (b : Bool). full_told (full_or_done b)) none
      calm_end none (DeferDestroy g ptr) = ap (λ (b : Bool). full_told (full_or_done b)) none
      calm_end none _ = refl

      rested : (d : Call)
          → Ready (Open new) (room_of new p) (ended_seat d seat).machine (ended_seat d seat).machine.stage
      rested Pin = tt
      rested (Unpin (Some g)) = tt
      rested (Pause (Some g)) = tt
      rested (Resume (Some g)) = tt
      rested _ = tt

      ends : m.full ≡ false → (r ≡ end_reply c seat) × (aside ≡ with_seat old p (ended_seat c seat)) → Comes
      ends none did =
          wrote (end_reply c seat) (ended_seat c seat) _ did.0 (calm_end none c) there did.1 (λ q. refl) (λ w. rested c)

      go : (s : Stage) → m.stage ≡ s → m.full ≡ false → Was s → Tells (ask_at s)
          → DrivesCall old p seat c s (ask_at s) r aside → Comes
      go Resting at none was tells did = ends none did
      go LoadPin at none was tells did = staged (StorePin old.epoch) none (λ on rel. on (was rel)) did
      go (StorePin e) at none was tells did = wrote (PinnedReply p)
          (with_word seat (Pinned e) (hears m (StorePin e) Stored)) _ did.0 refl there did.1 (λ q. refl)
          (λ w. (none, λ rel. same_open (ap (λ (s : State). s.queued) did.1) (was rel)))
      go ReloadPin at none was tells did =
          staged (after_pin m) none (λ on. pinned (Open new) (room_of new p) m (λ rel. on (was rel))) did
      go LoadScan at none was tells did = staged (Scan old.epoch 0) none (λ on rel. on (was rel)) did
      go (Scan e k) at none was tells did =
          staged (past_word m.sizes.positions e k (word_number (position_word old k))) none
          (λ on. looked (Open new) (room_of new p) m.action m.sizes.positions e k (word_number (position_word old k))
          (λ rel. on (was rel))) did
      go (Advance e) at none was tells did =
          wrote Stepped (with_machine seat (hears m (Advance e) Stored)) _ did.0 refl there did.1 (λ q. refl)
          (λ w. (none, λ rel. same_open (ap (λ (s : State). s.queued) did.1) (was rel)))
      go (Take x k) at none was tells did = takes x k at none was did.0 did.1 did.2 did.3 did.4 did.5
      go (Calling x k) at none was tells did = wrote (CalledReply did.0.ticket (outcome_of old.heap did.0.removes))
          (with_machine seat (gives m (Calling x k) did.1)) _ did.3 refl there did.4 (λ q. refl)
          (λ w. ready_of (Open new) (room_of new p) (gives m (Calling x k) did.1) (after_job m x k did.1) none
          (called (Open new) (room_of new p) m x k did.1
          (λ rel. same_open (ap (λ (s : State). s.queued) did.4) (was rel))))
      go LoadSeal at none was tells did =
          staged (Put old.epoch) none (λ on. tells (record { others = h.others; fewer = was })) did
      go (Put e) at none was tells did = puts e at none was did.0 did.1 did.2 tells did.4
      go Keep at none was tells did = wrote (Deferred old.tickets)
          (with_machine seat (hears m Keep (Job (record { ticket = old.tickets; removes = removed_by seat.progress }))))
          _ did.0 refl there did.1 (λ q. refl)
          (λ w. (none, tt))
      go LoadRepin at none was tells did = staged (if m.published == old.epoch then End else StoreRepin old.epoch) none
          (λ on. either_way Is (m.published == old.epoch) End (StoreRepin old.epoch) tt tt) did
      go (StoreRepin e) at none was tells did = wrote (Repinned p) (with_word seat (Pinned e)
          (hears m (StoreRepin e) Stored)) _ did.0 refl there did.1 (λ q. refl) (λ w. (none, tt))
      go ReloadRepin at none was tells did = staged End none (λ on. tt) did
      go StoreUnpinned at none was tells did = wrote (UnpinnedReply p)
          (with_word seat Unpinned (hears m StoreUnpinned Stored)) _ did.0 refl there did.1 (λ q. refl)
          (λ w. ready_of (Open new) (room_of new p) (hears m StoreUnpinned Stored) (after_unpin m.action m.full) none
          (unpinned (Open new) (room_of new p) m.action m.full))
      go StoreFree at none was tells did =
          wrote (Done Released) (free_seat old.sizes) _ did.0 refl there did.1 (λ q. refl) (λ w. tt)
      go End at none was tells did = ends none did

      drives : DrivesCall old p seat c m.stage (ask_at m.stage) r aside → Comes
      drives goes =
          let ready = not_full (Open old) (room_of old p) m m.stage driven.under_way (h.ready taken) in
          go m.stage refl ready.0 ready.1 (subst Tells asked did.1.3) goes
        where
          asked : turn_of seat ≡ ask_at m.stage
          asked = turn_taken seat.word seat.progress m.stage taken
              ∙ ap (λ (now : Progress). turn_at Unpinned now m.stage) drive

    by_progress : (progress : Progress) → seat.progress ≡ progress → DoesGo old p seat progress r aside → Comes
    by_progress Idle now goes =
        stays (Refused IdleFault) goes.0 refl goes.1 (λ t. follows_at old.sizes seat (h.linked.seats p) Idle now)
    by_progress (Driven c) now goes = drives c now goes
    by_progress (CallsNow removes) now goes = wrote (CalledNow (outcome_of old.heap removes))
        (record seat { progress = EndsNext (Done UnitAnswer) }) _ goes.0 refl there goes.1 (λ q. refl)
        (λ w. subst (Ready (Open new) (room_of new p) m)
        (sym (follows_at old.sizes seat (h.linked.seats p) (CallsNow removes) now)) tt)
    by_progress (Accesses a k found) now (touched, touches, told, e) =
        wrote (access_reply touched.told) (accessed_seat a k touched.told seat) _ told
        (calm_access touched.told) there e (λ q. refl)
        (λ w. subst (Ready (Open new) (room_of new p) m)
        (sym (follows_at old.sizes seat (h.linked.seats p) (Accesses a k found) now)) tt)
    by_progress (EndsNext told) now goes =
        let follows = follows_at old.sizes seat (h.linked.seats p) (EndsNext told) now in
        wrote (Done follows.1.0) (record seat { progress = Idle }) _
        (goes.0 ∙ follows.1.1) refl there goes.1 (λ q. refl)
        (λ w. subst (Ready (Open new) (room_of new p) m) (sym follows.0) tt)

  lone_goes : Comes
  lone_goes = elim did.0 [
    | inl free ↦ stays (Refused NotRegistered) free.1 refl free.2 (λ taken. absurd (taken free.0))
    | inr goes ↦ by_progress goes.0 seat.progress refl goes.1
  ]

-- HOW A CALL BEGINS

either : (t : Bool) (a b : Option Fault)
    → full_refusal a ≡ false → full_refusal b ≡ false → full_refusal (if t then a else b) ≡ false
either true a b one other = one
either false a b one other = other

guard_calm : (g : Option ℕ) (guards : List ℕ) → full_refusal (guard_refusal g guards) ≡ false
guard_calm None guards = refl
guard_calm (Some g) guards = either (is_out g guards) None (Some StrangerGuard) refl refl

resume_calm : (g paused : Option ℕ) → full_refusal (resume_refusal g paused) ≡ false
resume_calm None paused = refl
resume_calm (Some g) None = refl
resume_calm (Some g) (Some h) = either (g == h) None (Some StrangerGuard) refl refl

under_calm : (g : Option ℕ) (guards : List ℕ) (fault : Option Fault)
    → full_refusal fault ≡ false → full_refusal (under_guard g guards fault) ≡ false
under_calm None guards fault calm = calm
under_calm (Some g) guards fault calm = either (is_out g guards) fault (Some StrangerGuard) calm refl

reading_calm : (a : Access) (readings : List Name) → full_refusal (reading_refusal a readings) ≡ false
reading_calm (Read g ptr) readings = either (reads ptr.name readings) (Some Busy) None refl refl
reading_calm (Leave ptr) readings = either (reads ptr.name readings) None (Some StrangerPointer) refl refl
reading_calm _ readings = refl

access_calm : (a : Access) (readings : List Name) (heap : Heap) → full_refusal (access_refusal a readings heap) ≡ false
access_calm a readings heap = either (has_place heap a)
    (if knows_names heap a then reading_refusal a readings else Some StrangerPointer) (Some NoSuchPlace)
    (either (knows_names heap a) (reading_refusal a readings) (Some StrangerPointer)
    (reading_calm a readings) refl) refl

own_calm : (c : Call) (given : WorldSeat) (tickets : ℕ) (heap : Heap)
    → full_refusal (call_refusal c given tickets heap) ≡ false
own_calm Pin given tickets heap = either (nat_le 64 (length given.guards)) (Some TooManyGuards) None refl refl
own_calm (Unpin None) given tickets heap = refl
own_calm (Unpin (Some g)) given tickets heap = guard_calm (Some g) given.guards
own_calm (Repin g) given tickets heap = guard_calm g given.guards
own_calm (Pause g) given tickets heap = guard_calm g given.guards
own_calm (Resume g) given tickets heap = resume_calm g given.paused
own_calm (Defer None) given tickets heap = refl
own_calm (Defer (Some g)) given tickets heap = either (is_out g given.guards)
    (if nat_le (2 ^ 64 - 4097) tickets then Some TicketsOut else None) (Some StrangerGuard)
    (either (nat_le (2 ^ 64 - 4097) tickets) (Some TicketsOut) None refl refl) refl
own_calm (Flush g) given tickets heap = guard_calm g given.guards
own_calm Release given tickets heap =
    either (length given.guards == 0) (if no_names given.readings then None else Some GuardsOut) (Some GuardsOut)
    (either (no_names given.readings) None (Some GuardsOut) refl refl) refl
own_calm (DeferDestroy None ptr) given tickets heap =
    either (is_removable heap ptr.name) None (Some StrangerPointer) refl refl
own_calm (DeferDestroy (Some g) ptr) given tickets heap = either (is_out g given.guards)
    (if is_removable heap ptr.name then (if nat_le (2 ^ 64 - 4097) tickets then Some TicketsOut else None)
    else Some StrangerPointer) (Some StrangerGuard)
    (either (is_removable heap ptr.name) (if nat_le (2 ^ 64 - 4097) tickets then Some TicketsOut else None)
    (Some StrangerPointer)
    (either (nat_le (2 ^ 64 - 4097) tickets) (Some TicketsOut) None refl refl) refl) refl
own_calm (AccessCall a) given tickets heap =
    under_calm (guard_of a) given.guards (access_refusal a given.readings heap) (access_calm a given.readings heap)

-- no call is refused at its Begin because the bags are full
begin_calm : (c : Call) (given : WorldSeat) (tickets : ℕ) (heap : Heap)
    → full_refusal (refusal c given tickets heap) ≡ false
begin_calm c given tickets heap =
    let own = either (waits c given.paused) (Some Busy) (call_refusal c given tickets heap) refl
    (own_calm c given tickets heap) in
    let idle = either (is_idle given.progress)
    (if waits c given.paused then Some Busy else call_refusal c given tickets heap) (Some Busy) own refl in
    either (is_free given.word) (Some NotRegistered) (if is_idle given.progress
    then (if waits c given.paused then Some Busy else call_refusal c given tickets heap) else Some Busy) refl idle

module _ (p : ℕ) (c : Call) (s mid : State) (r : Reply) (linked : AllLinked s) (free : HasFreePlace p s)
    (did : TakesStep s (Begin p c) r mid) where
  abbrev first : WorldSeat
  first = seat_of s p

  abbrev at_side : State
  at_side = with_places mid s.places s.seen s.ahead s.room

  refused_calm : (o : Option Fault)
      → refusal c first s.tickets s.heap ≡ o → BeginsCall s p c o r at_side → r ≢ Refused BagsFull
  refused_calm (Some f) is goes =
      not_told r (Refused f) goes.0 (ap full_refusal (sym is) ∙ begin_calm c first s.tickets s.heap)
  refused_calm None is goes = not_told r Began goes.0 refl

  pub begin_not_full : r ≢ Refused BagsFull
  begin_not_full = refused_calm (refusal c first s.tickets s.heap) refl did.0

  begun_ready : (d : Call) → first.machine.stage ≡ Resting → Open mid
      → Ready (Open mid) (room_of mid p) (begun_seat d first).machine (begun_seat d first).machine.stage
  begun_ready Pin rest open_now = begins_ready (Open mid) (room_of mid p) PinAction first.machine open_now
  begun_ready (Unpin g) rest open_now = begins_ready (Open mid) (room_of mid p) UnpinAction first.machine open_now
  begun_ready (Repin (Some g)) rest open_now =
      begins_ready (Open mid) (room_of mid p) RepinAction first.machine open_now
  begun_ready (Pause (Some g)) rest open_now =
      begins_ready (Open mid) (room_of mid p) UnpinAction first.machine open_now
  begun_ready (Resume (Some g)) rest open_now = begins_ready (Open mid) (room_of mid p) PinAction first.machine open_now
  begun_ready (Defer (Some g)) rest open_now =
      begins_ready (Open mid) (room_of mid p) DeferAction first.machine open_now
  begun_ready (Flush (Some g)) rest open_now =
      begins_ready (Open mid) (room_of mid p) FlushAction first.machine open_now
  begun_ready Release rest open_now = begins_ready (Open mid) (room_of mid p) ReleaseAction first.machine open_now
  begun_ready (DeferDestroy (Some g) ptr) rest open_now =
      begins_ready (Open mid) (room_of mid p) DeferAction first.machine open_now
  begun_ready (DeferDestroy None ptr) rest open_now =
      subst (Ready (Open mid) (room_of mid p) first.machine) (sym rest) tt
  begun_ready (AccessCall a) rest open_now = subst (Ready (Open mid) (room_of mid p) first.machine) (sym rest) tt
  begun_ready (Repin None) rest open_now = subst (Ready (Open mid) (room_of mid p) first.machine) (sym rest) tt
  begun_ready (Pause None) rest open_now = subst (Ready (Open mid) (room_of mid p) first.machine) (sym rest) tt
  begun_ready (Resume None) rest open_now = subst (Ready (Open mid) (room_of mid p) first.machine) (sym rest) tt
  begun_ready (Defer None) rest open_now = subst (Ready (Open mid) (room_of mid p) first.machine) (sym rest) tt
  begun_ready (Flush None) rest open_now = subst (Ready (Open mid) (room_of mid p) first.machine) (sym rest) tt

  begins : (o : Option Fault)
      → refusal c first s.tickets s.heap ≡ o → BeginsCall s p c o r at_side → ends_call r ≡ false → IsLone p mid
  begins (Some f) is goes on = absurd (cc (on, ap ends_call goes.0))
  begins None is goes on =
      let given = begin_given c first s.tickets s.heap is in
      let rest = follows_at s.sizes first (linked.seats p) Idle given.idle in
      let open_now : Open mid =
      omega (arith, free.fewer, ap (λ (z : State). length z.queued) goes.1, same_count s mid (Begin p c) did.1) in
      record {
        linked = step_linked s mid (Begin p c) r linked did;
        others = λ q other. ap (λ (seat : WorldSeat). is_at_places seat.machine.stage)
            (at q ∙ seat_other s p q (begun_seat c first) other) ∙ free.others q other;
        ready = λ taken. subst (λ (seat : WorldSeat). Ready (Open mid) (room_of mid p) seat.machine seat.machine.stage)
            (sym (at p ∙ seat_written s p (begun_seat c first) (seat_there s p given.taken)))
            (begun_ready c rest open_now);
      }
    where
      at : (q : ℕ) → seat_of mid q ≡ seat_of (with_seat s p (begun_seat c first)) q
      at q = ap (λ (z : State). seat_of z q) goes.1

  pub begin_lone : ends_call r ≡ false → IsLone p mid
  begin_lone = begins (refusal c first s.tickets s.heap) refl did.0

-- WHOLE CALLS

goes_calm : (p : ℕ) (s new : State) (rs : List Reply)
    → IsLone p s → Runs s (goes_of p rs) new → ¬ (EndsIn (Refused BagsFull) rs)
goes_calm p s new [] h run last = last
goes_calm p s new (r ∷ []) h (mid, did, run) last = (lone_goes p s mid r h did).0 last
goes_calm p s new (r ∷ x ∷ rs) h (mid, did, run) last =
    goes_calm p mid new (x ∷ rs) (lone_goes p s mid r h did).1 run last

call_calm : (p : ℕ) (c : Call) (s new : State) (replies : List Reply) → AllLinked s → HasFreePlace p s
    → Runs s (call_entries p c replies) new → EndsAtLast replies → ¬ (EndsIn (Refused BagsFull) replies)
call_calm p c s new [] all_linked free run over last = last
call_calm p c s new (r ∷ []) all_linked free (mid, did, run) over last =
    begin_not_full p c s mid r all_linked free did last
call_calm p c s new (r ∷ x ∷ rs) all_linked free (mid, did, run) over last =
    goes_calm p mid new (x ∷ rs) (begin_lone p c s mid r all_linked free did over.0) run last

-- in a run from a new world, a call that nobody disturbs isn't told that the bags are full, if a place was free
pub lone_calls : (fresh s new : State) (earlier : List Entry) (p : ℕ) (c : Call) (replies : List Reply)
    → IsFresh fresh → Runs fresh earlier s → HasFreePlace p s
    → EndsCall p c s replies new → ¬ (EndsIn (Refused BagsFull) replies)
lone_calls fresh s new earlier p c replies is_fresh run free ended = call_calm p c s new replies
    (runs_linked fresh s earlier (fresh_linked fresh is_fresh) run) free ended.run ended.ends

-- no step changes how many places there are
pub places_stay : (old new : State) (log : List Entry) → Runs old log new → length new.places ≡ length old.places
places_stay old new [] run = ap (λ (s : State). length s.places) run
places_stay old new (x ∷ log) (mid, did, run) = places_stay mid new log run ∙ same_count old mid x.step did.1
