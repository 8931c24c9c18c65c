-- A Go that ends a call tells that the bags are full exactly where its put found each place occupied.
use Rattle.std.proofs.Common.{◌≡◌, ◌≢◌, ℕ, slice_index_or, ◌==◌, Bool, true, false, List, length, Option, refl, ap, ap₂}
use Rattle.std.proofs.Common.{sym, subst, ◌∙◌, if◌then◌else◌, arith}
use Rattle.std.proofs.lemmas.List.{set-get_or}
use Rattle.epoch_bags.specs.declared.queue.PutStep.{PutStep}
use Rattle.epoch_bags.specs.declared.queue.TakeStep.{TakeStep}
use Rattle.epoch_bags.specs.declared.queue.TakeStep.TheVariants.{Again as TakeAgain, Empty, Got}
use Rattle.epoch_cells.specs.declared.fault.Fault.TheVariants.{Idle as IdleFault}
use Rattle.epoch_machine.specs.declared.machine.Answer.TheVariants.{Stored, Job}
use Rattle.epoch_machine.specs.declared.machine.Ask.{Ask}
use Rattle.epoch_machine.specs.declared.machine.Stage.{Stage}
use Rattle.epoch_machine.specs.declared.machine.Stage.TheVariants.{Idle as Resting, LoadPin, StorePin, ReloadPin}
use Rattle.epoch_machine.specs.declared.machine.Stage.TheVariants.{LoadScan, Scan, Advance, Take, Calling, LoadSeal}
use Rattle.epoch_machine.specs.declared.machine.Stage.TheVariants.{Put, Keep, LoadRepin, StoreRepin, ReloadRepin}
use Rattle.epoch_machine.specs.declared.machine.Stage.TheVariants.{StoreUnpinned, StoreFree, End}
use Rattle.epoch_machine.specs.Machine.{Machine, after_collect, after_pin, after_job, past_word, ask_at, with_stage}
use Rattle.epoch_machine.specs.Machine.{hears, put_heard, took_heard, gives, PutsHeld}
use Rattle.epoch_machine.proofs.StagesAfter.{either_way}
use Rattle.epoch_laws.specs.declared.heap.access.AccessAnswer.TheVariants.{Unit as UnitAnswer, Released}
use Rattle.epoch_laws.specs.declared.step.Call.{Call}
use Rattle.epoch_laws.specs.declared.step.Call.TheVariants.{Defer, Flush, Release, DeferDestroy}
use Rattle.epoch_laws.specs.declared.step.Deferral.{Deferral}
use Rattle.epoch_laws.specs.declared.step.Progress.{Progress}
use Rattle.epoch_laws.specs.declared.step.Progress.TheVariants.{Idle, Driven, CallsNow, Ends, Accesses}
use Rattle.epoch_laws.specs.declared.step.Reply.{Reply}
use Rattle.epoch_laws.specs.declared.step.Reply.TheVariants.{Stepped, Pinned as PinnedReply, Unpinned as UnpinnedReply}
use Rattle.epoch_laws.specs.declared.step.Reply.TheVariants.{Repinned, Deferred, Called as CalledReply, CalledNow, Done}
use Rattle.epoch_laws.specs.declared.step.Reply.TheVariants.{Refused}
use Rattle.epoch_laws.specs.declared.step.Step.{Step}
use Rattle.epoch_laws.specs.declared.step.Step.TheVariants.{Go}
use Rattle.epoch_laws.specs.declared.step.Word.{Word}
use Rattle.epoch_laws.specs.declared.step.Word.TheVariants.{Free, Unpinned, Pinned}
use Rattle.epoch_laws.specs.Full.{IsOfPut, found_after, TellsFull}
use Rattle.epoch_laws.specs.Places.{SeesOccupied, PutSees}
use Rattle.epoch_laws.specs.Run.{Bag, WorldSeat, State, seat_of, position_word, word_number, with_seat, with_word}
use Rattle.epoch_laws.specs.Run.{with_machine, with_places, free_seat, seen_by, occupancy_of, turn_at, turn_of}
use Rattle.epoch_laws.specs.Run.{ended_seat, end_reply, full_or_done, DrivesCall, DoesGo, SeesPlaces, access_reply}
use Rattle.epoch_laws.specs.Run.{accessed_seat, progress_after, removed_by}
use Rattle.epoch_laws.proofs.SeatLemmas.{seat_there, seat_written}
use Rattle.epoch_laws.proofs.SeatLinks.{action_of, IsInStep, AllLinked, follows_at}
use Rattle.epoch_laws.proofs.PutStages.{NoneFound, FoundSeen, FoundWhere, none_missed, puts_bag, NoneYet, FoundAt}
use Rattle.epoch_laws.proofs.PutStages.{found_unpinned, machine_collected, machine_pinned, machine_scanned}
use Rattle.epoch_laws.proofs.PutStages.{machine_called}
use Rattle.epoch_laws.proofs.SeatsFind.{FoundIn, PutFinds, SameFound, none_still, finds_still, rest_finds, ended_finds}
use Rattle.epoch_laws.proofs.SeatsFind.{on_finds}
use Rattle.epoch_laws.proofs.PutSteps.{put_finds, same_step}
use Rattle.epoch_laws.proofs.FoundAfter.{others_same, own_same, put_more}
use Rattle.epoch_laws.proofs.PutsFind.{AllFind, same_count, turn_taken, find_written}
use Rattle.epoch_laws.specs.declared.heap.access.Access.{Access}
use Rattle.epoch_laws.specs.declared.heap.access.Accessed.{Accessed}
use Rattle.epoch_laws.specs.declared.heap.access.Accessed.TheVariants.{Again, Answers, NoSlot}
use Rattle.epoch_laws.specs.Heap.{outcome_of}

-- what a step has to show
abbrev pub ShowsFull : (ℕ → ℕ → Type 0) → State → State → Step → Reply → Type 0
ShowsFull found old new step reply = TellsFull found old step reply × AllFind (found_after found old step reply new) new

-- A STEP GO OF A CALL THAT IS DRIVEN

module _ (old new : State) (reply : Reply) (found : ℕ → ℕ → Type 0) (h : AllFind found old) (p : ℕ)
    (taken : position_word old p ≢ Free) (sees : SeesPlaces old (Go p) new) where
  abbrev seat : WorldSeat
  seat = seat_of old p

  abbrev m : Machine Deferral
  m = seat.machine

  abbrev aside : State
  aside = with_places new old.places old.seen old.ahead old.room

  abbrev later : ℕ → ℕ → Type 0
  later = found_after found old (Go p) reply new

  abbrev Goal : Type 0
  Goal = ShowsFull found old new (Go p) reply

  abbrev Finds : WorldSeat → Type 0
  Finds after = PutFinds (later p) (length new.places) (seen_by new p) after

  -- the seats of this state are those before the step, but for that of p
  abbrev Writes : State → WorldSeat → Type 0
  Writes last after = (q : ℕ) → seat_of last q ≡ seat_of (with_seat old p after) q

  -- the step tells this, and writes the seat of p alone
  tells : (tell : Reply) (after : WorldSeat) (last : State) → TellsFull found old (Go p) tell → Finds after
      → reply ≡ tell → aside ≡ last → Writes last after → Goal
  tells tell after last full finds told e writes = (
    subst (TellsFull found old (Go p)) (sym told) full,
    find_written old new found later h (same_count old new (Go p) sees) p after (seat_there old p taken)
        (others_same found old new reply p) sees.1 (λ q. ap (λ (s : State). seat_of s q) e ∙ writes q) finds,
  )

  -- what this step asks for
  asked : (progress : Progress) (s : Stage) → seat.progress ≡ progress → m.stage ≡ s
      → turn_of seat ≡ turn_at Unpinned progress s
  asked progress s now at = turn_taken seat.word seat.progress m.stage taken
      ∙ ap₂ (λ (progress : Progress) (s : Stage). turn_at Unpinned progress s) now at

  module _ (c : Call) (drive : seat.progress ≡ Driven c) (action : m.action ≡ action_of c) where
    -- what was found at a stage, and what is found at the next one
    abbrev Was : Stage → Type 0
    Was s = FoundAt (later p) (length new.places) (seen_by old p) m.action m.full s

    abbrev IsOf : Machine Deferral → Type 0
    IsOf n = FoundAt (later p) (length new.places) (seen_by new p) n.action n.full n.stage

    abbrev Is : Stage → Type 0
    Is s = IsOf (with_stage m s)

    -- a step that isn't one of a put
    module _ (s : Stage) (at : m.stage ≡ s) (off : ¬ (IsOfPut (ask_at s))) where
      before : PutFinds (later p) (length new.places) (seen_by old p) seat
      before = subst (λ (n : ℕ). PutFinds (later p) n (seen_by old p) seat) (sym (same_count old new (Go p) sees))
          (finds_still (found p) (later p) same (length old.places) (seen_by old p) seat (h p))
        where
          same : SameFound (found p) (later p)
          same = own_same found old new reply p (λ puts. off (subst IsOfPut (asked (Driven c) s drive at) puts))

      was : Was s
      was = subst Was at before.by_stage

      goes_on : (w : Word) (n : Machine Deferral) → n.action ≡ m.action → n.full ≡ m.full → IsOf n
          → Finds (with_word seat w n)
      goes_on w n same full is =
          on_finds (later p) (length new.places) (seen_by new p) (seen_by old p) seat w n before same full is

      moves : (t : Stage) → (Was s → Is t)
          → (reply ≡ Stepped) × (aside ≡ with_seat old p (with_machine seat (with_stage m t))) → Goal
      moves t is did =
          tells Stepped _ _ tt (goes_on seat.word (with_stage m t) refl refl (is was)) did.0 did.1 (λ q. refl)

    -- of a machine that has found nothing yet, if it is one of a release
    abbrev Collecting : Type 0
    Collecting = NoneYet (later p) m.action

    collected : Collecting → Is (after_collect m.action m.held)
    collected none = machine_collected (later p) (length new.places) (seen_by new p) m none

    called : (x k : ℕ) (jobs : List Deferral) → Collecting → Is (after_job m x k jobs)
    called x k jobs none = machine_called (later p) (length new.places) (seen_by new p) m none x k jobs

    takes : (x k : ℕ) (step : TakeStep) (jobs : List Deferral) (last : State) → m.stage ≡ Take x k
        → reply ≡ Stepped → aside ≡ last → Writes last (with_machine seat (took_heard m (Take x k) step jobs)) → Goal
    takes x k step jobs last at = tells Stepped _ last tt (by_step step)
      where
        none : Collecting
        none = was (Take x k) at (λ no. no)

        goes : (n : Machine Deferral) → n.action ≡ m.action → n.full ≡ m.full → IsOf n → Finds (with_machine seat n)
        goes = goes_on (Take x k) at (λ no. no) seat.word

        by_step : (step : TakeStep) → Finds (with_machine seat (took_heard m (Take x k) step jobs))
        by_step TakeAgain = goes m refl refl (subst Is (sym at) none)
        by_step Empty = goes (took_heard m (Take x k) Empty jobs) refl refl (collected none)
        by_step Got = goes (took_heard m (Take x k) Got jobs) refl refl (called x k jobs none)

    -- what the call has found at its end
    finds_where : FoundWhere (found p) (length old.places) m.full
    finds_where = subst (FoundIn (found p) (length old.places) m.full) drive (h p).by_progress

    finds_missed : m.full ≡ false → FoundWhere (found p) (length old.places) false
    finds_missed off = subst (FoundWhere (found p) (length old.places)) off finds_where

    tells_full : (full : Bool) → FoundWhere (found p) (length old.places) full
        → TellsFull found old (Go p) (full_or_done full)
    tells_full true each = each
    tells_full false missed = missed

    tells_end : (d : Call) → m.action ≡ action_of d → TellsFull found old (Go p) (end_reply d seat)
    tells_end (Defer g) same = tells_full m.full finds_where
    tells_end (Flush g) same = tells_full m.full finds_where
    tells_end Release same = tells_full m.full finds_where
    tells_end (DeferDestroy g ptr) same = tells_full m.full finds_where
    tells_end _ same = finds_missed ((h p).by_action (ap puts_bag same))

    ends : (reply ≡ end_reply c seat) × (aside ≡ with_seat old p (ended_seat c seat)) → Goal
    ends did = tells (end_reply c seat) (ended_seat c seat) _ (tells_end c action)
        (ended_finds _ _ _ c seat (h p).by_action) did.0 did.1 (λ q. refl)

    abbrev LooksFor : Option Ask → Type 0
    LooksFor o = SeesOccupied o m (seat_of new p).machine (occupancy_of old p) (occupancy_of new p)

    looks : (s : Stage) → m.stage ≡ s → LooksFor (ask_at s)
    looks s at = subst LooksFor (asked (Driven c) s drive at) sees.0

    -- a put begins, and has seen no place
    seals : (e : ℕ) → m.stage ≡ LoadSeal → Finds (with_machine seat (with_stage m (Put e)))
    seals e at = goes_on LoadSeal at (λ no. no) seat.word (with_stage m (Put e)) refl refl (here.0, seen)
      where
        here : Was LoadSeal
        here = was LoadSeal at (λ no. no)

        looked : LooksFor (ask_at LoadSeal)
        looked = looks LoadSeal at

        seen : FoundSeen (later p) (length new.places) (seen_by new p)
        seen = record {
          so_far = λ k lt. absurd (omega (arith, lt, looked.1));
          only = λ k is. absurd (here.1 k is);
          short = λ some. omega (arith, some, looked.1);
        }

    -- the put itself
    puts : (s : ℕ) (step : PutStep) (queued : List Bag) → m.stage ≡ Put s → PutsHeld s m old.queued step queued
        → aside ≡ record (with_seat old p (with_machine seat (put_heard m step))) { queued = queued }
        → Finds (with_machine seat (put_heard m step))
    puts s step queued at put e =
        put_finds (found p) (later p) (occupancy_of old p) (occupancy_of new p) seat c s step (h p) drive at saw
        (put_more found old new reply p s m step
        (subst IsOfPut (sym (asked (Driven c) (Put s) drive at)) tt) stored saw)
      where
        looked : LooksFor (ask_at (Put s))
        looked = looks (Put s) at

        went : (seat_of new p).machine ≡ put_heard m step
        went = ap (λ (s : State). (seat_of s p).machine) e ∙ ap (λ (seat : WorldSeat). seat.machine)
            (seat_written old p (with_machine seat (put_heard m step)) (seat_there old p taken))

        saw : PutSees step (occupancy_of old p) (occupancy_of new p)
        saw = subst (λ (now : PutStep). PutSees now (occupancy_of old p) (occupancy_of new p))
            (same_step s m at looked.0 step (sym looked.1 ∙ went)) looked.2

        stored : PutsHeld s m old.queued step new.queued
        stored = subst (PutsHeld s m old.queued step) (sym (ap (λ (s : State). s.queued) e)) put

    drives : (s : Stage) → m.stage ≡ s → DrivesCall old p seat c s (ask_at s) reply aside → Goal
    drives Resting at did = ends did
    drives LoadPin at did = moves LoadPin at (λ no. no) (StorePin old.epoch) (λ none. none) did
    drives (StorePin e) at did =
        let n : Machine Deferral = hears m (StorePin e) Stored in
        let finds : Finds (with_word seat (Pinned e) n) =
        goes_on (StorePin e) at (λ no. no) (Pinned e) n refl refl (was (StorePin e) at (λ no. no)) in
        tells (PinnedReply p) _ _ tt finds did.0 did.1 (λ q. refl)
    drives ReloadPin at did = moves ReloadPin at (λ no. no) (after_pin m)
        (λ none. machine_pinned (later p) (length new.places) (seen_by new p) m none) did
    drives LoadScan at did = moves LoadScan at (λ no. no) (Scan old.epoch 0) (λ none. none) did
    drives (Scan e k) at did =
        let w : ℕ = word_number (position_word old k) in
        moves (Scan e k) at (λ no. no) (past_word m.sizes.positions e k w)
        (λ none. machine_scanned (later p) (length new.places) (seen_by new p) m none e k w) did
    drives (Advance e) at did =
        let n : Machine Deferral = hears m (Advance e) Stored in
        let finds : Finds (with_machine seat n) =
        goes_on (Advance e) at (λ no. no) seat.word n refl refl (was (Advance e) at (λ no. no)) in
        tells Stepped _ _ tt finds did.0 did.1 (λ q. refl)
    drives (Take x k) at (step, jobs, queued, told, took, e) = takes x k step jobs _ at told e (λ q. refl)
    drives (Calling x k) at (job, jobs, hand, told, e) =
        let n : Machine Deferral = gives m (Calling x k) jobs in
        let finds : Finds (with_machine seat n) =
        goes_on (Calling x k) at (λ no. no) seat.word n refl refl (called x k jobs (was (Calling x k) at (λ no. no))) in
        tells (CalledReply job.ticket (outcome_of old.heap job.removes)) _ _ tt finds told e (λ q. refl)
    drives LoadSeal at did = tells Stepped _ _ tt (seals old.epoch at) did.0 did.1 (λ q. refl)
    drives (Put s) at (step, queued, told, put, e) =
        tells Stepped _ _ tt (puts s step queued at put e) told e (λ q. refl)
    drives Keep at did =
        let n : Machine Deferral =
        hears m Keep (Job (record { ticket = old.tickets; removes = removed_by seat.progress })) in
        let finds : Finds (with_machine seat n) = goes_on Keep at (λ no. no) seat.word n refl refl tt in
        tells (Deferred old.tickets) _ _ tt finds did.0 did.1 (λ q. refl)
    drives LoadRepin at did =
        moves LoadRepin at (λ no. no) (if m.published == old.epoch then End else StoreRepin old.epoch)
        (λ any. either_way Is (m.published == old.epoch) End (StoreRepin old.epoch) tt tt) did
    drives (StoreRepin e) at did =
        let n : Machine Deferral = hears m (StoreRepin e) Stored in
        let finds : Finds (with_word seat (Pinned e) n) =
        goes_on (StoreRepin e) at (λ no. no) (Pinned e) n refl refl tt in
        tells (Repinned p) _ _ tt finds did.0 did.1 (λ q. refl)
    drives ReloadRepin at did = moves ReloadRepin at (λ no. no) End (λ any. tt) did
    drives StoreUnpinned at did =
        let n : Machine Deferral = hears m StoreUnpinned Stored in
        let finds : Finds (with_word seat Unpinned n) =
        goes_on StoreUnpinned at (λ no. no) Unpinned n refl refl
        (found_unpinned (later p) (length new.places) (seen_by new p) m.action m.full) in
        tells (UnpinnedReply p) _ _ tt finds did.0 did.1 (λ q. refl)
    drives StoreFree at did = tells (Done Released) _ _ (finds_missed (was StoreFree at (λ no. no)))
        (rest_finds _ _ _ (free_seat old.sizes) refl tt (λ plain. refl)) did.0 did.1 (λ q. refl)
    drives End at did = ends did

  -- A CALL THAT NO MACHINE DRIVES

  -- it finds nothing, with this step as before it
  finds_none : (progress : Progress) → seat.progress ≡ progress → ¬ (IsOfPut (turn_at Unpinned progress m.stage))
      → NoneFound (found p) → NoneFound (later p)
  finds_none progress now off none = none_still (found p) (later p)
      (own_same found old new reply p (λ puts. off (subst IsOfPut (asked progress m.stage now refl) puts))) none

  found_in : (progress : Progress) → seat.progress ≡ progress → FoundIn (found p) (length old.places) m.full progress
  found_in progress now = subst (FoundIn (found p) (length old.places) m.full) now (h p).by_progress

  may_access : (told : Accessed) → TellsFull found old (Go p) (access_reply told)
  may_access (Again other) = tt
  may_access (Answers answer) = tt
  may_access NoSlot = tt

  in_access : (a : Access) (k : ℕ) (told : Accessed) → NoneFound (later p)
      → FoundIn (later p) (length new.places) m.full (progress_after a k told)
  in_access a k (Again other) none = none
  in_access a k (Answers answer) none = none
  in_access a k NoSlot none = tt

  pub goes : AllLinked old → (progress : Progress) → seat.progress ≡ progress
      → DoesGo old p seat progress reply aside → Goal
  goes linked progress now did = by_progress progress now (follows_at old.sizes seat (linked.seats p) progress now) did
    where
      same_seat : (q : ℕ) → seat_of old q ≡ seat_of (with_seat old p seat) q
      same_seat q = sym (ap (λ (seats : List WorldSeat). slice_index_or seats q (free_seat old.sizes))
          (set-get_or old.seats p (free_seat old.sizes)))

      by_progress : (progress : Progress) → seat.progress ≡ progress → IsInStep progress m seat.guards
          → DoesGo old p seat progress reply aside → Goal
      by_progress Idle now rests did =
          let nothing : FoundIn (later p) (length new.places) m.full seat.progress =
          subst (FoundIn (later p) (length new.places) m.full) (sym now) tt in
          tells (Refused IdleFault) seat _ tt (rest_finds _ _ _ seat rests nothing (h p).by_action) did.0 did.1
          same_seat
      by_progress (Driven c) now driven did = drives c now driven.action m.stage refl did
      by_progress (CallsNow removes) now rests did =
          let none : NoneFound (later p) =
          finds_none (CallsNow removes) now (λ no. no) (found_in (CallsNow removes) now) in
          let after : WorldSeat = record seat { progress = Ends (Done UnitAnswer) } in
          tells (CalledNow (outcome_of old.heap removes)) after _ tt (rest_finds _ _ _ after rests none (h p).by_action)
          did.0 did.1 (λ q. refl)
      by_progress (Accesses a k last) now rests (did, touches, told, e) =
          let none : NoneFound (later p) =
          finds_none (Accesses a k last) now (λ no. no) (found_in (Accesses a k last) now) in
          let after : WorldSeat = accessed_seat a k did.told seat in
          tells (access_reply did.told) after _ (may_access did.told)
          (rest_finds _ _ _ after rests (in_access a k did.told none) (h p).by_action) told e (λ q. refl)
      by_progress (Ends r) now (rests, done) did =
          let after : WorldSeat = record seat { progress = Idle } in
          tells (Done done.0) after _ (none_missed (found p) (length old.places) (found_in (Ends r) now))
          (rest_finds _ _ _ after rests tt (h p).by_action) (did.0 ∙ done.1) did.1 (λ q. refl)
