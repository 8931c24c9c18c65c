-- In every run each cell counts the participants that read it, each of them once.
use Rattle.std.proofs.Common.{◌≡◌, ◌≢◌, ℕ, ◌+◌, ◌-◌, ◌<◌, ◌≤◌, ◌==◌, Bool, true, false, List, [], ◌∷◌, length, Option}
use Rattle.std.proofs.Common.{Some, None, inl, inr, refl, ap, sym, subst, ◌∙◌, arith, if◌then◌else◌, slice_get}
use Rattle.std.proofs.Common.{slice_set}
use Rattle.std.specs.Prelude.{nat_lt}
use Rattle.std.proofs.lemmas.Bool.Decides.{nat_tests}
use Rattle.std.proofs.lemmas.List.Sums.{sum_by-set}
use Rattle.epoch_bags.specs.declared.queue.PutStep.{PutStep}
use Rattle.epoch_bags.specs.declared.queue.PutStep.TheVariants.{Again as PutAgain, Done as PutDone, Full}
use Rattle.epoch_bags.specs.declared.queue.TakeStep.{TakeStep}
use Rattle.epoch_bags.specs.declared.queue.TakeStep.TheVariants.{Again as TakeAgain, Empty, Got}
use Rattle.epoch_cells.specs.declared.cells.name.Name.{Name}
use Rattle.epoch_cells.specs.declared.fault.Fault.{Fault}
use Rattle.epoch_cells.specs.declared.fault.Fault.TheVariants.{Busy, GuardsOut}
use Rattle.epoch_cells.specs.PlainCells.{empty, if_has}
use Rattle.epoch_machine.specs.declared.machine.Action.{Action}
use Rattle.epoch_machine.specs.declared.machine.Action.TheVariants.{Pin as PinAction, Unpin as UnpinAction}
use Rattle.epoch_machine.specs.declared.machine.Action.TheVariants.{Repin as RepinAction, Defer as DeferAction}
use Rattle.epoch_machine.specs.declared.machine.Action.TheVariants.{Flush as FlushAction, Release as ReleaseAction}
use Rattle.epoch_machine.specs.declared.machine.Answer.TheVariants.{Stored, Job}
use Rattle.epoch_machine.specs.declared.machine.Stage.{Stage}
use Rattle.epoch_machine.specs.declared.machine.Stage.TheVariants.{Idle as Resting, LoadPin, StorePin, ReloadPin}
use Rattle.epoch_machine.specs.declared.machine.Stage.TheVariants.{LoadScan, Scan, Advance, Take, Calling, LoadSeal}
use Rattle.epoch_machine.specs.declared.machine.Stage.TheVariants.{Put, Keep, LoadRepin, StoreRepin, ReloadRepin}
use Rattle.epoch_machine.specs.declared.machine.Stage.TheVariants.{StoreUnpinned, StoreFree, End}
use Rattle.epoch_machine.specs.Machine.{Machine, ask_at, with_stage, hears, put_heard, took_heard, gives, after_pin}
use Rattle.epoch_machine.specs.Machine.{past_word}
use Rattle.epoch_machine.proofs.StagesAfter.{either_way}
use Rattle.epoch_bags.specs.Bags.{is_empty}
use Rattle.epoch_laws.specs.declared.heap.access.Access.{Access}
use Rattle.epoch_laws.specs.declared.heap.access.Access.TheVariants.{Read, Leave}
use Rattle.epoch_laws.specs.declared.heap.access.Accessed.{Accessed}
use Rattle.epoch_laws.specs.declared.heap.access.Accessed.TheVariants.{Again, Answers, NoSlot}
use Rattle.epoch_laws.specs.declared.heap.access.AccessAnswer.TheVariants.{Unit as UnitAnswer, Value, Absent}
use Rattle.epoch_laws.specs.declared.heap.access.Ptr.{Ptr}
use Rattle.epoch_laws.specs.Heap.{Cell, Heap, cell_at, is_name, null, has_steps, has_place, knows_names, guard_of}
use Rattle.epoch_laws.specs.Heap.{Touched, Touches, at_name, left_by}
use Rattle.epoch_laws.specs.declared.step.Call.{Call}
use Rattle.epoch_laws.specs.declared.step.Call.TheVariants.{Pin, Unpin, Repin, Pause, Resume, Defer, Flush, Release}
use Rattle.epoch_laws.specs.declared.step.Call.TheVariants.{DeferDestroy, Access as AccessCall}
use Rattle.epoch_laws.specs.declared.step.Deferral.{Deferral}
use Rattle.epoch_laws.specs.declared.step.Entry.{Entry}
use Rattle.epoch_laws.specs.declared.step.Progress.{Progress}
use Rattle.epoch_laws.specs.declared.step.Progress.TheVariants.{Idle, Driven, CallsNow, Accesses, Ends}
use Rattle.epoch_laws.specs.declared.step.Reply.{Reply}
use Rattle.epoch_laws.specs.declared.step.Reply.TheVariants.{Done}
use Rattle.epoch_laws.specs.declared.step.Step.{Step}
use Rattle.epoch_laws.specs.declared.step.Word.{Word}
use Rattle.epoch_laws.specs.declared.step.Word.TheVariants.{Free, Unpinned, Pinned}
use Rattle.epoch_laws.specs.Run.{WorldSeat, State, reading_refusal, seat_of, position_word, word_number, with_seat}
use Rattle.epoch_laws.specs.Run.{with_word, with_machine, with_places, free_seat, reads, call_refusal}
use Rattle.epoch_laws.specs.Run.{access_refusal, under_guard, begun_seat, drives, ended_seat, with_guards}
use Rattle.epoch_laws.specs.Run.{accessed_seat, progress_after, readings_after}
use Rattle.epoch_laws.specs.Run.{DrivesCall, Moves, TakesStep, Runs, IsFresh}
use Rattle.epoch_laws.proofs.StepKinds.{StepKind, Refusal, Registration, CallBegins, MachineStep, JobStep, CellsStep}
use Rattle.epoch_laws.proofs.StepKinds.{LastReply, EndCalls, step_kind}
use Rattle.epoch_laws.proofs.SeatLemmas.{seat_written, seat_other, seat_there, same_or_other, guard_given}
use Rattle.epoch_laws.proofs.SeatLinks.{action_of, AllLinked, IsDriven, follows_at}
use Rattle.epoch_laws.proofs.Linked.{step_linked, fresh_linked}
use Rattle.epoch_laws.proofs.TicketSums.{sum_zero}
use Rattle.epoch_laws.specs.Readings.{times_read, readings_of, readers_in, ReadingFits, FreesAt, ReadsOnce}
use Rattle.epoch_laws.specs.Readings.{KeepsReadings}
use Rattle.epoch_laws.proofs.FreedStages.{frees_collected, frees_pinned, frees_put, frees_unpinned, frees_called}
use Rattle.epoch_laws.proofs.FreedStages.{frees_past, frees_first}
use Rattle.epoch_laws.proofs.PointersGiven.{under_given, inner}
use Rattle.epoch_laws.proofs.ReadersCounted.{none_there, name_is, times_push, reads_counted}
use Rattle.epoch_laws.proofs.ReadersCounted.{Leaves, readings_told, readers_at, SameReaders, HasReader}
use Rattle.epoch_laws.proofs.ReadersCounted.{job_counts, touch_counts}

-- NO SEAT IS WRITTEN, OR ONE

kept_by : (old last : State) → KeepsReadings old → SameReaders old.heap last.heap
    → ((p : ℕ) → seat_of last p ≡ seat_of old p) → ((n : Name) → readings_of n last.seats ≡ readings_of n old.seats)
    → KeepsReadings last
kept_by old last h same seats sums = record {
  counted = λ n. same n ∙ h.counted n ∙ sym (sums n);
  seats = λ p. subst ReadsOnce (sym (seats p)) (h.seats p);
}

kept_written : (old last : State) (p : ℕ) (after : WorldSeat) → KeepsReadings old → p < length old.seats
    → ((q : ℕ) → seat_of last q ≡ seat_of (with_seat old p after) q)
    → ((n : Name) → readings_of n last.seats ≡ readings_of n (slice_set old.seats p after))
    → ((n : Name)
    → readers_at last.heap n + times_read n (seat_of old p).readings
    ≡ readers_at old.heap n + times_read n after.readings)
    → ReadsOnce after → KeepsReadings last
kept_written old last p after h there seats sums counts own = record {
  counted = λ n.
      let set : readings_of n (slice_set old.seats p after) + times_read n (seat_of old p).readings
      ≡ readings_of n old.seats + times_read n after.readings
      = sum_by-set (λ (seat : WorldSeat). times_read n seat.readings) old.seats p after (free_seat old.sizes) there in
      omega (arith, set, sums n, counts n, h.counted n);
  seats = λ q. elim (same_or_other q p) [
    | inl same ↦ subst (λ (k : ℕ). ReadsOnce (seat_of last k)) (sym same)
        (subst ReadsOnce (sym (seats p ∙ seat_written old p after there)) own)
    | inr other ↦ subst ReadsOnce (sym (seats q ∙ seat_other old p q after other)) (h.seats q)
  ];
}

-- who reads a name is counted at its cell
pub reader_counted : (s : State) (p : ℕ) (n : Name) → KeepsReadings s → p < length s.seats
    → times_read n (seat_of s p).readings ≤ readers_at s.heap n
reader_counted s p n h there =
    let rest : WorldSeat = record (seat_of s p) { readings = [] } in
    let set : readings_of n (slice_set s.seats p rest) + times_read n (seat_of s p).readings ≡ readings_of n s.seats + 0
    = sum_by-set (λ (seat : WorldSeat). times_read n seat.readings) s.seats p rest (free_seat s.sizes) there in
    omega (arith, set, h.counted n)

-- a number that passes the test for being more than 0 is at least 1
pub some_of : (k : ℕ) → nat_lt 0 k ≡ true → 1 ≤ k
some_of k e = grind (arith, nat_tests)

-- A STEP GO

-- a leave is told an answer
leave_told : (h : Heap) (name : Option Name) (did : Touched) (found : Ptr)
    → did ≡ at_name (λ n. left_by h n (cell_at h n)) h name → did.told ≢ Again found
leave_told h None did found e is = cc (is, ap (λ (d : Touched). d.told) e)
leave_told h (Some n) did found e is = at_cell (cell_at h n) (sym (ap (λ (d : Touched). d.told) e) ∙ is)
  where
    at_cell : (there : Option Cell) → (left_by h n there).told ≢ Again found
    at_cell None same = cc (same)
    at_cell (Some cell) same = cc (same)

-- nobody reads a name twice
once_after : (a : Access) (told : Accessed) (k : ℕ) (found : Ptr) (readings : List Name)
    → ReadingFits (Accesses a k found) readings → ((n : Name) → times_read n readings ≤ 1)
    → (n : Name) → times_read n (readings_after a told readings) ≤ 1
once_after (Read g ptr) (Answers (Value v)) k found readings fits once n = by_name ptr.name fits
  where
    none : (x : Name) → reads (Some x) readings ≡ false → times_read x readings ≡ 0
    none x unread = zero_of (times_read x readings) (sym (reads_counted x readings) ∙ unread)
      where
        zero_of : (k : ℕ) → nat_lt 0 k ≡ false → k ≡ 0
        zero_of k e = grind (arith, nat_tests)

    pushed : (x : Name) (b : Bool) → is_name x n ≡ b → times_read x readings ≡ 0
        → times_read n readings + (if b then 1 else 0) ≤ 1
    pushed x true same none = omega (arith, ap (λ (m : Name). times_read m readings) (name_is x n same), none)
    pushed x false other none = omega (arith, once n)

    by_name : (name : Option Name) → reads name readings ≡ false
        → times_read n (readings_after (Read g (record ptr { name = name })) (Answers (Value v)) readings) ≤ 1
    by_name None unread = once n
    by_name (Some x) unread =
        subst (λ (k : ℕ). k ≤ 1) (sym (times_push n x readings)) (pushed x (is_name x n) refl (none x unread))
once_after (Leave ptr) told k found readings fits once n =
    omega (arith, readings_told (Leave ptr) told readings n fits, once n)
once_after (Read g ptr) _ k found readings fits once n = once n
once_after _ told k found readings fits once n = once n

module _ (old new : State) (p : ℕ) (h : KeepsReadings old) (linked : AllLinked old)
    (taken : position_word old p ≢ Free) where
  abbrev seat : WorldSeat
  seat = seat_of old p

  abbrev m : Machine Deferral
  m = seat.machine

  abbrev was : ReadsOnce seat
  was = h.seats p

  there : p < length old.seats
  there = seat_there old p taken

  writes : (after : WorldSeat) (last : State) → new ≡ last
      → ((q : ℕ) → seat_of last q ≡ seat_of (with_seat old p after) q)
      → ((n : Name) → readings_of n last.seats ≡ readings_of n (slice_set old.seats p after))
      → ((n : Name)
      → readers_at last.heap n + times_read n seat.readings ≡ readers_at old.heap n + times_read n after.readings)
      → ReadsOnce after → KeepsReadings new
  writes after last e seats sums counts own =
      subst KeepsReadings (sym e) (kept_written old last p after h there seats sums counts own)

  -- the readings stay
  goes_on : (w : Word) (n : Machine Deferral) → w ≢ Free → FreesAt n.action n.stage → (last : State) → new ≡ last
      → SameReaders old.heap last.heap
      → ((q : ℕ) → seat_of last q ≡ seat_of (with_seat old p (with_word seat w n)) q)
      → ((x : Name) → readings_of x last.seats ≡ readings_of x (slice_set old.seats p (with_word seat w n)))
      → KeepsReadings new
  goes_on w n kept frees last e same seats sums = writes (with_word seat w n) last e seats sums
      (λ x. ap (λ (k : ℕ). k + times_read x seat.readings) (same x))
      (record { once = was.once; begun = was.begun; free = λ is. absurd (kept is); frees = frees })

  moves : (s : Stage)
      → FreesAt m.action s → new ≡ with_seat old p (with_machine seat (with_stage m s)) → KeepsReadings new
  moves s frees e = goes_on seat.word (with_stage m s) taken frees _ e (λ x. refl) (λ q. refl) (λ x. refl)

  -- the call goes on by itself
  goes_to : (progress : Progress) → ReadingFits progress seat.readings → (last : State) → new ≡ last
      → SameReaders old.heap last.heap
      → ((q : ℕ) → seat_of last q ≡ seat_of (with_seat old p (record seat { progress = progress })) q)
      → ((x : Name)
      → readings_of x last.seats ≡ readings_of x (slice_set old.seats p (record seat { progress = progress })))
      → KeepsReadings new
  goes_to progress fits last e same seats sums = writes (record seat { progress = progress }) last e seats sums
      (λ x. ap (λ (k : ℕ). k + times_read x seat.readings) (same x))
      (record { once = was.once; begun = fits; free = was.free; frees = was.frees })

  puts : (s : ℕ) (step : PutStep) → m.stage ≡ Put s → FreesAt (put_heard m step).action (put_heard m step).stage
  puts s PutAgain at = was.frees
  puts s PutDone at = frees_put m.action m.action false
  puts s Full at = frees_put m.action m.action true

  takes : (x k : ℕ) (step : TakeStep) (jobs : List Deferral)
      → FreesAt (took_heard m (Take x k) step jobs).action (took_heard m (Take x k) step jobs).stage
  takes x k TakeAgain jobs = was.frees
  takes x k Empty jobs = frees_collected m.action m.action m.held
  takes x k Got jobs = frees_called m.action m x k jobs

  -- only a release gives its position up, and it reads nothing
  released : (c : Call) → seat.progress ≡ Driven c → m.stage ≡ StoreFree → seat.readings ≡ []
  released c drive at = by_call c (sym driven.action ∙ subst (FreesAt m.action) at was.frees)
      (subst (λ (progress : Progress). ReadingFits progress seat.readings) drive was.begun)
    where
      driven : IsDriven c m seat.guards
      driven = follows_at old.sizes seat (linked.seats p) (Driven c) drive

      by_call : (d : Call) → action_of d ≡ ReleaseAction → ReadingFits (Driven d) seat.readings → seat.readings ≡ []
      by_call Release is fits = fits
      by_call Pin is fits = absurd (cc (is))
      by_call (Unpin g) is fits = absurd (cc (is))
      by_call (Repin g) is fits = absurd (cc (is))
      by_call (Pause g) is fits = absurd (cc (is))
      by_call (Resume g) is fits = absurd (cc (is))
      by_call (Defer g) is fits = absurd (cc (is))
      by_call (Flush g) is fits = absurd (cc (is))
      by_call (DeferDestroy g ptr) is fits = absurd (cc (is))
      by_call (AccessCall a) is fits = absurd (cc (is))

  rests : (guards : List ℕ) (paused : Option ℕ)
      → new ≡ with_seat old p (with_guards seat guards paused) → KeepsReadings new
  rests guards paused e = writes (with_guards seat guards paused) _ e (λ q. refl) (λ x. refl) (λ x. refl)
      (record { once = was.once; begun = tt; free = was.free; frees = tt })

  ends_call : (c : Call) → new ≡ with_seat old p (ended_seat c seat) → KeepsReadings new
  ends_call Pin e = rests _ _ e
  ends_call (Unpin (Some g)) e = rests _ _ e
  ends_call (Pause (Some g)) e = rests _ _ e
  ends_call (Resume (Some g)) e = rests _ _ e
  ends_call _ e = rests _ _ e

  frees_position : seat.readings ≡ [] → new ≡ with_seat old p (free_seat old.sizes) → KeepsReadings new
  frees_position none e = writes (free_seat old.sizes) _ e (λ q. refl) (λ x. refl)
      (λ x. ap (λ (readings : List Name). readers_at old.heap x + times_read x readings) none)
      (record { once = λ x. omega arith; begun = tt; free = λ is. refl; frees = tt })

  go_at : (c : Call) (reply : Reply) → seat.progress ≡ Driven c
      → (s : Stage) → m.stage ≡ s → DrivesCall old p seat c s (ask_at s) reply new → KeepsReadings new
  go_at c reply drive Resting at did = ends_call c did.1
  go_at c reply drive LoadPin at did = moves (StorePin old.epoch) tt did.1
  go_at c reply drive (StorePin e) at did =
      goes_on (Pinned e) (hears m (StorePin e) Stored) (λ is. cc (is)) tt _ did.1 (λ x. refl) (λ q. refl) (λ x. refl)
  go_at c reply drive ReloadPin at did = moves (after_pin m) (frees_pinned m.action m) did.1
  go_at c reply drive LoadScan at did = moves (Scan old.epoch 0) tt did.1
  go_at c reply drive (Scan e k) at did =
      moves (past_word m.sizes.positions e k (word_number (position_word old k)))
      (frees_past m.action m.sizes.positions e k (word_number (position_word old k))) did.1
  go_at c reply drive (Advance e) at did =
      goes_on seat.word (hears m (Advance e) Stored) taken tt _ did.1 (λ x. refl) (λ q. refl) (λ x. refl)
  go_at c reply drive (Take x k) at (step, jobs, queued, told, took, e) =
      goes_on seat.word (took_heard m (Take x k) step jobs) taken (takes x k step jobs) _ e (λ x. refl) (λ q. refl)
      (λ x. refl)
  go_at c reply drive (Calling x k) at (job, jobs, hand, told, e) =
      goes_on seat.word (gives m (Calling x k) jobs) taken (frees_called m.action m x k jobs) _ e
      (job_counts old.heap job.removes) (λ q. refl) (λ x. refl)
  go_at c reply drive LoadSeal at did = moves (Put old.epoch) tt did.1
  go_at c reply drive (Put s) at (step, queued, told, put, e) =
      goes_on seat.word (put_heard m step) taken (puts s step at) _ e (λ x. refl) (λ q. refl) (λ x. refl)
  go_at c reply drive Keep at did =
      goes_on seat.word (hears m Keep (Job _)) taken tt _ did.1 (λ x. refl) (λ q. refl) (λ x. refl)
  go_at c reply drive LoadRepin at did =
      moves _ (either_way (FreesAt m.action) (m.published == old.epoch) End (StoreRepin old.epoch) tt tt) did.1
  go_at c reply drive (StoreRepin e) at did =
      goes_on (Pinned e) (hears m (StoreRepin e) Stored) (λ is. cc (is)) tt _ did.1 (λ x. refl) (λ q. refl) (λ x. refl)
  go_at c reply drive ReloadRepin at did = moves End tt did.1
  go_at c reply drive StoreUnpinned at did = goes_on Unpinned (hears m StoreUnpinned Stored) (λ is. cc (is))
      (frees_unpinned m.action m.full) _ did.1 (λ x. refl) (λ q. refl) (λ x. refl)
  go_at c reply drive StoreFree at did = frees_position (released c drive at) did.1
  go_at c reply drive End at did = ends_call c did.1

  -- a call on cells and pointers goes on
  module _ (a : Access) (k : ℕ) (found : Ptr) (now : seat.progress ≡ Accesses a k found) where
    fits : ReadingFits (Accesses a k found) seat.readings
    fits = subst (λ (progress : Progress). ReadingFits progress seat.readings) now was.begun

    leaves : (b : Access) → ReadingFits (Accesses b k found) seat.readings → Leaves b seat.readings
    leaves (Leave ptr) at = at
    leaves _ at = tt

    reader : (b : Access) → ReadingFits (Accesses b k found) seat.readings → HasReader b old.heap
    reader (Leave ptr) at = λ n name.
        let counted : nat_lt 0 (times_read n seat.readings) ≡ true =
        sym (reads_counted n seat.readings) ∙ subst (λ (x : Option Name). reads x seat.readings ≡ true) name at in
        omega (arith, some_of (times_read n seat.readings) counted, reader_counted old p n h there)
    reader _ at = tt

    begun_after : (b : Access)
        → ReadingFits (Accesses b k found) seat.readings → (did : Touched) → Touches b k found old.heap did
        → ReadingFits (progress_after b k did.told) (readings_after b did.told seat.readings)
    begun_after b at did touches = by_told b at did.told refl touches
      where
        by_told : (b : Access) → ReadingFits (Accesses b k found) seat.readings → (told : Accessed) → did.told ≡ told
            → Touches b k found old.heap did
            → ReadingFits (progress_after b k told) (readings_after b told seat.readings)
        by_told b at (Answers answer) is touches = tt
        by_told b at NoSlot is touches = tt
        by_told (Read g ptr) at (Again other) is touches = at
        by_told (Leave ptr) at (Again other) is touches = absurd (leave_told old.heap ptr.name did other touches is)
        by_told _ at (Again other) is touches = tt

    accesses : (did : Touched) → Touches a k found old.heap did
        → new ≡ record (with_seat old p (accessed_seat a k did.told seat)) { heap = did.heap } → KeepsReadings new
    accesses did touches e = writes (accessed_seat a k did.told seat) _ e (λ q. refl) (λ x. refl)
        (λ x. omega (
          arith,
          touch_counts a k found old.heap did (reader a fits) touches x,
          readings_told a did.told seat.readings x (leaves a fits),
        ))
        (record {
          once = once_after a did.told k found seat.readings fits was.once;
          begun = begun_after a fits did touches;
          free = λ is. absurd (taken is);
          frees = was.frees;
        })

  -- HOW A CALL BEGINS

  drives_keeps : (a : Action) (c : Call)
      → ReadingFits (Driven c) seat.readings → new ≡ with_seat old p (drives a c seat) → KeepsReadings new
  drives_keeps a c begun e = writes (drives a c seat) _ e (λ q. refl) (λ x. refl) (λ x. refl)
      (record { once = was.once; begun = begun; free = λ is. absurd (taken is); frees = frees_first a m })

  begins_access : (a : Access) (b : Bool) → ReadingFits (Accesses a 0 null) seat.readings
      → new ≡ with_seat old p (record seat { progress = if b then Accesses a 0 null else Ends (Done Absent) })
      → KeepsReadings new
  begins_access a true begun e = goes_to (Accesses a 0 null) begun _ e (λ x. refl) (λ q. refl) (λ x. refl)
  begins_access a false begun e = goes_to (Ends (Done Absent)) tt _ e (λ x. refl) (λ q. refl) (λ x. refl)

  -- the readings allow a call on cells
  access_fits : (a : Access) → under_guard (guard_of a) seat.guards (access_refusal a seat.readings old.heap) ≡ None
      → ReadingFits (Accesses a 0 null) seat.readings
  access_fits a own =
      by_call a
      (inner (knows_names old.heap a) _ _
      (inner (has_place old.heap a) _ _ (under_given (guard_of a) seat.guards _ own)))
    where
      by_call : (b : Access) → reading_refusal b seat.readings ≡ None → ReadingFits (Accesses b 0 null) seat.readings
      by_call (Read g ptr) ok = unread (reads ptr.name seat.readings) _ ok
        where
          unread : (b : Bool) (other : Option Fault) → (if b then Some Busy else other) ≡ None → b ≡ false
          unread true other e = absurd (cc (e))
          unread false other e = refl
      by_call (Leave ptr) ok = guard_given (reads ptr.name seat.readings) _ _ ok
      by_call _ ok = tt

  none_read : (b : Bool) (readings : List Name)
      → (if b then (if is_empty readings then None else Some GuardsOut) else Some GuardsOut) ≡ None
      → readings ≡ []
  none_read true [] e = refl
  none_read true (x ∷ readings) e = absurd (cc (e))
  none_read false readings e = absurd (cc (e))

  begins_keeps : (c : Call)
      → call_refusal c seat old.tickets old.heap ≡ None → new ≡ with_seat old p (begun_seat c seat) → KeepsReadings new
  begins_keeps Pin own e = drives_keeps PinAction Pin tt e
  begins_keeps (Unpin g) own e = drives_keeps UnpinAction (Unpin g) tt e
  begins_keeps (Repin (Some g)) own e = drives_keeps RepinAction (Repin (Some g)) tt e
  begins_keeps (Pause (Some g)) own e = drives_keeps UnpinAction (Pause (Some g)) tt e
  begins_keeps (Resume (Some g)) own e = drives_keeps PinAction (Resume (Some g)) tt e
  begins_keeps (Defer (Some g)) own e = drives_keeps DeferAction (Defer (Some g)) tt e
  begins_keeps (Flush (Some g)) own e = drives_keeps FlushAction (Flush (Some g)) tt e
  begins_keeps Release own e =
      drives_keeps ReleaseAction Release (none_read (length seat.guards == 0) seat.readings own) e
  begins_keeps (DeferDestroy (Some g) ptr) own e = drives_keeps DeferAction (DeferDestroy (Some g) ptr) tt e
  begins_keeps (Defer None) own e = goes_to (CallsNow None) tt _ e (λ x. refl) (λ q. refl) (λ x. refl)
  begins_keeps (DeferDestroy None ptr) own e = goes_to (CallsNow ptr.name) tt _ e (λ x. refl) (λ q. refl) (λ x. refl)
  begins_keeps (AccessCall a) own e = begins_access a (has_steps a) (access_fits a own) e
  begins_keeps _ own e = goes_to (Ends (Done UnitAnswer)) tt _ e (λ x. refl) (λ q. refl) (λ x. refl)

-- EVERY STEP

kind_keeps : (old : State) → KeepsReadings old → AllLinked old → (step : Step) (reply : Reply) (new : State)
    → StepKind old step reply new → KeepsReadings new
kind_keeps old h linked _ _ _ (Refusal step fault) = h
kind_keeps old h linked _ _ _ (Registration p opened there free) =
    kept_written old _ p (record (free_seat old.sizes) { word = Unpinned }) h there (λ q. refl) (λ x. refl)
    (λ x. ap (λ (readings : List Name). readers_at old.heap x + times_read x readings) ((h.seats p).free free))
    (record { once = λ x. omega arith; begun = tt; free = λ is. refl; frees = tt })
kind_keeps old h linked _ _ _ (CallBegins p c given) = begins_keeps old _ p h linked given.taken c given.own refl
kind_keeps old h linked _ _ _ (MachineStep p c reply new taken drive did) =
    go_at old new p h linked taken c reply drive _ refl did
kind_keeps old h linked _ _ _ (JobStep p removes taken now) = goes_to old _ p h linked taken (Ends (Done UnitAnswer)) tt
    _ refl (job_counts old.heap removes) (λ q. refl) (λ x. refl)
kind_keeps old h linked _ _ _ (CellsStep p a k found did taken now touches) =
    accesses old _ p h linked taken a k found now did touches refl
kind_keeps old h linked _ _ _ (LastReply p reply taken now) =
    goes_to old _ p h linked taken Idle tt _ refl (λ x. refl) (λ q. refl) (λ x. refl)
kind_keeps old h linked _ _ _ (EndCalls job jobs n at) =
    kept_by old _ h (job_counts old.heap job.removes) (λ p. refl) (λ x. refl)
kind_keeps old h linked _ _ _ _ = kept_by old _ h (λ x. refl) (λ p. refl) (λ x. refl)

-- each cell counts as many readers after a step as participants read it, if each did so before
pub readings_move : (old new : State) (reply : Reply) → KeepsReadings old → AllLinked old → (step : Step)
    → Moves old step reply new → KeepsReadings new
readings_move old new reply h linked step did =
    kind_keeps old h linked step reply new (step_kind old new step reply did)

-- WHOLE RUNS

pub step_keeps : (old new : State) (step : Step) (reply : Reply)
    → KeepsReadings old → AllLinked old → TakesStep old step reply new → KeepsReadings new
step_keeps old new step reply h linked took =
    let aside : State = with_places new old.places old.seen old.ahead old.room in
    kept_by aside new (readings_move old aside reply h linked step took.0) (λ x. refl) (λ p. refl) (λ x. refl)

runs_keep : (old new : State) (log : List Entry)
    → KeepsReadings old → AllLinked old → Runs old log new → KeepsReadings new
runs_keep old new [] h linked run = subst KeepsReadings (sym run) h
runs_keep old new (x ∷ log) h linked (mid, did, run) =
    runs_keep mid new log (step_keeps old mid x.step x.reply h linked did)
    (step_linked old mid x.step x.reply linked did) run

-- in a new world nobody reads a cell, and no cell counts a reader
pub fresh_readings : (s : State) → IsFresh s → KeepsReadings s
fresh_readings s fresh = record {
  counted = λ n. none_counted n (slice_get s.heap.cells (n.slot - 1)) refl
      ∙ sym (sum_zero (λ (seat : WorldSeat). times_read n seat.readings) s.seats (free_seat s.sizes)
      (λ p. ap (λ (seat : WorldSeat). times_read n seat.readings) (fresh.free p)));
  seats = λ p. subst ReadsOnce (sym (fresh.free p))
      (record { once = λ n. omega arith; begun = tt; free = λ is. refl; frees = tt });
}
  where
    none_counted : (n : Name) (there : Option Cell)
        → slice_get s.heap.cells (n.slot - 1) ≡ there → readers_in (if_has n.turn there) ≡ 0
    none_counted n None at = refl
    none_counted n (Some cell) at = subst (λ (c : Cell). readers_in (if_has n.turn (Some c)) ≡ 0)
        (sym (fresh.empty_cells (n.slot - 1) cell at)) (none_there n.turn (empty s.heap.start_turn) refl)

-- In every run of a new world, each cell counts as many readers as participants read it.
pub every_run_counts : (s new : State) (log : List Entry) → IsFresh s → Runs s log new → KeepsReadings new
every_run_counts s new log fresh run = runs_keep s new log (fresh_readings s fresh) (fresh_linked s fresh) run
