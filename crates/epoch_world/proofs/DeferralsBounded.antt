-- Every step of a participant keeps the tickets below their limit.
use Rattle.std.proofs.Common.{◌≡◌, ◌≢◌, ℕ, ◌+◌, ◌-◌, ◌^◌, ◌<◌, ◌≤◌, ◌==◌, true, false, List, length, Some, None, inl}
use Rattle.std.proofs.Common.{inr, refl, ap, sym, subst, ◌∙◌, arith, ◌⊎◌, sum_by}
use Rattle.std.proofs.lemmas.List.{length-set}
use Rattle.std.proofs.lemmas.List.Sums.{sum_by-set}
use Rattle.epoch_bags.specs.declared.queue.PutStep.{PutStep}
use Rattle.epoch_bags.specs.declared.queue.PutStep.TheVariants.{Again, Done as PutDone, Full}
use Rattle.epoch_bags.specs.declared.queue.TakeStep.{TakeStep}
use Rattle.epoch_bags.specs.declared.queue.TakeStep.TheVariants.{Again as TakeAgain, Empty, Got}
use Rattle.epoch_cells.specs.declared.cells.name.Name.{Name}
use Rattle.epoch_machine.specs.declared.machine.Action.{Action}
use Rattle.epoch_machine.specs.declared.machine.Action.TheVariants.{Pin, Unpin, Repin, Defer, Flush, Release}
use Rattle.epoch_machine.specs.declared.machine.Stage.{Stage}
use Rattle.epoch_machine.specs.declared.machine.Stage.TheVariants.{Idle, LoadPin, StorePin, ReloadPin, LoadScan, Scan}
use Rattle.epoch_machine.specs.declared.machine.Stage.TheVariants.{Advance, Take, Calling, LoadSeal, Put, Keep}
use Rattle.epoch_machine.specs.declared.machine.Stage.TheVariants.{LoadRepin, StoreRepin, ReloadRepin, StoreUnpinned}
use Rattle.epoch_machine.specs.declared.machine.Stage.TheVariants.{StoreFree, End}
use Rattle.epoch_machine.specs.declared.machine.Answer.TheVariants.{Job, Stored}
use Rattle.epoch_machine.specs.Machine.{Machine, ask_at, hears, put_heard, took_heard, gives, with_stage, first_stage}
use Rattle.epoch_machine.specs.Machine.{ended}
use Rattle.epoch_machine.proofs.StagesAfter.{either_way}
use Rattle.epoch_laws.specs.declared.step.Call.{Call}
use Rattle.epoch_laws.specs.declared.step.Call.TheVariants.{Pin as PinCall, Unpin as UnpinCall, Repin as RepinCall}
use Rattle.epoch_laws.specs.declared.step.Call.TheVariants.{Pause, Resume, Defer as DeferCall, Flush as FlushCall}
use Rattle.epoch_laws.specs.declared.step.Call.TheVariants.{Release as ReleaseCall, DeferDestroy, Access as AccessCall}
use Rattle.epoch_laws.specs.declared.step.Reply.{Reply}
use Rattle.epoch_laws.specs.declared.step.Deferral.{Deferral}
use Rattle.epoch_laws.specs.declared.step.Word.{Word}
use Rattle.epoch_laws.specs.declared.step.Word.TheVariants.{Free, Unpinned, Pinned}
use Rattle.epoch_laws.specs.declared.step.Progress.{Progress}
use Rattle.epoch_laws.specs.Run.{Bag, WorldSeat, State, seat_of, position_word, word_number, with_seat, with_machine}
use Rattle.epoch_laws.specs.Run.{with_word, free_seat, drives, begun_seat, ended_seat, call_refusal, DrivesCall}
use Rattle.epoch_laws.proofs.SeatLemmas.{seat_written, seat_other, seat_there, same_or_other}
use Rattle.epoch_laws.proofs.TicketsTallied.{acted}
use Rattle.epoch_laws.proofs.GuardsStay.{machine_ended}
use Rattle.epoch_world.proofs.PendingDeferrals.{TicketsBounded, is_busy, pending_at, pending, KeepsAt, KeepsAsDeferral}
use Rattle.epoch_world.proofs.PendingDeferrals.{pending_one, none_pending, sum_most, keeps_collected, keeps_pinned}
use Rattle.epoch_world.proofs.PendingDeferrals.{keeps_put, keeps_unpinned, keeps_called, keeps_past, keeps_first}
use Rattle.epoch_world.proofs.PendingDeferrals.{room_given, busy_takes, removal_room_given}
use Rattle.epoch_laws.specs.Heap.{Heap}

module _ (old new : State) (h : TicketsBounded old) where
  -- one participant goes on, and no more tickets may be taken than before, or the limit is far
  acts_beside : (p : ℕ) (seat : WorldSeat) (epoch : ℕ) (queued : List Bag) (tickets : ℕ) (heap : Heap)
      → p < length old.seats
      → KeepsAsDeferral seat
      → (tickets + pending seat ≤ old.tickets + pending (seat_of old p)) ⊎ (tickets < 2 ^ 64 - 4097)
      → new ≡ record (acted old p seat epoch queued tickets) { heap = heap }
      → TicketsBounded new
  acts_beside p seat epoch queued tickets heap there keeps fits did = subst TicketsBounded (sym did) (record {
    tickets = bound fits;
    keeps = λ q. elim (same_or_other q p) [
      | inl same ↦ subst KeepsAsDeferral (sym (ap (seat_of after) same ∙ seat_written old p seat there)) keeps
      | inr other ↦ subst KeepsAsDeferral (sym (seat_other old p q seat other)) (h.keeps q)
    ];
  })
    where
      after : State
      after = with_seat old p seat

      bound : (tickets + pending seat ≤ old.tickets + pending (seat_of old p)) ⊎ (tickets < 2 ^ 64 - 4097)
          → tickets + sum_by pending after.seats ≤ (2 ^ 64 - 4097) + length after.seats
      bound (inl fewer) = omega (
        arith,
        h.tickets,
        length-set old.seats p seat,
        sum_by-set pending old.seats p seat (free_seat old.sizes) there,
      )
      bound (inr below) = omega (
        arith,
        sum_most pending after.seats (λ (s : WorldSeat). pending_one s.machine.action s.machine.stage),
      )

  -- cells and pointers stay
  acts : (p : ℕ) (seat : WorldSeat) (epoch : ℕ) (queued : List Bag) (tickets : ℕ)
      → p < length old.seats
      → KeepsAsDeferral seat
      → (tickets + pending seat ≤ old.tickets + pending (seat_of old p)) ⊎ (tickets < 2 ^ 64 - 4097)
      → new ≡ acted old p seat epoch queued tickets
      → TicketsBounded new
  acts p seat epoch queued tickets = acts_beside p seat epoch queued tickets old.heap

  -- a registration adds no deferral
  pub registers : (p : ℕ)
      → p < length old.seats
      → new ≡ with_seat old p (record (free_seat old.sizes) { word = Unpinned })
      → TicketsBounded new
  registers p there did =
      let after : WorldSeat = record (free_seat old.sizes) { word = Unpinned } in
      acts p after old.epoch old.queued old.tickets there tt (inl (omega arith)) did

  module _ (p : ℕ) (taken : position_word old p ≢ Free) where
    abbrev seat : WorldSeat
    seat = seat_of old p

    abbrev m : Machine Deferral
    m = seat.machine

    -- no ticket is given
    waits : (after : WorldSeat) (epoch : ℕ) (queued : List Bag)
        → KeepsAsDeferral after
        → pending after ≤ pending seat
        → new ≡ acted old p after epoch queued old.tickets
        → TicketsBounded new
    waits after epoch queued keeps fewer did =
        acts p after epoch queued old.tickets (seat_there old p taken) keeps (inl (omega (arith, fewer))) did

    -- nor is one where cells and pointers change
    waits_beside : (after : WorldSeat) (heap : Heap)
        → KeepsAsDeferral after
        → pending after ≤ pending seat
        → new ≡ record (with_seat old p after) { heap = heap }
        → TicketsBounded new
    waits_beside after heap keeps fewer did =
        acts_beside p after old.epoch old.queued old.tickets heap (seat_there old p taken) keeps
        (inl (omega (arith, fewer))) did

    pub begins : (c : Call)
        → call_refusal c seat old.tickets old.heap ≡ None
        → new ≡ with_seat old p (begun_seat c seat)
        → TicketsBounded new
    begins c given did = by_call c given did
      where
        driven : (a : Action) (c : Call)
            → pending_at a (first_stage a m) ≡ 0
            → new ≡ with_seat old p (drives a c seat)
            → TicketsBounded new
        driven a c none did =
            waits (drives a c seat) old.epoch old.queued (keeps_first a m) (omega (arith, none)) did

        stays : (progress : Progress) → new ≡ with_seat old p (record seat { progress = progress }) → TicketsBounded new
        stays progress did =
            waits (record seat { progress = progress }) old.epoch old.queued (h.keeps p) (omega arith) did

        by_call : (c : Call)
            → call_refusal c seat old.tickets old.heap ≡ None
            → new ≡ with_seat old p (begun_seat c seat)
            → TicketsBounded new
        by_call PinCall given did = driven Pin PinCall refl did
        by_call (UnpinCall g) given did = driven Unpin (UnpinCall g) refl did
        by_call (RepinCall (Some g)) given did = driven Repin (RepinCall (Some g)) refl did
        by_call (Pause (Some g)) given did = driven Unpin (Pause (Some g)) refl did
        by_call (Resume (Some g)) given did = driven Pin (Resume (Some g)) refl did
        by_call (DeferCall (Some g)) given did =
            let after : WorldSeat = drives Defer (DeferCall (Some g)) seat in
            acts p after old.epoch old.queued old.tickets (seat_there old p taken)
            (keeps_first Defer m) (inr (room_given g seat old.tickets old.heap given)) did
        by_call (FlushCall (Some g)) given did = driven Flush (FlushCall (Some g)) refl did
        by_call ReleaseCall given did = driven Release ReleaseCall refl did
        by_call (DeferDestroy (Some g) ptr) given did =
            let after : WorldSeat = drives Defer (DeferDestroy (Some g) ptr) seat in
            acts p after old.epoch old.queued old.tickets (seat_there old p taken)
            (keeps_first Defer m) (inr (removal_room_given g ptr seat old.tickets old.heap given)) did
        by_call (DeferCall None) given did = stays _ did
        by_call (DeferDestroy None ptr) given did = stays _ did
        by_call (AccessCall a) given did = stays _ did
        by_call _ given did = stays _ did

    ends : (c : Call) → new ≡ with_seat old p (ended_seat c seat) → TicketsBounded new
    ends c did =
        let is : (ended_seat c seat).machine ≡ ended m = machine_ended seat c in
        let pending_of = λ (n : Machine Deferral). pending_at n.action n.stage in
        let rests : pending (ended_seat c seat) ≡ 0 = ap pending_of is ∙ none_pending m.action Idle refl in
        let keeps = subst (λ (n : Machine Deferral). KeepsAt n.action n.stage) (sym is) tt in
        waits (ended_seat c seat) old.epoch old.queued keeps (omega (arith, rests)) did

    -- its machine goes on to n from the stage s
    module _ (s : Stage) (at : pending seat ≡ pending_at m.action s) (busy : is_busy s ≡ true) where
      goes_on : (word : Word) (n : Machine Deferral) (epoch : ℕ) (queued : List Bag)
          → n.action ≡ m.action
          → KeepsAt n.action n.stage
          → new ≡ acted old p (with_word seat word n) epoch queued old.tickets
          → TicketsBounded new
      goes_on word n epoch queued same_action keeps did =
          waits (with_word seat word n) epoch queued keeps
          (busy_takes m.action n.action m.stage n.stage s same_action at busy) did

      staged : (t : Stage)
          → KeepsAt m.action t
          → new ≡ with_seat old p (with_machine seat (with_stage m t))
          → TicketsBounded new
      staged t keeps did =
          goes_on seat.word (with_stage m t) old.epoch old.queued refl keeps did

      puts : (step : PutStep) (queued : List Bag)
          → new ≡ acted old p (with_machine seat (put_heard m step)) old.epoch queued old.tickets
          → TicketsBounded new
      puts Again queued did = goes_on seat.word m old.epoch queued refl (h.keeps p) did
      puts PutDone queued did =
          goes_on seat.word (put_heard m PutDone) old.epoch queued refl (keeps_put m.action false) did
      puts Full queued did =
          goes_on seat.word (put_heard m Full) old.epoch queued refl (keeps_put m.action true) did

      takes : (y k : ℕ) (step : TakeStep) (jobs : List Deferral) (queued : List Bag)
          → new ≡ acted old p (with_machine seat (took_heard m (Take y k) step jobs)) old.epoch queued old.tickets
          → TicketsBounded new
      takes y k TakeAgain jobs queued did = goes_on seat.word m old.epoch queued refl (h.keeps p) did
      takes y k Empty jobs queued did =
          goes_on seat.word (took_heard m (Take y k) Empty jobs) old.epoch queued refl
          (keeps_collected m.action m.action m.held) did
      takes y k Got jobs queued did =
          goes_on seat.word (took_heard m (Take y k) Got jobs) old.epoch queued refl
          (keeps_called m.action m y k jobs) did

    -- a deferral takes its ticket
    gives_ticket : (job : Deferral)
        → KeepsAt m.action Keep
        → pending seat ≡ pending_at m.action Keep
        → new ≡ acted old p (with_machine seat (hears m Keep (Job job))) old.epoch old.queued (old.tickets + 1)
        → TicketsBounded new
    gives_ticket job defers at did =
        let one : pending_at m.action Keep ≡ 1 = ap (λ (a : Action). pending_at a Keep) defers in
        acts p (with_machine seat (hears m Keep (Job job))) old.epoch old.queued (old.tickets + 1)
        (seat_there old p taken) tt (inl (omega (arith, at, one, none_pending m.action End refl))) did

    goes_at : (c : Call) (s : Stage) (reply : Reply)
        → KeepsAt m.action s
        → pending seat ≡ pending_at m.action s
        → DrivesCall old p seat c s (ask_at s) reply new
        → TicketsBounded new
    goes_at c Idle reply keeps at did = ends c did.1
    goes_at c LoadPin reply keeps at did = staged LoadPin at refl _ tt did.1
    goes_at c (StorePin e) reply keeps at did =
        goes_on (StorePin e) at refl (Pinned e) (hears m (StorePin e) Stored) old.epoch old.queued refl tt did.1
    goes_at c ReloadPin reply keeps at did = staged ReloadPin at refl _ (keeps_pinned m.action m) did.1
    goes_at c LoadScan reply keeps at did = staged LoadScan at refl _ tt did.1
    goes_at c (Scan e k) reply keeps at did =
        staged (Scan e k) at refl _
        (keeps_past m.action m.sizes.positions e k (word_number (position_word old k))) did.1
    goes_at c (Advance e) reply keeps at did =
        goes_on (Advance e) at refl seat.word (hears m (Advance e) Stored) (e + 1) old.queued refl tt did.1
    goes_at c (Take y k) reply keeps at (step, jobs, queued, is, took, did) =
        takes (Take y k) at refl y k step jobs queued did
    goes_at c (Calling y k) reply keeps at (job, jobs, in_hand, is, did) =
        let n : Machine Deferral = gives m (Calling y k) jobs in
        waits_beside (with_machine seat n) _ (keeps_called m.action m y k jobs)
        (busy_takes m.action n.action m.stage n.stage (Calling y k) refl at refl) did
    goes_at c LoadSeal reply keeps at did = staged LoadSeal at refl _ tt did.1
    goes_at c (Put seal) reply keeps at (step, queued, is, put, did) = puts (Put seal) at refl step queued did
    goes_at c Keep reply keeps at did = gives_ticket _ keeps at did.1
    goes_at c LoadRepin reply keeps at did =
        staged LoadRepin at refl _ (either_way (KeepsAt m.action) (m.published == old.epoch) End _ tt tt) did.1
    goes_at c (StoreRepin e) reply keeps at did =
        goes_on (StoreRepin e) at refl (Pinned e) (hears m (StoreRepin e) Stored) old.epoch old.queued refl tt did.1
    goes_at c ReloadRepin reply keeps at did = staged ReloadRepin at refl _ tt did.1
    goes_at c StoreUnpinned reply keeps at did =
        goes_on StoreUnpinned at refl Unpinned (hears m StoreUnpinned Stored) old.epoch old.queued refl
        (keeps_unpinned m.action m.action m.full) did.1
    goes_at c StoreFree reply keeps at did = waits (free_seat old.sizes) old.epoch old.queued tt (omega arith) did.1
    goes_at c End reply keeps at did = ends c did.1

    pub drives_on : (c : Call) (reply : Reply) → DrivesCall old p seat c m.stage (ask_at m.stage) reply new
        → TicketsBounded new
    drives_on c reply did = goes_at c m.stage reply (h.keeps p) refl did

    -- a call that no machine drives goes on
    pub goes_by_itself : (progress : Progress) (readings : List Name) (heap : Heap)
        → new ≡ record (with_seat old p (record seat { progress = progress; readings = readings })) { heap = heap }
        → TicketsBounded new
    goes_by_itself progress readings heap did = waits_beside _ heap (h.keeps p) (omega arith) did
