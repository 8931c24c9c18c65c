-- Every step of a participant keeps the tally.
use Rattle.std.proofs.Common.{◌≡◌, ◌≢◌, ℕ, ◌+◌, ◌==◌, false, List, [], ◌∷◌, ◌++◌, refl, ap, sym, subst, ◌∙◌, arith}
use Rattle.epoch_machine.specs.declared.machine.Stage.{Stage}
use Rattle.epoch_machine.specs.declared.machine.Stage.TheVariants.{Idle, LoadPin, StorePin, ReloadPin, LoadScan, Scan}
use Rattle.epoch_machine.specs.declared.machine.Stage.TheVariants.{Advance, Take, Calling, LoadSeal, Put, Keep}
use Rattle.epoch_machine.specs.declared.machine.Stage.TheVariants.{LoadRepin, StoreRepin, ReloadRepin, StoreUnpinned}
use Rattle.epoch_machine.specs.declared.machine.Stage.TheVariants.{StoreFree, End}
use Rattle.epoch_machine.specs.declared.machine.Answer.TheVariants.{Stored}
use Rattle.epoch_machine.specs.Machine.{Machine, ask_at, hears}
use Rattle.epoch_machine.proofs.StagesAfter.{either_way}
use Rattle.epoch_laws.specs.declared.step.Call.{Call}
use Rattle.epoch_laws.specs.declared.step.Reply.{Reply}
use Rattle.epoch_laws.specs.declared.step.Reply.TheVariants.{Began, Done}
use Rattle.epoch_laws.specs.declared.heap.access.AccessAnswer.TheVariants.{Unit as UnitAnswer, Released}
use Rattle.epoch_laws.specs.declared.step.Entry.{Entry}
use Rattle.epoch_laws.specs.declared.step.Deferral.{Deferral}
use Rattle.epoch_laws.specs.declared.step.Word.TheVariants.{Free, Unpinned, Pinned}
use Rattle.epoch_laws.specs.declared.step.Progress.{Progress}
use Rattle.epoch_laws.specs.declared.step.Progress.TheVariants.{Idle as IdleProgress, Driven, CallsNow, Ends, Accesses}
use Rattle.epoch_laws.specs.Run.{WorldSeat, State, seat_of, position_word, word_number, with_seat, free_seat, Open}
use Rattle.epoch_laws.specs.Run.{begun_seat, end_reply, ended_seat, DrivesCall, DoesGo, with_heap, accessed_seat}
use Rattle.epoch_laws.specs.Tickets.{times}
use Rattle.epoch_laws.proofs.SeatLemmas.{seat_there}
use Rattle.epoch_laws.proofs.JobsPlaced.{HeldAt, RestsAt, PlacesJobs, PlacesHere, LeavesJobs, held_pinned}
use Rattle.epoch_laws.proofs.JobsPlaced.{held_unpinned, held_past, resting, begun_leaves, ended_leaves, accessed_leaves}
use Rattle.epoch_laws.proofs.TicketsTallied.{Tallies, tells, untold_calls, untold_deferrals, end_untold, none_given}
use Rattle.epoch_laws.proofs.TicketsTallied.{stayed, acts, heap_beside, access_untold}
use Rattle.epoch_laws.proofs.JobsMoved.{IsGoing, ending_open, keeps_jobs, staged, puts, takes, calls, keeps}
use Rattle.epoch_laws.specs.Heap.{Heap}

module _ (old new : State) (log : List Entry) (x : Entry) (h : Tallies old log) where
  abbrev Kept : Type 0
  Kept = Tallies new (log ++ x ∷ [])

  module _ (p : ℕ) (taken : position_word old p ≢ Free) where
    abbrev seat : WorldSeat
    seat = seat_of old p

    abbrev m : Machine Deferral
    m = seat.machine

    opened : old.ending ≡ Open
    opened = ending_open old.ending (λ shut. taken (h.closed shut p))

    -- no job moves
    leaves_jobs : (told : Reply) (after : WorldSeat) (heap : Heap)
        → x.reply ≡ told → tells told ≡ false → LeavesJobs seat after
        → new ≡ record (with_seat old p after) { heap = heap }
        → Kept
    leaves_jobs told after heap is quiet leaves did =
        heap_beside new _ old.heap
        (acts old (with_heap new old.heap) log x h told p after old.epoch old.queued old.tickets is (record {
          there = seat_there old p taken;
          ending = opened;
          places = leaves.places;
          moved = λ t. omega (
            arith,
            untold_calls t told quiet,
            untold_deferrals t told quiet,
            ap (times t) leaves.held,
            ap (times t) leaves.hand,
          );
          given = none_given old.tickets told quiet;
        }) (ap (λ (s : State). with_heap s old.heap) did))

    pub begins : (c : Call)
        → seat.progress ≡ IdleProgress
        → x.reply ≡ Began
        → new ≡ with_seat old p (begun_seat c seat)
        → Kept
    begins c idle is did =
        let at : PlacesHere seat = h.seats p in
        let rests : m.stage ≡ Idle = subst (λ (progress : Progress). RestsAt progress m.stage) idle at.rests in
        leaves_jobs _ (begun_seat c seat) old.heap is refl (begun_leaves seat taken c rests at) did

    module _ (c : Call) (driven : seat.progress ≡ Driven c) where
      g : IsGoing old new log x p c
      g = record { tallies = h; taken = taken; driven = driven }

      -- the same of the state with the cells and pointers as they were
      beside : IsGoing old (with_heap new old.heap) log x p c
      beside = record { tallies = h; taken = taken; driven = driven }

      frees : PlacesJobs seat StoreFree
          → (x.reply ≡ Done Released) × (new ≡ with_seat old p (free_seat old.sizes))
          → Kept
      frees at did = leaves_jobs _ (free_seat old.sizes) old.heap did.0 refl (record {
        places = record { hand = refl; held = tt; rests = refl; free = λ free. (refl, refl) };
        held = sym at.held;
        hand = sym at.hand;
      }) did.1

      ends : m.hand ≡ [] → (x.reply ≡ end_reply c seat) × (new ≡ with_seat old p (ended_seat c seat)) → Kept
      ends none did =
          leaves_jobs _ (ended_seat c seat) old.heap did.0 (end_untold c seat) (ended_leaves seat taken c none) did.1

      goes_at : (s : Stage) → PlacesJobs seat s → DrivesCall old p seat c s (ask_at s) x.reply new → Kept
      goes_at Idle at did = ends at.hand did
      goes_at LoadPin at did = staged g _ at.hand tt did
      goes_at (StorePin e) at did =
          let n : Machine Deferral = hears m (StorePin e) Stored in
          keeps_jobs g _ (Pinned e) n old.epoch refl (λ free. cc) tt at.hand (refl, refl) did
      goes_at ReloadPin at did = staged g _ at.hand (held_pinned m m refl) did
      goes_at LoadScan at did = staged g _ at.hand tt did
      goes_at (Scan e k) at did =
          staged g _ at.hand (held_past m m.sizes.positions e k (word_number (position_word old k))) did
      goes_at (Advance e) at did =
          keeps_jobs g _ seat.word (hears m (Advance e) Stored) (e + 1) refl taken tt at.hand (refl, refl) did
      goes_at (Take y k) at (step, jobs, queued, is, took, did) = takes g y k step jobs queued at.hand is took did
      goes_at (Calling y k) at (job, jobs, hand, is, did) =
          heap_beside new _ old.heap (calls beside y k job jobs _ hand is
          (ap (λ (s : State). with_heap s old.heap) did))
      goes_at LoadSeal at did = staged g _ at.hand tt did
      goes_at (Put seal) at (step, queued, is, put, did) = puts g seal step queued at.hand is put did
      goes_at Keep at did = keeps g at.hand did
      goes_at LoadRepin at did =
          staged g _ at.hand (either_way (HeldAt m) (m.published == old.epoch) End (StoreRepin old.epoch) tt tt) did
      goes_at (StoreRepin e) at did =
          let n : Machine Deferral = hears m (StoreRepin e) Stored in
          keeps_jobs g _ (Pinned e) n old.epoch refl (λ free. cc) tt at.hand (refl, refl) did
      goes_at ReloadRepin at did = staged g _ at.hand tt did
      goes_at StoreUnpinned at did =
          let n : Machine Deferral = hears m StoreUnpinned Stored in
          let held : HeldAt n n.stage = held_unpinned n m.action m.full at.held in
          keeps_jobs g _ Unpinned n old.epoch refl (λ free. cc) held at.hand (refl, refl) did
      goes_at StoreFree at did = frees at did
      goes_at End at did = ends at.hand did

    pub goes : (progress : Progress) → seat.progress ≡ progress → DoesGo old p seat progress x.reply new → Kept
    goes progress at did =
        by_progress progress at (subst (λ (q : Progress). RestsAt q m.stage) at (h.seats p).rests) did
      where
        by_progress : (progress : Progress) → seat.progress ≡ progress → RestsAt progress m.stage
            → DoesGo old p seat progress x.reply new
            → Kept
        by_progress IdleProgress at rests did = stayed old new log x h _ did.0 refl did.1
        by_progress (Driven c) at rests did = goes_at c at m.stage (h.seats p) did
        by_progress (CallsNow removes) at rests did =
            let ends : Progress = Ends (Done UnitAnswer) in
            let after : WorldSeat = record seat { progress = ends } in
            leaves_jobs _ after _ did.0 refl (resting seat taken ends (rests, (_, refl)) (h.seats p)) did.1
        by_progress (Accesses a k found) at rests (did, touches, is, e) =
            leaves_jobs _ (accessed_seat a k did.told seat) did.heap is (access_untold did.told)
            (accessed_leaves seat taken a k did.told rests (h.seats p)) e
        by_progress (Ends reply) at rests did =
            let after : WorldSeat = record seat { progress = IdleProgress } in
            leaves_jobs _ after old.heap (did.0 ∙ rests.1.1) refl (resting seat taken IdleProgress rests.0 (h.seats p))
            did.1
