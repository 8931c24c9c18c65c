-- In every run a call that is refused leaves what it has to.
use Rattle.std.proofs.Common.{◌≡◌, ◌≢◌, ℕ, ◌+◌, ◌<◌, ◌==◌, slice_index_or, slice_get, Bool, true, false, List, [], ◌∷◌}
use Rattle.std.proofs.Common.{length, Option, Some, None, inl, inr, refl, ap, ap₂, sym, subst, ◌∙◌, arith}
use Rattle.std.proofs.Common.{if◌then◌else◌}
use Rattle.std.proofs.lemmas.Bool.Decides.{nat_tests}
use Rattle.std.proofs.lemmas.List.{set-get_or}
use Rattle.epoch_bags.specs.declared.queue.PutStep.{PutStep}
use Rattle.epoch_bags.specs.declared.queue.PutStep.TheVariants.{Again, Done as PutDone, Full}
use Rattle.epoch_bags.specs.declared.queue.TakeStep.{TakeStep}
use Rattle.epoch_bags.specs.declared.queue.TakeStep.TheVariants.{Again as TakeAgain, Empty, Got}
use Rattle.epoch_cells.specs.declared.fault.Fault.{Fault}
use Rattle.epoch_cells.specs.declared.fault.Fault.TheVariants.{CellsFull, BagsFull, Idle as IdleFault, NotRegistered}
use Rattle.epoch_machine.specs.declared.machine.Action.{Action}
use Rattle.epoch_machine.specs.declared.machine.Action.TheVariants.{Defer as DeferAction, Flush as FlushAction}
use Rattle.epoch_machine.specs.declared.machine.Action.TheVariants.{Release as ReleaseAction}
use Rattle.epoch_machine.specs.declared.machine.Ask.{Ask}
use Rattle.epoch_machine.specs.declared.machine.Ask.TheVariants.{LoadEpoch, LoadWord, StorePinned, StoreRepinned}
use Rattle.epoch_machine.specs.declared.machine.Ask.TheVariants.{StoreUnpinned as AskUnpinned, StoreFree as AskFree}
use Rattle.epoch_machine.specs.declared.machine.Ask.TheVariants.{StoreEpoch, PutBag, TakeBag, KeepJob, CallJob}
use Rattle.epoch_machine.specs.declared.machine.Stage.{Stage}
use Rattle.epoch_machine.specs.declared.machine.Stage.TheVariants.{LoadPin, StorePin, ReloadPin, LoadScan, Scan}
use Rattle.epoch_machine.specs.declared.machine.Stage.TheVariants.{Advance, Take, Calling, LoadSeal, Put, Keep}
use Rattle.epoch_machine.specs.declared.machine.Stage.TheVariants.{StoreUnpinned, StoreFree, End}
use Rattle.epoch_machine.specs.declared.machine.Answer.TheVariants.{Epoch as EpochFound, Word as WordFound, Stored, Job}
use Rattle.epoch_machine.specs.Machine.{Machine, with_stage, after_collect, after_pin, after_put, after_unpin}
use Rattle.epoch_machine.specs.Machine.{after_job, past_word, ask_at, hears, put_heard, took_heard, gives, PutsHeld}
use Rattle.epoch_machine.proofs.StagesAfter.{after_pin_at, past_word_at, after_job_at}
use Rattle.epoch_laws.specs.declared.heap.access.Access.{Access}
use Rattle.epoch_laws.specs.declared.heap.access.Access.TheVariants.{Place}
use Rattle.epoch_laws.specs.declared.heap.access.Accessed.{Accessed}
use Rattle.epoch_laws.specs.declared.heap.access.Accessed.TheVariants.{Again, Answers, NoSlot}
use Rattle.epoch_laws.specs.declared.heap.access.AccessAnswer.{AccessAnswer}
use Rattle.epoch_laws.specs.declared.heap.access.AccessAnswer.TheVariants.{Unit as UnitAnswer, Released}
use Rattle.epoch_laws.specs.declared.heap.access.AccessAnswer.TheVariants.{Name as NameAnswer}
use Rattle.epoch_laws.specs.declared.heap.access.Ptr.{Ptr}
use Rattle.epoch_laws.specs.Heap.{Cell, Touched, Places, outcome_of}
use Rattle.epoch_laws.specs.declared.step.Call.{Call}
use Rattle.epoch_laws.specs.declared.step.Call.TheVariants.{Pin, Unpin, Repin, Pause, Resume, Defer, Flush, Release}
use Rattle.epoch_laws.specs.declared.step.Call.TheVariants.{DeferDestroy, Access as AccessCall}
use Rattle.epoch_laws.specs.declared.step.Deferral.{Deferral}
use Rattle.epoch_laws.specs.declared.step.Entry.{Entry}
use Rattle.epoch_laws.specs.declared.step.Progress.{Progress}
use Rattle.epoch_laws.specs.declared.step.Progress.TheVariants.{Idle, Driven, CallsNow, Accesses, Ends}
use Rattle.epoch_laws.specs.declared.step.Reply.{Reply}
use Rattle.epoch_laws.specs.declared.step.Reply.TheVariants.{Stepped, Pinned as PinnedReply, Unpinned as UnpinnedReply}
use Rattle.epoch_laws.specs.declared.step.Reply.TheVariants.{Repinned, Deferred, Called as CalledReply, CalledNow, Done}
use Rattle.epoch_laws.specs.declared.step.Reply.TheVariants.{Refused, Began}
use Rattle.epoch_laws.specs.declared.step.Step.{Step}
use Rattle.epoch_laws.specs.declared.step.Step.TheVariants.{Register, Begin, Go, End as EndStep, EndGo}
use Rattle.epoch_laws.specs.declared.step.Word.{Word}
use Rattle.epoch_laws.specs.declared.step.Word.TheVariants.{Free, Unpinned, Pinned}
use Rattle.epoch_laws.specs.Run.{Bag, WorldSeat, State, seat_of, turn_at, turn_of, position_word, word_number}
use Rattle.epoch_laws.specs.Run.{with_seat, with_word, with_machine, with_places, free_seat, refusal, begun_seat}
use Rattle.epoch_laws.specs.Run.{Ending, Open, Emptying, Over, ended_seat, end_reply, full_or_done, with_guards}
use Rattle.epoch_laws.specs.Run.{progress_after, access_reply, accessed_seat, removed_by, BeginsCall, PerformsAsk}
use Rattle.epoch_laws.specs.Run.{DrivesCall, DoesGo, EndGoes, TakesStep, Runs, IsFresh}
use Rattle.epoch_laws.specs.Refusals.{LeavesUnplaced, before_after, LeavesRest, quiet_after, IsOfCollection}
use Rattle.epoch_laws.specs.Refusals.{collected_after, KeepsBag, LeavesUnput, LeavesAtRefusal, RefusedAlong, all_quiet}
use Rattle.epoch_laws.specs.Refusals.{none_collected}
use Rattle.epoch_laws.proofs.SeatLemmas.{seat_written, seat_other, seat_there, same_or_other, begin_given}
use Rattle.epoch_laws.proofs.SeatLinks.{action_of, AllLinked, IsDriven, follows_at}
use Rattle.epoch_laws.proofs.Linked.{step_linked, fresh_linked}
use Rattle.epoch_laws.proofs.PutsFind.{turn_taken}
use Rattle.epoch_laws.specs.Lawful.{nothing}
use Rattle.epoch_laws.proofs.AccessesTold.{IsTold, told_by_touch}
use Rattle.epoch_laws.proofs.RefusalsSince.{KeptBag, Kept, DeferAt, FlushAt, ReleaseAt, SinceAt, PlaceSince, SinceBy}
use Rattle.epoch_laws.proofs.RefusalsSince.{Since, AllSince, is_plain, plain_since, since_more, begun_since}
use Rattle.epoch_laws.proofs.RefusalsSince.{release_collected, release_unpinned}

keeps_bag : (b a : WorldSeat) → KeptBag b a → KeepsBag b a
keeps_bag b a kept = record { guards = kept.0; paused = kept.1; readings = kept.2; held = kept.3 }

-- a call that keeps a job
abbrev Defers : Call → Type 0
Defers (Defer g) = Unit {0}
Defers (DeferDestroy g ptr) = Unit {0}
Defers _ = ⊥

defers_since : (b : WorldSeat) (quiet collected : Type 0) (a : WorldSeat) (c : Call) (s : Stage) → Defers c
    → DeferAt (quiet × Kept b a) a.machine.full s → SinceAt b quiet collected a c s
defers_since b quiet collected a (Defer g) s kind at = at
defers_since b quiet collected a (DeferDestroy g ptr) s kind at = at
defers_since b quiet collected a _ s kind at = absurd kind

defers_leave : (quiet collected : Type 0) (b a : WorldSeat) (c : Call) → Defers c
    → quiet × (a.word ≡ b.word) × KeepsBag b a → LeavesUnput quiet collected (Driven c) b a
defers_leave quiet collected b a (Defer g) kind left = left
defers_leave quiet collected b a (DeferDestroy g ptr) kind left = left
defers_leave quiet collected b a _ kind left = absurd kind

-- what a step has to show
abbrev ShowsLeft : (ℕ → WorldSeat) → (quiet collected : ℕ → Type 0) → State → Step → Reply → State → Type 0
ShowsLeft before quiet collected old step reply new = LeavesAtRefusal before quiet collected old step reply new
    × AllSince (before_after before old step reply) (quiet_after quiet old step reply new)
    (collected_after collected old step reply) new

-- A STEP GO

module _ (old new : State) (reply : Reply) (before : ℕ → WorldSeat) (quiet collected : ℕ → Type 0)
    (h : AllSince before quiet collected old) (p : ℕ)
    (taken : position_word old p ≢ Free) where
  abbrev seat : WorldSeat
  seat = seat_of old p

  abbrev m : Machine Deferral
  m = seat.machine

  abbrev b : WorldSeat
  b = before p

  abbrev aside : State
  aside = with_places new old.places old.seen old.ahead old.room

  abbrev later : ℕ → Type 0
  later = quiet_after quiet old (Go p) reply new

  abbrev got : ℕ → Type 0
  got = collected_after collected old (Go p) reply

  abbrev Goal : Type 0
  Goal = ShowsLeft before quiet collected old (Go p) reply new

  -- the seats of this state are those before the step, but for that of p
  abbrev Writes : State → WorldSeat → Type 0
  Writes last after = (q : ℕ) → seat_of last q ≡ seat_of (with_seat old p after) q

  others_more : (q : ℕ) → q ≢ p → quiet q → later q
  others_more q other was = (was, λ same. absurd (other same))

  tells : (tell : Reply) (after : WorldSeat) (last : State) → LeavesAtRefusal before quiet collected old (Go p) tell new
      → reply ≡ tell → aside ≡ last → Writes last after → SinceBy b (later p) (got p) after after.progress → Goal
  tells tell after last leaves told e writes own = (
    subst (λ (r : Reply). LeavesAtRefusal before quiet collected old (Go p) r new) (sym told) leaves,
    all_since,
  )
    where
      found : (q : ℕ) → seat_of new q ≡ seat_of (with_seat old p after) q
      found q = ap (λ (s : State). seat_of s q) e ∙ writes q

      all_since : AllSince before later got new
      all_since q = elim (same_or_other q p) [
        | inl same ↦ subst (λ (k : ℕ). Since (before k) (later k) (got k) (seat_of new k)) (sym same)
            (subst (Since b (later p) (got p)) (sym (found p ∙ seat_written old p after (seat_there old p taken))) own)
        | inr other ↦ subst (Since (before q) (later q) (got q)) (sym (found q ∙ seat_other old p q after other))
            (since_more (before q) (quiet q) (later q) (collected q) (got q) (seat_of old q) (others_more q other) inl
            (h q))
      ]

  -- only the seat of p is written
  rest : (after : WorldSeat) → aside ≡ with_seat old p after → LeavesRest old p new
  rest after e = record {
    epoch = ap (λ (s : State). s.epoch) e;
    bags = ap (λ (s : State). s.queued) e;
    tickets = ap (λ (s : State). s.tickets) e;
    heap = ap (λ (s : State). s.heap) e;
    others = λ q other. ap (λ (s : State). seat_of s q) e ∙ seat_other old p q after other;
  }

  module _ (c : Call) (drive : seat.progress ≡ Driven c) where
    on : (after : WorldSeat) → after.progress ≡ seat.progress → SinceAt b (later p) (got p) after c after.machine.stage
        → SinceBy b (later p) (got p) after after.progress
    on after same at =
        subst (λ (progress : Progress). SinceBy b (later p) (got p) after progress) (sym (same ∙ drive)) at

    -- a call that is never told so
    plain_goes : is_plain c ≡ true → (tell : Reply) (w : Word) (n : Machine Deferral) (last : State)
        → LeavesAtRefusal before quiet collected old (Go p) tell new
        → reply ≡ tell → aside ≡ last → Writes last (with_word seat w n) → Goal
    plain_goes plain tell w n last leaves told e writes = tells tell (with_word seat w n) last leaves told e writes
        (on (with_word seat w n) refl (plain_since b (later p) (got p) (with_word seat w n) n.stage c plain))

    plain_performs : is_plain c ≡ true → (s : Stage) (ask : Ask) → PerformsAsk old p seat s ask reply aside → Goal
    plain_performs plain s LoadEpoch did =
        plain_goes plain Stepped seat.word (hears m s (EpochFound old.epoch)) _ tt did.0 did.1 (λ q. refl)
    plain_performs plain s (LoadWord k) did =
        plain_goes plain Stepped seat.word (hears m s (WordFound (word_number (position_word old k)))) _ tt did.0 did.1
        (λ q. refl)
    plain_performs plain s (StorePinned e) did =
        plain_goes plain (PinnedReply p) (Pinned e) (hears m s Stored) _ tt did.0 did.1 (λ q. refl)
    plain_performs plain s (StoreRepinned e) did =
        plain_goes plain (Repinned p) (Pinned e) (hears m s Stored) _ tt did.0 did.1 (λ q. refl)
    plain_performs plain s AskUnpinned did =
        plain_goes plain (UnpinnedReply p) Unpinned (hears m s Stored) _ tt did.0 did.1 (λ q. refl)
    plain_performs plain s AskFree did = tells (Done Released) (free_seat old.sizes) _ tt did.0 did.1 (λ q. refl) tt
    plain_performs plain s (StoreEpoch e) did =
        plain_goes plain Stepped seat.word (hears m s Stored) _ tt did.0 did.1 (λ q. refl)
    plain_performs plain s (PutBag seal) (step, queued, told, put, e) =
        plain_goes plain Stepped seat.word (put_heard m step) _ tt told e (λ q. refl)
    plain_performs plain s (TakeBag x) (step, jobs, queued, told, took, e) =
        plain_goes plain Stepped seat.word (took_heard m s step jobs) _ tt told e (λ q. refl)
    plain_performs plain s KeepJob did = plain_goes plain (Deferred old.tickets) seat.word
        (hears m s (Job (record { ticket = old.tickets; removes = removed_by seat.progress }))) _ tt did.0 did.1
        (λ q. refl)
    plain_performs plain s CallJob (job, jobs, hand, told, e) =
        plain_goes plain (CalledReply job.ticket (outcome_of old.heap job.removes)) seat.word (gives m s jobs) _ tt told
        e (λ q. refl)

    plain_ends : is_plain c ≡ true → (reply ≡ end_reply c seat) × (aside ≡ with_seat old p (ended_seat c seat)) → Goal
    plain_ends plain did =
        tells (end_reply c seat) (ended_seat c seat) _ (by_call c plain) did.0 did.1 (λ q. refl) (rests c)
      where
        by_call : (d : Call)
            → is_plain d ≡ true → LeavesAtRefusal before quiet collected old (Go p) (end_reply d seat) new
        by_call (Defer g) plain = absurd (cc (plain))
        by_call (DeferDestroy g ptr) plain = absurd (cc (plain))
        by_call (Flush g) plain = absurd (cc (plain))
        by_call Release plain = absurd (cc (plain))
        by_call _ plain = tt

        rests : (d : Call) → SinceBy b (later p) (got p) (ended_seat d seat) (ended_seat d seat).progress
        rests Pin = tt
        rests (Unpin (Some g)) = tt
        rests (Pause (Some g)) = tt
        rests (Resume (Some g)) = tt
        rests _ = tt

    plain_drives : is_plain c ≡ true → (s : Stage) (ask : Option Ask) → DrivesCall old p seat c s ask reply aside → Goal
    plain_drives plain s (Some ask) did = plain_performs plain s ask did
    plain_drives plain s None did = plain_ends plain did

    -- the machine goes on
    steps : (n : Machine Deferral) (last : State) → reply ≡ Stepped → aside ≡ last → Writes last (with_machine seat n)
        → SinceAt b (later p) (got p) (with_machine seat n) c n.stage → Goal
    steps n last told e writes at =
        tells Stepped (with_machine seat n) last tt told e writes (on (with_machine seat n) refl at)

  -- a call that is refused at its end, or done
  full_or_not : (c : Call) (full : Bool) → seat.progress ≡ Driven c
      → (full ≡ true
      → LeavesUnput (quiet_after quiet old (Go p) (Refused BagsFull) new p) (collected p) (Driven c) b (seat_of new p))
      → LeavesAtRefusal before quiet collected old (Go p) (full_or_done full) new
  full_or_not c true drive leaves =
      subst
      (λ (progress : Progress). LeavesUnput (quiet_after quiet old (Go p) (Refused BagsFull) new p) (collected p)
      progress b (seat_of new p))
      (sym drive) (leaves refl)
  full_or_not c false drive leaves = tt

  -- A DEFERRAL

  defers_end : (c : Call) → Defers c → (reply ≡ end_reply c seat) × (aside ≡ with_seat old p (ended_seat c seat))
      → (reply ≡ full_or_done m.full) × (aside ≡ with_seat old p (with_guards seat seat.guards seat.paused))
  defers_end (Defer g) kind did = did
  defers_end (DeferDestroy g ptr) kind did = did
  defers_end _ kind did = absurd kind

  module _ (c : Call) (kind : Defers c) (drive : seat.progress ≡ Driven c) (action : m.action ≡ DeferAction) where
    defer_steps : (n : Machine Deferral) (last : State)
        → reply ≡ Stepped → aside ≡ last → Writes last (with_machine seat n)
        → DeferAt (later p × Kept b (with_machine seat n)) n.full n.stage → Goal
    defer_steps n last told e writes at = steps c drive n last told e writes
        (defers_since b (later p) (got p) (with_machine seat n) c n.stage kind at)

    defer_puts : (seal : ℕ) (step : PutStep) (queued : List Bag) → m.stage ≡ Put seal → quiet p × Kept b seat
        → PutsHeld seal m old.queued step queued → reply ≡ Stepped
        → aside ≡ record (with_seat old p (with_machine seat (put_heard m step))) { queued = queued } → Goal
    defer_puts seal Again queued at (q, kept) put told e =
        let same : aside ≡ with_seat old p (with_machine seat m) =
        subst (λ (bags : List Bag). aside ≡ record (with_seat old p (with_machine seat m)) { queued = bags }) put e in
        let still : DeferAt (later p × Kept b seat) m.full (Put seal) =
        ((q, λ own. rest (with_machine seat m) same), kept) in
        defer_steps m _ told e (λ k. refl)
        (subst (λ (s : Stage). DeferAt (later p × Kept b seat) m.full s) (sym at) still)
    defer_puts seal PutDone queued at was put told e = defer_steps (put_heard m PutDone) _ told e (λ k. refl)
        (subst
        (λ (a : Action). DeferAt (later p × Kept b (with_machine seat (put_heard m PutDone))) false
        (after_put a false))
        (sym action) refl)
    defer_puts seal Full queued at (q, kept) put told e =
        let n : Machine Deferral = put_heard m Full in
        let same : aside ≡ with_seat old p (with_machine seat n) =
        subst (λ (bags : List Bag). aside ≡ record (with_seat old p (with_machine seat n)) { queued = bags }) put e in
        defer_steps n _ told e (λ k. refl)
        (subst (λ (a : Action). DeferAt (later p × Kept b (with_machine seat n)) true (after_put a true)) (sym action)
        (λ full. ((q, λ own. rest (with_machine seat n) same), kept)))

    defer_ends : (m.full ≡ true → quiet p × Kept b seat)
        → (reply ≡ end_reply c seat) × (aside ≡ with_seat old p (ended_seat c seat)) → Goal
    defer_ends at ends =
        tells (full_or_done m.full) after _ (full_or_not c m.full drive leaves) did.0 did.1 (λ q. refl) tt
      where
        after : WorldSeat
        after = with_guards seat seat.guards seat.paused

        did : (reply ≡ full_or_done m.full) × (aside ≡ with_seat old p after)
        did = defers_end c kind ends

        wrote : seat_of new p ≡ after
        wrote = ap (λ (s : State). seat_of s p) did.1 ∙ seat_written old p _ (seat_there old p taken)

        leaves : m.full ≡ true
            → LeavesUnput (quiet_after quiet old (Go p) (Refused BagsFull) new p) (collected p)
            (Driven c) b (seat_of new p)
        leaves full = subst
            (λ (after : WorldSeat). LeavesUnput (quiet_after quiet old (Go p) (Refused BagsFull) new p)
            (collected p) (Driven c) b
            after)
            (sym wrote)
            (defers_leave _ (collected p) b after c kind
            (((at full).0, λ own. rest after did.1), (at full).1.0, keeps_bag b after (at full).1.1))

    defer_drives : (s : Stage) → m.stage ≡ s → DeferAt (quiet p × Kept b seat) m.full s
        → DrivesCall old p seat c s (ask_at s) reply aside → Goal
    defer_drives LoadSeal is (q, kept) did = defer_steps (with_stage m (Put old.epoch)) _ did.0 did.1 (λ k. refl)
        ((q, λ own. rest _ did.1), kept)
    defer_drives (Put seal) is at (step, queued, told, put, e) = defer_puts seal step queued is at put told e
    defer_drives Keep is none did =
        let n : Machine Deferral =
        hears m Keep (Job (record { ticket = old.tickets; removes = removed_by seat.progress })) in
        tells (Deferred old.tickets) (with_machine seat n) _ tt did.0 did.1 (λ q. refl)
        (on c drive (with_machine seat n) refl
        (defers_since b (later p) (got p) (with_machine seat n) c End kind (λ full. absurd (cc (full, none)))))
    defer_drives End is at did = defer_ends at did
    defer_drives _ is at did = absurd at

  -- A FLUSH

  module _ (g : Option ℕ) (drive : seat.progress ≡ Driven (Flush g)) (action : m.action ≡ FlushAction) where
    abbrev FlushOn : Machine Deferral → Stage → Type 0
    FlushOn n s = FlushAt (Kept b (with_machine seat n)) (got p) n.full s

    flush_steps : (n : Machine Deferral) (last : State)
        → reply ≡ Stepped → aside ≡ last → Writes last (with_machine seat n)
        → FlushOn n n.stage → Goal
    flush_steps n last told e writes at = steps (Flush g) drive n last told e writes at

    -- a step of a collection
    collects : (s : Stage) → m.stage ≡ s → IsOfCollection (ask_at s) → got p
    collects s at collecting = inr (refl, subst IsOfCollection (sym asked) collecting)
      where
        asked : turn_of seat ≡ ask_at s
        asked = turn_taken seat.word seat.progress m.stage taken
            ∙ ap (λ (now : Progress). turn_at Unpinned now m.stage) drive ∙ ap ask_at at

    flush_collected : (held : List Deferral) → got p → (m.full ≡ true → Kept b seat)
        → FlushAt (Kept b seat) (got p) m.full (after_collect m.action held)
    flush_collected held collecting at =
        subst (λ (a : Action). FlushAt (Kept b seat) (got p) m.full (after_collect a held)) (sym action)
        (collecting, at)

    flush_job : (x k : ℕ) (jobs : List Deferral) → got p → (m.full ≡ true → Kept b seat)
        → FlushAt (Kept b seat) (got p) m.full (after_job m x k jobs)
    flush_job x k jobs collecting at =
        after_job_at (FlushAt (Kept b seat) (got p) m.full) m x k jobs at at (flush_collected m.held collecting at)

    flush_word : (e k w : ℕ) → (m.full ≡ true → Kept b seat)
        → FlushAt (Kept b seat) (got p) m.full (past_word m.sizes.positions e k w)
    flush_word e k w at = past_word_at (FlushAt (Kept b seat) (got p) m.full) m.sizes.positions e k w at at at

    flush_puts : (seal : ℕ) (step : PutStep) (last : State) → m.stage ≡ Put seal → Kept b seat → reply ≡ Stepped
        → aside ≡ last → Writes last (with_machine seat (put_heard m step)) → Goal
    flush_puts seal Again last at kept told e writes =
        flush_steps m last told e writes (subst (FlushOn m) (sym at) kept)
    flush_puts seal PutDone last at kept told e writes = flush_steps (put_heard m PutDone) last told e writes
        (subst (λ (a : Action). FlushOn (put_heard m PutDone) (after_put a false)) (sym action)
        (λ full. absurd (cc (full))))
    flush_puts seal Full last at kept told e writes = flush_steps (put_heard m Full) last told e writes
        (subst (λ (a : Action). FlushOn (put_heard m Full) (after_put a true)) (sym action) (λ full. kept))

    flush_takes : (x k : ℕ) (step : TakeStep) (jobs : List Deferral) (last : State) → m.stage ≡ Take x k
        → (m.full ≡ true → Kept b seat) → reply ≡ Stepped → aside ≡ last
        → Writes last (with_machine seat (took_heard m (Take x k) step jobs)) → Goal
    flush_takes x k TakeAgain jobs last at kept told e writes =
        flush_steps m last told e writes (subst (FlushOn m) (sym at) kept)
    flush_takes x k Empty jobs last at kept told e writes =
        flush_steps (took_heard m (Take x k) Empty jobs) last told e writes
        (flush_collected m.held (collects (Take x k) at tt) kept)
    flush_takes x k Got jobs last at kept told e writes =
        flush_steps (took_heard m (Take x k) Got jobs) last told e writes
        (flush_job x k jobs (collects (Take x k) at tt) kept)

    flush_ends : collected p → (m.full ≡ true → Kept b seat)
        → (reply ≡ end_reply (Flush g) seat) × (aside ≡ with_seat old p (ended_seat (Flush g) seat)) → Goal
    flush_ends collecting at did = tells (full_or_done m.full) (ended_seat (Flush g) seat) _
        (full_or_not (Flush g) m.full drive leaves) did.0 did.1 (λ q. refl) tt
      where
        wrote : seat_of new p ≡ ended_seat (Flush g) seat
        wrote = ap (λ (s : State). seat_of s p) did.1 ∙ seat_written old p _ (seat_there old p taken)

        leaves : m.full ≡ true
            → LeavesUnput (quiet_after quiet old (Go p) (Refused BagsFull) new p) (collected p) (Driven (Flush g)) b
            (seat_of new p)
        leaves full = subst
            (λ (after : WorldSeat). LeavesUnput (quiet_after quiet old (Go p) (Refused BagsFull) new p) (collected p)
            (Driven (Flush g)) b after)
            (sym wrote) (collecting, (at full).0, keeps_bag b (ended_seat (Flush g) seat) (at full).1)

    flush_drives : (s : Stage) → m.stage ≡ s → FlushAt (Kept b seat) (collected p) m.full s
        → DrivesCall old p seat (Flush g) s (ask_at s) reply aside → Goal
    flush_drives LoadSeal is at did = flush_steps (with_stage m (Put old.epoch)) _ did.0 did.1 (λ q. refl) at
    flush_drives (Put seal) is at (step, queued, told, put, e) = flush_puts seal step _ is at told e (λ q. refl)
    flush_drives LoadScan is at did = flush_steps (with_stage m (Scan old.epoch 0)) _ did.0 did.1 (λ q. refl) at
    flush_drives (Scan e k) is at did =
        let w : ℕ = word_number (position_word old k) in
        flush_steps (with_stage m (past_word m.sizes.positions e k w)) _ did.0 did.1 (λ q. refl) (flush_word e k w at)
    flush_drives (Advance e) is at did = flush_steps (with_stage m (Take (e + 1) 0)) _ did.0 did.1 (λ q. refl) at
    flush_drives (Take x k) is at (step, jobs, queued, told, took, e) =
        flush_takes x k step jobs _ is at told e (λ q. refl)
    flush_drives (Calling x k) is at (job, jobs, hand, told, e) =
        let n : Machine Deferral = gives m (Calling x k) jobs in
        tells (CalledReply job.ticket (outcome_of old.heap job.removes)) (with_machine seat n) _ tt told e (λ q. refl)
        (on (Flush g) drive (with_machine seat n) refl (flush_job x k jobs (collects (Calling x k) is tt) at))
    flush_drives End is at did = flush_ends at.0 at.1 did
    flush_drives _ is at did = absurd at

  -- A RELEASE

  module _ (drive : seat.progress ≡ Driven Release) (action : m.action ≡ ReleaseAction) where
    abbrev ReleaseOn : Word → Machine Deferral → Stage → Type 0
    ReleaseOn w n s = ReleaseAt (KeptBag b (with_word seat w n)) (w ≡ Unpinned) n.full s

    abbrev Own : Stage → Type 0
    Own s = ReleaseAt (KeptBag b seat) (seat.word ≡ Unpinned) m.full s

    release_steps : (n : Machine Deferral) (last : State)
        → reply ≡ Stepped → aside ≡ last → Writes last (with_machine seat n)
        → ReleaseOn seat.word n n.stage → Goal
    release_steps n last told e writes at = steps Release drive n last told e writes at

    release_to : (held : List Deferral) → KeptBag b seat → Own (after_collect m.action held)
    release_to held kept = subst (λ (a : Action). Own (after_collect a held)) (sym action)
        (release_collected (KeptBag b seat) (seat.word ≡ Unpinned) m.full held kept)

    release_job : (x k : ℕ) (jobs : List Deferral) → KeptBag b seat → Own (after_job m x k jobs)
    release_job x k jobs kept = after_job_at Own m x k jobs kept kept (release_to m.held kept)

    release_word : (e k w : ℕ) → KeptBag b seat → Own (past_word m.sizes.positions e k w)
    release_word e k w kept = past_word_at Own m.sizes.positions e k w kept kept kept

    release_puts : (seal : ℕ) (step : PutStep) (last : State) → m.stage ≡ Put seal → KeptBag b seat → reply ≡ Stepped
        → aside ≡ last → Writes last (with_machine seat (put_heard m step)) → Goal
    release_puts seal Again last at kept told e writes = release_steps m last told e writes (subst Own (sym at) kept)
    release_puts seal PutDone last at kept told e writes = release_steps (put_heard m PutDone) last told e writes
        (subst (λ (a : Action). ReleaseOn seat.word (put_heard m PutDone) (after_put a false)) (sym action)
        (λ full. absurd (cc (full))))
    release_puts seal Full last at kept told e writes = release_steps (put_heard m Full) last told e writes
        (subst (λ (a : Action). ReleaseOn seat.word (put_heard m Full) (after_put a true)) (sym action) (λ full. kept))

    release_takes : (x k : ℕ) (step : TakeStep) (jobs : List Deferral) (last : State) → m.stage ≡ Take x k
        → KeptBag b seat → reply ≡ Stepped → aside ≡ last
        → Writes last (with_machine seat (took_heard m (Take x k) step jobs)) → Goal
    release_takes x k TakeAgain jobs last at kept told e writes =
        release_steps m last told e writes (subst Own (sym at) kept)
    release_takes x k Empty jobs last at kept told e writes =
        release_steps (took_heard m (Take x k) Empty jobs) last told e writes (release_to m.held kept)
    release_takes x k Got jobs last at kept told e writes =
        release_steps (took_heard m (Take x k) Got jobs) last told e writes (release_job x k jobs kept)

    release_ends : (m.full ≡ true → KeptBag b seat) → seat.word ≡ Unpinned
        → (reply ≡ end_reply Release seat) × (aside ≡ with_seat old p (ended_seat Release seat)) → Goal
    release_ends at off did = tells (full_or_done m.full) (ended_seat Release seat) _
        (full_or_not Release m.full drive leaves) did.0 did.1 (λ q. refl) tt
      where
        wrote : seat_of new p ≡ ended_seat Release seat
        wrote = ap (λ (s : State). seat_of s p) did.1 ∙ seat_written old p _ (seat_there old p taken)

        leaves : m.full ≡ true
            → LeavesUnput (quiet_after quiet old (Go p) (Refused BagsFull) new p) (collected p) (Driven Release) b
            (seat_of new p)
        leaves full = subst
            (λ (after : WorldSeat). LeavesUnput (quiet_after quiet old (Go p) (Refused BagsFull) new p) (collected p)
            (Driven Release) b after)
            (sym wrote) (off, keeps_bag b (ended_seat Release seat) (at full))

    release_drives : (s : Stage) → m.stage ≡ s → Own s → DrivesCall old p seat Release s (ask_at s) reply aside → Goal
    release_drives LoadPin is at did = release_steps (with_stage m (StorePin old.epoch)) _ did.0 did.1 (λ q. refl) at
    release_drives (StorePin e) is at did =
        let n : Machine Deferral = hears m (StorePin e) Stored in
        tells (PinnedReply p) (with_word seat (Pinned e) n) _ tt did.0 did.1 (λ q. refl)
        (on Release drive (with_word seat (Pinned e) n) refl at)
    release_drives ReloadPin is at did = release_steps (with_stage m (after_pin m)) _ did.0 did.1 (λ q. refl)
        (after_pin_at Own m at (release_to m.held at))
    release_drives LoadScan is at did = release_steps (with_stage m (Scan old.epoch 0)) _ did.0 did.1 (λ q. refl) at
    release_drives (Scan e k) is at did =
        let w : ℕ = word_number (position_word old k) in
        release_steps (with_stage m (past_word m.sizes.positions e k w)) _ did.0 did.1 (λ q. refl)
        (release_word e k w at)
    release_drives (Advance e) is at did = release_steps (with_stage m (Take (e + 1) 0)) _ did.0 did.1 (λ q. refl) at
    release_drives (Take x k) is at (step, jobs, queued, told, took, e) =
        release_takes x k step jobs _ is at told e (λ q. refl)
    release_drives (Calling x k) is at (job, jobs, hand, told, e) =
        let n : Machine Deferral = gives m (Calling x k) jobs in
        tells (CalledReply job.ticket (outcome_of old.heap job.removes)) (with_machine seat n) _ tt told e (λ q. refl)
        (on Release drive (with_machine seat n) refl (release_job x k jobs at))
    release_drives LoadSeal is at did = release_steps (with_stage m (Put old.epoch)) _ did.0 did.1 (λ q. refl) at
    release_drives (Put seal) is at (step, queued, told, put, e) = release_puts seal step _ is at told e (λ q. refl)
    release_drives StoreUnpinned is at did =
        let n : Machine Deferral = hears m StoreUnpinned Stored in
        tells (UnpinnedReply p) (with_word seat Unpinned n) _ tt did.0 did.1 (λ q. refl)
        (on Release drive (with_word seat Unpinned n) refl
        (subst (λ (a : Action). ReleaseOn Unpinned n (after_unpin a m.full)) (sym action)
        (release_unpinned (KeptBag b seat) (Unpinned ≡ Unpinned) m.full at refl)))
    release_drives StoreFree is at did = tells (Done Released) (free_seat old.sizes) _ tt did.0 did.1 (λ q. refl) tt
    release_drives End is at did = release_ends at.0 at.1 did
    release_drives _ is at did = absurd at

  -- EVERY GO

  drives : (c : Call)
      → seat.progress ≡ Driven c → m.action ≡ action_of c → SinceAt b (quiet p) (collected p) seat c m.stage
      → DrivesCall old p seat c m.stage (ask_at m.stage) reply aside → Goal
  drives (Defer g) drive action at did = defer_drives (Defer g) tt drive action m.stage refl at did
  drives (DeferDestroy g ptr) drive action at did =
      defer_drives (DeferDestroy g ptr) tt drive action m.stage refl at did
  drives (Flush g) drive action at did = flush_drives g drive action m.stage refl at did
  drives Release drive action at did = release_drives drive action m.stage refl at did
  drives Pin drive action at did = plain_drives Pin drive refl m.stage (ask_at m.stage) did
  drives (Unpin g) drive action at did = plain_drives (Unpin g) drive refl m.stage (ask_at m.stage) did
  drives (Repin g) drive action at did = plain_drives (Repin g) drive refl m.stage (ask_at m.stage) did
  drives (Pause g) drive action at did = plain_drives (Pause g) drive refl m.stage (ask_at m.stage) did
  drives (Resume g) drive action at did = plain_drives (Resume g) drive refl m.stage (ask_at m.stage) did
  drives (AccessCall a) drive action at did = plain_drives (AccessCall a) drive refl m.stage (ask_at m.stage) did

  -- A CALL ON CELLS AND POINTERS

  no_slot : (told : Accessed)
      → told ≢ NoSlot → LeavesAtRefusal before quiet collected old (Go p) (access_reply told) new
  no_slot (Again found) some = tt
  no_slot (Answers answer) some = tt
  no_slot NoSlot some = absurd (some refl)

  since_told : (a : Access) (k : ℕ) → ((after : WorldSeat) → PlaceSince b (later p) after a) → (told : Accessed)
      → SinceBy b (later p) (got p) (accessed_seat a k told seat) (progress_after a k told)
  since_told a k since (Again found) = since (accessed_seat a k (Again found) seat)
  since_told a k since (Answers answer) = tt
  since_told a k since NoSlot = tt

  places : (v k : ℕ) (found : Ptr) (cell : Option Cell) (did : Touched) → PlaceSince b (quiet p) seat (Place v)
      → seat.progress ≡ Accesses (Place v) k found → Places v k found old.heap cell did → reply ≡ access_reply did.told
      → aside ≡ record (with_seat old p (accessed_seat (Place v) k did.told seat)) { heap = did.heap } → Goal
  places v k found None did (q, same) at is told e =
      tells (Refused CellsFull) after _ unplaced (told ∙ ap (λ (d : Touched). access_reply d.told) is) wrote (λ q. refl)
      tt
    where
      after : WorldSeat
      after = record seat { progress = Idle }

      wrote : aside ≡ with_seat old p after
      wrote =
          subst
          (λ (d : Touched). aside ≡ record (with_seat old p (accessed_seat (Place v) k d.told seat))
          { heap = d.heap }) is e

      left : seat_of new p ≡ b
      left = ap (λ (s : State). seat_of s p) wrote ∙ seat_written old p after (seat_there old p taken) ∙ sym same

      unplaced : LeavesAtRefusal before quiet collected old (Go p) (Refused CellsFull) new
      unplaced = subst
          (λ (progress : Progress). LeavesUnplaced (quiet_after quiet old (Go p) (Refused CellsFull) new p) progress b
          (seat_of new p))
          (sym at) ((q, λ own. rest after wrote), left)
  places v k found (Some cell) did since at (inl (free, n, slot, turn, is)) told e =
      tells Stepped (record seat { progress = Ends (Done (NameAnswer n)) }) _ tt
      (told ∙ ap (λ (d : Touched). access_reply d.told) is)
      (subst
      (λ (d : Touched). aside ≡ record (with_seat old p (accessed_seat (Place v) k d.told seat)) { heap = d.heap })
      is e)
      (λ q. refl) tt
  places v k found (Some cell) did (q, same) at (inr (used, is)) told e =
      tells Stepped after _ tt (told ∙ ap (λ (d : Touched). access_reply d.told) is) wrote (λ q. refl)
      ((q, λ own. rest after wrote), same)
    where
      after : WorldSeat
      after = record seat { progress = Accesses (Place v) (k + 1) found }

      wrote : aside ≡ with_seat old p after
      wrote =
          subst
          (λ (d : Touched). aside ≡ record (with_seat old p (accessed_seat (Place v) k d.told seat))
          { heap = d.heap }) is e

  pub goes : AllLinked old
      → (progress : Progress) → seat.progress ≡ progress → DoesGo old p seat progress reply aside → Goal
  goes linked Idle at did = tells (Refused IdleFault) seat old tt did.0 did.1 same_seat
      (since_more b (quiet p) (later p) (collected p) (got p) seat more inl (h p))
    where
      same_seat : (q : ℕ) → seat_of old q ≡ seat_of (with_seat old p seat) q
      same_seat q =
          sym
          (ap (λ (seats : List WorldSeat). slice_index_or seats q (free_seat old.sizes))
          (set-get_or old.seats p (free_seat old.sizes)))

      more : quiet p → later p
      more was = (
        was,
        λ own. rest seat
            (did.1
            ∙ ap (λ (seats : List WorldSeat). record old { seats = seats })
            (sym (set-get_or old.seats p (free_seat old.sizes)))),
      )
  goes linked (Driven c) at did =
      let driven : IsDriven c m seat.guards = follows_at old.sizes seat (linked.seats p) (Driven c) at in
      drives c at driven.action
      (subst (λ (progress : Progress). SinceBy b (quiet p) (collected p) seat progress) at (h p)) did
  goes linked (CallsNow removes) at did =
      tells (CalledNow (outcome_of old.heap removes)) (record seat { progress = Ends (Done UnitAnswer) }) _ tt did.0
      did.1 (λ q. refl) tt
  goes linked (Accesses (Place v) k found) at (did, touches, told, e) =
      places v k found (slice_get old.heap.cells k) did
      (subst (λ (progress : Progress). SinceBy b (quiet p) (collected p) seat progress) at (h p)) at touches told e
  goes linked (Accesses a k found) at (did, touches, told, e) =
      tells (access_reply did.told) (accessed_seat a k did.told seat) _
      (no_slot did.told (λ none. subst (IsTold nothing a) none (told_by_touch nothing a k found old.heap did touches)))
      told e (λ q. refl) (since_told a k (λ after. tt) did.told)
  goes linked (Ends last) at did =
      let done : (answer : AccessAnswer) × (last ≡ Done answer) =
      (follows_at old.sizes seat (linked.seats p) (Ends last) at).1 in
      tells (Done done.0) (record seat { progress = Idle }) _ tt (did.0 ∙ done.1) did.1 (λ q. refl) tt

-- EVERY STEP

module _ (old new : State) (reply : Reply) (before : ℕ → WorldSeat) (quiet collected : ℕ → Type 0)
    (h : AllSince before quiet collected old)
    (linked : AllLinked old) where
  abbrev aside_of : State
  aside_of = with_places new old.places old.seen old.ahead old.room

  abbrev Shown : Step → Reply → Type 0
  Shown step told = ShowsLeft before quiet collected old step told new

  -- nothing has changed
  unchanged : aside_of ≡ old
      → (new.places ≡ old.places) × (new.seen ≡ old.seen) × (new.ahead ≡ old.ahead) × (new.room ≡ old.room) → new ≡ old
  unchanged e same =
      ap₂ (λ (ahead : List ℕ) (room : List Bool). with_places new new.places new.seen ahead room) same.2 same.3
      ∙ ap₂ (λ (places : List Bool) (seen : List ℕ). with_places new places seen old.ahead old.room) same.0 same.1 ∙ e

  -- no seat is written
  stays : (last : State)
      → aside_of ≡ last → ((q : ℕ) → seat_of last q ≡ seat_of old q) → AllSince before quiet collected new
  stays last e same q =
      subst (Since (before q) (quiet q) (collected q)) (sym (ap (λ (s : State). seat_of s q) e ∙ same q)) (h q)

  registers : (p : ℕ)
      → p < length old.seats → aside_of ≡ with_seat old p (record (free_seat old.sizes) { word = Unpinned })
      → AllSince before quiet collected new
  registers p there e q = elim (same_or_other q p) [
    | inl same ↦ subst (λ (k : ℕ). Since (before k) (quiet k) (collected k) (seat_of new k)) (sym same)
        (subst (Since (before p) (quiet p) (collected p))
        (sym (ap (λ (s : State). seat_of s p) e ∙ seat_written old p _ there)) tt)
    | inr other ↦
        subst (Since (before q) (quiet q) (collected q))
        (sym (ap (λ (s : State). seat_of s q) e ∙ seat_other old p q _ other)) (h q)
  ]

  begun : (p : ℕ) (c : Call) → position_word old p ≢ Free
      → (seat_of old p).progress ≡ Idle → aside_of ≡ with_seat old p (begun_seat c (seat_of old p))
      → AllSince (before_after before old (Begin p c) Began) (quiet_after quiet old (Begin p c) Began new)
      (collected_after collected old (Begin p c) Began) new
  begun p c taken idle e q = elim (same_or_other q p) [
    | inl same ↦
        subst
        (λ (k : ℕ). Since (if p == k then seat_of old p else before k) (k ≢ p → quiet k) ((k ≢ p) × collected k)
        (seat_of new k)) (sym same) own
    | inr other ↦
        subst (λ (b : WorldSeat). Since b (q ≢ p → quiet q) ((q ≢ p) × collected q) (seat_of new q))
        (sym (at_other q other))
        (subst (Since (before q) (q ≢ p → quiet q) ((q ≢ p) × collected q))
        (sym (ap (λ (s : State). seat_of s q) e ∙ seat_other old p q _ other))
        (since_more (before q) (quiet q) (q ≢ p → quiet q) (collected q) ((q ≢ p) × collected q) (seat_of old q)
        (λ was ne. was) (λ was. (other, was)) (h q)))
  ]
    where
      at_same : (if p == p then seat_of old p else before p) ≡ seat_of old p
      at_same = grind (arith, nat_tests)

      at_other : (q : ℕ) → q ≢ p → (if p == q then seat_of old p else before q) ≡ before q
      at_other q other = grind (arith, nat_tests)

      own : Since (if p == p then seat_of old p else before p) (p ≢ p → quiet p) ((p ≢ p) × collected p) (seat_of new p)
      own = subst (λ (b : WorldSeat). Since b (p ≢ p → quiet p) ((p ≢ p) × collected p) (seat_of new p)) (sym at_same)
          (subst (Since (seat_of old p) (p ≢ p → quiet p) ((p ≢ p) × collected p))
          (sym (ap (λ (s : State). seat_of s p) e ∙ seat_written old p _ (seat_there old p taken)))
          (begun_since (p ≢ p → quiet p) ((p ≢ p) × collected p) (seat_of old p) c idle (λ ne. absurd (ne refl))))

  begins : (p : ℕ) (c : Call) (fault : Option Fault) → refusal c (seat_of old p) old.tickets old.heap ≡ fault
      → (new.places ≡ old.places) × (new.seen ≡ old.seen) × (new.ahead ≡ old.ahead) × (new.room ≡ old.room)
      → BeginsCall old p c fault reply aside_of → Shown (Begin p c) reply
  begins p c (Some fault) at same did = subst (Shown (Begin p c)) (sym did.0)
      (unchanged did.1 same, stays old did.1 (λ q. refl))
  begins p c None at same did = subst (Shown (Begin p c)) (sym did.0)
      (tt, let given = begin_given c (seat_of old p) old.tickets old.heap at in begun p c given.taken given.idle did.1)

  -- a Go of a position that is free
  goes_free : (p : ℕ) → reply ≡ Refused NotRegistered → aside_of ≡ old → Shown (Go p) reply
  goes_free p told e = (
    subst (λ (r : Reply). LeavesAtRefusal before quiet collected old (Go p) r new) (sym told) tt,
    λ q. subst
        (Since (before q) (quiet_after quiet old (Go p) reply new q) (collected_after collected old (Go p) reply q))
        (sym (ap (λ (s : State). seat_of s q) e))
        (since_more (before q) (quiet q) _ (collected q) _ (seat_of old q) (λ was. (was, λ own. apart)) inl (h q)),
  )
    where
      apart : LeavesRest old p new
      apart = record {
        epoch = ap (λ (s : State). s.epoch) e;
        bags = ap (λ (s : State). s.queued) e;
        tickets = ap (λ (s : State). s.tickets) e;
        heap = ap (λ (s : State). s.heap) e;
        others = λ q other. ap (λ (s : State). seat_of s q) e;
      }

  ends_all : (ending : Ending) → EndGoes old ending reply aside_of → AllSince before quiet collected new
  ends_all Open did = stays old did.1 (λ q. refl)
  ends_all Over did = stays old did.1 (λ q. refl)
  ends_all (Emptying (job ∷ jobs) n) did = stays _ did.1 (λ q. refl)
  ends_all (Emptying [] n) (inl did) = stays _ did.4 (λ q. refl)
  ends_all (Emptying [] n) (inr did) = stays _ did.2 (λ q. refl)

  step_shown : (step : Step) → TakesStep old step reply new → Shown step reply
  step_shown Register (inl did, same) = subst (Shown Register) (sym did.5) (tt, registers did.0 did.2 did.6)
  step_shown Register (inr (inl did), same) =
      subst (Shown Register) (sym did.2) (unchanged did.3 same, stays old did.3 (λ q. refl))
  step_shown Register (inr (inr did), same) =
      subst (Shown Register) (sym did.1) (unchanged did.2 same, stays old did.2 (λ q. refl))
  step_shown (Begin p c) (did, same) = begins p c (refusal c (seat_of old p) old.tickets old.heap) refl same did
  step_shown (Go p) (inl did, sees) = goes_free p did.1 did.2
  step_shown (Go p) (inr did, sees) =
      goes old new reply before quiet collected h p did.0 linked (seat_of old p).progress refl did.1
  step_shown EndStep (inl did, same) = subst (Shown EndStep) (sym did.2) (tt, stays _ did.3 (λ q. refl))
  step_shown EndStep (inr (inl did), same) =
      subst (Shown EndStep) (sym did.2) (unchanged did.3 same, stays old did.3 (λ q. refl))
  step_shown EndStep (inr (inr did), same) =
      subst (Shown EndStep) (sym did.1) (unchanged did.2 same, stays old did.2 (λ q. refl))
  step_shown EndGo (did, sees) = (tt, ends_all old.ending did)

-- WHOLE RUNS

refused_from : (old new : State) (log : List Entry) (before : ℕ → WorldSeat) (quiet collected : ℕ → Type 0)
    → AllSince before quiet collected old
    → AllLinked old → (run : Runs old log new) → RefusedAlong before quiet collected old new log run
refused_from old new [] before quiet collected h linked run = tt
refused_from old new (x ∷ log) before quiet collected h linked (mid, did, run) =
    let shown : ShowsLeft before quiet collected old x.step x.reply mid =
    step_shown old mid x.reply before quiet collected h linked x.step did in
    (shown.0, refused_from mid new log _ _ _ shown.1 (step_linked old mid x.step x.reply linked did) run)

-- In every run of a new world, a call that is refused leaves all that it has to leave as it was when it began.
pub refused_along : (s new : State) (log : List Entry) → IsFresh s → (run : Runs s log new)
    → RefusedAlong (seat_of s) all_quiet none_collected s new log run
refused_along s new log fresh run =
    refused_from s new log (seat_of s) all_quiet none_collected none (fresh_linked s fresh) run
  where
    none : AllSince (seat_of s) all_quiet none_collected s
    none q = subst (λ (seat : WorldSeat). Since (seat_of s q) (Unit {0}) ⊥ seat) (sym (fresh.free q)) tt
