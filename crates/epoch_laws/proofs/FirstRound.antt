-- The first round, up to its Flush's own put, and that the rounds from there on call all that is in the store.
use Rattle.std.proofs.Common.{◌≡◌, ◌≢◌, ℕ, suc, ◌+◌, ◌*◌, ◌^◌, ◌<◌, ◌≤◌, ◌==◌, Bool, true, false, not, List, [], ◌∷◌}
use Rattle.std.proofs.Common.{◌++◌, length, Some, ◌⊎◌, inl, inr, refl, ap, sym, subst, ◌∙◌, arith, if◌then◌else◌}
use Rattle.std.proofs.Common.{length-set}
use Rattle.std.proofs.lemmas.Bool.Decides.{nat_tests}
use Rattle.std.proofs.lemmas.Grind.{div_ceil_times}
use Rattle.epoch_bags.specs.declared.queue.PutStep.{PutStep}
use Rattle.epoch_bags.specs.declared.queue.PutStep.TheVariants.{Again, Done as PutDone, Full}
use Rattle.epoch_bags.specs.declared.queue.TakeStep.{TakeStep}
use Rattle.epoch_bags.specs.declared.queue.TakeStep.TheVariants.{Again as TakeAgain, Empty, Got}
use Rattle.epoch_machine.specs.declared.machine.Action.{Action}
use Rattle.epoch_machine.specs.declared.machine.Action.TheVariants.{Flush as FlushAction}
use Rattle.epoch_machine.specs.declared.machine.Answer.TheVariants.{Stored}
use Rattle.epoch_machine.specs.declared.machine.Sizes.{Sizes}
use Rattle.epoch_machine.specs.declared.machine.Stage.{Stage}
use Rattle.epoch_machine.specs.declared.machine.Stage.TheVariants.{Idle as Resting}
use Rattle.epoch_machine.specs.declared.machine.Stage.TheVariants.{LoadScan, Scan, Advance, Take, Calling, LoadSeal}
use Rattle.epoch_machine.specs.declared.machine.Stage.TheVariants.{Put}
use Rattle.epoch_machine.specs.declared.machine.Stage.TheVariants.{End}
use Rattle.epoch_machine.specs.Machine.{Machine, IsSized, PutsHeld, is_empty, is_taking, ask_at, hears, put_heard}
use Rattle.epoch_machine.specs.Machine.{took_heard, with_stage, after_collect, after_put, after_job, past_word, begun}
use Rattle.epoch_machine.proofs.StagesAfter.{past_word_at, after_job_at}
use Rattle.epoch_laws.specs.declared.heap.access.AccessAnswer.TheVariants.{Guard, Unit as UnitAnswer}
use Rattle.epoch_laws.specs.Heap.{Heap, heap_after_job as heap_after}
use Rattle.epoch_laws.specs.declared.step.Call.TheVariants.{Pin, Unpin, Flush}
use Rattle.epoch_laws.specs.declared.step.Deferral.{Deferral}
use Rattle.epoch_laws.specs.declared.step.Entry.{Entry}
use Rattle.epoch_laws.specs.declared.step.Progress.{Progress}
use Rattle.epoch_laws.specs.declared.step.Progress.TheVariants.{Idle, Driven}
use Rattle.epoch_laws.specs.declared.step.Reply.{Reply}
use Rattle.epoch_laws.specs.declared.step.Reply.TheVariants.{Began, Stepped, Done}
use Rattle.epoch_laws.specs.declared.step.Step.TheVariants.{Begin, Go}
use Rattle.epoch_laws.specs.declared.step.Word.{Word}
use Rattle.epoch_laws.specs.declared.step.Word.TheVariants.{Free, Unpinned, Pinned}
use Rattle.epoch_laws.specs.Calls.{call_entries, goes_of, ends_call, AllGoOn}
use Rattle.epoch_laws.specs.Rounds.{IsQuiet, call_to, IsFirstRound, AreRounds, CallsAll, collections}
use Rattle.epoch_laws.specs.Run.{Bag, WorldSeat, State, seat_of, position_word, word_number, with_seat, with_machine}
use Rattle.epoch_laws.specs.Run.{with_places, ahead_of, drives, full_or_done, refusal, DrivesCall, DoesGo, TakesStep}
use Rattle.epoch_laws.specs.Run.{Runs, IsFresh}
use Rattle.epoch_laws.specs.Tickets.{times, times_queued, times_called}
use Rattle.epoch_laws.proofs.SeatLemmas.{seat_written, seat_other, seat_there}
use Rattle.epoch_laws.proofs.SeatLinks.{AllLinked, follows_at}
use Rattle.epoch_laws.proofs.Linked.{step_linked, fresh_linked}
use Rattle.epoch_laws.proofs.SeatsFine.{is_pinned, publishes_at}
use Rattle.epoch_laws.proofs.JobsPlaced.{HandAt}
use Rattle.epoch_laws.proofs.GraceKept.{runs_hold, fresh_holds}
use Rattle.epoch_laws.proofs.TicketsOnce.{run_tallies}
use Rattle.epoch_laws.proofs.TicketsTallied.{Tallies}
use Rattle.epoch_laws.proofs.WorldHolds.{Holds}
use Rattle.epoch_laws.proofs.SizesStay.{sizes_stay}
use Rattle.epoch_laws.proofs.StoredBags.{SealedBy, sealed_by, sealed_more, none_left}
use Rattle.epoch_laws.proofs.QuietCalls.{Plan, IsNext, Known, IsStill, IsUnderWay, Rests}
use Rattle.epoch_laws.proofs.QuietRounds.{runs_split, called_append, begun_by, goes_to_end, pins, Pinning}
use Rattle.epoch_laws.proofs.QuietRounds.{unpins}
use Rattle.epoch_laws.proofs.QuietRounds.{round, rounds}

-- after the load that begins the scan
abbrev IsBeyond : Stage → Type 0
IsBeyond (Scan e k) = Unit {0}
IsBeyond (Advance e) = Unit {0}
IsBeyond (Take x k) = Unit {0}
IsBeyond (Calling x k) = Unit {0}
IsBeyond End = Unit {0}
IsBeyond _ = ⊥

-- up to that load; where the put isn't refused, nothing is held after it
abbrev pub IsBefore : ℕ → Machine Deferral → Stage → Type 0
IsBefore epoch m LoadSeal = Unit {0}
IsBefore epoch m (Put seal) = seal ≤ epoch + 1
IsBefore epoch m LoadScan = m.full ≡ false → m.held ≡ []
IsBefore epoch m _ = ⊥

module _ (p g epoch : ℕ) (sizes : Sizes) where
  -- p's Flush is under way
  pub record Flushes (s : State) : Type 0 where
    pub there : p < length s.seats
    pub taken : position_word s p ≢ Free
    pub progress : (seat_of s p).progress ≡ Driven (Flush (Some g))
    pub action : (seat_of s p).machine.action ≡ FlushAction

  record Beyond (s : State) : Type 0 where
    flushes : Flushes s
    stage : IsBeyond (seat_of s p).machine.stage

  pub record Before (s : State) : Type 0 where
    pub flushes : Flushes s
    pub positions : sizes.positions ≡ length s.seats
    pub others : (q : ℕ) → q ≢ p → IsStill (seat_of s q)
    pub word : position_word s p ≡ Pinned epoch
    pub near : (s.epoch ≡ epoch) ⊎ (s.epoch ≡ epoch + 1)
    pub seals : SealedBy (epoch + 1) s.queued
    pub guards : (seat_of s p).guards ≡ g ∷ []
    pub counted : (seat_of s p).machine.guards ≡ 1
    pub sized : (seat_of s p).machine.sizes ≡ sizes
    pub hand : (seat_of s p).machine.hand ≡ []
    pub stage : IsBefore epoch (seat_of s p).machine (seat_of s p).machine.stage

  module _ (old new : State) (r : Reply) where
    abbrev seat : WorldSeat
    seat = seat_of old p

    abbrev m : Machine Deferral
    m = seat.machine

    abbrev aside : State
    aside = with_places new old.places old.seen old.ahead old.room

    module _ (h : Flushes old) (n : Machine Deferral) (e : ℕ) (q : List Bag) (heap : Heap)
        (did : aside ≡ record (with_seat old p (with_machine seat n)) { epoch = e; queued = q; heap = heap }) where
      as_many : length new.seats ≡ length old.seats
      as_many = ap (λ (s : State). length s.seats) did ∙ length-set old.seats p (with_machine seat n)

      wrote : (k : ℕ) → seat_of new k ≡ seat_of (with_seat old p (with_machine seat n)) k
      wrote k = ap (λ (s : State). seat_of s k) did

      here : seat_of new p ≡ with_machine seat n
      here = wrote p ∙ seat_written old p (with_machine seat n) h.there

      flushes_on : n.action ≡ FlushAction → Flushes new
      flushes_on action = record {
        there = subst (λ (k : ℕ). p < k) (sym as_many) h.there;
        taken = λ f. h.taken (ap (λ (st : WorldSeat). st.word) (sym here) ∙ f);
        progress = ap (λ (st : WorldSeat). st.progress) here ∙ h.progress;
        action = ap (λ (st : WorldSeat). st.machine.action) here ∙ action;
      }

      beyond_on : n.action ≡ FlushAction → IsBeyond n.stage → Beyond new
      beyond_on action stage = record {
        flushes = flushes_on action;
        stage = subst (λ (st : WorldSeat). IsBeyond st.machine.stage) (sym here) stage;
      }

    -- BEYOND

    beyond_word : (positions e k x : ℕ) → IsBeyond (past_word positions e k x)
    beyond_word positions e k x = past_word_at IsBeyond positions e k x tt tt tt

    beyond_collect : (held : List Deferral) → m.action ≡ FlushAction → IsBeyond (after_collect m.action held)
    beyond_collect held is = subst (λ (a : Action). IsBeyond (after_collect a held)) (sym is) tt

    beyond_job : (x k : ℕ) (jobs : List Deferral) → m.action ≡ FlushAction → IsBeyond (after_job m x k jobs)
    beyond_job x k jobs is = after_job_at IsBeyond m x k jobs tt tt (beyond_collect m.held is)

    beyond_take : (h : Flushes old) (x k : ℕ) (step : TakeStep) (jobs : List Deferral) (q : List Bag)
        → m.stage ≡ Take x k
        → aside ≡ record (with_seat old p (with_machine seat (took_heard m (Take x k) step jobs))) { queued = q }
        → Beyond new
    beyond_take h x k TakeAgain jobs q at did =
        beyond_on h m old.epoch q old.heap did h.action (subst IsBeyond (sym at) tt)
    beyond_take h x k Empty jobs q at did =
        beyond_on h _ old.epoch q old.heap did h.action (beyond_collect m.held h.action)
    beyond_take h x k Got jobs q at did = beyond_on h _ old.epoch q old.heap did h.action (beyond_job x k jobs h.action)

    beyond_go : (h : Flushes old) (s : Stage) → m.stage ≡ s → IsBeyond s → ends_call r ≡ false
        → DrivesCall old p seat (Flush (Some g)) s (ask_at s) r aside → Beyond new
    beyond_go h (Scan e k) at b on did = beyond_on h _ old.epoch old.queued old.heap did.1 h.action
        (beyond_word m.sizes.positions e k (word_number (position_word old k)))
    beyond_go h (Advance e) at b on did =
        beyond_on h (hears m (Advance e) Stored) (e + 1) old.queued old.heap did.1 h.action tt
    beyond_go h (Take x k) at b on did = beyond_take h x k did.0 did.1 did.2 at did.5
    beyond_go h (Calling x k) at b on did = beyond_on h _ old.epoch old.queued
        (heap_after old.heap did.0.removes) did.4 h.action (beyond_job x k did.1 h.action)
    beyond_go h End at b on did = absurd (cc (on, ap ends_call did.0, full_ends m.full))
      where
        full_ends : (full : Bool) → ends_call (full_or_done full) ≡ true
        full_ends true = refl
        full_ends false = refl
    beyond_go h _ at b on did = absurd b

    -- BEFORE

    before_on : (h : Before old) (n : Machine Deferral) (q : List Bag)
        → n.action ≡ m.action → n.guards ≡ m.guards → n.sizes ≡ m.sizes → n.hand ≡ m.hand
        → SealedBy (epoch + 1) q → IsBefore epoch n n.stage
        → aside ≡ record (with_seat old p (with_machine seat n)) { queued = q } → Before new
    before_on h n q action guards same_sizes hand seals stage did =
        let is : seat_of new p ≡ with_machine seat n = here h.flushes n old.epoch q old.heap did in
        let many : length new.seats ≡ length old.seats = as_many h.flushes n old.epoch q old.heap did in
        record {
          flushes = flushes_on h.flushes n old.epoch q old.heap did (action ∙ h.flushes.action);
          positions = h.positions ∙ sym many;
          others = λ k other. subst IsStill
              (sym (wrote h.flushes n old.epoch q old.heap did k ∙ seat_other old p k _ other)) (h.others k other);
          word = ap (λ (st : WorldSeat). st.word) is ∙ h.word;
          near = subst (λ (e : ℕ). (e ≡ epoch) ⊎ (e ≡ epoch + 1)) (sym (ap (λ (s : State). s.epoch) did)) h.near;
          seals = subst (SealedBy (epoch + 1)) (sym (ap (λ (s : State). s.queued) did)) seals;
          guards = ap (λ (st : WorldSeat). st.guards) is ∙ h.guards;
          counted = ap (λ (st : WorldSeat). st.machine.guards) is ∙ guards ∙ h.counted;
          sized = ap (λ (st : WorldSeat). st.machine.sizes) is ∙ same_sizes ∙ h.sized;
          hand = ap (λ (st : WorldSeat). st.machine.hand) is ∙ hand ∙ h.hand;
          stage = subst (λ (st : WorldSeat). IsBefore epoch st.machine st.machine.stage) (sym is) stage;
        }

    before_put : (h : Before old) (seal : ℕ) (step : PutStep) (q : List Bag)
        → m.stage ≡ Put seal → seal ≤ epoch + 1 → PutsHeld seal m old.queued step q
        → aside ≡ record (with_seat old p (with_machine seat (put_heard m step))) { queued = q } → Before new
    before_put h seal Again q at le same did =
        before_on h m q refl refl refl refl (subst (SealedBy (epoch + 1)) (sym same) h.seals)
        (subst (IsBefore epoch m) (sym at) le) did
    before_put h seal PutDone q at le put did =
        before_on h (put_heard m PutDone) q refl refl refl refl (sealed_more (epoch + 1) old.queued q _ put h.seals le)
        (subst (λ (a : Action). IsBefore epoch (put_heard m PutDone) (after_put a false))
        (sym h.flushes.action) (λ full. refl)) did
    before_put h seal Full q at le same did =
        before_on h (put_heard m Full) q refl refl refl refl (subst (SealedBy (epoch + 1)) (sym same) h.seals)
        (subst (λ (a : Action). IsBefore epoch (put_heard m Full) (after_put a true)) (sym h.flushes.action)
        (λ full. absurd (cc (full)))) did

    -- up to the load that begins the scan, no step ends the Flush
    pub before_goes : (h : Before old) (s : Stage)
        → m.stage ≡ s → IsBefore epoch m s → DrivesCall old p seat (Flush (Some g)) s (ask_at s) r aside
        → (s ≡ LoadScan) ⊎ ((r ≡ Stepped) × Before new)
    before_goes h LoadScan at b did = inl refl
    before_goes h LoadSeal at b did =
        inr (
          did.0,
          before_on h (with_stage m (Put old.epoch)) old.queued refl refl refl refl h.seals (near h.near) did.1,
        )
      where
        near : (old.epoch ≡ epoch) ⊎ (old.epoch ≡ epoch + 1) → old.epoch ≤ epoch + 1
        near (inl e) = omega arith
        near (inr e) = omega arith
    before_goes h (Put seal) at b did = inr (did.2, before_put h seal did.0 did.1 at b did.3 did.4)
    before_goes h _ at b did = absurd b

    before_go : (h : Before old) (s : Stage) → m.stage ≡ s → IsBefore epoch m s
        → DrivesCall old p seat (Flush (Some g)) s (ask_at s) r aside → Before new ⊎ Beyond new
    before_go h LoadScan at b did = inr (beyond_on h.flushes
        (with_stage m (Scan old.epoch 0)) old.epoch old.queued old.heap did.1 h.flushes.action tt)
    before_go h LoadSeal at b did = went (before_goes h LoadSeal at b did)
      where
        went : (LoadSeal ≡ LoadScan) ⊎ ((r ≡ Stepped) × Before new) → Before new ⊎ Beyond new
        went (inl scans) = absurd (cc (scans))
        went (inr on) = inl on.1
    before_go h (Put seal) at b did = went (before_goes h (Put seal) at b did)
      where
        went : (Put seal ≡ LoadScan) ⊎ ((r ≡ Stepped) × Before new) → Before new ⊎ Beyond new
        went (inl scans) = absurd (cc (scans))
        went (inr on) = inl on.1
    before_go h _ at b did = absurd b

    -- what a step Go of p does while its Flush is under way
    pub driven : (h : Flushes old)
        → TakesStep old (Go p) r new → DrivesCall old p seat (Flush (Some g)) m.stage (ask_at m.stage) r aside
    driven h (inl did, sees) = absurd (h.taken did.0)
    driven h (inr did, sees) = subst (λ (now : Progress). DoesGo old p seat now r aside) h.progress did.1

  goes_first : (old new : State) (rs : List Reply)
      → Before old ⊎ Beyond old → AllGoOn rs → Runs old (goes_of p rs) new → Before new ⊎ Beyond new
  goes_first old new [] h on run = subst (λ s. Before s ⊎ Beyond s) (sym run) h
  goes_first old new (r ∷ rs) (inl h) on (mid, did, run) =
      goes_first mid new rs
      (before_go old mid r h (seat_of old p).machine.stage refl h.stage (driven old mid r h.flushes did)) on.1 run
  goes_first old new (r ∷ rs) (inr h) on (mid, did, run) =
      goes_first mid new rs (inr (beyond_go old mid r h.flushes (seat_of old p).machine.stage refl h.stage on.0
      (driven old mid r h.flushes did))) on.1 run

-- FROM A NEW WORLD ON

pub runs_linked : (old new : State) (log : List Entry) → AllLinked old → Runs old log new → AllLinked new
runs_linked old new [] h run = subst AllLinked (sym run) h
runs_linked old new (x ∷ log) h (mid, did, run) = runs_linked mid new log (step_linked old mid x.step x.reply h did) run

not_pinned : (w : Word) → ((e : ℕ) → w ≢ Pinned e) → is_pinned w ≡ false
not_pinned (Pinned e) none = absurd (none e refl)
not_pinned Free none = refl
not_pinned Unpinned none = refl

-- who is taking bags is pinned
taking_pinned : (m : Machine Deferral) (s : Stage) → publishes_at m s ≡ false → is_taking s ≡ false
taking_pinned m (Take x k) off = absurd (cc (off))
taking_pinned m _ off = refl

no_guards : (out : List ℕ) → length out ≡ 0 → out ≡ []
no_guards [] e = refl
no_guards (g ∷ out) e = absurd (omega arith)

no_count : (n : ℕ) → not (n == 0) ≡ false → n ≡ 0
no_count n e = grind (arith, nat_tests)

module _ (fresh s : State) (earlier : List Entry) (is_fresh : IsFresh fresh) (run : Runs fresh earlier s) (p : ℕ)
    (quiet : IsQuiet p s) where
  quiet_rests : Rests p s.sizes (seat_of s p).machine.held [] (s.epoch + 1) (λ t. times_queued t s.queued) (λ t. 0) s
  quiet_rests = record {
    there = seat_there s p taken;
    positions = linked.positions;
    others = λ q other. still q (not_pinned (position_word s q) (λ e. quiet.others q e other));
    taken = taken;
    guards = no_guards (seat_of s p).guards (sym (linked.seats p).counted ∙ none);
    counted = none;
    held = refl;
    hand = subst (HandAt (seat_of s p).machine.hand) rests (tallies.seats p).hand;
    sized = (linked.seats p).sized;
    seals = sealed_by holds.when s.tickets s.epoch (s.epoch + 1) s.queued (omega arith) holds.queued;
    placed = λ t. omega arith;
  }
    where
      linked : AllLinked s
      linked = runs_linked fresh s earlier (fresh_linked fresh is_fresh) run

      holds : Holds s earlier
      holds = runs_hold fresh s [] earlier (fresh_linked fresh is_fresh) (fresh_holds fresh is_fresh) run

      tallies : Tallies s earlier
      tallies = run_tallies fresh s earlier is_fresh run

      taken : position_word s p ≢ Free
      taken free = cc (free, quiet.unpinned)

      rests : (seat_of s p).machine.stage ≡ Resting
      rests = follows_at s.sizes (seat_of s p) (linked.seats p) Idle quiet.idle

      none : (seat_of s p).machine.guards ≡ 0
      none = no_count _ (sym (ap (publishes_at (seat_of s p).machine) rests) ∙ sym (holds.seats p).agrees
          ∙ ap is_pinned quiet.unpinned)

      still : (q : ℕ) → is_pinned (position_word s q) ≡ false → IsStill (seat_of s q)
      still q off =
          (off, taking_pinned (seat_of s q).machine (seat_of s q).machine.stage (sym (holds.seats q).agrees ∙ off))

-- the Flush of the first round has begun
before_begun : (p g epoch next bound bags : ℕ) (sizes : Sizes) (sized : IsSized sizes) (jobs : List Deferral)
    (total called : ℕ → ℕ) (old new : State) → next ≡ epoch + 1 → bound ≡ epoch + 1
    → Pinning p sizes sized epoch next bound bags g jobs total called old
    → TakesStep old (Begin p (Flush (Some g))) Began new → Before p g epoch sizes new
before_begun p g epoch next bound bags sizes sized jobs total called old new is_next is_bound h (did, sees) = record {
  flushes = record {
    there = subst (λ (k : ℕ). p < k) (sym as_many) h.rests.there;
    taken = λ f. h.rests.taken (ap (λ (st : WorldSeat). st.word) (sym here) ∙ f);
    progress = ap (λ (st : WorldSeat). st.progress) here;
    action = ap (λ (st : WorldSeat). st.machine.action) here;
  };
  positions = h.rests.positions ∙ sym as_many;
  others = λ q other. subst IsStill (sym (wrote q ∙ seat_other old p q to other)) (h.rests.others q other);
  word = ap (λ (st : WorldSeat). st.word) here ∙ h.word;
  near = near h.near;
  seals = subst (λ (k : ℕ). SealedBy k new.queued) is_bound
      (subst (SealedBy bound) (sym (ap (λ (s : State). s.queued) made)) h.rests.seals);
  guards = ap (λ (st : WorldSeat). st.guards) here ∙ h.rests.guards;
  counted = ap (λ (st : WorldSeat). st.machine.guards) here ∙ h.rests.counted;
  sized = ap (λ (st : WorldSeat). st.machine.sizes) here ∙ h.rests.sized;
  hand = ap (λ (st : WorldSeat). st.machine.hand) here ∙ h.rests.hand;
  stage = subst (λ (st : WorldSeat). IsBefore epoch st.machine st.machine.stage) (sym here) (first m.held refl);
}
  where
    m : Machine Deferral
    m = (seat_of old p).machine

    to : WorldSeat
    to = drives FlushAction (Flush (Some g)) (seat_of old p)

    made : with_places new old.places old.seen old.ahead old.room ≡ with_seat old p to
    made = begun_by old _ p (Flush (Some g)) (refusal (Flush (Some g)) (seat_of old p) old.tickets old.heap) did

    as_many : length new.seats ≡ length old.seats
    as_many = ap (λ (s : State). length s.seats) made ∙ length-set old.seats p to

    wrote : (q : ℕ) → seat_of new q ≡ seat_of (with_seat old p to) q
    wrote q = ap (λ (s : State). seat_of s q) made

    here : seat_of new p ≡ to
    here = wrote p ∙ seat_written old p to h.rests.there

    near : (old.epoch ≡ epoch) ⊎ ((old.epoch ≡ next) × (next ≡ epoch + 1))
        → (new.epoch ≡ epoch) ⊎ (new.epoch ≡ epoch + 1)
    near (inl e) = inl (ap (λ (s : State). s.epoch) made ∙ e)
    near (inr e) = inr (ap (λ (s : State). s.epoch) made ∙ e.0 ∙ e.1)

    first : (held : List Deferral)
        → m.held ≡ held → IsBefore epoch (begun FlushAction m) (if is_empty held then LoadScan else LoadSeal)
    first [] e = λ full. e
    first (job ∷ jobs) e = tt

-- as it does after the Pin of the first round
pub flush_begins : (fresh s pinned begun : State) (earlier : List Entry)
    → IsFresh fresh → Runs fresh earlier s → (p : ℕ) → IsQuiet p s → s.epoch + 4 ≤ 2 ^ 63
    → (g : ℕ) (going : List Reply) → AllGoOn going → Runs s (call_to p Pin going (Done (Guard g))) pinned
    → TakesStep pinned (Begin p (Flush (Some g))) Began begun
    → Before p g s.epoch s.sizes begun
flush_begins fresh s pinned begun earlier is_fresh run p quiet small g going on pinning begins =
    let sized : IsSized s.sizes = subst IsSized (sym (sizes_stay fresh s earlier run)) is_fresh.in_range in
    let rests = pins p s.sizes sized s.epoch (s.epoch + 1) (s.epoch + 1) (length s.queued) g (seat_of s p).machine.held
    (λ t. times_queued t s.queued) (λ t. 0) s pinned going
    (inl (omega arith, refl)) (quiet_rests fresh s earlier is_fresh run p quiet) refl (omega arith) on pinning in
    before_begun p g s.epoch (s.epoch + 1) (s.epoch + 1) (length s.queued) s.sizes sized
    (seat_of s p).machine.held _ _ pinned begun refl refl rests begins

module _ (fresh s put new : State) (earlier before after others : List Entry) (p : ℕ) (is_fresh : IsFresh fresh)
    (run : Runs fresh earlier s) (quiet : IsQuiet p s) (small : s.epoch + 4 ≤ 2 ^ 63)
    (reaches : Runs s before put) (round_one : IsFirstRound p before put after) where
  abbrev bags : ℕ
  bags = length put.queued

  abbrev total : ℕ → ℕ
  total t = times_queued t put.queued

  sized : IsSized s.sizes
  sized = subst IsSized (sym (sizes_stay fresh s earlier run)) is_fresh.in_range

  -- right after the put
  at_put : Before p round_one.guard s.epoch s.sizes put
  at_put =
      let pin : List Entry = call_to p Pin round_one.pins (Done (Guard round_one.guard)) in
      let flush : List Entry = call_entries p (Flush (Some round_one.guard)) (Began ∷ round_one.puts) in
      let parts = runs_split s put pin flush (subst (λ (es : List Entry). Runs s es put) round_one.until reaches) in
      ends (goes_first p round_one.guard s.epoch s.sizes parts.2.0 put round_one.puts
      (inl (flush_begins fresh s parts.0 parts.2.0 earlier is_fresh run p quiet small round_one.guard round_one.pins
      round_one.pinning parts.1 parts.2.1))
      round_one.putting parts.2.2)
    where
      ends : Before p round_one.guard s.epoch s.sizes put ⊎ Beyond p round_one.guard s.epoch s.sizes put
          → Before p round_one.guard s.epoch s.sizes put
      ends (inl b) = b
      ends (inr b) = absurd (subst IsBeyond round_one.scans b.stage)

  -- the rest of the first Flush
  abbrev rest : Plan
  rest = record {
    p = p;
    call = Flush (Some round_one.guard);
    sizes = s.sizes;
    held = (seat_of put p).machine.held;
    full = (seat_of put p).machine.full;
    epoch = s.epoch;
    next = s.epoch + 1;
    bound = s.epoch + 1;
    bags = bags;
    total = total;
  }

  collecting : IsUnderWay rest (λ t. 0) put (ahead_of put p)
  collecting = record {
    there = at_put.flushes.there;
    positions = at_put.positions;
    others = at_put.others;
    taken = at_put.flushes.taken;
    progress = at_put.flushes.progress;
    guards = at_put.guards;
    known = subst (λ (stage : Stage). Known rest (λ t. 0) put.epoch put.queued (ahead_of put p) (position_word put p)
        (seat_of put p).machine stage) (sym round_one.scans) (record {
          held = refl;
          full = refl;
          action = at_put.flushes.action;
          sizes = at_put.sized;
          counted = at_put.counted;
          hand = at_put.hand;
          seals = at_put.seals;
          placed = λ t. omega (arith, ap (times t) at_put.hand);
          at = (tt, at_put.word, near at_put.near, omega arith);
        });
  }
    where
      near : (put.epoch ≡ s.epoch) ⊎ (put.epoch ≡ s.epoch + 1)
          → (put.epoch ≡ s.epoch) ⊎ ((put.epoch ≡ s.epoch + 1) × (s.epoch + 1 ≡ s.epoch + 1))
      near (inl e) = inl e
      near (inr e) = inr (e, refl)

  -- its put wasn't refused, so nothing is held
  not_full : Done UnitAnswer ≡ full_or_done (seat_of put p).machine.full → (seat_of put p).machine.held ≡ []
  not_full told = subst (IsBefore s.epoch (seat_of put p).machine) round_one.scans at_put.stage
      (by_full (seat_of put p).machine.full told)
    where
      by_full : (full : Bool) → Done UnitAnswer ≡ full_or_done full → full ≡ false
      by_full true e = absurd (cc (e))
      by_full false e = refl

  pub quiet_rounds : AreRounds p (suc (collections (length put.queued) put.sizes.collect_bags)) others
      → Runs put (after ++ others) new → CallsAll put.queued (after ++ others) new
  quiet_rounds (second, more, is_second, are_more, whole) goes =
      let E : ℕ = s.epoch in
      let first_next : IsNext E (E + 1) = inl (omega arith, refl) in
      let flush : List Entry = goes_of p (round_one.flushes ++ Done UnitAnswer ∷ []) in
      let unpin : List Entry = call_to p (Unpin (Some round_one.guard)) round_one.unpins (Done UnitAnswer) in
      let parts = runs_split put new after others goes in
      let ones = runs_split put parts.0 flush unpin
      (subst (λ (es : List Entry). Runs put es parts.0) round_one.behind parts.1) in
      let ended = goes_to_end rest (λ t. 0) put ones.0 round_one.flushes (Done UnitAnswer) first_next
      sized.collect_bags.1 sized.collect_bags.0 collecting round_one.flushing refl ones.1 in
      let flushed : Rests p s.sizes [] (round_one.guard ∷ []) (E + 1) total (λ t. 0 + times_called t flush) ones.0 =
      subst (λ (jobs : List Deferral). Rests p s.sizes jobs (round_one.guard ∷ []) (E + 1) total
      (λ t. 0 + times_called t flush) ones.0) (not_full ended.told) ended.rests in
      let out = unpins p s.sizes sized (E + 1) (E + 1) bags round_one.guard total (λ t. 0 + times_called t flush) ones.0
      parts.0 round_one.unpins flushed ended.after.1 ended.after.2 round_one.unpinning ones.2 in
      let seconds = runs_split parts.0 new second more
      (subst (λ (es : List Entry). Runs parts.0 es new) whole parts.2) in
      let two = round p s.sizes sized (E + 1) (E + 2) (E + 1) bags total
      (λ t. 0 + times_called t flush + times_called t unpin) parts.0 seconds.0 second
      (inl (omega arith, omega arith)) out is_second seconds.1 in
      let same : put.sizes.collect_bags ≡ s.sizes.collect_bags = ap (λ (z : Sizes). z.collect_bags)
      (sizes_stay s put before reaches) in
      let enough : bags ≤ collections bags put.sizes.collect_bags * s.sizes.collect_bags =
      subst (λ (c : ℕ). bags ≤ collections bags c * s.sizes.collect_bags) (sym same)
      (div_ceil_times bags s.sizes.collect_bags sized.collect_bags.0).0 in
      let last = rounds p s.sizes sized (collections bags put.sizes.collect_bags) (E + 2) (E + 1) bags total
      (λ t. 0 + times_called t flush + times_called t unpin + times_called t second) seconds.0 new more
      two.between (omega arith) (omega arith) enough are_more seconds.2 in
      let none : new.queued ≡ [] = none_left new.queued last.1 in
      record {
        called = λ t. omega (
          arith,
          last.0.placed t,
          ap (times_queued t) none,
          called_append t after others,
          ap (times_called t) round_one.behind,
          called_append t flush unpin,
          ap (times_called t) whole,
          called_append t second more,
        );
        none_left = none;
      }
