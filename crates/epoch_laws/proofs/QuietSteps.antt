-- What one step of p does in such a call, and what is known after it.
use Rattle.std.proofs.Common.{◌≡◌, ◌≢◌, ℕ, ◌+◌, ◌-◌, ◌*◌, ◌^◌, ◌<◌, ◌≤◌, ◌==◌, min, Bool, true, false}
use Rattle.std.proofs.Common.{List, [], ◌∷◌, ◌++◌, length, Option, Some, None, ◌⊎◌, inl, inr, refl, ap, ap₂, sym, subst}
use Rattle.std.proofs.Common.{◌∙◌, arith, if◌then◌else◌, length-set}
use Rattle.epoch_bags.specs.Stores.{AllExpired}
use Rattle.epoch_bags.specs.declared.queue.TakeStep.{TakeStep}
use Rattle.epoch_bags.specs.declared.queue.TakeStep.TheVariants.{Again as TakeAgain, Empty, Got}
use Rattle.epoch_machine.specs.declared.machine.Action.{Action}
use Rattle.epoch_machine.specs.declared.machine.Action.TheVariants.{Pin as PinAction, Unpin as UnpinAction}
use Rattle.epoch_machine.specs.declared.machine.Action.TheVariants.{Flush as FlushAction}
use Rattle.epoch_machine.specs.declared.machine.Answer.TheVariants.{Stored}
use Rattle.epoch_machine.specs.declared.machine.Ask.{Ask}
use Rattle.epoch_machine.specs.declared.machine.Ask.TheVariants.{TakeBag, CallJob}
use Rattle.epoch_machine.specs.declared.machine.Sizes.{Sizes}
use Rattle.epoch_machine.specs.declared.machine.Stage.{Stage}
use Rattle.epoch_machine.specs.declared.machine.Stage.TheVariants.{LoadPin, StorePin, ReloadPin}
use Rattle.epoch_machine.specs.declared.machine.Stage.TheVariants.{LoadScan, Scan, Advance, Take, Calling}
use Rattle.epoch_machine.specs.declared.machine.Stage.TheVariants.{StoreUnpinned, End}
use Rattle.epoch_machine.specs.Machine.{Machine, is_taking, TakesHand, ask_at, hears, took_heard, gives, with_stage}
use Rattle.epoch_machine.specs.Machine.{after_collect, after_pin, after_unpin, after_job, holds_up, scanned, past_word}
use Rattle.epoch_machine.specs.Machine.{guards_after}
use Rattle.epoch_machine.proofs.StagesAfter.{by_test}
use Rattle.epoch_laws.specs.declared.heap.access.AccessAnswer.TheVariants.{Guard}
use Rattle.epoch_laws.specs.Heap.{Heap, outcome_of, heap_after_job as heap_after}
use Rattle.epoch_laws.specs.declared.step.Call.{Call}
use Rattle.epoch_laws.specs.declared.step.Call.TheVariants.{Pin, Unpin, Repin, Pause, Resume, Defer, Flush, Release}
use Rattle.epoch_laws.specs.declared.step.Call.TheVariants.{DeferDestroy, Access as AccessCall}
use Rattle.epoch_laws.specs.declared.step.Deferral.{Deferral}
use Rattle.epoch_laws.specs.declared.step.Progress.{Progress}
use Rattle.epoch_laws.specs.declared.step.Reply.{Reply}
use Rattle.epoch_laws.specs.declared.step.Reply.TheVariants.{Stepped, Called as CalledReply, Done}
use Rattle.epoch_laws.specs.declared.step.Step.TheVariants.{Go}
use Rattle.epoch_laws.specs.declared.step.Word.{Word}
use Rattle.epoch_laws.specs.declared.step.Word.TheVariants.{Free, Unpinned, Pinned}
use Rattle.epoch_laws.specs.Calls.{ends_call}
use Rattle.epoch_laws.specs.Collections.{is_collecting, expiry_of, AllAhead, FindsAhead}
use Rattle.epoch_laws.specs.Kept.{action_of}
use Rattle.epoch_laws.specs.Run.{Bag, WorldSeat, State, seat_of, position_word, word_number, with_seat, with_machine}
use Rattle.epoch_laws.specs.Run.{with_word, with_places, ahead_of, outlook_of, NoneTakes, turn_of, turn_at, lowest}
use Rattle.epoch_laws.specs.Run.{without, full_or_done, end_reply, with_guards, ended_seat, DrivesCall, DoesGo}
use Rattle.epoch_laws.specs.Run.{TakesStep}
use Rattle.epoch_laws.specs.Tickets.{times, times_queued, calls_of}
use Rattle.epoch_laws.proofs.SeatLemmas.{seat_written, seat_other, same_or_other}
use Rattle.epoch_laws.proofs.JobsPlaced.{HandAt}
use Rattle.epoch_laws.proofs.PutsFind.{turn_taken}
use Rattle.epoch_laws.proofs.ScanStages.{same_epoch}
use Rattle.epoch_laws.proofs.TicketSums.{queued_put, times_cons}
use Rattle.epoch_laws.proofs.StoredBags.{SealedBy, all_expired, sealed_less, one_less}
use Rattle.epoch_laws.proofs.QuietCalls.{Plan, IsNext, Near, After, Collects, guards_in, guards_out, told_of}
use Rattle.epoch_laws.proofs.QuietCalls.{Enough, KnowsAt, Known, IsStill, IsUnderWay, Rests, Comes, eq_true}
use Rattle.epoch_laws.proofs.QuietCalls.{eq_false, at_top, below_top, to_end, collected, unpinned_end}
use Rattle.epoch_laws.proofs.QuietCalls.{unpinned_after, holds_pinned, enough_at_first, enough_same}
use Rattle.epoch_laws.proofs.QuietCalls.{enough_less, enough_none, told_calls, told_ends, alone}

-- ONE STEP GO OF p

module _ (v : Plan) (called : ℕ → ℕ) (old new : State) (r : Reply) (next : IsNext v.epoch v.next)
    (few : v.sizes.collect_bags ≤ 64) (some : 0 < v.sizes.collect_bags)
    (h : IsUnderWay v called old (ahead_of old v.p)) where
  -- the participant, its machine and its word before the step
  abbrev seat : WorldSeat
  seat = seat_of old v.p

  abbrev m : Machine Deferral
  m = seat.machine

  abbrev w : Word
  w = seat.word

  -- how many bags there are, and how many are ahead of its collection
  abbrev left : ℕ
  left = length old.queued

  abbrev ahead : ℕ
  ahead = ahead_of new v.p

  -- how often each job was called after the step
  abbrev after : ℕ → ℕ
  after t = called t + calls_of t r

  -- the state after it, but for the places
  abbrev aside : State
  aside = with_places new old.places old.seen old.ahead old.room

  -- the others are still, as before
  others_along : (s : State) (to : WorldSeat)
      → ((q : ℕ) → seat_of s q ≡ seat_of (with_seat old v.p to) q) → (q : ℕ) → q ≢ v.p → IsStill (seat_of s q)
  others_along s to wrote q other = subst IsStill (sym (wrote q ∙ seat_other old v.p q to other)) (h.others q other)

  -- p's seat, the epoch and the bags after a step that goes on
  goes_to : (word : Word) (n : Machine Deferral) (e : ℕ) (q : List Bag) (heap : Heap)
      → word ≢ Free → ends_call r ≡ false
      → Known v after e q ahead word n n.stage
      → aside ≡ record (with_seat old v.p (with_word seat word n)) { epoch = e; queued = q; heap = heap }
      → Comes v after r new ahead
  goes_to word n e q heap free on known did = inl (
    on,
    record {
      there = subst (λ (k : ℕ). v.p < k) (sym as_many) h.there;
      positions = h.positions ∙ sym as_many;
      others = others_along new to wrote;
      taken = λ f. free (ap (λ (st : WorldSeat). st.word) (sym here) ∙ f);
      progress = ap (λ (st : WorldSeat). st.progress) here ∙ h.progress;
      guards = ap (λ (st : WorldSeat). st.guards) here ∙ h.guards;
      known = subst (λ (epoch : ℕ). Known v after epoch new.queued ahead (position_word new v.p)
          (seat_of new v.p).machine (seat_of new v.p).machine.stage) (sym (ap (λ (s : State). s.epoch) did))
          (subst (λ (bags : List Bag). Known v after e bags ahead (position_word new v.p) (seat_of new v.p).machine
          (seat_of new v.p).machine.stage) (sym (ap (λ (s : State). s.queued) did))
          (subst (λ (st : WorldSeat). Known v after e q ahead st.word st.machine st.machine.stage) (sym here) known));
    },
  )
    where
      to : WorldSeat
      to = with_word seat word n

      as_many : length new.seats ≡ length old.seats
      as_many = ap (λ (s : State). length s.seats) did ∙ length-set old.seats v.p to

      wrote : (q : ℕ) → seat_of new q ≡ seat_of (with_seat old v.p to) q
      wrote q = ap (λ (s : State). seat_of s q) did

      here : seat_of new v.p ≡ to
      here = wrote v.p ∙ seat_written old v.p to h.there

  -- what has to be known where the machine goes on to this stage
  abbrev Fine : Stage → Type 0
  Fine t = HandAt m.hand t × KnowsAt v old.epoch left ahead w t

  -- so much is known of the machine there
  known_at : (t : Stage) → ((u : ℕ) → calls_of u r ≡ 0) → Fine t
      → Known v after old.epoch old.queued ahead w (with_stage m t) t
  known_at t quiet fine = record {
    held = h.known.held;
    full = h.known.full;
    action = h.known.action;
    sizes = h.known.sizes;
    counted = h.known.counted;
    hand = fine.0;
    seals = h.known.seals;
    placed = λ u. omega (arith, h.known.placed u, quiet u);
    at = fine.1;
  }

  -- only the stage changes
  staged : (t : Stage) → Fine t → (r ≡ Stepped) × (aside ≡ with_seat old v.p (with_machine seat (with_stage m t)))
      → Comes v after r new ahead
  staged t fine did = goes_to w (with_stage m t) old.epoch old.queued old.heap h.taken (ap ends_call did.0)
      (known_at t (λ u. ap (calls_of u) did.0) fine) did.1

  -- where all bags are ahead of a collection that begins at this stage
  abbrev FineAhead : Stage → Type 0
  FineAhead t = AllAhead (expiry_of t) (outlook_of new v.p) → Fine t

  -- where all bags are ahead of the collection, enough of them are
  enough : (x : ℕ) → x ≡ v.next → new.queued ≡ old.queued → AllAhead x (outlook_of new v.p) → v.bound + 2 ≤ v.next
      → Enough 0 left ahead
  enough x is same all bound =
      enough_at_first left ahead
      (all (subst (AllExpired x) (sym same) (all_expired v.bound x old.queued (omega (arith, bound, is)) h.known.seals))
      ∙ ap (λ (bags : List Bag). min 64 (length bags)) same)

  -- past a word a scan goes on to the next one, or to the advance, or to the collection
  behind : (e k : ℕ) → m.hand ≡ [] → Collects v.call → w ≡ Pinned v.epoch → e ≡ old.epoch
      → (e ≡ v.epoch) ⊎ ((e ≡ v.next) × (v.next ≡ v.epoch + 1) × (k < v.p)) → left ≤ v.bags
      → new.queued ≡ old.queued
      → FineAhead (if (k + 1 == m.sizes.positions) then scanned e else Scan e (k + 1))
  behind e k hand coll word epoch (inl side) less same_bags =
      by_test FineAhead (k + 1 == m.sizes.positions) (scanned e) (Scan e (k + 1))
      (λ t. by_test FineAhead (e == 2 ^ 63 - 1) (Take e 0) (Advance e)
      (λ top. let same : v.next ≡ v.epoch = at_top v.epoch v.next next (sym side ∙ eq_true e (2 ^ 63 - 1) top) in
      λ all. (hand, (coll, word, omega arith, omega arith, omega arith, some, enough e (omega arith) same_bags all)))
      (λ low.
      let more : v.next ≡ v.epoch + 1 = below_top v.epoch v.next next (λ x. eq_false e (2 ^ 63 - 1) low (side ∙ x)) in
      λ all. (hand, (coll, word, omega arith, less))))
      (λ f all. (hand, (coll, word, epoch, inl side, less)))
  behind e k hand coll word epoch (inr side) less same_bags =
      by_test FineAhead (k + 1 == m.sizes.positions) (scanned e) (Scan e (k + 1))
      (λ t. let last : k + 1 ≡ m.sizes.positions = eq_true (k + 1) m.sizes.positions t in
      absurd (omega (arith, h.there, side.2, h.positions, ap (λ (z : Sizes). z.positions) h.known.sizes)))
      (λ f all. (hand, (coll, word, epoch, inr (side.0, side.1, omega (arith, side.2)), less)))

  -- a word of somebody else that is not behind that of p is before it
  side_at : (e k : ℕ) → k ≢ v.p → (e ≡ v.epoch) ⊎ ((e ≡ v.next) × (v.next ≡ v.epoch + 1) × (k ≤ v.p))
      → (e ≡ v.epoch) ⊎ ((e ≡ v.next) × (v.next ≡ v.epoch + 1) × (k < v.p))
  side_at e k ne (inl s) = inl s
  side_at e k ne (inr s) = inr (s.0, s.1, omega (arith, s.2))

  -- a word that doesn't hold the scan up
  passes : (e k x : ℕ)
      → holds_up e x ≡ false → FineAhead (if (k + 1 == m.sizes.positions) then scanned e else Scan e (k + 1))
      → FineAhead (past_word m.sizes.positions e k x)
  passes e k x free fine = subst (λ (b : Bool). FineAhead (if b then Take e 0
      else (if (k + 1 == m.sizes.positions) then scanned e else Scan e (k + 1)))) (sym free) fine

  -- a word that a scan looks at: its own, or that of a participant that is not pinned
  looked : (e k : ℕ) (x : Word) → position_word old k ≡ x → m.hand ≡ [] → Collects v.call → w ≡ Pinned v.epoch
      → e ≡ old.epoch → (e ≡ v.epoch) ⊎ ((e ≡ v.next) × (v.next ≡ v.epoch + 1) × (k ≤ v.p)) → left ≤ v.bags
      → new.queued ≡ old.queued
      → FineAhead (past_word m.sizes.positions e k (word_number x))
  looked e k (Pinned i) eq hand coll word epoch side less same_bags = elim (same_or_other k v.p) [
    | inl same ↦ let here : position_word old k ≡ position_word old v.p = ap (λ q. position_word old q) same in
        let number : i ≡ v.epoch = cc (eq, here, word) in
        own e i k hand number coll word epoch side less same_bags
    | inr ne ↦ absurd (cc ((h.others k ne).0))
  ]
    where
      own : (e i k : ℕ) → m.hand ≡ [] → i ≡ v.epoch → Collects v.call → w ≡ Pinned v.epoch → e ≡ old.epoch
          → (e ≡ v.epoch) ⊎ ((e ≡ v.next) × (v.next ≡ v.epoch + 1) × (k ≤ v.p)) → left ≤ v.bags
          → new.queued ≡ old.queued
          → FineAhead (past_word m.sizes.positions e k (2 * i + 1))
      own e i k hand same coll word epoch (inl side) less same_bags =
          passes e k (2 * i + 1) (holds_pinned e i (same ∙ sym side))
          (behind e k hand coll word epoch (inl side) less same_bags)
      own e i k hand same coll word epoch (inr side) less same_bags =
          by_test FineAhead (holds_up e (2 * i + 1)) (Take e 0) _
          (λ up all. (hand, (coll, word, side.0, sym epoch ∙ side.0, omega arith, some, enough e side.0 same_bags all)))
          (λ free. absurd (not_same (unless free)))
        where
          unless : holds_up e (2 * i + 1) ≡ false → i ≡ e
          unless free = same_epoch e i free

          not_same : i ≡ e → ⊥
          not_same equal = omega (arith, side.0, side.1)
  looked e k Free eq hand coll word epoch side less same_bags = elim (same_or_other k v.p) [
    | inl same ↦ let here : position_word old k ≡ position_word old v.p = ap (λ q. position_word old q) same in
        absurd (cc (eq, here, word))
    | inr ne ↦ passes e k 0 refl (behind e k hand coll word epoch (side_at e k ne side) less same_bags)
  ]
  looked e k Unpinned eq hand coll word epoch side less same_bags = elim (same_or_other k v.p) [
    | inl same ↦ let here : position_word old k ≡ position_word old v.p = ap (λ q. position_word old q) same in
        absurd (cc (eq, here, word))
    | inr ne ↦ passes e k 2 refl (behind e k hand coll word epoch (side_at e k ne side) less same_bags)
  ]

  -- the stage after the collection
  ended_stage : Collects v.call → after_collect m.action m.held ≡ End
  ended_stage coll = ap (λ (a : Action). after_collect a m.held) h.known.action ∙ to_end v.call m.held coll

  -- after the last job of a bag, or at its first
  after_jobs : (x k e len : ℕ) (jobs : List Deferral) → Collects v.call → w ≡ Pinned v.epoch → x ≡ v.next → e ≡ v.next
      → len + (k + 1) ≤ v.bags → k < v.sizes.collect_bags
      → (is_collecting (after_job m x k jobs) ≡ true → v.bound + 2 ≤ v.next → Enough (k + 1) len ahead)
      → HandAt jobs (after_job m x k jobs) × KnowsAt v e len ahead w (after_job m x k jobs)
  after_jobs x k e len (job ∷ jobs) coll word expiry epoch less below enough =
      (tt, (coll, word, expiry, epoch, less, below, enough refl))
  after_jobs x k e len [] coll word expiry epoch less below enough =
      let same : m.sizes.collect_bags ≡ v.sizes.collect_bags = ap (λ (z : Sizes). z.collect_bags) h.known.sizes in
      by_test (λ s. (is_collecting s ≡ true → v.bound + 2 ≤ v.next → Enough (k + 1) len ahead) → HandAt [] s
      × KnowsAt v e len ahead w s) (k + 1 == m.sizes.collect_bags) (after_collect m.action m.held) (Take x (k + 1))
      (λ t on. let all : k + 1 ≡ m.sizes.collect_bags = eq_true (k + 1) m.sizes.collect_bags t in
      subst (λ s. HandAt [] s × KnowsAt v e len ahead w s) (sym (ended_stage coll))
      (refl, collected v e len w v.call next coll word epoch (omega arith) (λ bound. omega arith)))
      (λ f on. let more : k + 1 ≢ m.sizes.collect_bags = eq_false (k + 1) m.sizes.collect_bags f in
      (refl, (coll, word, expiry, epoch, less, omega arith, on refl))) enough

  -- what the step finds of the collection
  abbrev FindsFor : Option Ask → Type 0
  FindsFor o = FindsAhead (NoneTakes old) o (seat_of new v.p).machine (outlook_of old v.p) (outlook_of new v.p)

  -- at a stage that isn't a collection's, nobody is taking bags
  none_takes : is_taking m.stage ≡ false → NoneTakes old
  none_takes own q = elim (same_or_other q v.p) [
    | inl same ↦ ap (λ (k : ℕ). is_taking (seat_of old k).machine.stage) same ∙ own
    | inr other ↦ (h.others q other).1
  ]

  -- the stage that p's machine is at after the step
  stage_now : (n : Machine Deferral) (word : Word)
      → ((q : ℕ) → seat_of new q ≡ seat_of (with_seat old v.p (with_word seat word n)) q)
      → (seat_of new v.p).machine.stage ≡ n.stage
  stage_now n word wrote =
      ap (λ (st : WorldSeat). st.machine.stage) (wrote v.p ∙ seat_written old v.p (with_word seat word n) h.there)

  -- what is ahead, as the machine counts it
  counts : (n : Machine Deferral) → (seat_of new v.p).machine.stage ≡ n.stage → is_collecting n.stage ≡ true
      → (x : ℕ) (queued : List Bag) → new.queued ≡ queued
      → FindsFor (Some (TakeBag x)) → ahead_of old v.p + length queued ≡ ahead + left
  counts n at on x queued now finds =
      subst (λ (bags : List Bag). ahead_of old v.p + length bags ≡ ahead + left) now
      (finds.counted (ap is_collecting at ∙ on))

  -- a step of a collection
  takes : (x k : ℕ) → m.stage ≡ Take x k → KnowsAt v old.epoch left (ahead_of old v.p) w (Take x k) → m.hand ≡ []
      → (step : TakeStep) (jobs : List Deferral) (queued : List Bag) → r ≡ Stepped
      → TakesHand x old.queued step queued jobs
      → FindsFor (Some (TakeBag x))
      → aside ≡ record (with_seat old v.p (with_machine seat (took_heard m (Take x k) step jobs))) { queued = queued }
      → Comes v after r new ahead
  takes x k stage at hand TakeAgain jobs queued told same finds did =
      goes_to w m old.epoch queued old.heap h.taken (ap ends_call told) (record {
        held = h.known.held;
        full = h.known.full;
        action = h.known.action;
        sizes = h.known.sizes;
        counted = h.known.counted;
        hand = h.known.hand;
        seals = subst (SealedBy v.bound) (sym same) h.known.seals;
        placed = λ u. omega (arith, h.known.placed u, ap (times_queued u) same, ap (calls_of u) told);
        at = subst (λ s. KnowsAt v old.epoch (length queued) ahead w s) (sym stage) (
          at.0,
          at.1,
          at.2,
          at.3,
          omega (arith, at.4, ap length same),
          at.5,
          λ bound. enough_same k left (length queued) _ _ (at.6 bound)
              (counts m (stage_now m w (λ q. ap (λ (s : State). seat_of s q) did)) (ap is_collecting stage) x queued
              (ap (λ (s : State). s.queued) did) finds) (ap length same),
        );
      }) did
  takes x k stage at hand Empty jobs queued told same finds did =
      let now : new.queued ≡ queued = ap (λ (s : State). s.queued) did in
      goes_to w (with_stage m (after_collect m.action m.held)) old.epoch queued old.heap h.taken
      (ap ends_call told) (record {
        held = h.known.held;
        full = h.known.full;
        action = h.known.action;
        sizes = h.known.sizes;
        counted = h.known.counted;
        hand = subst (HandAt m.hand) (sym (ended_stage at.0)) hand;
        seals = subst (SealedBy v.bound) (sym same) h.known.seals;
        placed = λ u. omega (arith, h.known.placed u, ap (times_queued u) same, ap (calls_of u) told);
        at = subst (λ s. KnowsAt v old.epoch (length queued) ahead w s) (sym (ended_stage at.0))
            (collected v old.epoch (length queued) w v.call next at.0 at.1 at.3 (omega (arith, at.4, ap length same))
            (λ bound. let none : left ≡ 0 = enough_none k left (ahead_of old v.p) (at.6 bound) (finds.none is_over
            (ap length (now ∙ same))) (omega (arith, at.5)) in
            omega (arith, ap length same)));
      }) did
    where
      is_over : is_taking (seat_of new v.p).machine.stage ≡ false
      is_over = ap (λ (s : State). is_taking (seat_of s v.p).machine.stage) did
          ∙ ap (λ (st : WorldSeat). is_taking st.machine.stage) (seat_written old v.p _ h.there)
          ∙ ap is_taking (ended_stage at.0)
  takes x k stage at hand Got jobs queued told (bag, its, expired, inserted) finds did =
      let fewer = one_less old.queued queued bag inserted in
      let fine = after_jobs x k old.epoch (length queued) jobs at.0 at.1 at.2 at.3 (omega (arith, fewer, at.4)) at.5
      (λ on bound. enough_less k left (length queued) _ _ (at.6 bound)
      (counts (took_heard m (Take x k) Got jobs) (stage_now (took_heard m (Take x k) Got jobs) w
      (λ q. ap (λ (s : State). seat_of s q) did)) on x queued (ap (λ (s : State). s.queued) did) finds) fewer) in
      goes_to w (took_heard m (Take x k) Got jobs) old.epoch queued old.heap h.taken (ap ends_call told) (record {
        held = h.known.held;
        full = h.known.full;
        action = h.known.action;
        sizes = h.known.sizes;
        counted = h.known.counted;
        hand = fine.0;
        seals = sealed_less v.bound old.queued queued bag inserted h.known.seals;
        placed = λ u. omega (
          arith,
          h.known.placed u,
          queued_put u queued old.queued bag inserted,
          ap (times u) its,
          ap (times u) hand,
          ap (calls_of u) told,
        );
        at = fine.1;
      }) did

  -- a step that calls a job of the bag in hand
  calls : (x k : ℕ) → KnowsAt v old.epoch left (ahead_of old v.p) w (Calling x k)
      → (job : Deferral) (jobs : List Deferral) → m.hand ≡ job ∷ jobs
      → r ≡ CalledReply job.ticket (outcome_of old.heap job.removes)
      → FindsFor (Some CallJob)
      → aside ≡ record (with_seat old v.p
      (with_machine seat (gives m (Calling x k) jobs))) { heap = heap_after old.heap job.removes }
      → Comes v after r new ahead
  calls x k at job jobs hand told finds did =
      let fine = after_jobs x k old.epoch left jobs at.0 at.1 at.2 at.3 at.4 at.5
      (λ on bound. subst (Enough (k + 1) left) (sym (finds (ap is_collecting
      (stage_now (gives m (Calling x k) jobs) w (λ q. ap (λ (s : State). seat_of s q) did)) ∙ on))) (at.6 bound)) in
      goes_to w (gives m (Calling x k) jobs) old.epoch old.queued (heap_after old.heap job.removes) h.taken
      (ap ends_call told) (record {
        held = h.known.held;
        full = h.known.full;
        action = h.known.action;
        sizes = h.known.sizes;
        counted = h.known.counted;
        hand = fine.0;
        seals = h.known.seals;
        placed = λ u. omega (arith, h.known.placed u, ap (times u) hand, times_cons u job jobs, ap (calls_of u) told);
        at = fine.1;
      }) did

  -- the end of the call
  rests_at : (guards : List ℕ) (paused : Option ℕ)
      → guards ≡ guards_out v.call → guards_after m.action m.guards ≡ length (guards_out v.call)
      → ((u : ℕ) → calls_of u r ≡ 0) → m.hand ≡ [] → aside ≡ with_seat old v.p (with_guards seat guards paused)
      → Rests v.p v.sizes v.held (guards_out v.call) v.bound v.total after new × (position_word new v.p ≡ w)
  rests_at guards paused out counted quiet hand did = (
    record {
      there = subst (λ (k : ℕ). v.p < k) (sym as_many) h.there;
      positions = h.positions ∙ sym as_many;
      others = others_along new to wrote;
      taken = λ f. h.taken (ap (λ (st : WorldSeat). st.word) (sym here) ∙ f);
      guards = ap (λ (st : WorldSeat). st.guards) here ∙ out;
      counted = ap (λ (st : WorldSeat). st.machine.guards) here ∙ counted;
      held = ap (λ (st : WorldSeat). st.machine.held) here ∙ h.known.held;
      hand = ap (λ (st : WorldSeat). st.machine.hand) here ∙ hand;
      sized = ap (λ (st : WorldSeat). st.machine.sizes) here ∙ h.known.sizes;
      seals = subst (SealedBy v.bound) (sym bags) h.known.seals;
      placed = λ u. omega (arith, h.known.placed u, ap (times_queued u) bags, ap (times u) hand, quiet u);
    },
    ap (λ (st : WorldSeat). st.word) here,
  )
    where
      to : WorldSeat
      to = with_guards seat guards paused

      as_many : length new.seats ≡ length old.seats
      as_many = ap (λ (s : State). length s.seats) did ∙ length-set old.seats v.p to

      wrote : (q : ℕ) → seat_of new q ≡ seat_of (with_seat old v.p to) q
      wrote q = ap (λ (s : State). seat_of s q) did

      here : seat_of new v.p ≡ to
      here = wrote v.p ∙ seat_written old v.p to h.there

      bags : new.queued ≡ old.queued
      bags = ap (λ (s : State). s.queued) did

  -- the call ends with these guards
  ends_with : (guards : List ℕ) (paused : Option ℕ)
      → guards ≡ guards_out v.call → guards_after m.action m.guards ≡ length (guards_out v.call)
      → After v old.epoch left w v.call → m.hand ≡ [] → r ≡ told_of v.call v.full
      → aside ≡ with_seat old v.p (with_guards seat guards paused) → Comes v after r new ahead
  ends_with guards paused out counted at hand told did =
      let rested = rests_at guards paused out counted
      (λ u. ap (calls_of u) told ∙ told_calls u v.call v.full) hand did in
      inr (
        ap ends_call told ∙ told_ends v.call v.full,
        record {
          rests = rested.0;
          after = subst (λ (e : ℕ). After v e (length new.queued) (position_word new v.p) v.call)
              (sym (ap (λ (s : State). s.epoch) did))
              (subst (λ (bags : List Bag). After v old.epoch (length bags) (position_word new v.p) v.call)
              (sym (ap (λ (s : State). s.queued) did))
              (subst (λ (word : Word). After v old.epoch left word v.call) (sym rested.1) at));
          told = told;
        },
      )

  -- its last step
  ends : After v old.epoch left w v.call → m.hand ≡ [] → r ≡ end_reply v.call seat
      → aside ≡ with_seat old v.p (ended_seat v.call seat) → Comes v after r new ahead
  ends at hand told did = by_call v.call refl told did
    where
      counted_by : (a : Action)
          → m.action ≡ a → (n : ℕ) → m.guards ≡ n → guards_after m.action m.guards ≡ guards_after a n
      counted_by a at n is = ap₂ guards_after at is

      by_call : (c : Call) → v.call ≡ c → r ≡ end_reply c seat → aside ≡ with_seat old v.p (ended_seat c seat)
          → Comes v after r new ahead
      by_call Pin is told did = ends_with _ _
          (ap (λ (gs : List ℕ). gs ++ lowest gs ∷ []) none ∙ ap guards_out (sym is))
          (counted_by PinAction (h.known.action ∙ ap action_of is) 0 (h.known.counted
          ∙ ap (λ (c : Call). length (guards_in c)) is) ∙ ap (λ (c : Call). length (guards_out c)) (sym is))
          at hand (told ∙ ap (λ (gs : List ℕ). Done (Guard (lowest gs))) none
          ∙ ap (λ (c : Call). told_of c v.full) (sym is)) did
        where
          none : seat.guards ≡ []
          none = h.guards ∙ ap guards_in is
      by_call (Flush (Some g)) is told did = ends_with _ _
          (h.guards ∙ ap guards_in is ∙ ap guards_out (sym is))
          (counted_by FlushAction (h.known.action ∙ ap action_of is) 1 (h.known.counted
          ∙ ap (λ (c : Call). length (guards_in c)) is) ∙ ap (λ (c : Call). length (guards_out c)) (sym is))
          at hand (told ∙ ap full_or_done h.known.full ∙ ap (λ (c : Call). told_of c v.full) (sym is)) did
      by_call (Flush None) is told did = ends_with _ _
          (h.guards ∙ ap guards_in is ∙ ap guards_out (sym is))
          (counted_by FlushAction (h.known.action ∙ ap action_of is) 0 (h.known.counted
          ∙ ap (λ (c : Call). length (guards_in c)) is) ∙ ap (λ (c : Call). length (guards_out c)) (sym is))
          at hand (told ∙ ap full_or_done h.known.full ∙ ap (λ (c : Call). told_of c v.full) (sym is)) did
      by_call (Unpin (Some g)) is told did = ends_with _ _
          (ap (without g) (h.guards ∙ ap guards_in is) ∙ alone g ∙ ap guards_out (sym is))
          (counted_by UnpinAction (h.known.action ∙ ap action_of is) 1 (h.known.counted
          ∙ ap (λ (c : Call). length (guards_in c)) is) ∙ ap (λ (c : Call). length (guards_out c)) (sym is))
          at hand (told ∙ ap (λ (c : Call). told_of c v.full) (sym is)) did
      by_call (Unpin None) is told did = ends_with _ _
          (h.guards ∙ ap guards_in is ∙ ap guards_out (sym is))
          (counted_by UnpinAction (h.known.action ∙ ap action_of is) 0 (h.known.counted
          ∙ ap (λ (c : Call). length (guards_in c)) is) ∙ ap (λ (c : Call). length (guards_out c)) (sym is))
          at hand (told ∙ ap (λ (c : Call). told_of c v.full) (sym is)) did
      by_call (Repin g) is told did = absurd (subst (After v old.epoch left w) is at)
      by_call (Pause g) is told did = absurd (subst (After v old.epoch left w) is at)
      by_call (Resume g) is told did = absurd (subst (After v old.epoch left w) is at)
      by_call (Defer g) is told did = absurd (subst (After v old.epoch left w) is at)
      by_call Release is told did = absurd (subst (After v old.epoch left w) is at)
      by_call (DeferDestroy g ptr) is told did = absurd (subst (After v old.epoch left w) is at)
      by_call (AccessCall a) is told did = absurd (subst (After v old.epoch left w) is at)

  -- a step at each stage
  go : (s : Stage) → m.stage ≡ s → Known v called old.epoch old.queued (ahead_of old v.p) w m s → FindsFor (ask_at s)
      → DrivesCall old v.p seat v.call s (ask_at s) r aside → Comes v after r new ahead
  go LoadPin stage k finds did = staged (StorePin old.epoch) (k.hand, (k.at.0, k.at.1, k.at.1, k.at.2)) did
  go (StorePin e) stage k finds did =
      goes_to (Pinned e) (hears m (StorePin e) Stored) old.epoch old.queued old.heap (λ x. absurd (cc))
      (ap ends_call did.0) (record {
        held = k.held;
        full = k.full;
        action = k.action;
        sizes = k.sizes;
        counted = k.counted;
        hand = k.hand;
        seals = k.seals;
        placed = λ u. omega (arith, k.placed u, ap (calls_of u) did.0);
        at = (k.at.0, ap Pinned k.at.1, k.at.2, k.at.3);
      }) did.1
  go ReloadPin stage k finds did =
      staged (after_pin m) (by_test Fine (m.pins == 1) LoadScan (after_collect m.action m.held)
      (λ t. (k.hand, (pins, k.at.1, inl k.at.2, k.at.3)))
      (λ f. subst Fine (sym (ended_stage pins))
      (k.hand, subst (After v old.epoch left w) (sym k.at.0) (k.at.1, inl k.at.2, k.at.3)))) did
    where
      pins : Collects v.call
      pins = subst Collects (sym k.at.0) tt
  go LoadScan stage k finds did = staged (Scan old.epoch 0) (k.hand, (k.at.0, k.at.1, refl, near k.at.2, k.at.3)) did
    where
      near : Near v old.epoch → (old.epoch ≡ v.epoch) ⊎ ((old.epoch ≡ v.next) × (v.next ≡ v.epoch + 1) × (0 ≤ v.p))
      near (inl x) = inl x
      near (inr x) = inr (x.0, x.1, omega arith)
  go (Scan e j) stage k finds did = staged (past_word m.sizes.positions e j (word_number (position_word old j)))
      (looked e j (position_word old j) refl k.hand k.at.0 k.at.1 k.at.2 k.at.3 k.at.4
      (ap (λ (s : State). s.queued) did.1)
      (subst (λ (t : Stage). AllAhead (expiry_of t) (outlook_of new v.p))
      (stage_now (with_stage m (past_word m.sizes.positions e j (word_number (position_word old j)))) w
      (λ q. ap (λ (s : State). seat_of s q) did.1))
      (finds (none_takes (ap is_taking stage))))) did
  go (Advance e) stage k finds did =
      goes_to w (hears m (Advance e) Stored) (e + 1) old.queued old.heap h.taken (ap ends_call did.0) (record {
        held = k.held;
        full = k.full;
        action = k.action;
        sizes = k.sizes;
        counted = k.counted;
        hand = k.hand;
        seals = k.seals;
        placed = λ u. omega (arith, k.placed u, ap (calls_of u) did.0);
        at = (
          k.at.0,
          k.at.1,
          sym k.at.2,
          sym k.at.2,
          omega (arith, k.at.3),
          some,
          enough (e + 1) (sym k.at.2) (ap (λ (s : State). s.queued) did.1)
              (subst (λ (t : Stage). AllAhead (expiry_of t) (outlook_of new v.p))
              (stage_now (hears m (Advance e) Stored) w (λ q. ap (λ (s : State). seat_of s q) did.1))
              (finds (none_takes (ap is_taking stage)))),
        );
      }) did.1
  go (Take x j) stage k finds did = takes x j stage k.at k.hand did.0 did.1 did.2 did.3 did.4 finds did.5
  go (Calling x j) stage k finds did = calls x j k.at did.0 did.1 did.2 did.3 finds did.4
  go StoreUnpinned stage k finds did =
      let over : after_unpin m.action m.full ≡ End = ap (λ (a : Action). after_unpin a m.full) k.action
      ∙ unpinned_end v.call m.full k.at.0 in
      goes_to Unpinned (hears m StoreUnpinned Stored) old.epoch old.queued old.heap (λ x. absurd (cc))
      (ap ends_call did.0) (record {
        held = k.held;
        full = k.full;
        action = k.action;
        sizes = k.sizes;
        counted = k.counted;
        hand = subst (HandAt m.hand) (sym over) k.hand;
        seals = k.seals;
        placed = λ u. omega (arith, k.placed u, ap (calls_of u) did.0);
        at = subst (λ s. KnowsAt v old.epoch left ahead Unpinned s) (sym over)
            (unpinned_after v old.epoch left v.call k.at.0 k.at.1 k.at.2);
      }) did.1
  go End stage k finds did = ends k.at k.hand did.0 did.1
  go _ stage k finds did = absurd k.at

  -- a step Go of p, whose call is under way
  pub go_comes : TakesStep old (Go v.p) r new → Comes v after r new ahead
  go_comes (inl did, sees) = absurd (h.taken did.0)
  go_comes (inr did, sees) =
      go m.stage refl h.known (subst FindsFor asked sees.2)
      (subst (λ (now : Progress). DoesGo old v.p seat now r aside) h.progress did.1)
    where
      asked : turn_of seat ≡ ask_at m.stage
      asked = turn_taken seat.word seat.progress m.stage h.taken
          ∙ ap (λ (now : Progress). turn_at Unpinned now m.stage) h.progress
