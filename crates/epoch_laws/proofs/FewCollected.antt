-- One call takes at most as many bags as a collection may, each of at most as many jobs as a bag has room for.
use Rattle.std.proofs.Common.{◌≡◌, ◌≢◌, ℕ, suc, ◌+◌, ◌-◌, ◌*◌, ◌<◌, ◌≤◌, ◌==◌, Bool, true, false, List, [], ◌∷◌, ◌++◌}
use Rattle.std.proofs.Common.{length, Some, refl, ap, sym, subst, subst₂, ◌∙◌, arith, if◌then◌else◌, slice_index_or}
use Rattle.std.proofs.Common.{length-append, add-one}
use Rattle.std.proofs.Math.Nat.{mul-le-mul_right, suc-mul}
use Rattle.std.proofs.lemmas.Bool.Decides.{nat_tests}
use Rattle.std.proofs.lemmas.List.{set-get_or}
use Rattle.epoch_bags.specs.Stores.{IsInserted}
use Rattle.epoch_bags.specs.declared.queue.PutStep.{PutStep}
use Rattle.epoch_bags.specs.declared.queue.PutStep.TheVariants.{Again as PutAgain, Done as PutDone, Full}
use Rattle.epoch_bags.specs.declared.queue.TakeStep.{TakeStep}
use Rattle.epoch_bags.specs.declared.queue.TakeStep.TheVariants.{Again as TakeAgain, Empty, Got}
use Rattle.epoch_machine.specs.declared.machine.Action.{Action}
use Rattle.epoch_machine.specs.declared.machine.Action.TheVariants.{Pin, Unpin, Repin, Defer, Flush, Release}
use Rattle.epoch_machine.specs.declared.machine.Sizes.{Sizes}
use Rattle.epoch_machine.specs.declared.machine.Stage.{Stage}
use Rattle.epoch_machine.specs.declared.machine.Stage.TheVariants.{Idle as Resting, LoadPin, StorePin, ReloadPin}
use Rattle.epoch_machine.specs.declared.machine.Stage.TheVariants.{LoadScan, Scan, Advance, Take, Calling, LoadSeal}
use Rattle.epoch_machine.specs.declared.machine.Stage.TheVariants.{Put, Keep, LoadRepin, StoreRepin, ReloadRepin}
use Rattle.epoch_machine.specs.declared.machine.Stage.TheVariants.{StoreUnpinned, StoreFree, End}
use Rattle.epoch_machine.specs.Machine.{Machine, IsSized, ask_at, hears, ended, PutsHeld, TakesHand, with_stage}
use Rattle.epoch_machine.specs.Machine.{is_empty, put_heard, took_heard, gives, after_collect, after_pin, after_put}
use Rattle.epoch_machine.specs.Machine.{after_unpin, after_job, past_word, first_stage, begun}
use Rattle.epoch_machine.proofs.StagesAfter.{by_test, after_pin_at, past_word_at}
use Rattle.epoch_laws.specs.Heap.{outcome_of, heap_after_job as heap_after}
use Rattle.epoch_laws.specs.declared.heap.access.Accessed.{Accessed}
use Rattle.epoch_laws.specs.declared.heap.access.Accessed.TheVariants.{Again, Answers, NoSlot}
use Rattle.epoch_laws.specs.declared.heap.access.AccessAnswer.{AccessAnswer}
use Rattle.epoch_laws.specs.declared.step.Deferral.{Deferral}
use Rattle.epoch_laws.specs.declared.step.Reply.{Reply}
use Rattle.epoch_laws.specs.declared.step.Reply.TheVariants.{Stepped, Called, Pinned as PinnedReply}
use Rattle.epoch_laws.specs.declared.step.Reply.TheVariants.{Unpinned as UnpinnedReply, Repinned, Deferred, Done}
use Rattle.epoch_machine.specs.declared.machine.Answer.TheVariants.{Stored, Job}
use Rattle.epoch_laws.specs.declared.heap.access.AccessAnswer.TheVariants.{Released}
use Rattle.epoch_laws.specs.declared.step.Call.{Call}
use Rattle.epoch_laws.specs.declared.step.Call.TheVariants.{Pin as PinCall, Unpin as UnpinCall, Pause, Resume}
use Rattle.epoch_laws.specs.declared.step.Call.TheVariants.{Defer as DeferCall, Flush as FlushCall}
use Rattle.epoch_laws.specs.declared.step.Call.TheVariants.{Release as ReleaseCall, DeferDestroy}
use Rattle.epoch_laws.specs.declared.step.Progress.{Progress}
use Rattle.epoch_laws.specs.declared.step.Progress.TheVariants.{Idle, Driven, CallsNow, Accesses, Ends}
use Rattle.epoch_laws.specs.declared.step.Word.{Word}
use Rattle.epoch_laws.specs.declared.step.Word.TheVariants.{Free, Unpinned, Pinned}
use Rattle.epoch_laws.specs.Run.{Bag, WorldSeat, State, seat_of, position_word, word_number, with_seat, with_machine}
use Rattle.epoch_laws.specs.Run.{with_word, free_seat, ended_seat, end_reply, full_or_done, removed_by, access_reply}
use Rattle.epoch_laws.specs.Run.{DrivesCall, DoesGo}
use Rattle.epoch_laws.proofs.SeatLinks.{rests, AllLinked, follows_at}
use Rattle.epoch_laws.proofs.StoredBags.{one_less}

-- SIZES OF BAGS

abbrev pub AllSmall : ℕ → List Bag → Type 0
AllSmall most [] = Unit {0}
AllSmall most (bag ∷ bags) = (length bag.jobs ≤ most) × AllSmall most bags

small_between : (most : ℕ) (front back : List Bag) (bag : Bag)
    → AllSmall most (front ++ back) → length bag.jobs ≤ most → AllSmall most (front ++ bag ∷ back)
small_between most [] back bag h le = (le, h)
small_between most (x ∷ front) back bag h le = (h.0, small_between most front back bag h.1 le)

small_without : (most : ℕ) (front back : List Bag) (bag : Bag)
    → AllSmall most (front ++ bag ∷ back) → AllSmall most (front ++ back) × (length bag.jobs ≤ most)
small_without most [] back bag h = (h.1, h.0)
small_without most (x ∷ front) back bag h = let rest = small_without most front back bag h.1 in ((h.0, rest.0), rest.1)

-- where each bag has at most so many jobs, each still has when another such bag is put in
pub small_put : (most : ℕ) (old new : List Bag) (bag : Bag)
    → IsInserted bag old new → AllSmall most old → length bag.jobs ≤ most → AllSmall most new
small_put most old new bag at h le = subst (AllSmall most) (sym at.with)
    (small_between most at.front at.back bag (subst (AllSmall most) at.without h) le)

-- where each bag has at most so many jobs, so has one that is taken out, and each one left
pub small_got : (most : ℕ) (old new : List Bag) (bag : Bag)
    → IsInserted bag new old → AllSmall most old → AllSmall most new × (length bag.jobs ≤ most)
small_got most old new bag at h =
    let parts = small_without most at.front at.back bag (subst (AllSmall most) at.with h) in
    (subst (AllSmall most) (sym at.without) parts.0, parts.1)

-- ONE PARTICIPANT

-- how many jobs are held
abbrev pub HeldFits : ℕ → ℕ → Stage → Type 0
HeldFits most held Keep = held < most
HeldFits most held _ = held ≤ most

-- so many bags were taken by the call under way, and so many of their jobs called; each bag has at most so many jobs
abbrev pub CountAt : Sizes → ℕ → ℕ → ℕ → Action → Stage → Type 0
CountAt z taken called hand a LoadPin = (taken ≡ 0) × (called ≡ 0)
CountAt z taken called hand a (StorePin e) = (taken ≡ 0) × (called ≡ 0)
CountAt z taken called hand a ReloadPin = (taken ≡ 0) × (called ≡ 0)
CountAt z taken called hand a LoadScan = (taken ≡ 0) × (called ≡ 0)
CountAt z taken called hand a (Scan e k) = (taken ≡ 0) × (called ≡ 0)
CountAt z taken called hand a (Advance e) = (taken ≡ 0) × (called ≡ 0)
CountAt z taken called hand a (Take x k) = (taken ≤ k) × (called ≤ k * z.bag_jobs) × (k < z.collect_bags)
CountAt z taken called hand a (Calling x k) =
    (taken ≤ k + 1) × (called + hand ≤ suc k * z.bag_jobs) × (k < z.collect_bags)
CountAt z taken called hand a LoadSeal =
    (taken ≤ z.collect_bags) × (called ≤ z.collect_bags * z.bag_jobs) × (a ≡ Flush → (taken ≡ 0) × (called ≡ 0))
CountAt z taken called hand a (Put seal) =
    (taken ≤ z.collect_bags) × (called ≤ z.collect_bags * z.bag_jobs) × (a ≡ Flush → (taken ≡ 0) × (called ≡ 0))
CountAt z taken called hand a _ = (taken ≤ z.collect_bags) × (called ≤ z.collect_bags * z.bag_jobs)

-- both, for a machine
pub record Counts (z : Sizes) (taken called : ℕ) (m : Machine Deferral) (s : Stage) : Type 0 where
  pub held : HeldFits z.bag_jobs (length m.held) s
  pub at : CountAt z taken called (length m.hand) m.action s

eq_true : (x y : ℕ) → (x == y) ≡ true → x ≡ y
eq_true x y e = grind (arith, nat_tests)

eq_false : (x y : ℕ) → (x == y) ≡ false → x ≢ y
eq_false x y e = grind (arith, nat_tests)

-- at each stage no more jobs are held than a bag has room for
pub weak : (most held : ℕ) (s : Stage) → HeldFits most held s → held ≤ most
weak most held Keep h = omega arith
weak most held _ h = h

times_le : (k c j : ℕ) → k ≤ c → k * j ≤ c * j
times_le k c j le = mul-le-mul_right j le

-- how many jobs a reply says were called
abbrev pub told : Reply → ℕ
told (Called t how) = 1
told _ = 0

module _ (z : Sizes) (sized : IsSized z) where
  -- the stages after each part, where the machine has so many jobs held and in hand
  module _ (taken called : ℕ) (m : Machine Deferral) (held : length m.held ≤ z.bag_jobs) where
    abbrev Fine : Stage → Type 0
    Fine s = HeldFits z.bag_jobs (length m.held) s × CountAt z taken called (length m.hand) m.action s

    collected : taken ≤ z.collect_bags → called ≤ z.collect_bags * z.bag_jobs → Fine (after_collect m.action m.held)
    collected few calls = by_action m.action m.held refl
      where
        by_action : (a : Action) (jobs : List Deferral) → m.action ≡ a → Fine (after_collect a jobs)
        by_action Release [] e = (held, (few, calls))
        by_action Release (job ∷ jobs) e = (held, (few, calls, λ flush. absurd (cc (e, flush))))
        by_action Pin jobs e = (held, (few, calls))
        by_action Unpin jobs e = (held, (few, calls))
        by_action Repin jobs e = (held, (few, calls))
        by_action Defer jobs e = (held, (few, calls))
        by_action Flush jobs e = (held, (few, calls))

    pinned : taken ≡ 0 → called ≡ 0 → Fine (after_pin m)
    pinned none silent = after_pin_at Fine m (held, (none, silent)) (collected (omega arith) (omega arith))

    looked : (e k w : ℕ) → taken ≡ 0 → called ≡ 0 → Fine (past_word z.positions e k w)
    looked e k w none silent = past_word_at Fine z.positions e k w
        (held, (omega arith, omega arith, sized.collect_bags.0)) (held, (none, silent)) (held, (none, silent))

    -- after a bag's last job, or at its first
    after_jobs : (x k : ℕ) (jobs : List Deferral) → m.hand ≡ jobs → m.sizes ≡ z → taken ≤ k + 1
        → called + length m.hand ≤ suc k * z.bag_jobs → k < z.collect_bags → Fine (after_job m x k jobs)
    after_jobs x k (job ∷ jobs) hand same few calls below = (held, (few, calls, below))
    after_jobs x k [] hand same few calls below =
        let c : m.sizes.collect_bags ≡ z.collect_bags = ap (λ (s : Sizes). s.collect_bags) same in
        let upto : suc k * z.bag_jobs ≤ z.collect_bags * z.bag_jobs = times_le (suc k) z.collect_bags z.bag_jobs
        (omega arith) in
        by_test Fine (k + 1 == m.sizes.collect_bags) (after_collect m.action m.held) (Take x (k + 1))
        (λ t. collected (omega arith) (omega arith))
        (λ f. let other : k + 1 ≢ m.sizes.collect_bags = eq_false (k + 1) m.sizes.collect_bags f in
        let calls_so : called ≤ (k + 1) * z.bag_jobs = rw add-one (omega arith) in
        (held, (few, calls_so, omega arith)))

  -- at each stage the call under way has taken no more bags and called no more jobs than it may
  pub bound : (taken called hand : ℕ) (a : Action) (s : Stage)
      → CountAt z taken called hand a s → (taken ≤ z.collect_bags) × (called ≤ z.collect_bags * z.bag_jobs)
  bound taken called hand a LoadPin h = (omega arith, omega arith)
  bound taken called hand a (StorePin e) h = (omega arith, omega arith)
  bound taken called hand a ReloadPin h = (omega arith, omega arith)
  bound taken called hand a LoadScan h = (omega arith, omega arith)
  bound taken called hand a (Scan e k) h = (omega arith, omega arith)
  bound taken called hand a (Advance e) h = (omega arith, omega arith)
  bound taken called hand a (Take x k) h =
      (omega arith, omega (arith, h.1, times_le k z.collect_bags z.bag_jobs (omega (arith, h.2))))
  bound taken called hand a (Calling x k) h =
      (omega (arith, h.0, h.2), omega (arith, h.1, times_le (suc k) z.collect_bags z.bag_jobs (omega (arith, h.2))))
  bound taken called hand a LoadSeal h = (h.0, h.1)
  bound taken called hand a (Put seal) h = (h.0, h.1)
  bound taken called hand a _ h = (h.0, h.1)

  -- a call begins: nothing is taken yet
  pub begun_counts : (a : Action) (m : Machine Deferral)
      → length m.held ≤ z.bag_jobs → m.sizes ≡ z → Counts z 0 0 (begun a m) (begun a m).stage
  begun_counts a m held same = by_action a
    where
      P : Action → Stage → Type 0
      P a s = HeldFits z.bag_jobs (length m.held) s × CountAt z 0 0 (length m.hand) a s

      counts : (a : Action) → P a (first_stage a m) → Counts z 0 0 (begun a m) (begun a m).stage
      counts a both = record { held = both.0; at = both.1 }

      by_action : (a : Action) → Counts z 0 0 (begun a m) (begun a m).stage
      by_action Pin = counts Pin (by_test (P Pin) (m.guards == 0) LoadPin End (λ t. (held, (refl, refl)))
          (λ f. (held, (omega arith, omega arith))))
      by_action Unpin = counts Unpin (by_test (P Unpin) (m.guards == 1) StoreUnpinned End
          (λ t. (held, (omega arith, omega arith))) (λ f. (held, (omega arith, omega arith))))
      by_action Repin = counts Repin (by_test (P Repin) (m.guards == 1) LoadRepin End
          (λ t. (held, (omega arith, omega arith))) (λ f. (held, (omega arith, omega arith))))
      by_action Defer = counts Defer (by_test (P Defer) (length m.held == m.sizes.bag_jobs) LoadSeal Keep
          (λ t. (held, (omega arith, omega arith, λ flush. (refl, refl))))
          (λ f. let most : m.sizes.bag_jobs ≡ z.bag_jobs = ap (λ (s : Sizes). s.bag_jobs) same in
          let other : length m.held ≢ m.sizes.bag_jobs = eq_false (length m.held) m.sizes.bag_jobs f in
          (omega arith, (omega arith, omega arith))))
      by_action Flush = counts Flush (by_test (P Flush) (is_empty m.held) LoadScan LoadSeal (λ t. (held, (refl, refl)))
          (λ f. (held, (omega arith, omega arith, λ flush. (refl, refl)))))
      by_action Release = counts Release (held, (refl, refl))

  -- A STEP GO OF A CALL THAT IS DRIVEN

  module _ (taken called : ℕ) (old new : State) (q : ℕ) (r : Reply) (small : AllSmall z.bag_jobs old.queued) where
    abbrev seat : WorldSeat
    seat = seat_of old q

    abbrev m : Machine Deferral
    m = seat.machine

    abbrev left : ℕ
    left = length old.queued

    -- what the step does to q's seat, to its counts and to the bags
    pub record GoesTo : Type 0 where
      pub after : WorldSeat
      pub wrote : (k : ℕ) → seat_of new k ≡ seat_of (with_seat old q after) k
      pub counts : Counts z (taken + (left - length new.queued)) (called + told r) after.machine after.machine.stage
      pub bags_small : AllSmall z.bag_jobs new.queued

    goes_to : (after : WorldSeat) (bags : List Bag) (tell : Reply)
        → r ≡ tell → new.queued ≡ bags → ((k : ℕ) → seat_of new k ≡ seat_of (with_seat old q after) k)
        → Counts z (taken + (left - length bags)) (called + told tell) after.machine after.machine.stage
        → AllSmall z.bag_jobs bags → GoesTo
    goes_to after bags tell is now wrote counts its = record {
      after = after;
      wrote = wrote;
      counts = subst₂ (λ (b : List Bag) (t : Reply). Counts z (taken + (left - length b))
          (called + told t) after.machine after.machine.stage) (sym now) (sym is) counts;
      bags_small = subst (AllSmall z.bag_jobs) (sym now) its;
    }

    -- the bags stay, and no job is called
    stays : (n : Machine Deferral)
        → Counts z taken called n n.stage → Counts z (taken + (left - left)) (called + 0) n n.stage
    stays n counts = subst₂ (λ (t k : ℕ). Counts z t k n n.stage) (omega arith) (omega arith) counts

    moves : (w : Word) (n : Machine Deferral) (tell : Reply) → told tell ≡ 0 → r ≡ tell
        → Counts z taken called n n.stage → (last : State) → new ≡ last → last.queued ≡ old.queued
        → ((k : ℕ) → seat_of last k ≡ seat_of (with_seat old q (with_word seat w n)) k) → GoesTo
    moves w n tell quiet is counts last did bags wrote =
        goes_to (with_word seat w n) old.queued tell is (ap (λ (s : State). s.queued) did ∙ bags)
        (λ k. ap (λ (s : State). seat_of s k) did ∙ wrote k)
        (subst (λ (x : ℕ). Counts z (taken + (left - left)) (called + x) n n.stage) (sym quiet) (stays n counts)) small

    staged : (s : Stage) → HeldFits z.bag_jobs (length m.held) s × CountAt z taken called (length m.hand) m.action s
        → (r ≡ Stepped) × (new ≡ with_seat old q (with_machine seat (with_stage m s))) → GoesTo
    staged s fine did = moves seat.word (with_stage m s) Stepped refl did.0
        (record { held = fine.0; at = fine.1 }) _ did.1 refl (λ k. refl)

    abbrev Here : Stage → Type 0
    Here s = Counts z taken called m s

    puts : (seal : ℕ) → m.stage ≡ Put seal → Here (Put seal) → (step : PutStep) (bags : List Bag) → r ≡ Stepped
        → PutsHeld seal m old.queued step bags
        → new ≡ record (with_seat old q (with_machine seat (put_heard m step))) { queued = bags } → GoesTo
    puts seal at h PutAgain bags is same did = moves seat.word m Stepped refl is (record {
      held = subst (HeldFits z.bag_jobs (length m.held)) (sym at) h.held;
      at = subst (CountAt z taken called (length m.hand) m.action) (sym at) h.at;
    }) _ did same (λ k. refl)
    puts seal at h PutDone bags is put did =
        goes_to _ bags Stepped is (ap (λ (s : State). s.queued) did) (λ k. ap (λ (s : State). seat_of s k) did) counts
        (small_put z.bag_jobs old.queued bags _ put small (weak z.bag_jobs (length m.held) (Put seal) h.held))
      where
        more : length bags ≡ left + 1
        more = one_less bags old.queued _ put

        counts : Counts z (taken + (left - length bags)) (called + 0) (put_heard m PutDone) (put_heard m PutDone).stage
        counts = subst₂ (λ (t k : ℕ). Counts z t k (put_heard m PutDone) (put_heard m PutDone).stage)
            (omega (arith, more)) (omega arith) (by_action m.action refl)
          where
            to : (a : Action) → m.action ≡ a → HeldFits z.bag_jobs 0 (after_put a false)
                → CountAt z taken called (length m.hand) a (after_put a false)
                → Counts z taken called (put_heard m PutDone) (put_heard m PutDone).stage
            to a is held at = record {
              held = subst (λ (b : Action). HeldFits z.bag_jobs 0 (after_put b false)) (sym is) held;
              at = subst (λ (b : Action). CountAt z taken called (length m.hand) b (after_put b false)) (sym is) at;
            }

            by_action : (a : Action)
                → m.action ≡ a → Counts z taken called (put_heard m PutDone) (put_heard m PutDone).stage
            by_action Flush is = to Flush is (omega arith) (h.at.2 is)
            by_action Defer is = to Defer is sized.bag_jobs.0 (h.at.0, h.at.1)
            by_action Release is = to Release is (omega arith) (h.at.0, h.at.1)
            by_action Pin is = to Pin is (omega arith) (h.at.0, h.at.1)
            by_action Unpin is = to Unpin is (omega arith) (h.at.0, h.at.1)
            by_action Repin is = to Repin is (omega arith) (h.at.0, h.at.1)
    puts seal at h Full bags is same did =
        moves seat.word (put_heard m Full) Stepped refl is (by_action m.action refl) _ did same (λ k. refl)
      where
        to : (a : Action) → m.action ≡ a → HeldFits z.bag_jobs (length m.held) (after_put a true)
            → CountAt z taken called (length m.hand) a (after_put a true)
            → Counts z taken called (put_heard m Full) (put_heard m Full).stage
        to a is held at = record {
          held = subst (λ (b : Action). HeldFits z.bag_jobs (length m.held) (after_put b true)) (sym is) held;
          at = subst (λ (b : Action). CountAt z taken called (length m.hand) b (after_put b true)) (sym is) at;
        }

        by_action : (a : Action) → m.action ≡ a → Counts z taken called (put_heard m Full) (put_heard m Full).stage
        by_action Flush is = to Flush is h.held (h.at.2 is)
        by_action Defer is = to Defer is h.held (h.at.0, h.at.1)
        by_action Release is = to Release is h.held (h.at.0, h.at.1)
        by_action Pin is = to Pin is h.held (h.at.0, h.at.1)
        by_action Unpin is = to Unpin is h.held (h.at.0, h.at.1)
        by_action Repin is = to Repin is h.held (h.at.0, h.at.1)

    takes : (x k : ℕ) → m.stage ≡ Take x k → m.sizes ≡ z → Here (Take x k) → (step : TakeStep) (jobs : List Deferral)
        (bags : List Bag) → r ≡ Stepped → TakesHand x old.queued step bags jobs
        → new ≡ record (with_seat old q (with_machine seat (took_heard m (Take x k) step jobs))) { queued = bags }
        → GoesTo
    takes x k at same h TakeAgain jobs bags is stay did = moves seat.word m Stepped refl is (record {
      held = subst (HeldFits z.bag_jobs (length m.held)) (sym at) h.held;
      at = subst (CountAt z taken called (length m.hand) m.action) (sym at) h.at;
    }) _ did stay (λ k. refl)
    takes x k at same h Empty jobs bags is stay did =
        let fine = collected taken called m h.held (omega (arith, h.at.0, h.at.2))
        (omega (arith, h.at.1, times_le k z.collect_bags z.bag_jobs (omega (arith, h.at.2)))) in
        moves seat.word _ Stepped refl is (record { held = fine.0; at = fine.1 }) _ did stay (λ k. refl)
    takes x k at same h Got jobs bags is (bag, its, expired, out) did =
        let got = small_got z.bag_jobs old.queued bags bag out small in
        let fewer : left ≡ length bags + 1 = one_less old.queued bags bag out in
        let few : length jobs ≤ z.bag_jobs = omega (arith, got.1, ap length its) in
        let n : Machine Deferral = record m { hand = jobs } in
        let fine = after_jobs (taken + 1) called n h.held x k jobs refl same (omega (arith, h.at.0))
        (omega (arith, h.at.1, few, suc-mul k z.bag_jobs)) h.at.2 in
        goes_to _ bags Stepped is (ap (λ (s : State). s.queued) did) (λ k. ap (λ (s : State). seat_of s k) did)
        (subst₂ (λ (t c : ℕ). Counts z t c (took_heard m (Take x k) Got jobs) (took_heard m (Take x k) Got jobs).stage)
        (omega arith) (omega arith) (record { held = fine.0; at = fine.1 })) got.0

    calls : (x k : ℕ) → m.sizes ≡ z → Here (Calling x k) → (job : Deferral) (jobs : List Deferral) → m.hand ≡ job ∷ jobs
        → r ≡ Called job.ticket (outcome_of old.heap job.removes)
        → new ≡ record (with_seat old q
        (with_machine seat (gives m (Calling x k) jobs))) { heap = heap_after old.heap job.removes } → GoesTo
    calls x k same h job jobs hand is did =
        let n : Machine Deferral = record m { hand = jobs } in
        let fine = after_jobs taken (called + 1) n h.held x k jobs refl same h.at.0
        (omega (arith, h.at.1, ap length hand)) h.at.2 in
        goes_to _ old.queued (Called job.ticket (outcome_of old.heap job.removes)) is (ap (λ (s : State). s.queued) did)
        (λ k. ap (λ (s : State). seat_of s k) did)
        (subst (λ (t : ℕ). Counts z t (called + 1) (gives m (Calling x k) jobs) (gives m (Calling x k) jobs).stage)
        (omega arith) (record { held = fine.0; at = fine.1 })) small

    go : (c : Call) (s : Stage)
        → m.stage ≡ s → rests s ≡ false → m.sizes ≡ z → Here s → DrivesCall old q seat c s (ask_at s) r new → GoesTo
    go c Resting at on same h did = absurd (cc)
    go c LoadPin at on same h did = staged (StorePin old.epoch) (h.held, h.at) did
    go c (StorePin e) at on same h did = moves (Pinned e) (hears m (StorePin e) Stored) (PinnedReply q) refl did.0
        (record { held = h.held; at = h.at }) _ did.1 refl (λ k. refl)
    go c ReloadPin at on same h did = staged (after_pin m) (pinned taken called m h.held h.at.0 h.at.1) did
    go c LoadScan at on same h did = staged (Scan old.epoch 0) (h.held, h.at) did
    go c (Scan e k) at on same h did = staged (past_word m.sizes.positions e k (word_number (position_word old k)))
        (subst (λ (n : ℕ). HeldFits z.bag_jobs (length m.held) (past_word n e k (word_number (position_word old k)))
        × CountAt z taken called (length m.hand) m.action (past_word n e k (word_number (position_word old k))))
        (sym (ap (λ (s : Sizes). s.positions) same)) (looked taken called m h.held e k
        (word_number (position_word old k)) h.at.0 h.at.1)) did
    go c (Advance e) at on same h did = moves seat.word (hears m (Advance e) Stored) Stepped refl did.0
        (record { held = h.held; at = (omega (arith, h.at.0), omega (arith, h.at.1), sized.collect_bags.0) }) _
        did.1 refl (λ k. refl)
    go c (Take x k) at on same h did = takes x k at same h did.0 did.1 did.2 did.3 did.4 did.5
    go c (Calling x k) at on same h did = calls x k same h did.0 did.1 did.2 did.3 did.4
    go c LoadSeal at on same h did = staged (Put old.epoch) (h.held, h.at) did
    go c (Put seal) at on same h did = puts seal at h did.0 did.1 did.2 did.3 did.4
    go c Keep at on same h did = moves seat.word (hears m Keep
        (Job (record { ticket = old.tickets; removes = removed_by seat.progress }))) (Deferred old.tickets) refl did.0
        (record {
          held = omega (
            arith,
            h.held,
            length-append m.held (record { ticket = old.tickets; removes = removed_by seat.progress } ∷ []),
          );
          at = h.at;
        }) _ did.1 refl (λ k. refl)
    go c LoadRepin at on same h did = staged (if m.published == old.epoch then End else StoreRepin old.epoch)
        (by_test (λ s. HeldFits z.bag_jobs (length m.held) s × CountAt z taken called (length m.hand) m.action s)
        (m.published == old.epoch) End (StoreRepin old.epoch) (λ t. (h.held, h.at)) (λ f. (h.held, h.at))) did
    go c (StoreRepin e) at on same h did = moves (Pinned e) (hears m (StoreRepin e) Stored) (Repinned q) refl did.0
        (record { held = h.held; at = h.at }) _ did.1 refl (λ k. refl)
    go c ReloadRepin at on same h did = staged End (h.held, h.at) did
    go c StoreUnpinned at on same h did = moves Unpinned (hears m StoreUnpinned Stored) (UnpinnedReply q) refl did.0
        (record { held = (unpinned m.action m.full).0; at = (unpinned m.action m.full).1 }) _ did.1 refl (λ k. refl)
      where
        unpinned : (a : Action) (full : Bool) → HeldFits z.bag_jobs (length m.held) (after_unpin a full)
            × CountAt z taken called (length m.hand) m.action (after_unpin a full)
        unpinned Release false = (h.held, h.at)
        unpinned Release true = (h.held, h.at)
        unpinned Pin full = (h.held, h.at)
        unpinned Unpin full = (h.held, h.at)
        unpinned Repin full = (h.held, h.at)
        unpinned Defer full = (h.held, h.at)
        unpinned Flush full = (h.held, h.at)
    go c StoreFree at on same h did =
        goes_to (free_seat old.sizes) old.queued (Done Released) did.0 (ap (λ (s : State). s.queued) did.1)
        (λ k. ap (λ (s : State). seat_of s k) did.1)
        (record { held = omega arith; at = (omega (arith, h.at.0), omega (arith, h.at.1)) }) small
    go c End at on same h did =
        goes_to (ended_seat c seat) old.queued (end_reply c seat) did.0 (ap (λ (s : State). s.queued) did.1)
        (λ k. ap (λ (s : State). seat_of s k) did.1)
        (subst₂ (λ (n : Machine Deferral) (x : ℕ). Counts z (taken + (left - left)) (called + x) n n.stage)
        (sym (machine_ended c)) (sym (silent c)) (stays (ended m) (record { held = h.held; at = h.at }))) small
      where
        machine_ended : (c : Call) → (ended_seat c seat).machine ≡ ended m
        machine_ended PinCall = refl
        machine_ended (UnpinCall (Some g)) = refl
        machine_ended (Pause (Some g)) = refl
        machine_ended (Resume (Some g)) = refl
        machine_ended _ = refl

        full : (b : Bool) → told (full_or_done b) ≡ 0
        full true = refl
        full false = refl

        silent : (c : Call) → told (end_reply c seat) ≡ 0
        silent PinCall = refl
        silent (DeferCall g) = full m.full
        silent (FlushCall g) = full m.full
        silent ReleaseCall = full m.full
        silent (DeferDestroy g ptr) = full m.full
        silent _ = refl

    -- a step Go keeps the counts of the call under way within bounds, and each bag small
    pub go_counts : AllLinked old → old.sizes ≡ z → position_word old q ≢ Free → (progress : Progress)
        → seat.progress ≡ progress → Here m.stage → DoesGo old q seat progress r new → GoesTo
    go_counts linked at taken_now Idle is h did = goes_to seat old.queued _ did.0 (ap (λ (s : State). s.queued) did.1)
        (λ k. ap (λ (s : State). seat_of s k) did.1 ∙ same_seat k) (stays m h) small
      where
        same_seat : (k : ℕ) → seat_of old k ≡ seat_of (with_seat old q seat) k
        same_seat k = sym (ap (λ (seats : List WorldSeat). slice_index_or seats k (free_seat old.sizes))
            (set-get_or old.seats q (free_seat old.sizes)))
    go_counts linked at taken_now (Driven c) is h did =
        go c m.stage refl (follows_at old.sizes seat (linked.seats q) (Driven c) is).under_way
        ((linked.seats q).sized ∙ at) h did
    go_counts linked at taken_now (CallsNow removes) is h did = goes_to _ old.queued _ did.0
        (ap (λ (s : State). s.queued) did.1) (λ k. ap (λ (s : State). seat_of s k) did.1) (stays m h) small
    go_counts linked at taken_now (Accesses a k found) is h (did, touches, told_so, e) =
        goes_to _ old.queued (access_reply did.told) told_so (ap (λ (s : State). s.queued) e)
        (λ k. ap (λ (s : State). seat_of s k) e)
        (subst (λ (n : ℕ). Counts z (taken + (left - left)) (called + n) m m.stage)
        (sym (by_access did.told)) (stays m h)) small
      where
        by_access : (touched : Accessed) → told (access_reply touched) ≡ 0
        by_access (Again ptr) = refl
        by_access (Answers answer) = refl
        by_access NoSlot = refl
    go_counts linked at taken_now (Ends reply) is h did =
        let done : (answer : AccessAnswer) × (reply ≡ Done answer) =
        (follows_at old.sizes seat (linked.seats q) (Ends reply) is).1 in
        goes_to _ old.queued (Done done.0) (did.0 ∙ done.1) (ap (λ (s : State). s.queued) did.1)
        (λ k. ap (λ (s : State). seat_of s k) did.1) (stays m h) small
