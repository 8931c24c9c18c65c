-- A step Go keeps what holds, whatever stage the machine is at.
use Rattle.std.proofs.Common.{◌≡◌, ◌≢◌, ℕ, ◌≤◌, ◌==◌, true, false, List, [], ◌∷◌, ◌++◌, length, Option, Some, None, inl}
use Rattle.std.proofs.Common.{inr, refl, ap, ◌∙◌, arith}
use Rattle.epoch_machine.specs.declared.machine.Sizes.{Sizes}
use Rattle.epoch_machine.specs.declared.machine.Stage.{Stage}
use Rattle.epoch_machine.specs.declared.machine.Stage.TheVariants.{Idle as Resting, LoadPin, StorePin, ReloadPin}
use Rattle.epoch_machine.specs.declared.machine.Stage.TheVariants.{LoadScan, Scan, Advance, Take, Calling, LoadSeal}
use Rattle.epoch_machine.specs.declared.machine.Stage.TheVariants.{Put, Keep, LoadRepin, StoreRepin, ReloadRepin}
use Rattle.epoch_machine.specs.declared.machine.Stage.TheVariants.{StoreUnpinned, StoreFree, End}
use Rattle.epoch_machine.specs.declared.machine.Answer.TheVariants.{Stored}
use Rattle.epoch_machine.specs.Machine.{Machine, ask_at, hears, ended}
use Rattle.epoch_machine.proofs.StagesAfter.{either_way}
use Rattle.epoch_laws.specs.declared.step.Call.{Call}
use Rattle.epoch_laws.specs.declared.step.Call.TheVariants.{Unpin, Pause, Resume}
use Rattle.epoch_laws.specs.declared.step.Deferral.{Deferral}
use Rattle.epoch_laws.specs.declared.step.Entry.{Entry}
use Rattle.epoch_laws.specs.declared.step.Word.TheVariants.{Free, Unpinned, Pinned}
use Rattle.epoch_laws.specs.declared.step.Progress.{Progress}
use Rattle.epoch_laws.specs.declared.step.Progress.TheVariants.{Idle, Driven, CallsNow, Ends, Accesses}
use Rattle.epoch_laws.specs.Run.{WorldSeat, State, seat_of, position_word, with_seat, with_word, free_seat, with_guards}
use Rattle.epoch_laws.specs.Run.{ended_seat, DrivesCall, DoesGo, with_heap, accessed_seat}
use Rattle.epoch_laws.proofs.SeatLinks.{rests, AllLinked, follows_at}
use Rattle.epoch_laws.proofs.QuietReplies.{IsQuiet, quiet_stepped, quiet_now, quiet_done, quiet_refused, quiet_end}
use Rattle.epoch_laws.proofs.QuietReplies.{quiet_access}
use Rattle.epoch_laws.proofs.SeatsFine.{View, is_pinned, IsFine, IsNext, fine_next}
use Rattle.epoch_laws.proofs.WorldHolds.{Holds, view_of, heap_aside}
use Rattle.epoch_laws.proofs.NextStages.{next_end, next_pinned, next_unpinned}
use Rattle.epoch_laws.proofs.ScanStages.{next_looked, past_seats}
use Rattle.epoch_laws.proofs.SeatSteps.{stay, quiet_step, publishes, withdraws}
use Rattle.epoch_laws.proofs.GoSteps.{moves, advances, keeps}
use Rattle.epoch_laws.proofs.BagSteps.{puts, takes, calls}
use Rattle.epoch_laws.specs.declared.heap.access.AccessAnswer.TheVariants.{Unit as UnitAnswer}
use Rattle.epoch_laws.specs.declared.step.Reply.TheVariants.{Done}

module _ (old new : State) (log : List Entry) (x : Entry) (h : Holds old log) (linked : AllLinked old) (p : ℕ)
    (taken : position_word old p ≢ Free) where
  abbrev seat : WorldSeat
  seat = seat_of old p

  abbrev m : Machine Deferral
  m = seat.machine

  abbrev v : View
  v = view_of old h.since h.when

  abbrev IsFineAt : Stage → Type 0
  IsFineAt s = IsFine v p seat.word m s

  -- the call is at its end
  ends_with : (guards : List ℕ) (paused : Option ℕ) → IsFineAt End → IsQuiet x.reply
      → new ≡ with_seat old p (with_guards seat guards paused) → Holds new (log ++ x ∷ [])
  ends_with guards paused fine quiet e = quiet_step old new log x h p (with_guards seat guards paused) taken refl quiet
      (fine_next v p seat.word m (ended m) End Resting fine
      (record { publishes = refl; aims = tt; knows = tt }) fine.held)
      e

  ends : (c : Call) → IsFineAt End → IsQuiet x.reply → new ≡ with_seat old p (ended_seat c seat)
      → Holds new (log ++ x ∷ [])
  ends (Unpin None) fine quiet e = ends_with _ _ fine quiet e
  ends (Unpin (Some g)) fine quiet e = ends_with _ _ fine quiet e
  ends (Pause None) fine quiet e = ends_with _ _ fine quiet e
  ends (Pause (Some g)) fine quiet e = ends_with _ _ fine quiet e
  ends (Resume None) fine quiet e = ends_with _ _ fine quiet e
  ends (Resume (Some g)) fine quiet e = ends_with _ _ fine quiet e
  ends _ fine quiet e = ends_with _ _ fine quiet e

  -- by the stage of a machine that is driven
  go_at : (c : Call) (s : Stage) → rests s ≡ false → IsFineAt s → DrivesCall old p seat c s (ask_at s) x.reply new
      → Holds new (log ++ x ∷ [])
  go_at c Resting on fine did = absurd (cc)
  go_at c LoadPin on fine did = moves old new log x h p taken LoadPin (StorePin old.epoch) fine
      (record { publishes = refl; aims = fine.aims; knows = omega arith }) did.0 did.1
  go_at c (StorePin e) on fine did =
      publishes old new log x h p e (with_word seat (Pinned e) (hears m (StorePin e) Stored)) taken
      fine.knows refl refl fine.aims fine.held (λ w. tt)
      (λ q t. elim t [ inl a ↦ cc (did.0, a) | inr a ↦ absurd (cc (did.0, a)) ])
      (λ pinned. absurd (cc (pinned, fine.agrees))) (λ t a. cc (did.0, a)) (λ t how a. cc (did.0, a)) did.1
  go_at c ReloadPin on fine did =
      moves old new log x h p taken ReloadPin _ fine (next_pinned v p m fine.aims) did.0 did.1
  go_at c LoadScan on fine did = moves old new log x h p taken LoadScan (Scan old.epoch 0) fine
      (record {
        publishes = refl;
        aims = fine.aims;
        knows = record {
          own = fine.before;
          seen = omega arith;
          others = λ j lt pinned. absurd (omega arith);
        };
      }) did.0 did.1
  go_at c (Scan e k) on fine did = moves old new log x h p taken (Scan e k) _ fine
      (next_looked v p m fine.aims e k m.sizes.positions fine.knows past (h.seats k).published) did.0 did.1
    where
      as_many : m.sizes.positions ≡ length old.seats
      as_many = ap (λ (z : Sizes). z.positions) (linked.seats p).sized ∙ linked.positions

      past : (j : ℕ) → m.sizes.positions ≤ j → is_pinned (position_word old j) ≡ false
      past j le = past_seats old j (omega (arith, as_many))
  go_at c (Advance e) on fine did = advances old new log x h p taken e fine (quiet_stepped x.reply did.0) did.1
  go_at c (Take y k) on fine (step, jobs, queued, told, took, e) =
      takes old new log x h p taken y k fine step jobs queued took told e
  go_at c (Calling y k) on fine (job, jobs, hand, told, e) =
      heap_aside new _ old.heap (calls old (with_heap new old.heap) log x h p taken y k fine job jobs _ hand told
      (ap (λ (s : State). with_heap s old.heap) e))
  go_at c LoadSeal on fine did = moves old new log x h p taken LoadSeal (Put old.epoch) fine
      (record { publishes = refl; aims = fine.aims; knows = (omega arith, fine.held) }) did.0 did.1
  go_at c (Put s) on fine (step, queued, told, put, e) = puts old new log x h p taken s fine step queued put told e
  go_at c Keep on fine did = keeps old new log x h p taken fine did.0 did.1
  go_at c LoadRepin on fine did = moves old new log x h p taken LoadRepin _ fine
      (either_way (IsNext v p true m) (m.published == old.epoch) End (StoreRepin old.epoch)
      (next_end v p m false fine.aims)
      (record { publishes = refl; aims = fine.aims; knows = omega arith })) did.0 did.1
  go_at c (StoreRepin e) on fine did =
      publishes old new log x h p e (with_word seat (Pinned e) (hears m (StoreRepin e) Stored)) taken
      fine.knows refl refl fine.aims fine.held (λ w. tt)
      (λ q t. elim t [ inl a ↦ absurd (cc (did.0, a)) | inr a ↦ cc (did.0, a) ])
      (λ pinned. inr did.0) (λ t a. cc (did.0, a)) (λ t how a. cc (did.0, a)) did.1
  go_at c ReloadRepin on fine did =
      moves old new log x h p taken ReloadRepin End fine (next_end v p m false fine.aims) did.0 did.1
  go_at c StoreUnpinned on fine did =
      let next = next_unpinned v p m m.action m.full fine.aims in
      withdraws old new log x h p (with_word seat Unpinned (hears m StoreUnpinned Stored)) taken refl
      next.publishes next.aims fine.held (λ w. (next_unpinned w p m m.action m.full fine.aims).knows)
      (λ q t. elim t [ inl a ↦ cc (did.0, a) | inr a ↦ cc (did.0, a) ])
      (λ pinned. inl did.0) (λ t a. cc (did.0, a)) (λ t how a. cc (did.0, a)) did.1
  go_at c StoreFree on fine did = withdraws old new log x h p (free_seat old.sizes) taken refl refl tt tt (λ w. tt)
      (λ q t. elim t [ inl a ↦ cc (did.0, a) | inr a ↦ cc (did.0, a) ])
      (λ pinned. absurd (cc (pinned, fine.agrees))) (λ t a. cc (did.0, a)) (λ t how a. cc (did.0, a)) did.1
  go_at c End on fine did = ends c fine (quiet_end x.reply c seat did.0) did.1

  pub go_keeps : (progress : Progress) → seat.progress ≡ progress → DoesGo old p seat progress x.reply new
      → Holds new (log ++ x ∷ [])
  go_keeps Idle now did = stay old new log x h (quiet_refused x.reply _ did.0) did.1
  go_keeps (Driven c) now did =
      go_at c m.stage (follows_at old.sizes seat (linked.seats p) (Driven c) now).under_way (h.seats p) did
  go_keeps (CallsNow removes) now did = heap_aside new _ old.heap
      (quiet_step old (with_heap new old.heap) log x h p (record seat { progress = Ends (Done UnitAnswer) }) taken refl
      (quiet_now x.reply _ did.0) (h.seats p) (ap (λ (s : State). with_heap s old.heap) did.1))
  go_keeps (Accesses a k found) now (did, touches, told, e) = heap_aside new _ old.heap
      (quiet_step old (with_heap new old.heap) log x h p (accessed_seat a k did.told seat) taken refl
      (quiet_access x.reply did.told told) (h.seats p) (ap (λ (s : State). with_heap s old.heap) e))
  go_keeps (Ends reply) now did = let follows = follows_at old.sizes seat (linked.seats p) (Ends reply) now in
      quiet_step old new log x h p _ taken refl (quiet_done x.reply _ (did.0 ∙ follows.1.1)) (h.seats p) did.1
