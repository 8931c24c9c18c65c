-- A call that begins keeps what holds.
use Rattle.std.proofs.Common.{◌≡◌, ℕ, ◌<◌, true, List, [], ◌∷◌, ◌++◌, length, refl, subst, ◌∙◌, arith, Some, None}
use Rattle.epoch_machine.specs.declared.machine.Action.{Action}
use Rattle.epoch_machine.specs.declared.machine.Action.TheVariants.{Pin as PinAction, Unpin as UnpinAction}
use Rattle.epoch_machine.specs.declared.machine.Action.TheVariants.{Repin as RepinAction, Defer as DeferAction}
use Rattle.epoch_machine.specs.declared.machine.Action.TheVariants.{Flush as FlushAction, Release as ReleaseAction}
use Rattle.epoch_machine.specs.declared.machine.Stage.{Stage}
use Rattle.epoch_machine.specs.declared.machine.Stage.TheVariants.{Idle as Resting}
use Rattle.epoch_machine.specs.Machine.{Machine, first_stage, begun}
use Rattle.epoch_laws.specs.declared.step.Call.{Call}
use Rattle.epoch_laws.specs.declared.step.Call.TheVariants.{Pin, Unpin, Repin, Pause, Resume, Defer, Flush, Release}
use Rattle.epoch_laws.specs.declared.step.Call.TheVariants.{DeferDestroy, Access as AccessCall}
use Rattle.epoch_laws.specs.declared.step.Reply.TheVariants.{Began}
use Rattle.epoch_laws.specs.declared.step.Entry.{Entry}
use Rattle.epoch_laws.specs.declared.step.Deferral.{Deferral}
use Rattle.epoch_laws.specs.declared.step.Progress.{Progress}
use Rattle.epoch_laws.specs.declared.step.Progress.TheVariants.{Idle}
use Rattle.epoch_laws.specs.Run.{WorldSeat, State, seat_of, with_seat, is_out, call_refusal, drives, begun_seat}
use Rattle.epoch_laws.proofs.SeatLemmas.{IsAccepted, guard_given}
use Rattle.epoch_laws.proofs.SeatLinks.{AllLinked, follows_at}
use Rattle.epoch_laws.proofs.CallsLinked.{none_out}
use Rattle.epoch_laws.proofs.QuietReplies.{quiet_began}
use Rattle.epoch_laws.proofs.SeatsFine.{View, IsFine, fine_next}
use Rattle.epoch_laws.proofs.WorldHolds.{Holds, view_of}
use Rattle.epoch_laws.proofs.FirstStages.{Allows, next_begun}
use Rattle.epoch_laws.proofs.SeatSteps.{quiet_step}

-- a guard that is out is counted
out_counts : (g n : ℕ) (guards : List ℕ) → n ≡ length guards → is_out g guards ≡ true → 0 < n
out_counts g n [] counted out = absurd (cc)
out_counts g n (first ∷ guards) counted out = omega arith

module _ (old new : State) (log : List Entry) (x : Entry) (h : Holds old log) (linked : AllLinked old) (p : ℕ)
    (c : Call) (given : IsAccepted c (seat_of old p) old.tickets old.heap) (told : x.reply ≡ Began) where
  abbrev seat : WorldSeat
  seat = seat_of old p

  -- the machine drives the call
  drives_holds : (a : Action) (by : Call) → Allows a seat.machine.guards → new ≡ with_seat old p (drives a by seat)
      → Holds new (log ++ x ∷ [])
  drives_holds a by allowed e = quiet_step old new log x h p (drives a by seat) given.taken refl
      (quiet_began x.reply told)
      (fine_next v p seat.word m (begun a m) Resting (first_stage a m) at_rest
      (next_begun v p m a allowed) (h.seats p).held)
      e
    where
      v : View
      v = view_of old h.since h.when

      m : Machine Deferral
      m = seat.machine

      at_rest : IsFine v p seat.word m Resting
      at_rest = subst (λ (s : Stage). IsFine v p seat.word m s)
          (follows_at old.sizes seat (linked.seats p) Idle given.idle) (h.seats p)

  -- nothing is driven
  waits_holds : (progress : Progress) → new ≡ with_seat old p (record seat { progress = progress })
      → Holds new (log ++ x ∷ [])
  waits_holds progress e = quiet_step old new log x h p (record seat { progress = progress }) given.taken refl
      (quiet_began x.reply told) (h.seats p) e

  counts : (g : ℕ) → is_out g seat.guards ≡ true → 0 < seat.machine.guards
  counts g out = out_counts g seat.machine.guards seat.guards (linked.seats p).counted out

  pub accepted_holds : (by : Call) → call_refusal by seat old.tickets old.heap ≡ None
      → new ≡ with_seat old p (begun_seat by seat) → Holds new (log ++ x ∷ [])
  accepted_holds Pin own e = drives_holds PinAction _ tt e
  accepted_holds (Unpin None) own e = absurd (cc)
  accepted_holds (Unpin (Some g)) own e = drives_holds UnpinAction _ (counts g (guard_given _ _ _ own)) e
  accepted_holds (Repin None) own e = waits_holds _ e
  accepted_holds (Repin (Some g)) own e = drives_holds RepinAction _ (counts g (guard_given _ _ _ own)) e
  accepted_holds (Pause None) own e = waits_holds _ e
  accepted_holds (Pause (Some g)) own e = drives_holds UnpinAction _ (counts g (guard_given _ _ _ own)) e
  accepted_holds (Resume None) own e = waits_holds _ e
  accepted_holds (Resume (Some g)) own e = drives_holds PinAction _ tt e
  accepted_holds (Defer None) own e = waits_holds _ e
  accepted_holds (Defer (Some g)) own e = drives_holds DeferAction _ (counts g (guard_given _ _ _ own)) e
  accepted_holds (Flush None) own e = waits_holds _ e
  accepted_holds (Flush (Some g)) own e = drives_holds FlushAction _ (counts g (guard_given _ _ _ own)) e
  accepted_holds Release own e =
      drives_holds ReleaseAction _ ((linked.seats p).counted ∙ none_out _ (guard_given _ _ _ own)) e
  accepted_holds (DeferDestroy None ptr) own e = waits_holds _ e
  accepted_holds (DeferDestroy (Some g) ptr) own e =
      drives_holds DeferAction _ (counts g (guard_given _ _ _ own)) e
  accepted_holds (AccessCall a) own e = waits_holds _ e
