-- What is told of a participant agrees with its seat when a call has begun.
use Rattle.std.proofs.Common.{◌≡◌, ℕ, false, List, length, Option, Some, None, is_some, refl, ap, sym, subst, ◌∙◌, Bool}
use Rattle.std.proofs.Common.{true, if◌then◌else◌}
use Rattle.epoch_machine.specs.declared.machine.Sizes.{Sizes}
use Rattle.epoch_laws.specs.declared.step.Call.{Call}
use Rattle.epoch_laws.specs.declared.step.Call.TheVariants.{Pin, Unpin, Repin, Pause, Resume, Defer, Flush, Release}
use Rattle.epoch_laws.specs.declared.step.Call.TheVariants.{DeferDestroy, Access as AccessCall}
use Rattle.epoch_laws.specs.declared.heap.access.AccessAnswer.TheVariants.{Unit as UnitAnswer, Absent}
use Rattle.epoch_laws.specs.declared.step.Reply.TheVariants.{Began, Done}
use Rattle.epoch_laws.specs.declared.step.Progress.{Progress}
use Rattle.epoch_laws.specs.declared.step.Progress.TheVariants.{Idle, CallsNow, Ends, Accesses}
use Rattle.epoch_laws.specs.Run.{WorldSeat, waits, drives, begun_seat, reads, under_guard, access_refusal}
use Rattle.epoch_laws.specs.Lawful.{Told, after_begin, MayCallNow, HasTold, AccessAnswers, AnswerFits, GuardsAllow}
use Rattle.epoch_laws.specs.Lawful.{MayAccept}
use Rattle.epoch_laws.proofs.SeatLemmas.{IsAccepted}
use Rattle.epoch_laws.proofs.SeatLinks.{action_of, BeganUnder, IsLinked}
use Rattle.epoch_laws.proofs.CallsLinked.{begun_linked}
use Rattle.epoch_laws.proofs.GuardsAllowed.{guards_allowed}
use Rattle.epoch_laws.proofs.ToldAtBegin.{told_first}
use Rattle.epoch_laws.proofs.EventsAgree.{PinnedByGuards, LeavesAll, ToldOf, Agrees}
use Rattle.epoch_laws.specs.declared.heap.access.Access.{Access}
use Rattle.epoch_laws.specs.declared.heap.access.AccessAnswer.{AccessAnswer}
use Rattle.epoch_laws.specs.Heap.{Heap, null, has_steps, guard_of, is_known}
use Rattle.epoch_laws.specs.declared.heap.access.Access.TheVariants.{Place, Read, Leave, Write, Take, Point}
use Rattle.epoch_cells.specs.declared.cells.name.Name.{Name}
use Rattle.epoch_cells.specs.declared.fault.Fault.TheVariants.{StrangerPointer}
use Rattle.epoch_laws.proofs.AccessesTold.{Named}

-- a leave that isn't refused names a cell
named : (a : Access) (guards : List ℕ) (readings : List Name) (heap : Heap)
    → under_guard (guard_of a) guards (access_refusal a readings heap) ≡ None → Named a
named (Leave ptr) guards readings heap e = by_name ptr.name e
  where
    by_name : (name : Option Name)
        → (if is_known heap name then (if reads name readings then None else Some StrangerPointer)
        else Some StrangerPointer) ≡ None
        → is_some name ≡ true
    by_name (Some n) e = refl
    by_name None e = absurd (cc (e))
named _ guards readings heap e = tt

-- only a read, a write or a take of null has no step
absent_fits : (a : Access) → has_steps a ≡ false → AccessAnswers a Absent
absent_fits (Read g ptr) none = tt
absent_fits (Write g ptr v) none = tt
absent_fits (Take g ptr) none = tt
absent_fits (Place v) none = absurd (cc (none))
absent_fits (Leave ptr) none = absurd (cc (none))
absent_fits (Point g spot change) none = absurd (cc (none))

module _ (t : Told) (seat : WorldSeat) (sizes : Sizes) (tickets : ℕ) (heap : Heap)
    (h : Agrees t seat) (linked : IsLinked sizes seat) where
  abbrev Begins : Call → WorldSeat → Type 0
  Begins c after = Agrees (after_begin t c Began) after

  rests : seat.progress ≡ Idle → PinnedByGuards t
  rests idle = (subst (λ (progress : Progress). ToldOf t seat.machine progress) idle h.told).1

  -- the machine drives the call
  driven : (c : Call)
      → IsAccepted c seat tickets heap → BeganUnder c seat.guards → Begins c (drives (action_of c) c seat)
  driven c ok under = record {
    guards = h.guards;
    paused = h.paused;
    told = (
      refl,
      told_first t seat.machine (linked.counted ∙ sym (ap length h.guards)) (rests ok.idle) c
          (subst (λ (guards : List ℕ). BeganUnder c guards) (sym h.guards) under),
    );
    here = h.here;
    away = λ free. absurd (ok.taken free);
  }

  -- the call does nothing
  ends : (c : Call) (answer : AccessAnswer) → IsAccepted c seat tickets heap → HasTold (Some c) (after_begin t c Began)
      → AnswerFits (Some c) answer → LeavesAll (after_begin t c Began)
      → Begins c (record seat { progress = Ends (Done answer) })
  ends c answer ok told fits leaves = record {
    guards = h.guards;
    paused = h.paused;
    told = (told, fits, leaves, rests ok.idle);
    here = h.here;
    away = λ free. absurd (ok.taken free);
  }

  -- the call calls a job at once
  calls_now : (c : Call) (removes : Option Name) → IsAccepted c seat tickets heap → MayCallNow (Some c)
      → Begins c (record seat { progress = CallsNow removes })
  calls_now c removes ok may = record {
    guards = h.guards;
    paused = h.paused;
    told = (may, refl, rests ok.idle);
    here = h.here;
    away = λ free. absurd (ok.taken free);
  }

  -- the call is on cells and pointers
  accesses : (a : Access) (b : Bool) → has_steps a ≡ b → IsAccepted (AccessCall a) seat tickets heap
      → Begins (AccessCall a) (record seat { progress = if b then Accesses a 0 null else Ends (Done Absent) })
  accesses a true some ok = record {
    guards = h.guards;
    paused = h.paused;
    told = (refl, named a seat.guards seat.readings heap ok.own, rests ok.idle);
    here = h.here;
    away = λ free. absurd (ok.taken free);
  }
  accesses a false none ok = ends (AccessCall a) Absent ok tt (absent_fits a none) (λ answer. refl)

  by_call : (c : Call)
      → IsAccepted c seat tickets heap → IsLinked sizes (begun_seat c seat) → Begins c (begun_seat c seat)
  by_call Pin ok on = driven Pin ok on.follows.under
  by_call (Unpin None) ok on = absurd (cc (ok.own))
  by_call (Unpin (Some g)) ok on = driven (Unpin (Some g)) ok on.follows.under
  by_call (Repin None) ok on = ends (Repin None) UnitAnswer ok tt tt (λ answer. refl)
  by_call (Repin (Some g)) ok on = driven (Repin (Some g)) ok on.follows.under
  by_call (Pause None) ok on = ends (Pause None) UnitAnswer ok tt tt (λ answer. refl)
  by_call (Pause (Some g)) ok on = driven (Pause (Some g)) ok on.follows.under
  by_call (Resume None) ok on = ends (Resume None) UnitAnswer ok tt tt (λ answer. refl)
  by_call (Resume (Some g)) ok on = driven (Resume (Some g)) ok on.follows.under
  by_call (Defer None) ok on = calls_now (Defer None) None ok tt
  by_call (Defer (Some g)) ok on = driven (Defer (Some g)) ok on.follows.under
  by_call (Flush None) ok on = ends (Flush None) UnitAnswer ok tt tt (λ answer. refl)
  by_call (Flush (Some g)) ok on = driven (Flush (Some g)) ok on.follows.under
  by_call Release ok on = driven Release ok on.follows.under
  by_call (DeferDestroy None ptr) ok on = calls_now (DeferDestroy None ptr) ptr.name ok tt
  by_call (DeferDestroy (Some g) ptr) ok on = driven (DeferDestroy (Some g) ptr) ok on.follows.under
  by_call (AccessCall a) ok on = accesses a (has_steps a) refl ok

  pub begin_agrees : (c : Call) → IsAccepted c seat tickets heap → Agrees (after_begin t c Began) (begun_seat c seat)
  begin_agrees c ok = by_call c ok (begun_linked sizes seat linked c tickets heap ok.idle ok.own)

  -- what is told of the participant allows the call
  pub begin_allowed : (c : Call) → IsAccepted c seat tickets heap → MayAccept t c
  begin_allowed c ok = record {
    registered = h.here ok.taken;
    idle = (subst (λ (progress : Progress). ToldOf t seat.machine progress) ok.idle h.told).0;
    awake = subst (λ (paused : Option ℕ). waits c paused ≡ false) (sym h.paused) ok.awake;
    guards = subst (λ (guards : List ℕ). GuardsAllow c guards t.paused) (sym h.guards)
        (subst (λ (paused : Option ℕ). GuardsAllow c seat.guards paused) (sym h.paused)
        (guards_allowed c seat tickets heap ok.own));
  }
