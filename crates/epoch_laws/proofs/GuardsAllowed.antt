-- The guards allow a call that isn't refused.
use Rattle.std.proofs.Common.{◌≡◌, ℕ, ◌==◌, Bool, true, false, List, Option, Some, None, refl, ap, arith, if◌then◌else◌}
use Rattle.std.proofs.lemmas.Bool.Decides.{nat_tests}
use Rattle.epoch_cells.specs.declared.fault.Fault.{Fault}
use Rattle.epoch_cells.specs.declared.fault.Fault.TheVariants.{StrangerGuard}
use Rattle.epoch_laws.specs.Heap.{Heap, guard_of}
use Rattle.epoch_laws.specs.declared.step.Call.{Call}
use Rattle.epoch_laws.specs.declared.step.Call.TheVariants.{Pin, Unpin, Repin, Pause, Resume, Defer, Flush, Release}
use Rattle.epoch_laws.specs.declared.step.Call.TheVariants.{DeferDestroy, Access as AccessCall}
use Rattle.epoch_laws.specs.Run.{WorldSeat, under_guard, access_refusal, resume_refusal, call_refusal}
use Rattle.epoch_laws.specs.Lawful.{GuardAllows, GuardsAllow}
use Rattle.epoch_laws.proofs.SeatLemmas.{guard_given}
use Rattle.epoch_laws.proofs.GuardLists.{none_is}
use Rattle.epoch_laws.proofs.CallsLinked.{has_room, none_out}

paused_given : (g : ℕ) (paused : Option ℕ) → resume_refusal (Some g) paused ≡ None → paused ≡ Some g
paused_given g None e = absurd (cc)
paused_given g (Some h) e = ap Some (same (g == h) refl e)
  where
    same : (b : Bool) → (g == h) ≡ b → (if b then None else Some StrangerGuard) ≡ None → h ≡ g
    same true is none = grind (arith, nat_tests)
    same false is none = absurd (cc)

under_given : (g : Option ℕ) (guards : List ℕ) (fault : Option Fault)
    → under_guard g guards fault ≡ None → GuardAllows g guards
under_given None guards fault e = tt
under_given (Some g) guards fault e = guard_given _ _ _ e

-- a call that isn't refused is one that the guards counted, and the one paused, allow
pub guards_allowed : (c : Call) (seat : WorldSeat) (tickets : ℕ) (heap : Heap) → call_refusal c seat tickets heap ≡ None
    → GuardsAllow c seat.guards seat.paused
guards_allowed Pin seat n heap e = has_room _ _ _ refl e
guards_allowed (Unpin None) seat n heap e = absurd (cc)
guards_allowed (Unpin (Some g)) seat n heap e = guard_given _ _ _ e
guards_allowed (Repin None) seat n heap e = tt
guards_allowed (Repin (Some g)) seat n heap e = guard_given _ _ _ e
guards_allowed (Pause None) seat n heap e = tt
guards_allowed (Pause (Some g)) seat n heap e = guard_given _ _ _ e
guards_allowed (Resume None) seat n heap e = tt
guards_allowed (Resume (Some g)) seat n heap e = paused_given g seat.paused e
guards_allowed (Defer None) seat n heap e = tt
guards_allowed (Defer (Some g)) seat n heap e = guard_given _ _ _ e
guards_allowed (Flush None) seat n heap e = tt
guards_allowed (Flush (Some g)) seat n heap e = guard_given _ _ _ e
guards_allowed Release seat n heap e = none_is seat.guards (none_out _ (guard_given _ _ _ e))
guards_allowed (DeferDestroy None ptr) seat n heap e = tt
guards_allowed (DeferDestroy (Some g) ptr) seat n heap e = guard_given _ _ _ e
guards_allowed (AccessCall a) seat n heap e =
    under_given (guard_of a) seat.guards (access_refusal a seat.readings heap) e
