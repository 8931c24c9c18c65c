-- A Begin that a world refuses, it refuses with a fault that fits what is known of the participant and its guards.
use Rattle.std.proofs.Common.{◌≡◌, ◌≢◌, ℕ, ◌≤◌, ◌==◌, nat_le, Bool, true, false, List, length, Option, Some, None, ◌⊎◌}
use Rattle.std.proofs.Common.{inl, inr, refl, arith, sym, subst, if◌then◌else◌}
use Rattle.std.proofs.lemmas.Bool.Decides.{nat_tests}
use Rattle.epoch_bags.specs.Bags.{is_empty}
use Rattle.epoch_cells.specs.declared.cells.name.Name.{Name}
use Rattle.epoch_cells.specs.declared.fault.Fault.{Fault}
use Rattle.epoch_cells.specs.declared.fault.Fault.TheVariants.{StrangerGuard, GuardsOut, TicketsOut, StrangerPointer}
use Rattle.epoch_cells.specs.declared.fault.Fault.TheVariants.{NoSuchPlace, TooManyGuards, Busy}
use Rattle.epoch_laws.specs.declared.heap.access.Access.{Access}
use Rattle.epoch_laws.specs.declared.heap.access.Access.TheVariants.{Place, Read, Leave, Write, Take, Point}
use Rattle.epoch_laws.specs.Heap.{Heap, guard_of, has_place, knows_names, is_removable}
use Rattle.epoch_laws.specs.declared.step.Call.{Call}
use Rattle.epoch_laws.specs.declared.step.Call.TheVariants.{Pin, Unpin, Repin, Pause, Resume, Defer, Flush, Release}
use Rattle.epoch_laws.specs.declared.step.Call.TheVariants.{DeferDestroy, Access as AccessCall}
use Rattle.epoch_laws.specs.Run.{WorldSeat, is_out, reads, access_refusal, under_guard, resume_refusal}
use Rattle.epoch_laws.specs.Run.{call_refusal}
use Rattle.epoch_laws.specs.Fits.{ResumeFault, HeapFault, AccessFault, RemovalFault, CallFault}

-- a test that refuses with this fault where it fails, and then another one
refused_or : (b : Bool) (f fault : Fault) (o : Option Fault) → (if b then o else Some f) ≡ Some fault
    → ((b ≡ false) × (fault ≡ f)) ⊎ ((b ≡ true) × (o ≡ Some fault))
refused_or true f fault o e = inr (refl, e)
refused_or false f fault o e = inl (refl, cc (e))

-- where nothing else is tested, the test failed
refused_by : (b : Bool) (f fault : Fault) → (if b then None else Some f) ≡ Some fault → (b ≡ false) × (fault ≡ f)
refused_by true f fault e = absurd (cc (e))
refused_by false f fault e = (refl, cc (e))

-- a test that refuses where it holds
refused_if : (b : Bool) (f fault : Fault) → (if b then Some f else None) ≡ Some fault → (b ≡ true) × (fault ≡ f)
refused_if true f fault e = (refl, cc (e))
refused_if false f fault e = absurd (cc (e))

-- what a test refuses with, whichever way it goes
refused_so : (b : Bool) (f fault : Fault) (o : Option Fault) → (o ≡ Some fault → fault ≡ f)
    → (if b then o else Some f) ≡ Some fault → fault ≡ f
refused_so true f fault o own e = own e
refused_so false f fault o own e = cc (e)

resumed : (g : ℕ) (paused : Option ℕ) (fault : Fault) → resume_refusal (Some g) paused ≡ Some fault
    → ResumeFault g paused fault
resumed g None fault e = cc (e)
resumed g (Some h) fault e =
    let told : ((g == h) ≡ false) × (fault ≡ StrangerGuard) = refused_by (g == h) StrangerGuard fault e in
    (differs told.0, told.1)
  where
    differs : (g == h) ≡ false → g ≢ h
    differs e = grind (arith, nat_tests)

-- the fault of a call on cells and pointers, its guard aside
in_heap : (a : Access) (readings : List Name) (heap : Heap) (fault : Fault)
    → access_refusal a readings heap ≡ Some fault → HeapFault a fault
in_heap (Place v) readings heap fault e = absurd (cc (e))
in_heap (Read g ptr) readings heap fault e =
    elim (refused_or (knows_names heap (Read g ptr)) StrangerPointer fault _ e) [
      | inl stranger ↦ subst (HeapFault (Read g ptr)) (sym stranger.1) tt
      | inr own ↦ subst (HeapFault (Read g ptr)) (sym (refused_if (reads ptr.name readings) Busy fault own.1).1) tt
    ]
in_heap (Leave ptr) readings heap fault e = elim (refused_or (knows_names heap (Leave ptr)) StrangerPointer fault _ e) [
  | inl stranger ↦ subst (HeapFault (Leave ptr)) (sym stranger.1) tt
  | inr own ↦
      subst (HeapFault (Leave ptr)) (sym (refused_by (reads ptr.name readings) StrangerPointer fault own.1).1) tt
]
in_heap (Write g ptr v) readings heap fault e =
    subst (HeapFault (Write g ptr v)) (sym (refused_by (knows_names heap (Write g ptr v)) StrangerPointer fault e).1) tt
in_heap (Take g ptr) readings heap fault e =
    subst (HeapFault (Take g ptr)) (sym (refused_by (knows_names heap (Take g ptr)) StrangerPointer fault e).1) tt
in_heap (Point g spot change) readings heap fault e =
    elim (refused_or (has_place heap (Point g spot change)) NoSuchPlace fault _ e) [
      | inl nowhere ↦ subst (HeapFault (Point g spot change)) (sym nowhere.1) tt
      | inr own ↦ subst (HeapFault (Point g spot change))
          (sym (refused_by (knows_names heap (Point g spot change)) StrangerPointer fault own.1).1) tt
    ]

accessed : (g : Option ℕ) (a : Access) (seat : WorldSeat) (heap : Heap) (fault : Fault)
    → under_guard g seat.guards (access_refusal a seat.readings heap) ≡ Some fault → AccessFault g a seat.guards fault
accessed None a seat heap fault e = in_heap a seat.readings heap fault e
accessed (Some g) a seat heap fault e = elim (refused_or (is_out g seat.guards) StrangerGuard fault _ e) [
  | inl stranger ↦ inl stranger
  | inr own ↦ inr (own.0, in_heap a seat.readings heap fault own.1)
]

tickets_out : (b : Bool) (fault : Fault) → (if b then Some TicketsOut else None) ≡ Some fault → fault ≡ TicketsOut
tickets_out b fault e = (refused_if b TicketsOut fault e).1

-- a removal under a guard that is counted
removed : (b tickets : Bool) (fault : Fault)
    → (if b then (if tickets then Some TicketsOut else None) else Some StrangerPointer) ≡ Some fault
    → RemovalFault fault
removed b tickets fault e = elim (refused_or b StrangerPointer fault _ e) [
  | inl stranger ↦ subst RemovalFault (sym stranger.1) tt
  | inr own ↦ subst RemovalFault (sym (tickets_out tickets fault own.1)) tt
]

full : (n : ℕ) (fault : Fault) → (if nat_le 64 n then Some TooManyGuards else None) ≡ Some fault
    → (64 ≤ n) × (fault ≡ TooManyGuards)
full n fault e =
    let told : (nat_le 64 n ≡ true) × (fault ≡ TooManyGuards) = refused_if (nat_le 64 n) TooManyGuards fault e in
    (grind (arith, nat_tests, told.0), told.1)

-- the fault of the call itself
pub call_refused : (c : Call) (seat : WorldSeat) (tickets : ℕ) (heap : Heap) (fault : Fault)
    → call_refusal c seat tickets heap ≡ Some fault → CallFault c seat.guards seat.paused fault
call_refused Pin seat n heap fault e = full (length seat.guards) fault e
call_refused (Unpin None) seat n heap fault e = cc (e)
call_refused (Unpin (Some g)) seat n heap fault e = refused_by (is_out g seat.guards) StrangerGuard fault e
call_refused (Repin None) seat n heap fault e = absurd (cc (e))
call_refused (Repin (Some g)) seat n heap fault e = refused_by (is_out g seat.guards) StrangerGuard fault e
call_refused (Pause None) seat n heap fault e = absurd (cc (e))
call_refused (Pause (Some g)) seat n heap fault e = refused_by (is_out g seat.guards) StrangerGuard fault e
call_refused (Resume None) seat n heap fault e = absurd (cc (e))
call_refused (Resume (Some g)) seat n heap fault e = resumed g seat.paused fault e
call_refused (Defer None) seat n heap fault e = absurd (cc (e))
call_refused (Defer (Some g)) seat n heap fault e = elim (refused_or (is_out g seat.guards) StrangerGuard fault _ e) [
  | inl stranger ↦ inl stranger
  | inr own ↦ inr (own.0, tickets_out _ fault own.1)
]
call_refused (Flush None) seat n heap fault e = absurd (cc (e))
call_refused (Flush (Some g)) seat n heap fault e = refused_by (is_out g seat.guards) StrangerGuard fault e
call_refused Release seat n heap fault e = refused_so (length seat.guards == 0) GuardsOut fault _
    (λ own. (refused_by (is_empty seat.readings) GuardsOut fault own).1) e
call_refused (DeferDestroy None ptr) seat n heap fault e =
    (refused_by (is_removable heap ptr.name) StrangerPointer fault e).1
call_refused (DeferDestroy (Some g) ptr) seat n heap fault e =
    elim (refused_or (is_out g seat.guards) StrangerGuard fault _ e) [
      | inl stranger ↦ inl stranger
      | inr own ↦ inr (own.0, removed (is_removable heap ptr.name) _ fault own.1)
    ]
call_refused (AccessCall a) seat n heap fault e = accessed (guard_of a) a seat heap fault e
