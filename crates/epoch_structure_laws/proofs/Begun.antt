-- No call of a phase is refused when it begins, but a removal for want of a ticket.
use Rattle.std.proofs.Common.{◌≡◌, ◌≢◌, ℕ, ◌-◌, ◌^◌, ◌||◌, ◌&&◌, ◌==◌, ◌≤◌, nat_lt, nat_le, Bool, true, false, List}
use Rattle.std.proofs.Common.{Option, Some, None, is_some, refl, ap, sym, subst, ◌∙◌, arith, if◌then◌else◌, slice_get}
use Rattle.std.proofs.lemmas.Bool.Decides.{nat_tests}
use Rattle.epoch_cells.specs.declared.cells.name.Name.{Name}
use Rattle.epoch_cells.specs.declared.fault.Fault.{Fault}
use Rattle.epoch_cells.specs.declared.fault.Fault.TheVariants.{Busy, NotRegistered, StrangerGuard, NoSuchPlace}
use Rattle.epoch_cells.specs.declared.fault.Fault.TheVariants.{StrangerPointer, TicketsOut}
use Rattle.epoch_laws.specs.declared.heap.access.Access.{Access}
use Rattle.epoch_laws.specs.declared.heap.heap.Content.{Content}
use Rattle.epoch_laws.specs.Heap.{Cell, Heap, guard_of, has_place, knows_names, is_removable, was_given, turn_given}
use Rattle.epoch_laws.specs.declared.step.Call.{Call}
use Rattle.epoch_laws.specs.declared.step.Call.TheVariants.{Flush, DeferDestroy, Access as AccessCall}
use Rattle.epoch_laws.specs.declared.step.Progress.{Progress}
use Rattle.epoch_laws.specs.declared.step.Progress.TheVariants.{Idle}
use Rattle.epoch_laws.specs.declared.step.Word.{Word}
use Rattle.epoch_laws.specs.declared.step.Word.TheVariants.{Free}
use Rattle.epoch_laws.specs.Run.{WorldSeat, is_free, is_idle, is_out, waits, under_guard, reading_refusal}
use Rattle.epoch_laws.specs.Run.{access_refusal, call_refusal, refusal}
use Rattle.epoch_laws.proofs.PointersGiven.{WasGiven}
use Rattle.epoch_laws.proofs.TurnsGiven.{GivenAt}
use Rattle.epoch_structure_laws.specs.Plans.{Deed, Flushes, Touches, Defers, Answers, IsOver, ptr_to, call_by}
use Rattle.epoch_structure_laws.specs.Served.{RefusesDeed, IsReadySeat}

-- NAMES THAT WERE GIVEN

given_test : (start turn other : ℕ) (v : Option Content)
    → GivenAt turn (Some (record { turn = other; readers = 0; value = v })) → start ≤ turn
    → (nat_le start turn && (nat_lt turn other || ((turn == other) && is_some v))) ≡ true
given_test start turn other (Some content) given from = grind (arith, nat_tests)
given_test start turn other None given from = grind (arith, nat_tests)

-- a name that was given is known
pub given_known : (h : Heap) (x : Name) → WasGiven h x → was_given h x ≡ true
given_known h x (given, start) = at_cell (slice_get h.cells (x.slot - 1)) given
  where
    at_cell : (cell : Option Cell) → GivenAt x.turn cell → turn_given h.start_turn x.turn cell ≡ true
    at_cell None given = absurd given
    at_cell (Some cell) given = given_test h.start_turn x.turn cell.turn cell.value given start

-- CALLS

not_free : (w : Word) → w ≢ Free → is_free w ≡ false
not_free Free ne = absurd (ne refl)
not_free _ ne = refl

-- what a phase's access shows of itself
pub record MayBegin (g : ℕ) (a : Access) (heap : Heap) (readings : List Name) : Type 0 where
  pub guard : (k : ℕ) → guard_of a ≡ Some k → k ≡ g
  pub place : has_place heap a ≡ true
  pub names : knows_names heap a ≡ true
  pub reading : reading_refusal a readings ≡ None

-- a removal is refused where no ticket is left
by_tickets : {P A : Type 0} (d : Deed P A) → RefusesDeed d TicketsOut → (b : Bool) (f : Fault)
    → (if b then Some TicketsOut else None) ≡ Some f → RefusesDeed d f
by_tickets d out true f e = subst (RefusesDeed d) (let same : TicketsOut ≡ f = cc (e) in same) out
by_tickets d out false f e = absurd (cc (e))

module _ (g tickets : ℕ) (seat : WorldSeat) (heap : Heap) (idle : seat.progress ≡ Idle)
    (ready : IsReadySeat g seat) where
  -- a participant that is ready is refused by the call's own fault alone
  own_fault : (c : Call) → waits c None ≡ false → refusal c seat tickets heap ≡ call_refusal c seat tickets heap
  own_fault c awake =
      ap (λ (b : Bool). if b then Some NotRegistered else (if is_idle seat.progress then (if waits c seat.paused
      then Some Busy else call_refusal c seat tickets heap) else Some Busy)) (not_free seat.word ready.taken)
      ∙ ap (λ (s : Progress). if is_idle s
      then (if waits c seat.paused then Some Busy else call_refusal c seat tickets heap) else Some Busy) idle
      ∙ ap (λ (paused : Option ℕ). if waits c paused then Some Busy else call_refusal c seat tickets heap) ready.awake
      ∙ ap (λ (b : Bool). if b then Some Busy else call_refusal c seat tickets heap) awake

  guarded : (fault : Option Fault) → (if is_out g seat.guards then fault else Some StrangerGuard) ≡ fault
  guarded fault = ap (λ (b : Bool). if b then fault else Some StrangerGuard) ready.out

  under : (o : Option ℕ) (fault : Option Fault) → ((k : ℕ) → o ≡ Some k → k ≡ g) → under_guard o seat.guards fault
      ≡ fault
  under None fault same = refl
  under (Some k) fault same =
      subst (λ (j : ℕ). (if is_out j seat.guards then fault else Some StrangerGuard) ≡ fault) (sym (same k refl))
      (guarded fault)

  allowed : (a : Access) → MayBegin g a heap seat.readings → call_refusal (AccessCall a) seat tickets heap ≡ None
  allowed a may =
      under (guard_of a) (access_refusal a seat.readings heap) may.guard
      ∙ ap (λ (b : Bool). if b then (if knows_names heap a then reading_refusal a seat.readings
      else Some StrangerPointer) else Some NoSuchPlace) may.place
      ∙ ap (λ (b : Bool). if b then reading_refusal a seat.readings else Some StrangerPointer) may.names ∙ may.reading

  removal : (n : Name) → WasGiven heap n
      → call_refusal (DeferDestroy (Some g) (ptr_to n)) seat tickets heap
      ≡ (if nat_le (2 ^ 64 - 4097) tickets then Some TicketsOut else None)
  removal n given =
      guarded (if is_removable heap (Some n) then (if nat_le (2 ^ 64 - 4097) tickets then Some TicketsOut else None)
      else Some StrangerPointer)
      ∙ ap (λ (b : Bool). if b then (if nat_le (2 ^ 64 - 4097) tickets then Some TicketsOut else None)
      else Some StrangerPointer) (given_known heap n given)

  -- the Begin of a phase's call is refused as expected alone
  pub begin_expected : {P A : Type 0} (d : Deed P A) → ¬ (IsOver d)
      → ((a : Access) (told : _) (failed : P) → d ≡ Touches a told failed → MayBegin g a heap seat.readings)
      → ((n : Name) (deferred failed : P) → d ≡ Defers n deferred failed → WasGiven heap n)
      → (f : Fault) → refusal (call_by g d) seat tickets heap ≡ Some f → RefusesDeed d f
  begin_expected (Flushes done failed) call may given f why =
      absurd (cc (why, own_fault (Flush (Some g)) refl, guarded None))
  begin_expected (Touches a told failed) call may given f why =
      absurd (cc (why, own_fault (AccessCall a) refl, allowed a (may a told failed refl)))
  begin_expected {P = P} {A = A} (Defers n deferred failed) call may given f why =
      by_tickets {P = P} {A = A} (Defers n deferred failed) tt (nat_le (2 ^ 64 - 4097) tickets) f
      (sym (own_fault (DeferDestroy (Some g) (ptr_to n)) refl ∙ removal n (given n deferred failed refl)) ∙ why)
  begin_expected (Answers a) call may given f why = absurd (call tt)
