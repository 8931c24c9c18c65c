-- A guard that is out stays so while no call gives it up.
use Rattle.std.proofs.Common.{◌≡◌, ◌≢◌, ℕ, ◌==◌, Bool, true, false, List, [], ◌∷◌, ◌++◌, Option, Some, None, ◌⊎◌, inl}
use Rattle.std.proofs.Common.{inr, refl, ap, sym, subst, ◌∙◌, arith, if◌then◌else◌}
use Rattle.std.proofs.lemmas.Bool.Decides.{nat_tests}
use Rattle.epoch_machine.specs.Machine.{Machine, ended}
use Rattle.epoch_machine.specs.declared.machine.Sizes.{Sizes}
use Rattle.epoch_laws.specs.declared.heap.access.Access.{Access}
use Rattle.epoch_laws.specs.declared.heap.access.Accessed.{Accessed}
use Rattle.epoch_laws.specs.declared.heap.access.Accessed.TheVariants.{Again, Answers, NoSlot}
use Rattle.epoch_laws.specs.declared.heap.access.AccessAnswer.TheVariants.{Absent}
use Rattle.epoch_laws.specs.declared.step.Call.{Call}
use Rattle.epoch_laws.specs.declared.step.Call.TheVariants.{Pin, Unpin, Repin, Pause, Resume, Defer, Flush, Release}
use Rattle.epoch_laws.specs.declared.step.Call.TheVariants.{DeferDestroy, Access as AccessCall}
use Rattle.epoch_laws.specs.declared.step.Deferral.{Deferral}
use Rattle.epoch_laws.specs.declared.step.Progress.{Progress}
use Rattle.epoch_laws.specs.declared.step.Progress.TheVariants.{Idle, Driven, Accesses, Ends}
use Rattle.epoch_laws.specs.declared.heap.access.Ptr.{Ptr}
use Rattle.epoch_laws.specs.declared.step.Reply.TheVariants.{Done}
use Rattle.epoch_laws.specs.Heap.{Heap, null, has_steps}
use Rattle.epoch_laws.specs.Run.{WorldSeat, is_out, without, lowest, under_guard, access_refusal, call_refusal}
use Rattle.epoch_laws.specs.Run.{begun_seat, ended_seat, accessed_seat}
use Rattle.epoch_laws.proofs.SeatLemmas.{guard_given}
use Rattle.epoch_laws.proofs.SeatLinks.{IsDriven, IsLinked}
use Rattle.epoch_laws.proofs.CallsLinked.{ended_linked}
use Rattle.epoch_laws.proofs.SeatsFine.{ends_unguarded}
use Rattle.epoch_laws.proofs.ReachKept.{GivesUp, IsOut, GuardsAccess, Guarded, some_counted}

-- LISTS OF GUARDS

out_kept : (g h : ℕ) (guards : List ℕ) → h ≢ g → is_out g guards ≡ true → is_out g (without h guards) ≡ true
out_kept g h [] ne e = e
out_kept g h (k ∷ ks) ne e = at_head (k == h) refl (out_kept g h ks ne)
  where
    at_head : (b : Bool) → (k == h) ≡ b → (is_out g ks ≡ true → is_out g (without h ks) ≡ true)
        → is_out g (if b then ks else k ∷ without h ks) ≡ true
    at_head true test rest = grind (arith, nat_tests)
    at_head false test rest = at_own (k == g) refl
      where
        at_own : (c : Bool) → (k == g) ≡ c → is_out g (k ∷ without h ks) ≡ true
        at_own true own = grind (arith, nat_tests)
        at_own false own =
            let there : is_out g ks ≡ true = grind (arith, nat_tests) in let r = rest there in grind (arith, nat_tests)

out_pushed : (g h : ℕ) (guards : List ℕ) → is_out g guards ≡ true → is_out g (guards ++ h ∷ []) ≡ true
out_pushed g h [] e = absurd (cc)
out_pushed g h (k ∷ ks) e = at_own (k == g) refl (out_pushed g h ks)
  where
    at_own : (c : Bool) → (k == g) ≡ c → (is_out g ks ≡ true → is_out g (ks ++ h ∷ []) ≡ true)
        → is_out g ((k ∷ ks) ++ h ∷ []) ≡ true
    at_own true own rest = grind (arith, nat_tests)
    at_own false own rest =
        let there : is_out g ks ≡ true = grind (arith, nat_tests) in let r = rest there in grind (arith, nat_tests)

-- A CALL ENDS

-- no call is under way then, the machine has ended its action, and the word stays
abbrev Ended : WorldSeat → WorldSeat → Type 0
Ended old new = (new.progress ≡ Idle) × (new.machine ≡ ended old.machine) × (new.word ≡ old.word)

seat_ended : (seat : WorldSeat) (c : Call) → Ended seat (ended_seat c seat)
seat_ended seat Pin = (refl, refl, refl)
seat_ended seat (Unpin None) = (refl, refl, refl)
seat_ended seat (Unpin (Some h)) = (refl, refl, refl)
seat_ended seat (Pause None) = (refl, refl, refl)
seat_ended seat (Pause (Some h)) = (refl, refl, refl)
seat_ended seat (Resume None) = (refl, refl, refl)
seat_ended seat (Resume (Some h)) = (refl, refl, refl)
seat_ended seat _ = (refl, refl, refl)

-- once a call has ended, its participant has none under way
pub idle_ended : (seat : WorldSeat) (c : Call) → (ended_seat c seat).progress ≡ Idle
idle_ended seat c = (seat_ended seat c).0

-- when a call ends, its machine ends its action
pub machine_ended : (seat : WorldSeat) (c : Call) → (ended_seat c seat).machine ≡ ended seat.machine
machine_ended seat c = (seat_ended seat c).1

-- the end of a call leaves its participant's word as it was
pub word_ended : (seat : WorldSeat) (c : Call) → (ended_seat c seat).word ≡ seat.word
word_ended seat c = (seat_ended seat c).2

-- once a call has ended, no call on cells and pointers is under way whose guard has to be out
pub guarded_ended : (seat : WorldSeat) (c : Call) → Guarded (ended_seat c seat)
guarded_ended seat c = subst (λ (progress : Progress). GuardsAccess progress (ended_seat c seat).guards)
    (sym (idle_ended seat c)) tt

module _ (seat : WorldSeat) (g : ℕ) (out : is_out g seat.guards ≡ true) where
  out_ended : (c : Call) → ¬ (GivesUp g (Driven c)) → is_out g (ended_seat c seat).guards ≡ true
  out_ended Pin kept = out_pushed g (lowest seat.guards) seat.guards out
  out_ended (Unpin None) kept = out
  out_ended (Unpin (Some h)) kept = out_kept g h seat.guards kept out
  out_ended (Pause None) kept = out
  out_ended (Pause (Some h)) kept = out_kept g h seat.guards kept out
  out_ended (Resume None) kept = out
  out_ended (Resume (Some h)) kept = out_pushed g h seat.guards out
  out_ended _ kept = out

  -- a guard that is out stays so at the end of a call that doesn't give it up
  pub is_out_ended : (c : Call) → ¬ (GivesUp g (Driven c)) → IsOut g (ended_seat c seat)
  is_out_ended c kept = (out_ended c kept, λ gives. subst (GivesUp g) (idle_ended seat c) gives)

  -- some guard is counted at the end of a call that doesn't give g up
  pub ends_guarded : (sizes : Sizes) (c : Call) → IsLinked sizes seat → IsDriven c seat.machine seat.guards
      → ¬ (GivesUp g (Driven c)) → ends_unguarded seat.machine ≡ false
  ends_guarded sizes c linked driven kept = some_counted g (ended_seat c seat).guards _
      (ap (λ (m : Machine Deferral). m.guards) (sym (machine_ended seat c))
      ∙ (ended_linked sizes seat linked c driven).counted)
      (out_ended c kept)

-- A CALL BEGINS

-- the word and the jobs stay
abbrev Begun : WorldSeat → WorldSeat → Type 0
Begun old new =
    (new.word ≡ old.word) × (new.machine.held ≡ old.machine.held) × (new.machine.hand ≡ old.machine.hand)

seat_begun : (seat : WorldSeat) (c : Call) → Begun seat (begun_seat c seat)
seat_begun seat (Repin None) = (refl, refl, refl)
seat_begun seat (Repin (Some h)) = (refl, refl, refl)
seat_begun seat (Pause None) = (refl, refl, refl)
seat_begun seat (Pause (Some h)) = (refl, refl, refl)
seat_begun seat (Resume None) = (refl, refl, refl)
seat_begun seat (Resume (Some h)) = (refl, refl, refl)
seat_begun seat (Defer None) = (refl, refl, refl)
seat_begun seat (Defer (Some h)) = (refl, refl, refl)
seat_begun seat (Flush None) = (refl, refl, refl)
seat_begun seat (Flush (Some h)) = (refl, refl, refl)
seat_begun seat (DeferDestroy None ptr) = (refl, refl, refl)
seat_begun seat (DeferDestroy (Some h) ptr) = (refl, refl, refl)
seat_begun seat _ = (refl, refl, refl)

-- a call that begins leaves its participant's word as it was
pub word_begun : (seat : WorldSeat) (c : Call) → (begun_seat c seat).word ≡ seat.word
word_begun seat c = (seat_begun seat c).0

-- a call that begins leaves the jobs that its participant holds
pub held_begun : (seat : WorldSeat) (c : Call) → (begun_seat c seat).machine.held ≡ seat.machine.held
held_begun seat c = (seat_begun seat c).1

-- a call that begins leaves the jobs that its participant has in hand
pub hand_begun : (seat : WorldSeat) (c : Call) → (begun_seat c seat).machine.hand ≡ seat.machine.hand
hand_begun seat c = (seat_begun seat c).2

access_gives : (g : ℕ) (a : Access) (b : Bool) → ¬ (GivesUp g (if b then Accesses a 0 null else Ends (Done Absent)))
access_gives g a true gives = gives
access_gives g a false gives = gives

-- a guard that is out stays so when a call begins that is no Unpin and no Pause of it
pub is_out_begun : (seat : WorldSeat) (g : ℕ) (c : Call) → ¬ ((c ≡ Unpin (Some g)) ⊎ (c ≡ Pause (Some g)))
    → is_out g seat.guards ≡ true → IsOut g (begun_seat c seat)
is_out_begun seat g Pin ne out = (out, λ gives. gives)
is_out_begun seat g (Unpin None) ne out = (out, λ gives. gives)
is_out_begun seat g (Unpin (Some h)) ne out = (out, λ same. ne (inl (ap (λ (k : ℕ). Unpin (Some k)) same)))
is_out_begun seat g (Repin None) ne out = (out, λ gives. gives)
is_out_begun seat g (Repin (Some h)) ne out = (out, λ gives. gives)
is_out_begun seat g (Pause None) ne out = (out, λ gives. gives)
is_out_begun seat g (Pause (Some h)) ne out = (out, λ same. ne (inr (ap (λ (k : ℕ). Pause (Some k)) same)))
is_out_begun seat g (Resume None) ne out = (out, λ gives. gives)
is_out_begun seat g (Resume (Some h)) ne out = (out, λ gives. gives)
is_out_begun seat g (Defer None) ne out = (out, λ gives. gives)
is_out_begun seat g (Defer (Some h)) ne out = (out, λ gives. gives)
is_out_begun seat g (Flush None) ne out = (out, λ gives. gives)
is_out_begun seat g (Flush (Some h)) ne out = (out, λ gives. gives)
is_out_begun seat g Release ne out = (out, λ gives. gives)
is_out_begun seat g (DeferDestroy None ptr) ne out = (out, λ gives. gives)
is_out_begun seat g (DeferDestroy (Some h) ptr) ne out = (out, λ gives. gives)
is_out_begun seat g (AccessCall a) ne out = (out, access_gives g a (has_steps a))

module _ (seat : WorldSeat) (tickets : ℕ) (heap : Heap) where
  access_guarded : (a : Access) (b : Bool) → call_refusal (AccessCall a) seat tickets heap ≡ None
      → GuardsAccess (if b then Accesses a 0 null else Ends (Done Absent)) seat.guards
  access_guarded a false ok = tt
  access_guarded a true ok = λ g guard. guard_given (is_out g seat.guards) _ _
      (subst (λ (under : Option ℕ). under_guard under seat.guards (access_refusal a seat.readings heap) ≡ None) guard
      ok)

  -- a call on cells and pointers that isn't refused begins with its guard out, if it has one
  pub guarded_begun : (c : Call) → call_refusal c seat tickets heap ≡ None → Guarded (begun_seat c seat)
  guarded_begun (Repin None) ok = tt
  guarded_begun (Repin (Some h)) ok = tt
  guarded_begun (Pause None) ok = tt
  guarded_begun (Pause (Some h)) ok = tt
  guarded_begun (Resume None) ok = tt
  guarded_begun (Resume (Some h)) ok = tt
  guarded_begun (Defer None) ok = tt
  guarded_begun (Defer (Some h)) ok = tt
  guarded_begun (Flush None) ok = tt
  guarded_begun (Flush (Some h)) ok = tt
  guarded_begun (DeferDestroy None ptr) ok = tt
  guarded_begun (DeferDestroy (Some h) ptr) ok = tt
  guarded_begun (AccessCall a) ok = access_guarded a (has_steps a) ok
  guarded_begun _ ok = tt

-- A CALL ON CELLS AND POINTERS GOES ON

-- a guard that is out stays so at a step of a call on cells and pointers
pub is_out_accessed : (seat : WorldSeat) (g : ℕ) (a : Access) (k : ℕ) (told : Accessed) → is_out g seat.guards ≡ true
    → IsOut g (accessed_seat a k told seat)
is_out_accessed seat g a k (Again found) out = (out, λ gives. gives)
is_out_accessed seat g a k (Answers answer) out = (out, λ gives. gives)
is_out_accessed seat g a k NoSlot out = (out, λ gives. gives)

-- a call on cells and pointers that goes on has its guard out still
pub guarded_accessed : (seat : WorldSeat) (a : Access) (k : ℕ) (found : Ptr) (told : Accessed)
    → GuardsAccess (Accesses a k found) seat.guards → Guarded (accessed_seat a k told seat)
guarded_accessed seat a k found (Again other) guarded = guarded
guarded_accessed seat a k found (Answers answer) guarded = tt
guarded_accessed seat a k found NoSlot guarded = tt
