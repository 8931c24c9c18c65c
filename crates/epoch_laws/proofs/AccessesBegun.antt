-- Where a call on cells and pointers that is under way comes from: it was under way before, or has just begun.
use Rattle.std.proofs.Common.{◌≡◌, ℕ, Bool, true, false, Some, None, ◌⊎◌, inl, inr}
use Rattle.std.proofs.Common.{ap, sym, subst, ◌∙◌, if◌then◌else◌}
use Rattle.epoch_laws.specs.declared.heap.access.Access.{Access}
use Rattle.epoch_laws.specs.declared.heap.access.Accessed.{Accessed}
use Rattle.epoch_laws.specs.declared.heap.access.Accessed.TheVariants.{Again}
use Rattle.epoch_laws.specs.declared.heap.access.AccessAnswer.TheVariants.{Absent}
use Rattle.epoch_laws.specs.declared.step.Call.{Call}
use Rattle.epoch_laws.specs.declared.step.Call.TheVariants.{Repin, Pause, Resume, Defer, Flush}
use Rattle.epoch_laws.specs.declared.step.Call.TheVariants.{DeferDestroy, Access as AccessCall}
use Rattle.epoch_laws.specs.declared.step.Progress.{Progress}
use Rattle.epoch_laws.specs.declared.step.Progress.TheVariants.{Accesses, Ends}
use Rattle.epoch_laws.specs.declared.step.Reply.{Reply}
use Rattle.epoch_laws.specs.declared.step.Reply.TheVariants.{Done}
use Rattle.epoch_laws.specs.declared.step.Step.{Step}
use Rattle.epoch_laws.specs.declared.step.Step.TheVariants.{Begin}
use Rattle.epoch_laws.specs.Heap.{null, has_steps}
use Rattle.epoch_laws.specs.Run.{WorldSeat, State, seat_of}
use Rattle.epoch_laws.specs.Run.{call_refusal, begun_seat, progress_after}
use Rattle.epoch_laws.specs.Run.{Moves}
use Rattle.epoch_laws.proofs.SeatChanges.{SeatChange, Begins, MachineGoes, MachineEnds, AccessGoes, seats_go}
use Rattle.epoch_laws.proofs.SeatChanges.{each_seat}
use Rattle.epoch_laws.proofs.GuardsStay.{idle_ended}

-- whether it is this call that is under way
abbrev pub IsAccess : Access → Progress → Type 0
IsAccess a (Accesses b k found) = b ≡ a
IsAccess a _ = ⊥

begun_access : (a : Access) (c : Call) (seat : WorldSeat) → IsAccess a (begun_seat c seat).progress → c ≡ AccessCall a
begun_access a (Repin (Some g)) seat is = absurd is
begun_access a (Pause (Some g)) seat is = absurd is
begun_access a (Resume (Some g)) seat is = absurd is
begun_access a (Defer (Some g)) seat is = absurd is
begun_access a (Flush (Some g)) seat is = absurd is
begun_access a (DeferDestroy (Some g) ptr) seat is = absurd is
begun_access a (AccessCall b) seat is = ap AccessCall (at_test (has_steps b) is)
  where
    at_test : (t : Bool) → IsAccess a (if t then Accesses b 0 null else Ends (Done Absent)) → b ≡ a
    at_test true is = is
    at_test false is = absurd is
begun_access a _ seat is = absurd is

-- q was at it before the step, or begins it by the step, which isn't refused
abbrev pub WasAccess : State → Step → ℕ → Access → Type 0
WasAccess old step q a =
    IsAccess a (seat_of old q).progress
    ⊎ ((step ≡ Begin q (AccessCall a)) × (call_refusal (AccessCall a) (seat_of old q) old.tickets old.heap ≡ None))

accessed : (a b : Access) (k : ℕ) (told : Accessed) → IsAccess a (progress_after b k told) → b ≡ a
accessed a b k (Again found) is = is
accessed a b k _ is = absurd is

-- where the call is under way at a seat that a step writes, it was so before the step, or begins by it
changed : (a : Access) (old : State) (step : Step) (p : ℕ) (after : WorldSeat) → SeatChange old step p after
    → IsAccess a after.progress → WasAccess old step p a
changed a old step p _ (Begins c on given) is = let call = begun_access a c (seat_of old p) is in
    inr (
      on ∙ ap (Begin p) call,
      subst (λ (d : Call). call_refusal d (seat_of old p) old.tickets old.heap ≡ None) call given.own,
    )
changed a old step p _ (MachineGoes c w m go drive word kept heard) is = inl is
changed a old step p _ (AccessGoes b k found did go now touches) is =
    inl (subst (IsAccess a) (sym now) (accessed a b k did.told is))
changed a old step p _ (MachineEnds c go drive) is = absurd (subst (IsAccess a) (idle_ended (seat_of old p) c) is)
changed a old step p _ _ is = absurd is

-- a call on cells and pointers that is under way after a step was so before it, or begins by it and isn't refused
pub access_begun : (old new : State) (step : Step) (reply : Reply) (a : Access) → Moves old step reply new
    → (q : ℕ) → IsAccess a (seat_of new q).progress → WasAccess old step q a
access_begun old new step reply a did =
    each_seat (λ q seat. IsAccess a seat.progress → WasAccess old step q a) (λ q is. inl is)
    (changed a old step) (seats_go old new step reply did)
