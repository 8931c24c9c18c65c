-- No participant has more than 64 guards out, its paused one among them.
use Rattle.std.proofs.Common.{◌≡◌, ℕ, ◌+◌, ◌≤◌, ◌==◌, Bool, true, false, List, [], ◌∷◌, length, Option, Some}
use Rattle.std.proofs.Common.{None, refl, ap, sym, subst, arith, if◌then◌else◌}
use Rattle.std.proofs.lemmas.Bool.Decides.{nat_tests}
use Rattle.std.proofs.lemmas.List.{length-append}
use Rattle.epoch_cells.specs.declared.fault.Fault.TheVariants.{StrangerGuard}
use Rattle.epoch_machine.specs.declared.machine.Sizes.{Sizes}
use Rattle.epoch_machine.specs.Machine.{Machine}
use Rattle.epoch_laws.specs.declared.step.Call.{Call}
use Rattle.epoch_laws.specs.declared.step.Call.TheVariants.{Pin, Unpin, Repin, Pause, Resume, Defer, Flush, Release}
use Rattle.epoch_laws.specs.declared.step.Call.TheVariants.{DeferDestroy, Access as AccessCall}
use Rattle.epoch_laws.specs.declared.step.Step.{Step}
use Rattle.epoch_laws.specs.declared.step.Reply.{Reply}
use Rattle.epoch_laws.specs.declared.step.Deferral.{Deferral}
use Rattle.epoch_laws.specs.declared.step.Progress.{Progress}
use Rattle.epoch_laws.specs.declared.step.Progress.TheVariants.{Idle, Driven, Ends, Accesses}
use Rattle.epoch_laws.specs.Run.{WorldSeat, State, seat_of}
use Rattle.epoch_laws.specs.Run.{free_seat, lowest, waits, resume_refusal, call_refusal, begun_seat}
use Rattle.epoch_laws.specs.Run.{ended_seat, Moves, IsFresh}
use Rattle.epoch_laws.specs.Run.{accessed_seat}
use Rattle.epoch_laws.specs.Kept.{IsDriven, AllLinked, paused_count, Awake, HasGuardRoom, AllRoomy}
use Rattle.epoch_laws.proofs.SeatChanges.{SeatChange, Registers, Begins, MachineGoes, Leaves, MachineEnds, JobCalled}
use Rattle.epoch_laws.proofs.SeatChanges.{AccessGoes, Replies, seats_go, each_seat}
use Rattle.epoch_laws.proofs.Linked.{length_without, follows_at}
use Rattle.epoch_laws.specs.declared.heap.access.Access.{Access}
use Rattle.epoch_laws.specs.declared.heap.access.Accessed.{Accessed}
use Rattle.epoch_laws.specs.declared.heap.access.Accessed.TheVariants.{Again}
use Rattle.epoch_laws.specs.declared.heap.access.AccessAnswer.TheVariants.{Absent}
use Rattle.epoch_laws.specs.declared.step.Reply.TheVariants.{Done}
use Rattle.epoch_laws.specs.Heap.{Heap, null, has_steps}

none_waits : (paused : Option ℕ) (b : Bool) → waits Pin paused ≡ false → paused ≡ None
none_waits None b h = refl
none_waits (Some g) b h = absurd (cc)

same_guard : (g h : ℕ) (b : Bool) → (g == h) ≡ b → (if b then None else Some StrangerGuard) ≡ None → g ≡ h
same_guard g h true test given = grind (arith, nat_tests)
same_guard g h false test given = absurd (cc)

resumed : (g : ℕ) (paused : Option ℕ) → resume_refusal (Some g) paused ≡ None → paused ≡ Some g
resumed g None given = absurd (cc)
resumed g (Some h) given = sym (ap (λ (k : ℕ). Some k) (same_guard g h (g == h) refl given))

-- how a call begins and ends
module _ (seat : WorldSeat) (h : HasGuardRoom seat) where
  at_progress : (progress : Progress) → Awake progress seat.paused → HasGuardRoom (record seat { progress = progress })
  at_progress progress awake = record { few = h.few; awake = awake }

  accesses : (a : Access) (b : Bool)
      → HasGuardRoom (record seat { progress = if b then Accesses a 0 null else Ends (Done Absent) })
  accesses a true = at_progress _ tt
  accesses a false = at_progress _ tt

  -- a call that may begin has room for the guard that it will add
  pub begun_room : (c : Call) (tickets : ℕ) (heap : Heap)
      → waits c seat.paused ≡ false → call_refusal c seat tickets heap ≡ None → HasGuardRoom (begun_seat c seat)
  begun_room Pin n heap awake given = record { few = h.few; awake = none_waits seat.paused true awake }
  begun_room (Unpin None) n heap awake given = absurd (cc)
  begun_room (Unpin (Some g)) n heap awake given = record { few = h.few; awake = none_waits seat.paused true awake }
  begun_room (Repin None) n heap awake given = at_progress _ tt
  begun_room (Repin (Some g)) n heap awake given = record { few = h.few; awake = none_waits seat.paused true awake }
  begun_room (Pause None) n heap awake given = at_progress _ tt
  begun_room (Pause (Some g)) n heap awake given = record { few = h.few; awake = none_waits seat.paused true awake }
  begun_room (Resume None) n heap awake given = at_progress _ tt
  begun_room (Resume (Some g)) n heap awake given = record { few = h.few; awake = resumed g seat.paused given }
  begun_room (Defer None) n heap awake given = at_progress _ tt
  begun_room (Defer (Some g)) n heap awake given = record { few = h.few; awake = none_waits seat.paused true awake }
  begun_room (Flush None) n heap awake given = at_progress _ tt
  begun_room (Flush (Some g)) n heap awake given = record { few = h.few; awake = none_waits seat.paused true awake }
  begun_room Release n heap awake given = record { few = h.few; awake = none_waits seat.paused true awake }
  begun_room (DeferDestroy None ptr) n heap awake given = at_progress _ tt
  begun_room (DeferDestroy (Some g) ptr) n heap awake given =
      record { few = h.few; awake = none_waits seat.paused true awake }
  begun_room (AccessCall a) n heap awake given = accesses a (has_steps a)

  counted : (guards : List ℕ) (paused : Option ℕ) (m : Machine Deferral) → length guards + paused_count paused ≤ 64
      → HasGuardRoom (record seat { machine = m; progress = Idle; guards = guards; paused = paused })
  counted guards paused m few = record { few = few; awake = tt }

  -- so the guards stay few where it ends
  pub ended_room : (c : Call) → Awake (Driven c) seat.paused → IsDriven c seat.machine seat.guards
      → HasGuardRoom (ended_seat c seat)
  ended_room Pin awake d =
      counted _ _ _ (omega (arith, d.under, ap paused_count awake, length-append seat.guards (lowest seat.guards ∷ [])))
  ended_room (Unpin None) awake d = absurd d.under
  ended_room (Unpin (Some g)) awake d = counted _ _ _ (omega (arith, h.few, length_without g seat.guards d.under))
  ended_room (Pause None) awake d = absurd d.under
  ended_room (Pause (Some g)) awake d = counted _ _ _ (omega (arith, h.few, length_without g seat.guards d.under))
  ended_room (Resume None) awake d = absurd d.under
  ended_room (Resume (Some g)) awake d =
      counted _ _ _ (omega (arith, h.few, ap paused_count awake, length-append seat.guards (g ∷ [])))
  ended_room (AccessCall a) awake d = absurd d.under
  ended_room _ awake d = counted _ _ _ h.few

free_room : (sizes : Sizes) → HasGuardRoom (free_seat sizes)
free_room sizes = record { few = omega arith; awake = tt }

-- how a step leaves the seat that it writes
changed : (old : State) (linked : AllLinked old) (h : AllRoomy old) (step : Step) (p : ℕ) (after : WorldSeat)
    → SeatChange old step p after → HasGuardRoom after
changed old linked h step p _ (Registers free) = record { few = omega arith; awake = tt }
changed old linked h step p _ (Begins c on given) =
    begun_room (seat_of old p) (h p) c old.tickets old.heap given.awake given.own
changed old linked h step p _ (MachineGoes c w m go drive word kept heard) =
    record { few = (h p).few; awake = (h p).awake }
changed old linked h step p _ (Leaves go) = free_room old.sizes
changed old linked h step p _ (MachineEnds c go drive) = ended_room (seat_of old p) (h p) c
    (subst (λ (now : Progress). Awake now (seat_of old p).paused) drive (h p).awake)
    (follows_at old.sizes (seat_of old p) (linked.seats p) (Driven c) drive)
changed old linked h step p _ (JobCalled removes go now) = at_progress (seat_of old p) (h p) _ tt
changed old linked h step p _ (AccessGoes a k found did go now touches) = accessed did.told
  where
    accessed : (told : Accessed) → HasGuardRoom (accessed_seat a k told (seat_of old p))
    accessed (Again other) = record { few = (h p).few; awake = tt }
    accessed _ = record { few = (h p).few; awake = tt }
changed old linked h step p _ (Replies r go now) = at_progress (seat_of old p) (h p) _ tt

-- each step keeps that
pub moves_room : (old new : State) (reply : Reply) → AllLinked old → AllRoomy old → (step : Step)
    → Moves old step reply new → AllRoomy new
moves_room old new reply linked h step did =
    each_seat (λ q. HasGuardRoom) h (changed old linked h step) (seats_go old new step reply did)

-- and it holds of a new world
pub fresh_room : (s : State) → IsFresh s → AllRoomy s
fresh_room s fresh p = subst HasGuardRoom (sym (fresh.free p)) (free_room s.sizes)
