-- Every step leaves all participants linked, and in a new world they are.
use Rattle.std.proofs.Common.{◌≡◌, ℕ, refl, ap, sym}
use Rattle.std.proofs.Common.{subst, ◌∙◌}
use Rattle.epoch_machine.specs.declared.machine.Stage.TheVariants.{Idle as Resting}
use Rattle.epoch_machine.specs.Machine.{Machine}
use Rattle.epoch_laws.specs.declared.step.Call.{Call}
use Rattle.epoch_laws.specs.declared.step.Deferral.{Deferral}
use Rattle.epoch_laws.specs.declared.step.Progress.{Progress}
use Rattle.epoch_laws.specs.declared.step.Progress.TheVariants.{Idle, Driven, CallsNow, Ends, Accesses}
use Rattle.epoch_laws.specs.declared.step.Reply.{Reply}
use Rattle.epoch_laws.specs.declared.step.Step.{Step}
use Rattle.epoch_laws.specs.declared.step.Word.{Word}
use Rattle.epoch_laws.specs.Run.{WorldSeat, State, seat_of, with_word}
use Rattle.epoch_laws.specs.Run.{Moves, TakesStep, with_places, IsFresh, accessed_seat}
use Rattle.epoch_laws.proofs.SeatChanges.{SeatChange, Registers, Begins, MachineGoes, Leaves, MachineEnds, JobCalled}
use Rattle.epoch_laws.proofs.SeatChanges.{AccessGoes, Replies, SeatsGo, seats_go, as_many_seats, each_seat}
use Rattle.epoch_machine.specs.declared.machine.Sizes.{Sizes}
use Rattle.epoch_laws.specs.declared.heap.access.Access.{Access}
use Rattle.epoch_laws.specs.declared.heap.access.Accessed.{Accessed}
use Rattle.epoch_laws.specs.declared.heap.access.Accessed.TheVariants.{Answers}
pub use Rattle.epoch_laws.proofs.SeatLinks.{action_of, rests, BeganUnder, IsDriven, IsInStep, IsLinked, AllLinked}
pub use Rattle.epoch_laws.proofs.SeatLinks.{free_linked, follows_at, progress_linked}
use Rattle.epoch_laws.proofs.MachineGoesOn.{GoesOn, answer_goes_on}
pub use Rattle.epoch_laws.proofs.CallsLinked.{length_without, none_out, begun_linked, ended_linked}

-- EACH SEAT THAT IS WRITTEN

module _ (old : State) (p : ℕ) (h : AllLinked old) where
  abbrev seat : WorldSeat
  seat = seat_of old p

  abbrev m : Machine Deferral
  m = seat.machine

  follows : (progress : Progress) → seat.progress ≡ progress → IsInStep progress m seat.guards
  follows progress e = follows_at old.sizes seat (h.seats p) progress e

  -- the machine goes on with the call that it drives
  goes_on : (c : Call) → seat.progress ≡ Driven c → (w : Word) (n : Machine Deferral) → GoesOn m n
      → IsLinked old.sizes (with_word seat w n)
  goes_on c drive w n on = record {
    sized = on.sized ∙ (h.seats p).sized;
    counted = on.counted ∙ (h.seats p).counted;
    follows = subst (λ (progress : Progress). IsInStep progress n seat.guards) (sym drive) then_driven;
  }
    where
      now : IsDriven c m seat.guards
      now = follows (Driven c) drive

      then_driven : IsDriven c n seat.guards
      then_driven = record { under_way = on.under_way; action = on.action ∙ now.action; under = now.under }

  -- a call on cells and pointers goes on
  accessed : (a : Access) (k : ℕ) (told : Accessed) → m.stage ≡ Resting
      → IsLinked old.sizes (accessed_seat a k told seat)
  accessed a k (Answers answer) idle =
      record { sized = (h.seats p).sized; counted = (h.seats p).counted; follows = (idle, (_, refl)) }
  accessed a k _ idle = record { sized = (h.seats p).sized; counted = (h.seats p).counted; follows = idle }

  changed : (step : Step) (after : WorldSeat) → SeatChange old step p after → IsLinked old.sizes after
  changed step _ (Registers free) = record { sized = refl; counted = refl; follows = refl }
  changed step _ (Begins c on given) =
      begun_linked old.sizes seat (h.seats p) c old.tickets old.heap given.idle given.own
  changed step _ (MachineGoes c w n go drive word kept heard) =
      goes_on c drive w n (answer_goes_on m m.stage n (follows (Driven c) drive).under_way kept heard)
  changed step _ (Leaves go) = free_linked old.sizes
  changed step _ (MachineEnds c go drive) = ended_linked old.sizes seat (h.seats p) c (follows (Driven c) drive)
  changed step _ (JobCalled removes go now) =
      progress_linked old.sizes seat (h.seats p) _ (follows (CallsNow removes) now, (_, refl))
  changed step _ (AccessGoes a k found did go now touches) = accessed a k did.told (follows (Accesses a k found) now)
  changed step _ (Replies r go now) = progress_linked old.sizes seat (h.seats p) Idle (follows (Ends r) now).0

-- EVERY STEP

pub moved_linked : (old new : State) (step : Step) (reply : Reply) → AllLinked old → Moves old step reply new
    → AllLinked new
moved_linked old new step reply h did = record {
  positions = ap (λ (z : Sizes). z.positions) goes.sizes ∙ h.positions ∙ sym (as_many_seats goes);
  seats = λ q. subst (λ (z : Sizes). IsLinked z (seat_of new q)) (sym goes.sizes)
      (each_seat (λ q. IsLinked old.sizes) h.seats (λ p. changed old p h step) goes q);
}
  where
    goes : SeatsGo old new step
    goes = seats_go old new step reply did

-- every step keeps all seats linked
pub step_linked : (old new : State) (step : Step) (reply : Reply) → AllLinked old → TakesStep old step reply new
    → AllLinked new
step_linked old new step reply h did =
    let aside : AllLinked (with_places new old.places old.seen old.ahead old.room) =
    moved_linked old _ step reply h did.0 in
    record { positions = aside.positions; seats = aside.seats }

-- in a new world they are
pub fresh_linked : (s : State) → IsFresh s → AllLinked s
fresh_linked s fresh = record {
  positions = fresh.sized;
  seats = λ p. subst (λ (seat : WorldSeat). IsLinked s.sizes seat) (sym (fresh.free p)) (free_linked s.sizes);
}
