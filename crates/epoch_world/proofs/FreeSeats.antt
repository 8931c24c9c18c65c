-- Nobody is at work at a free position.
use Rattle.std.proofs.Common.{◌≡◌, ℕ, true, refl, ap, sym, ◌∙◌}
use Rattle.epoch_laws.specs.declared.step.Reply.{Reply}
use Rattle.epoch_laws.specs.declared.step.Step.{Step}
use Rattle.epoch_laws.specs.declared.step.Word.TheVariants.{Free}
use Rattle.epoch_laws.specs.Kept.{FreeRests, rests}
use Rattle.epoch_laws.specs.Run.{WorldSeat, State, seat_of, Moves, IsFresh}
use Rattle.epoch_laws.proofs.SeatChanges.{SeatChange, Registers, Begins, MachineGoes, Leaves, MachineEnds, JobCalled}
use Rattle.epoch_laws.proofs.SeatChanges.{AccessGoes, Replies, seats_go, each_seat}
use Rattle.epoch_laws.proofs.GuardsStay.{word_begun, word_ended}

-- where a step leaves a position free, nobody is at work there
changed : (old : State) (step : Step) (p : ℕ) (after : WorldSeat) → SeatChange old step p after
    → after.word ≡ Free → rests after.machine.stage ≡ true
changed old step p _ (Registers free) is = absurd (cc (is))
changed old step p _ (Begins c on given) is = absurd (given.taken (sym (word_begun (seat_of old p) c) ∙ is))
changed old step p _ (MachineGoes c w m go drive word kept heard) is = absurd (word is)
changed old step p _ (Leaves go) is = refl
changed old step p _ (MachineEnds c go drive) is = absurd (go.1 (sym (word_ended (seat_of old p) c) ∙ is))
changed old step p _ (JobCalled removes go now) is = absurd (go.1 is)
changed old step p _ (AccessGoes a k found did go now touches) is = absurd (go.1 is)
changed old step p _ (Replies r go now) is = absurd (go.1 is)

-- each step keeps that
pub moves_free : (old new : State) → FreeRests old → (step : Step) (reply : Reply) → Moves old step reply new
    → FreeRests new
moves_free old new h step reply did = each_seat (λ q seat. seat.word ≡ Free → rests seat.machine.stage ≡ true) h
    (changed old step) (seats_go old new step reply did)

-- and it holds of a new world
pub fresh_free : (s : State) → IsFresh s → FreeRests s
fresh_free s fresh p free = ap (λ (seat : WorldSeat). rests seat.machine.stage) (fresh.free p)
