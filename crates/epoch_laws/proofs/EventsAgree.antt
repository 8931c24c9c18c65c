-- What a log tells of a participant, and how it agrees with the seat.
use Rattle.std.proofs.Common.{◌≡◌, ◌≢◌, ℕ, ◌<◌, ◌==◌, true, false, [], length, Option, Some, None, inl, inr, sym, subst}
use Rattle.std.proofs.Common.{arith, if◌then◌else◌}
use Rattle.std.proofs.lemmas.Bool.Decides.{nat_tests}
use Rattle.epoch_machine.specs.Machine.{Machine}
use Rattle.epoch_laws.specs.declared.step.Call.{Call}
use Rattle.epoch_laws.specs.declared.step.Call.TheVariants.{Access as AccessCall}
use Rattle.epoch_laws.specs.declared.step.Deferral.{Deferral}
use Rattle.epoch_laws.specs.declared.step.Reply.{Reply}
use Rattle.epoch_laws.specs.declared.step.Reply.TheVariants.{Done}
use Rattle.epoch_laws.specs.declared.step.Word.TheVariants.{Free}
use Rattle.epoch_laws.specs.declared.step.Progress.{Progress}
use Rattle.epoch_laws.specs.declared.step.Progress.TheVariants.{Idle, Driven, CallsNow, Ends, Accesses}
use Rattle.epoch_laws.specs.Run.{WorldSeat, State, seat_of, with_seat}
use Rattle.epoch_laws.specs.Lawful.{Told, after_refused, after_done, HasTold, AnswerFits, MayCallNow}
use Rattle.epoch_laws.proofs.SeatLemmas.{seat_written, seat_other, same_or_other}
use Rattle.epoch_laws.proofs.GuardLists.{has_any}
use Rattle.epoch_laws.proofs.ToldAtStages.{ToldAt}
use Rattle.epoch_laws.proofs.AccessesTold.{Named}
use Rattle.epoch_laws.specs.declared.heap.access.AccessAnswer.{AccessAnswer}

-- outside a driven call a participant is pinned where a guard is counted
abbrev pub PinnedByGuards : Told → Type 0
PinnedByGuards t = t.pinned ≡ has_any t.guards

-- a call that is done, whatever it answers, leaves the position, the guards and the paused one
abbrev pub LeavesAll : Told → Type 0
LeavesAll t = (answer : AccessAnswer) → after_done t.call answer t ≡ after_refused t

-- the call is done with its own kind of answer
abbrev pub ReplyFits : Option Call → Reply → Type 0
ReplyFits call (Done answer) = AnswerFits call answer
ReplyFits call _ = ⊥

abbrev pub ToldOf : Told → Machine Deferral → Progress → Type 0
ToldOf t m Idle = (t.call ≡ None) × PinnedByGuards t
ToldOf t m (Driven c) = (t.call ≡ Some c) × ToldAt t c m.full m.stage
ToldOf t m (CallsNow removes) = MayCallNow t.call × (t.did_call_now ≡ false) × PinnedByGuards t
ToldOf t m (Accesses a k found) = (t.call ≡ Some (AccessCall a)) × Named a × PinnedByGuards t
ToldOf t m (Ends reply) = HasTold t.call t × ReplyFits t.call reply × LeavesAll t × PinnedByGuards t

-- what is told of a position that nobody has taken
pub record IsAway (t : Told) : Type 0 where
  pub registered : t.registered ≡ false
  pub call : t.call ≡ None
  pub guards : t.guards ≡ []
  pub paused : t.paused ≡ None
  pub pinned : t.pinned ≡ false

-- what a log tells of a participant agrees with its seat
pub record Agrees (t : Told) (seat : WorldSeat) : Type 0 where
  pub guards : t.guards ≡ seat.guards
  pub paused : t.paused ≡ seat.paused
  pub told : ToldOf t seat.machine seat.progress
  pub here : seat.word ≢ Free → t.registered ≡ true
  pub away : seat.word ≡ Free → IsAway t

abbrev pub AllAgree : State → (ℕ → Told) → Type 0
AllAgree s told = (q : ℕ) → Agrees (told q) (seat_of s q)

-- what is told of p is changed by f, and nothing that is told of others
by_position : (told : ℕ → Told) (f : Told → Told) (p : ℕ) (seats : ℕ → WorldSeat)
    → Agrees (f (told p)) (seats p)
    → ((q : ℕ) → q ≢ p → Agrees (told q) (seats q))
    → (q : ℕ) → Agrees (if p == q then f (told q) else told q) (seats q)
by_position told f p seats own others q = elim (same_or_other q p) [
  | inl same ↦ subst (λ (k : ℕ). Agrees (if p == k then f (told k) else told k) (seats k)) (sym same)
      (subst (λ (t : Told). Agrees t (seats p)) (sym (at_same (f (told p)) (told p))) own)
  | inr ne ↦ subst (λ (t : Told). Agrees t (seats q)) (sym (at_other (f (told q)) (told q) ne)) (others q ne)
]
  where
    at_same : (one other : Told) → (if p == p then one else other) ≡ one
    at_same one other = grind (arith, nat_tests)

    at_other : (one other : Told) → q ≢ p → (if p == q then one else other) ≡ other
    at_other one other ne = grind (arith, nat_tests)

-- the seat of p is written
pub seat_agrees : (s : State) (told : ℕ → Told) (f : Told → Told) (p : ℕ) (seat : WorldSeat)
    → AllAgree s told
    → p < length s.seats
    → Agrees (f (told p)) seat
    → (q : ℕ) → Agrees (if p == q then f (told q) else told q) (seat_of (with_seat s p seat) q)
seat_agrees s told f p seat h there own = by_position told f p (seat_of (with_seat s p seat))
    (subst (λ (at : WorldSeat). Agrees (f (told p)) at) (sym (seat_written s p seat there)) own)
    (λ q ne. subst (λ (at : WorldSeat). Agrees (told q) at) (sym (seat_other s p q seat ne)) (h q))

-- no seat is written
pub told_agrees : (s : State) (told : ℕ → Told) (f : Told → Told) (p : ℕ)
    → AllAgree s told
    → Agrees (f (told p)) (seat_of s p)
    → (q : ℕ) → Agrees (if p == q then f (told q) else told q) (seat_of s q)
told_agrees s told f p h own = by_position told f p (seat_of s) own (λ q ne. h q)
