-- A seat after a write, the seats beside it, and what an accepted call knows of its seat.
use Rattle.std.proofs.Common.{◌≡◌, ◌≢◌, ℕ, ◌<◌, ◌≤◌, Bool, true, false, length, Option, Some, None, ◌⊎◌, inl, inr, refl}
use Rattle.std.proofs.Common.{ap, arith, if◌then◌else◌, get_or-set_same, get_or-set_other}
use Rattle.std.proofs.lemmas.List.{get_or_past}
use Rattle.epoch_cells.specs.declared.fault.Fault.{Fault}
use Rattle.epoch_cells.specs.declared.fault.Fault.TheVariants.{NotRegistered, Busy}
use Rattle.epoch_laws.specs.declared.step.Call.{Call}
use Rattle.epoch_laws.specs.declared.step.Word.TheVariants.{Free}
use Rattle.epoch_laws.specs.declared.step.Progress.{Progress}
use Rattle.epoch_laws.specs.declared.step.Progress.TheVariants.{Idle}
use Rattle.epoch_laws.specs.Run.{WorldSeat, State, seat_of, position_word, with_seat, free_seat, is_free, is_idle}
use Rattle.epoch_laws.specs.Run.{waits, call_refusal, refusal}
use Rattle.epoch_laws.specs.Heap.{Heap}

-- at a position within the table, the seat that was written there is found
pub seat_written : (s : State) (p : ℕ) (seat : WorldSeat) → p < length s.seats → seat_of (with_seat s p seat) p ≡ seat
seat_written s p seat lt = get_or-set_same s.seats p seat (free_seat s.sizes) lt

-- a write at one position leaves the seats at all others
pub seat_other : (s : State) (p q : ℕ) (seat : WorldSeat) → q ≢ p → seat_of (with_seat s p seat) q ≡ seat_of s q
seat_other s p q seat ne = get_or-set_other s.seats p q seat (free_seat s.sizes) ne

-- past the table there is only the default
pub seat_past : (s : State) (p : ℕ) → length s.seats ≤ p → seat_of s p ≡ free_seat s.sizes
seat_past s p le = get_or_past s.seats p (free_seat s.sizes) le

-- a position whose word isn't free is within the table
pub seat_there : (s : State) (p : ℕ) → position_word s p ≢ Free → p < length s.seats
seat_there s p taken = elim (split (length s.seats) p) [
  | inl le ↦ absurd (taken (ap (λ (seat : WorldSeat). seat.word) (seat_past s p le)))
  | inr lt ↦ lt
]
  where
    split : (a b : ℕ) → (a ≤ b) ⊎ (b < a)
    split a b = grind arith

-- the same position, or another one
pub same_or_other : (q p : ℕ) → (q ≡ p) ⊎ (q ≢ p)
same_or_other q p = grind arith

-- What holds where a call isn't refused.
pub record IsAccepted (c : Call) (seat : WorldSeat) (tickets : ℕ) (heap : Heap) : Type 0 where
  pub taken : seat.word ≢ Free
  pub idle : seat.progress ≡ Idle
  pub awake : waits c seat.paused ≡ false  -- who is paused only resumes
  pub own : call_refusal c seat tickets heap ≡ None

idle_is : (progress : Progress) → is_idle progress ≡ true → progress ≡ Idle
idle_is Idle h = refl
idle_is _ h = absurd (cc)

-- what is tested of a seat that is taken and idle, and of one that is taken
abbrev waits_or_own : Call → WorldSeat → ℕ → Heap → Option Fault
waits_or_own c seat tickets heap = if waits c seat.paused then Some Busy else call_refusal c seat tickets heap

abbrev idle_or_busy : Call → WorldSeat → ℕ → Heap → Option Fault
idle_or_busy c seat tickets heap = if is_idle seat.progress then waits_or_own c seat tickets heap else Some Busy

-- a call that isn't refused has no fault, and its participant is registered, idle, and not paused unless it resumes
pub begin_given : (c : Call) (seat : WorldSeat) (tickets : ℕ) (heap : Heap) → refusal c seat tickets heap ≡ None
    → IsAccepted c seat tickets heap
begin_given c seat tickets heap e = at_word (is_free seat.word) refl e
  where
    at_pause : (b : Bool) → waits c seat.paused ≡ b → is_idle seat.progress ≡ true → is_free seat.word ≡ false
        → (if b then Some Busy else call_refusal c seat tickets heap) ≡ None → IsAccepted c seat tickets heap
    at_pause true waiting idle taken h = absurd (cc)
    at_pause false waiting idle taken h = record {
      taken = λ free. absurd (cc (taken, ap is_free free));
      idle = idle_is seat.progress idle;
      awake = waiting;
      own = h;
    }

    at_progress : (b : Bool) → is_idle seat.progress ≡ b → is_free seat.word ≡ false
        → (if b then waits_or_own c seat tickets heap else Some Busy) ≡ None → IsAccepted c seat tickets heap
    at_progress true idle taken h = at_pause (waits c seat.paused) refl idle taken h
    at_progress false idle taken h = absurd (cc)

    at_word : (b : Bool) → is_free seat.word ≡ b
        → (if b then Some NotRegistered else idle_or_busy c seat tickets heap) ≡ None → IsAccepted c seat tickets heap
    at_word true free h = absurd (cc)
    at_word false taken h = at_progress (is_idle seat.progress) refl taken h

-- a test that, where it fails, refuses with a fault: nothing was refused, so it holds
pub guard_given : (b : Bool) (f : Fault) (o : Option Fault) → (if b then o else Some f) ≡ None → b ≡ true
guard_given true f o h = refl
guard_given false f o h = absurd (cc)
