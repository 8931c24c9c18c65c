-- What a world keeps between any two steps, so that its code never runs out of range.
use Rattle.std.specs.Prelude.{◌≡◌, ℕ, ◌+◌, ◌-◌, ◌^◌, ◌<◌, ◌≤◌, Bool, true, false, List, length, Option, Some, None}
use Rattle.std.specs.Prelude.{sum_by, if◌then◌else◌}
use Rattle.epoch_machine.specs.declared.machine.Action.{Action}
use Rattle.epoch_machine.specs.declared.machine.Action.TheVariants.{Pin as PinAction, Unpin as UnpinAction}
use Rattle.epoch_machine.specs.declared.machine.Action.TheVariants.{Repin as RepinAction, Defer as DeferAction}
use Rattle.epoch_machine.specs.declared.machine.Action.TheVariants.{Flush as FlushAction, Release as ReleaseAction}
use Rattle.epoch_machine.specs.declared.machine.Sizes.{Sizes}
use Rattle.epoch_machine.specs.declared.machine.Stage.{Stage}
use Rattle.epoch_machine.specs.declared.machine.Stage.TheVariants.{Idle as Resting, Keep, End}
use Rattle.epoch_machine.specs.Machine.{Machine}
pub use Rattle.epoch_machine.specs.Machine.{rests}
use Rattle.epoch_laws.specs.declared.step.Call.{Call}
use Rattle.epoch_laws.specs.declared.step.Call.TheVariants.{Pin, Unpin, Repin, Pause, Resume, Defer, Flush, Release}
use Rattle.epoch_laws.specs.declared.step.Call.TheVariants.{DeferDestroy, Access as AccessCall}
use Rattle.epoch_laws.specs.declared.step.Deferral.{Deferral}
use Rattle.epoch_laws.specs.declared.step.Progress.{Progress}
use Rattle.epoch_laws.specs.declared.step.Progress.TheVariants.{Driven, Ends}
use Rattle.epoch_laws.specs.declared.step.Reply.TheVariants.{Done}
use Rattle.epoch_laws.specs.Readings.{KeepsReadings}
use Rattle.epoch_laws.specs.Run.{Bag, WorldSeat, State, Ending, Emptying, seat_of, position_word, is_out}
use Rattle.epoch_laws.specs.declared.step.Word.TheVariants.{Free}
use Rattle.epoch_laws.specs.declared.heap.access.AccessAnswer.{AccessAnswer}

-- CALLS, MACHINES AND GUARDS SAY THE SAME

-- the action that drives a call
abbrev pub action_of : Call → Action
action_of Pin = PinAction
action_of (Unpin g) = UnpinAction
action_of (Repin g) = RepinAction
action_of (Pause g) = UnpinAction
action_of (Resume g) = PinAction
action_of (Defer g) = DeferAction
action_of (Flush g) = FlushAction
action_of Release = ReleaseAction
action_of (DeferDestroy g ptr) = DeferAction
action_of (AccessCall a) = PinAction  -- it drives none

-- what the Begin of a driven call found of the guards, which stay as they are until the call ends
abbrev pub BeganUnder : Call → List ℕ → Type 0
BeganUnder Pin guards = length guards < 64
BeganUnder (Resume (Some g)) guards = Unit {0}
BeganUnder (Unpin (Some g)) guards = is_out g guards ≡ true
BeganUnder (Repin (Some g)) guards = is_out g guards ≡ true
BeganUnder (Pause (Some g)) guards = is_out g guards ≡ true
BeganUnder (Defer (Some g)) guards = is_out g guards ≡ true
BeganUnder (Flush (Some g)) guards = is_out g guards ≡ true
BeganUnder Release guards = length guards ≡ 0
BeganUnder (DeferDestroy (Some g) ptr) guards = is_out g guards ≡ true
BeganUnder _ guards = ⊥

pub record IsDriven (c : Call) (m : Machine Deferral) (guards : List ℕ) : Type 0 where
  pub under_way : rests m.stage ≡ false
  pub action : m.action ≡ action_of c
  pub under : BeganUnder c guards

-- the machine rests but where it drives the call under way; a call that it doesn't drive is done at its end
abbrev pub IsInStep : Progress → Machine Deferral → List ℕ → Type 0
IsInStep (Driven c) m guards = IsDriven c m guards
IsInStep (Ends reply) m guards = (m.stage ≡ Resting) × ((answer : AccessAnswer) × (reply ≡ Done answer))
IsInStep _ m guards = m.stage ≡ Resting

pub record IsLinked (sizes : Sizes) (seat : WorldSeat) : Type 0 where
  pub sized : seat.machine.sizes ≡ sizes
  pub counted : seat.machine.guards ≡ length seat.guards
  pub follows : IsInStep seat.progress seat.machine seat.guards

pub record AllLinked (s : State) : Type 0 where
  pub positions : s.sizes.positions ≡ length s.seats
  pub seats : (p : ℕ) → IsLinked s.sizes (seat_of s p)

-- GUARDS ARE FEW

abbrev pub paused_count : Option ℕ → ℕ
paused_count None = 0
paused_count (Some g) = 1

-- who is paused resumes, and does nothing else
abbrev pub Awake : Progress → Option ℕ → Type 0
Awake (Driven (Resume (Some g))) paused = paused ≡ Some g
Awake (Driven c) paused = paused ≡ None
Awake _ paused = Unit {0}

pub record HasGuardRoom (seat : WorldSeat) : Type 0 where
  pub few : length seat.guards + paused_count seat.paused ≤ 64
  pub awake : Awake seat.progress seat.paused

abbrev pub AllRoomy : State → Type 0
AllRoomy s = (p : ℕ) → HasGuardRoom (seat_of s p)

-- TICKETS ARE FEW

-- an action still has a step to make
abbrev pub is_busy : Stage → Bool
is_busy Resting = false
is_busy End = false
is_busy _ = true

-- a deferral that is under way, and before its end, may still take a ticket
abbrev pub pending_at : Action → Stage → ℕ
pending_at DeferAction s = if is_busy s then 1 else 0
pending_at _ s = 0

abbrev pub pending : WorldSeat → ℕ
pending seat = pending_at seat.machine.action seat.machine.stage

-- only a deferral keeps a job
abbrev pub KeepsAt : Action → Stage → Type 0
KeepsAt a Keep = a ≡ DeferAction
KeepsAt a _ = Unit {0}

abbrev pub KeepsAsDeferral : WorldSeat → Type 0
KeepsAsDeferral seat = KeepsAt seat.machine.action seat.machine.stage

-- the tickets given, with those that may still be taken, are few enough
pub record TicketsBounded (s : State) : Type 0 where
  pub tickets : s.tickets + sum_by pending s.seats ≤ (2 ^ 64 - 4097) + length s.seats
  pub keeps : (p : ℕ) → KeepsAsDeferral (seat_of s p)

-- JOBS ARE NO MORE THAN TICKETS

-- the jobs of a participant: held, and in hand
abbrev pub jobs_of_machine : Machine Deferral → ℕ
jobs_of_machine m = length m.held + length m.hand

abbrev pub jobs_at_seats : List WorldSeat → ℕ
jobs_at_seats seats = sum_by (λ seat. jobs_of_machine seat.machine) seats

abbrev pub jobs_queued : List Bag → ℕ
jobs_queued bags = sum_by (λ bag. length bag.jobs) bags

-- the jobs that an end has in hand, with those that it called
abbrev pub jobs_at_end : Ending → ℕ
jobs_at_end (Emptying hand n) = length hand + n
jobs_at_end _ = 0

abbrev pub all_jobs : State → ℕ
all_jobs s = jobs_at_seats s.seats + jobs_queued s.queued + jobs_at_end s.ending

abbrev pub JobsFew : State → Type 0
JobsFew s = all_jobs s ≤ s.tickets

-- WHO IS AT WORK

-- a free position isn't
abbrev pub FreeRests : State → Type 0
FreeRests s = (p : ℕ) → position_word s p ≡ Free → rests (seat_of s p).machine.stage ≡ true

-- CELLS ARE FEW

abbrev pub CellsFew : State → Type 0
CellsFew s = length s.heap.cells ≤ 4096

-- ALL OF IT

pub record IsSound (s : State) : Type 0 where
  pub linked : AllLinked s
  pub roomy : AllRoomy s
  pub bounded : TicketsBounded s
  pub jobs : JobsFew s
  pub free : FreeRests s
  pub readings : KeepsReadings s
  pub cells : CellsFew s
  pub few : length s.seats ≤ 64
