-- Which reply fits what the entries before it tell of everybody: which position is taken and which guard is given, with
-- which fault a step is refused, and when the end of the collector is under way.
use Rattle.std.specs.Prelude.{◌≡◌, ◌≢◌, ℕ, ◌<◌, ◌≤◌, Bool, true, false, List, [], ◌∷◌, length, take, slice_get, Option}
use Rattle.std.specs.Prelude.{Some, None, ◌⊎◌}
use Rattle.epoch_cells.specs.declared.fault.Fault.{Fault}
use Rattle.epoch_cells.specs.declared.fault.Fault.TheVariants.{TableFull, CellsFull, BagsFull, Busy, Idle as IdleFault}
use Rattle.epoch_cells.specs.declared.fault.Fault.TheVariants.{NotRegistered, StrangerGuard, GuardsOut, TooManyGuards}
use Rattle.epoch_cells.specs.declared.fault.Fault.TheVariants.{ParticipantsLeft, Ended, NoSuchPlace, StrangerPointer}
use Rattle.epoch_cells.specs.declared.fault.Fault.TheVariants.{TicketsOut}
use Rattle.epoch_laws.specs.declared.heap.access.Access.{Access}
use Rattle.epoch_laws.specs.declared.heap.access.Access.TheVariants.{Place, Read, Point}
use Rattle.epoch_laws.specs.declared.heap.access.AccessAnswer.TheVariants.{Guard}
use Rattle.epoch_laws.specs.Heap.{guard_of}
use Rattle.epoch_laws.specs.declared.step.Phase.{Phase}
use Rattle.epoch_laws.specs.declared.step.Phase.TheVariants.{Before, During, After}
use Rattle.epoch_laws.specs.declared.step.Call.{Call}
use Rattle.epoch_laws.specs.declared.step.Call.TheVariants.{Pin, Unpin, Pause, Resume, Repin, Defer, Flush, Release}
use Rattle.epoch_laws.specs.declared.step.Call.TheVariants.{DeferDestroy, Access as AccessCall}
use Rattle.epoch_laws.specs.declared.step.Step.{Step}
use Rattle.epoch_laws.specs.declared.step.Step.TheVariants.{Register, Begin, Go, End as EndStep, EndGo}
use Rattle.epoch_laws.specs.declared.step.Reply.{Reply}
use Rattle.epoch_laws.specs.declared.step.Reply.TheVariants.{Registered, Began, Done, Refused}
use Rattle.epoch_laws.specs.declared.step.Entry.{Entry}
use Rattle.epoch_laws.specs.Grace.{IsReplyAt}
use Rattle.epoch_laws.specs.Run.{is_out, lowest, waits}
use Rattle.epoch_laws.specs.Lawful.{Told, nothing, told_of, MayReplyAll, CallsNoneTwice, CallsAfterDeferrals}

-- HOW FAR THE END OF THE COLLECTOR IS

-- it is under way from the End that is accepted, up to the EndGo that is done
abbrev pub phase_after : Phase → Step → Reply → Phase
phase_after phase EndStep Began = During
phase_after phase EndGo (Done answer) = After
phase_after phase step reply = phase

abbrev pub phase_from : Phase → List Entry → Phase
phase_from phase [] = phase
phase_from phase (entry ∷ log) = phase_from (phase_after phase entry.step entry.reply) log

abbrev pub phase_of : List Entry → Phase
phase_of log = phase_from Before log

-- each participant that has registered has left since
abbrev pub EachHasLeft : List Entry → Type 0
EachHasLeft log = (i p : ℕ) → IsReplyAt log i (Registered p) → (told_of p log).registered ≡ false

-- an end begins once, when each participant has left, and is refused else
abbrev pub EndFits : List Entry → Reply → Phase → Type 0
EndFits before Began Before = EachHasLeft before
EndFits before Began _ = ⊥
EndFits before (Refused fault) Before = (fault ≡ ParticipantsLeft) × (¬ (EachHasLeft before))
EndFits before (Refused fault) _ = fault ≡ Ended
EndFits before _ phase = Unit {0}

-- a step of an end is refused exactly where none is under way
abbrev pub EndGoFits : Reply → Phase → Type 0
EndGoFits (Refused fault) During = ⊥
EndGoFits (Refused fault) _ = fault ≡ IdleFault
EndGoFits reply During = Unit {0}
EndGoFits reply _ = ⊥

-- the lowest position that isn't taken is given, and none after an end began
abbrev pub RegisterFits : List Entry → Reply → Phase → Type 0
RegisterFits before (Registered p) Before = (k : ℕ) → k < p → (told_of k before).registered ≡ true
RegisterFits before (Registered p) _ = ⊥
RegisterFits before (Refused fault) Before = fault ≡ TableFull
RegisterFits before (Refused fault) _ = fault ≡ Ended
RegisterFits before _ phase = Unit {0}

-- WITH WHICH FAULT A BEGIN IS REFUSED

-- the guard isn't counted
abbrev pub IsStranger : ℕ → List ℕ → Fault → Type 0
IsStranger g guards fault = (is_out g guards ≡ false) × (fault ≡ StrangerGuard)

-- no guard is paused, or another one
abbrev pub ResumeFault : ℕ → Option ℕ → Fault → Type 0
ResumeFault g None fault = fault ≡ IdleFault
ResumeFault g (Some h) fault = (g ≢ h) × (fault ≡ StrangerGuard)

-- the faults of a pointer, a place or a reading, of which the cells decide
abbrev pub HeapFault : Access → Fault → Type 0
HeapFault (Place v) fault = ⊥
HeapFault (Read g ptr) Busy = Unit {0}
HeapFault (Point g spot change) NoSuchPlace = Unit {0}
HeapFault a StrangerPointer = Unit {0}
HeapFault a _ = ⊥

-- the guard comes first, if it is a protecting one
abbrev pub AccessFault : Option ℕ → Access → List ℕ → Fault → Type 0
AccessFault None a guards fault = HeapFault a fault
AccessFault (Some g) a guards fault = IsStranger g guards fault ⊎ ((is_out g guards ≡ true) × HeapFault a fault)

-- a pointer to no cell, or tickets that are used up
abbrev pub RemovalFault : Fault → Type 0
RemovalFault StrangerPointer = Unit {0}
RemovalFault TicketsOut = Unit {0}
RemovalFault _ = ⊥

-- The call's own fault. Where it is decided by the guards alone, so is whether there is one.
abbrev pub CallFault : Call → List ℕ → Option ℕ → Fault → Type 0
CallFault Pin guards paused fault = (64 ≤ length guards) × (fault ≡ TooManyGuards)
CallFault (Unpin None) guards paused fault = fault ≡ StrangerGuard
CallFault (Unpin (Some g)) guards paused fault = IsStranger g guards fault
CallFault (Repin (Some g)) guards paused fault = IsStranger g guards fault
CallFault (Pause (Some g)) guards paused fault = IsStranger g guards fault
CallFault (Resume (Some g)) guards paused fault = ResumeFault g paused fault
CallFault (Defer (Some g)) guards paused fault =
    IsStranger g guards fault ⊎ ((is_out g guards ≡ true) × (fault ≡ TicketsOut))
CallFault (Flush (Some g)) guards paused fault = IsStranger g guards fault
CallFault Release guards paused fault = fault ≡ GuardsOut
CallFault (DeferDestroy None ptr) guards paused fault = fault ≡ StrangerPointer
CallFault (DeferDestroy (Some g) ptr) guards paused fault =
    IsStranger g guards fault ⊎ ((is_out g guards ≡ true) × RemovalFault fault)
CallFault (AccessCall a) guards paused fault = AccessFault (guard_of a) a guards fault
CallFault _ guards paused fault = ⊥

-- before it comes that the participant isn't registered, that it has a call under way, and that it is paused
abbrev pub BeginFault : (registered : Bool) (under_way : Option Call) (waiting : Bool) → Call → List ℕ → Option ℕ
    → Fault → Type 0
BeginFault false under_way waiting c guards paused fault = fault ≡ NotRegistered
BeginFault true (Some other) waiting c guards paused fault = fault ≡ Busy
BeginFault true None true c guards paused fault = fault ≡ Busy
BeginFault true None false c guards paused fault = CallFault c guards paused fault

abbrev pub BeginFits : Told → Call → Reply → Type 0
BeginFits t c (Refused fault) =
    BeginFault t.registered t.call (waits c t.paused) c t.guards t.paused fault
BeginFits t c _ = Unit {0}

-- WHICH GUARD A PIN ANSWERS, AND WITH WHICH FAULT A GO IS REFUSED

abbrev pub IsGivenGuard : Option Call → ℕ → List ℕ → Type 0
IsGivenGuard (Some Pin) g guards = g ≡ lowest guards
IsGivenGuard _ g guards = Unit {0}

-- the fault of a call at its end, or of a Go where no call is under way
abbrev pub go_fault : Bool → Option Call → Fault
go_fault registered (Some (AccessCall a)) = CellsFull
go_fault registered (Some c) = BagsFull
go_fault true None = IdleFault
go_fault false None = NotRegistered

abbrev pub GoFits : Told → Reply → Type 0
GoFits t (Done (Guard g)) = IsGivenGuard t.call g t.guards
GoFits t (Refused fault) = fault ≡ go_fault t.registered t.call
GoFits t _ = Unit {0}

-- EACH ENTRY

abbrev pub Fits : List Entry → Step → Reply → Type 0
Fits before Register reply = RegisterFits before reply (phase_of before)
Fits before (Begin p c) reply = BeginFits (told_of p before) c reply
Fits before (Go p) reply = GoFits (told_of p before) reply
Fits before EndStep reply = EndFits before reply (phase_of before)
Fits before EndGo reply = EndGoFits reply (phase_of before)

-- each reply fits what the entries before it tell
abbrev pub EachFits : List Entry → Type 0
EachFits log = (k : ℕ) (entry : Entry) → slice_get log k ≡ Some entry → Fits (take k log) entry.step entry.reply

-- Each event stands only in its calls, and as often as it should; a call begins only of a participant that is
-- registered and has none under way, and whose guards allow it, and is done with its own kind of answer; each reply
-- fits what is told of everybody before it; a job is called at most once, after it was deferred.
pub record IsLawful (log : List Entry) : Type 0 where
  pub in_calls : MayReplyAll (λ p. nothing) log
  pub fits : EachFits log
  pub once : CallsNoneTwice log
  pub deferred : CallsAfterDeferrals log
