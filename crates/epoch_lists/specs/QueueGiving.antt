-- What a push and a pop give their caller, by what the program of the queue answers.
use Rattle.std.specs.Prelude.{◌≡◌, Option, Some, None, Result, Ok, Err, IsOk, IsErr, IsSome, IfOk, IfErr}
use Rattle.epoch_cells.specs.declared.fault.Fault.{Fault}
use Rattle.epoch_cells.specs.declared.fault.Fault.TheVariants.{NoMemory, TriesOut as NoTry}
use Rattle.epoch_cells.specs.declared.fault.Refused.{Refused}
use Rattle.epoch_structure_laws.specs.declared.queue.plan.QueueAnswer.{QueueAnswer}
use Rattle.epoch_structure_laws.specs.declared.queue.plan.QueueAnswer.TheVariants.{Pushed, Popped, PoppedLeaking, Empty}
use Rattle.epoch_structure_laws.specs.declared.queue.plan.QueueAnswer.TheVariants.{CellsFull, BagsFull}
use Rattle.epoch_structure_calls.specs.Refusals.{place_fault}

-- A push of this node that is refused hands it back, unless it lost all its tries. A writer has no bags: where no room
-- was made, memory was refused.
abbrev pub GivesQueuePush : {V : Type 0} → V → QueueAnswer → Option Fault → Result (Unit {0}) (Refused (Option V))
    → Type 0
GivesQueuePush node Pushed refused given = IsOk given
GivesQueuePush node BagsFull refused given = given ≡ Err (record { fault = NoMemory; value = Some node })
GivesQueuePush node CellsFull refused given = given ≡ Err (record { fault = place_fault refused; value = Some node })
GivesQueuePush node answer refused given = IsErr given × IfErr given (λ back. back.fault ≡ NoTry)

-- A pop gives a node where its program answers a value.
abbrev pub GivesQueuePop : {R : Type 0} → QueueAnswer → Option Fault → Result (Option R) Fault → Type 0
GivesQueuePop (Popped value) refused given = IsOk given × IfOk given (λ popped. IsSome popped)
GivesQueuePop (PoppedLeaking value) refused given = IsOk given × IfOk given (λ popped. IsSome popped)
GivesQueuePop Empty refused given = given ≡ Ok None
GivesQueuePop BagsFull refused given = given ≡ Err NoMemory
GivesQueuePop answer refused given = given ≡ Err NoTry

-- A push of this value that is refused hands it back. Where its node was placed, no clause says that it is this value.
abbrev pub GivesQueueBack : {V : Type 0} → V → QueueAnswer → Option Fault → Result (Unit {0}) (Refused V) → Type 0
GivesQueueBack value Pushed refused given = IsOk given
GivesQueueBack value BagsFull refused given = IfErr given (λ back. (back.fault ≡ NoMemory) × (back.value ≡ value))
GivesQueueBack value CellsFull refused given =
    IfErr given (λ back. (back.fault ≡ place_fault refused) × (back.value ≡ value))
GivesQueueBack value answer refused given = IfErr given (λ back. back.fault ≡ NoTry)

-- A pop that moves a value gives one, or none, where its program answers a value.
abbrev pub GivesQueueMoved : {V : Type 0} → QueueAnswer → Option Fault → Result (Option V) Fault → Type 0
GivesQueueMoved (Popped value) refused given = IsOk given
GivesQueueMoved (PoppedLeaking value) refused given = IsOk given
GivesQueueMoved Empty refused given = given ≡ Ok None
GivesQueueMoved BagsFull refused given = given ≡ Err NoMemory
GivesQueueMoved answer refused given = given ≡ Err NoTry
