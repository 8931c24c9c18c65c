-- What a call of the queue tells, by what its program answers.
use Rattle.std.specs.Prelude.{ℕ, Option, Some, None, Result, Ok, Err}
use Rattle.epoch_cells.specs.declared.fault.Fault.{Fault}
use Rattle.epoch_cells.specs.declared.fault.Fault.TheVariants.{TriesOut as NoTry}
use Rattle.epoch_cells.specs.declared.fault.Refused.{Refused}
use Rattle.epoch_structure_laws.specs.declared.queue.plan.QueueAnswer.{QueueAnswer}
use Rattle.epoch_structure_laws.specs.declared.queue.plan.QueueAnswer.TheVariants.{Pushed, Popped, PoppedLeaking, Empty}
use Rattle.epoch_structure_laws.specs.declared.queue.plan.QueueAnswer.TheVariants.{CellsFull, BagsFull}
use Rattle.epoch_structure_calls.specs.Refusals.{place_fault, room_fault}

-- what a push of this value tells where its program answers so; it hands the value back
abbrev pub queue_push_tells : ℕ → QueueAnswer → Option Fault → Result (Unit {0}) (Refused ℕ)
queue_push_tells value Pushed refused = Ok tt
queue_push_tells value BagsFull refused = Err (record { fault = room_fault refused; value = value })
queue_push_tells value CellsFull refused = Err (record { fault = place_fault refused; value = value })
queue_push_tells value answer refused = Err (record { fault = NoTry; value = value })

-- what a pop tells where its program answers so
abbrev pub queue_pop_tells : QueueAnswer → Option Fault → Result (Option ℕ) Fault
queue_pop_tells (Popped value) refused = Ok (Some value)
queue_pop_tells (PoppedLeaking value) refused = Ok (Some value)
queue_pop_tells Empty refused = Ok None
queue_pop_tells BagsFull refused = Err (room_fault refused)
queue_pop_tells answer refused = Err NoTry
