-- What the calls on roots and nodes tell, as answers to the accesses of a program.
use Rattle.std.specs.Prelude.{◌≡◌, ℕ, Bool, true, false, Option, Some, None, Result, Ok, Err}
use Rattle.epoch_cells.specs.declared.cells.name.Name.{Name}
use Rattle.epoch_cells.specs.declared.fault.Fault.{Fault}
use Rattle.epoch_laws.specs.declared.heap.access.Access.{Access}
use Rattle.epoch_laws.specs.declared.heap.access.Access.TheVariants.{Point}
use Rattle.epoch_laws.specs.declared.heap.access.AccessAnswer.{AccessAnswer}
use Rattle.epoch_laws.specs.declared.heap.access.AccessAnswer.TheVariants.{Unit as Nothing, Name as NameAnswer, Value}
use Rattle.epoch_laws.specs.declared.heap.access.AccessAnswer.TheVariants.{Pointer}
use Rattle.epoch_laws.specs.declared.heap.access.AccessAnswer.TheVariants.{Exchanged, Absent}
use Rattle.epoch_laws.specs.declared.heap.access.Change.TheVariants.{CompareExchange}
use Rattle.epoch_laws.specs.declared.heap.access.Ptr.{Ptr}
use Rattle.epoch_laws.specs.declared.heap.access.Spot.{Spot}
use Rattle.epoch_laws.specs.declared.step.Reply.{Reply}
use Rattle.epoch_laws.specs.declared.step.Reply.TheVariants.{Done, Refused}

-- the reply to a placing
abbrev pub placed : Result (Option Name) Fault → Reply
placed (Ok (Some name)) = Done (NameAnswer name)
placed (Ok None) = Done Absent
placed (Err fault) = Refused fault

-- the answer to a load
abbrev pub loaded : Option Ptr → AccessAnswer
loaded (Some ptr) = Pointer ptr
loaded None = Absent

-- the answer to a read
abbrev pub value_read : Option ℕ → AccessAnswer
value_read (Some value) = Value value
value_read None = Absent

-- the answer to a store
abbrev pub stored : Bool → AccessAnswer
stored true = Nothing
stored false = Absent

-- this answer to an exchange tells that it was made
abbrev pub was_made : AccessAnswer → Bool
was_made (Exchanged ptr) = true
was_made answer = false

-- The pointer there was to be exchanged, if it was this one still, for the other. The answer tells whether it was.
abbrev pub ExchangesAt : {L : Type 0} → (L → Access → Reply → L → Type 0) → L → Spot → Ptr → Ptr → Bool → L → Type 0
ExchangesAt does links spot current new made links' =
    (answer : AccessAnswer) × (was_made answer ≡ made)
    × does links (Point (Some 0) spot (CompareExchange current new)) (Done answer) links'
