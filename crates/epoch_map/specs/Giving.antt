-- What an insert, a removal and a look-up give their caller, by what the map's program answers.
use Rattle.std.specs.Prelude.{◌≡◌, ◌⊎◌, Option, Some, None, Result, Ok, Err, IsOk, IsSome, IfOk}
use Rattle.epoch_cells.specs.declared.fault.Fault.{Fault}
use Rattle.epoch_cells.specs.declared.fault.Fault.TheVariants.{NoMemory, TriesOut}
use Rattle.epoch_cells.specs.declared.fault.Refused.{Refused}
use Rattle.epoch_structure_laws.specs.declared.map.plan.MapAnswer.{MapAnswer}
use Rattle.epoch_structure_laws.specs.declared.map.plan.MapAnswer.TheVariants.{Inserted, AlreadyThere}
use Rattle.epoch_structure_laws.specs.declared.map.plan.MapAnswer.TheVariants.{AlreadyThereLeaking}
use Rattle.epoch_structure_laws.specs.declared.map.plan.MapAnswer.TheVariants.{Removed, RemovedLeaking, Found, NotFound}
use Rattle.epoch_structure_laws.specs.declared.map.plan.MapAnswer.TheVariants.{MovesOutLeaking, CellsFull}
use Rattle.epoch_structure_laws.specs.declared.map.plan.MapAnswer.TheVariants.{BagsFull as NoRoom}
use Rattle.epoch_structure_calls.specs.Refusals.{place_fault}

-- A node is given.
abbrev pub GivesNode : {R E : Type 0} → Result (Option R) E → Type 0
GivesNode given = IsOk given × IfOk given (λ found. IsSome found)

-- An insert of this node: where it was refused before it was placed, it is handed back. A writer has no bags: where no
-- room was made, memory was refused.
abbrev pub GivesInsert : {N R : Type 0} → N → MapAnswer → Option Fault → Result (Option R) (Refused (Option N))
    → Type 0
GivesInsert node Inserted refused given = given ≡ Ok None
GivesInsert node (AlreadyThere v) refused given = GivesNode given
GivesInsert node (AlreadyThereLeaking v) refused given = GivesNode given
GivesInsert node NoRoom refused given = given ≡ Err (record { fault = NoMemory; value = Some node })
GivesInsert node CellsFull refused given = given ≡ Err (record { fault = place_fault refused; value = Some node })
GivesInsert node MovesOutLeaking refused given = given ≡ Err (record { fault = NoMemory; value = None })
GivesInsert node answer refused given = given ≡ Err (record { fault = TriesOut; value = None })

abbrev pub GivesRemove : {R : Type 0} → MapAnswer → Option Fault → Result (Option R) Fault → Type 0
GivesRemove (Removed v) refused given = GivesNode given
GivesRemove (RemovedLeaking v) refused given = GivesNode given
GivesRemove NotFound refused given = given ≡ Ok None
GivesRemove NoRoom refused given = given ≡ Err NoMemory
GivesRemove MovesOutLeaking refused given = given ≡ Err NoMemory
GivesRemove answer refused given = given ≡ Err TriesOut

abbrev pub GivesGet : {R : Type 0} → MapAnswer → Option Fault → Result (Option R) Fault → Type 0
GivesGet (Found v) refused given = GivesNode given
GivesGet NotFound refused given = given ≡ Ok None
GivesGet MovesOutLeaking refused given = given ≡ Err NoMemory
GivesGet answer refused given = given ≡ Err TriesOut

-- What a refused insert hands back: its node, unless that was placed. A node that was placed is retired, and then
-- either all moves were used up, or a removal was refused.
abbrev pub HandsBack : {N : Type 0} → N → Refused (Option N) → Type 0
HandsBack node back =
    (back.value ≡ Some node)
    ⊎ ((back.value ≡ None) × ((back.fault ≡ TriesOut) ⊎ (back.fault ≡ NoMemory)))
