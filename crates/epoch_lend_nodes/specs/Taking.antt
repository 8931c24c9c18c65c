-- Which path of its program fits what a call returns, whatever its accesses do to what they access.
use Rattle.std.specs.Prelude.{List, Option}
use Rattle.epoch_cells.specs.declared.fault.Fault.{Fault}
use Rattle.epoch_lend.specs.declared.array.cells.SlotTurn.{SlotTurn}
use Rattle.epoch_lend_nodes.specs.Gathering.{gathering}
use Rattle.epoch_structure_laws.specs.Plans.{Deed}
use Rattle.epoch_structure_calls.specs.Paths.{DoesBy}

-- There is a path of this program, from this phase to one that answers so, on which a writer that had gathered the one
-- list of spots comes to have gathered the other. Of the accesses on the path it says only what they may be told, and
-- not that they were made.
abbrev pub TakesPath : {P A : Type 0} → List SlotTurn → (P → Deed P A) → P → A → Option Fault → List SlotTurn → Type 0
TakesPath old deed first answer refused new =
    DoesBy (λ (links : Unit {0}) access reply (links' : Unit {0}). Unit {0}) gathering deed first old tt answer refused
    new tt
