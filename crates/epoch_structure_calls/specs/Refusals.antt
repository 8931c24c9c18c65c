-- The fault that a refused call tells, where the newest refusal on its way was this one.
use Rattle.std.specs.Prelude.{Option, Some}
use Rattle.epoch_cells.specs.declared.fault.Fault.{Fault}
use Rattle.epoch_cells.specs.declared.fault.Fault.TheVariants.{NoMemory, CellsFull, BagsFull}

-- the fault where no node was placed: no memory if that was why, and else full cells
abbrev pub place_fault : Option Fault → Fault
place_fault (Some NoMemory) = NoMemory
place_fault refused = CellsFull

-- the fault where no room was made: no memory if that was why, and else full bags
abbrev pub room_fault : Option Fault → Fault
room_fault (Some NoMemory) = NoMemory
room_fault refused = BagsFull
