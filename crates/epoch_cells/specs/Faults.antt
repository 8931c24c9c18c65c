-- The numbers of the faults.
use Rattle.std.specs.Prelude.{ℕ}
use Rattle.epoch_cells.specs.declared.fault.Fault.{Fault}
use Rattle.epoch_cells.specs.declared.fault.Fault.TheVariants.{TableFull, CellsFull, BagsFull, NoMemory, Busy, Idle}
use Rattle.epoch_cells.specs.declared.fault.Fault.TheVariants.{NotRegistered, StrangerGuard, GuardsOut, TooManyGuards}
use Rattle.epoch_cells.specs.declared.fault.Fault.TheVariants.{ParticipantsLeft, Ended, NoSuchPlace, StrangerPointer}
use Rattle.epoch_cells.specs.declared.fault.Fault.TheVariants.{TicketsOut, TriesOut}

abbrev pub fault_number : Fault → ℕ
fault_number TableFull = 1
fault_number CellsFull = 2
fault_number BagsFull = 3
fault_number NoMemory = 4
fault_number Busy = 5
fault_number Idle = 6
fault_number NotRegistered = 7
fault_number StrangerGuard = 8
fault_number GuardsOut = 9
fault_number TooManyGuards = 10
fault_number ParticipantsLeft = 11
fault_number Ended = 12
fault_number NoSuchPlace = 13
fault_number StrangerPointer = 14
fault_number TicketsOut = 15
fault_number TriesOut = 16
