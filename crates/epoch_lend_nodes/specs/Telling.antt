-- What a call of a structure whose nodes are lent tells, where its program answers that the bags are full.
use Rattle.epoch_cells.specs.declared.fault.Fault.{Fault}
use Rattle.epoch_cells.specs.declared.fault.Fault.TheVariants.{NoMemory, BagsFull}

-- A writer has no bags: where it makes no room, memory was refused.
abbrev pub without_bags : Fault → Fault
without_bags BagsFull = NoMemory
without_bags fault = fault
