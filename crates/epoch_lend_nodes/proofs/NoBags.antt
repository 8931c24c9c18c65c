-- What a call tells is no fault of bags, and each other fault is told as it is.
use Rattle.std.proofs.Common.{◌≡◌, Option, Some, refl}
use Rattle.epoch_cells.specs.declared.fault.Fault.{Fault}
use Rattle.epoch_cells.specs.declared.fault.Fault.TheVariants.{NoMemory}
use Rattle.epoch_lend_nodes.specs.Telling.{without_bags}
use Rattle.epoch_structure_calls.specs.Refusals.{place_fault, room_fault}

-- where no room was made, memory was refused
pub room_told : (refused : Option Fault) → without_bags (room_fault refused) ≡ NoMemory
room_told (Some NoMemory) = refl
room_told refused = refl

-- where no node was placed, the fault is told as it is
pub place_told : (refused : Option Fault) → without_bags (place_fault refused) ≡ place_fault refused
place_told (Some NoMemory) = refl
place_told refused = refl
