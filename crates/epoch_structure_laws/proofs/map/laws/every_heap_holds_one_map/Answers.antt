use Rattle.epoch_structure_laws.proofs.map.laws.every_heap_holds_one_map.Goals as goal
use Rattle.epoch_structure_laws.proofs.MapLists.{every_heap_holds_one_map}

pub returns : goal.returns
returns c = every_heap_holds_one_map
