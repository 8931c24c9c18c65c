use Rattle.epoch_structure_laws.proofs.map.laws.some_map_run_inserts_and_removes.Goals as goal
use Rattle.epoch_structure_laws.proofs.MapInsertThenRemove.{some_map_run_inserts_and_removes}

pub returns : goal.returns
returns c = some_map_run_inserts_and_removes
