use Rattle.epoch_structure_laws.proofs.map.laws.every_map_run_is_a_map.Goals as goal
use Rattle.epoch_structure_laws.proofs.MapRuns.{every_map_run_is_a_map}

pub returns : goal.returns
returns c = every_map_run_is_a_map
