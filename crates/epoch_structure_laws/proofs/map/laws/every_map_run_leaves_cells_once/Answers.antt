use Rattle.epoch_structure_laws.proofs.map.laws.every_map_run_leaves_cells_once.Goals as goal
use Rattle.epoch_structure_laws.proofs.MapRuns.{every_map_run_leaves_cells_once}

pub returns : goal.returns
returns c = every_map_run_leaves_cells_once
