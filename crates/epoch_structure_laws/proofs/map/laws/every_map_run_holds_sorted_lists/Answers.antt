use Rattle.epoch_structure_laws.proofs.map.laws.every_map_run_holds_sorted_lists.Goals as goal
use Rattle.epoch_structure_laws.proofs.MapRuns.{every_map_run_holds_sorted_lists}

pub returns : goal.returns
returns c = every_map_run_holds_sorted_lists
