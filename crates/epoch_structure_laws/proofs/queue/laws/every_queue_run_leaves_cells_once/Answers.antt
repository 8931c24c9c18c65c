use Rattle.epoch_structure_laws.proofs.queue.laws.every_queue_run_leaves_cells_once.Goals as goal
use Rattle.epoch_structure_laws.proofs.QueueRuns.{every_queue_run_leaves_cells_once}

pub returns : goal.returns
returns c = every_queue_run_leaves_cells_once
