use Rattle.epoch_structure_laws.proofs.queue.laws.every_queue_run_keeps_reach.Goals as goal
use Rattle.epoch_structure_laws.proofs.QueueRuns.{every_queue_run_keeps_reach}

pub returns : goal.returns
returns c = every_queue_run_keeps_reach
