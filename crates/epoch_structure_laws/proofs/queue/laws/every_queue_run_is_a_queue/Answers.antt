use Rattle.epoch_structure_laws.proofs.queue.laws.every_queue_run_is_a_queue.Goals as goal
use Rattle.epoch_structure_laws.proofs.QueueRuns.{every_queue_run_is_a_queue}

pub returns : goal.returns
returns c = every_queue_run_is_a_queue
