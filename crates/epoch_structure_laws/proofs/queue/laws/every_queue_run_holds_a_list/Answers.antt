use Rattle.epoch_structure_laws.proofs.queue.laws.every_queue_run_holds_a_list.Goals as goal
use Rattle.epoch_structure_laws.proofs.QueueRuns.{every_queue_run_holds_a_list}

pub returns : goal.returns
returns c = every_queue_run_holds_a_list
