use Rattle.epoch_structure_laws.proofs.QueuePushThenPop.{some_queue_run_pushes_and_pops}
use Rattle.epoch_structure_laws.proofs.queue.replies.some_queue_run_pushes_and_pops.Goals as goal

pub returns : goal.returns
returns c = some_queue_run_pushes_and_pops
