use Rattle.epoch_structure_laws.proofs.queue.laws.every_queue_reply_comes_nearer_the_answer.Goals as goal
use Rattle.epoch_structure_laws.proofs.QueueCallsLeft.{queue_lowered}

pub returns : goal.returns
returns c = queue_lowered
