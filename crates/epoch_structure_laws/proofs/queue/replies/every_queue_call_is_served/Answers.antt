use Rattle.epoch_structure_laws.proofs.QueueServes.{every_queue_call_is_served}
use Rattle.epoch_structure_laws.proofs.queue.replies.every_queue_call_is_served.Goals as goal

pub returns : goal.returns
returns c = every_queue_call_is_served
