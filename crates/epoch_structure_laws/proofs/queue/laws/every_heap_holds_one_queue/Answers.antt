use Rattle.epoch_structure_laws.proofs.queue.laws.every_heap_holds_one_queue.Goals as goal
use Rattle.epoch_structure_laws.proofs.OneQueue.{every_heap_holds_one_queue}

pub returns : goal.returns
returns c = every_heap_holds_one_queue
