use Rattle.std.proofs.Common.{length}
use Rattle.epoch_bags.proofs.BagLists.{room_first}
use Rattle.epoch_bags.proofs.queue.bag_queue.BagQueueBagStore.start_put.Goals as goal

pub returns-clause-room : goal.returns-clause-room
returns-clause-room g c place free = room_first c.args.self.now.capacity (length c.args.self.now.bags) place free
