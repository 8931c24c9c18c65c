use Rattle.std.proofs.Common.{ap, min, ◌∙◌}
use Rattle.epoch_bags.proofs.BagLists.{expired_all, least_twice}
use Rattle.epoch_bags.proofs.queue.bag_queue.BagQueueBagStore.start_take.Goals as goal

pub returns-clause-ahead : goal.returns-clause-ahead
returns-clause-ahead g c epoch free all = least_twice 64 _ ∙ ap (min 64) (expired_all epoch c.args.self.now.bags all)
