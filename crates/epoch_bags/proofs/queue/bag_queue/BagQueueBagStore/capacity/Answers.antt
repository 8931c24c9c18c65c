use Rattle.std.proofs.Common.{arith, ap, length}
use Rattle.epoch_bags.specs.Queues.{Bounded}
use Rattle.epoch_bags.proofs.ClaimedPlaces.{count_first}
use Rattle.epoch_bags.proofs.queue.bag_queue.BagQueueBagStore.capacity.Goals as goal

-- there are no more bags than places
pub returns-clause-standing : goal.returns-clause-standing
returns-clause-standing g c = count_first c.args.self.now.capacity (length c.args.self.now.bags)
    (omega (
      arith,
      c.self.invariant.within,
      ap (λ (q : Bounded g.row.J.Denot). length q.bags) c.self.view_is,
      ap (λ (q : Bounded g.row.J.Denot). q.capacity) c.self.view_is,
    ))
