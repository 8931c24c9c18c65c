use Rattle.std.proofs.Common.{ap}
use Rattle.epoch_bags.specs.Bags.{Unsealed}
use Rattle.epoch_bags.specs.Queues.{Bounded}
use Rattle.epoch_bags.proofs.BagLists.{puts_last}
use Rattle.epoch_bags.proofs.queue.bag_queue.push_held.Goals as goal

pub returns-clause-bag : goal.returns-clause-bag
returns-clause-bag g c =
    puts_last c.args.seal.number c.number.result c.args.queue.now.bags c.queue.inside.bags.items _ c.args.held.now
    c.take.result c.take.new.self _
    (ap (λ (queue : Bounded g.row.J.Denot). queue.bags) c.queue.view_is) c.number.ensures.value
    (ap (λ (bag : Unsealed g.row.J.Denot). bag.jobs) c.push_back_reserved.view_is) c.take.ensures.taken
    c.push_back_reserved-2.ensures.items c.take.ensures.empty c.take.ensures.limit
