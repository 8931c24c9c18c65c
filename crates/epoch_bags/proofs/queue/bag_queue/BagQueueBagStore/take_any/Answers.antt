use Rattle.std.proofs.Common.{◌≡◌, ◌∙◌, sym, arith, ap, length}
use Rattle.epoch_bags.specs.Queues.{Bounded}
use Rattle.epoch_bags.proofs.BagLists.{taken_front}
use Rattle.epoch_bags.proofs.queue.bag_queue.BagQueueBagStore.take_any.Goals as goal

pub returns-clause-bag : goal.returns-clause-bag
returns-clause-bag g c =
    let same : c.self.inside.bags.items ≡ c.args.self.now.bags =
    ap (λ (queue : Bounded g.row.J.Denot). queue.bags) c.self.view_is in
    taken_front c.args.self.now.bags c.pop_front.new.self.items c.pop_front.result
    (sym same ∙ c.pop_front.ensures.items)
    (λ more. c.pop_front.ensures.variant.1 (omega (arith, more, ap length same, c.self.inside.bags.ok)))
