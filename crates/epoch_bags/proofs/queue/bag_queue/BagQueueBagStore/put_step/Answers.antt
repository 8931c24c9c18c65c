use Rattle.std.proofs.Common.{◌≡◌, ap, refl, arith, length}
use Rattle.epoch_bags.specs.Queues.{Bounded}
use Rattle.epoch_bags.proofs.BagLists.{all_occupied, passes_all, has_step}
use Rattle.epoch_bags.proofs.queue.bag_queue.BagQueueBagStore.put_step.Goals as goal

pub returns-then-len-self-clause-occupied : goal.returns-then-len-self-clause-occupied
returns-then-len-self-clause-occupied g c = λ undone place passed within.
    let room : c.self.inside.capacity ≡ c.args.self.now.capacity =
    ap (λ (queue : Bounded g.row.J.Denot). queue.capacity) c.self.view_is in
    let taken : length c.self.inside.bags.items ≡ length c.args.self.now.bags =
    ap (λ (queue : Bounded g.row.J.Denot). length queue.bags) c.self.view_is in
    all_occupied c.args.self.now.capacity (length c.args.self.now.bags) place
    (omega (arith, room, taken, c.if-len-self.true, c.len.ensures, c.self.inside.bags.ok)) (omega (arith, room, within))

pub returns-then-len-self-clause-fewer : goal.returns-then-len-self-clause-fewer
returns-then-len-self-clause-fewer g c =
    passes_all c.args.self.now.capacity c.args.cursor.now c.self.inside.capacity
    (ap (λ (queue : Bounded g.row.J.Denot). queue.capacity) c.self.view_is)

pub returns-clause-occupied : goal.returns-clause-occupied
returns-clause-occupied g c = λ undone. absurd (undone refl)

pub returns-clause-fewer : goal.returns-clause-fewer
returns-clause-fewer g c =
    passes_all c.args.self.now.capacity c.args.cursor.now c.self.inside.capacity
    (ap (λ (queue : Bounded g.row.J.Denot). queue.capacity) c.self.view_is)

pub returns-clause-last : goal.returns-clause-last
returns-clause-last g c = λ none.
    let room : c.self.inside.capacity ≡ c.args.self.now.capacity =
    ap (λ (queue : Bounded g.row.J.Denot). queue.capacity) c.self.view_is in
    absurd (has_step c.args.self.now.capacity c.args.cursor.now (omega (arith, room, c.if-cursor-self.false)) none)
