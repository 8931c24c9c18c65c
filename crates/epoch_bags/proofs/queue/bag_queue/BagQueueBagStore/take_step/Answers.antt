use Rattle.std.proofs.Common.{ap, arith, sym, min, ◌∙◌, ◌≡◌, ◌+◌, List, length, slice_index_or}
use Rattle.epoch_bags.specs.Bags.{Sealed}
use Rattle.epoch_bags.specs.Queues.{Bounded, first_expired}
use Rattle.epoch_bags.proofs.BagLists.{not_some, none_there, front_late, front_first, least_none, least_more}
use Rattle.epoch_bags.proofs.PlaceWords.{not_both}
use Rattle.epoch_bags.proofs.queue.bag_queue.BagQueueBagStore.take_step.Goals.{in-Some, in-None}
use Rattle.epoch_bags.proofs.queue.bag_queue.BagQueueBagStore.take_step.Goals as goal

-- the front is not expired, or there is none
pub returns-else-expired-clause-ahead : goal.returns-else-expired-clause-ahead
returns-else-expired-clause-ahead g c =
    let same : c.self.inside.bags.items ≡ c.args.self.now.bags =
    ap (λ (queue : Bounded g.row.J.Denot). queue.bags) c.self.view_is in
    let none : first_expired c.args.expiry.number c.args.self.now.bags ≡ 0 = elim c.match-front.branch [
      | in-Some w ↦ front_late c.args.expiry.number c.args.self.now.bags w.in-Some.bag.now
          (w.in-Some.ensures.lookup
          ∙ ap (λ (bags : List (Sealed g.row.J.Denot)). slice_index_or bags 0 w.in-Some.bag.now) same)
          (λ expired. not_both w.is_expired-expired.result (w.is_expired-expired.ensures.1 expired)
          (sym w.expired-is ∙ c.if-expired.false))
      | in-None w ↦ none_there c.args.expiry.number c.args.self.now.bags
          (λ more. not_some c.front.result w.in-None.is
          (c.front.ensures.variant.1 (omega (arith, more, ap length same, c.self.inside.bags.ok))))
    ] in
    (least_none c.args.cursor.now _ none, least_none _ _ none)

pub returns-then-expired-clause-ahead : goal.returns-then-expired-clause-ahead
returns-then-expired-clause-ahead g c =
    let same : c.self.inside.bags.items ≡ c.args.self.now.bags =
    ap (λ (queue : Bounded g.row.J.Denot). queue.bags) c.self.view_is in
    let one : first_expired c.args.expiry.number c.args.self.now.bags
    ≡ first_expired c.args.expiry.number c.take_front.new.queue.bags + 1 = elim c.match-front.branch [
      | in-Some w ↦ front_first c.args.expiry.number c.args.self.now.bags c.take_front.new.queue.bags
          w.in-Some.bag.now c.take_front.new.hand
          (w.in-Some.ensures.lookup
          ∙ ap (λ (bags : List (Sealed g.row.J.Denot)). slice_index_or bags 0 w.in-Some.bag.now) same)
          c.take_front.ensures.front (w.is_expired-expired.ensures.0 (sym w.expired-is ∙ c.if-expired.true))
      | in-None w ↦ absurd (not_both c.match-front.expired c.if-expired.true w.expired-is)
    ] in
    ap (min c.args.cursor.now) one ∙ least_more c.args.cursor.now _ (omega (arith, c.if-cursor-eq0.false))
