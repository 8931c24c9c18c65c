use Rattle.std.proofs.Common.{None, slice_index_or, length, arith, ap, ◌∙◌, length-append}
use Rattle.epoch_bags.proofs.PlaceWords.{get_push}
use Rattle.epoch_bags.proofs.PlacedBags.{none_in}
use Rattle.epoch_bags.proofs.queue.places.Places.new.Goals as goal

pub loop-preserved : goal.loop-preserved
loop-preserved g c = record {
  room_words = omega arith;
  room_bags = omega arith;
  words = ap length c.push_reserved.ensures.items ∙ simp length-append (omega arith);
  bags = ap length c.push_reserved-in-loop.ensures.items ∙ simp length-append (omega arith);
  empty = λ k. ap (λ xs. slice_index_or xs k 0) c.push_reserved.ensures.items ∙ get_push c.loop.words.items 0 k
      ∙ c.loop.invariant.empty k;
  none = λ k. ap (λ xs. slice_index_or xs k None) c.push_reserved-in-loop.ensures.items
      ∙ get_push c.loop.bags.items None k ∙ c.loop.invariant.none k;
}

pub returns-clause-empty : goal.returns-clause-empty
returns-clause-empty g c = none_in c.loop.bags.items (λ k within. c.loop.invariant.none k)
