use Rattle.epoch_tables.proofs.ends.end.end_next.Goals as goal

-- the bag that was in the next place
pub returns : goal.returns
returns g c = record {
  next = record {
    bag = c.take_next-bag.result;
    first = c.take_next-bag.ensures;
    calls = c.end_bag-count.ensures.called;
    counts = c.end_bag-count.ensures.count;
    few = c.end_bag-count.ensures.few;
  };
}
