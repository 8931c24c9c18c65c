use Rattle.std.proofs.Common.{◌≡◌, ℕ, ◌<◌, None, slice_index_or}
use Rattle.epoch_bags.proofs.queue.places.PlacesBagStore.take_any.Given as goal

abbrev pub invariant-loop-place : goal.invariant-loop-place
invariant-loop-place g l = record {
  none : (k : ℕ) → k < l.place → slice_index_or l.self.bags k None ≡ None;
  same : l.self ≡ l.fn.self;
}
