use Rattle.std.proofs.Common.{◌≡◌, ℕ, ◌+◌, ◌*◌, ◌<◌, ◌≤◌, None, drop, slice_index_or}
use Rattle.epoch_bags.specs.Jobs.{IsCalled}
use Rattle.epoch_tables.specs.Ends.{jobs_in, IsBagCalled}
use Rattle.epoch_tables.proofs.ends.end.end_bags.Given as goal

abbrev pub invariant-loop-place : goal.invariant-loop-place
invariant-loop-place g l = record {
  count : l.count + jobs_in (drop l.place l.bags) ≡ jobs_in l.fn.bags;
  few : l.count ≤ 64 * l.place;
  called : (k : ℕ) → k < l.place → IsBagCalled (IsCalled g.W.Run.done g.W.Removing.Remove.tried)
      (slice_index_or l.fn.bags k None);
  left : (k : ℕ) → l.place ≤ k → slice_index_or l.bags k None ≡ slice_index_or l.fn.bags k None;
  none : (k : ℕ) → k < l.place → slice_index_or l.bags k None ≡ None;
}
