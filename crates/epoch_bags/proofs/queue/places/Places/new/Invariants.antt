use Rattle.std.proofs.Common.{◌≡◌, ℕ, ◌<◌, ◌≤◌, None, slice_index_or, length, vec_capacity}
use Rattle.epoch_bags.proofs.queue.places.Places.new.Given as goal

abbrev pub invariant-loop : goal.invariant-loop
invariant-loop g l = record {
  room_words : l.capacity ≤ vec_capacity l.words;
  room_bags : l.capacity < vec_capacity l.bags;
  words : length l.words.items ≡ l.counter;
  bags : length l.bags.items ≡ l.counter;
  empty : (k : ℕ) → slice_index_or l.words.items k 0 ≡ 0;
  none : (k : ℕ) → slice_index_or l.bags.items k None ≡ None;
}
