use Rattle.std.proofs.Common.{◌≡◌, ◌≤◌, ℕ, Some, length, slice_get, vec_capacity}
use Rattle.epoch_laws.specs.declared.heap.access.Ptr.{Ptr}
use Rattle.epoch_laws.specs.Heap.{null}
use Rattle.epoch_laws.proofs.heap.heap.null_roots.Given as goal

abbrev pub invariant-loop : goal.invariant-loop
invariant-loop l = record {
  room : l.count ≤ vec_capacity l.roots;
  count : length l.roots.items ≡ l.counter;
  null : (i : ℕ) (ptr : Ptr) → slice_get l.roots.items i ≡ Some ptr → ptr ≡ null;
}
