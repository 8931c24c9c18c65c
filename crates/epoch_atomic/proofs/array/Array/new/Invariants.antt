use Rattle.std.proofs.Common.{◌≡◌, ℕ, ◌<◌, vec_len}
use Rattle.std.specs.Prelude.{Some, None, slice_get}
use Rattle.epoch_atomic.proofs.array.Array.new.Given as goal

abbrev pub invariant-loop : goal.invariant-loop
invariant-loop g l =
    (vec_len l.elements ≡ l.counter) × ((i : ℕ) → i < l.counter → slice_get l.elements.items i ≡ Some None)
