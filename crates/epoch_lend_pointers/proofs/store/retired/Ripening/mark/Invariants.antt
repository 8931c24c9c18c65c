use Rattle.std.proofs.Common.{◌≤◌, vec_len, vec_capacity}
use Rattle.epoch_lend_pointers.proofs.store.retired.Ripening.mark.Given as goal

-- no more values were marked than spots were gone over, and there is room for all
abbrev pub invariant-loop-position : goal.invariant-loop-position
invariant-loop-position g l = (vec_len l.removals.removals ≤ l.position) × (64 ≤ vec_capacity l.removals.removals)
