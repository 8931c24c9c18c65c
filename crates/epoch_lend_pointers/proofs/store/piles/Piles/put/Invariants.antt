use Rattle.std.proofs.Common.{◌≡◌}
use Rattle.epoch_lend_pointers.proofs.store.piles.Piles.put.Given as goal

-- each place so far handed it back
abbrev pub invariant-loop-step : goal.invariant-loop-step
invariant-loop-step g l = l.kept ≡ l.initial.kept
