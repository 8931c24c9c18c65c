use Rattle.std.proofs.Common.{◌≤◌, ◌-◌, vec_len, vec_capacity}
use Rattle.epoch_lend_pointers.proofs.store.piles.Piles.new.Given as goal

-- there is room for all places
abbrev pub invariant-loop-places : goal.invariant-loop-places
invariant-loop-places g l = 64 ≤ vec_capacity l.places

-- as many are left to make
abbrev pub decreases-loop-places : goal.decreases-loop-places
decreases-loop-places g l = 64 - vec_len l.places
