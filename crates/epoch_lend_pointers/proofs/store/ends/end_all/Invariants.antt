use Rattle.std.proofs.Common.{vec_len}
use Rattle.epoch_lend_pointers.proofs.store.ends.end_all.Given as goal

-- as many places are left
abbrev pub decreases-loop-place : goal.decreases-loop-place
decreases-loop-place g l = vec_len l.places
