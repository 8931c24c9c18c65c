use Rattle.std.proofs.Common.{vec_len}
use Rattle.epoch_lend_pointers.proofs.store.batch.SealedBatch.abandon.Given as goal

-- as many removals are left
abbrev pub decreases-loop-removal : goal.decreases-loop-removal
decreases-loop-removal g l = vec_len l.rest
