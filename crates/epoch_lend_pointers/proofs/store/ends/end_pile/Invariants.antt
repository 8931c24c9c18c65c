use Rattle.std.specs.VecDeque.{deque_len}
use Rattle.epoch_lend_pointers.proofs.store.ends.end_pile.Given as goal

-- as many batches are left
abbrev pub decreases-loop-waiting : goal.decreases-loop-waiting
decreases-loop-waiting g l = deque_len l.many
