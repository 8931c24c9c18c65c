use Rattle.std.specs.VecDeque.{deque_len}
use Rattle.epoch_lend_pointers.proofs.store.piles.Pile.abandon.Given as goal

-- as many things are left
abbrev pub decreases-loop-thing : goal.decreases-loop-thing
decreases-loop-thing g l = deque_len l.rest
