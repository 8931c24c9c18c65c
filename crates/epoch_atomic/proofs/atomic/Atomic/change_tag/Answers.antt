use Rattle.std.proofs.Common.{inr, arith}
use Rattle.epoch_atomic.proofs.atomic.Atomic.change_tag.Goals as goal

-- each of the 2^64 - 1 tries was lost
pub returns-clause-did : goal.returns-clause-did
returns-clause-did g c = (
  c.loop.invariant.1.0,
  c.loop.counter,
  c.loop.seen,
  c.loop.invariant.1.1,
  c.loop.invariant.1.2,
  c.read.ensures.reads,
  inr (let out = c.loop-test.false in let most = c.loop.auto.counter-end in omega arith),
)
