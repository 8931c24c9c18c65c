use Rattle.std.proofs.Common.{rules, of_calls}
use native.Mathlib.Numerals.{unary_clauses}
use Rattle.epoch_atomic.proofs.atomic.Atomic.try_updates.Goals as goal

-- one more try is lost, whose exchange expected the word found before
pub loop-preserved : goal.loop-preserved
loop-preserved g c = (
  c.in-Err.ensures.err.1,
  search of_calls,
  (
    c.loop.invariant.2.0,
    c.loop.invariant.2.1,
    simp unary_clauses (
      c.loop.f,
      c.loop.seen,
      c.read-before.result,
      c.in-Some.next,
      c.loop.invariant.2.2,
      (c.read-before.ensures.reads, c.read-before.ensures.home),
      search rules,
      c.in-Err.ensures.lost,
    ),
  ),
)
