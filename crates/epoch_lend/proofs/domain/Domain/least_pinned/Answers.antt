use Rattle.std.proofs.Common.{ℕ}
use native.Mathlib.Omega.{arith}
use Rattle.epoch_lend.specs.Grace.{PinStep}
use Rattle.epoch_lend.proofs.Passing.{all_passed_lower, all_passed_more}
use Rattle.epoch_lend.proofs.domain.Domain.least_pinned.Goals as goal

-- the look adds one post
pub loop-position-preserved : goal.loop-position-preserved
loop-position-preserved g c =
    let less = c.least_with-least.ensures in
    all_passed_more (g.S.PinSteps.did g.J.PostSet.posts) c.load_clock-clock.result c.loop-position.least
    c.least_with-least.result c.loop-position.position c.look-word.result less.lesser c.look-word.ensures.did
    less.passes c.loop-position.invariant

-- each post was looked at
pub returns-clause-passes : goal.returns-clause-passes
returns-clause-passes g c epoch reached least =
    let did : PinStep → Type 0 = g.S.PinSteps.did g.J.PostSet.posts in
    let clock : ℕ = c.load_clock-clock.result in (
      clock,
      reached,
      λ position within. all_passed_lower did clock epoch c.loop-position.least c.loop-position.position
          least c.loop-position.invariant position (omega (
            arith,
            within,
            c.loop-position-test.false,
            c.len-position-end.ensures,
          )),
    )
