use Rattle.std.proofs.Common.{◌*◌, ◌≤◌, refl, sym, subst, ◌∙◌}
use native.Mathlib.Omega.{arith}
use Rattle.epoch_lend.specs.Posts.{logs_of}
use Rattle.epoch_lend.specs.Loans.{Within, is_sealed}
use Rattle.epoch_lend.proofs.Sights.{sealed_test, looked, looked_at_all, all_are_shown, past_if_unpinned}
use Rattle.epoch_lend.proofs.watch.Watch.unpinned.Goals as goal

pub loop-position-init : goal.loop-position-init
loop-position-init c = record { loans = refl; unpinned = refl }

-- the look adds one post
pub loop-position-preserved : goal.loop-position-preserved
loop-position-preserved c = let kept = c.loop-position.invariant in
    let found = c.look_for-word.result.0 in
    let none : found ≤ 2 * 0 = omega (arith, c.if-word-ne0.false) in record {
      loans = c.look_for-word.ensures.same ∙ kept.loans;
      unpinned = looked (is_sealed 0) c.args.posts.now c.loop-position.position c.index-posts-position.result found
          c.loop-position.watch.seen c.look_for-word.result.1.seen c.loop-position-test.true c.index-posts-position.is
          (sealed_test 0 found none) c.look_for-word.ensures.seen kept.unpinned;
    }

-- all posts were looked at
pub returns-clause-clear : goal.returns-clause-clear
returns-clause-clear c = let kept = c.loop-position.invariant in
    let ds = c.args.posts.now in
    let watch = c.loop-position.watch in
    let each = looked_at_all (is_sealed 0) ds c.loop-position.position watch.seen (omega (
      arith,
      c.loop-position-test.false,
    )) kept.unpinned in λ _.
    all_are_shown 0 (logs_of ds) watch.seen watch.loans (subst (Within (logs_of ds)) (sym kept.loans) c.requires.lent)
    each (past_if_unpinned (logs_of ds) watch.seen each)
