use Rattle.std.proofs.Common.{◌≡◌, refl, sym, subst, ◌∙◌, List, ℕ, true}
use native.Mathlib.Omega.{arith}
use Rattle.epoch_lend.specs.Posts.{logs_of}
use Rattle.epoch_lend.specs.Loans.{is_sealed}
use Rattle.epoch_lend.proofs.Sights.{sealed_test, looked, looked_at_all, later_sealed}
use Rattle.epoch_lend.proofs.watch.Watch.seal.Goals as goal

pub loop-position-init : goal.loop-position-init
loop-position-init c = record { loans = refl; sealed = refl }

-- the look adds one post, and those before stay sealed by a later seal
pub loop-position-preserved : goal.loop-position-preserved
loop-position-preserved c = let kept = c.loop-position.invariant in
    let later = c.sealed_past-later.result in record {
      loans = c.look_for-word.ensures.same ∙ kept.loans;
      sealed = looked (is_sealed later) c.args.posts.now c.loop-position.position c.index-posts-position.result
          c.look_for-word.result.0 c.loop-position.watch.seen c.look_for-word.result.1.seen
          c.loop-position-test.true c.index-posts-position.is (sealed_test later c.look_for-word.result.0
          c.sealed_past-later.ensures.1) c.look_for-word.ensures.seen
          (later_sealed c.loop-position.seal later (logs_of (Rattle.std.proofs.Common.take c.loop-position.position
          c.args.posts.now)) c.loop-position.watch.seen c.sealed_past-later.ensures.0 kept.sealed);
    }

pub returns-clause-sealed : goal.returns-clause-sealed
returns-clause-sealed c = looked_at_all (is_sealed c.loop-position.seal) c.args.posts.now c.loop-position.position
    c.loop-position.watch.seen (omega (arith, c.loop-position-test.false)) c.loop-position.invariant.sealed

pub returns-clause-same : goal.returns-clause-same
returns-clause-same c = c.loop-position.invariant.loans
