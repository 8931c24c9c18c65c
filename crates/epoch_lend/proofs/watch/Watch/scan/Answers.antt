use Rattle.std.proofs.Common.{refl, sym, subst, ◌∙◌, List}
use native.Mathlib.Omega.{arith}
use Rattle.epoch_lend.specs.Posts.{logs_of}
use Rattle.epoch_lend.specs.Loans.{SeenPost, EachSeen, is_sealed, is_past}
use Rattle.epoch_lend.proofs.Sights.{past_test, each_more, looked, looked_at_all, all_are_shown}
use Rattle.epoch_lend.proofs.watch.Watch.scan.Goals as goal

pub loop-position-init : goal.loop-position-init
loop-position-init c = record {
  loans = refl;
  past = λ _.
      refl;
  sealed = c.requires.sealed;
}

-- the look adds one post, and what was sealed stays so
pub loop-position-preserved : goal.loop-position-preserved
loop-position-preserved c = let kept = c.loop-position.invariant in
    let found = c.look_for-word.result.0 in
    let before = c.loop-position.watch.seen in
    let log = c.index-posts-position.result.log in record {
      loans = c.look_for-word.ensures.same ∙ kept.loans;
      past = λ clear. let told = c.stays_clear-next.ensures clear in
          looked (is_past c.args.seal) c.args.posts.now c.loop-position.position c.index-posts-position.result found
          before c.look_for-word.result.1.seen
          c.loop-position-test.true c.index-posts-position.is (past_test c.args.seal found told.1)
          c.look_for-word.ensures.seen (kept.past told.0);
      sealed = subst (λ (ss : List SeenPost). EachSeen (is_sealed c.args.seal) (logs_of c.args.posts.now) ss) (sym
          c.look_for-word.ensures.seen)
          (each_more (is_sealed c.args.seal) (logs_of c.args.posts.now) (log, found) before kept.sealed);
    }

-- all posts were looked at, before the seal and after it
pub returns-clause-clear : goal.returns-clause-clear
returns-clause-clear c = let kept = c.loop-position.invariant in
    let seal = c.args.seal in
    let ds = c.args.posts.now in
    let watch = c.loop-position.watch in λ clear.
    all_are_shown seal (logs_of ds) watch.seen watch.loans (subst (Rattle.epoch_lend.specs.Loans.Within (logs_of
    ds)) (sym kept.loans) c.requires.lent) kept.sealed
    (looked_at_all (is_past seal) ds c.loop-position.position watch.seen (omega (
      arith,
      c.loop-position-test.false,
    )) (kept.past clear))

pub returns-clause-sealed : goal.returns-clause-sealed
returns-clause-sealed c = c.loop-position.invariant.sealed

pub returns-clause-same : goal.returns-clause-same
returns-clause-same c = c.loop-position.invariant.loans
