use Rattle.std.proofs.Common.{◌-◌, arith}
use Rattle.epoch_structure_laws.specs.declared.queue.plan.QueuePhase.TheVariants.{LoadingTail, Answering}
use Rattle.epoch_structure_laws.specs.declared.queue.plan.QueueAnswer.TheVariants.{Pushed}
use Rattle.epoch_structure_laws.specs.QueueProgram.{retry_push}
use Rattle.epoch_structure_calls.proofs.QueueNextPhases.{push_goes_on}
use Rattle.epoch_structure_calls.proofs.QueueTries.{touches_from}
use Rattle.epoch_structure_calls.proofs.queue.tries.appended.Goals as goal

-- this try was made
pub returns-then-appended_once-clause-pushed : goal.returns-then-appended_once-clause-pushed
returns-then-appended_once-clause-pushed g c pushed =
    let left = c.loop-left.left in
    touches_from g.L.Spots.does (retry_push c.args.node c.args.tries) (retry_push c.args.node left)
    (LoadingTail c.args.node (left - 1)) (Answering Pushed) c.args.spots.now c.loop-left.spots
    c.appended_once.new.spots c.loop-left.invariant.1 (push_goes_on c.args.node left c.loop-left-test.true)
    (c.appended_once.ensures.pushed c.if-appended_once.true (left - 1))

-- it was lost
pub loop-left-preserved : goal.loop-left-preserved
loop-left-preserved g c =
    let left = c.loop-left.left in (
      omega arith,
      touches_from g.L.Spots.does (retry_push c.args.node c.args.tries) (retry_push c.args.node left)
          (LoadingTail c.args.node (left - 1)) (retry_push c.args.node (left - 1)) c.args.spots.now c.loop-left.spots
          c.appended_once.new.spots c.loop-left.invariant.1 (push_goes_on c.args.node left c.loop-left-test.true)
          (c.appended_once.ensures.lost c.if-appended_once.false (left - 1)),
    )
