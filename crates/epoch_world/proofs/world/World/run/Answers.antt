use Rattle.std.proofs.Common.{arith, ap, ◌∙◌, length, length-append, subst}
use Rattle.epoch_laws.proofs.RunsGoOn.{runs_more, runs_whole, runs_append}
use Rattle.epoch_laws.proofs.GraceKept.{every_run_keeps_grace}
use Rattle.epoch_laws.proofs.TicketsOnce.{holds_each_once, end_calls_all}
use Rattle.epoch_laws.proofs.TicketsNumbered.{numbers_tickets}
use Rattle.epoch_laws.proofs.EndsCounted.{ends_at_count}
use Rattle.epoch_laws.proofs.FullFound.{found_full}
use Rattle.epoch_world.specs.StoreSteps.{MakesOneStep}
use Rattle.epoch_world.proofs.AcceptedCalls.{run_is_lawful}
use Rattle.epoch_world.proofs.SteppedOnce.{by_more, by_whole}
use Rattle.epoch_laws.proofs.PutFound.{rounds_call_all}
use Rattle.epoch_laws.proofs.EachCollectsFew.{collects_few}
use Rattle.epoch_laws.proofs.RefusalsLeave.{refused_along}
use Rattle.epoch_laws.specs.declared.step.Step.{Step}
use Rattle.epoch_laws.specs.Run.{TakesStep}
use Rattle.epoch_laws.proofs.ReachRuns.{every_run_keeps_reach}
use Rattle.epoch_laws.proofs.MeetKept.{every_run_keeps_met}
use Rattle.epoch_laws.specs.Meeting.{tested}
use Rattle.epoch_laws.proofs.LoadedStands.{loaded_stand}
use Rattle.epoch_laws.proofs.NamesOnce.{no_name_twice}
use Rattle.epoch_laws.proofs.CellsKept.{cells_stand}
use Rattle.epoch_laws.proofs.JobsAsDeferred.{calls_as_deferred}
use Rattle.epoch_world.proofs.world.World.run.Goals as goal

pub loop-step-preserved : goal.loop-step-preserved
loop-step-preserved g c = record {
  run = runs_more _ _ _ c.args.steps.now c.loop-step.step-index _ c.loop-step.replies.items _ c.step-reply.result
      (omega arith)
      c.loop-step.invariant.count c.push_reserved.ensures.items c.loop-step.invariant.run
      (subst (λ (step : Step). TakesStep c.loop-step.self step c.step-reply.result c.step-reply.new.self)
      c.step-item.is c.step-reply.ensures.takes);
  once = by_more (MakesOneStep g.S.BagStore.queued g.S.BagStore.occupied g.S.BagStore.passed g.S.BagStore.ahead
      g.S.BagStore.has_room g.S.BagStore.PutMoves g.S.BagStore.TakeMoves) _ _ _ c.args.steps.now
      c.loop-step.step-index _ c.loop-step.replies.items _
      c.step-reply.result (omega arith)
      c.loop-step.invariant.count c.push_reserved.ensures.items c.loop-step.invariant.once
      (subst (λ (step : Step). TakesStep c.loop-step.self step c.step-reply.result c.step-reply.new.self)
      c.step-item.is c.step-reply.ensures.takes)
      (subst (λ (step : Step). MakesOneStep g.S.BagStore.queued g.S.BagStore.occupied g.S.BagStore.passed
      g.S.BagStore.ahead
      g.S.BagStore.has_room g.S.BagStore.PutMoves g.S.BagStore.TakeMoves c.loop-step.self step c.step-reply.new.self)
      c.step-item.is c.step-reply.ensures.one_step);
  count = ap length c.push_reserved.ensures.items ∙ simp length-append (omega arith);
  room = omega arith;
}

pub returns-clause-one_step : goal.returns-clause-one_step
returns-clause-one_step g c =
    by_whole (MakesOneStep g.S.BagStore.queued g.S.BagStore.occupied g.S.BagStore.passed g.S.BagStore.ahead
    g.S.BagStore.has_room g.S.BagStore.PutMoves g.S.BagStore.TakeMoves) _ _ c.args.steps.now c.loop-step.step-index _
    (omega arith) c.loop-step.invariant.once

pub returns-clause-grace : goal.returns-clause-grace
returns-clause-grace g c fresh earlier new run =
    every_run_keeps_grace fresh _ _ new (runs_append _ _ _ earlier _ run
    (runs_whole _ _ c.args.steps.now c.loop-step.step-index _ (omega arith) c.loop-step.invariant.run))

pub returns-clause-once : goal.returns-clause-once
returns-clause-once g c fresh earlier new run =
    holds_each_once fresh _ _ new (runs_append _ _ _ earlier _ run
    (runs_whole _ _ c.args.steps.now c.loop-step.step-index _ (omega arith) c.loop-step.invariant.run))

pub returns-clause-tickets : goal.returns-clause-tickets
returns-clause-tickets g c fresh earlier new run =
    numbers_tickets fresh _ _ new (runs_append _ _ _ earlier _ run
    (runs_whole _ _ c.args.steps.now c.loop-step.step-index _ (omega arith) c.loop-step.invariant.run))

pub returns-clause-lawful : goal.returns-clause-lawful
returns-clause-lawful g c fresh earlier new run =
    run_is_lawful fresh _ _ new (runs_append _ _ _ earlier _ run
    (runs_whole _ _ c.args.steps.now c.loop-step.step-index _ (omega arith) c.loop-step.invariant.run))

pub returns-clause-full : goal.returns-clause-full
returns-clause-full g c fresh earlier new run = found_full fresh _ _ new

pub returns-clause-all_called : goal.returns-clause-all_called
returns-clause-all_called g c fresh earlier new run over =
    end_calls_all fresh _ _ new (runs_append _ _ _ earlier _ run
    (runs_whole _ _ c.args.steps.now c.loop-step.step-index _ (omega arith) c.loop-step.invariant.run)) over

pub returns-clause-ended : goal.returns-clause-ended
returns-clause-ended g c fresh earlier new run =
    ends_at_count fresh _ _ new (runs_append _ _ _ earlier _ run
    (runs_whole _ _ c.args.steps.now c.loop-step.step-index _ (omega arith) c.loop-step.invariant.run))

pub returns-clause-rounds : goal.returns-clause-rounds
returns-clause-rounds g c fresh start earlier since new run more =
    rounds_call_all fresh start _ earlier _ new run (runs_append _ _ _ since _ more
    (runs_whole _ _ c.args.steps.now c.loop-step.step-index _ (omega arith) c.loop-step.invariant.run))

pub returns-clause-few : goal.returns-clause-few
returns-clause-few g c fresh earlier new run whole = collects_few fresh _ _ new whole

pub returns-clause-refused : goal.returns-clause-refused
returns-clause-refused g c fresh earlier new run whole = refused_along fresh _ _ new whole

pub returns-clause-reach : goal.returns-clause-reach
returns-clause-reach g c fresh earlier new run whole = every_run_keeps_reach fresh _ _ new whole

pub returns-clause-loaded : goal.returns-clause-loaded
returns-clause-loaded g c fresh earlier new run whole leaves = loaded_stand fresh _ _ new whole leaves

pub returns-clause-met : goal.returns-clause-met
returns-clause-met g c fresh earlier new run tests whole = every_run_keeps_met (tested tests) fresh _ _ new whole

pub returns-clause-given : goal.returns-clause-given
returns-clause-given g c fresh earlier new run whole = no_name_twice fresh _ _ whole

pub returns-clause-stands : goal.returns-clause-stands
returns-clause-stands g c fresh earlier new run whole = cells_stand fresh _ _ new whole

pub returns-clause-removals : goal.returns-clause-removals
returns-clause-removals g c fresh earlier new run whole = calls_as_deferred fresh _ _ new whole
