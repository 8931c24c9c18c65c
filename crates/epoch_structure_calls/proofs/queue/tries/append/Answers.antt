use Rattle.std.proofs.Common.{◌≡◌, None, ap, refl}
use Rattle.epoch_laws.specs.declared.step.Reply.{Reply}
use Rattle.epoch_structure_calls.proofs.Touched.{begins_touching}
use Rattle.epoch_structure_calls.proofs.PathSteps.{path_is_over}
use Rattle.epoch_structure_laws.specs.Plans.{Answers, after_by}
use Rattle.epoch_structure_laws.specs.declared.queue.plan.QueuePhase.TheVariants.{TakingBack, Answering}
use Rattle.epoch_structure_laws.specs.declared.queue.plan.QueueAnswer.TheVariants.{Pushed}
use Rattle.epoch_structure_laws.specs.QueueProgram.{queue_deed_of, retry_push}
use Rattle.epoch_structure_calls.proofs.QueueNextPhases.{taking_back_leaks}
use Rattle.epoch_structure_calls.proofs.QueueTries.{call_ends}
use Rattle.epoch_structure_calls.proofs.queue.tries.append.Goals as goal
use Rattle.epoch_structure_calls.proofs.queue.tries.append.Goals.{in-Done, in_default}

-- the node was appended
pub returns-then-appended-clause-does : goal.returns-then-appended-clause-does
returns-then-appended-clause-does g c =
    begins_touching g.L.Spots.does (queue_deed_of 0) g.K.Keeps.keeping (retry_push c.args.node c.args.tries)
    (Answering Pushed) c.args.handle.now c.args.handle.now c.args.spots.now c.appended.new.spots c.appended.new.spots
    Pushed None (c.appended.ensures.pushed c.if-appended.true)
    (path_is_over g.L.Spots.does g.K.Keeps.keeping (queue_deed_of 0) (Answering Pushed) c.args.handle.now
    c.appended.new.spots Pushed refl)

-- each try was lost
pub returns-clause-does : goal.returns-clause-does
returns-clause-does g c =
    let back = TakingBack c.args.node in
    let answers : queue_deed_of 0 (after_by back (queue_deed_of 0 back) c.keep-reply.result)
    ≡ Answers c.match-reply.answer =
    elim c.match-reply.branch [
      | in-Done w ↦ cc (ap (λ (r : Reply). queue_deed_of 0 (after_by back (queue_deed_of 0 back) r)) w.in-Done.is)
      | in_default w ↦ cc (taking_back_leaks c.args.node c.keep-reply.result w.in_default.not-Done)
    ] in
    begins_touching g.L.Spots.does (queue_deed_of 0) g.K.Keeps.keeping (retry_push c.args.node c.args.tries) back
    c.args.handle.now c.keep-reply.new.handle c.args.spots.now c.appended.new.spots c.appended.new.spots
    c.match-reply.answer c.newest.result (c.appended.ensures.lost c.if-appended.false)
    (call_ends g.L.Spots.does g.K.Keeps.keeping back c.keep-reply.result c.args.handle.now c.keep-reply.new.handle
    c.appended.new.spots c.appended.new.spots c.match-reply.answer c.newest.result (c.keep-reply.ensures.kept, refl)
    answers c.newest.ensures)
