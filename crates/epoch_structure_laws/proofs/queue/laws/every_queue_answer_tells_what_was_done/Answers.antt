use Rattle.std.proofs.Common.{refl}
use Rattle.epoch_structure_laws.proofs.queue.laws.every_queue_answer_tells_what_was_done.Goals as goal
use Rattle.epoch_structure_laws.proofs.QueueDeedsDone.{begins_with_nothing, deed_passed_on}

pub returns-clause-begins : goal.returns-clause-begins
returns-clause-begins c = begins_with_nothing

pub returns-clause-passes_on : goal.returns-clause-passes_on
returns-clause-passes_on c = deed_passed_on

pub returns-clause-answers : goal.returns-clause-answers
returns-clause-answers c answer = refl
