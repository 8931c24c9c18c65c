use Rattle.epoch_structure_laws.proofs.QueueLoneRuns.{no_lone_queue_call_runs_out_of_tries}
use Rattle.epoch_structure_laws.proofs.queue.replies.no_lone_queue_call_runs_out_of_tries.Goals as goal

pub returns : goal.returns
returns c = no_lone_queue_call_runs_out_of_tries
