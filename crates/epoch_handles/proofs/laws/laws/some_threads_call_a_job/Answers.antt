use Rattle.epoch_handles.proofs.ThreadsShown.{some_threads_call}
use Rattle.epoch_handles.proofs.laws.laws.some_threads_call_a_job.Goals as goal

pub returns : goal.returns
returns g c = some_threads_call
