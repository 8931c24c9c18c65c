use Rattle.epoch_handles.proofs.ThreadsLeft.{some_threads_leave}
use Rattle.epoch_handles.proofs.laws.laws.some_threads_leave_a_job.Goals as goal

pub returns : goal.returns
returns g c = some_threads_leave
