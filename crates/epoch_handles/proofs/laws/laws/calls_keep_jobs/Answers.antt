use Rattle.epoch_handles.proofs.JobsKept.{keeps_jobs_in_call}
use Rattle.epoch_handles.proofs.laws.laws.calls_keep_jobs.Goals as goal

pub returns : goal.returns
returns g c = keeps_jobs_in_call
