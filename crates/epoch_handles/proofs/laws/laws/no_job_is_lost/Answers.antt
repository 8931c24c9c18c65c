use Rattle.epoch_handles.proofs.JobsKept.{loses_no_job}
use Rattle.epoch_handles.proofs.laws.laws.no_job_is_lost.Goals as goal

-- what all participants left in places is what they won there and what is at home
pub returns : goal.returns
returns g c = loses_no_job c.no_bag_is_lost.ensures
