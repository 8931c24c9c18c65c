use Rattle.epoch_handles.proofs.JobsLeft.{leaves_the_rest}
use Rattle.epoch_handles.proofs.laws.laws.an_end_calls_the_rest.Goals as goal

pub returns : goal.returns
returns g c = leaves_the_rest c.no_job_is_lost.ensures c.closed_places_hold_the_rest.ensures
