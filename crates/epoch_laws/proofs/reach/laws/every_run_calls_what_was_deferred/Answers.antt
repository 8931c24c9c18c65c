use Rattle.epoch_laws.proofs.reach.laws.every_run_calls_what_was_deferred.Goals as goal
use Rattle.epoch_laws.proofs.JobsAsDeferred.{calls_as_deferred}

pub returns : goal.returns
returns c s new log fresh run = calls_as_deferred s new log fresh run
