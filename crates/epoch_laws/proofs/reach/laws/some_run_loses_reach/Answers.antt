use Rattle.epoch_laws.proofs.reach.laws.some_run_loses_reach.Goals as goal
use Rattle.epoch_laws.proofs.ReachLost.{some_run_loses}

pub returns : goal.returns
returns c = some_run_loses
