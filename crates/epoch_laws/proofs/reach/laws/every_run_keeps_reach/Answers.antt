use Rattle.epoch_laws.proofs.reach.laws.every_run_keeps_reach.Goals as goal
use Rattle.epoch_laws.proofs.ReachRuns.{every_run_keeps_reach}

pub returns : goal.returns
returns c = every_run_keeps_reach
