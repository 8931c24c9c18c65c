use Rattle.epoch_laws.proofs.laws.every_run_keeps_grace.Goals as goal
use Rattle.epoch_laws.proofs.GraceKept.{every_run_keeps_grace}

pub returns : goal.returns
returns c = every_run_keeps_grace
