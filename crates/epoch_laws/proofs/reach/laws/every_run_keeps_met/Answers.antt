use Rattle.epoch_laws.proofs.reach.laws.every_run_keeps_met.Goals as goal
use Rattle.epoch_laws.proofs.MeetKept.{every_run_keeps_met}

pub returns : goal.returns
returns g c = every_run_keeps_met _
