use Rattle.epoch_laws.proofs.reach.laws.every_run_gives_no_name_twice.Goals as goal
use Rattle.epoch_laws.proofs.NamesOnce.{no_name_twice}

pub returns : goal.returns
returns c s new log fresh run = no_name_twice s new log run
