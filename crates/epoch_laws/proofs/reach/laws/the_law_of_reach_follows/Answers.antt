use Rattle.epoch_laws.proofs.reach.laws.the_law_of_reach_follows.Goals as goal
use Rattle.epoch_laws.proofs.ReachMet.{leaves_well, keeps_loaded}

pub returns-clause-leaves : goal.returns-clause-leaves
returns-clause-leaves c = leaves_well

pub returns-clause-reach : goal.returns-clause-reach
returns-clause-reach c s new log fresh run leaves = keeps_loaded s new log fresh run
    (c.every_run_keeps_met.ensures s new log fresh run (leaves_well s new log fresh run leaves))
