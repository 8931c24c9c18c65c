use Rattle.epoch_laws.proofs.reach.laws.every_loaded_name_stands.Goals as goal
use Rattle.epoch_laws.proofs.LoadedStands.{loaded_stand}

pub returns : goal.returns
returns c s new log fresh run leaves = loaded_stand s new log fresh run leaves
