use Rattle.epoch_laws.proofs.reach.laws.every_name_stands_or_is_destroyed.Goals as goal
use Rattle.epoch_laws.proofs.CellsKept.{cells_stand}

pub returns : goal.returns
returns c s new log fresh run = cells_stand s new log fresh run
