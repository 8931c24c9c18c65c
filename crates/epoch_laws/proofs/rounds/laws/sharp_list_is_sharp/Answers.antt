use Rattle.epoch_laws.proofs.rounds.laws.sharp_list_is_sharp.Goals as goal
use Rattle.epoch_laws.proofs.SharpList.{sharp}

pub returns : goal.returns
returns c fresh new log is_fresh sized at_first some list = sharp fresh new log is_fresh sized at_first some list
