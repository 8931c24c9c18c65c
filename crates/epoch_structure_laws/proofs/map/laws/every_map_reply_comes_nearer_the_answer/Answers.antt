use Rattle.epoch_structure_laws.proofs.map.laws.every_map_reply_comes_nearer_the_answer.Goals as goal
use Rattle.epoch_structure_laws.proofs.MapCallsLeft.{map_lowered}

pub returns : goal.returns
returns c = map_lowered
