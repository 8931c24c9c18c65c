use Rattle.epoch_structure_laws.proofs.map.laws.every_not_found_found_none.Goals as goal
use Rattle.epoch_structure_laws.proofs.MapFound.{every_not_found_found_none}

pub returns : goal.returns
returns c = every_not_found_found_none
