use Rattle.std.proofs.Common.{refl}
use Rattle.epoch_structure_laws.specs.MapProgram.{node_key}
use Rattle.epoch_structure_laws.proofs.map.program.key_of.Goals as goal

pub returns : goal.returns
unfolding node_key
returns c = refl
