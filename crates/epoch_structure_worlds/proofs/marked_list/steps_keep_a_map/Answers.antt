use Rattle.epoch_structure_worlds.proofs.MarkedListEntries.{steps_keep}
use Rattle.epoch_structure_worlds.proofs.marked_list.steps_keep_a_map.Goals as goal

pub returns : goal.returns
returns c = steps_keep
