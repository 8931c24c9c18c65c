use Rattle.epoch_structure_worlds.proofs.MarkedListEntries.{are_a_map}
use Rattle.epoch_structure_worlds.proofs.marked_list.entries_are_a_map.Goals as goal

pub returns : goal.returns
returns c = are_a_map
