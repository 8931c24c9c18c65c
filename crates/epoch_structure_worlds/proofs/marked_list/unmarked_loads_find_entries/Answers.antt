use Rattle.epoch_structure_worlds.proofs.MarkedListEntries.{loads_find}
use Rattle.epoch_structure_worlds.proofs.marked_list.unmarked_loads_find_entries.Goals as goal

pub returns : goal.returns
returns c = loads_find
