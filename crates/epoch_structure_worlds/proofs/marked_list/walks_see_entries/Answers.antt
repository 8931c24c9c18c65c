use Rattle.epoch_structure_worlds.proofs.MarkedListSeen.{walks_saw_entries}
use Rattle.epoch_structure_worlds.proofs.marked_list.walks_see_entries.Goals as goal

pub returns : goal.returns
returns c = walks_saw_entries
