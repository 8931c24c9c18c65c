use Rattle.epoch_structure_worlds.proofs.MarkedListOrder.{stays_sorted}
use Rattle.epoch_structure_worlds.proofs.marked_list.lists_stay_sorted.Goals as goal

pub returns : goal.returns
returns c = stays_sorted
