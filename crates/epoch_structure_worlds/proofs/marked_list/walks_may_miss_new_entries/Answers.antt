use Rattle.epoch_structure_worlds.proofs.MarkedListExample.{may_miss}
use Rattle.epoch_structure_worlds.proofs.marked_list.walks_may_miss_new_entries.Goals as goal

pub returns : goal.returns
returns c = may_miss
