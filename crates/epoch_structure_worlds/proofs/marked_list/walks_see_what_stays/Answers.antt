use Rattle.epoch_structure_worlds.proofs.MarkedListWalks.{walks_see}
use Rattle.epoch_structure_worlds.proofs.marked_list.walks_see_what_stays.Goals as goal

pub returns : goal.returns
returns c = walks_see
