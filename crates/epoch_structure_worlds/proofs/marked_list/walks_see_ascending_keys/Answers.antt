use Rattle.epoch_structure_worlds.proofs.MarkedListRises.{walks_ascend}
use Rattle.epoch_structure_worlds.proofs.marked_list.walks_see_ascending_keys.Goals as goal

pub returns : goal.returns
returns c = walks_ascend
