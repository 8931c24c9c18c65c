use Rattle.epoch_structure_worlds.proofs.MarkedListHindsight.{missed_had_none}
use Rattle.epoch_structure_worlds.proofs.marked_list.missed_keys_had_no_entry.Goals as goal

pub returns : goal.returns
returns c = missed_had_none
