use Rattle.epoch_laws.proofs.laws.every_full_reply_found_each_place.Goals as goal
use Rattle.epoch_laws.proofs.FullFound.{found_full}

pub returns : goal.returns
returns c = found_full
