use Rattle.epoch_handles.proofs.Telling.{replies_found}
use Rattle.epoch_handles.proofs.laws.laws.replies_are_found.Goals as goal

pub returns : goal.returns
returns g c = replies_found
