use Rattle.epoch_handles.proofs.PlacesTold.{answers_found}
use Rattle.epoch_handles.proofs.laws.laws.answers_are_found.Goals as goal

pub returns : goal.returns
returns g c = answers_found
