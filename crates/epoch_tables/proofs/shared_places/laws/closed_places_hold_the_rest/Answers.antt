use Rattle.epoch_tables.proofs.LastContents.{last_have_the_rest}
use Rattle.epoch_tables.proofs.shared_places.laws.closed_places_hold_the_rest.Goals as goal

pub returns : goal.returns
returns g c = last_have_the_rest
