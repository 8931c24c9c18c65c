use Rattle.epoch_handles.proofs.Expiries.{expiries_seen}
use Rattle.epoch_handles.proofs.laws.laws.expiries_are_seen.Goals as goal

pub returns : goal.returns
returns g c = expiries_seen
