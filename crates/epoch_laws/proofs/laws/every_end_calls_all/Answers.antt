use Rattle.epoch_laws.proofs.laws.every_end_calls_all.Goals as goal
use Rattle.epoch_laws.proofs.TicketsOnce.{end_calls_all}

pub returns : goal.returns
returns c = end_calls_all
