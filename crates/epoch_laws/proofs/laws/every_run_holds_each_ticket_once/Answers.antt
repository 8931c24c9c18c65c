use Rattle.epoch_laws.proofs.laws.every_run_holds_each_ticket_once.Goals as goal
use Rattle.epoch_laws.proofs.TicketsOnce.{holds_each_once}

pub returns : goal.returns
returns c = holds_each_once
