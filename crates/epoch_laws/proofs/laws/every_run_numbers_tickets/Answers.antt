use Rattle.epoch_laws.proofs.laws.every_run_numbers_tickets.Goals as goal
use Rattle.epoch_laws.proofs.TicketsNumbered.{numbers_tickets}

pub returns : goal.returns
returns c = numbers_tickets
