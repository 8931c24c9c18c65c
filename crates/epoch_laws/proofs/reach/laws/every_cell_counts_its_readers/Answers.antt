use Rattle.epoch_laws.proofs.reach.laws.every_cell_counts_its_readers.Goals as goal
use Rattle.epoch_laws.proofs.ReadingsKept.{every_run_counts}
use Rattle.epoch_laws.proofs.RoomToRead.{has_cells_to_read}

pub returns-clause-counted : goal.returns-clause-counted
returns-clause-counted c s new log fresh run = every_run_counts s new log fresh run

pub returns-clause-room : goal.returns-clause-room
returns-clause-room c s new log fresh run = has_cells_to_read new (every_run_counts s new log fresh run)
