use Rattle.std.proofs.Common.{arith}
use Rattle.epoch_tables.specs.TableSteps.{spent}
use Rattle.epoch_tables.proofs.Registering.{new_seat_enters}
use Rattle.epoch_tables.proofs.table.participants.Participants.seat.Goals as goal

pub load_new_seat-requires : goal.load_new_seat-requires
load_new_seat-requires g c = let wide = c.self.invariant.words in (omega arith, new_seat_enters _ _ spent)
