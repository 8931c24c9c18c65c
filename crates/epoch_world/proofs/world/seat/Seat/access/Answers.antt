use Rattle.std.proofs.Common.{sym, subst}
use Rattle.epoch_laws.specs.Run.{WorldSeat}
use Rattle.epoch_world.specs.Seats.{HasRead}
use Rattle.epoch_world.proofs.RoomForReadings.{has_read}
use Rattle.epoch_world.proofs.world.seat.Seat.access.Goals as goal

pub keep_readings-requires-clause-within : goal.keep_readings-requires-clause-within
keep_readings-requires-clause-within c =
    subst (λ (seat : WorldSeat). HasRead c.args.access c.touch-told.result seat.readings) (sym c.self.view_is)
    (has_read c.args.access c.args.made c.args.found c.args.heap.now _ c.args.self.now.readings
    c.touch-told.ensures.step c.requires.room)
