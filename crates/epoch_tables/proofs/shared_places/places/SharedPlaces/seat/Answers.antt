use Rattle.std.proofs.Common.{[], None, arith}
use Rattle.epoch_tables.specs.SharedPlaces.{with_claim}
use Rattle.epoch_tables.proofs.PlaceLooks.{new_seat_enters}
use Rattle.epoch_tables.proofs.shared_places.places.SharedPlaces.seat.Goals as goal

pub load_new_seat-requires : goal.load_new_seat-requires
load_new_seat-requires g c = let wide = c.self.invariant.words in
    let some = c.self.invariant.some in
    (omega arith, new_seat_enters _ _ (with_claim None [] [] [] []))
