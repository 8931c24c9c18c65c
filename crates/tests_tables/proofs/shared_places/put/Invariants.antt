use Rattle.epoch_tables.specs.SharedPlaces.{IsPlaceSeatOf}
use Rattle.epoch_tables.specs.SharedSteps.{PutsAt}
use Rattle.tests_tables.proofs.shared_places.put.Given as goal

abbrev pub invariant-loop : goal.invariant-loop
invariant-loop l = record {
  of : IsPlaceSeatOf l.places l.seat;
  at : PutsAt l.places.capacity l.cursor l.seat.me;
}
