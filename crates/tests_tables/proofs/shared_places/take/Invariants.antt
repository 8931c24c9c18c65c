use Rattle.std.proofs.Common.{◌≡◌, []}
use Rattle.epoch_tables.specs.SharedPlaces.{IsSamePlaceSeat}
use Rattle.epoch_tables.specs.SharedSteps.{TakesAt}
use Rattle.tests_tables.proofs.shared_places.take.Given as goal

abbrev pub invariant-loop : goal.invariant-loop
invariant-loop l = record {
  kept : IsSamePlaceSeat l.initial.seat l.seat;
  at : TakesAt l.places.capacity l.expiry.number l.cursor l.seat.me;
  empty : l.hand.jobs ≡ [];
}
