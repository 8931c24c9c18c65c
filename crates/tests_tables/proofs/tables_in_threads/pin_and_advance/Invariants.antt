use Rattle.std.proofs.Common.{◌≡◌, Some}
use Rattle.epoch_tables.specs.Table.{IsSameSeat}
use Rattle.tests_tables.proofs.tables_in_threads.pin_and_advance.Given as goal

abbrev pub invariant-loop-other : goal.invariant-loop-other
invariant-loop-other l = record {
  kept : IsSameSeat l.initial.seat l.seat;
  own : l.seat.me.0.position ≡ Some l.position;
  scan : l.seat.me.0.scan ≡ Some (l.epoch, l.other);
}
