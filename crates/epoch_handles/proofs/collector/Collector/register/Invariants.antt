use Rattle.std.proofs.Common.{◌≡◌, None}
use Rattle.epoch_tables.specs.Table.{IsOf}
use Rattle.epoch_handles.specs.Handles.{FindsEachTaken}
use Rattle.epoch_handles.proofs.collector.Collector.register.Given as goal

abbrev pub invariant-loop-position : goal.invariant-loop-position
invariant-loop-position g l = IsOf l.fn.self.participants l.seat × (l.seat.me.0.position ≡ None)
    × FindsEachTaken l.position l.seat.me.0.looked l.seat.me.0.found
