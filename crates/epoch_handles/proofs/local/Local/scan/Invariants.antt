use Rattle.std.proofs.Common.{◌<◌, ◌^◌}
use Rattle.epoch_handles.proofs.Scanning.{HasPassed}
use Rattle.epoch_handles.proofs.local.Local.scan.Given as goal

abbrev pub invariant-loop-position : goal.invariant-loop-position
invariant-loop-position g l = record {
  small : l.epoch < 2 ^ 63;
  passed : HasPassed l.fn.self l.epoch l.position l.self;
}
