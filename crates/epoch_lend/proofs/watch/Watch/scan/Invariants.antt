use Rattle.std.proofs.Common.{◌≡◌, true, take}
use Rattle.epoch_lend.specs.Posts.{logs_of}
use Rattle.epoch_lend.specs.Loans.{EachSeen, is_sealed, is_past}
use Rattle.epoch_lend.proofs.watch.Watch.scan.Given as goal

abbrev pub invariant-loop-position : goal.invariant-loop-position
invariant-loop-position l = record {
  loans : l.watch.loans ≡ l.fn.self.loans;
  past : l.clear ≡ true → EachSeen (is_past l.fn.seal) (logs_of (take l.position l.fn.posts)) l.watch.seen;
  sealed : EachSeen (is_sealed l.fn.seal) (logs_of l.fn.posts) l.watch.seen;
}
