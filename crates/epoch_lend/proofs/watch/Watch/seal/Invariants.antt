use Rattle.std.proofs.Common.{◌≡◌, take}
use Rattle.epoch_lend.specs.Posts.{logs_of}
use Rattle.epoch_lend.specs.Loans.{EachSeen, is_sealed}
use Rattle.epoch_lend.proofs.watch.Watch.seal.Given as goal

abbrev pub invariant-loop-position : goal.invariant-loop-position
invariant-loop-position l = record {
  loans : l.watch.loans ≡ l.fn.self.loans;
  sealed : EachSeen (is_sealed l.seal) (logs_of (take l.position l.fn.posts)) l.watch.seen;
}
