use Rattle.std.proofs.Common.{◌≡◌, take}
use Rattle.epoch_lend.specs.Posts.{logs_of}
use Rattle.epoch_lend.specs.Loans.{EachSeen, is_sealed}
use Rattle.epoch_lend.proofs.watch.Watch.unpinned.Given as goal

-- each post that was looked at was unpinned: no pin there was of epoch 0 or a later one
abbrev pub invariant-loop-position : goal.invariant-loop-position
invariant-loop-position l = record {
  loans : l.watch.loans ≡ l.fn.self.loans;
  unpinned : EachSeen (is_sealed 0) (logs_of (take l.position l.fn.posts)) l.watch.seen;
}
