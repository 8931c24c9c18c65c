use Rattle.std.proofs.Common.{◌≡◌}
use Rattle.epoch_shared.specs.Contents.{IsOfNode}
use Rattle.epoch_shared.specs.Showing.{GoesOver}
use Rattle.epoch_shared.proofs.map.calls.retain_in.Given as goal

-- the writer is of the same store, and the closure may be called again and has come to its state by calls with entries
abbrev pub invariant-loop-entry : goal.invariant-loop-entry
invariant-loop-entry g l =
    (l.writer.store ≡ l.fn.writer.store)
    × goal.F-IsAlwaysCallable g l.keep
    × GoesOver g.F.FnMut (IsOfNode g.N.MapNode.key g.N.KeepsEntry.entry) l.fn.keep l.keep
