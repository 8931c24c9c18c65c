use Rattle.epoch_shared.specs.Contents.{IsOfNode}
use Rattle.epoch_shared.specs.Showing.{GoesOver}
use Rattle.epoch_shared.proofs.map.calls.go_over.Given as goal

-- the closure may be called again, and has come to its state by calls with entries
abbrev pub invariant-loop-entry : goal.invariant-loop-entry
invariant-loop-entry g l =
    goal.F-IsAlwaysCallable g l.each
    × GoesOver g.F.FnMut (IsOfNode g.N.MapNode.key g.N.KeepsEntry.entry) l.fn.each l.each
