use Rattle.std.specs.Fn.{CalledAt}
use Rattle.epoch_shared.specs.Contents.{IsInNode}
use Rattle.epoch_shared.specs.Updates.{GoesOn}
use Rattle.epoch_shared.proofs.value.ValueHold.update_in.Given as goal

-- the closure may be called again, and has come to its state by calls at some values
abbrev pub invariant-loop : goal.invariant-loop
invariant-loop g l =
    goal.F-IsAlwaysCallable g l.change
    × GoesOn (IsInNode g.N.Wraps.inside) (CalledAt g.F.FnMut) l.fn.change l.change
