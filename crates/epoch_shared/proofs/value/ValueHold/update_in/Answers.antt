use Rattle.std.specs.Fn.{CalledAt}
use Rattle.epoch_shared.specs.Contents.{IsInNode}
use Rattle.epoch_shared.proofs.Updates.{goes_on}
use Rattle.epoch_shared.proofs.value.ValueHold.update_in.Goals as goal

-- this try has called the closure once more, or not at all
pub loop-preserved : goal.loop-preserved
loop-preserved g c = (
  c.change_once-changed.ensures.callable,
  goes_on (IsInNode g.N.Wraps.inside) (CalledAt g.F.FnMut) c.loop.invariant.1 c.change_once-changed.ensures.calls,
)
