use Rattle.std.proofs.Common.{sym}
use Rattle.epoch_shared.specs.Contents.{IsOfNode}
use Rattle.epoch_shared.proofs.Showing.{shows_another}
use Rattle.epoch_shared.proofs.map.calls.go_over.Goals as goal

-- the closure was called with one more entry
pub loop-entry-preserved : goal.loop-entry-preserved
loop-entry-preserved g c = (
  c.show.ensures.callable,
  shows_another g.F.FnMut (IsOfNode g.N.MapNode.key g.N.KeepsEntry.entry) c.loop-entry.invariant.1
      (c.in-Some.entry.now, sym c.key.ensures, sym c.value.ensures) c.show.ensures.called,
)
