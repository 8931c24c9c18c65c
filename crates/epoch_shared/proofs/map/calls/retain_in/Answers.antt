use Rattle.std.proofs.Common.{◌∙◌, sym}
use Rattle.epoch_shared.specs.Contents.{IsOfNode}
use Rattle.epoch_shared.proofs.Showing.{shows_another}
use Rattle.epoch_shared.proofs.map.calls.retain_in.Goals as goal

-- the closure was called with one more entry
pub returns-in_err-remove-clause-shown : goal.returns-in_err-remove-clause-shown
returns-in_err-remove-clause-shown g c =
    shows_another g.F.FnMut (IsOfNode g.N.MapNode.key g.N.KeepsEntry.entry) c.loop-entry.invariant.2
    (c.in-Some.entry.now, sym c.key.ensures, sym c.value.ensures) c.show.ensures.called

-- and its entry was removed
pub loop-entry-preserved-then-not-show : goal.loop-entry-preserved-then-not-show
loop-entry-preserved-then-not-show g c = (
  c.remove.ensures.store ∙ c.loop-entry.invariant.0,
  c.show.ensures.callable,
  shows_another g.F.FnMut (IsOfNode g.N.MapNode.key g.N.KeepsEntry.entry) c.loop-entry.invariant.2
      (c.in-Some.entry.now, sym c.key.ensures, sym c.value.ensures) c.show.ensures.called,
)

-- and its entry stays
pub loop-entry-preserved : goal.loop-entry-preserved
loop-entry-preserved g c = (
  c.loop-entry.invariant.0,
  c.show.ensures.callable,
  shows_another g.F.FnMut (IsOfNode g.N.MapNode.key g.N.KeepsEntry.entry) c.loop-entry.invariant.2
      (c.in-Some.entry.now, sym c.key.ensures, sym c.value.ensures) c.show.ensures.called,
)
