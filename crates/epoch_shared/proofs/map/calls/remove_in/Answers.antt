use Rattle.std.proofs.Common.{refl}
use Rattle.epoch_shared.proofs.map.calls.remove_in.Goals as goal

-- the entry is the one that was removed
pub returns-in-Ok-Some-clause-removed : goal.returns-in-Ok-Some-clause-removed
returns-in-Ok-Some-clause-removed g c = λ _. (
  g.N.MapNode.key c.in-Ok-Some._node.now,
  (g.N.KeepsEntry.entry c.in-Ok-Some._node.now).1,
  (c.in-Ok-Some._node.now, refl, refl),
  rw c.in-Ok-Some.field-0-is at c.in-Ok-Some.ensures.found,
)
