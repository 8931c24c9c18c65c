use Rattle.std.proofs.Common.{refl}
use Rattle.epoch_shared.proofs.map.calls.is_there.Goals as goal

-- the entry is the one that was found
pub returns-in-Some : goal.returns-in-Some
returns-in-Some g c =
    record {
      found = λ _. (
        g.N.MapNode.key c.in-Some._node.now,
        (g.N.KeepsEntry.entry c.in-Some._node.now).1,
        (c.in-Some._node.now, refl, refl),
        c.in-Some.ensures.found,
      );
    }
