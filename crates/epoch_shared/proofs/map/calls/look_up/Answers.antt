use Rattle.std.proofs.Common.{refl, sym}
use Rattle.epoch_shared.proofs.map.calls.look_up.Goals as goal

-- the closure was called with the value of the node that was found, whose key compares as equal
pub returns-in-Some : goal.returns-in-Some
returns-in-Some g c =
    record {
      given = (
        g.N.MapNode.key c.in-Some.node.now,
        c.value.result.now,
        (c.in-Some.node.now, refl, sym c.value.ensures),
        c.in-Some.ensures.found,
        (c.value.result, c.look.ensures, refl),
      );
    }
