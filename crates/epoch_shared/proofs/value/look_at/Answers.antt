use Rattle.std.proofs.Common.{refl, sym}
use Rattle.epoch_shared.proofs.value.look_at.Goals as goal

-- the closure was called with the value of the node that was found
pub returns-in-Some : goal.returns-in-Some
returns-in-Some g c =
    record {
      given = (
        c.value.result.now,
        (c.in-Some.node.now, sym c.value.ensures),
        (c.value.result, c.look.ensures, refl),
      );
    }
