use Rattle.std.proofs.Common.{refl}
use Rattle.epoch_shared.proofs.map.calls.show.Goals as goal

-- the call was with these two
pub returns-clause-called : goal.returns-clause-called
returns-clause-called g c =
    record { first = c.args.key; second = c.args.value; shows = (refl, refl); called = c.each.ensures }
