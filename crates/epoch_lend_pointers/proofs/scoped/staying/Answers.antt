use Rattle.std.proofs.Common.{refl}
use Rattle.epoch_lend_pointers.proofs.scoped.staying.Goals as goal

-- the closure was called with the session
pub returns : goal.returns
returns g c = record {
  ran =
      (_, _, record { shown = _; shows = refl; left = _; met = c.body-result.ensures; leaves = refl });
}
