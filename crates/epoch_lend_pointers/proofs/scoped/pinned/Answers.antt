use Rattle.std.proofs.Common.{refl}
use Rattle.epoch_lend_pointers.proofs.scoped.pinned.Goals as goal

-- the closure was called with the guard of the pin
pub returns : goal.returns
returns g c = record { ran = (_, (_, c.body-result.ensures, refl)) }
