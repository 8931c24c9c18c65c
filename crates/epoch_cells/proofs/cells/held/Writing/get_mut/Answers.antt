use Rattle.std.proofs.Common.{refl}
use Rattle.epoch_cells.proofs.LentWritings.{same_written}
use Rattle.epoch_cells.proofs.cells.held.Writing.get_mut.Goals as goal

-- Whatever value is left, the name stays beside it.
pub returns : goal.returns
returns g c = (
  (refl, λ w. same_written c.args.self.now w _ _ _),
  record { writes_back = tt; named = c.args.self.now.named; value = c.value_mut.ensures.value },
)
