use Rattle.epoch_world.proofs.ThreeRounds.{some_run}
use Rattle.epoch_world.proofs.witness.some_run_empties_its_store.Goals as goal

pub returns : goal.returns
returns c = some_run
