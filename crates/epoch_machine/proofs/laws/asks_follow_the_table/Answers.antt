use Rattle.epoch_machine.proofs.ActionAsks.{asks_follow}
use Rattle.epoch_machine.proofs.laws.asks_follow_the_table.Goals as goal

pub returns : goal.returns
returns g c = asks_follow
