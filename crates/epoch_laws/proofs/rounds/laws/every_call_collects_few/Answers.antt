use Rattle.epoch_laws.proofs.EachCollectsFew.{collects_few}
use Rattle.epoch_laws.proofs.rounds.laws.every_call_collects_few.Goals as goal

pub returns : goal.returns
returns c fresh new log is_fresh run = collects_few fresh new log is_fresh run
