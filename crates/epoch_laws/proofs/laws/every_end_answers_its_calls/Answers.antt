use Rattle.epoch_laws.proofs.laws.every_end_answers_its_calls.Goals as goal
use Rattle.epoch_laws.proofs.EndsCounted.{ends_at_count}

pub returns : goal.returns
returns c = ends_at_count
