use Rattle.epoch_laws.proofs.laws.every_refusal_leaves_what_it_must.Goals as goal
use Rattle.epoch_laws.proofs.RefusalsLeave.{refused_along}

pub returns : goal.returns
returns c = refused_along
