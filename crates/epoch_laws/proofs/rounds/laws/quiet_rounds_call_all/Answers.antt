use Rattle.epoch_laws.proofs.FirstRound.{quiet_rounds}
use Rattle.epoch_laws.proofs.PutFound.{rounds_call_all}
use Rattle.epoch_laws.proofs.rounds.laws.quiet_rounds_call_all.Goals as goal

pub returns-clause-found : goal.returns-clause-found
returns-clause-found c fresh s new earlier log is_fresh run goes =
    rounds_call_all fresh s new earlier log is_fresh run goes

pub returns-clause-from_put : goal.returns-clause-from_put
returns-clause-from_put c fresh s put new earlier before after others p is_fresh run quiet small
    reaches first are_rounds goes =
    quiet_rounds fresh s put new earlier before after others p is_fresh run quiet small reaches first are_rounds goes
