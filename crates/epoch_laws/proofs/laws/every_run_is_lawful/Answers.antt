use Rattle.epoch_laws.proofs.laws.every_run_is_lawful.Goals as goal
use Rattle.epoch_laws.proofs.EventsLawful.{replies_stand}
use Rattle.epoch_laws.proofs.RepliesFit.{replies_fit}
use Rattle.epoch_laws.proofs.CallsAfterDeferrals.{CallsFollow, calls_follow}

pub returns : goal.returns
returns c s new log fresh run =
    let calls : CallsFollow log = calls_follow s new log fresh run in
    record {
      in_calls = replies_stand s new log fresh run;
      fits = replies_fit s new log fresh run;
      once = calls.once;
      deferred = calls.deferred;
    }
