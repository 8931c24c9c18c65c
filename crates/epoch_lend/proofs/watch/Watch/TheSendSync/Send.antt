use denote.Param.Send.{IsSend}
use Rattle.epoch_lend.specs.contracts.watch.Watch.{the_row}
use Rattle.epoch_lend.proofs.Keyless.{watch_keyless}

-- a watch may go to another thread: what it knows of loans and of looks names no thread's token
pub send : IsSend the_row
send = record {
  owned = λ d vs. ((λ vss. (tt, ((λ uss. (tt, tt)), tt))), watch_keyless d.loans d.seen);
  leaving = λ k f vs. tt;
}
