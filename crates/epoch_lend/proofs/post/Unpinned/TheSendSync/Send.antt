use denote.Param.Send.{IsSend}
use Rattle.epoch_lend.specs.contracts.post.Unpinned.{the_row}

-- the right to pin at a post may be sent to another thread: it names no thread's token
pub send : IsSend the_row
send = record { owned = λ d vs. ((λ vss. (tt, ((λ uss. (tt, tt)), tt))), tt); leaving = λ k f vs. tt }
