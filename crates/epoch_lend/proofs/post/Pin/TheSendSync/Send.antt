use denote.Param.Send.{IsSend}
use Rattle.epoch_lend.specs.contracts.post.Pin.{the_row}

-- the right to end a pin may go to another thread: it names no thread's token
pub send : IsSend the_row
send = record { owned = λ d vs. ((λ vss. (tt, ((λ uss. (tt, tt)), tt))), tt); leaving = λ k f vs. tt }
