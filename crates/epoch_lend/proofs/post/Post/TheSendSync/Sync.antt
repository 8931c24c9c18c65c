use denote.Param.Send.{IsSync}
use Rattle.core.proofs.atomic.Sent.{chain-Keyless}
use Rattle.epoch_lend.specs.contracts.post.Post.{the_row}
use Rattle.epoch_lend.proofs.Keyless.{post_keyless}

-- neither a shared post nor what it has names a thread's token
pub sync : IsSync the_row
sync = record { shared = λ d b o κ α. ((λ νs. chain-Keyless νs κ α), λ n. (tt, post_keyless d n)) }
