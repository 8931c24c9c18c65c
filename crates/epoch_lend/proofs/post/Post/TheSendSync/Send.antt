use denote.Param.Send.{IsSend}
use Rattle.epoch_lend.specs.contracts.post.Post.{the_row}
use Rattle.epoch_lend.proofs.Keyless.{post_keyless}

-- a post may be sent to another thread: what it owns names no thread's token
pub send : IsSend the_row
send = record {
  owned = λ d vs. (
    (λ _. tt),
    λ n. (
      (λ vss. (tt, ((tt, tt), ((λ uss. (tt, tt)), tt)))),
      post_keyless d n,
    ),
  );
  leaving = λ k d w. tt;
}
