use denote.Param.Send.{IsSend}
use Rattle.epoch_lend.specs.contracts.post.PostGuard.{the_row}
use Rattle.epoch_lend.proofs.Keyless.{entered_keyless}

-- a post's guard may go to another thread: its parts of the lifetime and its pin's entry name no thread's token
pub send : IsSend the_row
send = record {
  owned = λ d vs. (
    (λ vss. (tt, ((λ uss. (tt, tt)), tt))),
    (
      (λ e. (λ c. tt)),
      entered_keyless (d.atom, d.epoch) d.log,
    ),
  );
  leaving = λ k f vs. tt;
}
