use mathlib.Core.List.{[], ◌∷◌}
use denote.Param.Send.{IsSync}
use Rattle.core.proofs.atomic.Sent.{chain-Keyless}
use Rattle.epoch_lend.specs.contracts.post.PostGuard.{the_row}
use Rattle.epoch_lend.proofs.Keyless.{entered_keyless}

-- what a shared guard says of its lifetime and of its pin names no thread's token
pub sync : IsSync the_row
sync = record {
  shared = λ d b o κ. (
    (((tt, λ q. tt), tt), λ q. tt),
    (
      (λ νs. chain-Keyless νs κ (d.atom ∷ [])),
      entered_keyless (d.atom, d.epoch) d.log,
    ),
  );
}
