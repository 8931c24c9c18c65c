use Rattle.std.proofs.Common.{◌≡◌}
use Rattle.epoch_shared.proofs.channel.ChannelHoldSharedChannelValue.send.Given as goal

-- the value that is left to send is the one that was given
abbrev pub invariant-loop : goal.invariant-loop
invariant-loop g l = l.left ≡ l.fn.value
