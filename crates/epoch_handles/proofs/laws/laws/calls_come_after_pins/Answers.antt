use Rattle.std.proofs.Common.{◌++◌, ap, sym, ◌∙◌}
use Rattle.epoch_handles.specs.ThreadGrace.{jobs_of_each}
use Rattle.epoch_handles.proofs.Expiries.{expiries_seen}
use Rattle.epoch_handles.proofs.CallsGiven.{gives_all, begins_with_none}
use Rattle.epoch_handles.proofs.laws.laws.calls_come_after_pins.Goals as goal

-- each bag got was expired for an epoch that the seat has seen, and the law of the table says what that means
pub returns : goal.returns
returns g c = λ places action before after log performed.
    let within = expiries_seen places action before after log performed in
    let all = gives_all places after.sight.words.seen _ after log performed within in record {
      bags = all.bags;
      gets = all.gets;
      calls = (
        all.left,
        ap (λ l. l ++ jobs_of_each all.bags) (sym (begins_with_none action before.machine)) ∙ all.jobs,
      );
      no_pins = λ k d below. c.pinned_seats_hold_bags_back.ensures _ _ (all.expired k d below);
    }
