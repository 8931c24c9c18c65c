use Rattle.std.proofs.Common.{◌≡◌, length, arith, sym, append-nil}
use Rattle.epoch_world.proofs.ListedSteps.{gos_on, some_reply, call_listed}
use Rattle.epoch_world.proofs.witness.sharp.list_call.Goals as goal

pub loop-init : goal.loop-init
loop-init g c = record {
  some = omega arith;
  within = omega (arith, some_reply c.in_ok-replies.replies.items c.in_ok-replies.ensures.ends);
  listed = sym (append-nil c.add.new.steps.items);
}

pub loop-preserved : goal.loop-preserved
loop-preserved g c = record {
  some = omega arith;
  within = omega arith;
  listed = gos_on c.args.participant c.loop.counter c.add.new.steps.items c.loop.steps.items
      c.add-in-loop.new.steps.items c.loop.invariant.some c.loop.invariant.listed c.in_ok-add-2.ensures.ok;
}

pub returns-clause-ok : goal.returns-clause-ok
returns-clause-ok g c =
    let last : c.loop.counter ≡ length c.in_ok-replies.replies.items = omega arith in
    record {
      replies = c.in_ok-replies.replies.items;
      ends = record { run = c.in_ok-replies.ensures.runs; ends = c.in_ok-replies.ensures.ends };
      listed = call_listed c.args.participant c.args.call c.args.steps.now.items c.add.new.steps.items
          c.loop.steps.items c.in_ok-replies.replies.items c.loop.counter
          c.in_ok-replies.ensures.ends last c.in_ok-add.ensures.ok c.loop.invariant.listed;
    }
