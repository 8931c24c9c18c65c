use Rattle.std.proofs.Common.{arith}
use Rattle.std.proofs.lemmas.Bool.Decides.{nat_tests}
use Rattle.epoch_laws.proofs.GuardsCounted.{times_taken}
use Rattle.epoch_laws.proofs.histories.guards.times_after.Goals as goal

pub returns-then-other-guard-2-clause-counted : goal.returns-then-other-guard-2-clause-counted
returns-then-other-guard-2-clause-counted c guards is =
    grind (arith, nat_tests, times_taken c.args.guard c.in-Takes.other c.args.change guards c.in-Takes.is)

pub returns-else-other-guard-2-clause-counted : goal.returns-else-other-guard-2-clause-counted
returns-else-other-guard-2-clause-counted c guards is =
    grind (arith, nat_tests, times_taken c.args.guard c.in-Takes.other c.args.change guards c.in-Takes.is)
