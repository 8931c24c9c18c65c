use Rattle.std.proofs.Common.{length}
use Rattle.tests_lend.proofs.race.tell_all.Given as goal

-- as many values are left
abbrev pub decreases-loop-probe : goal.decreases-loop-probe
decreases-loop-probe g l = length l.rest.removals.items
