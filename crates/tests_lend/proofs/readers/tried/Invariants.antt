use Rattle.std.proofs.Common.{length}
use Rattle.tests_lend.proofs.readers.tried.Given as goal

-- as many values are left
abbrev pub decreases-loop-value : goal.decreases-loop-value
decreases-loop-value g l = length l.rest.removals.items
