use Rattle.std.proofs.Common.{◌≡◌, ◌<◌}
use Rattle.tests_structure_worlds.proofs.orders.+fit_from.Given as goal

abbrev pub decreases-fit_from : goal.decreases-fit_from
decreases-fit_from l = l.left

-- this many calls are still to come
abbrev pub invariant-loop-number : goal.invariant-loop-number
invariant-loop-number l = (l.left ≡ l.fn.left) × (0 < l.left)
