use Rattle.std.proofs.Common.{◌≡◌}
use Rattle.epoch_structure_calls.specs.Paths.{ReadsOn}
use Rattle.epoch_structure_laws.specs.declared.map.plan.MapPhase.TheVariants.{Reading}
use Rattle.epoch_structure_laws.specs.MapProgram.{map_deed_of, key_sought}
use Rattle.epoch_structure_calls.proofs.map.walk.along.Given as goal

-- it has come to this node so far
abbrev pub invariant-loop-next : goal.invariant-loop-next
invariant-loop-next g l =
    ReadsOn g.L.Spots.does (map_deed_of 0) l.fn.first l.fn.spots (Reading l.aim l.link l.node l.left) l.spots
    × (key_sought l.aim ≡ 1)

-- each node takes a move
abbrev pub decreases-loop-next : goal.decreases-loop-next
decreases-loop-next g l = l.left
