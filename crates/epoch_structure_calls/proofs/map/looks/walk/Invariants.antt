use Rattle.std.proofs.Common.{◌≤◌}
use Rattle.epoch_laws.specs.declared.heap.access.Spot.{Spot}
use Rattle.epoch_laws.specs.declared.heap.access.Spot.TheVariants.{Root}
use Rattle.epoch_structure_calls.specs.Paths.{ReadsOn}
use Rattle.epoch_structure_laws.specs.declared.map.plan.Aim.TheVariants.{ToGet}
use Rattle.epoch_structure_laws.specs.declared.map.plan.MapPhase.TheVariants.{Reading}
use Rattle.epoch_structure_laws.specs.MapProgram.{map_deed_of}
use Rattle.epoch_structure_calls.proofs.map.looks.walk.Given as goal

-- it has come to this node so far, by some link
abbrev pub invariant-loop-order : goal.invariant-loop-order
invariant-loop-order g l =
    ((link : Spot) × ReadsOn g.L.Spots.does (map_deed_of 0) (Reading (ToGet l.fn.bucket 1) (Root l.fn.bucket) l.fn.first
    l.fn.moves)
    l.fn.spots (Reading (ToGet l.fn.bucket 1) link l.node l.left) l.spots)
    × (l.left ≤ l.fn.moves)

-- each node takes a move
abbrev pub decreases-loop-order : goal.decreases-loop-order
decreases-loop-order g l = l.left
