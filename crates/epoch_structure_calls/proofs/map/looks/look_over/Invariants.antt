use Rattle.std.proofs.Common.{ℕ, ◌≤◌, List}
use Rattle.epoch_structure_calls.specs.Paths.{ReadsOn}
use Rattle.epoch_structure_laws.specs.declared.map.plan.Aim.TheVariants.{ToGet}
use Rattle.epoch_structure_laws.specs.declared.map.plan.MapWork.TheVariants.{Get}
use Rattle.epoch_structure_laws.specs.MapProgram.{map_deed_of, again, start_map_work}
use Rattle.epoch_structure_calls.specs.MapCalls.{GivesUp}
use Rattle.epoch_structure_calls.proofs.map.looks.look_over.Given as goal

-- attempts have stopped at marked nodes, and one more has come so far that it begins again with these moves
abbrev pub invariant-loop-left : goal.invariant-loop-left
invariant-loop-left g l =
    ((lefts : List ℕ) × (m : ℕ) × (mid : g.row.L.Denot)
    × GivesUp g.L.Spots.does l.fn.bucket 1 lefts l.fn.moves l.fn.spots m mid
    × ReadsOn g.L.Spots.does (map_deed_of 0) (start_map_work (Get l.fn.bucket 1 m)) mid
    (again (ToGet l.fn.bucket 1) l.left) l.spots)
    × (l.left ≤ l.fn.moves)

abbrev pub decreases-loop-left : goal.decreases-loop-left
decreases-loop-left g l = l.left
