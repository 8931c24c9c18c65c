use Rattle.std.proofs.Common.{◌-◌}
use Rattle.epoch_laws.specs.declared.heap.access.Spot.TheVariants.{Field}
use Rattle.epoch_structure_laws.specs.declared.map.plan.MapPhase.TheVariants.{Reading}
use Rattle.epoch_structure_calls.proofs.Strides.{reads_on}
use Rattle.epoch_structure_calls.proofs.map.walk.along.Goals as goal

-- one node further
pub loop-next-preserved : goal.loop-next-preserved
loop-next-preserved g c = (
  reads_on g.L.Spots.does c.args.first (Reading c.in-Reading.aim c.loop-next.link c.loop-next.node c.loop-next.left)
      (Reading c.in-Reading.aim (Field c.loop-next.node 0) c.in-Ok.next (c.loop-next.left - 1)) c.args.spots.now
      c.loop-next.spots c.stride.new.spots c.loop-next.invariant.0 c.in-Ok.ensures.on,
  c.loop-next.invariant.1,
)

-- the walk ends
pub returns-in-Err : goal.returns-in-Err
returns-in-Err g c =
    reads_on g.L.Spots.does c.args.first (Reading c.in-Reading.aim c.loop-next.link c.loop-next.node c.loop-next.left)
    c.in-Err.phase c.args.spots.now c.loop-next.spots c.stride.new.spots c.loop-next.invariant.0 c.in-Err.ensures.over
