use Rattle.epoch_structure_calls.proofs.Strides.{reads_on}
use Rattle.epoch_structure_calls.proofs.map.walk.ahead.Goals as goal

-- one part of the path after the other
pub returns : goal.returns
returns g c =
    reads_on g.L.Spots.does c.args.first c.along-at_key.result c.read_on.result c.args.spots.now
    c.along-at_key.new.spots c.read_on.new.spots
    (reads_on g.L.Spots.does c.args.first c.to_bucket-at_bucket.result c.along-at_key.result c.args.spots.now
    c.to_bucket-at_bucket.new.spots c.along-at_key.new.spots c.to_bucket-at_bucket.ensures c.along-at_key.ensures)
    c.read_on.ensures.reads
