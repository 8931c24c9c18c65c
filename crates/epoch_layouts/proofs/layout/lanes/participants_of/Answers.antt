use Rattle.epoch_layouts.proofs.LanesTold.{lanes_more}
use Rattle.epoch_layouts.proofs.layout.lanes.participants_of.Goals as goal

-- one step further
pub loop-moment-preserved : goal.loop-moment-preserved
loop-moment-preserved c =
    let more = lanes_more c.args.moments.now c.loop-moment.moment-index c.moment-item.result c.loop-moment-test.true in
    cc (more, c.lanes_with-lanes.ensures, c.moment-item.is)
