use Rattle.std.proofs.Common.{ap, min}
use Rattle.epoch_bags.proofs.BagsAhead.{all_told}
use Rattle.epoch_bags.proofs.queue.places.PlacesBagStore.start_take.Goals as goal

pub returns-clause-ahead : goal.returns-clause-ahead
returns-clause-ahead g c epoch free all =
    ap (min 64) (all_told epoch c.args.self.now c.count-agrees.ensures.agrees free all)
