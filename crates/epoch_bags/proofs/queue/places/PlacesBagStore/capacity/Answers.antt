use Rattle.std.proofs.Common.{arith}
use Rattle.epoch_bags.proofs.PlaceSteps.{few_bags}
use Rattle.epoch_bags.proofs.ClaimedPlaces.{count_homes, taken_why}
use Rattle.epoch_bags.proofs.queue.places.PlacesBagStore.capacity.Goals as goal

pub returns-clause-within : goal.returns-clause-within
returns-clause-within g c = omega (arith, few_bags c.args.self.now.bags, c.count.ensures.agrees.beside)

pub returns-clause-standing : goal.returns-clause-standing
returns-clause-standing g c = count_homes c.args.self.now.bags

pub returns-clause-occupied : goal.returns-clause-occupied
returns-clause-occupied g c place taken = taken_why c.args.self.now.words c.args.self.now.bags place
    c.count.ensures.agrees.beside c.count.ensures.agrees.words_match taken
