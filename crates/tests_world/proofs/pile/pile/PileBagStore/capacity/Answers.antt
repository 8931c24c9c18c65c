use Rattle.std.proofs.Common.{length}
use Rattle.epoch_bags.proofs.ClaimedPlaces.{count_first}
use Rattle.tests_world.proofs.pile.pile.PileBagStore.capacity.Goals as goal

-- there are no more bags than places
pub returns-clause-standing : goal.returns-clause-standing
returns-clause-standing c =
    count_first c.args.self.now.capacity (length c.args.self.now.bags.items) c.args.self.now.within
