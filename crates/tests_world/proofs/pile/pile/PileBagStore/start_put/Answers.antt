use Rattle.std.proofs.Common.{length}
use Rattle.epoch_bags.proofs.BagLists.{room_first}
use Rattle.tests_world.proofs.pile.pile.PileBagStore.start_put.Goals as goal

-- a free place is one of the last
pub returns-clause-room : goal.returns-clause-room
returns-clause-room c place free = room_first c.args.self.now.capacity (length c.args.self.now.bags.items) place free
