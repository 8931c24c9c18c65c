use Rattle.epoch_bags.proofs.RoomFound.{free_room}
use Rattle.epoch_bags.proofs.queue.places.PlacesBagStore.start_put.Goals as goal

pub returns-clause-room : goal.returns-clause-room
returns-clause-room g c place free = free_room c.args.self.now.words place free
