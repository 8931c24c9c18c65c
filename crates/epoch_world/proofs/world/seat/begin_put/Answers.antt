use Rattle.epoch_world.proofs.RoomSteps.{room_at_first}
use Rattle.epoch_world.proofs.world.seat.begin_put.Goals as goal

-- where fewer bags stand than there are places, some place is free
pub returns-clause-room : goal.returns-clause-room
returns-clause-room g c =
    room_at_first (g.S.BagStore.Reserved c.args.store.now) (g.S.BagStore.occupied c.args.store.now)
    (g.S.BagStore.standing c.args.store.now) _ _
    c.capacity-places.ensures.standing c.capacity-places.ensures.occupied c.start_put.ensures.room
