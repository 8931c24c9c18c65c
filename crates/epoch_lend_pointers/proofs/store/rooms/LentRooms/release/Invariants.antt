use Rattle.std.proofs.Common.{length}
use Rattle.epoch_lend_pointers.proofs.store.rooms.LentRooms.release.Given as goal

-- as many rooms are left
abbrev pub decreases-loop-room : goal.decreases-loop-room
decreases-loop-room g l = length l.rest.list.items
