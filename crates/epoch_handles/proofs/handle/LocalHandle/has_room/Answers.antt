use Rattle.epoch_handles.proofs.handle.LocalHandle.has_room.Goals as goal

pub returns-clause-value : goal.returns-clause-value
returns-clause-value g c = rw (← c.self.view_is) c.has_room.ensures.room
