use Rattle.epoch_atomic.proofs.atomic.Atomic.fetch_update.Goals as goal

-- The function was left as it was after the last try.
pub returns-clause-ended : goal.returns-clause-ended
returns-clause-ended g c = (c.try_updates.new.f, c.try_updates.ensures.ended)
