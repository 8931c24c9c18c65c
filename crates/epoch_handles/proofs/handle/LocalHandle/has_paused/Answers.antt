use Rattle.epoch_handles.proofs.Owned.{paused_at, position_paused}
use Rattle.epoch_handles.proofs.handle.LocalHandle.has_paused.Goals as goal

pub returns-clause-value : goal.returns-clause-value
returns-clause-value g c = (
  λ same. rw (← c.self.view_is) (paused_at c.self.inside.local c.args.paused.now c.in-Some.position c.in-Some.is
      c.if-paused-self.false same),
  λ is. position_paused c.self.inside.local c.args.paused.now c.in-Some.position c.in-Some.is (rw c.self.view_is is),
)
