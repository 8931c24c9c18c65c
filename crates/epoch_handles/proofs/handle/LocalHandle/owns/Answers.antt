use Rattle.epoch_handles.proofs.Owned.{owned_at, position_owned}
use Rattle.epoch_handles.proofs.handle.LocalHandle.owns.Goals as goal

pub returns-in-Some-clause-value : goal.returns-in-Some-clause-value
returns-in-Some-clause-value g c = (
  λ same. rw (← c.self.view_is) (owned_at c.self.inside.local c.args.guard.now c.in-Some.position c.guards.result
      c.in-Some.is c.if-guard-self.false c.guards.ensures c.if-guards-eq0.false same),
  λ owns. position_owned c.self.inside.local c.args.guard.now c.in-Some.position c.in-Some.is
      (rw c.self.view_is owns),
)
