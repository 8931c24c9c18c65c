use Rattle.std.proofs.Common.{ap}
use Rattle.epoch_machine.specs.Machine.{Machine}
use Rattle.epoch_handles.proofs.handle.LocalHandle.leave.Goals as goal

-- a freed participant has no position, and holds no job
pub invariant_of-result : goal.invariant_of-result
invariant_of-result g c =
    let freed = c.release-freed.ensures.frees c.if-freed.true in
    record { gone = freed.position; empty = ap (λ (z : Machine _). z.held) freed.machine }

pub returns-then-freed-clause-frees : goal.returns-then-freed-clause-frees
returns-then-freed-clause-frees g c = rw (← c.self.view_is) (c.release-freed.ensures.frees c.if-freed.true)

-- a refused one is between two calls
pub invariant_of-result-2 : goal.invariant_of-result-2
invariant_of-result-2 g c = c.release-freed.ensures.ready c.if-freed.false

pub returns-clause-does : goal.returns-clause-does
returns-clause-does g c = rw (← c.self.view_is) (c.release-freed.ensures.does c.if-freed.false)

pub returns-clause-called : goal.returns-clause-called
returns-clause-called g c = rw (← c.self.view_is) (c.release-freed.ensures.called c.if-freed.false)

pub returns-clause-held : goal.returns-clause-held
returns-clause-held g c = rw (← c.self.view_is) (c.release-freed.ensures.held c.if-freed.false)

pub returns-clause-counted : goal.returns-clause-counted
returns-clause-counted g c = c.release-freed.ensures.counted c.if-freed.false

pub returns-clause-found : goal.returns-clause-found
returns-clause-found g c = c.release-freed.ensures.found c.if-freed.false

pub returns-clause-ready : goal.returns-clause-ready
returns-clause-ready g c = c.release-freed.ensures.ready c.if-freed.false
