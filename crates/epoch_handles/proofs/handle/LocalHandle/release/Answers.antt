use Rattle.std.proofs.Common.{ap, arith}
use Rattle.epoch_machine.specs.Machine.{Machine}
use Rattle.epoch_handles.proofs.handle.LocalHandle.release.Goals as goal

-- a freed participant has no position, and holds no job
pub spend-requires : goal.spend-requires
spend-requires g c =
    let freed = c.release.ensures.frees c.if-release.true in
    (omega arith, (freed.position, ap (λ (z : Machine _). z.held) freed.machine))

pub returns-then-release-clause-frees : goal.returns-then-release-clause-frees
returns-then-release-clause-frees g c =
    λ _. (c.release.new.self, rw (← c.self.view_is) (c.release.ensures.frees c.if-release.true))

-- a refused one is between two calls
pub invariant_of-result : goal.invariant_of-result
invariant_of-result g c = c.release.ensures.ready c.if-release.false

pub returns-clause-does : goal.returns-clause-does
returns-clause-does g c = rw (← c.self.view_is) (c.release.ensures.does c.if-release.false)

pub returns-clause-called : goal.returns-clause-called
returns-clause-called g c = rw (← c.self.view_is) (c.release.ensures.called c.if-release.false)

pub returns-clause-held : goal.returns-clause-held
returns-clause-held g c = rw (← c.self.view_is) (c.release.ensures.held c.if-release.false)

pub returns-clause-counted : goal.returns-clause-counted
returns-clause-counted g c = c.release.ensures.counted c.if-release.false

pub returns-clause-found : goal.returns-clause-found
returns-clause-found g c = c.release.ensures.found c.if-release.false

pub returns-clause-ready : goal.returns-clause-ready
returns-clause-ready g c = c.release.ensures.ready c.if-release.false
