use Rattle.std.proofs.Common.{refl, arith}
use Rattle.epoch_handles.proofs.Tests.{none_is_not_some, not_both}
use Rattle.epoch_handles.proofs.handle.LocalHandle.flush.Goals as goal

pub returns-then-flush-clause-stranger : goal.returns-then-flush-clause-stranger
returns-then-flush-clause-stranger g c = λ _ stranger. absurd (stranger (c.owns.ensures.value.0 c.if-not-owns.false))

pub returns-then-flush-clause-full : goal.returns-then-flush-clause-full
returns-then-flush-clause-full g c =
    λ _ _. rw (← c.self.view_is) (let told = c.flush.ensures.full c.if-flush.true in (refl, told.0, told.1))

pub returns-clause-stranger : goal.returns-clause-stranger
returns-clause-stranger g c = λ _ stranger. absurd (stranger (c.owns.ensures.value.0 c.if-not-owns.false))

pub returns-clause-empty : goal.returns-clause-empty
returns-clause-empty g c = λ _ _. c.flush.ensures.not c.if-flush.false

-- the guard isn't one that the handle has out
pub returns-then-not-owns-clause-full : goal.returns-then-not-owns-clause-full
returns-then-not-owns-clause-full g c = λ owns _. absurd (not_both c.if-not-owns.true (c.owns.ensures.value.1 owns))

pub returns-then-not-owns-clause-found : goal.returns-then-not-owns-clause-found
returns-then-not-owns-clause-found g c = λ owns. absurd (not_both c.if-not-owns.true (c.owns.ensures.value.1 owns))

pub flush-requires : goal.flush-requires
flush-requires g c =
    (omega arith, (c.self.invariant, rw c.self.view_is (c.owns.ensures.value.0 c.if-not-owns.false).out))

pub returns-then-flush-clause-called : goal.returns-then-flush-clause-called
returns-then-flush-clause-called g c = λ _. rw (← c.self.view_is) c.flush.ensures.called

pub returns-clause-called : goal.returns-clause-called
returns-clause-called g c = λ _. rw (← c.self.view_is) c.flush.ensures.called

pub returns-then-flush-clause-unprotected : goal.returns-then-flush-clause-unprotected
returns-then-flush-clause-unprotected g c =
    λ none. absurd (none_is_not_some none (c.owns.ensures.value.0 c.if-not-owns.false).position)

pub returns-clause-unprotected : goal.returns-clause-unprotected
returns-clause-unprotected g c =
    λ none. absurd (none_is_not_some none (c.owns.ensures.value.0 c.if-not-owns.false).position)
