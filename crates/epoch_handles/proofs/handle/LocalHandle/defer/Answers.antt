use Rattle.std.proofs.Common.{refl, inr, arith}
use Rattle.epoch_handles.proofs.Tests.{none_is_not_some, not_both}
use Rattle.epoch_handles.proofs.handle.LocalHandle.defer.Goals as goal

-- the guard isn't one that the handle has out

pub returns-then-not-owns-clause-stranger : goal.returns-then-not-owns-clause-stranger
returns-then-not-owns-clause-stranger g c = λ some _.
    let told = c.defer_unowned.ensures.stranger some in
    (told.0, told.1, refl)

pub returns-then-not-owns-clause-does : goal.returns-then-not-owns-clause-does
returns-then-not-owns-clause-does g c = λ _ owns. absurd (not_both c.if-not-owns.true (c.owns.ensures.value.1 owns))

pub returns-then-not-owns-clause-room : goal.returns-then-not-owns-clause-room
returns-then-not-owns-clause-room g c = λ owns _. absurd (not_both c.if-not-owns.true (c.owns.ensures.value.1 owns))

pub returns-then-not-owns-clause-kept : goal.returns-then-not-owns-clause-kept
returns-then-not-owns-clause-kept g c = λ owns _. absurd (not_both c.if-not-owns.true (c.owns.ensures.value.1 owns))

pub returns-then-not-owns-clause-found : goal.returns-then-not-owns-clause-found
returns-then-not-owns-clause-found g c = λ owns. absurd (not_both c.if-not-owns.true (c.owns.ensures.value.1 owns))

pub returns-then-not-owns-clause-unprotected : goal.returns-then-not-owns-clause-unprotected
returns-then-not-owns-clause-unprotected g c = λ none. (c.defer_unowned.ensures.unprotected none, refl)

-- the bag has room

pub has_room-requires : goal.has_room-requires
has_room-requires g c = omega arith

pub returns-then-has_room-clause-at_once : goal.returns-then-has_room-clause-at_once
returns-then-has_room-clause-at_once g c = λ none.
    absurd (none_is_not_some none (c.owns.ensures.value.0 c.if-not-owns.false).position)

pub keep_at_once-requires : goal.keep_at_once-requires
keep_at_once-requires g c = (
  omega arith,
  (
    c.self.invariant,
    (rw c.self.view_is (c.owns.ensures.value.0 c.if-not-owns.false).out, c.has_room.ensures.room.0 c.if-has_room.true),
  ),
)

pub returns-then-has_room-clause-unprotected : goal.returns-then-has_room-clause-unprotected
returns-then-has_room-clause-unprotected g c =
    λ none. absurd (none_is_not_some none (c.owns.ensures.value.0 c.if-not-owns.false).position)

pub returns-then-has_room-clause-stranger : goal.returns-then-has_room-clause-stranger
returns-then-has_room-clause-stranger g c = λ _ stranger. absurd (stranger (c.owns.ensures.value.0 c.if-not-owns.false))

-- the bag is full

pub defer_with_full_bag-requires : goal.defer_with_full_bag-requires
defer_with_full_bag-requires g c = (
  omega arith,
  (
    (c.owns.ensures.value.0 c.if-not-owns.false).out,
    rw (← c.self.view_is) (c.has_room.ensures.full c.if-has_room.false),
  ),
)

pub returns-clause-unprotected : goal.returns-clause-unprotected
returns-clause-unprotected g c =
    λ none. absurd (none_is_not_some none (c.owns.ensures.value.0 c.if-not-owns.false).position)

pub returns-clause-stranger : goal.returns-clause-stranger
returns-clause-stranger g c = λ _ stranger. absurd (stranger (c.owns.ensures.value.0 c.if-not-owns.false))

pub returns-clause-room : goal.returns-clause-room
returns-clause-room g c =
    λ _ room. absurd (not_both c.if-has_room.false (c.has_room.ensures.room.1 (rw c.self.view_is room)))

pub returns-clause-kept : goal.returns-clause-kept
returns-clause-kept g c = λ _ ok. inr (c.defer_with_full_bag.ensures.kept ok)

pub returns-clause-at_once : goal.returns-clause-at_once
returns-clause-at_once g c =
    λ none. absurd (none_is_not_some none (c.owns.ensures.value.0 c.if-not-owns.false).position)
