use Rattle.std.proofs.Common.{inl, inr, ◌+◌, arith, refl, subst, ap, sym, ◌∙◌, ◌%◌, ◌/◌}
use Rattle.epoch_bags.specs.Places.{take_place, bags_ahead}
use Rattle.epoch_bags.proofs.PlaceWords.{not_both}
use Rattle.epoch_bags.proofs.PlaceSteps.{empties_bag}
use Rattle.epoch_bags.proofs.BagsAhead.{finds_none, look_passes, ahead_got, ahead_left, goes_on}
use Rattle.epoch_bags.proofs.ClaimedPlaces.{look_claims_none, claim_claims_none, empty_claims, reserves_one}
use Rattle.epoch_bags.proofs.ClaimedPlaces.{reserves_same, reserves_less, reserves_left, reserves_past}
use Rattle.epoch_bags.specs.declared.queue.TakeStep.TheVariants.{Again as TakeAgain, Empty as TakeEnds, Got}
use Rattle.epoch_bags.specs.declared.queue.places.TakeCursor.TheVariants.{Look as TakeLook, Claim as TakeClaim, Empty}
use Rattle.epoch_bags.specs.CursorSteps.{TakePasses, TakeStands, TakesFromList}
use Rattle.epoch_bags.proofs.CursorMoves.{same_places, expired_word, test_word, take_ends, take_finds, take_passes}
use Rattle.epoch_bags.proofs.CursorMoves.{take_wins, take_loses}
use Rattle.epoch_bags.proofs.queue.places.PlacesBagStore.take_step.Goals as goal

pub returns-then-place-places-clause-ahead : goal.returns-then-place-places-clause-ahead
returns-then-place-places-clause-ahead g c =
    finds_none c.args.expiry.number c.args.self.now c.args.cursor.now c.count-places.ensures.agrees
    (omega (arith, ap take_place c.in-Look.is))

pub returns-then-place-places-2-clause-ahead : goal.returns-then-place-places-2-clause-ahead
returns-then-place-places-2-clause-ahead g c =
    finds_none c.args.expiry.number c.args.self.now c.args.cursor.now c.count-places.ensures.agrees
    (omega (arith, ap take_place c.in-Claim.is))

pub returns-then-empty-clause-bag : goal.returns-then-empty-clause-bag
returns-then-empty-clause-bag g c = record {
  expired = c.empty.ensures.expired c.if-empty.true;
  inserted = empties_bag c.args.self.now c.empty.new.places c.in-Empty.place c.empty.new.hand
      (c.empty.ensures.done c.if-empty.true);
}

pub returns-then-empty-clause-ahead : goal.returns-then-empty-clause-ahead
returns-then-empty-clause-ahead g c =
    ap (bags_ahead c.args.expiry.number c.args.self.now) c.in-Empty.is
    ∙ ahead_got c.args.expiry.number c.args.self.now c.empty.new.places c.in-Empty.place c.empty.new.hand
    (c.empty.ensures.done c.if-empty.true) (c.empty.ensures.expired c.if-empty.true)

-- the word tells of no expired bag
pub returns-else-is_expired_word-clause-ahead : goal.returns-else-is_expired_word-clause-ahead
returns-else-is_expired_word-clause-ahead g c =
    let x = c.args.expiry.number in
    let store = c.args.self.now in
    let place = c.in-Look.place in
    goes_on x store c.take_further.new.cursor c.take_further.result place c.count-places.result _
    c.count-places.ensures.value c.take_further.ensures.cursor c.take_further.ensures.result
    (look_passes x store place (omega arith)
    (λ both. not_both c.is_expired_word.result (c.is_expired_word.ensures.1 (
      ap (λ w. w % 2) c.look-word.ensures ∙ both.0,
      omega (arith, both.1, ap (λ w. w / 2) c.look-word.ensures),
    )) c.if-is_expired_word.false)
    ∙ ap (bags_ahead x store) (sym c.in-Look.is))

-- no expired bag is at home, and the place is let go
pub returns-else-empty-clause-ahead : goal.returns-else-empty-clause-ahead
returns-else-empty-clause-ahead g c =
    let x = c.args.expiry.number in
    let left = c.empty.ensures.not c.if-empty.false in
    goes_on x c.empty.new.places c.take_further-in-Empty.new.cursor c.take_further-in-Empty.result c.in-Empty.place
    c.count-places.result _ (c.count-places.ensures.value ∙ sym left.as_many)
    c.take_further-in-Empty.ensures.cursor c.take_further-in-Empty.ensures.result
    (ahead_left x c.args.self.now c.empty.new.places c.in-Empty.place left
    ∙ ap (bags_ahead x c.args.self.now) (sym c.in-Empty.is))

-- WHAT IT CLAIMS

pub returns-then-place-places-clause-reserves : goal.returns-then-place-places-clause-reserves
returns-then-place-places-clause-reserves g c place reserved =
    inr (reserved, look_claims_none c.args.cursor.now c.in-Look.place place c.in-Look.is)

pub returns-then-is_expired_word-clause-reserves : goal.returns-then-is_expired_word-clause-reserves
returns-then-is_expired_word-clause-reserves g c place reserved =
    inr (reserved, look_claims_none c.args.cursor.now c.in-Look.place place c.in-Look.is)

pub returns-else-is_expired_word-clause-reserves : goal.returns-else-is_expired_word-clause-reserves
returns-else-is_expired_word-clause-reserves g c place reserved =
    inr (reserved, look_claims_none c.args.cursor.now c.in-Look.place place c.in-Look.is)

pub returns-then-place-places-2-clause-reserves : goal.returns-then-place-places-2-clause-reserves
returns-then-place-places-2-clause-reserves g c place reserved =
    inr (reserved, claim_claims_none c.args.cursor.now c.in-Claim.place _ place c.in-Claim.is)

pub returns-then-claim-clause-reserves : goal.returns-then-claim-clause-reserves
returns-then-claim-clause-reserves g c place reserved = elim (reserves_one c.args.self.now c.claim.new.places
    c.in-Claim.place place (c.claim.ensures.won c.if-claim.true).1 c.claim.ensures.bags reserved) [
      | inl here ↦ inl here
      | inr before ↦ inr (before, claim_claims_none c.args.cursor.now c.in-Claim.place _ place c.in-Claim.is)
    ]

pub returns-else-claim-clause-reserves : goal.returns-else-claim-clause-reserves
returns-else-claim-clause-reserves g c place reserved = inr (
  reserves_same c.args.self.now c.claim.new.places place
      (c.claim.ensures.lost c.if-claim.false).1 c.claim.ensures.bags reserved,
  claim_claims_none c.args.cursor.now c.in-Claim.place _ place c.in-Claim.is,
)

pub returns-then-place-places-3-clause-reserves : goal.returns-then-place-places-3-clause-reserves
returns-then-place-places-3-clause-reserves g c place reserved =
    inr (
      reserved,
      empty_claims c.args.cursor.now c.in-Empty.place place c.in-Empty.is
          (reserves_past c.args.self.now c.in-Empty.place place (omega arith) reserved),
    )

pub returns-then-empty-clause-reserves : goal.returns-then-empty-clause-reserves
returns-then-empty-clause-reserves g c place reserved =
    let emptied = c.empty.ensures.done c.if-empty.true in
    let less = reserves_less c.args.self.now c.empty.new.places c.in-Empty.place 0 place _ (omega arith)
    (λ zero_word. absurd (omega arith)) emptied.words emptied.bags reserved in
    inr (less.0, empty_claims c.args.cursor.now c.in-Empty.place place c.in-Empty.is less.1)

pub returns-else-empty-clause-reserves : goal.returns-else-empty-clause-reserves
returns-else-empty-clause-reserves g c place reserved =
    let less = reserves_left c.args.expiry.number c.args.self.now c.empty.new.places c.in-Empty.place place
    (c.empty.ensures.not c.if-empty.false) reserved in
    inr (less.0, empty_claims c.args.cursor.now c.in-Empty.place place c.in-Empty.is less.1)

-- WHAT IT DOES

pub returns-then-place-places-clause-moves : goal.returns-then-place-places-clause-moves
returns-then-place-places-clause-moves g c =
    subst (λ u. TakeStands c.args.expiry.number c.args.self.now u
    → TakesFromList c.args.self.now c.args.self.now c.args.hand.now c.args.expiry.number u TakeEnds c.args.cursor.now)
    (sym c.in-Look.is)
    (λ stands. take_ends c.args.self.now c.args.self.now c.args.hand.now c.args.expiry.number c.in-Look.place
    (omega (arith, stands, c.count-places.ensures.value)) refl _)

pub returns-then-is_expired_word-clause-moves : goal.returns-then-is_expired_word-clause-moves
returns-then-is_expired_word-clause-moves g c =
    subst (λ u. TakeStands c.args.expiry.number c.args.self.now u → TakesFromList c.args.self.now c.args.self.now
    c.args.hand.now c.args.expiry.number u TakeAgain (TakeClaim c.in-Look.place c.look-word.result)) (sym c.in-Look.is)
    (λ stands.
    let told = c.is_expired_word.ensures.0 c.if-is_expired_word.true in
    take_finds c.args.self.now c.args.self.now c.args.hand.now c.args.expiry.number c.in-Look.place c.look-word.result
    (omega (arith, stands, c.count-places.ensures.value)) (sym c.look-word.ensures) refl
    (expired_word c.args.expiry.number c.look-word.result told.0 told.1))

pub returns-else-is_expired_word-clause-moves : goal.returns-else-is_expired_word-clause-moves
returns-else-is_expired_word-clause-moves g c =
    subst (λ u. TakeStands c.args.expiry.number c.args.self.now u → TakesFromList c.args.self.now c.args.self.now
    c.args.hand.now c.args.expiry.number u c.take_further.result c.take_further.new.cursor) (sym c.in-Look.is)
    (λ stands. take_passes c.args.self.now c.args.self.now c.args.hand.now c.args.expiry.number c.in-Look.place
    c.look-word.result _ _ (omega (arith, stands, c.count-places.ensures.value)) (sym c.look-word.ensures) refl
    (λ expired. not_both c.is_expired_word.result (c.is_expired_word.ensures.1
    (test_word c.args.expiry.number c.look-word.result expired)) c.if-is_expired_word.false)
    (subst (λ n. TakePasses n c.in-Look.place c.take_further.result c.take_further.new.cursor)
    c.count-places.ensures.value (c.take_further.ensures.cursor, c.take_further.ensures.result)))

pub returns-then-place-places-2-clause-moves : goal.returns-then-place-places-2-clause-moves
returns-then-place-places-2-clause-moves g c =
    subst (λ u. TakeStands c.args.expiry.number c.args.self.now u
    → TakesFromList c.args.self.now c.args.self.now c.args.hand.now c.args.expiry.number u TakeEnds c.args.cursor.now)
    (sym c.in-Claim.is)
    (λ stands. absurd (omega (arith, stands.0, c.count-places.ensures.value)))

pub returns-then-claim-clause-moves : goal.returns-then-claim-clause-moves
returns-then-claim-clause-moves g c =
    subst (λ u. TakeStands c.args.expiry.number c.args.self.now u → TakesFromList c.args.self.now c.claim.new.places
    c.args.hand.now c.args.expiry.number u TakeAgain (Empty c.in-Claim.place)) (sym c.in-Claim.is)
    (λ stands. let won = c.claim.ensures.won c.if-claim.true in take_wins c.args.self.now c.claim.new.places
    c.args.hand.now c.args.expiry.number c.in-Claim.place _ won.0 won.1 c.claim.ensures.bags)

pub returns-else-claim-clause-moves : goal.returns-else-claim-clause-moves
returns-else-claim-clause-moves g c =
    subst (λ u. TakeStands c.args.expiry.number c.args.self.now u → TakesFromList c.args.self.now c.claim.new.places
    c.args.hand.now c.args.expiry.number u c.take_further-in-Claim.result c.take_further-in-Claim.new.cursor)
    (sym c.in-Claim.is)
    (λ stands.
    let lost = c.claim.ensures.lost c.if-claim.false in
    take_loses c.args.self.now c.claim.new.places c.args.hand.now c.args.expiry.number c.in-Claim.place _ _ _ lost.0
    (same_places c.args.self.now c.claim.new.places lost.1 c.claim.ensures.bags)
    (subst (λ n. TakePasses n c.in-Claim.place c.take_further-in-Claim.result c.take_further-in-Claim.new.cursor)
    c.count-places.ensures.value (c.take_further-in-Claim.ensures.cursor, c.take_further-in-Claim.ensures.result)))

pub returns-then-place-places-3-clause-moves : goal.returns-then-place-places-3-clause-moves
returns-then-place-places-3-clause-moves g c =
    subst (λ u. TakeStands c.args.expiry.number c.args.self.now u → TakesFromList c.args.self.now c.args.self.now
    c.args.hand.now c.args.expiry.number u TakeEnds (TakeLook c.in-Empty.place)) (sym c.in-Empty.is)
    (λ stands. absurd (omega (arith, stands.0, c.count-places.ensures.value)))

pub returns-then-empty-clause-moves : goal.returns-then-empty-clause-moves
returns-then-empty-clause-moves g c =
    subst (λ u. TakeStands c.args.expiry.number c.args.self.now u → TakesFromList c.args.self.now c.empty.new.places
    c.empty.new.hand c.args.expiry.number u Got (TakeLook (c.in-Empty.place + 1))) (sym c.in-Empty.is)
    (λ stands. (refl, refl, (c.empty.ensures.done c.if-empty.true, c.empty.ensures.expired c.if-empty.true)))

pub returns-else-empty-clause-moves : goal.returns-else-empty-clause-moves
returns-else-empty-clause-moves g c =
    subst (λ u. TakeStands c.args.expiry.number c.args.self.now u → TakesFromList c.args.self.now c.empty.new.places
    c.empty.new.hand c.args.expiry.number u c.take_further-in-Empty.result c.take_further-in-Empty.new.cursor)
    (sym c.in-Empty.is)
    (λ stands. absurd ((c.empty.ensures.not c.if-empty.false).not_expired stands.1.0 stands.1.1 stands.1.2))
