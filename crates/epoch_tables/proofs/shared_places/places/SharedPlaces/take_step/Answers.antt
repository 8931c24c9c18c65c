use Rattle.std.proofs.Common.{◌≡◌, ℕ, ◌∷◌, Option, Some, None, refl, ap, ◌∙◌, arith}
use Rattle.epoch_bags.specs.Bags.{Sealed, IsExpired}
use Rattle.epoch_tables.specs.SharedPlaces.{IsAtHome}
use Rattle.epoch_bags.specs.CursorSteps.{IsExpiredWord}
use Rattle.epoch_tables.proofs.shared_places.places.SharedPlaces.take_step.Goals as goal

-- what is at home under the word of an expired bag is such a bag
expired_at_home : {J : Type 0} (x word : ℕ) (home : Option (Sealed J)) → IsExpiredWord x word → IsAtHome word home
    → (bag : Sealed J) × (home ≡ Some bag) × IsExpired x bag
expired_at_home x word None expired empty = absurd (omega (arith, expired.1, empty))
expired_at_home x word (Some bag) expired there = (bag, refl, omega (arith, expired.1, expired.2, there))

-- the claim was of the word of an expired bag, so that bag is in hand now
pub returns-then-claim-word-clause-at : goal.returns-then-claim-word-clause-at
returns-then-claim-word-clause-at g c = let at = rw c.in-Claim.is at c.requires.at in
    let won = c.claim.ensures.won c.if-claim-word.true in
    let bag = expired_at_home c.args.expiry.number c.in-Claim.word won.0 at.1 won.1 in
    let place : ℕ = c.in-Claim.place in
    let hand = ap (λ me. me.1) won.2 ∙ ap (λ content. (place, content) ∷ c.args.seat.now.me.1) bag.1
    ∙ ap (λ slots. (place, Some bag.0) ∷ slots) at.2.1 in
    (at.0, (bag.0, bag.2, (ap (λ me. me.0.claimed) won.2, hand)))
