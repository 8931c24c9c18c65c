use Rattle.std.proofs.Common.{rules, ◌≡◌, ℕ, ◌∷◌, ap, ◌∙◌, subst, arith}
use Rattle.epoch_tables.specs.SharedPlaces.{PlaceBoard, IsAtHome, after_place_claim}
use Rattle.epoch_tables.proofs.PlaceClaims.{place_claim_keeps}
use Rattle.epoch_tables.proofs.shared_places.places.SharedPlaces.claim.Goals as goal

pub compare_exchange-requires : goal.compare_exchange-requires
compare_exchange-requires g c =
    let same : c.self.inside.capacity ≡ c.args.self.now.capacity = ap (λ (b : PlaceBoard). b.capacity) c.self.view_is in
    let wide = c.self.invariant.words in
    let key = c.self.invariant.key in
    let below = c.requires.within in
    rw c.word_index.ensures
    (search rules, omega arith, place_claim_keeps _ _ _ _ _ _ c.requires.free (omega arith) c.requires.word)

pub returns-clause-lost : goal.returns-clause-lost
returns-clause-lost g c = λ miss. c.compare_exchange.ensures.2.1 miss c.args.place c.word_index.ensures

-- what was at home is told of the word found, which is the word given
pub returns-clause-won : goal.returns-clause-won
returns-clause-won g c = λ hit. let told = c.compare_exchange.ensures.2.2 hit c.args.place c.word_index.ensures in
    let place : ℕ = c.args.place in (
      told.0,
      subst (λ (z : ℕ). IsAtHome z told.0) hit told.1,
      told.2 ∙ ap (λ (z : ℕ).
          (after_place_claim c.args.seat.now.me.0 place z told.0, (place, told.0) ∷ c.args.seat.now.me.1)) hit,
    )
