use Rattle.std.proofs.Common.{rules, ◌≡◌, ℕ, ◌+◌, ◌*◌, [], ◌∷◌, sym, ap, ◌∙◌, subst, arith}
use Rattle.atomic_table.specs.Table.{rest}
use Rattle.epoch_tables.specs.SharedPlaces.{PlaceBoard, IsAtHome, after_store}
use Rattle.epoch_tables.proofs.PlaceStores.{place_store_keeps}
use Rattle.epoch_tables.proofs.shared_places.places.SharedPlaces.fill.Goals as goal

-- the slot goes home with the bag put, whose seal was read
pub store-requires : goal.store-requires
store-requires g c =
    let same : c.self.inside.capacity ≡ c.args.self.now.capacity = ap (λ (b : PlaceBoard). b.capacity) c.self.view_is in
    let wide = c.self.invariant.words in
    let below = c.requires.claimed.0 in
    let bag = c.swap.new.y in
    let place : ℕ = c.args.place in
    let carried = ap (λ l. (place, bag) ∷ rest l) c.requires.hand in
    let seal = c.seal-seal.ensures.value in
    let left = subst (λ held. IsAtHome (2 * c.seal-seal.result + 1) held) (sym (c.swap.ensures.y_after ∙ c.in-Some.is))
    (ap (λ (z : ℕ). 2 * z + 1) seal) in
    rw c.place_word.ensures (rw c.word_index.ensures
    (search rules, omega arith, place_store_keeps _ _ _ _ _ _ bag c.requires.claimed.1 carried left))

-- the view keeps what is in the slot, which is the bag put
pub returns-clause-view : goal.returns-clause-view
returns-clause-view g c = let bag = c.swap.new.y in
    let place : ℕ = c.args.place in
    let carried = ap (λ l. (place, bag) ∷ rest l) c.requires.hand in
    c.store.ensures.2 place bag carried
    ∙ ap (λ content. (after_store c.args.seat.now.me.0 content, [])) c.swap.ensures.y_after
