use Rattle.std.proofs.Common.{rules, ◌≡◌, ℕ, [], ◌∷◌, sym, refl, ap, ◌∙◌, subst, arith}
use Rattle.atomic_table.specs.Table.{rest}
use Rattle.epoch_tables.specs.SharedPlaces.{PlaceBoard, IsAtHome, after_store}
use Rattle.epoch_tables.proofs.PlaceStores.{place_store_keeps}
use Rattle.epoch_tables.proofs.shared_places.places.SharedPlaces.empty.Goals as goal

-- the slot goes home with what `bag` was, which is nothing
pub store-requires : goal.store-requires
store-requires g c =
    let same : c.self.inside.capacity ≡ c.args.self.now.capacity = ap (λ (b : PlaceBoard). b.capacity) c.self.view_is in
    let wide = c.self.invariant.words in
    let below = c.requires.claimed.0 in
    let bag = c.swap.new.x in
    let place : ℕ = c.args.place in
    let carried = ap (λ l. (place, bag) ∷ rest l) c.requires.hand.1 in
    let left = subst (λ held. IsAtHome 0 held) (sym (c.swap.ensures.x_after ∙ c.requires.none)) refl in
    rw c.word_index.ensures
    (search rules, omega arith, place_store_keeps _ _ _ _ _ _ bag c.requires.claimed.1 carried left)

-- the view keeps what is in the slot, which is nothing
pub returns-clause-view : goal.returns-clause-view
returns-clause-view g c = let bag = c.swap.new.x in
    let place : ℕ = c.args.place in
    let carried = ap (λ l. (place, bag) ∷ rest l) c.requires.hand.1 in
    let left = c.swap.ensures.x_after ∙ c.requires.none in
    c.store.ensures.2 place bag carried ∙ ap (λ content. (after_store c.args.seat.now.me.0 content, [])) left
