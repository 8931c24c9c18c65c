use Rattle.std.proofs.Common.{rules, ◌≡◌, ℕ, [], ◌∷◌, Some, sym, refl, ap, ◌∙◌, subst, arith}
use Rattle.atomic_table.specs.Table.{rest}
use Rattle.epoch_tables.specs.SharedPlaces.{PlaceBoard, IsAtHome, after_store}
use Rattle.epoch_tables.proofs.PlaceStores.{place_store_keeps}
use Rattle.epoch_tables.proofs.shared_places.places.SharedPlaces.empty_into.Goals as goal

pub slot_mut-requires : goal.slot_mut-requires
slot_mut-requires g c =
    let in_hand = c.requires.holds.1.1 in
    let place : ℕ = c.args.place in
    let bag = c.requires.holds.0 in
    (search rules, (Some bag, in_hand ∙ ap (λ l. (place, Some bag) ∷ l) (sym (ap rest in_hand))))

-- the slot goes home with nothing
pub store-requires : goal.store-requires
store-requires g c =
    let same : c.self.inside.capacity ≡ c.args.self.now.capacity = ap (λ (b : PlaceBoard). b.capacity) c.self.view_is in
    let wide = c.self.invariant.words in
    let below = c.requires.within in
    let left = c.take.new.self in
    let place : ℕ = c.args.place in
    let carried = ap (λ l. (place, left) ∷ rest l) c.requires.holds.1.1 in
    let empty = subst (λ held. IsAtHome 0 held) (sym c.take.ensures.after) refl in
    rw c.word_index.ensures
    (search rules, omega arith, place_store_keeps _ _ _ _ _ _ left c.requires.holds.1.0 carried empty)

-- the view keeps what is in the slot, which is nothing
pub returns-clause-view : goal.returns-clause-view
returns-clause-view g c = let left = c.take.new.self in
    let place : ℕ = c.args.place in
    let carried = ap (λ l. (place, left) ∷ rest l) c.requires.holds.1.1 in
    c.store.ensures.2 place left carried
    ∙ ap (λ content. (after_store c.args.seat.now.me.0 content, [])) c.take.ensures.after
