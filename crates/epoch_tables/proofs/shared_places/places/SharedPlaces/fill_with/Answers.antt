use Rattle.std.proofs.Common.{rules, ◌≡◌, ℕ, [], ◌∷◌, Some, refl, ap, ◌∙◌, arith}
use Rattle.atomic_table.specs.Table.{rest}
use Rattle.epoch_bags.specs.Bags.{Sealed}
use Rattle.epoch_tables.specs.SharedPlaces.{PlaceBoard, after_store}
use Rattle.epoch_tables.proofs.PlaceStores.{place_store_keeps}
use Rattle.epoch_tables.proofs.shared_places.places.SharedPlaces.fill_with.Goals as goal

-- the slot goes home with the bag put, under this seal
pub store-requires : goal.store-requires
store-requires g c =
    let same : c.self.inside.capacity ≡ c.args.self.now.capacity = ap (λ (b : PlaceBoard). b.capacity) c.self.view_is in
    let wide = c.self.invariant.words in
    let below = c.requires.within in
    let bag : Sealed g.row.J.Denot = record { seal = c.args.seal.number; jobs = c.args.held.now.jobs } in
    let place : ℕ = c.args.place in
    let carried = ap (λ l. (place, Some bag) ∷ rest l) c.requires.holds.1 in
    rw c.seal_into.ensures.sealed (rw c.place_word.ensures (rw c.number.ensures.value (rw c.word_index.ensures
    (search rules, omega arith, place_store_keeps _ _ _ _ _ _ (Some bag) c.requires.holds.0 carried refl))))

-- the view keeps what is in the slot, which is the bag put
pub returns-clause-view : goal.returns-clause-view
returns-clause-view g c =
    let bag : Sealed g.row.J.Denot = record { seal = c.args.seal.number; jobs = c.args.held.now.jobs } in
    let place : ℕ = c.args.place in
    let carried = ap (λ l. (place, c.seal_into.new.place) ∷ rest l) c.requires.holds.1 in
    c.store.ensures.2 place c.seal_into.new.place carried
    ∙ ap (λ o. (after_store c.args.seat.now.me.0 o, [])) c.seal_into.ensures.sealed
