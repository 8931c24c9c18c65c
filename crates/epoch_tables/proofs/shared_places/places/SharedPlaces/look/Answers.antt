use Rattle.std.proofs.Common.{rules, ◌≡◌, ap, arith}
use Rattle.epoch_tables.specs.SharedPlaces.{PlaceBoard}
use Rattle.epoch_tables.proofs.PlaceLooks.{place_look_keeps}
use Rattle.epoch_tables.proofs.shared_places.places.SharedPlaces.look.Goals as goal

pub load-requires : goal.load-requires
load-requires g c =
    let same : c.self.inside.capacity ≡ c.args.self.now.capacity = ap (λ (b : PlaceBoard). b.capacity) c.self.view_is in
    let wide = c.self.invariant.words in
    let key = c.self.invariant.key in
    let below = c.requires.within in
    rw c.word_index.ensures (search rules, omega arith, place_look_keeps _ _ _ _ _ (omega arith))

-- the word is that of this place
pub returns-clause-view : goal.returns-clause-view
returns-clause-view g c = c.load.ensures.2.1 c.args.place c.word_index.ensures
