use Rattle.std.proofs.Common.{◌≡◌, ◌<◌, length, ap, arith, sym, subst, ◌∙◌, None, Some, IsSome}
use Rattle.std.proofs.Common.{slice_index_or}
use Rattle.epoch_bags.specs.Bags.{Sealed}
use Rattle.epoch_bags.specs.PlaceLists.{PlaceList}
use Rattle.epoch_bags.proofs.PlaceWords.{sets_place, sealed_matches, bag_seen, get_any}
use Rattle.epoch_bags.proofs.queue.places.fill.Goals as goal

-- the word that is written tells the seal of the bag that moves in
pub invariant_of-places : goal.invariant_of-places
invariant_of-places g c =
    let within : c.args.place < length c.places.inside.words.items =
    omega (arith, ap (λ (p : PlaceList g.row.J.Denot). length p.words) c.places.view_is) in
    let bag : Sealed g.row.J.Denot = record { seal = c.number-seal.result; jobs = c.take-2.inside.jobs.items } in
    sets_place c.places.inside.words.items c.places.inside.bags.items c.args.place c.place_word.result
    (Some bag) within (sealed_matches c.place_word.result bag c.place_word.ensures) c.places.invariant

-- a bag is at home, so the word is another than that of an empty place
pub returns-then-is_some-clause-there : goal.returns-then-is_some-clause-there
returns-then-is_some-clause-there g c missed zero_word =
    let beside : c.args.place < length c.places.inside.bags.items =
    omega (arith, c.places.invariant.beside, ap (λ (p : PlaceList g.row.J.Denot). length p.words) c.places.view_is) in
    let home : slice_index_or c.places.inside.bags.items c.args.place None ≡ c.index.result.now =
    get_any _ _ None _ beside ∙ sym c.index.ensures in
    let word = ap (λ (p : PlaceList g.row.J.Denot). slice_index_or p.words c.args.place 0) c.places.view_is in
    bag_seen _ _ (c.places.invariant.words_match c.args.place)
    (subst IsSome (sym home) (sym c.is_some.ensures ∙ c.if-is_some.true)) (word ∙ zero_word)
