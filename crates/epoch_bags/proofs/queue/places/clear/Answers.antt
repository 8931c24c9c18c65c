use Rattle.std.proofs.Common.{◌<◌, length, ap, arith}
use Rattle.epoch_bags.specs.PlaceLists.{PlaceList}
use Rattle.epoch_bags.proofs.PlaceWords.{sets_place, empty_matches}
use Rattle.epoch_bags.proofs.queue.places.clear.Goals as goal

pub invariant_of-places : goal.invariant_of-places
invariant_of-places g c =
    let within : c.args.place < length c.places.inside.words.items =
    omega (arith, ap (λ (p : PlaceList g.row.J.Denot). length p.words) c.places.view_is) in
    sets_place c.places.inside.words.items c.places.inside.bags.items c.args.place 0 c.take.new.self within
    (empty_matches c.take.new.self c.take.ensures.after) c.places.invariant
