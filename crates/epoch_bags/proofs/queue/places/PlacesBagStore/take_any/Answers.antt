use Rattle.std.proofs.Common.{◌≡◌, arith, ap, subst, length, []}
use Rattle.epoch_bags.specs.Stores.{TakesAny}
use Rattle.epoch_bags.specs.PlaceLists.{PlaceList, bags_in, IsClaimedAt, IsReservedAt}
use Rattle.epoch_bags.proofs.PlacedBags.{none_in}
use Rattle.epoch_bags.proofs.PlaceSteps.{clears_bag, clears_claim}
use Rattle.epoch_bags.proofs.ClaimedPlaces.{reserves_less}
use Rattle.epoch_bags.proofs.queue.places.PlacesBagStore.take_any.Goals as goal

pub returns-then-has_bag-clause-bag : goal.returns-then-has_bag-clause-bag
returns-then-has_bag-clause-bag g c =
    subst (λ (p : PlaceList g.row.J.Denot). TakesAny (bags_in p.bags) c.clear.result (bags_in c.clear.new.places.bags))
    c.loop-place.invariant.same
    (clears_bag c.loop-place.self.bags c.clear.new.places.bags c.loop-place.place c.clear.result c.clear.ensures.bag
    (c.has_bag.ensures.0 c.if-has_bag.true) c.clear.ensures.bags)

pub returns-then-has_bag-clause-claims : goal.returns-then-has_bag-clause-claims
returns-then-has_bag-clause-claims g c place claimed =
    subst (λ (p : PlaceList g.row.J.Denot). IsClaimedAt p place) c.loop-place.invariant.same
    (clears_claim c.loop-place.self c.clear.new.places c.loop-place.place
    (omega (arith, ap (λ (p : PlaceList g.row.J.Denot). length p.words) c.loop-place.invariant.same))
    c.clear.ensures.words c.clear.ensures.bags place claimed)

pub returns-then-has_bag-clause-reserves : goal.returns-then-has_bag-clause-reserves
returns-then-has_bag-clause-reserves g c place reserved =
    subst (λ (p : PlaceList g.row.J.Denot). IsReservedAt p place) c.loop-place.invariant.same
    (reserves_less c.loop-place.self c.clear.new.places c.loop-place.place 0 place _
    (omega (arith, ap (λ (p : PlaceList g.row.J.Denot). length p.words) c.loop-place.invariant.same))
    (λ zero_word. absurd (omega arith)) c.clear.ensures.words c.clear.ensures.bags reserved).0

pub returns-clause-bag : goal.returns-clause-bag
returns-clause-bag g c =
    let same : c.loop-place.self ≡ c.args.self.now = c.loop-place.invariant.same in
    let none : bags_in c.loop-place.self.bags ≡ [] = none_in c.loop-place.self.bags
    (λ k within. c.loop-place.invariant.none k (omega (
      arith,
      within,
      ap (λ (p : PlaceList g.row.J.Denot). length p.bags) same,
      c.count-place-end.ensures.agrees.beside,
    ))) in
    (subst (λ (p : PlaceList g.row.J.Denot). bags_in p.bags ≡ []) same none, none)
