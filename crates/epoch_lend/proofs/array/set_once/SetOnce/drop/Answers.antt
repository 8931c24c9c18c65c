use Rattle.std.proofs.Common.{◌≡◌, ℕ, ◌+◌, length, [], ◌∷◌, sym, ap, subst, ◌∙◌, arith}
use Rattle.std.proofs.lemmas.List.{length-append}
use Rattle.std.specs.Prelude.{map}
use denote.RawPtr.{Ptr}
use Rattle.epoch_lend.specs.Blocks.{place_in, places_in}
use Rattle.epoch_lend.proofs.Places.{one_less}
use Rattle.epoch_lend.proofs.array.set_once.SetOnce.drop.Goals as goal

-- src/array/set_once.rt:240:19
pub end-claim-requires : goal.end-claim-requires
end-claim-requires g c =
    let base : Ptr = c.args.self.base in
    let stride : ℕ = c.places.block.stride in
    let rest = c.pop.new.self.items in
    let place = c.in-Some.place in
    let less = one_less (λ p. p.turns.at) base stride rest place (subst (λ xs. map (λ p. p.turns.at) xs ≡ places_in base
    stride (length xs)) c.in-Some.ensures.items c.places.invariant.0) in
    c.place.ensures ∙ (λ i. place_in (c.places.invariant.2 i) stride ((c.len-index.ensures ∙ c.pop.new.self.ok.0) i)) ∙
    sym less.1

-- src/array/set_once.rt:238:9
pub places-preserved : goal.places-preserved
places-preserved g c =
    let base : Ptr = c.args.self.base in
    let stride : ℕ = c.places.block.stride in
    let rest = c.pop.new.self.items in
    let place = c.in-Some.place in
    let kept = c.places.invariant in
    let put = c.put_back-block.ensures in
    let less = one_less (λ p. p.turns.at) base stride rest place (subst (λ xs. map (λ p. p.turns.at) xs ≡ places_in base
    stride (length xs)) c.in-Some.ensures.items kept.0) in
    let long : length c.places.places.items ≡ length rest + 1 = ap length c.in-Some.ensures.items ∙ length-append rest
    (place ∷ []) in (
      less.0 ∙ ap (λ (z : ℕ). places_in base z (length rest)) (sym put.2),
      put.0 ∙ kept.1,
      put.1 ∙ kept.2,
      put.3 ∙
          c.len-index.ensures ∙ c.pop.new.self.ok.0,
      omega (arith, kept.4, long, put.4),
    )
