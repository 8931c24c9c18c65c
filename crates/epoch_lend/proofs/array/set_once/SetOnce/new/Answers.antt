use Rattle.std.proofs.Common.{rules, ◌≡◌, ℕ, ◌+◌, length, [], ◌∷◌, ◌++◌, sym, ap, subst, ◌∙◌, arith}
use Rattle.std.proofs.lemmas.List.{length-append}
use Rattle.std.specs.Prelude.{map}
use denote.RawPtr.{Ptr}
use Rattle.epoch_lend.specs.Blocks.{place_in, places_in}
use Rattle.epoch_lend.proofs.Places.{one_more}
use Rattle.epoch_lend.proofs.array.set_once.SetOnce.new.Goals as goal

-- src/array/set_once.rt:63:9
pub loop-position-preserved : goal.loop-position-preserved
loop-position-preserved g c =
    let old = c.loop-position.places.items in
    let kept = c.loop-position.invariant in
    let base : Ptr = c.in_ok-base.base in
    let block = c.loop-position.block in
    let rest = c.take-rest.result.0 in
    let made = c.new-in-loop-position.result in
    let taken = c.take-rest.ensures.block in
    let pushed : c.push.new.self.items ≡ old ++ made ∷ [] = search rules in
    let place : made.turns.at ≡ place_in base rest.stride (length old) = c.new-in-loop-position.ensures ∙
    c.take-rest.ensures.place ∙ c.place-at.ensures ∙ (λ i. place_in (kept.3 i) (sym taken.2 i) (sym kept.0 i)) in
    let laid : map (λ p. p.turns.at) old ≡ places_in base rest.stride (length old) = kept.1 ∙ ap (λ (z : ℕ). places_in
    base z (length old)) (sym taken.2) in
    let long : length (old ++ made ∷ []) ≡ length old + 1 = length-append old (made ∷ []) in (
      ap length pushed ∙ long ∙ ap (λ (n : ℕ). n + 1) kept.0,
      subst (λ xs. map (λ p. p.turns.at) xs ≡ places_in base
          rest.stride (length xs)) (sym pushed) (one_more (λ p. p.turns.at) base rest.stride old made laid place),
      taken.0 ∙
          kept.2,
      taken.1 ∙ kept.3,
      taken.3 ∙ ap (λ (n : ℕ). n + 1) kept.4,
      omega (arith, kept.5, taken.4),
    )
