use Rattle.std.proofs.Common.{◌≢◌, ◌∙◌, ℕ, ◌<◌, None, length, slice_index_or, inl, inr, ap, sym, subst, arith}
use Rattle.std.proofs.lemmas.Bool.Decides.{eqb_tells}
use Rattle.std.proofs.lemmas.Grind.{common_steps, get_or-set_at}
use Rattle.std.proofs.lemmas.List.{get_or_default, get_or-set_other}
use Rattle.epoch_bags.specs.Jobs.{IsCalled}
use Rattle.epoch_tables.specs.Ends.{IsBagCalled}
use Rattle.epoch_tables.proofs.ends.end.end_bags.Goals as goal

-- the bag at this place is ended, and those after it are as they were
pub loop-place-preserved : goal.loop-place-preserved
loop-place-preserved g c =
    let inv = c.loop-place.invariant in let at = c.loop-place.place in let bags = c.loop-place.bags in
    let within : at < length bags =
    let same = c.loop-place.auto.bags in
    let test = c.loop-place-test.true in
    omega arith in
    record {
      count = grind (arith, common_steps);
      few = omega arith;
      called = λ k less. elim (eqb_tells k at) [
        | inl same ↦ subst (λ z. IsBagCalled (IsCalled g.W.Run.done g.W.Removing.Remove.tried) z)
            (get_or_default bags at _ None within ∙ inv.left at (omega arith)
            ∙ ap (λ (z : ℕ). slice_index_or c.args.bags.now z None) (sym same.1)) c.end_bag-count.ensures.called
        | inr other ↦ let differs : k ≢ at = other.1 in inv.called k (omega arith)
      ];
      left = λ k past. get_or-set_other bags at k _ None (λ is. absurd (omega arith)) ∙ inv.left k (omega arith);
      none = λ k less. elim (eqb_tells k at) [
        | inl same ↦ get_or-set_at bags at k _ None same.1 within ∙ c.end_bag-count.ensures.none
        | inr other ↦ let differs : k ≢ at = other.1 in
            get_or-set_other bags at k _ None differs ∙ inv.none k (omega arith)
      ];
    }
