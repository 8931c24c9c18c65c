use Rattle.std.proofs.Common.{◌≡◌, ◌∙◌, ℕ, zero, suc, ◌+◌, ◌<◌, List, [], ◌∷◌, length, Option, All, ap, sym, refl}
use Rattle.std.proofs.Common.{subst, arith}
use Rattle.epoch_bags.specs.Bags.{Sealed}
use Rattle.epoch_bags.specs.Jobs.{IsCalled}
use Rattle.epoch_tables.specs.Ends.{jobs_in, IsBagCalled}
use Rattle.epoch_tables.proofs.ends.end.end_left.Goals as goal

-- what holds of the first and of all behind it holds of all
all_from_first : {A : Type 0} (P : A → Type 0) (x : A) (xs : List A) → P x → All P xs → All P (x ∷ xs)
all_from_first P x xs first behind zero d less = first
all_from_first P x xs first behind (suc k) d less = behind k d (omega (arith, less))

no_jobs : {J : Type 0} (bags : List (Option (Sealed J))) → length bags ≡ 0 → jobs_in bags ≡ 0
no_jobs [] none = refl
no_jobs (bag ∷ bags) none = absurd (omega (arith, none))

-- one more is taken out, and its jobs are called
pub loop-taken-preserved : goal.loop-taken-preserved
loop-taken-preserved g c =
    let inv = c.loop-taken.invariant in
    let next = c.next-count.ensures.next in
    let then = c.next-count.new.left in
    let long = ap length next.first in
    let jobs = ap jobs_in next.first in
    record {
      long = omega (arith, inv.long, long);
      few = omega (arith, inv.few, next.few);
      count = omega (arith, inv.count, jobs, next.counts);
      called = λ behind. inv.called (subst (All (IsBagCalled (IsCalled g.W.Run.done g.W.Removing.Remove.tried)))
          (sym next.first) (all_from_first (IsBagCalled (IsCalled g.W.Run.done g.W.Removing.Remove.tried)) next.bag then
          next.calls behind));
    }

-- each place was taken out of
pub returns : goal.returns
returns g c =
    let inv = c.loop-taken.invariant in
    let none : length c.loop-taken.left ≡ 0 = omega arith in
    let no_more = no_jobs c.loop-taken.left none in
    record {
      called = inv.called (λ k d less. absurd (omega (arith, less, none)));
      count = omega (arith, inv.count, no_more);
      none = none;
    }
