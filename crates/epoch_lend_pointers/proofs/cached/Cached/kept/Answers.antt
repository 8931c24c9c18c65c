use Rattle.std.proofs.Common.{◌≡◌, ℕ, sym, subst}
use Rattle.epoch_lend_pointers.specs.Steps.{LendsNumbered}
use Rattle.epoch_lend_pointers.proofs.LooksKept.{found_before}
use Rattle.epoch_lend_pointers.proofs.cached.Cached.kept.Goals as goal

-- the value was found under the name in this number
pub returns-then-number-self : goal.returns-then-number-self
returns-then-number-self g c =
    let did = g.M.StoreSteps.did g.J.PostSet.posts c.args.self.now.store.now.number in
    let kept : ℕ = c.args.self.now.number in
    let same : kept ≡ c.args.number = sym c.if-number-self.true in
    found_before (λ v. LendsNumbered did kept v.now) (λ v. LendsNumbered did c.args.number v.now)
    c.args.self.now.value
    (λ v told. subst (λ n. LendsNumbered did n v.now) same told)
    c.args.self.now.found
