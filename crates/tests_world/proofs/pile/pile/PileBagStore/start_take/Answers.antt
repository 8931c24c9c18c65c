use Rattle.std.proofs.Common.{◌≡◌, ℕ, ap, arith, length, min, take, ◌∙◌}
use Rattle.tests_world.specs.Piles.{expired_count}
use Rattle.tests_world.proofs.PileSteps.{all_below}
use Rattle.tests_world.proofs.pile.pile.PileBagStore.start_take.Goals as goal

-- all are still to be looked at
pub returns-clause-ahead : goal.returns-clause-ahead
returns-clause-ahead c epoch free all =
    let every : c.len.result ≡ length c.args.self.now.bags.items =
    omega (arith, c.len.ensures, c.args.self.now.bags.ok) in
    ap (λ (n : ℕ). min 64 (expired_count epoch (take n c.args.self.now.bags.items))) every
    ∙ ap (min 64) (all_below epoch c.args.self.now.bags.items all)
