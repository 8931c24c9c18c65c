use Rattle.std.proofs.Common.{◌≤◌, length, arith}
use Rattle.epoch_bags.proofs.BagLists.{all_occupied}
use Rattle.tests_world.proofs.pile.pile.PileBagStore.put_step.Goals as goal

-- as many bags as places
pub returns-then-len-self-clause-occupied : goal.returns-then-len-self-clause-occupied
returns-then-len-self-clause-occupied c =
    let full : c.args.self.now.capacity ≤ length c.args.self.now.bags.items =
    grind (arith, c.if-len-self.true, c.len.ensures) in
    λ not place from below. all_occupied c.args.self.now.capacity (length c.args.self.now.bags.items) place full below
