use Rattle.std.proofs.Common.{◌-◌, arith, sym}
use Rattle.tests_world.proofs.PileSteps.{one_passed, one_taken}
use Rattle.tests_world.proofs.pile.pile.PileBagStore.take_step.Goals as goal

-- the bag that was looked at is taken, and those below it stay
pub returns-then-is_expired-clause-ahead : goal.returns-then-is_expired-clause-ahead
returns-then-is_expired-clause-ahead c =
    one_taken c.args.expiry.number c.args.cursor.now (c.min-left.result - 1) c.args.self.now.bags.items
    c.remove.new.self.items c.index.result.now
    (omega (arith, c.min-left.ensures, c.len.ensures, c.if-left-eq0.false)) c.index.ensures
    (c.is_expired.ensures.0 c.if-is_expired.true) c.remove.ensures.by_index.2

-- the bag that was looked at is passed
pub returns-else-left-eq1-clause-ahead : goal.returns-else-left-eq1-clause-ahead
returns-else-left-eq1-clause-ahead c =
    sym
    (one_passed c.args.expiry.number c.args.cursor.now (c.min-left.result - 1) c.args.self.now.bags.items
    c.index.result.now
    (omega (arith, c.min-left.ensures, c.len.ensures, c.if-left-eq0.false)) c.index.ensures
    (λ expired. absurd (cc (c.if-is_expired.false, c.is_expired.ensures.1 expired))))
