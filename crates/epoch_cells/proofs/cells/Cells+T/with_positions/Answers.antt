use Rattle.std.proofs.Common.{◌≡◌, ◌+◌, length, arith, subst, sym}
use Rattle.epoch_cells.proofs.SlotNumberLists.{all_numbered, counts_push, CountsFrom}
use Rattle.epoch_cells.proofs.cells.Cells+T.with_positions.Goals as goal

-- The slot that is pushed has the number after those before it.
pub loop-index-preserved : goal.loop-index-preserved
loop-index-preserved g c =
    let next : c.started.result ≡ 1 + length c.loop-index.slots.items =
    omega (arith, c.started.ensures, c.loop-index.slots.ok, c.loop-index.invariant.0) in (
      omega (arith, c.in_ok-push.ensures.length, c.loop-index.invariant.0),
      subst (CountsFrom 1) (sym c.in_ok-push.ensures.ok)
          (counts_push 1 c.loop-index.slots.items c.started.result next c.loop-index.invariant.1),
    )

pub invariant_of-result-clause-numbered : goal.invariant_of-result-clause-numbered
invariant_of-result-clause-numbered g c = all_numbered c.loop-index.slots.items c.loop-index.invariant.1
