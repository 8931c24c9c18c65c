use Rattle.std.proofs.Common.{◌∙◌, sym, subst, arith}
use Rattle.epoch_cells.specs.SlotNumbers.{AreNumbered}
use Rattle.epoch_cells.proofs.SlotNumberLists.{number_of}
use Rattle.epoch_cells.proofs.cells.Cells.place_near.Goals as goal

pub try_place-requires-clause-numbered : goal.try_place-requires-clause-numbered
try_place-requires-clause-numbered g c =
    c.slot.ensures ∙ c.index-slots-index.is ∙ number_of _ _ _
    (subst (λ numbers. ∥ AreNumbered numbers ∥₁) (sym c.as_slice-slots.ensures.value) c.args.self.now.numbered)
    (omega (arith, c.loop-index-test.true, c.min-to.ensures))
