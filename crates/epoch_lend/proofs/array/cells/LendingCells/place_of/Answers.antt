use Rattle.std.proofs.Common.{sym, ap, ◌∙◌}
use Rattle.std.specs.Prelude.{Some}
use denote.RawPtr.{Ptr}
use Rattle.epoch_lend.specs.Blocks.{place_in}
use Rattle.epoch_lend.proofs.Places.{found}
use Rattle.epoch_lend.proofs.array.cells.LendingCells.place_of.Goals as goal

-- src/array/cells.rt:98:5
pub returns : goal.returns
returns g c = found (λ s. s.turns.at) c.args.self.now.base c.args.self.now.block.stride c.args.self.now.slots.items
    c.args.slot c.args.self.now.laid c.requires ∙ ap Some (ap (λ (p : Ptr). place_in p c.args.self.now.block.stride
    c.args.slot) (sym c.args.self.now.of_block.1) ∙ sym c.place.ensures)
