use Rattle.std.proofs.Common.{sym, ap, ◌∙◌}
use Rattle.std.specs.Prelude.{Some}
use denote.RawPtr.{Ptr}
use Rattle.epoch_lend.specs.Blocks.{place_in}
use Rattle.epoch_lend.proofs.Places.{found}
use Rattle.epoch_lend.proofs.array.set_once.SetOnce.place_of.Goals as goal

-- src/array/set_once.rt:98:5
pub returns : goal.returns
returns g c = found (λ p. p.turns.at) c.args.self.now.base c.args.self.now.block.stride c.args.self.now.places.items
    c.args.index c.args.self.now.laid c.requires ∙ ap Some (ap (λ (p : Ptr). place_in p c.args.self.now.block.stride
    c.args.index) (sym c.args.self.now.of_block.1) ∙ sym c.place.ensures)
