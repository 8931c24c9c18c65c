use Rattle.epoch_lend.proofs.PinsPassed.{pins_over}
use Rattle.epoch_lend.proofs.grace.pins_from_before_are_over.Goals as goal

pub returns : goal.returns
returns c = pins_over
