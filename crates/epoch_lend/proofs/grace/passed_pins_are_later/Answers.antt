use Rattle.epoch_lend.proofs.PinsPassed.{passed_pins}
use Rattle.epoch_lend.proofs.grace.passed_pins_are_later.Goals as goal

pub returns : goal.returns
returns c = passed_pins
