use Rattle.epoch_lend.proofs.PinsPassed.{earlier_pins}
use Rattle.epoch_lend.proofs.grace.earlier_pins_are_of_earlier_epochs.Goals as goal

pub returns : goal.returns
returns c = earlier_pins
