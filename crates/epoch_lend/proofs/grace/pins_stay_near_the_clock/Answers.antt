use Rattle.epoch_lend.proofs.PinsPassed.{pins_stay_near}
use Rattle.epoch_lend.proofs.grace.pins_stay_near_the_clock.Goals as goal

pub returns : goal.returns
returns c = pins_stay_near
