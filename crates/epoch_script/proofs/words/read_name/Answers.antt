use Rattle.epoch_script.proofs.ReadNames.{name_read}
use Rattle.epoch_script.proofs.words.read_name.Goals as goal

pub returns-in-Some : goal.returns-in-Some
returns-in-Some c =
    name_read c.args.text.now c.in-Some.slot c.in-Some.turn c.name_at.result
    (rw c.in-Some.is at c.read_turn.ensures) c.name_at.ensures.some c.name_at.ensures.none
