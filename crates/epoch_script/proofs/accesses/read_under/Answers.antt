use Rattle.epoch_script.proofs.ReadAccesses.{under_none}
use Rattle.epoch_script.proofs.accesses.read_under.Goals as goal

pub returns-in_default-read_spotted : goal.returns-in_default-read_spotted
returns-in_default-read_spotted c =
    under_none c.args.word.now c.args.text.now _ (rw c.in_default-Some.is-1 at c.cut.ensures.others)
    (rw c.in_default-Some.rest-is at (rw c.in_default-read_spotted.is at c.read_spotted.ensures))
