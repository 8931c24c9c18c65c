use Rattle.epoch_script.proofs.ReadAccesses.{load_only, change_only}
use Rattle.epoch_script.proofs.accesses.read_pointed.Goals as goal

pub returns-in-None : goal.returns-in-None
returns-in-None c = load_only c.args.word.now c.args.text.now c.in-load.is (rw c.in-None.is at c.read_load.ensures)

pub returns-in_default : goal.returns-in_default
returns-in_default c = change_only c.args.word.now c.args.text.now c.in_default.not-load c.in_default.not-store
    c.read_under.result c.read_under.ensures
