use Rattle.std.proofs.Common.{Some}
use Rattle.epoch_map.proofs.growing.GrowingMap.seek_further.Goals as goal

-- the node is one of an earlier hint's name
pub returns-in-Some-hinted_before-clause-lent : goal.returns-in-Some-hinted_before-clause-lent
returns-in-Some-hinted_before-clause-lent g c =
    (Some c.in-Some-hinted_before.hinted.name, c.in-Some-hinted_before.ensures.lent)
