use Rattle.std.proofs.Common.{inr}
use Rattle.epoch_shared.proofs.map.inserting.InsertHoldMapInsertsKeyValue.get_or_insert_with.Goals as goal

-- the closure was called with the value of the entry that was found
pub returns-in-Some-clause-given : goal.returns-in-Some-clause-given
returns-in-Some-clause-given g c =
    let seen = c.in-Some.ensures.given in (seen.1, seen.4, inr (seen.0, seen.2, seen.3))
