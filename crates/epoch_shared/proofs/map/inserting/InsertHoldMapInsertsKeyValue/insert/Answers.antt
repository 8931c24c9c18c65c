use Rattle.epoch_shared.proofs.map.inserting.InsertHoldMapInsertsKeyValue.insert.Goals as goal

-- the entry is the one that was found
pub returns-in-Ok-Some-clause-found : goal.returns-in-Ok-Some-clause-found
returns-in-Ok-Some-clause-found g c = λ _.
    let seen = rw c.in-Ok-Some.field-0-is at c.in-Ok-Some.ensures.given in (seen.0, seen.1, seen.2, seen.3)
