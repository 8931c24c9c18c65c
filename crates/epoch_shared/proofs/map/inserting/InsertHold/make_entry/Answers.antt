use Rattle.std.proofs.Common.{inl, inr, refl, subst}
use Rattle.std.proofs.lemmas.Fn.{says_at}
use Rattle.epoch_shared.proofs.map.inserting.InsertHold.make_entry.Goals as goal

-- the closure was called with the value that was made
pub returns-in-Ok-None-clause-given : goal.returns-in-Ok-None-clause-given
returns-in-Ok-None-clause-given g c = (
  c.in-Some.value,
  says_at g.F.Fn c.look-own.ensures refl,
  inl (subst (λ made. g.M.FnOnce.post c.args.make tt made) c.in-Some.is c.make.ensures),
)

-- the closure was called with the value that another thread gave the key
pub returns-in-Ok-Some-clause-given : goal.returns-in-Ok-Some-clause-given
returns-in-Ok-Some-clause-given g c =
    let seen = rw c.in-Ok-Some.field-0-is at c.in-Ok-Some.ensures.given in
    (seen.1, seen.4, inr (seen.0, seen.2, seen.3))

-- what comes back is what was made
pub returns-in-Err-clause-handed_back : goal.returns-in-Err-clause-handed_back
returns-in-Err-clause-handed_back g c = (
  c.in-Some.value,
  subst (λ made. g.M.FnOnce.post c.args.make tt made) c.in-Some.is c.make.ensures,
  c.in-Err.ensures.handed_back,
)
