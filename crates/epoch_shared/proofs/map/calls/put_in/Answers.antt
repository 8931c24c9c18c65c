use Rattle.std.proofs.Common.{◌≡◌, refl, subst}
use Rattle.std.specs.declared.cmp.Ordering.TheVariants.{Equal}
use Rattle.epoch_shared.proofs.map.calls.put_in.Goals as goal

-- the entry is the one that was replaced
pub returns-in-Ok-Some-clause-replaced : goal.returns-in-Ok-Some-clause-replaced
returns-in-Ok-Some-clause-replaced g c = λ _. (
  g.N.MapNode.key c.in-Ok-Some._before.now,
  (g.N.KeepsEntry.entry c.in-Ok-Some._before.now).1,
  (c.in-Ok-Some._before.now, refl, refl),
  subst
      (λ key. g.N.Key.Ord.cmp (g.N.MapNode.key c.in-Ok-Some._before.now) key ≡ Equal)
      c.with.ensures.key
      (rw c.in-Ok-Some.field-0-is at c.in-Ok-Some.ensures.found),
)
