use Rattle.std.proofs.Common.{◌≡◌, refl, subst, sym}
use Rattle.std.proofs.lemmas.Fn.{says_at}
use Rattle.std.specs.declared.cmp.Ordering.TheVariants.{Equal}
use Rattle.epoch_shared.proofs.map.calls.insert_in.Goals as goal

-- the closure was called with the value of the entry that was found, whose key compares as equal
pub returns-in-Ok-Some-clause-given : goal.returns-in-Ok-Some-clause-given
returns-in-Ok-Some-clause-given g c = (
  g.N.MapNode.key c.in-Ok-Some.there.now,
  c.value.result.now,
  (c.in-Ok-Some.there.now, refl, sym c.value.ensures),
  subst
      (λ key. g.N.Key.Ord.cmp (g.N.MapNode.key c.in-Ok-Some.there.now) key ≡ Equal)
      c.with.ensures.key
      (rw c.in-Ok-Some.field-0-is at c.in-Ok-Some.ensures.found),
  says_at g.F.Fn c.look.ensures refl,
)
