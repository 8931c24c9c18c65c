use Rattle.std.proofs.Common.{refl, sym}
use Rattle.std.proofs.lemmas.Fn.{says_at}
use Rattle.epoch_shared.proofs.map.calls.see_in.Goals as goal

-- the closure was called with the value of the entry that was found, whose key compares as equal
pub returns-in-Some : goal.returns-in-Some
returns-in-Some g c =
    record {
      given = (
        g.N.MapNode.key c.in-Some.entry.now,
        c.value.result.now,
        (c.in-Some.entry.now, refl, sym c.value.ensures),
        c.in-Some.ensures.found,
        says_at g.F.Fn c.look.ensures refl,
      );
    }
