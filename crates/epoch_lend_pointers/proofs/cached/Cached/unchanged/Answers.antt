use Rattle.epoch_lend_pointers.specs.Steps.{LendsNumbered, LendsLoaded}
use Rattle.epoch_lend_pointers.proofs.LooksKept.{lent_again}
use Rattle.epoch_lend_pointers.proofs.NameNumbers.{loads_named}
use Rattle.epoch_lend_pointers.proofs.cached.Cached.unchanged.Goals as goal

-- the pointer has the name under which the value was found
pub returns : goal.returns
returns g c =
    let did = g.M.StoreSteps.did g.J.PostSet.posts c.args.self.now.store.now.number in
    let loads = g.A.SharedWord.did c.args.at.now.word in
    let align = g.T.Pointable.ALIGN in
    let number = c.load_number.result in
    record {
      did = lent_again (λ v. LendsNumbered did number v.now) (λ v. LendsLoaded align loads did v.now)
          c.kept.result
          (λ v told.
          let led = loads_named align g.T.Pointable.log loads number told.0 g.met.T.Pointable.is_power
          c.load_number.ensures.did told.1 in
          (told.0, led.0, led.1, told.2))
          c.kept.ensures;
    }
