use Rattle.std.proofs.Common.{IfSome, subst}
use Rattle.std.proofs.Math.Logic.{∥∥₁_map}
use Rattle.epoch_cells.specs.declared.cells.name.Name.{Name}
use Rattle.epoch_lend_pointers.specs.Steps.{LendsNumbered}
use Rattle.epoch_lend_pointers.proofs.NameNumbers.{loads_named}
use Rattle.epoch_lend_pointers.proofs.cached.Cached.get.Goals as goal

-- the value was found before, under the name that was loaded
pub returns-in-Some-clause-did : goal.returns-in-Some-clause-did
returns-in-Some-clause-did g c =
    let loads = g.A.SharedWord.did c.args.at.now.word in
    ∥∥₁_map c.in-Some.ensures (λ told.
    let led = loads_named g.T.Pointable.ALIGN g.T.Pointable.log loads c.load_number-number.result told.0
    g.met.T.Pointable.is_power c.load_number-number.ensures.did told.1 in
    (told.0, led.0, led.1, told.2))

-- the value was found now
pub invariant_of-self : goal.invariant_of-self
invariant_of-self g c =
    let did = g.M.StoreSteps.did g.J.PostSet.posts c.args.self.now.store.now.number in
    let number = c.load_number-number.result in
    record {
      found = λ x same. subst (λ o. IfSome o (λ v. ∥ LendsNumbered did number v.now ∥₁)) same
          ∣ (c.in_ok-name.name, c.in_ok-name.ensures, c.in_ok-value.ensures) ∣₁;
    }

pub returns-clause-did : goal.returns-clause-did
returns-clause-did g c =
    let number = c.load_number-number.result in
    let name : Name = c.in_ok-name.name in
    let loads = g.A.SharedWord.did c.args.at.now.word in
    let led = loads_named g.T.Pointable.ALIGN g.T.Pointable.log loads number name g.met.T.Pointable.is_power
    c.load_number-number.ensures.did c.in_ok-name.ensures in
    ∣ (name, led.0, led.1, c.in_ok-value.ensures) ∣₁
