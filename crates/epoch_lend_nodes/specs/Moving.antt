-- What the accesses of a call do to the node that it places, and to the one that it has read.
use Rattle.std.specs.Prelude.{◌≡◌, IsSome}
use Rattle.epoch_laws.specs.declared.heap.access.Access.{Access}
use Rattle.epoch_laws.specs.declared.heap.access.Access.TheVariants.{Place, Read}
use Rattle.epoch_laws.specs.declared.heap.access.AccessAnswer.TheVariants.{Name as NameAnswer, Value}
use Rattle.epoch_laws.specs.declared.step.Reply.{Reply}
use Rattle.epoch_laws.specs.declared.step.Reply.TheVariants.{Done}
use Rattle.epoch_lend_nodes.specs.declared.spots.CallNodes.{CallNodes}

-- A node that was placed is the call's own no more. After a read, a node is lent, and the name by which it was read is
-- noted. No other access changes either of them, and a placing that is refused doesn't.
abbrev pub MovesNodes : {V : Type 0} → CallNodes V → Access → Reply → CallNodes V → Type 0
MovesNodes old (Place number) (Done (NameAnswer name)) new = (new.name ≡ old.name) × (new.lent ≡ old.lent)
MovesNodes old (Read guard ptr) (Done (Value number)) new =
    (new.own ≡ old.own) × (new.name ≡ ptr.name) × IsSome new.lent
MovesNodes old access reply new = (new.own ≡ old.own) × (new.name ≡ old.name) × (new.lent ≡ old.lent)
