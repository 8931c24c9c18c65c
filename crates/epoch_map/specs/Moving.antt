-- What the accesses of a call do to the node that it places, to the key that it seeks, and to the node that it has
-- read.
use Rattle.std.specs.Prelude.{◌≡◌, ℕ, Some, None, IsSome, IfSome}
use Rattle.std.specs.declared.cmp.Ordering.{Ordering}
use Rattle.epoch_laws.specs.declared.heap.access.Access.{Access}
use Rattle.epoch_laws.specs.declared.heap.access.Access.TheVariants.{Place, Read}
use Rattle.epoch_laws.specs.declared.heap.access.AccessAnswer.TheVariants.{Name as NameAnswer, Value}
use Rattle.epoch_laws.specs.declared.step.Reply.{Reply}
use Rattle.epoch_laws.specs.declared.step.Reply.TheVariants.{Done}
use Rattle.epoch_map.specs.declared.spots.MapCallNodes.{MapCallNodes}
use Rattle.epoch_structure_calls.specs.MapCalls.{coded}

-- A node is lent whose key compares with the one that is sought as the number says.
abbrev pub ReadsNode : {N K : Type 0} → (N → K) → (K → K → Ordering) → MapCallNodes N K → ℕ → MapCallNodes N K → Type 0
ReadsNode key cmp old number new =
    (new.own ≡ old.own) × (new.key ≡ old.key) × IsSome old.key × IsSome new.lent
    × IfSome old.key (λ k. IfSome new.lent (λ node. coded (cmp (key node.now) k.now) ≡ number))

-- A node that was placed is the call's own no more, and the key that is sought is that of the node. After a read, the
-- node is lent. No other access changes any of them, and a placing that is refused doesn't.
abbrev pub MovesMapNodes : {N K : Type 0} → (N → K) → (K → K → Ordering) → MapCallNodes N K → Access → Reply
    → MapCallNodes N K
    → Type 0
MovesMapNodes {N} key cmp old (Place number) (Done (NameAnswer name)) new =
    ((node : N) × (old.own ≡ Some node) × IfSome new.key (λ k. k.now ≡ key node)) × (new.own ≡ None)
MovesMapNodes key cmp old (Read guard ptr) (Done (Value number)) new = ReadsNode key cmp old number new
MovesMapNodes key cmp old access reply new = (new.own ≡ old.own) × (new.key ≡ old.key) × (new.lent ≡ old.lent)
