use Rattle.std.proofs.Common.{◌≡◌, ◌+◌, length}
use Rattle.std.specs.Prelude.{map}
use Rattle.epoch_lend.specs.Blocks.{places_in}
use Rattle.epoch_lend.proofs.array.set_once.SetOnce.drop.Given as goal

-- the places that are left are those that are out of the block
abbrev pub invariant-places : goal.invariant-places
invariant-places g l = (map (λ p. p.turns.at) l.places.items ≡ places_in l.base l.block.stride (length
    l.places.items)) × (l.block.heap ≡ l.alloc) × (l.block.at ≡ l.base) × (l.block.taken ≡ length l.places.items) ×
    (length l.places.items + l.block.left ≡ l.count)

abbrev pub decreases-places : goal.decreases-places
decreases-places g l = length l.places.items
