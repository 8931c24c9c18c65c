use Rattle.std.proofs.Common.{◌≡◌, ◌+◌, length}
use Rattle.std.specs.Prelude.{map}
use Rattle.epoch_lend.specs.Blocks.{places_in}
use Rattle.epoch_lend.proofs.array.set_once.SetOnce.new.Given as goal

-- as many places were made as there were turns of the loop, each at its place of the block
abbrev pub invariant-loop-position : goal.invariant-loop-position
invariant-loop-position g l = (length l.places.items ≡ l.position) × (map (λ p. p.turns.at) l.places.items ≡ places_in
    l.base l.block.stride (length l.places.items)) × (l.block.heap ≡ l.fn.alloc) × (l.block.at ≡ l.base) ×
    (l.block.taken ≡ l.position) × (l.position + l.block.left ≡ l.fn.count)
