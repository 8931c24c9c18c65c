-- A pointer's number tells its name and its tag.
use Rattle.std.specs.Prelude.{◌≡◌, ℕ, ◌<◌, Option, Some, None}
use Rattle.std.proofs.Common.{arith}
use Rattle.epoch_cells.specs.declared.cells.name.Name.{Name}
use Rattle.epoch_atomic.specs.Pointers.{tagged_word, SameName}

-- two pointers of the same word have the same name and tag, where their tags are below 256
pub of_one_pointer : (one other : Option Name) (s t : ℕ) → s < 256 → t < 256
    → tagged_word one s ≡ tagged_word other t
    → SameName one other × (s ≡ t)
of_one_pointer None None s t s_below t_below same = (tt, same)
of_one_pointer None (Some name) s t s_below t_below same = absurd (omega (arith, name.some))
of_one_pointer (Some name) None s t s_below t_below same = absurd (omega (arith, name.some))
of_one_pointer (Some one) (Some other) s t s_below t_below same =
    let same_slot : one.slot ≡ other.slot = omega (arith, one.within, other.within) in
    let same_turn : one.turn ≡ other.turn = omega (arith, one.within, other.within) in
    ((same_slot, same_turn), omega (arith, one.within, other.within))
