-- Bags of a pile.
use Rattle.std.specs.Prelude.{ℕ, ◌+◌, nat_le, List, [], ◌∷◌}
use Rattle.epoch_bags.specs.Bags.{Sealed}
use Rattle.epoch_bags.specs.Places.{one_if}

-- how many of these are expired for the epoch x
abbrev pub expired_count : {J : Type 0} → ℕ → List (Sealed J) → ℕ
expired_count x [] = 0
expired_count x (bag ∷ bags) = one_if (nat_le (bag.seal + 2) x) + expired_count x bags
