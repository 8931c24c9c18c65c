-- Two names of one slot and one turn are one.
use Rattle.std.proofs.Common.{◌≡◌, ℕ, ◌<◌, ◌≤◌, subst}
use Rattle.std.proofs.Math.Bridge.{le_prop}
use Rattle.epoch_cells.specs.declared.cells.name.Name.{Name}

-- a name is this one at another slot, if that is the same
abbrev SameAt : Name → ℕ → Type 0
SameAt n k =
    (some : 0 < k) (within : k ≤ 16777215) → n ≡ record { turn = n.turn; slot = k; some = some; within = within }

-- names with the same slot and the same turn are the same name
pub name_same : (n m : Name) → n.slot ≡ m.slot → n.turn ≡ m.turn → n ≡ m
name_same n m slot turn = subst (λ (t : ℕ). n ≡ record m { turn = t }) turn (subst (SameAt n) slot here m.some m.within)
  where
    here : SameAt n n.slot
    here some within =
        let one : n.some ≡ some = le_prop n.some some in
        let other : n.within ≡ within = le_prop n.within within in
        λ i. record n { some = one i; within = other i }
