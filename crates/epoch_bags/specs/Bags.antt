-- Bags of any jobs.
use Rattle.std.specs.Prelude.{ℕ, ◌+◌, ◌≤◌, Bool, true, false, List, [], ◌∷◌}

-- a bag that takes jobs: how many at most, and those it has, the oldest first
pub record Unsealed (J : Type 0) : Type 0 where
  pub limit : ℕ
  pub jobs : List J

-- a bag that is sealed: the epoch that seals it, and the jobs left in it, the oldest first
pub record Sealed (J : Type 0) : Type 0 where
  pub seal : ℕ
  pub jobs : List J

-- the bag is expired for the epoch x: that is two ahead of its seal, or more
abbrev pub IsExpired : {J : Type 0} → ℕ → Sealed J → Type 0
IsExpired x bag = bag.seal + 2 ≤ x

abbrev pub is_empty : {A : Type 0} → List A → Bool
is_empty [] = true
is_empty (x ∷ xs) = false
