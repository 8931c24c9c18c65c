-- What a key with a hash has.
use Rattle.std.specs.Prelude.{ℕ, List}
use Rattle.std.specs.List.{fold}
use Rattle.epoch_shared.specs.declared.hashed.Hashed.{Hashed}

-- the value beside the hash
abbrev pub key_in : {K : Type 0} → Hashed K → K
key_in hashed = hashed.key

-- the hash beside the value
abbrev pub hash_in : {K : Type 0} → Hashed K → ℕ
hash_in hashed = hashed.hash

-- what a hasher, by how it takes a write and how it ends, makes of what a value writes
abbrev pub hash_by : {H : Type 0} → (H → List ℕ → H) → (H → ℕ) → H → List (List ℕ) → ℕ
hash_by write finish hasher writes = finish (fold write hasher writes)
