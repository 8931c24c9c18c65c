-- What an entry has, and where it belongs.
use Rattle.std.specs.Prelude.{ℕ, bit_and}
use Rattle.epoch_map.specs.declared.node.LentEntry.{LentEntry, out-LentEntry}

-- the key of an entry
abbrev pub lent_key : {K V : Type 0} → LentEntry K V → K
lent_key {K} {V} entry = (out-LentEntry K V entry).key

-- the value of an entry
abbrev pub lent_value : {K V : Type 0} → LentEntry K V → V
lent_value {K} {V} entry = (out-LentEntry K V entry).value

-- the bucket of a key, by the key's number
abbrev pub bucket_in : {K : Type 0} → ℕ → (K → ℕ) → K → ℕ
bucket_in mask number key = bit_and (number key) mask
