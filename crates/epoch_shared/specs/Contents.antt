-- What stands in a node, and which entries there are.
use Rattle.std.specs.Prelude.{◌≡◌}

-- One node has this value.
abbrev pub IsInNode : {N V : Type 0} → (N → V) → V → Type 0
IsInNode {N} value_of value = (node : N) × (value_of node ≡ value)

-- Some entry has a key of which this is so.
abbrev pub HasEntry : {K V : Type 0} → (K → V → Type 0) → (K → Type 0) → Type 0
HasEntry {K} {V} is_entry is_sought = (there : K) × (value : V) × is_entry there value × is_sought there

-- One node has this key and this value.
abbrev pub IsOfNode : {N K V : Type 0} → (N → K) → (N → K × V) → K → V → Type 0
IsOfNode {N} key_of entry_of key value = (node : N) × (key_of node ≡ key) × ((entry_of node).1 ≡ value)

-- At the value of some entry, of whose key this is so, a call may return what it made.
abbrev pub SeesAt : {K V R : Type 0} → (K → V → Type 0) → (K → Type 0) → (V → R → Type 0) → R → Type 0
SeesAt {K} {V} is_entry is_sought returns made =
    (there : K) × (value : V) × is_entry there value × is_sought there × returns value made
