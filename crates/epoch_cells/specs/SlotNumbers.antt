-- The numbers of the slots of a store.
use Rattle.std.specs.Prelude.{◌≡◌, ℕ, ◌+◌, ◌<◌, List, length, get_or}

-- The first one is 1, and each one is the next number.
abbrev pub AreNumbered : List ℕ → Type 0
AreNumbered numbers = (place other : ℕ) → place < length numbers → get_or numbers place other ≡ place + 1
