-- A queue of bags with a bound.
use Rattle.std.specs.Prelude.{◌≡◌, ℕ, suc, zero, ◌+◌, nat_le, if◌then◌else◌, List, [], ◌∷◌, Option, Some, None, Bool}
use Rattle.std.specs.Prelude.{true, false, length, refl}
use Rattle.std.proofs.Common.{ap}
use Rattle.epoch_bags.specs.Bags.{Sealed}

-- the bags, the oldest first, and how many there may be
pub record Bounded (J : Type 0) : Type 0 where
  pub capacity : ℕ
  pub bags : List (Sealed J)

-- of so many places the first are occupied
abbrev pub first_occupied : ℕ → ℕ → List Bool
first_occupied zero taken = []
first_occupied (suc places) zero = false ∷ first_occupied places zero
first_occupied (suc places) (suc taken) = true ∷ first_occupied places taken

-- the front leaves exactly where there is one and the condition holds of it
abbrev pub PopsFrontWhere : {J : Type 0}
    → (Sealed J → Bool → Type 0) → List (Sealed J) → Option (Sealed J) → List (Sealed J) → Type 0
PopsFrontWhere says [] popped new = (popped ≡ None) × (new ≡ [])
PopsFrontWhere says (bag ∷ bags) None new = says bag false × (new ≡ bag ∷ bags)
PopsFrontWhere says (bag ∷ bags) (Some popped) new = says bag true × (popped ≡ bag) × (new ≡ bags)

-- how many bags from the front on are expired for the epoch x
abbrev pub first_expired : {J : Type 0} → ℕ → List (Sealed J) → ℕ
first_expired x [] = 0
first_expired x (bag ∷ bags) = if nat_le (bag.seal + 2) x then first_expired x bags + 1 else 0

-- there are as many as places
pub length-first_occupied : (places taken : ℕ) → length (first_occupied places taken) ≡ places
length-first_occupied zero taken = refl
length-first_occupied (suc places) zero = ap suc (length-first_occupied places zero)
length-first_occupied (suc places) (suc taken) = ap suc (length-first_occupied places taken)
