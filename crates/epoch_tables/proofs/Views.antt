-- The views of seats, as lists.
use Rattle.std.proofs.Common.{◌≡◌, ◌≢◌, ℕ, ◌<◌, ◌⊎◌, List, [], ◌∷◌, length, set, sym, ◌∙◌, subst, ⊎_elim, arith}
use mathlib.Core.Option.{some, some-injective, some-ne-none}
use lib.ListN.{get_elem?}
use Rattle.atomic_table.proofs.Lists.{at_set}

-- a fact about each view after the step, from one about the new view and one about each other view
pub each_view : {V : Type 0} (P : ℕ → V → Type 0) (views : List V) (me : ℕ) (w : V) → P me w
    → ((j : ℕ) (u : V) → j ≢ me → get_elem? views j ≡ some u → P j u)
    → (j : ℕ) (u : V) → get_elem? (set views me w) j ≡ some u → P j u
each_view {V} P views me w mine others j u at = ⊎_elim
    (λ (t : (j ≡ me) × (w ≡ u)). subst (λ (x : ℕ × V). P x.0 x.1) (λ i. (sym t.0 i, t.1 i)) mine)
    (λ (t : (j ≢ me) × (get_elem? views j ≡ some u)). others j u t.0 t.1)
    (at_set views me j w u at)

-- a seat that has a view is among the seats
pub is_seat : {V : Type 0} (views : List V) (j : ℕ) (u : V) → get_elem? views j ≡ some u → j < length views
is_seat [] j u at = absurd (some-ne-none u (sym at))
is_seat (x ∷ xs) Rattle.std.proofs.Common.zero u at = omega arith
is_seat (x ∷ xs) (Rattle.std.proofs.Common.suc j) u at = let later = is_seat xs j u at in omega arith

-- a participant has one view
pub one_view : {V : Type 0} (views : List V) (id : ℕ) (u v : V)
    → get_elem? views id ≡ some u → get_elem? views id ≡ some v → u ≡ v
one_view views id u v at at' = some-injective u v (sym at ∙ at')

-- the only view of a new table
pub only_view : {V : Type 0} (v : V) (j : ℕ) (u : V) → get_elem? (v ∷ []) j ≡ some u → v ≡ u
only_view v Rattle.std.proofs.Common.zero u at = some-injective v u at
only_view v (Rattle.std.proofs.Common.suc j) u at = absurd (some-ne-none u (sym at))
