-- The roots of a new world lead nowhere.
use Rattle.std.proofs.Common.{◌≡◌, ℕ, List, [], ◌∷◌, length, Some, refl, ap₂, arith, slice_get}
use Rattle.epoch_laws.specs.declared.heap.access.Ptr.{Ptr}
use Rattle.epoch_laws.specs.Heap.{null}

-- two roots that both are null are a list of two null pointers
pub two_null_roots : (roots : List Ptr)
    → length roots ≡ 2 → ((i : ℕ) (ptr : Ptr) → slice_get roots i ≡ Some ptr → ptr ≡ null) → roots ≡ null ∷ null ∷ []
two_null_roots [] two nulls = absurd (omega arith)
two_null_roots (ptr ∷ []) two nulls = absurd (omega arith)
two_null_roots (ptr ∷ other ∷ []) two nulls =
    ap₂ (λ (p q : Ptr). p ∷ q ∷ []) (nulls 0 ptr refl) (nulls 1 other refl)
two_null_roots (ptr ∷ other ∷ third ∷ roots) two nulls = absurd (omega arith)
