-- What a claim to write has names no thread's token.
use Rattle.std.proofs.Common.{◌≡◌, ℕ, ◌+◌, ◌∷◌, sym, subst, Option}
use base.Fraction.{full_share}
use base.Fml.{Lft}
use base.Shift.{Keyless}
use denote.RattleType.{RattleType}
use denote.RawPtr.{Ptr, block_ptr, null_ptr}
use denote.Param.Send.{IsSend, IsSync, part_keyless}
use Rattle.core.proofs.atomic.Sent.{chain-Keyless}
use Rattle.counted_slot.specs.Counting.{Id, Phase, free, away, shared, offset, cell, state, claim_owns}

module _ (R : RattleType) (ok : R.Denot → Type 0) (s : IsSend R) (y : IsSync R) (b o : ℕ) where
  -- the value does not, where it may be sent
  cell_keyless : Keyless (cell R ok b o)
  cell_keyless = λ x. (part_keyless R s full_share x b (o + offset R), λ _. tt)

  -- nor does what the slot has under a word, where threads may also share the value
  state_keyless : (t : Id) (w : ℕ) (p : Phase R.Denot) → Keyless (state R ok b o t w p)
  state_keyless t w free = ((λ _. tt), ((λ _. tt), ((tt, tt), cell_keyless)))
  state_keyless t w away = ((λ _. tt), (λ _. tt))
  state_keyless t w (shared a m x) = (
    (λ _. tt),
    (
      λ e c. (tt, tt),
      ((tt, tt), (((λ _. tt), y.shared x b (o + offset R) (a ∷ t.0)), cell_keyless)),
    ),
  )

-- nor does a claim to write, then
claim_keyless : (β : Lft) (R : RattleType) (ok : R.Denot → Type 0) → IsSend R → IsSync R
    → (p : Ptr) (v : Option R.Denot) → Keyless (claim_owns β R ok p 2 v)
claim_keyless β R ok s y (block_ptr b o) v = λ t. (
  ((λ νs. chain-Keyless νs β t.0), (λ w. (tt, state_keyless R ok s y b o t w))),
  ((tt, tt), cell_keyless R ok s y b o),
)
claim_keyless β R ok s y null_ptr v = tt

-- nor does a claim whose right is known to be that to write
pub writer_keyless : (β : Lft) (R : RattleType) (ok : R.Denot → Type 0) → IsSend R → IsSync R
    → (p : Ptr) (right : ℕ) (v : Option R.Denot) → right ≡ 2 → Keyless (claim_owns β R ok p right v)
writer_keyless β R ok s y p right v is = subst (λ (n : ℕ). Keyless (claim_owns β R ok p n v)) (sym is)
    (claim_keyless β R ok s y p v)
