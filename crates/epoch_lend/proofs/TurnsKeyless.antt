-- What a place and what is taken of it say names no thread's token.
use Rattle.std.proofs.Common.{ℕ, zero, suc, [], ◌∷◌}
use base.Growing.{latest, at_least}
use base.Shift.{Keyless}
use denote.RattleType.{RattleType}
use denote.RawPtr.{Ptr, block_ptr, null_ptr}
use denote.Param.Send.{IsSend, IsSync}
use Rattle.std_alloc.proofs.SendSync.{seen, lies}
use Rattle.epoch_lend.proofs.Keyless.{loans_keyless}
use Rattle.epoch_lend.specs.Turning.{
  TurnNames,
  TurnStage,
  vacant,
  claimed,
  shown,
  removed,
  TurnOf,
  turn_is,
  turn_room_of,
  claim_of,
  filled_has,
  vacancy_of,
  turn_holds,
  turns_so_far,
  at_turn_word,
  value_in,
}

-- nor does the value of a turn
pub turn_keyless : (R : RattleType) (log t : ℕ) (e : TurnOf R.Denot) → Keyless (turn_is R log t e)
unfolding at_least
turn_keyless R log t e = λ es. (tt, λ _. tt)

-- nor does the log
so_far_keyless : (R : RattleType) (d : TurnNames) (t : ℕ) → Keyless (turns_so_far R d t)
unfolding latest
so_far_keyless R d t = λ es. (tt, λ _. tt)

-- nor does room for a value
room_keyless : (R : RattleType) (p : Ptr) → Keyless (turn_room_of R p)
room_keyless R (block_ptr b o) = tt
room_keyless R null_ptr = tt

-- nor does what a place has at a stage
holds_keyless : (R : RattleType) → IsSend R → IsSync R → (d : TurnNames) (s : TurnStage) → Keyless (turn_holds R d s)
unfolding latest
holds_keyless R s y d (vacant t) = (tt, (so_far_keyless R d t, room_keyless R (value_in R d.at)))
holds_keyless R s y d (claimed t) = so_far_keyless R d t
holds_keyless R s y d (shown t) = (
  tt,
  λ e. (
    tt,
    (
      (λ _. tt),
      λ ls. (
        (
          (tt, loans_keyless e.1.1 ls),
          (
            seen R y (value_in R d.at) e.1.0
                (e.1.1 ∷ []),
            λ _. tt,
          ),
        ),
        lies R s (value_in R d.at) e.1.0,
      ),
    ),
  ),
)
holds_keyless R s y d (removed t) = so_far_keyless R d (suc t)

-- nor does what a place has at any word
pub turns_keyless : (R : RattleType) → IsSend R → IsSync R → (d : TurnNames) (n : ℕ) → Keyless (at_turn_word R d n)
turns_keyless R s y d n = λ z. ((λ _. tt), (tt, holds_keyless R s y d z))

-- nor does what a claim has
pub claim_keyless : (R : RattleType) (p : Ptr) (δ n k : ℕ) → Keyless (claim_of R p δ n k)
claim_keyless R p δ n zero = tt
claim_keyless R p δ n (suc k) = (tt, room_keyless R p)

-- nor does what a claimed place with a value has
pub filled_keyless : (R : RattleType) → IsSend R → (p : Ptr) (δ n : ℕ) (x : R.Denot) → Keyless (filled_has R p δ n x)
filled_keyless R s p δ n x = (tt, lies R s p x)

-- nor does what a mark has beside the loans
pub vacancy_keyless : (R : RattleType) → IsSend R → (p : Ptr) (δ n : ℕ) (e : TurnOf R.Denot) (k : ℕ)
    → Keyless (vacancy_of R p δ n e k)
vacancy_keyless R s p δ n e zero = tt
vacancy_keyless R s p δ n e (suc k) = (tt, lies R s p e.0)
