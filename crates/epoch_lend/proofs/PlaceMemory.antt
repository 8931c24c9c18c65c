-- The memory of a place is room for its word, and room for a value. Assumes `Logic`.
use Rattle.std.proofs.Common.{ℕ, zero, suc, ◌+◌, [], ◌∷◌, subst}
use seplogic.Ra.Ura.{Ura}
use mir.Syntax.{w64, ty_int, tcons, tnil}
use mir.Raw.{raw}
use mir.Val.{vint}
use base.Logic.{ent, sep, apply∗}
use base.Fml.{Fml, ftrue, fsep, fwand, froom}
use prog.Memory.{align, up}
use prog.RawLaws.{align-raw}
use types.Logic.{Logic, sem}
use types.Kit.{‵, ◌$◌, ◌∵◌, !, qed, move, keep, fsplit, fjoin, use1, use2, done}
use denote.RattleType.{RattleType}
use denote.Memory.{lone}
use denote.RawPtr.{block_ptr}
use denote.Param.{param}
use denote.Steps.{nothing}
use Rattle.core.specs.Sync.RawAtomic.{word}
use Rattle.epoch_lend.specs.Turning.{place_type, memory_back, value_in, claim_of}
use Rattle.epoch_lend.specs.contracts.cells.turns.Space as space_is

module _ (R : RattleType) (b o : ℕ) where
  rooms : ℕ → Fml
  rooms k = fsep (froom (ty_int w64) b (o + 0)) (fsep (froom (raw (lone R.mir)) b (o + up k 8)) ftrue)

  -- room for the word, and room for a value
  abbrev pub memory_rooms : Fml
  memory_rooms = fsep (froom (ty_int w64) b (o + 0)) (fsep (froom (raw (lone R.mir)) b (o + up (align (lone R.mir))
      8)) ftrue)

  -- they are taken apart
  pub apart : {M : Type 1} {𝓤 : Ura M} (𝓛 : Logic 𝓤)
      → ent 𝓤 (sem 𝓛 (froom (place_type R) b o)) (sep 𝓤 (sem 𝓛 memory_rooms) (sem 𝓛 (memory_back R b o)))
  unfolding rooms
  apart {𝓤} 𝓛 = subst (λ (k : ℕ). ent 𝓤 (sem 𝓛 (froom (place_type R) b o)) (sep 𝓤 (sem 𝓛 (rooms k)) (sem 𝓛 (fwand
      (rooms k) (froom (place_type R) b o))))) (align-raw (lone R.mir)) (𝓛.laws.room_fields [] (tcons (ty_int w64)
      (tcons (raw (lone R.mir)) tnil)) b o)

module _ (X : RattleType) (b o : ℕ) where
  abbrev R : RattleType
  R = param 0 X

  -- what a claim gains has the memory, once its word is there again
  pub whole : {M : Type 1} {𝓤 : Ura M} (𝓛 : Logic 𝓤) (state n k : ℕ)
      → ent 𝓤 (sep 𝓤 (sem 𝓛 (claim_of R (value_in R (block_ptr b o)) state n k)) (sep 𝓤 (sem 𝓛 (word b (o + 0) n))
      (sem 𝓛 (memory_back R b o)))) (sem 𝓛 (claim_of (space_is.the_row R) (block_ptr b o) state n k))
  whole {𝓤} 𝓛 state n zero = qed 𝓛 (‵ ftrue ∷ ‵ (word b (o + 0) n) ∷ ‵ (memory_back R b o) ∷ []) ∵
      keep ! (0 ∷ []) $ done !
  whole {𝓤} 𝓛 state n (suc k) = qed 𝓛 (‵ (claim_of R (value_in R (block_ptr b o)) state n (suc k)) ∷ ‵ (word b (o + 0)
      n) ∷ ‵ (memory_back R b o) ∷ []) ∵ fsplit ! $ move ! (2 ∷ []) $
      use1 𝓛 (‵ (froom (ty_int w64) b (o + 0))) (𝓛.laws.at_room (ty_int w64) b (o + 0) (vint w64 n)) $ nothing ! $
      -- [nothing; room for the word; the word's right; room for a value; the way back]
      move ! (3 ∷ 0 ∷ []) $ fjoin ! $ move ! (1 ∷ 0 ∷ []) $ fjoin ! $ move ! (0 ∷ 2 ∷ []) $
      use2 𝓛 (‵ (froom (place_type R) b o)) (apply∗ 𝓤 (sem 𝓛 (memory_rooms R b o)) (sem 𝓛 (froom (place_type R) b o))) $
      move ! (1 ∷ 0 ∷ []) $ fjoin ! $ done !
