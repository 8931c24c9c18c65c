-- A `&` to a name shows the value of its turn. Assumes `Logic`.
use mathlib.Core.List.{[], ◌∷◌}
use Rattle.std.proofs.Common.{ℕ}
use base.Logic.{sep, ent, snd∗}
use base.Before.{before}
use base.Fml.{Lft, Share, Fml, fbor, flft}
use types.Logic.{Logic, sem}
use seplogic.Ra.Ura.{Ura}
use types.Kit.{‵, ◌⊛◌, ◌$◌, ◌∵◌, !, qed, move, keep, split, use1, updating, now, done}
use types.Tokens.{bor_open, obor_close}
use denote.RattleType.{RattleType}
use denote.Param.Laws.{Laws}
use denote.Param.Shared.{copy_shared}
use denote.Sharing.{said}
use denote.Struct.Laws.{u64-copy, field_copy}
use denote.Struct.Field.{u64-field}
use denote.Struct.Lending.{of_Lends, Lends}
use Rattle.core.proofs.cell.Borrows.{by_one}
use Rattle.core.specs.contracts.marker.PhantomData as marker
use Rattle.epoch_lend.specs.Turning.{TurnOf, turn_is}
use Rattle.epoch_lend.proofs.Turned.{turn_dup}
use Rattle.epoch_lend.specs.contracts.cells.turns.TurnName as C
use Rattle.epoch_lend.proofs.cells.turns.TurnName.TheLaw.Statement.{statement}

module _ {M : Type 1} {𝓤 : Ura M} (𝓛 : Logic 𝓤) (R : RattleType) (log t : ℕ) (e : TurnOf R.Denot) where
  open 𝓛 use {H, A}

  abbrev P : Fml
  P = turn_is R log t e

  -- what a name shows is seen through a loan of it
  by_token : (κ : Lft) (q : Share) → ent 𝓤 (sep 𝓤 (A.bor κ P) (A.lft κ q)) (H.⇛ (sep 𝓤 (sem 𝓛 P) (A.lft κ q)))
  by_token κ q = qed 𝓛 (‵ (fbor κ P) ∷ ‵ (flft κ q) ∷ []) ∵ updating ! $ bor_open ! tt $ move ! (1 ∷ []) $
      use1 𝓛 (‵ P ⊛ ‵ P) (turn_dup 𝓛 R log t e) $ split ! $ move ! (2 ∷ 0 ∷ []) $ obor_close ! tt $ now ! $
      keep ! (2 ∷ 1 ∷ []) $ done !

  name_lends : (l : Lft) → Lends 𝓛 P (said P) l
  name_lends l κ ts inc sp = by_one 𝓛 κ ts sp (A.bor κ P) (sem 𝓛 P) (by_token κ)

pub shares : (T : RattleType) (L : Laws T) → statement T L
shares T L = of_Lends (C.struct T) (C.the_codes T.Denot T.coded (marker.the_row T).coded) (C.the_heap T) (C.the_lent
    T) (λ d p. record {
      contraction = λ M 𝓤 𝓛 κ. turn_dup 𝓛 T d.log d.turn (d.value, d.lifetime);
      mono = λ M 𝓤 𝓛 κ' κ. snd∗ 𝓤 (sem 𝓛 (before κ' κ)) (sem 𝓛 (turn_is T d.log d.turn (d.value, d.lifetime)));
    }) (
      copy_shared u64-field u64-copy,
      (copy_shared (marker.the_field T) (field_copy (marker.the_type T) tt), tt),
    ) (λ M 𝓤 𝓛 d p. name_lends 𝓛 T d.log d.turn (d.value, d.lifetime) (C.the_row T).lives)
