-- A `&` to a block shows where it is, and how large. Assumes `Logic`.
use mathlib.Core.List.{[], ◌∷◌}
use Rattle.std.proofs.Common.{ℕ, ◌+◌}
use mir.Syntax.{Ty}
use base.Logic.{sep, ent, snd∗}
use base.Before.{before}
use base.Fml.{Lft, Share, Fml, fbor, flft}
use types.Logic.{Logic, sem}
use seplogic.Ra.Ura.{Ura}
use types.Kit.{‵, ◌⊛◌, ◌$◌, ◌∵◌, !, qed, move, keep, split, use1, updating, now, done}
use types.Tokens.{bor_open, obor_close}
use denote.RattleType.{RattleType}
use denote.RawPtr.{Ptr}
use denote.Param.Laws.{Laws}
use denote.Sharing.{said}
use denote.Struct.Laws.{field_copy}
use denote.Param.Shared.{copy_shared}
use denote.Struct.Lending.{of_Lends, Lends}
use denote.Struct.Tuple.{Tuple}
use Rattle.core.proofs.cell.Borrows.{by_one}
use Rattle.core.specs.declared.alloc.Allocator.{Ghosts}
use Rattle.core.specs.contracts.marker.PhantomData as marker
use Rattle.epoch_lend.specs.Blocks.{is_block, block_owns}
use Rattle.epoch_lend.proofs.BlockParts.{is_block_dup, is_block_of}
use Rattle.epoch_lend.specs.contracts.cells.block.Block as C
use Rattle.epoch_lend.proofs.cells.block.Block.TheLaw.Statement.{statement}

module _ {M : Type 1} {𝓤 : Ura M} (𝓛 : Logic 𝓤) (R : RattleType) (frees : Ty → Ptr → Fml) (p : Ptr) (z taken left
    : ℕ) where
  open 𝓛 use {H, A}

  abbrev P : Fml
  P = block_owns R frees p z taken left

  abbrev Q : Fml
  Q = is_block R p z (taken + left)

  -- what a block says of itself is seen through a loan of it
  by_token : (κ : Lft) (q : Share) → ent 𝓤 (sep 𝓤 (A.bor κ P) (A.lft κ q)) (H.⇛ (sep 𝓤 (sem 𝓛 Q) (A.lft κ q)))
  by_token κ q = qed 𝓛 (‵ (fbor κ P) ∷ ‵ (flft κ q) ∷ []) ∵ updating ! $ bor_open ! tt $ move ! (1 ∷ []) $
      use1 𝓛 (‵ Q ⊛ ‵ P) (is_block_of 𝓛 R frees p z taken left) $ split ! $ move ! (2 ∷ 1 ∷ []) $ obor_close ! tt $
      now ! $ keep ! (2 ∷ 1 ∷ []) $ done !

  block_lends : (l : Lft) → Lends 𝓛 P (said Q) l
  block_lends l κ ts inc sp = by_one 𝓛 κ ts sp (A.bor κ P) (sem 𝓛 Q) (by_token κ)

pub shares : (T A : RattleType) (g : Ghosts A.Denot) (L : Laws T) (LA : Laws A) → statement T A g L LA
shares T A g L LA = of_Lends (C.struct T A g) (C.the_codes T.Denot A.Denot T.coded A.coded (marker.the_row (Tuple (T ∷ A
    ∷ []))).coded) (C.the_heap T A g) (C.the_lent T A g) (λ d p. record {
      contraction = λ M 𝓤 𝓛 κ. is_block_dup 𝓛 T (g.dealloc_token d.heap) d.at d.stride (d.taken + d.left);
      mono = λ M 𝓤 𝓛 κ' κ. snd∗ 𝓤 (sem 𝓛 (before κ' κ)) (sem 𝓛 (is_block T d.at d.stride (d.taken + d.left)));
    }) (
      copy_shared (marker.the_field (Tuple (T ∷ A ∷ []))) (field_copy (marker.the_type (Tuple (T ∷ A ∷ []))) tt),
      tt,
    ) (λ M 𝓤 𝓛 d p. block_lends 𝓛 T (g.dealloc_token d.heap) d.at d.stride d.taken d.left (C.the_row T A g).lives)
