-- Memory for values side by side. Its places are taken out of it one after another, from the first on, and are put back
-- from the last one taken on.
use Rattle.std.specs.Prelude.{◌≡◌, ℕ, zero, suc, ◌+◌, ◌*◌, List, [], ◌∷◌, ◌++◌}
use base.Fml.{Lft, Fml, ftrue, fsep, fex, froom}
use mir.Syntax.{Ty, ty_array}
use mir.Raw.{raw}
use denote.RattleType.{RattleType}
use denote.Memory.{lone}
use denote.RawPtr.{Ptr, InBlock, block_of, count_of, ◌+ₚ◌}
use denote.Sharing.{said}
use Rattle.core.specs.Mem.{type_size}
use Rattle.std_alloc.specs.Vec.Ownership.{FitsInBlock}

-- the place with this number, in a block that begins at p, where each value takes so many bytes
abbrev pub place_in : Ptr → ℕ → ℕ → Ptr
place_in p stride index = p +ₚ index * stride

-- the first so many places of a block, in their order
abbrev pub places_in : Ptr → ℕ → ℕ → List Ptr
places_in p stride zero = []
places_in p stride (suc n) = places_in p stride n ++ place_in p stride n ∷ []

module _ (R : RattleType) where
  -- room for n values side by side, at the type as the machine sees it
  abbrev pub room_of_places : ℕ → ℕ → ℕ → Fml
  room_of_places n b o = froom (ty_array (raw (lone R.mir)) n) b o

  -- the right to free the block at p of so many places
  abbrev pub block_right : (Ty → Ptr → Fml) → ℕ → Ptr → Fml
  block_right frees n p = frees (raw (ty_array (lone R.mir) n)) p

  -- a block of so many places is at p, where each value takes so many bytes, and they fit in memory
  abbrev pub IsBlock : Ptr → ℕ → ℕ → Type 0
  IsBlock p stride n = InBlock p × (stride ≡ type_size R) × FitsInBlock R n

  abbrev pub is_block : Ptr → ℕ → ℕ → Fml
  is_block p stride n = fex (IsBlock p stride n) (λ _. ftrue)

  -- the block at p with the places that are left in it, behind those that were taken out
  abbrev pub block_owns : (Ty → Ptr → Fml) → Ptr → ℕ → ℕ → ℕ → Fml
  block_owns frees p stride taken left = fsep (room_of_places left (block_of p) (count_of p + taken * type_size R))
      (fsep (block_right frees (taken + left) p) (is_block p stride (taken + left)))

  -- what a `&` to a block shows
  abbrev pub block_shares : Ptr → ℕ → ℕ → Lft → Fml
  block_shares p stride n κ = said (is_block p stride n) κ
