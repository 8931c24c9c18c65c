-- What a block says in the machine, and how a place is taken out of it and put back. Assumes `Logic`.
use Rattle.std.proofs.Common.{◌≡◌, ℕ, zero, suc, ◌+◌, ◌*◌, ◌^◌, ◌<◌, List, [], ◌∷◌, ◌++◌, sym, refl, ap, ◌∙◌, subst}
use Rattle.std.proofs.Common.{T, lit<, arith, suc-mul, zero-mul, ◌≤◌, mul-le-mul_right}
use seplogic.Ra.Ura.{Ura}
use mir.Syntax.{Ty, ty_array, ty_ptr, ty_struct, tcons, tnil}
use mir.Raw.{raw as bare}
use mir.Val.{Val, vstruct, vcons, vnil, of_list, has_ty, WT}
use base.Logic.{SProp, ent, emp, sep, guard}
use base.Fml.{Fml, ftrue, froom}
use prog.Memory.{capped, size, align}
use prog.RawLaws.{size-raw, align-raw}
use prog.Capped.{capped_is}
use types.Logic.{Logic, sem}
use types.Kit.{‵, ◌⊛◌, ◌$◌, ◌∵◌, !, qed, move, drop, split, fsplit3, fjoin3, fpick, fpack, use1, use2, rewrite}
use types.Kit.{frame, check, done}
use denote.RattleType.{RattleType}
use denote.Laws.{Is}
use denote.Memory.{lone}
use denote.RawPtr.{Ptr, block_ptr, null_ptr, room_for}
use denote.Shadow.{makes_shadow}
use denote.Steps.{nothing}
use denote.Struct.Struct.{Struct}
use Rattle.core.specs.Mem.{type_size}
use Rattle.core.specs.contracts.marker.PhantomData as marker
use Rattle.std_alloc.specs.Vec.Ownership.{FitsInBlock}
use Rattle.epoch_lend.proofs.Fields.{word}
use Rattle.epoch_lend.specs.Blocks.{place_in, room_of_places, block_right, IsBlock, is_block, block_owns}

-- the bytes of a block are those of its marker, which are none
abbrev pub block_val : Val
block_val = vstruct (vcons (vstruct vnil) vnil)

module _ (X : RattleType) where
  abbrev pub Marked : RattleType
  Marked = Struct record { name = []; args = []; types = []; fields = marker.the_row X ∷ [] }

  pub block_told : (vs : List Val) → Is Marked (record {}, tt) vs → vs ≡ block_val ∷ []
  block_told vs is = is.1.0 ∙ ap (λ (ws : List Val). vstruct (of_list (ws ++ [])) ∷ []) is.1.1.0.1.0

  pub block_made : {M : Type 1} {𝓤 : Ura M} (𝓛 : Logic 𝓤)
      → ent 𝓤 (emp 𝓤) (sem 𝓛 (Marked.own_val (record {}, tt) (block_val ∷ [])))
  block_made 𝓛 = makes_shadow 𝓛 (Marked.own_val (record {}, tt) (block_val ∷ [])) (λ vss. (
    tt,
    (
      (λ uss. (tt, tt)),
      tt,
    ),
  )) ((vstruct vnil ∷ [], tt), (refl, ((tt, (refl, tt)), tt)))

-- what taking a place out answers
abbrev pub taken_val : Ptr → Val
taken_val p = vstruct (vcons block_val (vcons (word p) vnil))

-- and it is of its type
pub taken_typed : (p : Ptr) → T (has_ty (ty_struct [] (tcons (ty_struct [] (tcons (ty_struct [] tnil) tnil)) (tcons
    (ty_struct [] (tcons ty_ptr tnil)) tnil))) (taken_val p)) × WT (taken_val p)
taken_typed (block_ptr b o) = (tt, ((tt, tt), ((tt, tt), tt)))
taken_typed null_ptr = (tt, ((tt, tt), ((record { fits = lit< tt }, tt), tt)))

-- a number of values takes as many bytes as the machine counts
pub uncapped : (i k : ℕ) → i * k < 2 ^ 64 → i * capped k ≡ i * k
uncapped zero k h = zero-mul (capped k) ∙ sym (zero-mul k)
uncapped (suc i) k h = let more = suc-mul i k in ap (λ (j : ℕ). suc i * j) (capped_is k (omega arith))

-- the size of a block
pub block_size : (R : RattleType) (n : ℕ) → n * type_size R < 2 ^ 64
    → capped (size (bare (ty_array (lone R.mir) n))) ≡ n * type_size R
block_size R n small = ap capped (size-raw (ty_array (lone R.mir) n)) ∙ capped_is (n * type_size R) small

-- and its alignment
pub block_align : (R : RattleType) (n : ℕ) → capped (align (bare (ty_array (lone R.mir) n))) ≡ capped (align (lone
    R.mir))
block_align R n = ap capped (align-raw (ty_array (lone R.mir) n))

module _ {M : Type 1} {𝓤 : Ura M} (𝓛 : Logic 𝓤) (R : RattleType) (frees : Ty → Ptr → Fml) where
  open 𝓛 use {H}

  abbrev Pr : Type 2
  Pr = SProp 𝓤

  abbrev ◌⊢◌ : Pr → Pr → Type 1
  P ⊢ Q = ent 𝓤 P Q

  abbrev ◌∗◌ : Pr → Pr → Pr
  P ∗ Q = sep 𝓤 P Q

  abbrev ⟦◌⟧ : Fml → Pr
  ⟦ F ⟧ = sem 𝓛 F

  infix 26 ◌⊢◌
  infixr 35 ◌∗◌
  abbrev τ : Ty
  τ = bare (lone R.mir)

  abbrev s : ℕ
  s = type_size R

  -- where the place behind another one is
  behind : (o k : ℕ) → (o + k * s) + size τ ≡ o + suc k * s
  behind o k = ap (λ (z : ℕ). (o + k * s) + z) (size-raw (lone R.mir)) ∙ (let more = suc-mul k s in omega arith)

  -- what a block says of itself can be had twice
  pub is_block_dup : (p : Ptr) (z n : ℕ) → ⟦ is_block R p z n ⟧ ⊢ ⟦ is_block R p z n ⟧ ∗ ⟦ is_block R p z n ⟧
  is_block_dup p z n = qed 𝓛 (‵ (is_block R p z n) ∷ []) ∵ fpick ! (λ so. fpack ! (IsBlock R p z n) (λ _. ftrue) so $
      frame ! $ nothing ! $ fpack ! (IsBlock R p z n) (λ _. ftrue) so $ done !)

  -- a block says it
  pub is_block_of : (p : Ptr) (z taken left : ℕ) → ⟦ block_owns R frees p z taken left ⟧ ⊢ ⟦ is_block R p z (taken +
      left) ⟧ ∗ ⟦ block_owns R frees p z taken left ⟧
  is_block_of p z taken left = qed 𝓛 (‵ (block_owns R frees p z taken left) ∷ []) ∵ fsplit3 ! $ move ! (2 ∷ []) $
      use1 𝓛 (‵ (is_block R p z (taken + left)) ⊛ ‵ (is_block R p z (taken + left))) (is_block_dup p z (taken + left)) $
      split ! $ frame ! $ move ! (1 ∷ 2 ∷ 0 ∷ []) $ fjoin3 ! $ done !

  -- memory for n values is a block with each of its places in it
  pub fresh : (b o n : ℕ) → FitsInBlock R n → H.room (bare (ty_array (lone R.mir) n)) b o ∗ ⟦ block_right R frees n
      (block_ptr b o) ⟧ ⊢ ⟦ block_owns R frees (block_ptr b o) s 0 n ⟧
  fresh b o n fits = let p : Ptr = block_ptr b o in
      let z = zero-mul s in
      let same : n ≡ 0 + n = omega arith in
      let first : o ≡ o + 0 * s = omega arith in
      qed 𝓛 (‵ (room_of_places R n b o) ∷ ‵ (block_right R frees n p) ∷ []) ∵
      rewrite ! 0 (λ (i : ℕ). ‵ (room_of_places R n b i)) first refl $
      rewrite ! 1 (λ (m : ℕ). ‵ (block_right R frees m p)) same refl $
      nothing ! $ fpack ! (IsBlock R p s (0 + n)) (λ _. ftrue) (tt, refl, subst (FitsInBlock R) same fits) $
      move ! (1 ∷ 2 ∷ 0 ∷ []) $ fjoin3 ! $ done !

  -- and a block with each of its places in it is memory for n values
  pub whole : (b o z n : ℕ) → ⟦ block_owns R frees (block_ptr b o) z 0 n ⟧ ⊢ guard 𝓤 (FitsInBlock R n) (H.room (bare
      (ty_array (lone R.mir) n)) b o ∗ ⟦ block_right R frees n (block_ptr b o) ⟧)
  whole b o z n = let p : Ptr = block_ptr b o in
      let none = zero-mul s in
      let same : 0 + n ≡ n = omega arith in
      let first : o + 0 * s ≡ o = omega arith in
      qed 𝓛 (‵ (block_owns R frees p z 0 n) ∷ []) ∵ fsplit3 ! $ move ! (2 ∷ []) $ fpick ! (λ so. drop ! $
      check ! (subst (FitsInBlock R) same so.2) $
      rewrite ! 0 (λ (i : ℕ). ‵ (room_of_places R n b i)) first refl $
      rewrite ! 1 (λ (m : ℕ). ‵ (block_right R frees m p)) same refl $ done !)

  -- where a place is, as the block says it
  so_far : (p : Ptr) (z taken : ℕ) → z ≡ s → place_in p z taken ≡ place_in p s taken
  so_far p z taken e = ap (λ (x : ℕ). place_in p x taken) e

  -- the next place is taken out
  pub take_out : (p : Ptr) (z taken left : ℕ) → ⟦ block_owns R frees p z taken (suc left) ⟧ ⊢ ⟦ room_for τ (place_in p z
      taken) ⟧ ∗ ⟦ block_owns R frees p z (suc taken) left ⟧
  take_out (block_ptr b o) z taken left = let p : Ptr = block_ptr b o in
      let e : ℕ = o + taken * s in
      let same : taken + suc left ≡ suc taken + left = omega arith in
      qed 𝓛 (‵ (block_owns R frees p z taken (suc left)) ∷ []) ∵ fsplit3 ! $ move ! (2 ∷ []) $ fpick ! (λ so. drop ! $
      use1 𝓛 (‵ (froom τ b e) ⊛ ‵ (froom (ty_array τ left) b (e + size τ))) (𝓛.laws.room_uncons τ left b e) $ split ! $
      rewrite ! 0 (λ (q : Ptr). ‵ (room_for τ q)) (sym (so_far p z taken so.1)) refl $ frame ! $
      rewrite ! 0 (λ (i : ℕ). ‵ (room_of_places R left b i)) (behind o taken) refl $
      rewrite ! 1 (λ (m : ℕ). ‵ (block_right R frees m p)) same refl $
      nothing ! $ fpack ! (IsBlock R p z (suc taken + left)) (λ _. ftrue) (tt, so.1, subst (FitsInBlock R) same so.2) $
      move ! (1 ∷ 2 ∷ 0 ∷ []) $ fjoin3 ! $ done !)
  take_out null_ptr z taken left = qed 𝓛 (‵ (block_owns R frees null_ptr z taken (suc left)) ∷ []) ∵ fsplit3 ! $
      move ! (2 ∷ []) $ fpick ! (λ so. absurd so.0)

  -- the last place that was taken out is put back
  pub put_in : (p : Ptr) (z taken left : ℕ) → ⟦ room_for τ (place_in p z taken) ⟧ ∗ ⟦ block_owns R frees p z (suc taken)
      left ⟧ ⊢ ⟦ block_owns R frees p z taken (suc left) ⟧
  put_in (block_ptr b o) z taken left = let p : Ptr = block_ptr b o in
      let e : ℕ = o + taken * s in
      let same : suc taken + left ≡ taken + suc left = omega arith in
      qed 𝓛 (‵ (room_for τ (place_in p z taken)) ∷ ‵ (block_owns R frees p z (suc taken) left) ∷ []) ∵
      move ! (1 ∷ []) $ fsplit3 ! $ move ! (2 ∷ []) $ fpick ! (λ so. drop ! $
      -- [the places; the right; the place]
      rewrite ! 2 (λ (q : Ptr). ‵ (room_for τ q)) (so_far p z taken so.1) refl $
      rewrite ! 0 (λ (i : ℕ). ‵ (room_of_places R left b i)) (sym (behind o taken)) refl $
      rewrite ! 1 (λ (m : ℕ). ‵ (block_right R frees m p)) same refl $ move ! (2 ∷ 0 ∷ []) $
      use2 𝓛 (‵ (room_of_places R (suc left) b e)) (𝓛.laws.room_cons τ left b e) $
      nothing ! $ fpack ! (IsBlock R p z (taken + suc left)) (λ _. ftrue) (tt, so.1, subst (FitsInBlock R) same so.2) $
      move ! (1 ∷ 2 ∷ 0 ∷ []) $ fjoin3 ! $ done !)
  put_in null_ptr z taken left = qed 𝓛 (‵ (room_for τ (place_in null_ptr z taken)) ∷ ‵ (block_owns R frees null_ptr z
      (suc taken) left) ∷ []) ∵ move ! (1 ∷ []) $ fsplit3 ! $ move ! (2 ∷ []) $ fpick ! (λ so. absurd so.0)

-- a place that is in a block lies in memory
pub near : (z index n : ℕ) → index < n → n * z < 2 ^ 63 → index * z < 2 ^ 64
near z index n less fits = (let x : index * z ≤ n * z = mul-le-mul_right z (let y : index ≤ n = omega arith in y) in
    omega arith)
