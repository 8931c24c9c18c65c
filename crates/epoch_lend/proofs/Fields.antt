-- The machine values of the crate's types. Assumes `Logic`.
use Rattle.std.proofs.Common.{◌≡◌, ℕ, ◌^◌, ◌<◌, T, List, [], ◌∷◌, ◌++◌, refl, ap, ◌∙◌, lit<, w64}
use seplogic.Ra.Ura.{Ura}
use mir.Syntax.{Ty, ty_ptr, ty_int, ty_struct, tcons, tnil}
use mir.Val.{Val, vint, vstruct, vcons, vnil, of_list, has_ty, WT}
use base.Logic.{ent, emp}
use types.Logic.{Logic, sem}
use denote.RattleType.{RattleType}
use denote.Laws.{Is}
use denote.Ref.{NamedLft}
use denote.Builtin.{unit}
use denote.RawPtr.{Ptr, block_ptr, null_ptr, ptr_val}
use denote.Shadow.{makes_shadow}
use denote.Struct.Struct.{Struct}
use denote.Struct.Owning.{shape}
use Rattle.core.specs.contracts.marker.PhantomData as marker
use Rattle.epoch_lend.specs.contracts.lending.Glance as glance
use Rattle.epoch_lend.specs.contracts.lending.Marked as marked

abbrev pub token : Val
token = vstruct (vcons (vstruct vnil) vnil)

abbrev pub Token : RattleType
Token = Struct record { name = []; args = []; types = []; fields = marker.the_row unit ∷ [] }

-- a token has no bytes but those of its marker
pub token_told : (vs : List Val) → Is Token (record {}, tt) vs → vs ≡ token ∷ []
token_told vs is = is.1.0 ∙ ap (λ (ws : List Val). vstruct (of_list (ws ++ [])) ∷ []) is.1.1.0.1.0

-- a token is made of nothing
pub token_made : {M : Type 1} {𝓤 : Ura M} (𝓛 : Logic 𝓤)
    → ent 𝓤 (emp 𝓤) (sem 𝓛 (Token.own_val (record {}, tt) (token ∷ [])))
token_made 𝓛 = makes_shadow 𝓛 (Token.own_val (record {}, tt) (token ∷ [])) (λ vss. (
  tt,
  (
    (λ uss. (tt, tt)),
    tt,
  ),
)) ((vstruct vnil ∷ [], tt), (refl, ((tt, (refl, tt)), tt)))

-- a glance: a pointer and a marker
abbrev pub hand_of : Ptr → Val
hand_of p = vstruct (vcons (ptr_val p) (vcons (vstruct vnil) vnil))

abbrev hand_ty : Ty
hand_ty = ty_struct [] (tcons ty_ptr (tcons (ty_struct [] tnil) tnil))

-- a pointer's value is of a pointer's type
pub ptr_typed : (p : Ptr) → T (has_ty ty_ptr (ptr_val p)) × WT (ptr_val p)
ptr_typed (block_ptr b o) = (tt, tt)
ptr_typed null_ptr = (tt, record { fits = lit< tt })

-- so is a glance's, of a glance's
pub hand_typed : (p : Ptr) → T (has_ty hand_ty (hand_of p)) × WT (hand_of p)
hand_typed (block_ptr b o) = (tt, (tt, (tt, tt)))
hand_typed null_ptr = (tt, (record { fits = lit< tt }, (tt, tt)))

abbrev pub pair_of : ℕ → Val → Val
pair_of n v = vstruct (vcons (vint w64 n) (vcons v vnil))

-- what a look answers is of its type
pub looked_typed : (p : Ptr) (n : ℕ) → n < 2 ^ 64
    → T (has_ty (ty_struct [] (tcons (ty_int w64) (tcons hand_ty tnil))) (pair_of n (hand_of p))) × WT (pair_of n
    (hand_of p))
looked_typed (block_ptr b o) n f = (tt, (record { fits = f }, ((tt, (tt, tt)), tt)))
looked_typed null_ptr n f = (tt, (record { fits = f }, ((record { fits = lit< tt }, (tt, tt)), tt)))

module _ (a : NamedLft) (R : RattleType) where
  abbrev pub Words : RattleType
  Words = Struct (shape (glance.the_type a R))

  -- the bytes of a glance are its pointer
  pub hand_told : (p : Ptr) (vs : List Val) → Is Words (p, (tt, tt)) vs → vs ≡ hand_of p ∷ []
  hand_told p vs is = is.1.0 ∙ ap (λ (ws : List Val). vstruct (of_list (ws ++ (is.0.1.0 ++ []))) ∷ []) is.1.1.0 ∙ ap
      (λ (ws : List Val). vstruct (of_list (ptr_val p ∷ (ws ++ []))) ∷ []) is.1.1.1.0.1.0

  -- a glance is made of its pointer
  pub hand_made : {M : Type 1} {𝓤 : Ura M} (𝓛 : Logic 𝓤) (p : Ptr)
      → ent 𝓤 (emp 𝓤) (sem 𝓛 (Words.own_val (p, (tt, tt)) (hand_of p ∷ [])))
  hand_made 𝓛 p = makes_shadow 𝓛 (Words.own_val (p, (tt, tt)) (hand_of p ∷ [])) (λ vss. (
    tt,
    (
      tt,
      (
        (λ uss. (tt, tt)),
        tt,
      ),
    ),
  )) ((ptr_val p ∷ [], (vstruct vnil ∷ [], tt)), (refl, (refl, ((tt, (refl, tt)), tt))))

-- what a marking gained: a pointer
abbrev pub word : Ptr → Val
word p = vstruct (vcons (ptr_val p) vnil)

abbrev word_ty : Ty
word_ty = ty_struct [] (tcons ty_ptr tnil)

-- what a mark gained is of its type
pub word_typed : (p : Ptr) → T (has_ty word_ty (word p)) × WT (word p)
word_typed (block_ptr b o) = (tt, (tt, tt))
word_typed null_ptr = (tt, (record { fits = lit< tt }, tt))

-- what a mark answers is of its type
pub marked_typed : (p : Ptr) (n : ℕ) → n < 2 ^ 64
    → T (has_ty (ty_struct [] (tcons (ty_int w64) (tcons word_ty tnil))) (pair_of n (word p))) × WT (pair_of n (word p))
marked_typed (block_ptr b o) n f = (tt, (record { fits = f }, ((tt, tt), tt)))
marked_typed null_ptr n f = (tt, (record { fits = f }, ((record { fits = lit< tt }, tt), tt)))

module _ (R : RattleType) where
  abbrev pub Found : RattleType
  Found = Struct (shape (marked.the_type R))

  -- the bytes of what a mark gained are its pointer
  pub found_told : (p : Ptr) (vs : List Val) → Is Found (p, tt) vs → vs ≡ word p ∷ []
  found_told p vs is = is.1.0 ∙ ap (λ (ws : List Val). vstruct (of_list (ws ++ [])) ∷ []) is.1.1.0

  -- what a mark gained is made of its pointer
  pub found_made : {M : Type 1} {𝓤 : Ura M} (𝓛 : Logic 𝓤) (p : Ptr)
      → ent 𝓤 (emp 𝓤) (sem 𝓛 (Found.own_val (p, tt) (word p ∷ [])))
  found_made 𝓛 p = makes_shadow 𝓛 (Found.own_val (p, tt) (word p ∷ [])) (λ vss. (tt, (tt, tt))) (
    (
      ptr_val p ∷ [],
      tt,
    ),
    (refl, (refl, tt)),
  )
