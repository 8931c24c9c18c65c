-- The machine values of the crate's types. Assumes `Logic`.
use Rattle.std.proofs.Common.{◌≡◌, ℕ, ◌^◌, ◌<◌, T, List, [], ◌∷◌, ◌++◌, refl, ap, ◌∙◌, lit<, w64}
use seplogic.Ra.Ura.{Ura}
use mir.Syntax.{ty_ptr, ty_int, ty_struct, tcons, tnil}
use mir.Val.{Val, vint, vstruct, vcons, vnil, of_list, has_ty, WT}
use base.Logic.{ent, emp}
use types.Logic.{Logic, sem}
use denote.RattleType.{RattleType}
use denote.Laws.{Is}
use denote.RawPtr.{Ptr, block_ptr, null_ptr, ptr_val}
use denote.Shadow.{makes_shadow}
use denote.Struct.Struct.{Struct}
use denote.Struct.Owning.{shape}
use Rattle.core.proofs.mem.Param.{El, Good, elτ}
use Rattle.std_alloc.proofs.ResultValues.{and_tt}
use Rattle.epoch_lend.proofs.Fields.{word, hand_of}
use Rattle.epoch_lend.specs.contracts.cells.turns.Turns.TheInside as inside
use Rattle.epoch_lend.specs.contracts.cells.turns.Place as place
use Rattle.epoch_lend.specs.contracts.cells.turns.TurnClaim as claim
use Rattle.epoch_lend.specs.contracts.cells.turns.Filled as filled
use Rattle.epoch_lend.specs.contracts.cells.turns.Vacancy as vacancy
use Rattle.epoch_lend.specs.contracts.cells.turns.TurnName as name
use Rattle.epoch_lend.specs.contracts.cells.turns.Found as found

module _ (R : RattleType) where
  abbrev pub Place : RattleType
  Place = Struct (shape (place.the_type R))

  -- its bytes are its pointer
  pub place_told : (p : Ptr) (vs : List Val) → Is Place (p, tt) vs → vs ≡ word p ∷ []
  place_told p vs is = is.1.0 ∙ ap (λ (ws : List Val). vstruct (of_list (ws ++ [])) ∷ []) is.1.1.0

  -- it is made of its pointer
  pub place_made : {M : Type 1} {𝓤 : Ura M} (𝓛 : Logic 𝓤) (p : Ptr)
      → ent 𝓤 (emp 𝓤) (sem 𝓛 (Place.own_val (p, tt) (word p ∷ [])))
  place_made 𝓛 p = makes_shadow 𝓛 (Place.own_val (p, tt) (word p ∷ [])) (λ vss. (tt, (tt, tt))) (
    (ptr_val p ∷ [], tt),
    (refl, (refl, tt)),
  )

module _ (R : RattleType) where
  abbrev pub Claim : RattleType
  Claim = Struct (shape (claim.the_type R))

  -- its bytes are its pointer
  pub claim_told : (p : Ptr) (vs : List Val) → Is Claim (p, tt) vs → vs ≡ word p ∷ []
  claim_told p vs is = is.1.0 ∙ ap (λ (ws : List Val). vstruct (of_list (ws ++ [])) ∷ []) is.1.1.0

  -- it is made of its pointer
  pub claim_made : {M : Type 1} {𝓤 : Ura M} (𝓛 : Logic 𝓤) (p : Ptr)
      → ent 𝓤 (emp 𝓤) (sem 𝓛 (Claim.own_val (p, tt) (word p ∷ [])))
  claim_made 𝓛 p = makes_shadow 𝓛 (Claim.own_val (p, tt) (word p ∷ [])) (λ vss. (tt, (tt, tt))) (
    (ptr_val p ∷ [], tt),
    (refl, (refl, tt)),
  )

module _ (R : RattleType) where
  abbrev pub Filled : RattleType
  Filled = Struct (shape (filled.the_type R))

  -- its bytes are its pointer
  pub filled_told : (p : Ptr) (vs : List Val) → Is Filled (p, tt) vs → vs ≡ word p ∷ []
  filled_told p vs is = is.1.0 ∙ ap (λ (ws : List Val). vstruct (of_list (ws ++ [])) ∷ []) is.1.1.0

  -- it is made of its pointer
  pub filled_made : {M : Type 1} {𝓤 : Ura M} (𝓛 : Logic 𝓤) (p : Ptr)
      → ent 𝓤 (emp 𝓤) (sem 𝓛 (Filled.own_val (p, tt) (word p ∷ [])))
  filled_made 𝓛 p = makes_shadow 𝓛 (Filled.own_val (p, tt) (word p ∷ [])) (λ vss. (tt, (tt, tt))) (
    (ptr_val p ∷ [], tt),
    (refl, (refl, tt)),
  )

module _ (R : RattleType) where
  abbrev pub Vacancy : RattleType
  Vacancy = Struct (shape (vacancy.the_type R))

  -- its bytes are its pointer
  pub vacancy_told : (p : Ptr) (vs : List Val) → Is Vacancy (p, tt) vs → vs ≡ word p ∷ []
  vacancy_told p vs is = is.1.0 ∙ ap (λ (ws : List Val). vstruct (of_list (ws ++ [])) ∷ []) is.1.1.0

  -- it is made of its pointer
  pub vacancy_made : {M : Type 1} {𝓤 : Ura M} (𝓛 : Logic 𝓤) (p : Ptr)
      → ent 𝓤 (emp 𝓤) (sem 𝓛 (Vacancy.own_val (p, tt) (word p ∷ [])))
  vacancy_made 𝓛 p = makes_shadow 𝓛 (Vacancy.own_val (p, tt) (word p ∷ [])) (λ vss. (tt, (tt, tt))) (
    (ptr_val p ∷ [], tt),
    (refl, (refl, tt)),
  )

-- the bytes of a name are its turn
abbrev pub name_val : ℕ → Val
name_val t = vstruct (vcons (vint w64 t) (vcons (vstruct vnil) vnil))

-- a name's value is of its type
pub name_typed : (t : ℕ) → t < 2 ^ 64
    → T (has_ty (ty_struct [] (tcons (ty_int w64) (tcons (ty_struct [] tnil) tnil))) (name_val t)) × WT (name_val t)
name_typed t f = (tt, (record { fits = f }, (tt, tt)))

module _ (R : RattleType) where
  abbrev pub Name : RattleType
  Name = Struct (shape (name.the_type R))

  -- a name is made of its turn
  pub name_made : {M : Type 1} {𝓤 : Ura M} (𝓛 : Logic 𝓤) (t : ℕ) → t < 2 ^ 64
      → ent 𝓤 (emp 𝓤) (sem 𝓛 (Name.own_val (t, (record {}, tt)) (name_val t ∷ [])))
  name_made 𝓛 t f = makes_shadow 𝓛 (Name.own_val (t, (record {}, tt)) (name_val t ∷ [])) (λ vss. (
    tt,
    (
      (tt, tt),
      (
        (λ uss. (
          tt,
          tt,
        )),
        tt,
      ),
    ),
  )) (
    (vint w64 t ∷ [], (vstruct vnil ∷ [], tt)),
    (refl, ((refl, f), ((tt, (refl, tt)), tt))),
  )

-- the bytes of a place's turns are those of their marker, which are none
abbrev pub none_val : Val
none_val = vstruct (vcons (vstruct vnil) vnil)

-- they are of their type
pub none_typed : T (has_ty (ty_struct [] (tcons (ty_struct [] tnil) tnil)) none_val) × WT none_val
none_typed = (tt, (tt, tt))

module _ (R : RattleType) where
  abbrev pub Inside : RattleType
  Inside = inside.the_row R

  -- the turns of a place have these bytes
  pub inside_told : (vs : List Val) → Is Inside (record { marker = record {} }) vs → vs ≡ none_val ∷ []
  inside_told vs is = is.1.0 ∙ ap (λ (ws : List Val). vstruct (of_list (ws ++ [])) ∷ []) is.1.1.0.1.0

  -- and are made of them
  pub inside_made : {M : Type 1} {𝓤 : Ura M} (𝓛 : Logic 𝓤)
      → ent 𝓤 (emp 𝓤) (sem 𝓛 (Inside.own_val (record { marker = record {} }) (none_val ∷ [])))
  inside_made 𝓛 = makes_shadow 𝓛 (Inside.own_val (record { marker = record {} }) (none_val ∷ [])) (λ vss. (
    tt,
    ((λ uss. (tt, tt)), tt),
  )) ((vstruct vnil ∷ [], tt), (refl, ((tt, (refl, tt)), tt)))

module _ (R : RattleType) where
  abbrev pub Found : RattleType
  Found = Struct (shape (found.the_type R))

  -- the bytes of what a look found are its turn
  pub found_told : (t : ℕ) (vs : List Val) → Is Found (t, (record {}, tt)) vs → vs ≡ name_val t ∷ []
  found_told t vs is = is.1.0 ∙ ap (λ (ws : List Val). vstruct (of_list (ws ++ (is.0.1.0 ++ []))) ∷ []) is.1.1.0.0 ∙ ap
      (λ (ws : List Val). vstruct (of_list (vint w64 t ∷ (ws ++ []))) ∷ []) is.1.1.1.0.1.0

  -- it is made of its turn
  pub found_made : {M : Type 1} {𝓤 : Ura M} (𝓛 : Logic 𝓤) (t : ℕ) → t < 2 ^ 64
      → ent 𝓤 (emp 𝓤) (sem 𝓛 (Found.own_val (t, (record {}, tt)) (name_val t ∷ [])))
  found_made 𝓛 t f = makes_shadow 𝓛 (Found.own_val (t, (record {}, tt)) (name_val t ∷ [])) (λ vss. (
    tt,
    (
      (tt, tt),
      (
        (λ uss. (
          tt,
          tt,
        )),
        tt,
      ),
    ),
  )) (
    (vint w64 t ∷ [], (vstruct vnil ∷ [], tt)),
    (refl, ((refl, f), ((tt, (refl, tt)), tt))),
  )

-- a word and what was found with it
abbrev pub found_pair : ℕ → ℕ → Val
found_pair n t = vstruct (vcons (vint w64 n) (vcons (name_val t) vnil))

-- what a look for a turn answers is of its type
pub found_typed : (n t : ℕ) → n < 2 ^ 64 → t < 2 ^ 64
    → T (has_ty (ty_struct [] (tcons (ty_int w64) (tcons (ty_struct [] (tcons (ty_int w64) (tcons (ty_struct [] tnil)
    tnil))) tnil))) (found_pair n t)) × WT (found_pair n t)
found_typed n t f g = (tt, (record { fits = f }, ((record { fits = g }, (tt, tt)), tt)))

-- what a mark answers
abbrev pub three_of : ℕ → Val → Val → Val
three_of n v w = vstruct (vcons (vint w64 n) (vcons v (vcons w vnil)))

-- what a mark answers is of its type
pub three_typed : (p : Ptr) (n : ℕ) → n < 2 ^ 64
    → T (has_ty (ty_struct [] (tcons (ty_int w64) (tcons (ty_struct [] (tcons ty_ptr tnil)) (tcons (ty_struct []
    (tcons ty_ptr
    tnil)) tnil)))) (three_of n (word p) (word p))) × WT (three_of n (word p) (word p))
three_typed (block_ptr b o) n f = (tt, (record { fits = f }, ((tt, tt), ((tt, tt), tt))))
three_typed null_ptr n f = (
  tt,
  (
    record { fits = f },
    (
      (record { fits = lit< tt }, tt),
      (
        (
          record { fits = lit< tt },
          tt,
        ),
        tt,
      ),
    ),
  ),
)

-- what a look answers is of its type
pub looked_typed : (p : Ptr) (n t : ℕ) → n < 2 ^ 64 → t < 2 ^ 64
    → T (has_ty (ty_struct [] (tcons (ty_int w64) (tcons (ty_struct [] (tcons (ty_int w64) (tcons (ty_struct [] tnil)
    tnil))) (tcons (ty_struct [] (tcons ty_ptr (tcons (ty_struct [] tnil) tnil))) tnil)))) (three_of n (name_val t)
    (hand_of p))) × WT (three_of n (name_val t) (hand_of p))
looked_typed (block_ptr b o) n t f g = (
  tt,
  (record { fits = f }, ((record { fits = g }, (tt, tt)), ((tt, (tt, tt)), tt))),
)
looked_typed null_ptr n t f g = (
  tt,
  (record { fits = f }, ((record { fits = g }, (tt, tt)), ((record { fits = lit< tt }, (tt, tt)), tt))),
)

-- what a take answers
abbrev pub two_of : Val → Val → Val
two_of v w = vstruct (vcons v (vcons w vnil))

-- what a take answers is of its type
pub taken_typed : (E : El) (p : Ptr) (v : Val) → Good E v
    → T (has_ty (ty_struct [] (tcons (ty_struct [] (tcons ty_ptr tnil)) (tcons (elτ E) tnil))) (two_of (word p) v)) × WT
    (two_of (word p) v)
taken_typed E (block_ptr b o) v f = (and_tt (has_ty (elτ E) v) f.0, ((tt, tt), (f.1, tt)))
taken_typed E null_ptr v f = (and_tt (has_ty (elτ E) v) f.0, ((record { fits = lit< tt }, tt), (f.1, tt)))
