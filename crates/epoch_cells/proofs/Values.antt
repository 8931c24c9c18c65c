-- The machine values that an exchange answers, and those of a kept claim.
use Rattle.std.proofs.Common.{◌≡◌, ◌∙◌, ap, T, List, [], ◌∷◌, ◌++◌}
use mir.Syntax.{Ty, ty_ptr, ty_struct, tcons, tnil}
use mir.Val.{Val, vstruct, vcons, vnil, of_list, has_ty, WT}
use denote.Laws.{Is}
use denote.RattleType.{RattleType}
use denote.RawPtr.{Ptr, InBlock, block_ptr, null_ptr}
use denote.Ref.{NamedLft}
use Rattle.core.proofs.mem.Param.{El, Good, elτ}
use Rattle.std_alloc.proofs.ResultValues.{and_tt}
use Rattle.counted_slot.specs.declared.Fits.{Ghosts}
use Rattle.counted_slot.proofs.Fields.{hand_of, told}
use Rattle.epoch_cells.specs.contracts.kept.Kept.{the_row}

abbrev hand_ty : Ty
hand_ty = ty_struct [] (tcons ty_ptr (tcons (ty_struct [] tnil) tnil))

-- a claim, and the value that its slot had
abbrev pub answer_of : Ptr → Val → Val
answer_of p v = vstruct (vcons (hand_of p) (vcons v vnil))

-- what an exchange answers is of its type
pub answer_typed : (E : El) (p : Ptr) (v : Val) → InBlock p → Good E v
    → T (has_ty (ty_struct [] (tcons hand_ty (tcons (elτ E) tnil))) (answer_of p v)) × WT (answer_of p v)
answer_typed E (block_ptr b o) v i f = (and_tt (has_ty (elτ E) v) f.0, ((tt, (tt, tt)), (f.1, tt)))
answer_typed E null_ptr v i f = absurd i

-- a claim that is kept
abbrev pub kept_of : Ptr → Val
kept_of p = vstruct (vcons (hand_of p) vnil)

-- the machine value of a claim that is kept is of its type
pub kept_typed : (p : Ptr) → InBlock p → T (has_ty (ty_struct [] (tcons hand_ty tnil)) (kept_of p)) × WT (kept_of p)
kept_typed (block_ptr b o) i = (tt, ((tt, (tt, tt)), tt))
kept_typed null_ptr i = absurd i

-- it has these machine values
pub kept_told : (a : NamedLft) (R G : RattleType) (g : Ghosts R.Denot G.Denot)
    → (d : (the_row a R G g).Denot) (vs : List Val) → Is (the_row a R G g) d vs → vs ≡ kept_of d.claim.slot ∷ []
kept_told a R G g d vs so = let is = so.0 in
    is.1.0 ∙ ap (λ (ws : List Val). vstruct (of_list (ws ++ [])) ∷ []) (told a R G g d.claim.slot is.0.0 is.1.1.0.0)
