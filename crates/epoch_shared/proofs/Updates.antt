-- Calls of an update's closure, one after another.
use Rattle.std.proofs.Common.{inl, inr, Option, List, [], ◌∷◌, refl, sym, subst}
use Rattle.std.specs.List.{FoldsTo}
use Rattle.epoch_shared.specs.Updates.{CallsAt, GoesOn, GoesOnOnce}

-- of which values there are, and of what a call does
module _ {F T : Type 0} (is_value : T → Type 0) (step : F → T → Option T → F → Type 0) where
  -- One more call comes behind those before.
  call_behind : (f : F) (values : List T) (g : F) (value : T) (h : F)
      → FoldsTo (CallsAt is_value step) f values g
      → CallsAt is_value step g value h
      → GoesOn is_value step f h
  call_behind f [] g value h same call =
      (value ∷ [], (h, subst (λ at. CallsAt is_value step at value h) (sym same) call, refl))
  call_behind f (first ∷ rest) g value h (between, begins, goes) call =
      let on = call_behind between rest g value h goes call in (first ∷ on.0, (between, begins, on.1))

  -- A further call, or none, comes behind those before.
  pub goes_on : {f g h : F} → GoesOn is_value step f g → GoesOnOnce is_value step g h → GoesOn is_value step f h
  goes_on {f} (values, goes) (inl same) = (values, subst (FoldsTo (CallsAt is_value step) f values) (sym same) goes)
  goes_on {f} {g} {h} (values, goes) (inr called) =
      call_behind f values g called.0 h goes called.1
