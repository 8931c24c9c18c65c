-- What an update's closure was called at, and what it made.
use Rattle.std.specs.Prelude.{◌≡◌, ◌⊎◌, Option, Some, None, List}
use Rattle.std.specs.List.{FoldsTo}

-- of which values there are, and of what a call does: from a state of the closure, at a value, what it returns, and the
-- state after it
module _ {F T : Type 0} (is_value : T → Type 0) (step : F → T → Option T → F → Type 0) where
  -- a call at this value, which is one of them, whatever it returned
  abbrev pub CallsAt : F → T → F → Type 0
  CallsAt f value g = is_value value × ((told : Option T) × step f value told g)

  -- The closure wasn't called, or was called once, at some value.
  abbrev pub GoesOnOnce : F → F → Type 0
  GoesOnOnce f g = (g ≡ f) ⊎ ((value : T) × CallsAt f value g)

  -- Calls at some values, one after another, took the closure from f to g.
  abbrev pub GoesOn : F → F → Type 0
  GoesOn f g = (values : List T) × FoldsTo CallsAt f values g

  -- A call at some value returned one that is a value from then on.
  abbrev pub Makes : F → Type 0
  Makes f = (value : T) × (made : T) × (g : F) × is_value value × is_value made × step f value (Some made) g

  -- The last of some calls, one after another, returned a value.
  abbrev pub MakesLast : F → Type 0
  MakesLast f = (g : F) × GoesOn f g × Makes g

  -- The closure wasn't called, or was called once, and returned none.
  abbrev pub StopsOnce : F → F → Type 0
  StopsOnce f g = (g ≡ f) ⊎ ((value : T) × is_value value × step f value None g)
