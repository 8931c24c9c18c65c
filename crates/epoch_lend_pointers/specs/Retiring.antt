-- What a handle keeps of values that were retired.
use Rattle.std.specs.Prelude.{◌≡◌, ◌⊎◌, List, [], ◌∷◌, ◌++◌, Option, Some, None}
use Rattle.epoch_cells.specs.declared.cells.name.Name.{Name}
use Rattle.epoch_lend.specs.declared.array.cells.SlotTurn.{SlotTurn}

-- where the value of this name is
abbrev pub spot_at : Name → SlotTurn
spot_at name = record { slot = name.slot; turn = name.turn }

-- The spot of this name is kept behind those that were, or alone, once those were deferred.
abbrev pub KeepsSpot : Option Name → List SlotTurn → List SlotTurn → Type 0
KeepsSpot None old new = ⊥
KeepsSpot (Some name) old new = (new ≡ old ++ spot_at name ∷ []) ⊎ (new ≡ spot_at name ∷ [])
