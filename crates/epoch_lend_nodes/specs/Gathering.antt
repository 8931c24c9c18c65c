-- What making room, and keeping a removal, come to for a writer.
use Rattle.std.specs.Prelude.{◌≡◌, ◌⊎◌, ◌≤◌, List, [], length, Some}
use Rattle.epoch_cells.specs.declared.cells.name.Name.{Name}
use Rattle.epoch_cells.specs.declared.fault.Fault.TheVariants.{NoMemory}
use Rattle.epoch_laws.specs.declared.step.Reply.{Reply}
use Rattle.epoch_laws.specs.declared.step.Reply.TheVariants.{Done, Refused}
use Rattle.epoch_lend.specs.declared.array.cells.SlotTurn.{SlotTurn}
use Rattle.epoch_lend_pointers.specs.Retiring.{KeepsSpot}
use Rattle.epoch_structure_calls.specs.Paths.{Keeping}

-- There is room for one more: what was gathered is kept, or was handed over together. A refusal leaves it as it was,
-- and comes only where 64 are gathered.
abbrev pub MakesRoomFor : List SlotTurn → Reply → List SlotTurn → Type 0
MakesRoomFor old (Done answer) new = (new ≡ old) ⊎ (new ≡ [])
MakesRoomFor old (Refused fault) new = (fault ≡ NoMemory) × (new ≡ old) × (64 ≤ length old)
MakesRoomFor old reply new = ⊥

-- What has this name was gathered, behind what was before, or alone, once that was handed over. Or there was no room.
abbrev pub KeepsRemoval : List SlotTurn → Name → Reply → List SlotTurn → Type 0
KeepsRemoval old name (Done answer) new = KeepsSpot (Some name) old new
KeepsRemoval old name (Refused fault) new = fault ≡ NoMemory
KeepsRemoval old name reply new = ⊥

-- So spots are gathered.
abbrev pub gathering : Keeping (List SlotTurn)
gathering = record { room = MakesRoomFor; removal = KeepsRemoval }

-- So a writer keeps removals that has gathered these spots.
abbrev pub gathers : {H : Type 0} → (H → List SlotTurn) → Keeping H
gathers spots = record {
  room = λ old reply new. MakesRoomFor (spots old) reply (spots new);
  removal = λ old name reply new. KeepsRemoval (spots old) name reply (spots new);
}
