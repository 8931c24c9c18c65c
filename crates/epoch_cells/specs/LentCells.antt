-- What stands in a cell, and a claim to write it, once the value was lent.
use Rattle.std.specs.Box.{with_value}
use Rattle.epoch_cells.specs.declared.cells.held.Held.{Held}
use Rattle.epoch_cells.specs.declared.cells.held.Writing.{Writing}

-- This value beside the same name.
abbrev pub with_held : {T : Type 0} → Held T → T → Held T
with_held held value = record held { value = with_value held.value value }

-- The same claim, with this value beside the same name.
abbrev pub with_written : {T : Type 0} → Writing T → T → Writing T
with_written writing value = record writing { held = with_held writing.held value }
