-- What an owned value is once it was lent for writing.
use Rattle.std.specs.Box.{with_value}
use Rattle.epoch_atomic.specs.declared.atomic.owned.Owned.{Owned}

-- The same box and tag, with this value.
abbrev pub with_owned_value : {T : Type 0} → Owned T → T → Owned T
with_owned_value owned value = record { value = with_value owned.value value; tag = owned.tag }
