-- What a call hands back that is to place a node.
use Rattle.std.specs.Prelude.{◌≡◌, ◌⊎◌, Option, Some, None}
use Rattle.epoch_cells.specs.declared.fault.Fault.TheVariants.{TriesOut}
use Rattle.epoch_cells.specs.declared.fault.Refused.{Refused}

-- The node comes back, or it was placed and is retired, which is told as lost tries.
abbrev pub KeepsOrRetires : {N : Type 0} → N → Refused (Option N) → Type 0
KeepsOrRetires node back = (back.value ≡ Some node) ⊎ ((back.value ≡ None) × (back.fault ≡ TriesOut))
