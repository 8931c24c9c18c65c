-- Which handles and guards the calls of a structure take.
use Rattle.std.specs.Prelude.{◌≡◌, ℕ}
use Rattle.epoch_handles.specs.declared.guard.Guard.{Guard}
use Rattle.epoch_handles.specs.declared.local.Local.{Local}
use Rattle.epoch_handles.specs.Handles.{Owns}

-- the guard is one that the handle has out, and their collector has this number
pub record ServesUnder {T W : Type 0} (id : ℕ) (h : Local T W) (guard : Guard T W) : Type 0 where
  pub collector : h.collector.now.id ≡ id
  pub owns : Owns h guard
