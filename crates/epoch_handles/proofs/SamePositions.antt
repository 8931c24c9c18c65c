-- A handle that stays the same participant of its collector, and its guards, over several calls.
use Rattle.std.proofs.Common.{◌≡◌, ◌∙◌, arith}
use Rattle.epoch_handles.specs.declared.guard.Guard.{Guard}
use Rattle.epoch_handles.specs.declared.local.Local.{Local}
use Rattle.epoch_handles.specs.Handles.{IsSame, Owns}

module _ {T W : Type 0} where
  -- a handle that is twice the same participant of its collector is so from first to last
  pub same_on : (old mid new : Local T W) → IsSame old mid → IsSame mid new → IsSame old new
  same_on old mid new first next =
      record { position = next.position ∙ first.position; collector = next.collector ∙ first.collector }

  -- a guard stays one that the participant has out
  pub owns_on : (old new : Local T W) (guard : Guard T W) → Owns old guard → IsSame old new
      → new.machine.guards ≡ old.machine.guards → Owns new guard
  owns_on old new guard owns same counted =
      let position = owns.position in
      let collector = owns.collector in
      let out = owns.out in
      let at = same.position in
      let of = same.collector in
      record { position = cc; collector = cc; out = omega arith }
