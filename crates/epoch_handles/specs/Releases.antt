-- What the parts of a release come to.
use Rattle.std.specs.Prelude.{◌≡◌, ◌≢◌, [], None, true, false}
use Rattle.epoch_cells.specs.declared.cells.name.Name.{Name}
use Rattle.epoch_bags.specs.Jobs.{IsCalled}
use Rattle.epoch_tables.specs.SharedSteps.{RestsAt}
use Rattle.epoch_machine.specs.declared.machine.Action.TheVariants.{Release}
use Rattle.epoch_handles.specs.declared.local.Local.{Local}
use Rattle.epoch_machine.specs.Machine.{begun, fresh}
use Rattle.epoch_handles.specs.Handles.{IsSeated, IsReady, IsSame, IsPinned, IsLeftWhole, IsDrivenTo, EndsGiving}

-- The release has come to where it puts the held bag, if it has a job, and leaves: it is pinned, and holds what it
-- held.
pub record IsLeaving {T W : Type 0} (done : W → Type 0) (tried : Name → Type 0) (old new : Local T W) : Type 0 where
  pub seated : IsSeated new
  pub rests : RestsAt new.claimer.me
  pub pinned : IsPinned new.seat.me.0
  pub same : IsSame old new
  pub action : new.machine.action ≡ Release
  pub room : new.machine.full ≡ false
  pub none : new.machine.guards ≡ 0
  pub held : new.machine.held ≡ old.machine.held
  pub sizes : new.machine.sizes ≡ old.machine.sizes
  pub calls : IsDrivenTo (IsCalled done tried) (record old { machine = begun Release old.machine }) new

-- The held bag found no place, and the machine says so: the participant is not pinned, keeps its position, and holds
-- the bag as before.
pub record IsRefused {T W : Type 0} (done : W → Type 0) (tried : Name → Type 0) (old new : Local T W) : Type 0 where
  pub same : IsSame old new
  pub ends : EndsGiving (IsCalled done tried) old new
  pub ready : IsReady new
  pub held : (old.machine.held ≢ []) × (new.machine.held ≡ old.machine.held)
  pub counted : new.machine.guards ≡ 0
  pub full : new.machine.full ≡ true

-- The position is free, the machine is that of a free position, no place is claimed, and the held bag, if it had a job,
-- was left whole in a place.
pub record IsFreed {T W : Type 0} (done : W → Type 0) (tried : Name → Type 0) (old new : Local T W) : Type 0 where
  pub same : IsSame old new
  pub position : new.seat.me.0.position ≡ None
  pub machine : new.machine ≡ fresh old.machine.sizes
  pub rests : RestsAt new.claimer.me
  pub whole : old.machine.held ≢ [] → IsLeftWhole old.machine.held new.claimer.me.0
  pub calls : IsDrivenTo (IsCalled done tried) old new

-- A release was begun and driven until the position was free: the own word is 0, and the held bag, if it had a job,
-- was put whole.
abbrev pub IsReleased : {T W : Type 0} → (W → Type 0) → (Name → Type 0) → Local T W → Local T W → Type 0
IsReleased done tried old last = IsFreed done tried (record old { machine = begun Release old.machine }) last
