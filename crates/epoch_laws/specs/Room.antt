-- Whether a put will find a place, and how the steps of its participant tell of that.
use Rattle.std.specs.Prelude.{◌≡◌, ℕ, Bool, true, false, not, Option, Some, ◌⊎◌}
use Rattle.epoch_machine.specs.declared.machine.Ask.{Ask}
use Rattle.epoch_machine.specs.declared.machine.Ask.TheVariants.{LoadEpoch, PutBag, TakeBag}
use Rattle.epoch_machine.specs.declared.machine.Stage.{Stage}
use Rattle.epoch_machine.specs.declared.machine.Stage.TheVariants.{Take, Put}
use Rattle.epoch_machine.specs.Machine.{Machine}
use Rattle.epoch_laws.specs.Collections.{OwnClaims, LeavesClaims}
use Rattle.epoch_laws.specs.declared.step.Deferral.{Deferral}

-- a bag is put
abbrev pub is_putting : Stage → Bool
is_putting (Put seal) = true
is_putting _ = false

-- a bag is put, or bags are looked for
abbrev pub is_at_places : Stage → Bool
is_at_places (Put seal) = true
is_at_places (Take x k) = true
is_at_places _ = false

-- A step of a put, its machine being n after it: while the put goes on, it has room as before, and where it ends, it
-- had room exactly if the bag is in the store.
pub record PutTellsRoom (n : Machine Deferral) (old new : Bool) : Type 0 where
  pub kept : is_putting n.stage ≡ true → new ≡ old
  pub told : is_putting n.stage ≡ false → n.full ≡ not old

-- What a step tells of it, by what it asks for. A put begins with the load of its seal, as does every load of the
-- epoch, and has room then, where a place is free.
abbrev pub TellsRoom : Type 0 → Option Ask → Machine Deferral → Bool → Bool → Type 0
TellsRoom Free (Some LoadEpoch) n old new = Free → new ≡ true
TellsRoom Free (Some (PutBag seal)) n old new = PutTellsRoom n old new
TellsRoom Free _ n old new = Unit {0}

-- WHO CLAIMS A PLACE WITHOUT A BAG

-- What its put claims counts only while a participant is putting a bag,
abbrev pub OwnReserves : Stage → (ℕ → Type 0) → ℕ → Type 0
OwnReserves s Reserves place = (is_putting s ≡ true) × Reserves place

-- and what its collection claims, as ever, while it is taking bags.
abbrev pub OwnPlaces : Stage → (ℕ → Type 0) → (ℕ → Type 0) → ℕ → Type 0
OwnPlaces s Reserves Claims place = OwnReserves s Reserves place ⊎ OwnClaims s Claims place

-- by what the step asks for: only a step of a put or of a collection claims a place
abbrev pub MayReserve : Ask → Stage → (ℕ → Type 0) → (ℕ → Type 0) → (ℕ → Type 0) → (ℕ → Type 0) → (ℕ → Type 0)
    → (ℕ → Type 0) → Type 0
MayReserve (PutBag seal) s Reserved Reserves Claims Reserved' Reserves' Claims' =
    LeavesClaims Reserved Reserves Reserved' (OwnReserves s Reserves')
MayReserve (TakeBag x) s Reserved Reserves Claims Reserved' Reserves' Claims' =
    LeavesClaims Reserved Claims Reserved' (OwnClaims s Claims')
MayReserve _ s Reserved Reserves Claims Reserved' Reserves' Claims' = (place : ℕ) → Reserved' place → Reserved place
