-- What a step sees of the places of the store of bags, and does to them.
use Rattle.std.specs.Prelude.{◌≡◌, ◌≢◌, ℕ, ◌<◌, ◌≤◌, Bool, true, List, length, Option, Some, slice_get}
use Rattle.epoch_bags.specs.declared.queue.PutStep.{PutStep}
use Rattle.epoch_bags.specs.declared.queue.PutStep.TheVariants.{Again, Done, Full}
use Rattle.epoch_machine.specs.declared.machine.Ask.{Ask}
use Rattle.epoch_machine.specs.declared.machine.Ask.TheVariants.{LoadEpoch, PutBag, TakeBag}
use Rattle.epoch_machine.specs.Machine.{Machine, put_heard}
use Rattle.epoch_laws.specs.declared.step.Deferral.{Deferral}

-- the places, each with whether it is occupied, and how many of them a put has seen occupied since it began
pub record Occupancy : Type 0 where
  pub places : List Bool
  pub seen : ℕ

abbrev pub occupancy : List Bool → ℕ → Occupancy
occupancy places seen = record { places = places; seen = seen }

-- Each place that a step of a put goes past was occupied when the step was taken, unless the bag is in the store. A put
-- doesn't go back, and it is full after the last place, and only there.
pub record PutSees (step : PutStep) (old new : Occupancy) : Type 0 where
  pub occupied : step ≢ Done → (k : ℕ) → old.seen ≤ k → k < new.seen → slice_get old.places k ≡ Some true
  pub onward : step ≢ Done → old.seen ≤ new.seen
  pub again : step ≡ Again → new.seen < length old.places
  pub full : step ≡ Full → length old.places ≤ new.seen
  pub places : length new.places ≡ length old.places

-- What a step sees and changes, by what it asks for; the machine is m before it and n after it. A put begins with the
-- load of its seal, which counts anew, as does every load of the epoch. Only puts and takes change places.
abbrev pub SeesOccupied : Option Ask → Machine Deferral → Machine Deferral → Occupancy → Occupancy → Type 0
SeesOccupied (Some LoadEpoch) m n old new = (new.places ≡ old.places) × (new.seen ≡ 0)
SeesOccupied (Some (PutBag seal)) m n old new = (step : PutStep) × (n ≡ put_heard m step) × PutSees step old new
SeesOccupied (Some (TakeBag x)) m n old new = (length new.places ≡ length old.places) × (new.seen ≡ old.seen)
SeesOccupied _ m n old new = (new.places ≡ old.places) × (new.seen ≡ old.seen)
