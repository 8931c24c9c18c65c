-- Between any two steps a participant's call, its machine and its guards say the same: they are linked.
use Rattle.std.proofs.Common.{◌≡◌, refl, subst}
use Rattle.epoch_machine.specs.declared.machine.Sizes.{Sizes}
use Rattle.epoch_laws.specs.declared.step.Progress.{Progress}
use Rattle.epoch_laws.specs.Run.{WorldSeat, free_seat}
pub use Rattle.epoch_laws.specs.Kept.{action_of, rests, BeganUnder, IsDriven, IsInStep, IsLinked, AllLinked}

-- a free position is linked: its machine rests, and no guard is counted
pub free_linked : (sizes : Sizes) → IsLinked sizes (free_seat sizes)
free_linked sizes = record { sized = refl; counted = refl; follows = refl }

-- what a progress that is known says
pub follows_at : (sizes : Sizes) (seat : WorldSeat)
    → IsLinked sizes seat → (progress : Progress) → seat.progress ≡ progress
    → IsInStep progress seat.machine seat.guards
follows_at sizes seat h progress e =
    subst (λ (now : Progress). IsInStep now seat.machine seat.guards) e h.follows

-- only the progress changes
pub progress_linked : (sizes : Sizes) (seat : WorldSeat) → IsLinked sizes seat → (progress : Progress)
    → IsInStep progress seat.machine seat.guards → IsLinked sizes (record seat { progress = progress })
progress_linked sizes seat h progress follows = record { sized = h.sized; counted = h.counted; follows = follows }
