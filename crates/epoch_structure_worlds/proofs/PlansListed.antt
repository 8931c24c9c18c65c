-- What each participant's call is, by a list, and after one of them is written.
use Rattle.std.proofs.Common.{◌≡◌, ℕ, zero, suc, ◌<◌, ◌≤◌, List, [], ◌∷◌, ◌++◌, Bool, length, ◌⊎◌, inl, inr, refl}
use Rattle.std.proofs.Common.{arith, slice_index_or, slice_set, get_or-set_same, get_or-set_other}
use Rattle.std.proofs.lemmas.List.{get_or_past}
use Rattle.epoch_laws.specs.declared.step.Reply.{Reply}
use Rattle.epoch_laws.specs.declared.step.Step.{Step}
use Rattle.epoch_laws.specs.Run.{State, TakesStep}
use Rattle.epoch_laws.proofs.SeatChanges.{seats_go, as_many_seats}
use Rattle.epoch_structure_laws.specs.declared.plan.Plan.{Plan}
use Rattle.epoch_structure_laws.specs.declared.plan.Plan.TheVariants.{NoPlan, Under}
use Rattle.epoch_structure_laws.specs.Plans.{Replans}
use Rattle.epoch_structure_worlds.specs.PlanWorlds.{plans_in}

-- one more default after a list is found nowhere else
pub get_push : {A : Type 0} (xs : List A) (d : A) (k : ℕ) → slice_index_or (xs ++ d ∷ []) k d ≡ slice_index_or xs k d
get_push [] d zero = refl
get_push [] d (suc k) = refl
get_push (x ∷ xs) d zero = refl
get_push (x ∷ xs) d (suc k) = get_push xs d k

module _ {P : Type 0} (plans : List (Plan P)) (p : ℕ) where
  -- the plan that is written is the participant's, and nobody else's
  pub sets_plan : (plan : Plan P) → p < length plans
      → Replans (plans_in plans) p plan (plans_in (slice_set plans p plan))
  sets_plan plan lt = (get_or-set_same plans p plan NoPlan lt, λ q ne. get_or-set_other plans p q plan NoPlan ne)

  -- a participant with a call has a position
  pub plan_there : (g : ℕ) (phase : P) (begun : Bool) → plans_in plans p ≡ Under g phase begun → p < length plans
  plan_there g phase begun is = elim (split (length plans) p) [
    | inl le ↦ absurd (cc (get_or_past plans p NoPlan le))
    | inr lt ↦ lt
  ]
    where
      split : (a b : ℕ) → (a ≤ b) ⊎ (b < a)
      split a b = grind arith

-- no step changes how many positions there are
pub positions_stay : (old new : State) (reply : Reply) (step : Step)
    → TakesStep old step reply new → length new.seats ≡ length old.seats
positions_stay old new reply step did = as_many_seats (seats_go old _ step reply did.0)
