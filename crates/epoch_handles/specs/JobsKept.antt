-- No job is lost on threads: where each job stands that a participant was given to keep.
use Rattle.std.specs.Prelude.{◌≡◌, ℕ, ◌+◌, List, [], ◌∷◌, ◌++◌, Option, None, All, sum_by}
use Rattle.atomic_table.specs.Table.{State}
use Rattle.epoch_bags.specs.Bags.{Sealed}
use Rattle.epoch_tables.specs.SharedPlaces.{PlacesAgree, bag_weight, homes_weight, with_claim}
use Rattle.epoch_tables.specs.SharedSteps.{RestsAt}
use Rattle.epoch_tables.specs.ClosedPlaces.{AreLast}
use Rattle.epoch_tables.specs.declared.shared_places.view.PlaceView.{PlaceView}
use Rattle.epoch_machine.specs.declared.machine.Action.{Action}
use Rattle.epoch_machine.specs.declared.machine.Answer.TheVariants.{Job}
use Rattle.epoch_machine.specs.declared.machine.Sizes.{Sizes}
use Rattle.epoch_machine.specs.declared.machine.Stage.{Stage}
use Rattle.epoch_machine.specs.declared.machine.Stage.TheVariants.{Calling, End}
use Rattle.epoch_machine.specs.Machine.{begun, ended, fresh}
use Rattle.epoch_machine.specs.Asks.{Reply, Heard, Log}
use Rattle.epoch_handles.specs.Drives.{Situation, Performed}
use Rattle.epoch_handles.specs.ThreadGrace.{jobs_given}

-- WEIGHTS
-- Where jobs are weighed in whatever way, equal weights say that each job stands on both sides as often.

module _ {J : Type 0} where
  -- the job that a reply gives to be kept in the held bag
  abbrev pub job_kept : Reply J → List J
  job_kept (Heard (Job job)) = job ∷ []
  job_kept reply = []

  -- the jobs that were given to be kept, the first one first
  abbrev pub jobs_kept : Log J → List J
  jobs_kept [] = []
  jobs_kept (x ∷ log) = job_kept x.reply ++ jobs_kept log

  -- what is left of the bag whose jobs are being called
  abbrev pub left_to_call : Stage → List J → List J
  left_to_call (Calling x k) hand = hand
  left_to_call stage hand = []

  abbrev pub jobs_weight : (J → ℕ) → Sealed J → ℕ
  jobs_weight weigh bag = sum_by weigh bag.jobs

  -- the bags in the slots that a seat has in hand, out of places that it has claimed
  abbrev pub slots_weight : (J → ℕ) → List (ℕ × Option (Sealed J)) → ℕ
  slots_weight weigh slots = sum_by (λ slot. bag_weight (jobs_weight weigh) slot.1) slots

  -- What a participant has: the jobs in its bag, those that are left of a bag that it calls, and a bag that it has in
  -- hand at a place.
  abbrev pub has_weight : (J → ℕ) → Situation J → ℕ
  has_weight weigh at = sum_by weigh at.machine.held
      + sum_by weigh (left_to_call at.machine.stage at.machine.hand) + slots_weight weigh at.sight.places.1

  -- what its seat has left in places, and what it has won there
  abbrev pub leaves_weight : (J → ℕ) → PlaceView J → ℕ
  leaves_weight weigh view = sum_by (bag_weight (jobs_weight weigh)) view.left

  abbrev pub wins_weight : (J → ℕ) → PlaceView J → ℕ
  wins_weight weigh view = sum_by (bag_weight (jobs_weight weigh)) view.won

  -- Each job that the participant had, was given to keep or has won it has now, was given to call or has left in a
  -- place.
  abbrev pub KeepsJobs : (J → ℕ) → Situation J → List J → List J → Situation J → Type 0
  KeepsJobs weigh before kept given after =
      has_weight weigh before + sum_by weigh kept
      + wins_weight weigh after.sight.places.0 + leaves_weight weigh before.sight.places.0
      ≡ has_weight weigh after + sum_by weigh given
      + leaves_weight weigh after.sight.places.0 + wins_weight weigh before.sight.places.0

-- A CALL

-- the machine begins this action
abbrev pub with_action : {J : Type 0} → Action → Situation J → Situation J
with_action action at = record at { machine = begun action at.machine }

-- This holds of each call of a handle, wherever it has come to. Between two calls a seat has no place claimed.
abbrev pub KeepsJobsInCalls : Type 0 → Type 0
KeepsJobsInCalls J = (places : ℕ) (action : Action) (before after : Situation J) (log : Log J)
    → before.sight.places.1 ≡ [] → Performed places (with_action action before) log after
    → (weigh : J → ℕ) → KeepsJobs weigh (with_action action before) (jobs_kept log) (jobs_given log) after

-- ALL THREADS

module _ {J : Type 0} where
  -- The participant performed this call and then these, one after another: all but the last one to its end, and that
  -- one as far as this situation.
  abbrev pub PerformedCalls : ℕ → Situation J → Action × Log J → List (Action × Log J) → Situation J → Type 0
  PerformedCalls places before call [] after = Performed places (with_action call.0 before) call.1 after
  PerformedCalls places before call (next ∷ calls) after = (last : Situation J)
      × Performed places (with_action call.0 before) call.1 last × (last.machine.stage ≡ End)
      × PerformedCalls places (record last { machine = ended last.machine }) next calls after

  -- the same of a participant that may have made no call
  abbrev pub HasPerformed : ℕ → Situation J → List (Action × Log J) → Situation J → Type 0
  HasPerformed places before [] after = after ≡ before
  HasPerformed places before (call ∷ calls) after = PerformedCalls places before call calls after

  abbrev pub all_kept : List (Action × Log J) → List J
  all_kept [] = []
  all_kept (call ∷ calls) = jobs_kept call.1 ++ all_kept calls

  abbrev pub all_given : List (Action × Log J) → List J
  all_given [] = []
  all_given (call ∷ calls) = jobs_given call.1 ++ all_given calls

  -- a participant that has registered and done nothing else
  pub record IsRegistered (at : Situation J) : Type 0 where
    pub sizes : Sizes
    pub machine : at.machine ≡ fresh sizes
    pub places : at.sight.places ≡ (with_claim None [] [] [] [], [])

-- what a participant has done since it registered, and where it is
pub record Life (J : Type 0) : Type 0 where
  pub start : Situation J
  pub calls : List (Action × Log J)
  pub now : Situation J

module _ {J : Type 0} where
  -- the life of the participant whose seat has this view
  pub record IsLifeOf (places : ℕ) (view : PlaceView J) (life : Life J) : Type 0 where
    pub registered : IsRegistered life.start
    pub performed : HasPerformed places life.start life.calls life.now
    pub view_now : life.now.sight.places.0 ≡ view

  -- each seat's view with the life of its participant, in the same order
  abbrev pub AreLivesOf : ℕ → List (PlaceView J) → List (Life J) → Type 0
  AreLivesOf places [] [] = Unit {0}
  AreLivesOf places (view ∷ views) (life ∷ lives) = IsLifeOf places view life × AreLivesOf places views lives
  AreLivesOf places views lives = ⊥

-- At any moment, wherever the participants have come to: however jobs are weighed, all jobs that were given to be kept
-- are those that participants have in their bags and in hand, those that were given to be called, and those of the bags
-- that are at home in places.
abbrev pub LosesNoJob : Type 0 → Type 0
LosesNoJob J = (places : ℕ) (s : State (Option (Sealed J)) (PlaceView J)) (lives : List (Life J))
    → PlacesAgree places s → AreLivesOf places s.views lives → (weigh : J → ℕ)
    → sum_by (λ life. sum_by weigh (all_kept life.calls)) lives
    ≡ sum_by (λ life. has_weight weigh life.now) lives + sum_by (λ life. sum_by weigh (all_given life.calls)) lives
    + homes_weight (jobs_weight weigh) s.homes

-- AN END

-- The participant has left: it has no job, and has claimed no place.
pub record HasLeft {J : Type 0} (at : Situation J) : Type 0 where
  pub sizes : Sizes
  pub machine : at.machine ≡ fresh sizes
  pub rests : RestsAt at.sight.places

-- All participants have left, and the places were closed, which had these contents then. However jobs are weighed, all
-- jobs that were given to be kept are those that were given to be called and those that were left in the places.
abbrev pub LeavesTheRest : Type 0 → Type 0
LeavesTheRest J = (places : ℕ) (left : List (Option (Sealed J))) (last : AreLast places left) (lives : List (Life J))
    → AreLivesOf places last.state.views lives → All (λ life. HasLeft life.now) lives → (weigh : J → ℕ)
    → sum_by (λ life. sum_by weigh (all_kept life.calls)) lives
    ≡ sum_by (λ life. sum_by weigh (all_given life.calls)) lives + sum_by (bag_weight (jobs_weight weigh)) left
