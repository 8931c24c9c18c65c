-- Grace on threads: whose jobs a call gives to be called, and who can't be pinned any more then.
use Rattle.std.specs.Prelude.{◌≡◌, ℕ, List, [], ◌∷◌, ◌++◌, Some, All}
use Rattle.epoch_bags.specs.Bags.{Sealed}
use Rattle.epoch_bags.specs.declared.queue.TakeStep.TheVariants.{Got}
use Rattle.epoch_tables.specs.Table.{HasNoPinSince}
use Rattle.epoch_machine.specs.declared.machine.Action.{Action}
use Rattle.epoch_machine.specs.Machine.{begun}
use Rattle.epoch_machine.specs.Asks.{Reply, TakeStepped, JobGiven, Log}
use Rattle.epoch_handles.specs.Drives.{Sight, Situation, Exchanges, Performed}

module _ {J : Type 0} where
  -- the job that a reply gives to be called
  abbrev pub job_given : Reply J → List J
  job_given (JobGiven job) = job ∷ []
  job_given reply = []

  -- the jobs that were given to be called, the first one first
  abbrev pub jobs_given : Log J → List J
  jobs_given [] = []
  jobs_given (x ∷ log) = job_given x.reply ++ jobs_given log

  -- the jobs of these bags, one bag's after another's
  abbrev pub jobs_of_each : List (Sealed J) → List J
  jobs_of_each [] = []
  jobs_of_each (bag ∷ bags) = bag.jobs ++ jobs_of_each bags

  -- The bags that a step got: the one that its seat had in hand out of a place that it had claimed, or none.
  abbrev pub GetsBags : Sight J → Reply J → List (Sealed J) → Type 0
  GetsBags v (TakeStepped Got jobs) bags = (place : ℕ) × (bag : Sealed J)
      × (v.places.1 ≡ (place, Some bag) ∷ []) × (jobs ≡ bag.jobs) × (bags ≡ bag ∷ [])
  GetsBags v reply bags = bags ≡ []

  -- The asks are performed one after another, and these are the bags that were got meanwhile, in their order.
  abbrev pub PerformedWithBags : ℕ → Situation J → Log J → List (Sealed J) → Situation J → Type 0
  PerformedWithBags places before [] bags after = (after ≡ before) × (bags ≡ [])
  PerformedWithBags places before (x ∷ log) bags after = (next : Situation J) × Exchanges places before x next
      × ((got more : List (Sealed J)) × GetsBags before.sight x.reply got × (bags ≡ got ++ more)
      × PerformedWithBags places next log more after)

-- A call has come so far. The jobs given to be called are those of bags that it got out of places, in their order; some
-- of the last bag may be left. And no participant is pinned any more that was pinned, and had read the epoch again,
-- when the epoch was the seal of one of these bags.
pub record CallsAfterPins {J : Type 0} (places : ℕ) (before : Situation J) (log : Log J)
    (after : Situation J) : Type 0 where
  pub bags : List (Sealed J)
  pub gets : PerformedWithBags places before log bags after
  pub calls : (left : List J) × (jobs_of_each bags ≡ jobs_given log ++ left)
  pub no_pins : All (λ bag. HasNoPinSince (Unit {0}) bag.seal after.sight.words) bags

-- This holds of each call of a handle, wherever it has come to.
abbrev pub KeepsGraceOnThreads : Type 0 → Type 0
KeepsGraceOnThreads J = (places : ℕ) (action : Action) (before after : Situation J) (log : Log J)
    → Performed places (record before { machine = begun action before.machine }) log after
    → CallsAfterPins places (record before { machine = begun action before.machine }) log after
