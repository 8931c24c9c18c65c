-- A state that shows how long a bag has to wait: one epoch less, and a job would be called that somebody still blocks.
use Rattle.std.specs.Prelude.{◌≡◌, ℕ, ◌+◌, ◌<◌, List, [], ◌∷◌, ◌++◌, length, map, Some, slice_get}
use Rattle.epoch_machine.specs.declared.machine.Sizes.{Sizes}
use Rattle.epoch_machine.specs.declared.machine.Stage.TheVariants.{Take}
use Rattle.epoch_laws.specs.declared.heap.access.AccessAnswer.TheVariants.{Unit as UnitAnswer}
use Rattle.epoch_laws.specs.declared.step.Call.{Call}
use Rattle.epoch_laws.specs.declared.step.Call.TheVariants.{Pin, Unpin, Defer, Flush}
use Rattle.epoch_laws.specs.declared.step.Entry.{Entry}
use Rattle.epoch_laws.specs.declared.step.Reply.{Reply}
use Rattle.epoch_laws.specs.declared.step.Reply.TheVariants.{Deferred, Done}
use Rattle.epoch_laws.specs.declared.step.Step.{Step}
use Rattle.epoch_laws.specs.declared.step.Step.TheVariants.{Register, Go}
use Rattle.epoch_laws.specs.Calls.{goes_of, call_entries, EndsAtLast}
use Rattle.epoch_laws.specs.Grace.{StaysPinned}
use Rattle.epoch_laws.specs.Run.{Bag, State, seat_of, Runs, IsFresh}
use Rattle.epoch_laws.specs.Tickets.{times}

-- bags of 64 jobs, of which a collection takes 8, for two participants
abbrev pub pair_sizes : Sizes
pair_sizes = record { positions = 2; bag_jobs = 64; collect_bags = 8 }

-- the last of the replies
abbrev pub EndsIn : Reply → List Reply → Type 0
EndsIn last [] = ⊥
EndsIn last (r ∷ []) = r ≡ last
EndsIn last (r ∷ s ∷ rs) = EndsIn last (s ∷ rs)

-- The last steps of the log are those of a collection of participant 1, up to the end of its call, for an epoch one
-- past the seal of a bag that stays in the store. In it is the job of ticket 0, which participant 1 deferred, and
-- participant 0 has stayed pinned since.
pub record IsSharp (fresh : State) (log : List Entry) (new : State) : Type 0 where
  pub bag : Bag
  pub stored : new.queued ≡ bag ∷ []
  pub holds : times 0 bag.jobs ≡ 1
  pub before : List Entry
  pub collection : List Reply
  pub begins : State
  pub ends_so : log ≡ before ++ goes_of 1 collection
  pub earlier : Runs fresh before begins
  pub collects : Runs begins (goes_of 1 collection) new
  pub expiry : (seat_of begins 1).machine.stage ≡ Take (bag.seal + 1) 0
  pub ended : EndsIn (Done UnitAnswer) collection
  pub place : ℕ
  pub last : ℕ
  pub at_end : length log ≡ last + 1
  pub deferred : slice_get log place ≡ Some (record { step = Go 1; reply = Deferred 0 })
  pub blocked : StaysPinned log 0 place last

-- a call that p begins and ends
pub record EndsCall (p : ℕ) (c : Call) (old : State) (replies : List Reply) (new : State) : Type 0 where
  pub run : Runs old (call_entries p c replies) new
  pub ends : EndsAtLast replies

-- one call after the other, each that a participant begins and ends
abbrev pub TakesCalls : State → List (ℕ × Call) → List Entry → State → Type 0
TakesCalls old [] log new = (log ≡ []) × (new ≡ old)
TakesCalls old ((p, c) ∷ calls) log new =
    (mid : State) × (replies : List Reply) × (rest : List Entry) × EndsCall p c old replies mid
    × (log ≡ call_entries p c replies ++ rest) × TakesCalls mid calls rest new

-- Each of two participants pins and unpins, and so the epoch advances twice; both pin; 1 defers a job and flushes.
abbrev pub sharp_calls : List (ℕ × Call)
sharp_calls = (0, Pin) ∷ (0, Unpin (Some 0)) ∷ (1, Pin) ∷ (1, Unpin (Some 0)) ∷ (0, Pin) ∷ (1, Pin)
    ∷ (1, Defer (Some 0)) ∷ (1, Flush (Some 0)) ∷ []

-- two registrations
abbrev pub both_register : Reply → Reply → List Entry
both_register first second =
    record { step = Register; reply = first } ∷ record { step = Register; reply = second } ∷ []

-- Two participants register, and make these calls.
pub record TakesSharpList (fresh : State) (log : List Entry) (new : State) : Type 0 where
  pub first : Reply
  pub second : Reply
  pub both : State
  pub registered : Runs fresh (both_register first second) both
  pub later : List Entry
  pub calls : TakesCalls both sharp_calls later new
  pub whole : log ≡ both_register first second ++ later

-- By these steps a world goes from one state to the other; and to a sharp one, if it is a new world of two positions,
-- in epoch 0, that has a place. The log is that of its run.
pub record LeadsToSharp (old : State) (steps : List Step) (new : State) : Type 0 where
  pub log : List Entry
  pub listed : steps ≡ map (λ (entry : Entry). entry.step) log
  pub run : Runs old log new
  pub sharp : IsFresh old → old.sizes ≡ pair_sizes → old.epoch ≡ 0 → 0 < length old.places → IsSharp old log new
