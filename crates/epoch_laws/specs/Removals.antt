-- What is said of whole runs: a job removes the name that its deferral named.
use Rattle.std.specs.Prelude.{◌≡◌, ℕ, List, [], ◌∷◌, Some, ◌⊎◌}
use Rattle.epoch_cells.specs.declared.cells.name.Name.{Name}
use Rattle.epoch_bags.specs.declared.job.Called.{Called}
use Rattle.epoch_bags.specs.declared.job.Called.TheVariants.{Ran}
use Rattle.epoch_laws.specs.declared.step.Deferral.{Deferral}
use Rattle.epoch_laws.specs.declared.step.Entry.{Entry}
use Rattle.epoch_laws.specs.declared.step.Reply.TheVariants.{Called as CalledReply}
use Rattle.epoch_laws.specs.Heap.{outcome_of, heap_after_job}
use Rattle.epoch_laws.specs.Reach.{Past, past_after, no_past}
use Rattle.epoch_laws.specs.Run.{Bag, State, Ending, Emptying, seat_of, Runs}

-- THE JOBS IN ALL BAGS

abbrev pub IsIn : Deferral → List Deferral → Type 0
IsIn job [] = ⊥
IsIn job (first ∷ jobs) = (first ≡ job) ⊎ IsIn job jobs

abbrev pub IsInBags : Deferral → List Bag → Type 0
IsInBags job [] = ⊥
IsInBags job (bag ∷ bags) = IsIn job bag.jobs ⊎ IsInBags job bags

abbrev pub IsAtEnd : Deferral → Ending → Type 0
IsAtEnd job (Emptying hand n) = IsIn job hand
IsAtEnd job _ = ⊥

-- a participant holds it, or has it in hand
abbrev pub IsAtSeat : State → Deferral → Type 0
IsAtSeat s job = (p : ℕ) × (IsIn job (seat_of s p).machine.held ⊎ IsIn job (seat_of s p).machine.hand)

-- it is held, in the store, or taken by a participant or by an end
abbrev pub IsInBag : State → Deferral → Type 0
IsInBag s job = IsAtSeat s job ⊎ IsInBags job s.queued ⊎ IsAtEnd job s.ending

-- WHAT DEFERRALS NAMED

-- the job of a bag removes a name exactly where the deferral of its ticket named it
pub record IsAsDeferred (past : Past) (job : Deferral) : Type 0 where
  pub named : (x : Name) → past.removes job.ticket x → job.removes ≡ Some x
  pub removed : (x : Name) → job.removes ≡ Some x → past.removes job.ticket x

abbrev pub AllAsDeferred : Past → State → Type 0
AllAsDeferred past s = (job : Deferral) → IsInBag s job → IsAsDeferred past job

-- a job that is called removes the name that its deferral named, or is work
pub record CallsAsDeferred (past : Past) (s : State) (entry : Entry) (new : State) : Type 0 where
  pub removal : (t : ℕ) (how : Called) (x : Name) → entry.reply ≡ CalledReply t how → past.removes t x
      → (how ≡ outcome_of s.heap (Some x)) × (new.heap ≡ heap_after_job s.heap (Some x))
  pub work : (t : ℕ) (how : Called) → entry.reply ≡ CalledReply t how → ((x : Name) → ¬ (past.removes t x))
      → (how ≡ Ran) × (new.heap ≡ s.heap)

-- each job is so, in its bag and when it is called
abbrev pub AsDeferredFrom : Past → (s : State) (log : List Entry) (new : State) → Runs s log new → Type 0
AsDeferredFrom past s [] new run = AllAsDeferred past s
AsDeferredFrom past s (entry ∷ log) new (mid, did, run) =
    AllAsDeferred past s × CallsAsDeferred past s entry mid
    × AsDeferredFrom (past_after past s entry mid) mid log new run

abbrev pub CallsWhatWasDeferred : (s : State) (log : List Entry) (new : State) → Runs s log new → Type 0
CallsWhatWasDeferred s log new run = AsDeferredFrom no_past s log new run
