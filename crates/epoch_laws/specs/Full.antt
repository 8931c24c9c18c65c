-- What is said of whole runs: a call is told that the bags are full exactly where its put found each place occupied.
use Rattle.std.specs.Prelude.{◌≡◌, ◌≢◌, ℕ, ◌<◌, ◌≤◌, true, List, [], ◌∷◌, length, Option, Some, ◌⊎◌, slice_get}
use Rattle.epoch_cells.specs.declared.fault.Fault.TheVariants.{BagsFull}
use Rattle.epoch_machine.specs.declared.machine.Ask.{Ask}
use Rattle.epoch_machine.specs.declared.machine.Ask.TheVariants.{PutBag}
use Rattle.epoch_laws.specs.declared.step.Step.{Step}
use Rattle.epoch_laws.specs.declared.step.Step.TheVariants.{Begin, Go}
use Rattle.epoch_laws.specs.declared.step.Reply.{Reply}
use Rattle.epoch_laws.specs.declared.step.Reply.TheVariants.{Began, Done, Refused}
use Rattle.epoch_laws.specs.declared.step.Entry.{Entry}
use Rattle.epoch_laws.specs.Run.{State, Runs, seat_of, turn_of, seen_by}

abbrev pub IsOfPut : Option Ask → Type 0
IsOfPut (Some (PutBag seal)) = Unit {0}
IsOfPut _ = ⊥

-- The step of q from s to new is one of its put. It looks at the place k, which is occupied, and doesn't put the bag.
pub record FindsOccupied (s new : State) (q k : ℕ) : Type 0 where
  pub puts : IsOfPut (turn_of (seat_of s q))
  pub looked : (seen_by s q ≤ k) × (k < seen_by new q)
  pub occupied : slice_get s.places k ≡ Some true
  pub not_put : new.queued ≡ s.queued

-- which places p has found occupied since its call began, after one more step; found says which before it
abbrev pub found_after : (ℕ → ℕ → Type 0) → State → Step → Reply → State → ℕ → ℕ → Type 0
found_after found s (Begin q c) Began new p k = (p ≢ q) × found p k
found_after found s (Go q) reply new p k = found p k ⊎ ((p ≡ q) × FindsOccupied s new q k)
found_after found s _ reply new p k = found p k

-- each of so many places is found
abbrev pub FoundEach : (ℕ → Type 0) → ℕ → Type 0
FoundEach found count = (k : ℕ) → k < count → found k

-- A Go that ends a call of p tells that the bags are full where p has found each place, and else that the call is done.
-- A store has some place.
abbrev pub TellsFull : (ℕ → ℕ → Type 0) → State → Step → Reply → Type 0
TellsFull found s (Go p) (Refused BagsFull) = FoundEach (found p) (length s.places)
TellsFull found s (Go p) (Done answer) = 0 < length s.places → ¬ (FoundEach (found p) (length s.places))
TellsFull found s _ reply = Unit {0}

abbrev pub FullAlong : (ℕ → ℕ → Type 0) → (s new : State) (log : List Entry) → Runs s log new → Type 0
FullAlong found s new [] run = Unit {0}
FullAlong found s new (x ∷ log) (mid, did, run) =
    TellsFull found s x.step x.reply × FullAlong (found_after found s x.step x.reply mid) mid new log run

-- at the start of a run nothing is found
abbrev pub none_found : ℕ → ℕ → Type 0
none_found p k = ⊥

-- However the world goes by this log from s to new, each call is told that the bags are full exactly where its put has
-- found each place occupied.
abbrev pub FullWhereFound : (s : State) (log : List Entry) (new : State) → Type 0
FullWhereFound s log new = (run : Runs s log new) → FullAlong none_found s new log run
