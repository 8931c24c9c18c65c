-- What is in reach, what a participant has loaded, what is destroyed, and how cells have to leave.
use Rattle.std.specs.Prelude.{◌≡◌, ◌≢◌, ℕ, List, [], ◌∷◌, Option, Some, ◌⊎◌}
use Rattle.epoch_cells.specs.declared.cells.name.Name.{Name}
use Rattle.epoch_bags.specs.declared.job.Called.TheVariants.{Destroyed}
use Rattle.epoch_laws.specs.declared.heap.access.Ptr.{Ptr}
use Rattle.epoch_laws.specs.declared.heap.access.Spot.{Spot}
use Rattle.epoch_laws.specs.declared.heap.access.Spot.TheVariants.{Root, Field}
use Rattle.epoch_laws.specs.declared.heap.access.Change.{Change}
use Rattle.epoch_laws.specs.declared.heap.access.Access.TheVariants.{Take, Point}
use Rattle.epoch_laws.specs.declared.heap.access.AccessAnswer.TheVariants.{Value}
use Rattle.epoch_laws.specs.declared.step.Call.TheVariants.{Unpin, Pause, DeferDestroy}
use Rattle.epoch_laws.specs.declared.step.Step.TheVariants.{Begin, Go}
use Rattle.epoch_laws.specs.declared.step.Reply.TheVariants.{Began, Repinned, Deferred, Called, CalledNow, Done}
use Rattle.epoch_laws.specs.declared.step.Entry.{Entry}
use Rattle.epoch_laws.specs.declared.step.Word.TheVariants.{Free}
use Rattle.epoch_laws.specs.declared.step.Progress.TheVariants.{Driven, CallsNow, Accesses, Ends}
use Rattle.epoch_laws.specs.Heap.{Heap, pointer_at}
use Rattle.epoch_laws.specs.Run.{State, seat_of, position_word, Runs}

-- REACH

-- the pointer in a root, or in a field of a name, names x
abbrev pub Leads : Heap → Spot → Name → Type 0
Leads h spot x = (ptr : Ptr) × (pointer_at h spot ≡ Some ptr) × (ptr.name ≡ Some x)

-- a path of pointers leads to the name from a root
pub data IsReachable (h : Heap) : Name → Type 0 where
  from_root : (i : ℕ) (x : Name) → Leads h (Root i) x → IsReachable h x
  from_field : (y : Name) (f : ℕ) (x : Name) → IsReachable h y → Leads h (Field y f) x → IsReachable h x

-- WHAT A STEP IS

-- a pointer step of p at this spot, under this guard
pub record Points (s : State) (entry : Entry) (p : ℕ) (g : Option ℕ) (spot : Spot) : Type 0 where
  pub step : entry.step ≡ Go p
  pub taken : position_word s p ≢ Free
  pub change : Change
  pub steps : ℕ
  pub found : Ptr
  pub progress : (seat_of s p).progress ≡ Accesses (Point g spot change) steps found

-- the removal of the name is deferred under this ticket
pub record DefersRemoval (s : State) (entry : Entry) (t : ℕ) (x : Name) : Type 0 where
  pub who : ℕ
  pub step : entry.step ≡ Go who
  pub reply : entry.reply ≡ Deferred t
  pub guard : Option ℕ
  pub pointer : Ptr
  pub name : pointer.name ≡ Some x
  pub progress : (seat_of s who).progress ≡ Driven (DeferDestroy guard pointer)

-- the name's value is taken out
pub record TakesOut (s : State) (entry : Entry) (new : State) (x : Name) : Type 0 where
  pub who : ℕ
  pub step : entry.step ≡ Go who
  pub guard : Option ℕ
  pub pointer : Ptr
  pub name : pointer.name ≡ Some x
  pub steps : ℕ
  pub found : Ptr
  pub progress : (seat_of s who).progress ≡ Accesses (Take guard pointer) steps found
  pub value : ℕ
  pub answer : (seat_of new who).progress ≡ Ends (Done (Value value))

-- the name's cell is removed at once
pub record RemovesNow (s : State) (entry : Entry) (x : Name) : Type 0 where
  pub who : ℕ
  pub step : entry.step ≡ Go who
  pub reply : entry.reply ≡ CalledNow Destroyed
  pub progress : (seat_of s who).progress ≡ CallsNow (Some x)

-- WHAT A RUN HAS DONE

pub record Past : Type 1 where
  pub loaded : ℕ → ℕ → Name → Type 0  -- what a participant has loaded under a guard that it holds still
  pub destroyed : Name → Type 0
  pub removes : ℕ → Name → Type 0  -- the ticket is that of the name's removal
  pub left : Name → Type 0
  pub reached : Name → Type 0  -- was in reach once

-- what p has loaded under g is let go
abbrev pub LetsGo : Entry → ℕ → ℕ → Type 0
LetsGo entry p g =
    (((entry.step ≡ Begin p (Unpin (Some g))) ⊎ (entry.step ≡ Begin p (Pause (Some g)))) × (entry.reply ≡ Began))
    ⊎ (entry.reply ≡ Repinned p)

-- a root, or a field of a name that was loaded
abbrev pub IsLoadedFrom : (Name → Type 0) → Spot → Type 0
IsLoadedFrom loaded (Root i) = Unit {0}
IsLoadedFrom loaded (Field y f) = loaded y

-- a pointer step of p under g finds the name, or leaves it, in a root or a field of a name so loaded
pub record Meets (loaded : Name → Type 0) (s : State) (entry : Entry) (new : State) (p g : ℕ) (x : Name) : Type 0 where
  pub spot : Spot
  pub points : Points s entry p (Some g) spot
  pub within : IsLoadedFrom loaded spot
  pub named : Leads s.heap spot x ⊎ Leads new.heap spot x

abbrev pub CallsRemoval : Past → Entry → Name → Type 0
CallsRemoval past entry x = (t : ℕ) × past.removes t x × (entry.reply ≡ Called t Destroyed)

abbrev pub past_after : Past → State → Entry → State → Past
past_after past s entry new = record {
  loaded = λ p g x. (¬ (LetsGo entry p g)) × (past.loaded p g x ⊎ Meets (past.loaded p g) s entry new p g x);
  destroyed = λ x. past.destroyed x ⊎ CallsRemoval past entry x ⊎ TakesOut s entry new x ⊎ RemovesNow s entry x;
  removes = λ t x. past.removes t x ⊎ DefersRemoval s entry t x;
  left = λ x. past.left x ⊎ ((t : ℕ) × DefersRemoval s entry t x) ⊎ TakesOut s entry new x;
  reached = λ x. past.reached x ⊎ IsReachable new.heap x;
}

abbrev pub no_past : Past
no_past = record {
  loaded = λ p g x. ⊥;
  destroyed = λ x. ⊥;
  removes = λ t x. ⊥;
  left = λ x. ⊥;
  reached = λ x. ⊥;
}

abbrev pub past_from : Past → (s : State) (log : List Entry) (new : State) → Runs s log new → Past
past_from past s [] new run = past
past_from past s (entry ∷ log) new (mid, did, run) = past_from (past_after past s entry mid) mid log new run

abbrev pub past_of : (s : State) (log : List Entry) (new : State) → Runs s log new → Past
past_of s log new run = past_from no_past s log new run

-- HOW CELLS HAVE TO LEAVE

-- no pointer step changes a field of a name that was in reach once and is out of reach now
abbrev pub IsFrozen : Past → State → Entry → State → Type 0
IsFrozen past s entry new = (p : ℕ) (g : Option ℕ) (y : Name) (f : ℕ) → Points s entry p g (Field y f)
    → pointer_at s.heap (Field y f) ≢ pointer_at new.heap (Field y f) → past.reached y
    → ¬ (¬ (IsReachable s.heap y))

-- A name leaves at most once: by a removal that is deferred, which only a protecting guard does, or by a Take of what
-- was never in reach, and by no removal at once. From then on it is out of reach. No pointer step changes a field of a
-- name that was in reach once and is out of reach now.
pub record LeavesRightly (past : Past) (s : State) (entry : Entry) (new : State) : Type 0 where
  pub deferred_once : (t : ℕ) (x : Name) → DefersRemoval s entry t x → ¬ (past.left x)
  pub taken_once : (x : Name) → TakesOut s entry new x → ¬ (past.left x)
  pub taken_unreached : (x : Name) → TakesOut s entry new x → ¬ (past.reached x)
  pub never_now : (x : Name) → ¬ (RemovesNow s entry x)
  pub out : (x : Name) → (past_after past s entry new).left x → ¬ (IsReachable new.heap x)
  pub frozen : IsFrozen past s entry new

-- each step of a run does so
abbrev pub LeavesFrom : Past → (s : State) (log : List Entry) (new : State) → Runs s log new → Type 0
LeavesFrom past s [] new run = Unit {0}
LeavesFrom past s (entry ∷ log) new (mid, did, run) =
    LeavesRightly past s entry mid × LeavesFrom (past_after past s entry mid) mid log new run

-- Each cell leaves at most once, and out of reach, and its fields stay as they are from then on.
abbrev pub LeavesOnce : (s : State) (log : List Entry) (new : State) → Runs s log new → Type 0
LeavesOnce s log new run = LeavesFrom no_past s log new run

-- no name that is loaded under a guard still held is destroyed
abbrev pub KeepsLoaded : Past → Type 0
KeepsLoaded past = (p g : ℕ) (x : Name) → past.loaded p g x → ¬ (past.destroyed x)

-- some name is loaded under a guard still held, and destroyed
abbrev pub LosesLoaded : Past → Type 0
LosesLoaded past = (p : ℕ) × (g : ℕ) × (x : Name) × past.loaded p g x × past.destroyed x
