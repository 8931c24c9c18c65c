-- What is in, and what is met: by these alone cells leave well, whatever else leads to them.
use Rattle.std.specs.Prelude.{◌≡◌, ℕ, Bool, IsTrue, List, [], ◌∷◌, Some, ◌⊎◌}
use Rattle.epoch_cells.specs.declared.cells.name.Name.{Name}
use Rattle.epoch_laws.specs.declared.heap.access.Spot.{Spot}
use Rattle.epoch_laws.specs.declared.step.Entry.{Entry}
use Rattle.epoch_laws.specs.declared.step.Reply.{Reply}
use Rattle.epoch_laws.specs.declared.step.Reply.TheVariants.{Pinned, Repinned}
use Rattle.epoch_laws.specs.Run.{State, Runs}
use Rattle.epoch_laws.specs.Reach.{IsReachable, Past, no_past, Points, LetsGo, CallsRemoval, TakesOut, RemovesNow}
use Rattle.epoch_laws.specs.Reach.{DefersRemoval, Meets}

-- WHAT A STRUCTURE SAYS OF ITS OWN

-- Which names are in, and which name a participant's pointer step meets under a guard, where it has met these under
-- that guard before. A name can be in reach by pointers and not be in: then no call meets it by them.
pub record Usage : Type 1 where
  pub In : State → Name → Type 0
  pub Met : (earlier : Name → Type 0) → State → Entry → State → (p g : ℕ) → Name → Type 0

-- what is in, and what is met, together
abbrev pub usage : (State → Name → Type 0)
    → ((Name → Type 0) → State → Entry → State → ℕ → ℕ → Name → Type 0) → Usage
usage is_in met = record { In = is_in; Met = met }

-- The same by two tests. A clause can range over these.
pub record UsageTests : Type 0 where
  pub is_in : State → Name → Bool
  pub is_met : State → Entry → State → (p g : ℕ) → Name → Bool

-- what two tests say
abbrev pub tested : UsageTests → Usage
tested tests = record {
  In = λ s x. IsTrue (tests.is_in s x);
  Met = λ earlier s entry new p g x. IsTrue (tests.is_met s entry new p g x);
}

-- Where calls follow every field, what is in reach is in, and what is met is what they find or leave.
abbrev pub follows_all : Usage
follows_all = record {
  In = λ s x. IsReachable s.heap x;
  Met = λ earlier s entry new p g x. Meets earlier s entry new p g x;
}

-- WHAT A RUN HAS DONE

-- In this past, loaded is what was met, and reached is what was in once.
pub record MetPast : Type 1 where
  pub past : Past
  pub recent : ℕ → Name → Type 0  -- what was in at some moment since a participant published last

-- the participant publishes
abbrev pub PinsAnew : Reply → ℕ → Type 0
PinsAnew reply p = (reply ≡ Pinned p) ⊎ (reply ≡ Repinned p)

-- What is in after a step is recent, and so is what was recent, unless the participant publishes.
abbrev pub recent_after : Usage → MetPast → Entry → State → ℕ → Name → Type 0
recent_after uses met entry new p x = ((¬ (PinsAnew entry.reply p)) × met.recent p x) ⊎ uses.In new x

-- the past after one more step
abbrev pub met_past_after : Usage → MetPast → State → Entry → State → MetPast
met_past_after uses met s entry new = record {
  past = record {
    loaded = λ p g x. (¬ (LetsGo entry p g))
        × (met.past.loaded p g x ⊎ uses.Met (met.past.loaded p g) s entry new p g x);
    destroyed = λ x. met.past.destroyed x ⊎ CallsRemoval met.past entry x ⊎ TakesOut s entry new x
        ⊎ RemovesNow s entry x;
    removes = λ ticket x. met.past.removes ticket x ⊎ DefersRemoval s entry ticket x;
    left = λ x. met.past.left x ⊎ ((ticket : ℕ) × DefersRemoval s entry ticket x) ⊎ TakesOut s entry new x;
    reached = λ x. met.past.reached x ⊎ uses.In new x;
  };
  recent = recent_after uses met entry new;
}

-- before the first step nothing is met, and what is in is recent
abbrev pub no_met_past : Usage → State → MetPast
no_met_past uses s = record { past = record no_past { reached = uses.In s }; recent = λ p x. uses.In s x }

-- and after these steps
abbrev pub met_past_from : Usage → MetPast → (s : State) (log : List Entry) (new : State) → Runs s log new → MetPast
met_past_from uses met s [] new run = met
met_past_from uses met s (entry ∷ log) new (mid, did, run) =
    met_past_from uses (met_past_after uses met s entry mid) mid log new run

-- the past of a whole run
abbrev pub met_past_of : Usage → (s : State) (log : List Entry) (new : State) → Runs s log new → Past
met_past_of uses s log new run = (met_past_from uses (no_met_past uses s) s log new run).past

-- HOW CELLS HAVE TO LEAVE

-- A name that is met is met by a pointer step under the guard. It was in at some moment since the participant
-- published, or is in after the step.
pub record MeetsRecent (uses : Usage) (met : MetPast) (s : State) (entry : Entry) (new : State) (p g : ℕ)
    (x : Name) : Type 0 where
  pub spot : Spot
  pub points : Points s entry p (Some g) spot
  pub recent : ¬ (¬ (met.recent p x ⊎ uses.In new x))

-- A name leaves by a removal that is deferred, or by a Take of what was never in, and by no removal at once. From then
-- on it is not in. Each name that is met, under a guard that isn't let go, was in at some moment since the participant
-- published.
pub record LeavesOut (uses : Usage) (met : MetPast) (s : State) (entry : Entry) (new : State) : Type 0 where
  pub taken_unmet : (x : Name) → TakesOut s entry new x → ¬ (met.past.reached x)
  pub never_now : (x : Name) → ¬ (RemovesNow s entry x)
  pub out : (x : Name) → (met_past_after uses met s entry new).past.left x → ¬ (uses.In new x)
  pub meets : (p g : ℕ) (x : Name) → ¬ (LetsGo entry p g) → uses.Met (met.past.loaded p g) s entry new p g x
      → MeetsRecent uses met s entry new p g x

-- each step of a run does so
abbrev pub LeavesOutFrom : (uses : Usage) → MetPast → (s : State) (log : List Entry) (new : State) → Runs s log new
    → Type 0
LeavesOutFrom uses met s [] new run = Unit {0}
LeavesOutFrom uses met s (entry ∷ log) new (mid, did, run) =
    LeavesOut uses met s entry mid × LeavesOutFrom uses (met_past_after uses met s entry mid) mid log new run

-- From the run's beginning on, each name that has left is not in, and each that is met was in since the participant
-- published.
abbrev pub LeavesWell : (uses : Usage) → (s : State) (log : List Entry) (new : State) → Runs s log new → Type 0
LeavesWell uses s log new run = LeavesOutFrom uses (no_met_past uses s) s log new run
