-- What is said of whole runs: a call that is refused leaves all as it was when it began, but for what is said here.
use Rattle.std.specs.Prelude.{◌≡◌, ◌≢◌, ℕ, List, [], ◌∷◌, ◌==◌, Option, Some, ◌⊎◌, if◌then◌else◌}
use Rattle.epoch_cells.specs.declared.fault.Fault.TheVariants.{CellsFull, BagsFull}
use Rattle.epoch_machine.specs.declared.machine.Ask.{Ask}
use Rattle.epoch_machine.specs.declared.machine.Ask.TheVariants.{TakeBag, CallJob}
use Rattle.epoch_laws.specs.declared.heap.access.Access.TheVariants.{Place}
use Rattle.epoch_laws.specs.declared.step.Call.TheVariants.{Defer, Flush, Release, DeferDestroy}
use Rattle.epoch_laws.specs.declared.step.Entry.{Entry}
use Rattle.epoch_laws.specs.declared.step.Progress.{Progress}
use Rattle.epoch_laws.specs.declared.step.Progress.TheVariants.{Driven, Accesses}
use Rattle.epoch_laws.specs.declared.step.Reply.{Reply}
use Rattle.epoch_laws.specs.declared.step.Reply.TheVariants.{Began, Refused}
use Rattle.epoch_laws.specs.declared.step.Step.{Step}
use Rattle.epoch_laws.specs.declared.step.Step.TheVariants.{Begin, Go, EndGo}
use Rattle.epoch_laws.specs.declared.step.Word.TheVariants.{Unpinned}
use Rattle.epoch_laws.specs.Run.{WorldSeat, State, Runs, seat_of, turn_of}

-- SINCE A CALL BEGAN

-- each participant as it was before its call began
abbrev pub before_after : (ℕ → WorldSeat) → State → Step → Reply → ℕ → WorldSeat
before_after before s (Begin p c) Began q = if p == q then seat_of s p else before q
before_after before s _ reply q = before q

-- A step of p leaves the epoch, the bags in the store, the tickets, the cells and pointers, and all other participants
-- as they were.
pub record LeavesRest (s : State) (p : ℕ) (new : State) : Type 0 where
  pub epoch : new.epoch ≡ s.epoch
  pub bags : new.queued ≡ s.queued
  pub tickets : new.tickets ≡ s.tickets
  pub heap : new.heap ≡ s.heap
  pub others : (q : ℕ) → q ≢ p → seat_of new q ≡ seat_of s q

-- each step of the call of q has left them so since the call began; quiet says it up to this step
abbrev pub quiet_after : (ℕ → Type 0) → State → Step → Reply → State → ℕ → Type 0
quiet_after quiet s (Begin p c) Began new q = q ≢ p → quiet q
quiet_after quiet s (Go p) reply new q = quiet q × (q ≡ p → LeavesRest s p new)
quiet_after quiet s _ reply new q = quiet q

-- a step that looks for a bag to collect, or calls a job of one
abbrev pub IsOfCollection : Option Ask → Type 0
IsOfCollection (Some (TakeBag x)) = Unit {0}
IsOfCollection (Some CallJob) = Unit {0}
IsOfCollection _ = ⊥

-- a step of the call of q, since it began, was one of a collection
abbrev pub collected_after : (ℕ → Type 0) → State → Step → Reply → ℕ → Type 0
collected_after collected s (Begin p c) Began q = (q ≢ p) × collected q
collected_after collected s (Go p) reply q = collected q ⊎ ((q ≡ p) × IsOfCollection (turn_of (seat_of s p)))
collected_after collected s _ reply q = collected q

-- WHAT A REFUSED CALL LEAVES

-- The guards, the paused one, the readings and the held bag are those before.
pub record KeepsBag (before after : WorldSeat) : Type 0 where
  pub guards : after.guards ≡ before.guards
  pub paused : after.paused ≡ before.paused
  pub readings : after.readings ≡ before.readings
  pub held : after.machine.held ≡ before.machine.held

-- A deferral changes nothing. A flush has collected. A release has pinned, may have collected, and unpinned; its word
-- says so. No other call is told that the bags are full.
abbrev pub LeavesUnput : (quiet collected : Type 0) → Progress → (before after : WorldSeat) → Type 0
LeavesUnput quiet collected (Driven (Defer g)) before after = quiet × (after.word ≡ before.word) × KeepsBag before after
LeavesUnput quiet collected (Driven (DeferDestroy g ptr)) before after =
    quiet × (after.word ≡ before.word) × KeepsBag before after
LeavesUnput quiet collected (Driven (Flush g)) before after =
    collected × (after.word ≡ before.word) × KeepsBag before after
LeavesUnput quiet collected (Driven Release) before after = (after.word ≡ Unpinned) × KeepsBag before after
LeavesUnput quiet collected _ before after = ⊥

-- A place changes nothing, and no other call is told that no cell is free.
abbrev pub LeavesUnplaced : (quiet : Type 0) → Progress → (before after : WorldSeat) → Type 0
LeavesUnplaced quiet (Accesses (Place v) k found) before after = quiet × (after ≡ before)
LeavesUnplaced quiet _ before after = ⊥

-- a Begin, a Register or an End that is refused changes nothing at all
abbrev pub LeavesAtRefusal : (ℕ → WorldSeat) → (quiet collected : ℕ → Type 0) → State → Step → Reply → State → Type 0
LeavesAtRefusal before quiet collected s (Go p) (Refused BagsFull) new =
    LeavesUnput (quiet_after quiet s (Go p) (Refused BagsFull) new p) (collected p) (seat_of s p).progress
    (before p) (seat_of new p)
LeavesAtRefusal before quiet collected s (Go p) (Refused CellsFull) new =
    LeavesUnplaced (quiet_after quiet s (Go p) (Refused CellsFull) new p) (seat_of s p).progress (before p)
    (seat_of new p)
LeavesAtRefusal before quiet collected s (Go p) reply new = Unit {0}
LeavesAtRefusal before quiet collected s EndGo reply new = Unit {0}
LeavesAtRefusal before quiet collected s step (Refused fault) new = new ≡ s
LeavesAtRefusal before quiet collected s step reply new = Unit {0}

-- WHOLE RUNS

abbrev pub RefusedAlong : (ℕ → WorldSeat) → (quiet collected : ℕ → Type 0) → (s new : State) (log : List Entry)
    → Runs s log new → Type 0
RefusedAlong before quiet collected s new [] run = Unit {0}
RefusedAlong before quiet collected s new (x ∷ log) (mid, did, run) =
    LeavesAtRefusal before quiet collected s x.step x.reply mid
    × RefusedAlong (before_after before s x.step x.reply) (quiet_after quiet s x.step x.reply mid)
    (collected_after collected s x.step x.reply) mid new log run

-- at the start of a run no call is under way
abbrev pub all_quiet : ℕ → Type 0
all_quiet p = Unit {0}

abbrev pub none_collected : ℕ → Type 0
none_collected p = ⊥
