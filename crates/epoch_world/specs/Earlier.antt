-- What is said of the steps that a world takes now together with all those that it took before them.
use Rattle.std.specs.Prelude.{ℕ, List, ◌++◌}
use Rattle.std.specs.Global.{Vec}
use Rattle.epoch_laws.specs.declared.step.Call.{Call}
use Rattle.epoch_laws.specs.declared.step.Entry.{Entry}
use Rattle.epoch_laws.specs.declared.step.Reply.{Reply}
use Rattle.epoch_laws.specs.declared.step.Step.{Step}
use Rattle.epoch_laws.specs.Calls.{call_entries}
use Rattle.epoch_laws.specs.Run.{State, IsFresh, Runs, entries_of}

-- However a new world came to the state old, this holds from the new world on of the steps that led there and those of
-- log after them.
abbrev pub AlongEarlierRuns : (old : State) (log : List Entry) → (State → List Entry → Type 0) → Type 0
AlongEarlierRuns old log Holds =
    (fresh : State) (earlier : List Entry) → IsFresh fresh → Runs fresh earlier old → Holds fresh (earlier ++ log)

-- And this holds so from each state on that the world was in before.
abbrev pub SinceEachState : (old : State) (log : List Entry) → (State → List Entry → Type 0) → Type 0
SinceEachState old log Holds = (fresh start : State) (earlier since : List Entry) → IsFresh fresh
    → Runs fresh earlier start → Runs start since old → Holds start (since ++ log)

-- AlongEarlierRuns, where the log is of steps with the replies to them
abbrev pub AlongSteps : State → List Step → (State → List Entry → Type 0) → Vec Reply → Type 0
AlongSteps old steps Holds replies = AlongEarlierRuns old (entries_of steps replies.items) Holds

-- and where it is of a participant's call, its Begin and the steps after it
abbrev pub AlongCall : State → ℕ → Call → (State → List Entry → Type 0) → Vec Reply → Type 0
AlongCall old p call Holds replies = AlongEarlierRuns old (call_entries p call replies.items) Holds
