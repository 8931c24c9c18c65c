-- Steps that a world takes, and that are written down after a list.
use Rattle.std.specs.Prelude.{◌≡◌, ℕ, List, [], ◌∷◌, ◌++◌, map}
use Rattle.epoch_laws.specs.declared.step.Call.{Call}
use Rattle.epoch_laws.specs.declared.step.Entry.{Entry}
use Rattle.epoch_laws.specs.declared.step.Reply.{Reply}
use Rattle.epoch_laws.specs.declared.step.Step.{Step}
use Rattle.epoch_laws.specs.Calls.{call_entries}
use Rattle.epoch_laws.specs.Run.{State, TakesStep}
use Rattle.epoch_laws.specs.Sharp.{EndsCall}

-- a step
pub record ListsStep (step : Step) (old : State) (before : List Step) (new : State) (after : List Step) : Type 0 where
  pub reply : Reply
  pub took : TakesStep old step reply new
  pub listed : after ≡ before ++ step ∷ []

-- the steps of a call that p begins and ends
pub record ListsCall (p : ℕ) (c : Call) (old : State) (before : List Step) (new : State)
    (after : List Step) : Type 0 where
  pub replies : List Reply
  pub ends : EndsCall p c old replies new
  pub listed : after ≡ before ++ map (λ (entry : Entry). entry.step) (call_entries p c replies)
