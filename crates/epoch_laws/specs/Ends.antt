-- What an end has done when it is told how many jobs it called.
use Rattle.std.specs.Prelude.{◌≡◌, ℕ, List, sum_by, Some, slice_get}
use Rattle.epoch_laws.specs.declared.heap.access.AccessAnswer.TheVariants.{Count}
use Rattle.epoch_laws.specs.declared.step.Entry.{Entry}
use Rattle.epoch_laws.specs.declared.step.Reply.{Reply}
use Rattle.epoch_laws.specs.declared.step.Reply.TheVariants.{Called, Done}
use Rattle.epoch_laws.specs.declared.step.Step.{Step}
use Rattle.epoch_laws.specs.declared.step.Step.TheVariants.{EndGo}
use Rattle.epoch_laws.specs.Tickets.{times_called, times_deferred}

abbrev pub is_call_at_end : Step → Reply → ℕ
is_call_at_end EndGo (Called t how) = 1
is_call_at_end _ _ = 0

-- how many jobs the steps of an end called
abbrev pub calls_at_end : List Entry → ℕ
calls_at_end log = sum_by (λ entry. is_call_at_end entry.step entry.reply) log

-- a step of an end was told that it is over, and this number
abbrev pub TellsCount : List Entry → ℕ → Type 0
TellsCount log n = (i : ℕ) × (slice_get log i ≡ Some (record { step = EndGo; reply = Done (Count n) }))

-- The end called so many jobs, and with them every accepted job is called.
pub record HasCalledAll (log : List Entry) (n : ℕ) : Type 0 where
  pub counted : n ≡ calls_at_end log
  pub called : (t : ℕ) → times_called t log ≡ times_deferred t log

-- an end that is told a number has called so many jobs, and none is left
abbrev pub EndsAtCount : List Entry → Type 0
EndsAtCount log = (n : ℕ) → TellsCount log n → HasCalledAll log n
