-- How scripts and runs end, and what tells of it.
use Rattle.std.specs.Prelude.{◌≡◌, ◌≢◌, ℕ}
use Rattle.std.specs.declared.io.ErrorKind.{ErrorKind}
use Rattle.std.specs.declared.io.ErrorKind.TheVariants.{OutOfMemory}
use Rattle.epoch_script.specs.declared.script.Ending.{Ending}
use Rattle.epoch_script.specs.declared.script.Ending.TheVariants.{Finished, NotUnderstood, NotAShape, NotAStep}
use Rattle.epoch_script.specs.declared.script.Ending.TheVariants.{StreamFailed, NoMemory, Refused}

-- the exit status
abbrev pub status_of : Ending → ℕ
status_of Finished = 0
status_of NotUnderstood = 2
status_of (NotAShape line) = 2
status_of (NotAStep line) = 2
status_of StreamFailed = 3
status_of NoMemory = 4
status_of Refused = 4

-- a stream's error is want of memory where it says so, and else a failure of the stream
pub record TellsOf (kind : ErrorKind) (ending : Ending) : Type 0 where
  pub memory : kind ≡ OutOfMemory → ending ≡ NoMemory
  pub stream : kind ≢ OutOfMemory → ending ≡ StreamFailed
