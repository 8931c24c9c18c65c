use Rattle.epoch_run.specs.declared.runs.ThreadRun.TheVariants.{Threads, Stack, Queue}
use Rattle.epoch_run.proofs.runs.read_run.Goals as goal

-- a run of each kind has a size
pub returns-in_default-2 : goal.returns-in_default-2
returns-in_default-2 c (Threads size) says = (rw c.in_default.is at c.read_size.ensures) size says.1
returns-in_default-2 c (Stack size) says = (rw c.in_default.is at c.read_size.ensures) size says.1
returns-in_default-2 c (Queue size) says = (rw c.in_default.is at c.read_size.ensures) size says.1
