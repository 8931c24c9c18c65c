-- What the words of a command line ask for.
use Rattle.std.specs.Prelude.{◌≡◌, ℕ, List, codes}
use Rattle.epoch_script.specs.Sizes.{SpellsSize}
use Rattle.epoch_run.specs.declared.runs.ThreadRun.{ThreadRun}
use Rattle.epoch_run.specs.declared.runs.ThreadRun.TheVariants.{Threads, Stack, Queue}

-- the word threads, stack or queue, and then how many threads there are and how many rounds each does
abbrev pub SpellsRun : ThreadRun → List ℕ → List ℕ → List ℕ → Type 0
SpellsRun (Threads size) form threads rounds = (form ≡ codes "threads") × SpellsSize size threads rounds
SpellsRun (Stack size) form threads rounds = (form ≡ codes "stack") × SpellsSize size threads rounds
SpellsRun (Queue size) form threads rounds = (form ≡ codes "queue") × SpellsSize size threads rounds
