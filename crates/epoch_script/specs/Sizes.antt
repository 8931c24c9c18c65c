-- What a command line says of how large a run of threads is.
use Rattle.std.specs.Prelude.{ℕ, ◌≤◌, List}
use Rattle.epoch_script.specs.Words.{SpellsNumber}
use Rattle.epoch_script.specs.declared.size.Size.{Size}

-- a number from 1 to 64, in decimal digits
abbrev pub SpellsFew : ℕ → List ℕ → Type 0
SpellsFew number text = SpellsNumber number text × (1 ≤ number) × (number ≤ 64)

-- how many threads there are, and how many rounds each does
abbrev pub SpellsSize : Size → List ℕ → List ℕ → Type 0
SpellsSize size threads rounds = SpellsFew size.threads threads × SpellsFew size.rounds rounds
