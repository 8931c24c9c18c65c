-- What an update does: its load, its exchanges, and the calls of its function.
use Rattle.std.specs.Prelude.{◌≡◌, ℕ, zero, suc, ◌<◌, Option, Some, None}
use Rattle.epoch_atomic.specs.Pointers.{Reads, IsUnder}
use Rattle.epoch_atomic.specs.WordSteps.{WordStep, word_for}
use Rattle.epoch_atomic.specs.WordSteps.WordStep.{Loads, Exchanges, Misses}
use Rattle.epoch_atomic.specs.declared.atomic.shared.Shared.{Shared}
use Rattle.epoch_atomic.specs.declared.atomic.update.UpdateFault.{UpdateFault}
use Rattle.epoch_atomic.specs.declared.atomic.update.UpdateFault.TheVariants.{Stopped, RanOut}

-- the pointer that an update ended with
abbrev pub pointer_of : {T : Type 0} → UpdateFault T → Shared T
pointer_of (Stopped before) = before
pointer_of (RanOut seen) = seen

-- the word reads as this pointer, which is of the collector with this number
abbrev pub ReadsUnder : {T : Type 0} → (align id word : ℕ) → Shared T → Type 0
ReadsUnder align id word shared = Reads align word shared.name shared.tag × IsUnder id shared.home

-- of the alignment, the collector's number, the steps made on the word, and the function's calls
module _ {F T : Type 0} (align id : ℕ) (did : WordStep → Type 0)
    (step : F → Shared T → Option (Shared T) → F → Type 0) where
  -- So many tries were lost, one after another, and took the function from f to g, and the word from the first one to
  -- the last one that was found. Each try called the function on the pointer that the word before it reads as, was
  -- answered by some pointer, and lost its exchange, which expected that word.
  abbrev pub LosesTries : F → (first lost : ℕ) → F → (last : ℕ) → Type 0
  LosesTries f first zero g last = (g ≡ f) × (last ≡ first)
  LosesTries f first (suc lost) g last = (h : F) × (word : ℕ) × (x : Shared T) × (next : Shared T)
      × LosesTries f first lost h word × ReadsUnder align id word x × step h x (Some next) g × did (Misses word last)

  -- A load and then fewer lost tries than these left the function as g, and found a word that reads as this pointer.
  abbrev pub ComesTo : F → (tries : ℕ) → F → (word : ℕ) → Shared T → Type 0
  ComesTo f tries g word before = (first : ℕ) × (lost : ℕ) × did (Loads first) × (lost < tries)
      × LosesTries f first lost g word × ReadsUnder align id word before

  -- The last of at most so many tries called the function on this pointer, was answered by some pointer, for which it
  -- exchanged this one, and left the function as h.
  abbrev pub WinsLast : F → (tries : ℕ) → Shared T → F → Type 0
  WinsLast f tries before h = (g : F) × (word : ℕ) × (next : Shared T) × ComesTo f tries g word before
      × step g before (Some next) h × did (Exchanges word (word_for align next))

  -- An update that isn't made was stopped by its function, whose last call was answered by none; or each of its tries
  -- was lost, and this pointer was found last. It left the function as h.
  abbrev pub EndsUnmade : F → (tries : ℕ) → UpdateFault T → F → Type 0
  EndsUnmade f tries (Stopped before) h = (g : F) × (word : ℕ) × ComesTo f tries g word before × step g before None h
  EndsUnmade f tries (RanOut seen) h = (first : ℕ) × (last : ℕ) × did (Loads first)
      × LosesTries f first tries h last × ReadsUnder align id last seen
