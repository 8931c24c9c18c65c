-- How an exchange that isn't made may end.
use Rattle.std.specs.Prelude.{◌≢◌, ℕ, ◌%◌}
use Rattle.epoch_atomic.specs.Pointers.{tagged_word, Reads, IsUnder}
use Rattle.epoch_atomic.specs.declared.atomic.shared.Shared.{Shared}
use Rattle.epoch_atomic.specs.declared.atomic.exchange.ExchangeFault.{ExchangeFault}
use Rattle.epoch_atomic.specs.declared.atomic.exchange.ExchangeFault.TheVariants.{Changed, Full, Stuck}

-- where another pointer was found, this is so of it and of what is handed back
abbrev pub OnChanged : {T P : Type 0} → ExchangeFault T P → (Shared T → P → Type 0) → Type 0
OnChanged (Changed lost) P = P lost.current lost.new
OnChanged _ P = Unit {0}

-- where the cells are full, this is so of what is handed back
abbrev pub OnFull : {T P : Type 0} → ExchangeFault T P → (P → Type 0) → Type 0
OnFull (Full back) P = P back
OnFull _ P = Unit {0}

-- where the value couldn't be taken back, this is so of the pointer to it
abbrev pub OnStuck : {T P : Type 0} → ExchangeFault T P → (Shared T → Type 0) → Type 0
OnStuck (Stuck pointer) P = P pointer
OnStuck _ P = Unit {0}

-- The pointer found is what a word reads as that isn't the word of the current one.
abbrev pub FindsAnother : {T : Type 0} (align : ℕ) (current found : Shared T) → Type 0
FindsAnother align current found =
    (word : ℕ) × (word ≢ tagged_word current.name (current.tag % align)) × Reads align word found.name found.tag

-- The pointer found, or the one to the value that is stuck, was got under a guard of the collector with this number.
abbrev pub AnswersUnder : {T P : Type 0} → ℕ → ExchangeFault T P → Type 0
AnswersUnder id (Changed lost) = IsUnder id lost.current.home
AnswersUnder id (Full back) = Unit {0}
AnswersUnder id (Stuck pointer) = IsUnder id pointer.home
