-- What a call of an `Atomic` did to its word: the atomic steps that it made.
use Rattle.std.specs.Prelude.{◌≡◌, ℕ, zero, suc, ◌+◌, ◌%◌, ◌⊎◌, Option, Some, None, IsSome, bit_and, bit_or, bit_xor}
use Rattle.epoch_cells.specs.declared.cells.name.Name.{Name}
use Rattle.epoch_atomic.specs.Pointers.{tagged_word, IsPointerWord, Reads, BecomesWord}
use Rattle.epoch_atomic.specs.declared.atomic.owned.Owned.{Owned}
use Rattle.epoch_atomic.specs.declared.atomic.shared.Shared.{Shared}
use Rattle.epoch_atomic.specs.declared.atomic.update.TagChange.{TagChange}
use Rattle.epoch_atomic.specs.declared.atomic.update.TagChange.TheVariants.{And, Or, Xor}

-- One atomic step on the word of a pointer.
pub data WordStep : Type 0 where
  Begins : (first : ℕ) → WordStep  -- the word is made, and this stands in it
  Loads : (found : ℕ) → WordStep
  Stores : (new : ℕ) → WordStep
  Swaps : (found new : ℕ) → WordStep
  Exchanges : (found new : ℕ) → WordStep  -- the word found was the one expected
  Misses : (expected found : ℕ) → WordStep  -- another word was found, and it stays
  Ends : (last : ℕ) → WordStep  -- the word is given up, and this stood in it

-- the word that stands for a pointer, whose tag is taken modulo the alignment
abbrev pub word_for : {T : Type 0} → (align : ℕ) → Shared T → ℕ
word_for align shared = tagged_word shared.name (shared.tag % align)

-- it began with the word of this pointer
abbrev pub BeginsWith : {T : Type 0} → (align : ℕ) → (WordStep → Type 0) → Shared T → Type 0
BeginsWith align did shared = did (Begins (word_for align shared))

-- it began with the word of a name, and of this tag, which is taken modulo the alignment
abbrev pub BeginsNamed : (align : ℕ) → (WordStep → Type 0) → (tag : ℕ) → Type 0
BeginsNamed align did tag =
    (name : Option Name) × (exact : ℕ) × IsSome name × (exact ≡ tag) × did (Begins (tagged_word name (exact % align)))

-- one load found a word, and the other one began with it
abbrev pub CopiesWord : (did made : WordStep → Type 0) → Type 0
CopiesWord did made = (word : ℕ) × did (Loads word) × made (Begins word)

-- one load found a word that reads as this pointer
abbrev pub LoadsPointer : (align : ℕ) → (WordStep → Type 0) → Option Name → ℕ → Type 0
LoadsPointer align did name tag = (word : ℕ) × Reads align word name tag × did (Loads word)

-- one load found this number, and it is the word of a pointer
abbrev pub LoadsNumber : (WordStep → Type 0) → ℕ → Type 0
LoadsNumber did number = IsPointerWord number × did (Loads number)

-- one store was of the word of a pointer that this becomes
abbrev pub StoresPointer : (align : ℕ) → (WordStep → Type 0) → (Option Name → ℕ → Type 0) → Type 0
StoresPointer align did becomes = (word : ℕ) × BecomesWord align becomes word × did (Stores word)

-- one swap found a word that reads as the pointer before, and left the word of a pointer that this becomes
abbrev pub SwapsPointer : {T : Type 0} → (align : ℕ) → (WordStep → Type 0) → (Option Name → ℕ → Type 0) → Shared T
    → Type 0
SwapsPointer align did becomes before =
    (found : ℕ) × (new : ℕ) × Reads align found before.name before.tag × BecomesWord align becomes new
    × did (Swaps found new)

-- one swap found a word that reads as the pointer before, and left the word of the new one
abbrev pub SwapsWord : {T : Type 0} → (align : ℕ) → (WordStep → Type 0) → (new before : Shared T) → Type 0
SwapsWord align did new before =
    (found : ℕ) × Reads align found before.name before.tag × did (Swaps found (word_for align new))

-- one exchange found the word of the current pointer, and left that of the pointer written, whose tag is below align
abbrev pub ExchangesPointer : {T : Type 0} → (align : ℕ) → (WordStep → Type 0) → (current written : Shared T) → Type 0
ExchangesPointer align did current written =
    did (Exchanges (word_for align current) (tagged_word written.name written.tag))

-- one exchange was lost: it expected the word of the one pointer, and found one that reads as the other
abbrev pub MissesPointer : {T : Type 0} → (align : ℕ) → (WordStep → Type 0) → (current found : Shared T) → Type 0
MissesPointer align did current found =
    (word : ℕ) × Reads align word found.name found.tag × did (Misses (word_for align current) word)

-- the tag after this change, before it is taken modulo the alignment
abbrev pub changed_tag : TagChange → ℕ → ℕ
changed_tag (And bits) tag = bit_and tag bits
changed_tag (Or bits) tag = bit_or tag bits
changed_tag (Xor bits) tag = bit_xor tag bits

-- So many exchanges were lost, one after another. The first one expected this word, each other one expected what the
-- one before it found, and the last one found this word.
abbrev pub LosesEach : (WordStep → Type 0) → (first lost last : ℕ) → Type 0
LosesEach did first zero last = last ≡ first
LosesEach did first (suc lost) last = (word : ℕ) × LosesEach did first lost word × did (Misses word last)

-- A load and then lost exchanges found a word that reads as the pointer before. One more exchange left its name with
-- the changed tag. Or none did, after 2^64 - 1 lost ones.
abbrev pub ChangesTag : {T : Type 0} → (align : ℕ) → (WordStep → Type 0) → TagChange → Shared T → Type 0
ChangesTag align did change before =
    (first : ℕ) × (lost : ℕ) × (found : ℕ) × did (Loads first) × LosesEach did first lost found
    × Reads align found before.name before.tag
    × (did (Exchanges found (tagged_word before.name (changed_tag change before.tag % align)))
    ⊎ (lost ≡ 18446744073709551615))

-- The word was given up. Where a value is answered, what stood there reads as a pointer to some name, with its tag.
abbrev pub EndsOwned : {T : Type 0} → (align : ℕ) → (WordStep → Type 0) → Option (Owned T) → Type 0
EndsOwned align did None = (word : ℕ) × IsPointerWord word × did (Ends word)
EndsOwned align did (Some owned) =
    (word : ℕ) × (name : Name) × Reads align word (Some name) owned.tag × did (Ends word)
