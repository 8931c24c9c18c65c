-- The words of pointers: a turn, a slot and a tag.
use Rattle.std.specs.Prelude.{◌≡◌, ℕ, ◌+◌, ◌*◌, ◌/◌, ◌%◌, ◌<◌, Option, Some, None, IsSomeAnd}
use Rattle.epoch_cells.specs.declared.cells.name.Name.{Name}
use Rattle.epoch_handles.specs.declared.home.Home.{Home}
use Rattle.epoch_handles.specs.declared.local.Local.{Local}
use Rattle.epoch_atomic.specs.declared.atomic.shared.Shared.{Shared}

abbrev pub tag_in : ℕ → ℕ
tag_in word = word % 256

abbrev pub slot_in : ℕ → ℕ
slot_in word = word / 256 % 16777216

abbrev pub turn_in : ℕ → ℕ
turn_in word = word / 4294967296

-- the word of a name, or of null, and a tag
abbrev pub tagged_word : Option Name → ℕ → ℕ
tagged_word None tag = tag
tagged_word (Some name) tag = name.turn * 4294967296 + name.slot * 256 + tag

-- what a pointer's word always is: null has turn 0
abbrev pub IsPointerWord : ℕ → Type 0
IsPointerWord word = slot_in word ≡ 0 → turn_in word ≡ 0

-- this name stands in the word, or null does
abbrev pub HasName : ℕ → Option Name → Type 0
HasName word None = (slot_in word ≡ 0) × (turn_in word ≡ 0)
HasName word (Some name) = (slot_in word ≡ name.slot) × (turn_in word ≡ name.turn)

-- A pointer's word reads as this name and tag, where tags are below align.
abbrev pub Reads : (align word : ℕ) → Option Name → ℕ → Type 0
Reads align word name tag = IsPointerWord word × HasName word name × (tag ≡ tag_in word % align) × (tag < align)

-- Some pointer's word reads so.
abbrev pub IsRead : (align : ℕ) → Option Name → ℕ → Type 0
IsRead align name tag = (word : ℕ) × Reads align word name tag

-- It becomes a pointer with this name, whose tag is taken modulo the alignment.
abbrev pub BecomesBelow : (align : ℕ) → (Option Name → ℕ → Type 0) → Option Name → ℕ → Type 0
BecomesBelow align becomes name tag = (exact : ℕ) × becomes name exact × (tag ≡ exact % align) × (tag < align)

-- It is the word of a pointer that this becomes, whose tag is taken modulo the alignment.
abbrev pub BecomesWord : (align : ℕ) → (Option Name → ℕ → Type 0) → ℕ → Type 0
BecomesWord align becomes word =
    (name : Option Name) × (exact : ℕ) × becomes name exact × (word ≡ tagged_word name (exact % align))

-- Both become a pointer with one name and one tag.
abbrev pub BecomesBoth : (Option Name → ℕ → Type 0) → (Option Name → ℕ → Type 0) → Type 0
BecomesBoth one other = (name : Option Name) × (tag : ℕ) × one name tag × other name tag

-- It was got under a guard of the collector with this number.
abbrev pub IsUnder : {T : Type 0} → ℕ → Option (Home T) → Type 0
IsUnder id home = IsSomeAnd home (λ h. h.id ≡ id)

-- the pointer has this name, and was got under a guard of a collector with the number of this participant's
pub record Names {T W : Type 0} (h : Local T W) (shared : Shared T) (name : Name) : Type 0 where
  pub name_of : shared.name ≡ Some name
  pub under : IsUnder h.collector.now.id shared.home

-- both are null, or have one slot and one turn
abbrev pub SameName : Option Name → Option Name → Type 0
SameName None None = Unit {0}
SameName (Some one) (Some other) = (one.slot ≡ other.slot) × (one.turn ≡ other.turn)
SameName _ _ = ⊥
