-- The words of a line: what each text says.
use Rattle.std.specs.Prelude.{◌≡◌, ℕ, zero, suc, ◌^◌, ◌<◌, ◌==◌, List, [], ◌∷◌, Option, Some, None, MatchOption, codes}
use Rattle.std.specs.Prelude.{if◌then◌else◌}
use Rattle.std.specs.Str.Parse.{IsNumeral, digits_value}
use Rattle.epoch_cells.specs.declared.cells.name.Name.{Name}
use Rattle.epoch_laws.specs.declared.heap.access.Ptr.{Ptr}
use Rattle.epoch_laws.specs.declared.heap.access.Spot.{Spot}
use Rattle.epoch_laws.specs.declared.heap.access.Spot.TheVariants.{Root, Field}

-- what stands before the first such byte
abbrev pub before : ℕ → List ℕ → List ℕ
before mark [] = []
before mark (b ∷ bs) = if b == mark then [] else b ∷ before mark bs

-- what stands after the first such byte, if there is one
abbrev pub behind : ℕ → List ℕ → Option (List ℕ)
behind mark [] = None
behind mark (b ∷ bs) = if b == mark then Some bs else behind mark bs

-- what stands before the first space, the byte 32, and what stands after it
abbrev pub first_word : List ℕ → List ℕ
first_word text = before 32 text

abbrev pub others : List ℕ → Option (List ℕ)
others text = behind 32 text

-- the text is one word, and this one
abbrev pub IsOneWord : List ℕ → List ℕ → Type 0
IsOneWord name text = (first_word text ≡ name) × (others text ≡ None)

-- there is such a byte, and so it is with what stands after it
abbrev pub Behind : Option (List ℕ) → (List ℕ → Type 0) → Type 0
Behind rest P = MatchOption rest ⊥ P

-- the first word is this one, and so it is with what stands behind its space
abbrev pub LeadsWith : List ℕ → List ℕ → (List ℕ → Type 0) → Type 0
LeadsWith name text P = (first_word text ≡ name) × Behind (others text) P

-- the same of a text that may be missing
abbrev pub first_word_of : Option (List ℕ) → Option (List ℕ)
first_word_of None = None
first_word_of (Some text) = Some (first_word text)

abbrev pub others_of : Option (List ℕ) → Option (List ℕ)
others_of None = None
others_of (Some text) = others text

-- what stands behind so many words and the space after them, if the text has more
abbrev pub behind_words : ℕ → List ℕ → Option (List ℕ)
behind_words zero text = Some text
behind_words (suc words) text = others_of (behind_words words text)

-- decimal digits that write the number
abbrev pub SpellsNumber : ℕ → List ℕ → Type 0
SpellsNumber number text = IsNumeral 10 text × (digits_value 10 text < 2 ^ 64) × (number ≡ digits_value 10 text)

-- a number as the first word, and what stands behind its space
abbrev pub SpellsNumberBefore : ℕ → List ℕ → List ℕ → Type 0
SpellsNumberBefore number rest text = SpellsNumber number (first_word text) × (others text ≡ Some rest)

-- a guard's number, or a dash for an unprotected guard
abbrev pub SpellsGuard : Option ℕ → List ℕ → Type 0
SpellsGuard None text = text ≡ codes "-"
SpellsGuard (Some number) text = SpellsNumber number text

-- a slot, a dot, and a turn
abbrev pub SpellsTurn : ℕ → ℕ → List ℕ → Type 0
SpellsTurn slot turn text = SpellsNumber slot (before 46 text) × Behind (behind 46 text) (SpellsNumber turn)

-- the slot and the turn of a name
abbrev pub SpellsName : Name → List ℕ → Type 0
SpellsName name text = SpellsTurn name.slot name.turn text × (name.turn < 4294967296)

abbrev pub SpellsCell : Option Name → List ℕ → Type 0
SpellsCell None text = text ≡ codes "null"
SpellsCell (Some name) text = SpellsName name text

-- null or a name, and a tag after a plus; no tag is the tag 0
abbrev pub SpellsPtr : Ptr → List ℕ → Type 0
SpellsPtr ptr text =
    SpellsCell ptr.name (before 43 text) × MatchOption (behind 43 text) (ptr.tag ≡ 0) (SpellsNumber ptr.tag)

-- a name, a slash, and the number of a field
abbrev pub SpellsField : Name → ℕ → List ℕ → Type 0
SpellsField name field text = SpellsName name (before 47 text) × Behind (behind 47 text) (SpellsNumber field)

-- the letter r and the number of a root, or a field of a cell
abbrev pub SpellsSpot : Spot → List ℕ → Type 0
SpellsSpot (Root root) text = (digits : List ℕ) × (text ≡ 114 ∷ digits) × SpellsNumber root digits
SpellsSpot (Field name field) text = SpellsField name field text

-- what was read is what the text says, and nothing is read only where the text says nothing
abbrev pub ReadsText : {X : Type 0} → (X → List ℕ → Type 0) → List ℕ → Option X → Type 0
ReadsText Says text read = MatchOption read ((x : _) → ¬ Says x text) (λ x. Says x text)

-- the same of two values, and of three
abbrev pub ReadsPair : {X Y : Type 0} → (X → Y → List ℕ → Type 0) → List ℕ → Option (X × Y) → Type 0
ReadsPair Says text read = MatchOption read ((x : _) (y : _) → ¬ Says x y text) (λ both. Says both.0 both.1 text)

abbrev pub ReadsTriple : {X Y Z : Type 0} → (X → Y → Z → List ℕ → Type 0) → List ℕ → Option (X × Y × Z) → Type 0
ReadsTriple Says text read =
    MatchOption read ((x : _) (y : _) (z : _) → ¬ Says x y z text) (λ all. Says all.0 all.1 all.2 text)
