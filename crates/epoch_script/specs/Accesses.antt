-- The calls on cells and pointers, as lines spell them.
use Rattle.std.specs.Prelude.{◌≡◌, ℕ, List, Option, Some, None, ◌⊎◌, codes}
use Rattle.epoch_laws.specs.declared.heap.access.Access.{Access}
use Rattle.epoch_laws.specs.declared.heap.access.Access.TheVariants.{Place, Read, Leave, Write, Take, Point}
use Rattle.epoch_laws.specs.declared.heap.access.Change.{Change}
use Rattle.epoch_laws.specs.declared.heap.access.Change.TheVariants.{Load, Store, Swap, CompareExchange, FetchAnd}
use Rattle.epoch_laws.specs.declared.heap.access.Change.TheVariants.{FetchOr}
use Rattle.epoch_laws.specs.declared.heap.access.Change.TheVariants.{FetchXor, FetchUpdate}
use Rattle.epoch_laws.specs.declared.heap.access.Ptr.{Ptr}
use Rattle.epoch_laws.specs.declared.heap.access.Spot.{Spot}
use Rattle.epoch_laws.specs.declared.heap.access.Update.{Update}
use Rattle.epoch_laws.specs.declared.heap.access.Update.TheVariants.{Tag, To, Stop}
use Rattle.epoch_script.specs.Words.{Behind, IsOneWord, LeadsWith, SpellsGuard, SpellsNumber, SpellsPtr, SpellsSpot}
use Rattle.epoch_script.specs.Words.{first_word, others}

-- a guard, and then a pointer
abbrev pub SpellsGuarded : Option ℕ → Ptr → List ℕ → Type 0
SpellsGuarded guard ptr text = SpellsGuard guard (first_word text) × Behind (others text) (SpellsPtr ptr)

-- a pointer, and then a value
abbrev pub SpellsValued : Ptr → ℕ → List ℕ → Type 0
SpellsValued ptr value text = SpellsPtr ptr (first_word text) × Behind (others text) (SpellsNumber value)

-- a guard, a pointer, and then a value
abbrev pub SpellsWrite : Option ℕ → Ptr → ℕ → List ℕ → Type 0
SpellsWrite guard ptr value text = SpellsGuard guard (first_word text) × Behind (others text) (SpellsValued ptr value)

-- a guard, and then where a pointer stands
abbrev pub SpellsLoad : Option ℕ → Spot → List ℕ → Type 0
SpellsLoad guard spot text = SpellsGuard guard (first_word text) × Behind (others text) (SpellsSpot spot)

-- where a pointer stands, and then a pointer
abbrev pub SpellsStore : Spot → Ptr → List ℕ → Type 0
SpellsStore spot ptr text = SpellsSpot spot (first_word text) × Behind (others text) (SpellsPtr ptr)

-- two pointers
abbrev pub SpellsExchange : Ptr → Ptr → List ℕ → Type 0
SpellsExchange current new text = SpellsPtr current (first_word text) × Behind (others text) (SpellsPtr new)

-- what the function of an update answers
abbrev pub SpellsUpdate : Update → List ℕ → Type 0
SpellsUpdate (Tag tag) text = LeadsWith (codes "tag") text (SpellsNumber tag)
SpellsUpdate (To ptr) text = LeadsWith (codes "to") text (SpellsPtr ptr)
SpellsUpdate Stop text = IsOneWord (codes "stop") text

-- how often an update tries, and what its function answers
abbrev pub SpellsTries : ℕ → Update → List ℕ → Type 0
SpellsTries tries update text = SpellsNumber tries (first_word text) × Behind (others text) (SpellsUpdate update)

-- the first word of a change under a guard
abbrev pub IsWordOf : Change → List ℕ → Type 0
IsWordOf (Swap ptr) word = word ≡ codes "swap"
IsWordOf (CompareExchange current new) word = (word ≡ codes "cas") ⊎ (word ≡ codes "cas-weak")
IsWordOf (FetchAnd bits) word = word ≡ codes "and"
IsWordOf (FetchOr bits) word = word ≡ codes "or"
IsWordOf (FetchXor bits) word = word ≡ codes "xor"
IsWordOf (FetchUpdate tries update) word = word ≡ codes "update"
IsWordOf _ word = ⊥

-- its last words
abbrev pub SpellsChange : Change → List ℕ → Type 0
SpellsChange (Swap ptr) text = SpellsPtr ptr text
SpellsChange (CompareExchange current new) text = SpellsExchange current new text
SpellsChange (FetchAnd bits) text = SpellsNumber bits text
SpellsChange (FetchOr bits) text = SpellsNumber bits text
SpellsChange (FetchXor bits) text = SpellsNumber bits text
SpellsChange (FetchUpdate tries update) text = SpellsTries tries update text
SpellsChange _ text = ⊥

-- where it is made, and its last words
abbrev pub SpellsSpotted : Spot → Change → List ℕ → Type 0
SpellsSpotted spot change text = SpellsSpot spot (first_word text) × Behind (others text) (SpellsChange change)

-- its guard, where it is made, and its last words
abbrev pub SpellsUnder : Option ℕ → Spot → Change → List ℕ → Type 0
SpellsUnder guard spot change text =
    SpellsGuard guard (first_word text) × Behind (others text) (SpellsSpotted spot change)

-- after its first word: a load, a store, which has no guard, or a change under a guard
abbrev pub SpellsPointed : List ℕ → Option ℕ → Spot → Change → List ℕ → Type 0
SpellsPointed word guard spot Load text = (word ≡ codes "load") × SpellsLoad guard spot text
SpellsPointed word None spot (Store ptr) text = (word ≡ codes "store") × SpellsStore spot ptr text
SpellsPointed word (Some guard) spot (Store ptr) text = ⊥
SpellsPointed word guard spot change text = IsWordOf change word × SpellsUnder guard spot change text

-- the calls that load a pointer, or change it
abbrev pub SpellsPoint : Option ℕ → Spot → Change → List ℕ → Type 0
SpellsPoint guard spot change text = Behind (others text) (SpellsPointed (first_word text) guard spot change)

abbrev pub SpellsAccess : Access → List ℕ → Type 0
SpellsAccess (Place value) text = LeadsWith (codes "place") text (SpellsNumber value)
SpellsAccess (Read guard ptr) text = LeadsWith (codes "read") text (SpellsGuarded guard ptr)
SpellsAccess (Leave ptr) text = LeadsWith (codes "leave") text (SpellsPtr ptr)
SpellsAccess (Write guard ptr value) text = LeadsWith (codes "write") text (SpellsWrite guard ptr value)
SpellsAccess (Take guard ptr) text = LeadsWith (codes "take") text (SpellsGuarded guard ptr)
SpellsAccess (Point guard spot change) text = SpellsPoint guard spot change text
