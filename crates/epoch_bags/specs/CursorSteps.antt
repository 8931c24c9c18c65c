-- How a put and a collection go over numbered places, one word a step, whatever the places are made of.
use Rattle.std.specs.Prelude.{◌≡◌, ◌≢◌, ℕ, ◌+◌, ◌*◌, ◌<◌, ◌≤◌, ◌==◌, if◌then◌else◌, Some, None, length, slice_index_or}
use Rattle.std.specs.Prelude.{slice_set}
use Rattle.epoch_bags.specs.Bags.{Sealed, IsExpired}
use Rattle.epoch_bags.specs.PlaceLists.{PlaceList, Fills, Empties}
use Rattle.epoch_bags.specs.declared.queue.PutStep.{PutStep}
use Rattle.epoch_bags.specs.declared.queue.PutStep.TheVariants.{Again as PutAgain, Done, Full}
use Rattle.epoch_bags.specs.declared.queue.TakeStep.{TakeStep}
use Rattle.epoch_bags.specs.declared.queue.TakeStep.TheVariants.{Again as TakeAgain, Empty as TakeEnds, Got}
use Rattle.epoch_bags.specs.declared.queue.places.PutCursor.{PutCursor}
use Rattle.epoch_bags.specs.declared.queue.places.PutCursor.TheVariants.{Look as PutLook, Claim as PutClaim, Fill}
use Rattle.epoch_bags.specs.declared.queue.places.TakeCursor.{TakeCursor}
use Rattle.epoch_bags.specs.declared.queue.places.TakeCursor.TheVariants.{Look as TakeLook, Claim as TakeClaim, Empty}

-- this is the word of a place that holds a bag expired for the epoch x
abbrev pub IsExpiredWord : ℕ → ℕ → Type 0
IsExpiredWord x word = (seal : ℕ) × (word ≡ 2 * seal + 1) × (seal + 2 ≤ x)

-- the put goes on behind this place, or has seen each place occupied
abbrev pub PutPasses : ℕ → ℕ → PutStep → PutCursor → Type 0
PutPasses places place step next =
    (next ≡ PutLook (place + 1)) × (step ≡ (if place + 1 == places then Full else PutAgain))

-- the collection goes on behind this place, or was at the last one
abbrev pub TakePasses : ℕ → ℕ → TakeStep → TakeCursor → Type 0
TakePasses places place step next =
    (next ≡ TakeLook (place + 1)) × (step ≡ (if place + 1 == places then TakeEnds else TakeAgain))

-- Of so many places: what a step does that finds a word at a place and leaves it, what a claim does that wins a place
-- where it found a word, and what the step does that fills or empties a place.
module _ (places : ℕ) (Finds Wins : ℕ → ℕ → Type 0) (Moves : ℕ → Type 0) where
  -- One step of a put. A look and a claim find a word, and an occupied place is passed.
  abbrev pub PutGoes : PutCursor → PutStep → PutCursor → Type 0
  PutGoes (PutLook place) step next = (word : ℕ) × Finds place word
      × (word ≡ 0 → (step ≡ PutAgain) × (next ≡ PutClaim place))
      × (word ≢ 0 → PutPasses places place step next)
  PutGoes (PutClaim place) step next = (word : ℕ)
      × (word ≡ 0 → Wins place word × (step ≡ PutAgain) × (next ≡ Fill place))
      × (word ≢ 0 → Finds place word × PutPasses places place step next)
  PutGoes (Fill place) step next = (step ≡ Done) × Moves place

  -- a look of a collection finds a word: that of an expired bag is claimed next, and else the place is passed
  abbrev pub LooksForBag : ℕ → ℕ → TakeStep → TakeCursor → Type 0
  LooksForBag x place step next = (word : ℕ) × Finds place word
      × (IsExpiredWord x word → (step ≡ TakeAgain) × (next ≡ TakeClaim place word))
      × ((¬ IsExpiredWord x word) → TakePasses places place step next)

  -- One step of a collection for the epoch x. Past the last place it touches no word.
  abbrev pub TakeGoes : Type 0 → ℕ → TakeCursor → TakeStep → TakeCursor → Type 0
  TakeGoes Stays x (TakeLook place) step next = (place ≡ places → (step ≡ TakeEnds) × Stays)
      × (place ≢ places → LooksForBag x place step next)
  TakeGoes Stays x (TakeClaim place claims) step next = (word : ℕ)
      × (word ≡ claims → Wins place word × (step ≡ TakeAgain) × (next ≡ Empty place))
      × (word ≢ claims → Finds place word × TakePasses places place step next)
  TakeGoes Stays x (Empty place) step next = (step ≡ Got) × (next ≡ TakeLook (place + 1)) × Moves place

-- OVER A PLAIN LIST OF PLACES

module _ {J : Type 0} where
  -- the word there is this one, and nothing changes
  abbrev pub FindsWord : PlaceList J → PlaceList J → ℕ → ℕ → Type 0
  FindsWord old new place word = (slice_index_or old.words place 0 ≡ word) × (new ≡ old)

  -- the word there was this one, and the place is claimed now
  abbrev pub WinsPlace : PlaceList J → PlaceList J → ℕ → ℕ → Type 0
  WinsPlace old new place word =
      (slice_index_or old.words place 0 ≡ word) × (new.words ≡ slice_set old.words place 2) × (new.bags ≡ old.bags)

  -- the put stands at a place, and where it has claimed it, the place has no bag
  abbrev pub PutStands : PlaceList J → PutCursor → Type 0
  PutStands store (PutLook place) = place < length store.words
  PutStands store (PutClaim place) = place < length store.words
  PutStands store (Fill place) = (place < length store.words) × (slice_index_or store.bags place None ≡ None)

  -- The collection stands at a place, or after the last one. Where it has claimed the place, an expired bag is at home
  -- there.
  abbrev pub TakeStands : ℕ → PlaceList J → TakeCursor → Type 0
  TakeStands x store (TakeLook place) = place ≤ length store.words
  TakeStands x store (TakeClaim place word) = (place < length store.words) × IsExpiredWord x word
  TakeStands x store (Empty place) = (place < length store.words)
      × ((bag : Sealed J) × (slice_index_or store.bags place None ≡ Some bag) × IsExpired x bag)

  abbrev pub PutsInList : PlaceList J → PlaceList J → Sealed J → PutCursor → PutStep → PutCursor → Type 0
  PutsInList old new bag =
      PutGoes (length old.words) (FindsWord old new) (WinsPlace old new) (λ place. Fills old place bag new)

  abbrev pub TakesFromList : PlaceList J → PlaceList J → Sealed J → ℕ → TakeCursor → TakeStep → TakeCursor → Type 0
  TakesFromList old new hand x = TakeGoes (length old.words) (FindsWord old new) (WinsPlace old new)
      (λ place. Empties old place hand new × IsExpired x hand) (new ≡ old) x
