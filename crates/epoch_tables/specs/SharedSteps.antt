-- The steps of a put and of a collection over shared places: where a cursor stands, and what each step does.
use Rattle.std.specs.Prelude.{◌≡◌, ℕ, ◌<◌, ◌≤◌, [], ◌∷◌, Option, Some, None}
use Rattle.epoch_bags.specs.Bags.{Sealed, IsExpired}
use Rattle.epoch_bags.specs.CursorSteps.{IsExpiredWord, PutGoes, TakeGoes}
use Rattle.epoch_tables.specs.SharedPlaces.{PlaceMe, IsAtHome, after_look, after_place_claim, after_store}
use Rattle.epoch_bags.specs.declared.queue.PutStep.{PutStep}
use Rattle.epoch_bags.specs.declared.queue.TakeStep.{TakeStep}
use Rattle.epoch_bags.specs.declared.queue.places.PutCursor.{PutCursor}
use Rattle.epoch_bags.specs.declared.queue.places.PutCursor.TheVariants.{Look as PutLook, Claim as PutClaim, Fill}
use Rattle.epoch_bags.specs.declared.queue.places.TakeCursor.{TakeCursor}
use Rattle.epoch_bags.specs.declared.queue.places.TakeCursor.TheVariants.{Look as TakeLook, Claim as TakeClaim, Empty}

-- WHERE A CURSOR STANDS

module _ {J : Type 0} where
  -- the seat has claimed no place, and has no slot in hand
  abbrev pub RestsAt : PlaceMe J → Type 0
  RestsAt me = (me.0.claimed ≡ None) × (me.1 ≡ [])

  -- the seat has claimed this place, and has in hand its slot alone, with this content
  abbrev pub HoldsAt : ℕ → Option (Sealed J) → PlaceMe J → Type 0
  HoldsAt place content me = (me.0.claimed ≡ Some place) × (me.1 ≡ (place, content) ∷ [])

  -- the seat is where a put with this cursor has it: with an empty slot in hand from the claim on
  abbrev pub PutsAt : ℕ → PutCursor → PlaceMe J → Type 0
  PutsAt places (PutLook place) me = (place < places) × RestsAt me
  PutsAt places (PutClaim place) me = (place < places) × RestsAt me
  PutsAt places (Fill place) me = (place < places) × HoldsAt place None me

  -- The seat is where a collection for the epoch x with this cursor has it: with an expired bag in hand from the
  -- claim on. At the number of places the cursor is past the last one.
  abbrev pub TakesAt : ℕ → ℕ → TakeCursor → PlaceMe J → Type 0
  TakesAt places x (TakeLook place) me = (place ≤ places) × RestsAt me
  TakesAt places x (TakeClaim place word) me = (place < places) × IsExpiredWord x word × RestsAt me
  TakesAt places x (Empty place) me =
      (place < places) × ((bag : Sealed J) × IsExpired x bag × HoldsAt place (Some bag) me)

-- WHAT A STEP DOES

module _ {J : Type 0} where
  -- a step that found this word at this place, and left the hands as they are
  abbrev pub Finds : ℕ → PlaceMe J → ℕ → PlaceMe J → Type 0
  Finds place before word after = after ≡ (after_look before.0 place word, before.1)

  -- A claim that found this word and has won the place. Just what was at home there is in hand now.
  abbrev pub Wins : ℕ → PlaceMe J → ℕ → PlaceMe J → Type 0
  Wins place before word after = (home : Option (Sealed J)) × IsAtHome word home
      × (after ≡ (after_place_claim before.0 place word home, (place, home) ∷ before.1))

  -- the place has this content from now on, and nothing is in hand
  abbrev pub LeavesContent : PlaceMe J → Option (Sealed J) → PlaceMe J → Type 0
  LeavesContent before content after = after ≡ (after_store before.0 content, [])

  -- one step of a put of this sealed bag
  abbrev pub PutMoves : ℕ → PutCursor → PlaceMe J → Sealed J → PutStep → PutCursor → PlaceMe J → Type 0
  PutMoves places cursor before bag step next after =
      PutGoes places (λ place word. Finds place before word after) (λ place word. Wins place before word after)
      (λ place. LeavesContent before (Some bag) after) cursor step next

  -- One step of a collection for the epoch x, and what is in the hand after it. The bag that is got is the very one
  -- that was in the slot, since the claim that won it.
  abbrev pub TakeMoves : ℕ → ℕ → TakeCursor → PlaceMe J → TakeStep → TakeCursor → PlaceMe J → Sealed J → Type 0
  TakeMoves places x cursor before step next after hand =
      TakeGoes places (λ place word. Finds place before word after) (λ place word. Wins place before word after)
      (λ place. LeavesContent before None after × (before.1 ≡ (place, Some hand) ∷ [])
      × IsExpired x hand) (after ≡ before) x cursor step next
