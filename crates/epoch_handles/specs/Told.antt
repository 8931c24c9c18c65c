-- What the replies of a thread's machine tell of the tables that participants share.
use Rattle.std.specs.Prelude.{◌≡◌, ◌≢◌, ℕ, ◌+◌, ◌*◌, ◌≤◌, List, [], ◌∷◌, ◌++◌}
use Rattle.epoch_bags.specs.CursorSteps.{IsExpiredWord, PutPasses, TakePasses}
use Rattle.epoch_bags.specs.declared.queue.PutStep.{PutStep}
use Rattle.epoch_bags.specs.declared.queue.PutStep.TheVariants.{Again as PutAgain, Done}
use Rattle.epoch_bags.specs.declared.queue.TakeStep.{TakeStep}
use Rattle.epoch_bags.specs.declared.queue.TakeStep.TheVariants.{Again as TakeAgain, Empty as TakeEnds, Got}
use Rattle.epoch_bags.specs.declared.queue.places.PutCursor.{PutCursor}
use Rattle.epoch_bags.specs.declared.queue.places.PutCursor.TheVariants.{Look as PutLook, Claim as PutClaim, Fill}
use Rattle.epoch_bags.specs.declared.queue.places.TakeCursor.{TakeCursor}
use Rattle.epoch_bags.specs.declared.queue.places.TakeCursor.TheVariants.{Look as TakeLook, Claim as TakeClaim, Empty}
use Rattle.epoch_machine.specs.declared.machine.Answer.TheVariants.{Epoch, Word}
use Rattle.epoch_machine.specs.declared.machine.Action.{Action}
use Rattle.epoch_machine.specs.declared.machine.Ask.{Ask}
use Rattle.epoch_machine.specs.declared.machine.Ask.TheVariants.{LoadEpoch, PutBag, TakeBag}
use Rattle.epoch_machine.specs.Machine.{begun}
use Rattle.epoch_machine.specs.Asks.{Reply, Heard, PutStepped, TakeStepped, Log}
use Rattle.epoch_handles.specs.Drives.{Cursors, Situation, Performed, at_start}

-- THE PARTICIPANTS' TABLE

-- the word that a reply is, where it is one of the table's
abbrev pub word_told : {J : Type 0} → Reply J → List ℕ
word_told (Heard (Epoch e)) = 2 * e ∷ []
word_told (Heard (Word w)) = w ∷ []
word_told reply = []

abbrev pub words_told : {J : Type 0} → Log J → List ℕ
words_told [] = []
words_told (x ∷ log) = word_told x.reply ++ words_told log

-- What the seat's steps have appended to the words that it found are the replies, in their order; and the greatest
-- epoch that it has read or stored never falls.
abbrev pub RepliesAreFound : Type 0 → Type 0
RepliesAreFound J = (places : ℕ) (before after : Situation J) (log : Log J)
    → Performed places before log after
    → (after.sight.words.found ≡ before.sight.words.found ++ words_told log)
    × (before.sight.words.seen ≤ after.sight.words.seen)

-- a collection that is asked for is for an epoch at most this one
abbrev pub IsExpiryWithin : ℕ → Ask → Type 0
IsExpiryWithin seen (TakeBag expiry) = expiry ≤ seen
IsExpiryWithin seen ask = Unit {0}

abbrev pub AreExpiriesWithin : {J : Type 0} → ℕ → Log J → Type 0
AreExpiriesWithin seen [] = Unit {0}
AreExpiriesWithin seen (x ∷ log) = IsExpiryWithin seen x.ask × AreExpiriesWithin seen log

-- From the beginning of an action on, bags are taken only for an epoch that the seat has read or stored.
abbrev pub ExpiriesAreSeen : Type 0 → Type 0
ExpiriesAreSeen J = (places : ℕ) (action : Action) (before after : Situation J) (log : Log J)
    → Performed places (record before { machine = begun action before.machine }) log after
    → AreExpiriesWithin after.sight.words.seen log

-- THE PLACES

-- What a put answers at this cursor by the words found there, and where it goes on. A look and a claim find one word:
-- at 0 the put goes on at the place, and else it passes it. A fill finds none, and is the last step.
abbrev pub PutTells : ℕ → PutCursor → List ℕ → PutStep → PutCursor → Type 0
PutTells places (PutLook place) found step next = (word : ℕ) × (found ≡ word ∷ [])
    × (word ≡ 0 → (step ≡ PutAgain) × (next ≡ PutClaim place))
    × (word ≢ 0 → PutPasses places place step next)
PutTells places (PutClaim place) found step next = (word : ℕ) × (found ≡ word ∷ [])
    × (word ≡ 0 → (step ≡ PutAgain) × (next ≡ Fill place))
    × (word ≢ 0 → PutPasses places place step next)
PutTells places (Fill place) found step next = (found ≡ []) × (step ≡ Done)

-- The same of a collection for the epoch x. A look finds one word, and so does a claim: the place of an expired bag is
-- claimed by the very word looked at, and else it is passed. Past the last place no word is found, nor where a bag is
-- got.
abbrev pub TakeTells : ℕ → ℕ → TakeCursor → List ℕ → TakeStep → TakeCursor → Type 0
TakeTells places x (TakeLook place) found step next = (place ≡ places → (found ≡ []) × (step ≡ TakeEnds))
    × (place ≢ places → (word : ℕ) × (found ≡ word ∷ [])
    × (IsExpiredWord x word → (step ≡ TakeAgain) × (next ≡ TakeClaim place word))
    × ((¬ IsExpiredWord x word) → TakePasses places place step next))
TakeTells places x (TakeClaim place claims) found step next = (word : ℕ) × (found ≡ word ∷ [])
    × (word ≡ claims → (step ≡ TakeAgain) × (next ≡ Empty place))
    × (word ≢ claims → TakePasses places place step next)
TakeTells places x (Empty place) found step next = (found ≡ []) × (step ≡ Got) × (next ≡ TakeLook (place + 1))

-- What came of an ask by the words found at the places. A load of the epoch begins a put or a collection; whatever else
-- is no step at a place finds no word there.
abbrev pub Tells : {J : Type 0} → ℕ → Cursors → Ask → Reply J → List ℕ → Cursors → Type 0
Tells places c (PutBag seal) (PutStepped step) found d = (d.take ≡ c.take) × PutTells places c.put found step d.put
Tells places c (TakeBag x) (TakeStepped step jobs) found d =
    (d.put ≡ c.put) × TakeTells places x c.take found step d.take
Tells places c LoadEpoch reply found d = (found ≡ []) × (d ≡ at_start)
Tells places c ask reply found d = (found ≡ []) × (d ≡ c)

-- Each answer at the places is the one that the words found there stand for, in their order, and no word is left over.
abbrev pub TellsAll : {J : Type 0} → ℕ → Cursors → Log J → List ℕ → Cursors → Type 0
TellsAll places c [] words d = (words ≡ []) × (d ≡ c)
TellsAll places c (x ∷ log) words d = (found more : List ℕ) × (b : Cursors) × (words ≡ found ++ more)
    × Tells places c x.ask x.reply found b × TellsAll places b log more d

-- What the seat at the places has appended to the words that it found are just those that its answers stand for.
abbrev pub AnswersAreFound : Type 0 → Type 0
AnswersAreFound J = (places : ℕ) (before after : Situation J) (log : Log J)
    → Performed places before log after
    → (words : List ℕ) × (after.sight.places.0.found ≡ before.sight.places.0.found ++ words)
    × TellsAll places before.cursors log words after.cursors
