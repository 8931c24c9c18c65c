-- A machine that a thread drives: each ask is performed by one step on the tables that participants share.
use Rattle.std.specs.Prelude.{◌≡◌, ℕ, ◌≤◌, [], ◌∷◌, Some, None}
use Rattle.epoch_bags.specs.Bags.{Sealed}
use Rattle.epoch_tables.specs.Table.{IsWord, LetsPass}
use Rattle.epoch_tables.specs.TableSteps.{after_epoch, after_own, after_free, after_word, after_pass, after_advance}
use Rattle.epoch_tables.specs.SharedPlaces.{PlaceMe}
use Rattle.epoch_tables.specs.SharedSteps.{PutMoves, TakeMoves}
use Rattle.epoch_bags.specs.declared.queue.TakeStep.TheVariants.{Got}
use Rattle.epoch_tables.specs.declared.table.view.ParticipantView.{ParticipantView}
use Rattle.epoch_bags.specs.declared.queue.places.PutCursor.{PutCursor}
use Rattle.epoch_bags.specs.declared.queue.places.PutCursor.TheVariants.{Look as PutLook}
use Rattle.epoch_bags.specs.declared.queue.places.TakeCursor.{TakeCursor}
use Rattle.epoch_bags.specs.declared.queue.places.TakeCursor.TheVariants.{Look as TakeLook}
use Rattle.epoch_machine.specs.declared.machine.Ask.{Ask}
use Rattle.epoch_machine.specs.declared.machine.Ask.TheVariants.{LoadEpoch, LoadWord, StorePinned, StoreRepinned}
use Rattle.epoch_machine.specs.declared.machine.Ask.TheVariants.{StoreUnpinned, StoreFree, StoreEpoch, PutBag, TakeBag}
use Rattle.epoch_machine.specs.declared.machine.Ask.TheVariants.{KeepJob, CallJob}
use Rattle.epoch_machine.specs.declared.machine.Answer.TheVariants.{Epoch, Word, Stored, Job}
use Rattle.epoch_machine.specs.Machine.{Machine, asks}
use Rattle.epoch_machine.specs.Asks.{Reply, Heard, PutStepped, TakeStepped, JobGiven, Exchange, Log, IsReply, told}

-- what the two seats of a participant know
pub record Sight (J : Type 0) : Type 0 where
  pub words : ParticipantView
  pub places : PlaceMe J

-- how far its put and its collection have come
pub record Cursors : Type 0 where
  pub put : PutCursor
  pub take : TakeCursor

-- A put and a collection begin at the first place. Each has loaded the epoch before.
abbrev pub at_start : Cursors
at_start = record { put = PutLook 0; take = TakeLook 0 }

abbrev pub with_words : {J : Type 0} → Sight J → ParticipantView → Sight J
with_words v words = record { words = words; places = v.places }

-- where a participant is between two asks
pub record Situation (J : Type 0) : Type 0 where
  pub machine : Machine J
  pub sight : Sight J
  pub cursors : Cursors

abbrev pub situated : {J : Type 0} → Machine J → Sight J → Cursors → Situation J
situated m v c = record { machine = m; sight = v; cursors = c }

-- The ask has this reply, and this is what the seats and the cursors are after it: one step, on one of the tables. What
-- the machine is after it is said apart.
abbrev pub Performs : {J : Type 0} → ℕ → Situation J → Ask → Reply J → Situation J → Type 0
Performs places before LoadEpoch (Heard (Epoch e)) after = (before.sight.words.seen ≤ e)
    × (after.sight ≡ with_words before.sight (after_epoch before.sight.words e)) × (after.cursors ≡ at_start)
Performs places before (StorePinned e) (Heard Stored) after = (e ≤ before.sight.words.seen)
    × (after.sight ≡ with_words before.sight (after_own before.sight.words (Some e))) × (after.cursors ≡ before.cursors)
Performs places before (StoreRepinned e) (Heard Stored) after = (e ≤ before.sight.words.seen)
    × (after.sight ≡ with_words before.sight (after_own before.sight.words (Some e))) × (after.cursors ≡ before.cursors)
Performs places before StoreUnpinned (Heard Stored) after =
    (after.sight ≡ with_words before.sight (after_own before.sight.words None)) × (after.cursors ≡ before.cursors)
Performs places before StoreFree (Heard Stored) after =
    (after.sight ≡ with_words before.sight (after_free before.sight.words)) × (after.cursors ≡ before.cursors)
Performs places before (LoadWord k) (Heard (Word w)) after = IsWord w × (after.cursors ≡ before.cursors)
    × ((e : ℕ) × (before.sight.words.scan ≡ Some (e, k))
    × (LetsPass e w → after.sight ≡ with_words before.sight (after_pass before.sight.words e k w))
    × (¬ LetsPass e w → after.sight ≡ with_words before.sight (after_word before.sight.words k w)))
Performs places before (StoreEpoch e) (Heard Stored) after = (before.sight.words.seen ≤ e)
    × (after.sight ≡ with_words before.sight (after_advance before.sight.words e)) × (after.cursors ≡ before.cursors)
Performs places before KeepJob (Heard (Job job)) after = (after.sight ≡ before.sight) × (after.cursors ≡ before.cursors)
Performs places before CallJob (JobGiven job) after = (after.sight ≡ before.sight) × (after.cursors ≡ before.cursors)
Performs places before (PutBag seal) (PutStepped step) after =
    (after.sight.words ≡ before.sight.words) × (after.cursors.take ≡ before.cursors.take)
    × PutMoves places before.cursors.put before.sight.places (record { seal = seal; jobs = before.machine.held }) step
    after.cursors.put after.sight.places
Performs {J} places before (TakeBag x) (TakeStepped step jobs) after =
    (after.sight.words ≡ before.sight.words) × (after.cursors.put ≡ before.cursors.put)
    × ((bag : Sealed J) × (step ≡ Got → jobs ≡ bag.jobs)
    × TakeMoves places x before.cursors.take before.sight.places step after.cursors.take after.sight.places bag)
Performs places before ask reply after = ⊥

-- one ask of the machine and its reply, from the situation before to the one after
pub record Exchanges {J : Type 0} (places : ℕ) (before : Situation J) (x : Exchange J)
    (after : Situation J) : Type 0 where
  pub asked : asks before.machine ≡ Some x.ask
  pub is_reply : IsReply x.ask before.machine.hand x.reply
  pub performs : Performs places before x.ask x.reply after
  pub machine : after.machine ≡ told before.machine x.reply

-- The machine's asks are performed one after another, with these replies.
abbrev pub Performed : {J : Type 0} → ℕ → Situation J → Log J → Situation J → Type 0
Performed places before [] after = after ≡ before
Performed {J} places before (x ∷ log) after =
    (next : Situation J) × Exchanges places before x next × Performed places next log after

-- WHICH JOBS THE MACHINE GIVES

-- it gives none
abbrev pub NoJob : {J : Type 0} → J → Type 0
NoJob job = ⊥

-- it gives whichever
abbrev pub AnyJob : {J : Type 0} → J → Type 0
AnyJob job = Unit {0}

-- A job that is given is such. It is given to be called.
abbrev pub HoldsOfGiven : {J : Type 0} → (J → Type 0) → Reply J → Type 0
HoldsOfGiven IsSuch (JobGiven job) = IsSuch job
HoldsOfGiven IsSuch reply = Unit {0}

-- each job that the machine gave is such
abbrev pub GivesOnly : {J : Type 0} → (J → Type 0) → Log J → Type 0
GivesOnly IsSuch [] = Unit {0}
GivesOnly IsSuch (x ∷ log) = HoldsOfGiven IsSuch x.reply × GivesOnly IsSuch log

-- From the machine m and what its seats know, wherever its cursors are, its asks are performed as far as this
-- situation, and each job that it gives is such.
abbrev pub Reaches : {J : Type 0} → (J → Type 0) → ℕ → Machine J → Sight J → Situation J → Type 0
Reaches {J} IsSuch places m v after = (c : Cursors)
    → (log : Log J) × Performed places (situated m v c) log after × GivesOnly IsSuch log

-- the same as far as the machine n and what its seats know then, wherever the cursors are there
abbrev pub Drives : {J : Type 0} → (J → Type 0) → ℕ → Machine J → Sight J → Machine J → Sight J → Type 0
Drives {J} IsSuch places m v n u = (c : Cursors)
    → (d : Cursors) × (log : Log J) × Performed places (situated m v c) log (situated n u d) × GivesOnly IsSuch log
