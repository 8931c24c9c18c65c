-- The asks of each action in their order: the table that every log of a machine follows.
use Rattle.std.specs.Prelude.{◌≡◌, ◌≢◌, ℕ, zero, suc, ◌+◌, ◌-◌, ◌*◌, ◌%◌, ◌^◌, ◌==◌, Bool, true, false, List, [], ◌∷◌}
use Rattle.std.specs.Prelude.{length, Some, is_some, ◌⊎◌}
use Rattle.epoch_bags.specs.declared.queue.PutStep.{PutStep}
use Rattle.epoch_bags.specs.declared.queue.PutStep.TheVariants.{Again, Done, Full}
use Rattle.epoch_bags.specs.declared.queue.TakeStep.{TakeStep}
use Rattle.epoch_bags.specs.declared.queue.TakeStep.TheVariants.{Again as TakeAgain, Empty, Got}
use Rattle.epoch_machine.specs.declared.machine.Action.{Action}
use Rattle.epoch_machine.specs.declared.machine.Action.TheVariants.{Pin, Unpin, Repin, Defer, Flush, Release}
use Rattle.epoch_machine.specs.declared.machine.Sizes.{Sizes}
use Rattle.epoch_machine.specs.declared.machine.Ask.{Ask}
use Rattle.epoch_machine.specs.declared.machine.Ask.TheVariants.{LoadEpoch, LoadWord, StorePinned, StoreRepinned}
use Rattle.epoch_machine.specs.declared.machine.Ask.TheVariants.{StoreUnpinned, StoreFree, StoreEpoch, PutBag, TakeBag}
use Rattle.epoch_machine.specs.declared.machine.Ask.TheVariants.{KeepJob, CallJob}
use Rattle.epoch_machine.specs.declared.machine.Answer.{Answer}
use Rattle.epoch_machine.specs.declared.machine.Answer.TheVariants.{Epoch, Word, Stored, Job}
use Rattle.epoch_machine.specs.Machine.{Machine, asks, heard, put_heard, took_heard, gives, is_empty, rest}

-- EXCHANGES

-- what came of an ask
pub data Reply (J : Type 0) : Type 0 where
  Heard : (answer : Answer J) → Reply J
  PutStepped : (step : PutStep) → Reply J
  TakeStepped : (step : TakeStep) (jobs : List J) → Reply J  -- the jobs are those of a bag got
  JobGiven : (job : J) → Reply J

-- an ask with its reply
pub record Exchange (J : Type 0) : Type 0 where
  pub ask : Ask
  pub reply : Reply J

-- what such an ask may be told; a job that is called is the first in hand
abbrev pub IsReply : {J : Type 0} → Ask → List J → Reply J → Type 0
IsReply LoadEpoch hand (Heard (Epoch e)) = Unit {0}
IsReply (LoadWord k) hand (Heard (Word w)) = Unit {0}
IsReply (StorePinned e) hand (Heard Stored) = Unit {0}
IsReply (StoreRepinned e) hand (Heard Stored) = Unit {0}
IsReply StoreUnpinned hand (Heard Stored) = Unit {0}
IsReply StoreFree hand (Heard Stored) = Unit {0}
IsReply (StoreEpoch e) hand (Heard Stored) = Unit {0}
IsReply KeepJob hand (Heard (Job job)) = Unit {0}
IsReply (PutBag seal) hand (PutStepped step) = Unit {0}
IsReply (TakeBag x) hand (TakeStepped step jobs) = Unit {0}
IsReply CallJob hand (JobGiven job) = hand ≡ job ∷ rest hand
IsReply _ hand reply = ⊥

-- the machine after a reply
abbrev pub told : {J : Type 0} → Machine J → Reply J → Machine J
told m (Heard answer) = heard m answer
told m (PutStepped step) = put_heard m step
told m (TakeStepped step jobs) = took_heard m m.stage step jobs
told m (JobGiven job) = gives m m.stage (rest m.hand)

-- what a machine asked, in order
abbrev pub Log : Type 0 → Type 0
Log J = List (Exchange J)

-- The machine m asks each ask of the log in turn, goes on by its reply, and is n after the last one.
abbrev pub Asked : {J : Type 0} → Machine J → Log J → Machine J → Type 0
Asked m [] n = n ≡ m
Asked m (x ∷ log) n = (asks m ≡ Some x.ask) × IsReply x.ask m.hand x.reply × Asked (told m x.reply) log n

abbrev pub asks_more : {J : Type 0} → Machine J → Bool
asks_more m = is_some (asks m)

-- PARTS OF A LOG

-- What a log may be from some place on, said in terms of what may come after. The log may break off before
-- any ask, and then more is asked; after the last ask no more is asked.
abbrev pub Part : Type 0 → Type 1
Part J = (more : Bool) → Log J → Type 0

abbrev pub AsksNoMore : {J : Type 0} → Part J
AsksNoMore more log = (log ≡ []) × (more ≡ false)

-- the first part where the test holds, and else the second
abbrev pub Choose : {J : Type 0} → Bool → Part J → Part J → Part J
Choose true holds fails = holds
Choose false holds fails = fails

-- the epoch is loaded, and this comes after the epoch found
abbrev pub AsksLoad : {J : Type 0} → (ℕ → Part J) → Part J
AsksLoad behind more [] = more ≡ true
AsksLoad behind more (x ∷ log) = (e : ℕ) × (x ≡ record { ask = LoadEpoch; reply = Heard (Epoch e) }) × behind e more log

-- a store is made
abbrev pub AsksStore : {J : Type 0} → Ask → Part J → Part J
AsksStore store behind more [] = more ≡ true
AsksStore store behind more (x ∷ log) = (x ≡ record { ask = store; reply = Heard Stored }) × behind more log

-- a job is kept
abbrev pub AsksKeep : {J : Type 0} → Part J → Part J
AsksKeep behind more [] = more ≡ true
AsksKeep {J} behind more (x ∷ log) =
    (job : J) × (x ≡ record { ask = KeepJob; reply = Heard (Job job) }) × behind more log

-- the word is that of a participant pinned in an epoch other than e
abbrev pub IsPinnedElsewhere : (e w : ℕ) → Type 0
IsPinnedElsewhere e w = (a : ℕ) × (w ≡ 2 * a + 1) × (a ≢ e)

-- the word at a position is loaded
abbrev pub AsksWord : {J : Type 0} (e position : ℕ) → (elsewhere behind : Part J) → Part J
AsksWord e position elsewhere behind more [] = more ≡ true
AsksWord e position elsewhere behind more (x ∷ log) =
    (w : ℕ) × (x ≡ record { ask = LoadWord position; reply = Heard (Word w) })
    × ((IsPinnedElsewhere e w × elsewhere more log) ⊎ ((¬ IsPinnedElsewhere e w) × behind more log))

-- the epoch after e is stored, unless e is the greatest
abbrev pub AsksAdvance : {J : Type 0} (e : ℕ) → (ℕ → Part J) → Part J
AsksAdvance e behind = Choose (e == 2 ^ 63 - 1) (behind e) (AsksStore (StoreEpoch (e + 1)) (behind (e + 1)))

-- So many words are loaded, by position. The first one that is pinned in another epoch ends the scan, with e;
-- where there is none the epoch advances.
abbrev pub AsksScan : {J : Type 0} (e position words : ℕ) → (ℕ → Part J) → Part J
AsksScan e position zero behind = AsksAdvance e behind
AsksScan e position (suc words) behind = AsksWord e position (behind e) (AsksScan e (position + 1) words behind)

-- steps of a collection for x are made until a bag is got, or none is found
abbrev pub AsksTakeSteps : {J : Type 0} (x : ℕ) → (empty : Part J) → (got : List J → Part J) → Part J
AsksTakeSteps x empty got more [] = more ≡ true
AsksTakeSteps {J} x empty got more (y ∷ log) = (jobs : List J)
    × (((y ≡ record { ask = TakeBag x; reply = TakeStepped TakeAgain jobs }) × AsksTakeSteps x empty got more log)
    ⊎ ((y ≡ record { ask = TakeBag x; reply = TakeStepped Empty jobs }) × empty more log)
    ⊎ ((y ≡ record { ask = TakeBag x; reply = TakeStepped Got jobs }) × got jobs more log))

-- these jobs are called, in this order
abbrev pub AsksCalls : {J : Type 0} → List J → Part J → Part J
AsksCalls [] behind more log = behind more log
AsksCalls (job ∷ jobs) behind more [] = more ≡ true
AsksCalls (job ∷ jobs) behind more (x ∷ log) =
    (x ≡ record { ask = CallJob; reply = JobGiven job }) × AsksCalls jobs behind more log

-- So many bags at most are taken, and each one's jobs are called before the next is looked for.
abbrev pub AsksBags : {J : Type 0} (x bags : ℕ) → Part J → Part J
AsksBags x zero behind = behind
AsksBags x (suc bags) behind = AsksTakeSteps x behind (λ jobs. AsksCalls jobs (AsksBags x bags behind))

-- the epoch is loaded, all words are scanned, and bags are taken for the epoch that this gave
abbrev pub AsksCollection : {J : Type 0} → Sizes → Part J → Part J
AsksCollection sizes behind = AsksLoad (λ e. AsksScan e 0 sizes.positions (λ x. AsksBags x sizes.collect_bags behind))

-- steps of a put are made until the bag is in the store, or each place was found occupied
abbrev pub AsksPutSteps : {J : Type 0} (seal : ℕ) → (done full : Part J) → Part J
AsksPutSteps seal done full more [] = more ≡ true
AsksPutSteps seal done full more (x ∷ log) =
    ((x ≡ record { ask = PutBag seal; reply = PutStepped Again }) × AsksPutSteps seal done full more log)
    ⊎ ((x ≡ record { ask = PutBag seal; reply = PutStepped Done }) × done more log)
    ⊎ ((x ≡ record { ask = PutBag seal; reply = PutStepped Full }) × full more log)

-- the epoch is loaded, and the held bag is put, sealed with it
abbrev pub AsksPut : {J : Type 0} → (done full : Part J) → Part J
AsksPut done full = AsksLoad (λ seal. AsksPutSteps seal done full)

-- a pin with no guard counted, which collects where the count of pins before was a multiple of 128
abbrev pub AsksPin : {J : Type 0} → Machine J → Part J → Part J
AsksPin m behind =
    AsksLoad (λ e. AsksStore (StorePinned e)
    (AsksLoad (λ again. Choose (m.pins % 128 == 0) (AsksCollection m.sizes behind) behind)))

-- the own word is stored as not pinned, and then as free
abbrev pub AsksLeave : {J : Type 0} → Part J
AsksLeave = AsksStore StoreUnpinned (AsksStore StoreFree AsksNoMore)

-- THE TABLE

-- what the machine m asks in an action that it begins
abbrev pub AsksOf : {J : Type 0} → Action → Machine J → Part J
AsksOf Pin m = Choose (m.guards == 0) (AsksPin m AsksNoMore) AsksNoMore
AsksOf Unpin m = Choose (m.guards == 1) (AsksStore StoreUnpinned AsksNoMore) AsksNoMore
AsksOf Repin m =
    Choose (m.guards == 1)
    (AsksLoad (λ e. Choose (m.published == e) AsksNoMore
    (AsksStore (StoreRepinned e) (AsksLoad (λ again. AsksNoMore)))))
    AsksNoMore
AsksOf Defer m =
    Choose (length m.held == m.sizes.bag_jobs) (AsksPut (AsksKeep AsksNoMore) AsksNoMore) (AsksKeep AsksNoMore)
AsksOf Flush m = Choose (is_empty m.held) (AsksCollection m.sizes AsksNoMore)
    (AsksPut (AsksCollection m.sizes AsksNoMore) (AsksCollection m.sizes AsksNoMore))
AsksOf Release m =
    AsksPin m (Choose (is_empty m.held) AsksLeave (AsksPut AsksLeave (AsksStore StoreUnpinned AsksNoMore)))
