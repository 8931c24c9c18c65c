-- One participant's machine: what it asks next, and what it is after the answer.
use Rattle.std.specs.Prelude.{◌≡◌, ℕ, ◌+◌, ◌-◌, ◌*◌, ◌%◌, ◌^◌, ◌<◌, ◌≤◌, Bool, true, false, not, ◌&&◌, List, [], ◌∷◌}
use Rattle.std.specs.Prelude.{◌++◌, length, Option, Some, None, ◌==◌, if◌then◌else◌}
use Rattle.epoch_bags.specs.Bags.{Sealed, IsExpired}
pub use Rattle.epoch_bags.specs.Bags.{is_empty}
use Rattle.epoch_bags.specs.Stores.{IsInserted}
use Rattle.epoch_bags.specs.declared.queue.PutStep.{PutStep}
use Rattle.epoch_bags.specs.declared.queue.PutStep.TheVariants.{Again, Done, Full}
use Rattle.epoch_bags.specs.declared.queue.TakeStep.{TakeStep}
use Rattle.epoch_bags.specs.declared.queue.TakeStep.TheVariants.{Again as TakeAgain, Empty, Got}
use Rattle.epoch_machine.specs.declared.machine.Action.{Action}
use Rattle.epoch_machine.specs.declared.machine.Action.TheVariants.{Pin, Unpin, Repin, Defer, Flush, Release}
use Rattle.epoch_machine.specs.declared.machine.Sizes.{Sizes}
use Rattle.epoch_machine.specs.declared.machine.Stage.{Stage}
use Rattle.epoch_machine.specs.declared.machine.Stage.TheVariants.{Idle, LoadPin, StorePin, ReloadPin, LoadScan, Scan}
use Rattle.epoch_machine.specs.declared.machine.Stage.TheVariants.{Advance, Take, Calling, LoadSeal, Put, Keep}
use Rattle.epoch_machine.specs.declared.machine.Stage.TheVariants.{LoadRepin, StoreRepin, ReloadRepin, StoreUnpinned}
use Rattle.epoch_machine.specs.declared.machine.Stage.TheVariants.{StoreFree, End}
use Rattle.epoch_machine.specs.declared.machine.Ask.{Ask}
use Rattle.epoch_machine.specs.declared.machine.Ask.TheVariants.{LoadEpoch, LoadWord, StorePinned, StoreRepinned}
use Rattle.epoch_machine.specs.declared.machine.Ask.TheVariants.{StoreUnpinned as AskUnpinned, StoreFree as AskFree}
use Rattle.epoch_machine.specs.declared.machine.Ask.TheVariants.{StoreEpoch, PutBag, TakeBag, KeepJob, CallJob}
use Rattle.epoch_machine.specs.declared.machine.Answer.{Answer}
use Rattle.epoch_machine.specs.declared.machine.Answer.TheVariants.{Epoch, Word, Stored, Job}

pub record Machine (J : Type 0) : Type 0 where
  pub stage : Stage
  pub action : Action  -- the one under way, or the last one
  pub guards : ℕ  -- how many are counted
  pub published : ℕ  -- the number published last
  pub pins : ℕ  -- the pins so far, modulo 128
  pub sizes : Sizes
  pub full : Bool  -- the put of the action under way found no place
  pub held : List J  -- the jobs in the held bag, the oldest first
  pub hand : List J  -- what is left of the bag taken

-- no action is under way
abbrev pub rests : Stage → Bool
rests Idle = true
rests _ = false

abbrev pub with_stage : {J : Type 0} → Machine J → Stage → Machine J
with_stage m s = record m { stage = s }

abbrev pub rest : {A : Type 0} → List A → List A
rest [] = []
rest (x ∷ xs) = xs

-- THE STAGES AFTER EACH PART

abbrev pub after_collect : {J : Type 0} → Action → List J → Stage
after_collect Release [] = StoreUnpinned
after_collect Release (job ∷ jobs) = LoadSeal
after_collect _ _ = End

-- the first pin collects, and each 128th after it
abbrev pub after_pin : {J : Type 0} → Machine J → Stage
after_pin m = if m.pins == 1 then LoadScan else after_collect m.action m.held

abbrev pub after_put : Action → Bool → Stage
after_put Flush _ = LoadScan
after_put Defer false = Keep
after_put Release _ = StoreUnpinned
after_put _ _ = End

abbrev pub after_unpin : Action → Bool → Stage
after_unpin Release false = StoreFree
after_unpin _ _ = End

-- where a bag is called to its end, the next one is looked for, so many at most
abbrev pub after_job : {J : Type 0} → Machine J → ℕ → ℕ → List J → Stage
after_job m x k jobs = if is_empty jobs
    then (if k + 1 == m.sizes.collect_bags then after_collect m.action m.held else Take x (k + 1)) else Calling x k

-- WHAT IT ASKS

abbrev pub ask_at : Stage → Option Ask
ask_at Idle = None
ask_at LoadPin = Some LoadEpoch
ask_at (StorePin e) = Some (StorePinned e)
ask_at ReloadPin = Some LoadEpoch
ask_at LoadScan = Some LoadEpoch
ask_at (Scan e k) = Some (LoadWord k)
ask_at (Advance e) = Some (StoreEpoch (e + 1))
ask_at (Take x k) = Some (TakeBag x)
ask_at (Calling x k) = Some CallJob
ask_at LoadSeal = Some LoadEpoch
ask_at (Put s) = Some (PutBag s)
ask_at Keep = Some KeepJob
ask_at LoadRepin = Some LoadEpoch
ask_at (StoreRepin e) = Some (StoreRepinned e)
ask_at ReloadRepin = Some LoadEpoch
ask_at StoreUnpinned = Some AskUnpinned
ask_at StoreFree = Some AskFree
ask_at End = None

abbrev pub asks : {J : Type 0} → Machine J → Option Ask
asks m = ask_at m.stage

-- WHAT IT IS AFTER THE ANSWER

-- a participant's word is pinned, and in another epoch than e
abbrev pub holds_up : ℕ → ℕ → Bool
holds_up e w = (w % 2 == 1) && not (w == 2 * e + 1)

-- after the last word the epoch advances, unless it is the greatest
abbrev pub scanned : ℕ → Stage
scanned e = if e == 2 ^ 63 - 1 then Take e 0 else Advance e

abbrev pub past_word : ℕ → ℕ → ℕ → ℕ → Stage
past_word positions e k w =
    if holds_up e w then Take e 0 else (if k + 1 == positions then scanned e else Scan e (k + 1))

-- a new registration, and what a freed position is
abbrev pub fresh : {J : Type 0} → Sizes → Machine J
fresh sizes = record {
  stage = Idle;
  action = Pin;
  guards = 0;
  published = 0;
  pins = 0;
  sizes = sizes;
  full = false;
  held = [];
  hand = [];
}

-- the stage is an argument of its own, so that a proof goes by its cases
abbrev pub hears : {J : Type 0} → Machine J → Stage → Answer J → Machine J
hears m LoadPin (Epoch e) = with_stage m (StorePin e)
hears m ReloadPin (Epoch e) = with_stage m (after_pin m)
hears m LoadScan (Epoch e) = with_stage m (Scan e 0)
hears m LoadSeal (Epoch e) = with_stage m (Put e)
hears m LoadRepin (Epoch e) = with_stage m (if m.published == e then End else StoreRepin e)
hears m ReloadRepin (Epoch e) = with_stage m End
hears m (Scan e k) (Word w) = with_stage m (past_word m.sizes.positions e k w)
hears m (StorePin e) Stored = record m { stage = ReloadPin; published = e; pins = (m.pins + 1) % 128 }
hears m (StoreRepin e) Stored = record m { stage = ReloadRepin; published = e }
hears m (Advance e) Stored = with_stage m (Take (e + 1) 0)
hears m StoreUnpinned Stored = with_stage m (after_unpin m.action m.full)
hears m StoreFree Stored = fresh m.sizes
hears m Keep (Job job) = record m { stage = End; held = m.held ++ job ∷ [] }
hears m _ _ = m

abbrev pub heard : {J : Type 0} → Machine J → Answer J → Machine J
heard m a = hears m m.stage a

-- after a step of a put
abbrev pub put_heard : {J : Type 0} → Machine J → PutStep → Machine J
put_heard m Again = m
put_heard m Done = record m { stage = after_put m.action false; full = false; held = [] }
put_heard m Full = record m { stage = after_put m.action true; full = true }

-- after a step of a collection; the jobs are those of a bag taken
abbrev pub took_heard : {J : Type 0} → Machine J → Stage → TakeStep → List J → Machine J
took_heard m (Take x k) TakeAgain jobs = m
took_heard m (Take x k) Empty jobs = with_stage m (after_collect m.action m.held)
took_heard m (Take x k) Got jobs = record m { stage = after_job m x k jobs; hand = jobs }
took_heard m _ step jobs = m

-- after a job was taken out of the hand to be called; these are left
abbrev pub gives : {J : Type 0} → Machine J → Stage → List J → Machine J
gives m (Calling x k) jobs = record m { stage = after_job m x k jobs; hand = jobs }
gives m _ jobs = m

-- WHAT A STEP OF THE STORE DOES TO ITS BAGS

-- the held jobs are put in under the seal, or the bags stay
abbrev pub PutsHeld : {J : Type 0} → ℕ → Machine J → List (Sealed J) → PutStep → List (Sealed J) → Type 0
PutsHeld seal m old Done new = IsInserted (record { seal = seal; jobs = m.held }) old new
PutsHeld seal m old _ new = new ≡ old

-- a bag that is expired is taken out and is in hand, or the bags stay
abbrev pub TakesHand : {J : Type 0} → ℕ → List (Sealed J) → TakeStep → List (Sealed J) → List J → Type 0
TakesHand {J} x old Got new hand = (bag : Sealed J) × (bag.jobs ≡ hand) × IsExpired x bag × IsInserted bag new old
TakesHand x old _ new hand = new ≡ old

-- HOW AN ACTION BEGINS AND ENDS

abbrev pub first_stage : {J : Type 0} → Action → Machine J → Stage
first_stage Pin m = if m.guards == 0 then LoadPin else End
first_stage Unpin m = if m.guards == 1 then StoreUnpinned else End
first_stage Repin m = if m.guards == 1 then LoadRepin else End
first_stage Defer m = if length m.held == m.sizes.bag_jobs then LoadSeal else Keep
first_stage Flush m = if is_empty m.held then LoadScan else LoadSeal
first_stage Release m = LoadPin

abbrev pub begun : {J : Type 0} → Action → Machine J → Machine J
begun a m = record m { stage = first_stage a m; action = a; full = false }

-- the guards counted from the end of the action
abbrev pub guards_after : Action → ℕ → ℕ
guards_after Pin n = n + 1
guards_after Unpin n = n - 1
guards_after _ n = n

abbrev pub ended : {J : Type 0} → Machine J → Machine J
ended m = record m { stage = Idle; guards = guards_after m.action m.guards }

-- WHAT A MACHINE KEEPS OF ITSELF

-- the numbers at a stage stay in their ranges, and there is room for a job that is kept; held is how many are held
abbrev pub StageFits : Sizes → ℕ → Stage → Type 0
StageFits sizes held (StorePin e) = e < 2 ^ 63
StageFits sizes held (StoreRepin e) = e < 2 ^ 63
StageFits sizes held (Scan e k) = (e < 2 ^ 63) × (k < sizes.positions)
StageFits sizes held (Advance e) = e + 1 < 2 ^ 63
StageFits sizes held (Take x k) = (x < 2 ^ 63) × (k < sizes.collect_bags)
StageFits sizes held (Calling x k) = (x < 2 ^ 63) × (k < sizes.collect_bags)
StageFits sizes held (Put s) = s < 2 ^ 63
StageFits sizes held Keep = held < sizes.bag_jobs
StageFits sizes held _ = Unit {0}

-- a bag is in hand while its jobs are called, and at no other stage
abbrev pub is_calling : Stage → Bool
is_calling (Calling x k) = true
is_calling _ = false

-- bags are looked for
abbrev pub is_taking : Stage → Bool
is_taking (Take x k) = true
is_taking _ = false

pub record IsSized (sizes : Sizes) : Type 0 where
  pub positions : 0 < sizes.positions
  pub bag_jobs : (0 < sizes.bag_jobs) × (sizes.bag_jobs ≤ 64)
  pub collect_bags : (0 < sizes.collect_bags) × (sizes.collect_bags ≤ 64)

-- what the answer of a step may be
abbrev pub IsAnswer : {J : Type 0} → Answer J → Type 0
IsAnswer (Epoch e) = e < 2 ^ 63
IsAnswer _ = Unit {0}

-- the numbers of an ask stay in their ranges
abbrev pub AskFits : Sizes → Ask → Type 0
AskFits sizes (LoadWord k) = k < sizes.positions
AskFits sizes (StorePinned e) = e < 2 ^ 63
AskFits sizes (StoreRepinned e) = e < 2 ^ 63
AskFits sizes (StoreEpoch e) = e < 2 ^ 63
AskFits sizes _ = Unit {0}
