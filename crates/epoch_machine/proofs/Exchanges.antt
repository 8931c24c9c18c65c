-- A log of a machine that asks for one thing begins with that ask, and goes on as the machine does after the reply.
use Rattle.std.proofs.Common.{◌≡◌, ℕ, Bool, true, List, [], ◌∷◌, Some, None, is_some, inl, inr, refl, ap, sym, subst}
use Rattle.std.proofs.Common.{◌∙◌}
use Rattle.epoch_bags.specs.declared.queue.PutStep.TheVariants.{Again, Done, Full}
use Rattle.epoch_machine.specs.declared.machine.Ask.{Ask}
use Rattle.epoch_machine.specs.declared.machine.Ask.TheVariants.{LoadEpoch, StorePinned, StoreRepinned, StoreUnpinned}
use Rattle.epoch_machine.specs.declared.machine.Ask.TheVariants.{StoreFree, StoreEpoch, PutBag, KeepJob}
use Rattle.epoch_machine.specs.declared.machine.Answer.TheVariants.{Epoch, Stored, Job}
use Rattle.epoch_machine.specs.Machine.{Machine, asks, heard, put_heard}
use Rattle.epoch_machine.specs.Asks.{Log, Reply, Heard, PutStepped, Exchange, IsReply, told, Asked, asks_more, Part}
use Rattle.epoch_machine.specs.Asks.{AsksNoMore, AsksLoad, AsksStore, AsksKeep, AsksPutSteps}

-- THE FIRST EXCHANGE

-- every log of the machine is of this part
abbrev pub LogsAre : {J : Type 0} → Machine J → Part J → Type 0
LogsAre {J} m part = (more : Bool) (log : Log J) (n : Machine J) → Asked m log n → asks_more n ≡ more → part more log

-- a machine whose log is over still asks what it asked
pub more_asked : {J : Type 0} (m n : Machine J) (ask : Ask) (more : Bool)
    → asks m ≡ Some ask → n ≡ m → asks_more n ≡ more → more ≡ true
more_asked m n ask more asked is at = sym at ∙ ap asks_more is ∙ ap is_some asked

-- what holds of this ask with each of its replies holds of the first exchange
pub begins : {J : Type 0} (m n : Machine J) (ask : Ask) (Holds : Exchange J → Type 0) (x : Exchange J) (log : Log J)
    → asks m ≡ Some ask
    → ((reply : Reply J) → IsReply ask m.hand reply → Asked (told m reply) log n
    → Holds (record { ask = ask; reply = reply }))
    → Asked m (x ∷ log) n → Holds x
begins {J} m n ask Holds x log asked next run =
    let same : ask ≡ x.ask = cc (asked, run.0) in
    let P : Ask → Type 0 = λ a. Holds (record { ask = a; reply = x.reply }) in
    subst P same (next x.reply (subst (λ (a : Ask). IsReply a m.hand x.reply) (sym same) run.1) run.2)

-- a machine that asks for nothing has an empty log, and asks no more
pub ends : {J : Type 0} (m : Machine J) → asks m ≡ None → LogsAre m AsksNoMore
ends m none more [] n is at = (refl, sym at ∙ ap asks_more is ∙ ap is_some none)
ends m none more (x ∷ log) n run at = absurd (cc (none, run.0))

-- LOADS OF THE EPOCH

epoch_told : {J : Type 0} (m n : Machine J) (behind : ℕ → Part J) (more : Bool) (log : Log J)
    → ((e : ℕ) → LogsAre (heard m (Epoch e)) (behind e))
    → asks_more n ≡ more
    → (reply : Reply J) → IsReply LoadEpoch m.hand reply → Asked (told m reply) log n
    → AsksLoad behind more (record { ask = LoadEpoch; reply = reply } ∷ log)
epoch_told m n behind more log next at (Heard (Epoch e)) fits run = (e, refl, next e more log n run at)
epoch_told m n behind more log next at _ fits run = absurd fits

-- where the epoch is asked for, each log is its load, and then what follows from the epoch found
pub loads : {J : Type 0} (m : Machine J) (behind : ℕ → Part J)
    → asks m ≡ Some LoadEpoch
    → ((e : ℕ) → LogsAre (heard m (Epoch e)) (behind e))
    → LogsAre m (AsksLoad behind)
loads m behind asked next more [] n is at = more_asked m n LoadEpoch more asked is at
loads m behind asked next more (x ∷ log) n run at =
    begins m n LoadEpoch (λ y. AsksLoad behind more (y ∷ log)) x log asked (epoch_told m n behind more log next at) run

-- STORES

-- such an ask is told no more than that the store was made
abbrev pub IsStore : Ask → Type 0
IsStore (StorePinned e) = Unit {0}
IsStore (StoreRepinned e) = Unit {0}
IsStore StoreUnpinned = Unit {0}
IsStore StoreFree = Unit {0}
IsStore (StoreEpoch e) = Unit {0}
IsStore _ = ⊥

store_told : {J : Type 0} (store : Ask) (hand : List J) (reply : Reply J)
    → IsStore store → IsReply store hand reply → reply ≡ Heard Stored
store_told (StorePinned e) hand (Heard Stored) is fits = refl
store_told (StoreRepinned e) hand (Heard Stored) is fits = refl
store_told StoreUnpinned hand (Heard Stored) is fits = refl
store_told StoreFree hand (Heard Stored) is fits = refl
store_told (StoreEpoch e) hand (Heard Stored) is fits = refl
store_told (StorePinned e) hand _ is fits = absurd fits
store_told (StoreRepinned e) hand _ is fits = absurd fits
store_told StoreUnpinned hand _ is fits = absurd fits
store_told StoreFree hand _ is fits = absurd fits
store_told (StoreEpoch e) hand _ is fits = absurd fits
store_told _ hand reply is fits = absurd is

stored : {J : Type 0} (m n : Machine J) (store : Ask) (behind : Part J) (more : Bool) (log : Log J)
    → LogsAre (heard m Stored) behind
    → asks_more n ≡ more
    → (reply : Reply J) → reply ≡ Heard Stored → Asked (told m reply) log n
    → AsksStore store behind more (record { ask = store; reply = reply } ∷ log)
stored {J} m n store behind more log next at reply is run = (
  ap (λ (r : Reply J). let x : Exchange J = record { ask = store; reply = r } in x) is,
  next more log n (subst (λ (r : Reply J). Asked (told m r) log n) is run) at,
)

-- where a store is asked for, each log is that store, and then what follows it
pub stores : {J : Type 0} (m : Machine J) (store : Ask) (behind : Part J)
    → IsStore store
    → asks m ≡ Some store
    → LogsAre (heard m Stored) behind
    → LogsAre m (AsksStore store behind)
stores m store behind is asked next more [] n same at = more_asked m n store more asked same at
stores m store behind is asked next more (x ∷ log) n run at =
    begins m n store (λ y. AsksStore store behind more (y ∷ log)) x log asked
    (λ reply fits. stored m n store behind more log next at reply (store_told store m.hand reply is fits)) run

-- THE JOB KEPT

job_told : {J : Type 0} (m n : Machine J) (behind : Part J) (more : Bool) (log : Log J)
    → ((job : J) → LogsAre (heard m (Job job)) behind)
    → asks_more n ≡ more
    → (reply : Reply J) → IsReply KeepJob m.hand reply → Asked (told m reply) log n
    → AsksKeep behind more (record { ask = KeepJob; reply = reply } ∷ log)
job_told m n behind more log next at (Heard (Job job)) fits run = (job, refl, next job more log n run at)
job_told m n behind more log next at _ fits run = absurd fits

-- where a job is asked for, each log is the job kept, and then what follows it
pub keeps : {J : Type 0} (m : Machine J) (behind : Part J)
    → asks m ≡ Some KeepJob
    → ((job : J) → LogsAre (heard m (Job job)) behind)
    → LogsAre m (AsksKeep behind)
keeps m behind asked next more [] n is at = more_asked m n KeepJob more asked is at
keeps m behind asked next more (x ∷ log) n run at =
    begins m n KeepJob (λ y. AsksKeep behind more (y ∷ log)) x log asked (job_told m n behind more log next at) run

-- THE STEPS OF A PUT

put_told : {J : Type 0} (m n : Machine J) (seal : ℕ) (done full : Part J) (more : Bool) (log : Log J)
    → (Asked m log n → AsksPutSteps seal done full more log)
    → LogsAre (put_heard m Done) done
    → LogsAre (put_heard m Full) full
    → asks_more n ≡ more
    → (reply : Reply J) → IsReply (PutBag seal) m.hand reply → Asked (told m reply) log n
    → AsksPutSteps seal done full more (record { ask = PutBag seal; reply = reply } ∷ log)
put_told m n seal done full more log again made refused at (PutStepped Again) fits run = inl (refl, again run)
put_told m n seal done full more log again made refused at (PutStepped Done) fits run =
    inr (inl (refl, made more log n run at))
put_told m n seal done full more log again made refused at (PutStepped Full) fits run =
    inr (inr (refl, refused more log n run at))
put_told m n seal done full more log again made refused at _ fits run = absurd fits

-- where a put is asked for, each log is its steps, and then what follows from how they end
pub put_steps : {J : Type 0} (m : Machine J) (seal : ℕ) (done full : Part J)
    → asks m ≡ Some (PutBag seal)
    → LogsAre (put_heard m Done) done
    → LogsAre (put_heard m Full) full
    → LogsAre m (AsksPutSteps seal done full)
put_steps m seal done full asked made refused more [] n is at = more_asked m n (PutBag seal) more asked is at
put_steps m seal done full asked made refused more (x ∷ log) n run at =
    begins m n (PutBag seal) (λ y. AsksPutSteps seal done full more (y ∷ log)) x log asked
    (put_told m n seal done full more log
    (λ again. put_steps m seal done full asked made refused more log n again at) made refused at) run
