-- What is ahead of a collection, and how the steps of its participant change that.
use Rattle.std.specs.Prelude.{◌≡◌, ℕ, ◌+◌, Bool, true, false, List, length, min, Option, Some}
use Rattle.epoch_bags.specs.Bags.{Sealed}
use Rattle.epoch_bags.specs.Stores.{AllExpired}
use Rattle.epoch_machine.specs.declared.machine.Ask.{Ask}
use Rattle.epoch_machine.specs.declared.machine.Ask.TheVariants.{LoadWord, StoreEpoch, TakeBag, CallJob}
use Rattle.epoch_machine.specs.declared.machine.Stage.{Stage}
use Rattle.epoch_machine.specs.declared.machine.Stage.TheVariants.{Take, Calling}
use Rattle.epoch_machine.specs.Machine.{Machine, is_taking}
use Rattle.epoch_laws.specs.declared.step.Deferral.{Deferral}

-- bags are looked for, or the jobs of one are called
abbrev pub is_collecting : Stage → Bool
is_collecting (Take x k) = true
is_collecting (Calling x k) = true
is_collecting _ = false

-- the epoch for which a collection takes bags
abbrev pub expiry_of : Stage → ℕ
expiry_of (Take x k) = x
expiry_of (Calling x k) = x
expiry_of _ = 0

-- the bags in the store, and how many of them a collection will take if nobody disturbs it
pub record Outlook : Type 0 where
  pub bags : List (Sealed Deferral)
  pub ahead : ℕ

abbrev pub outlook : List (Sealed Deferral) → ℕ → Outlook
outlook bags ahead = record { bags = bags; ahead = ahead }

-- where all bags are expired for the epoch x, a collection that begins has them ahead; it takes 64 at most
abbrev pub AllAhead : ℕ → Outlook → Type 0
AllAhead x r = AllExpired x r.bags → min 64 r.ahead ≡ min 64 (length r.bags)

-- A step of a collection, its machine being n after it. A bag that it takes was ahead, and where it ends the collection
-- without a bag, none was.
pub record TakesAhead (n : Machine Deferral) (old new : Outlook) : Type 0 where
  pub counted : is_collecting n.stage ≡ true → old.ahead + length new.bags ≡ new.ahead + length old.bags
  pub none : is_taking n.stage ≡ false → length new.bags ≡ length old.bags → old.ahead ≡ 0

-- What a step changes of it, by what it asks for. A collection begins anew with each word that a scan loads, and with
-- the store of the epoch. All bags are ahead of it then, unless somebody else is taking bags.
abbrev pub FindsAhead : Type 0 → Option Ask → Machine Deferral → Outlook → Outlook → Type 0
FindsAhead Alone (Some (LoadWord k)) n old new = Alone → AllAhead (expiry_of n.stage) new
FindsAhead Alone (Some (StoreEpoch e)) n old new = Alone → AllAhead (expiry_of n.stage) new
FindsAhead Alone (Some (TakeBag x)) n old new = TakesAhead n old new
FindsAhead Alone (Some CallJob) n old new = is_collecting n.stage ≡ true → new.ahead ≡ old.ahead
FindsAhead Alone _ n old new = Unit {0}

-- WHO CLAIMS BAGS

-- Its own claims count only while a participant is taking bags.
abbrev pub OwnClaims : Stage → (ℕ → Type 0) → ℕ → Type 0
OwnClaims s Claims place = (is_taking s ≡ true) × Claims place

-- A bag that is claimed after a step, and not by the participant that took the step, was claimed before it, and not by
-- that participant.
abbrev pub LeavesClaims : (ℕ → Type 0) → (ℕ → Type 0) → (ℕ → Type 0) → (ℕ → Type 0) → Type 0
LeavesClaims Claimed Own Claimed' Own' = (place : ℕ) → ¬ (Own' place) → Claimed' place → Claimed place × (¬ (Own place))

-- by what the step asks for: only a step of a collection claims a bag
abbrev pub MayClaim : Ask → Stage → (ℕ → Type 0) → (ℕ → Type 0) → (ℕ → Type 0) → (ℕ → Type 0) → Type 0
MayClaim (TakeBag x) s Claimed Claims Claimed' Claims' = LeavesClaims Claimed Claims Claimed' (OwnClaims s Claims')
MayClaim _ s Claimed Claims Claimed' Claims' = (place : ℕ) → Claimed' place → Claimed place
