-- How many steps a call still takes at most.
use Rattle.std.specs.Prelude.{ℕ, ◌+◌, ◌-◌, ◌*◌, length, ◌≡◌, zero, suc, Some}
use Rattle.epoch_machine.specs.declared.machine.Action.{Action}
use Rattle.epoch_machine.specs.declared.machine.Action.TheVariants.{Flush, Release}
use Rattle.epoch_machine.specs.declared.machine.Sizes.{Sizes}
use Rattle.epoch_machine.specs.declared.machine.Stage.{Stage}
use Rattle.epoch_machine.specs.declared.machine.Stage.TheVariants.{Idle as Resting, LoadPin, StorePin, ReloadPin}
use Rattle.epoch_machine.specs.declared.machine.Stage.TheVariants.{LoadScan, Scan, Advance, Take, Calling, LoadSeal}
use Rattle.epoch_machine.specs.declared.machine.Stage.TheVariants.{Put, Keep, LoadRepin, StoreRepin, ReloadRepin}
use Rattle.epoch_machine.specs.declared.machine.Stage.TheVariants.{StoreUnpinned, StoreFree, End}
use Rattle.epoch_machine.specs.Machine.{Machine}
use Rattle.epoch_laws.specs.declared.step.Deferral.{Deferral}
use Rattle.epoch_laws.specs.declared.step.Progress.{Progress}
use Rattle.epoch_laws.specs.declared.step.Progress.TheVariants.{Idle, Driven, CallsNow, Ends, Accesses}
use Rattle.epoch_laws.specs.Run.{WorldSeat}
use Rattle.epoch_laws.specs.declared.heap.access.Access.{Access}
use Rattle.epoch_laws.specs.declared.heap.access.Access.TheVariants.{Place, Point}
use Rattle.epoch_laws.specs.declared.heap.access.Change.TheVariants.{FetchUpdate}
use Rattle.epoch_laws.specs.declared.heap.access.Ptr.{Ptr}
use Rattle.epoch_laws.specs.Heap.{Heap, pointer_at}

-- how many steps in the store the put and the collection under way have left, and how many a new one has at most
pub record InStore : Type 0 where
  pub puts : ℕ
  pub takes : ℕ
  pub most : ℕ

-- how many steps a put, or a collection, takes in the store at most, by the number of its places
abbrev pub most_in_store : ℕ → ℕ
most_in_store places = 3 * places + 65

abbrev pub in_store : ℕ → ℕ → ℕ → InStore
in_store puts takes most = record { puts = puts; takes = takes; most = most }

-- the same where the cursors of the put and of the collection, and the number of places, say it
abbrev pub steps_in_store : {P T : Type 0} → (ℕ → P → ℕ) → (ℕ → T → ℕ) → ℕ → P → T → InStore
steps_in_store puts takes places putting taking = in_store (puts places putting) (takes places taking)
    (most_in_store places)

-- a release puts its bag after the collection, and gives up its position
abbrev pub past_collect : Action → ℕ → ℕ
past_collect Release most = most + 4
past_collect _ most = 1

-- a collection that has taken so many bags, each of at most 64 jobs, and what follows it
abbrev pub collection_steps : Action → Sizes → ℕ → ℕ → ℕ → ℕ
collection_steps a sizes most taken takes = takes + (sizes.collect_bags - taken) * 64 + 1 + past_collect a most

-- the words that a scan still looks at, the store of the epoch, and the collection
abbrev pub scan_steps : Action → Sizes → ℕ → ℕ → ℕ
scan_steps a sizes most next = sizes.positions - next + 1 + collection_steps a sizes most 0 most

-- a flush collects after its put
abbrev pub past_put : Action → Sizes → ℕ → ℕ
past_put Flush sizes most = 1 + scan_steps Flush sizes most 0
past_put _ sizes most = 2

-- by the action, the stage, and how many jobs are in hand
abbrev pub steps_at : Action → Sizes → ℕ → InStore → Stage → ℕ
steps_at a sizes hand n Resting = 0
steps_at a sizes hand n LoadPin = 4 + scan_steps a sizes n.most 0
steps_at a sizes hand n (StorePin e) = 3 + scan_steps a sizes n.most 0
steps_at a sizes hand n ReloadPin = 2 + scan_steps a sizes n.most 0
steps_at a sizes hand n LoadScan = 1 + scan_steps a sizes n.most 0
steps_at a sizes hand n (Scan e k) = scan_steps a sizes n.most k
steps_at a sizes hand n (Advance e) = 1 + collection_steps a sizes n.most 0 n.most
steps_at a sizes hand n (Take x k) = collection_steps a sizes n.most k n.takes
steps_at a sizes hand n (Calling x k) = hand + collection_steps a sizes n.most (k + 1) n.takes
steps_at a sizes hand n LoadSeal = n.most + 2 + past_put a sizes n.most
steps_at a sizes hand n (Put s) = n.puts + 1 + past_put a sizes n.most
steps_at a sizes hand n Keep = 2
steps_at a sizes hand n LoadRepin = 4
steps_at a sizes hand n (StoreRepin e) = 3
steps_at a sizes hand n ReloadRepin = 2
steps_at a sizes hand n StoreUnpinned = 2
steps_at a sizes hand n StoreFree = 1
steps_at a sizes hand n End = 1

abbrev pub machine_steps : Machine Deferral → InStore → ℕ
machine_steps m n = steps_at m.action m.sizes (length m.hand) n m.stage

-- A call on cells and pointers, of which so many steps are made; slots is how many a Place may look at. Where nobody
-- else acts, an update makes its first exchange.
abbrev pub access_steps : ℕ → Access → ℕ → ℕ
access_steps slots (Place v) k = slots - k + 1
access_steps slots (Point g spot (FetchUpdate tries by)) zero = 3
access_steps slots _ k = 2

abbrev pub steps_of : ℕ → Progress → Machine Deferral → InStore → ℕ
steps_of slots (Driven c) m n = machine_steps m n
steps_of slots (CallsNow removes) m n = 2
steps_of slots (Accesses a k found) m n = access_steps slots a k
steps_of slots (Ends r) m n = 1
steps_of slots Idle m n = 0

-- a participant's call under way
abbrev pub steps_left : ℕ → WorldSeat → InStore → ℕ
steps_left slots seat n = steps_of slots seat.progress seat.machine n

-- any call, from its Begin on
abbrev pub call_bound : ℕ → Sizes → ℕ → ℕ
call_bound slots sizes most = slots + sizes.positions + sizes.collect_bags * 64 + 2 * most + 10

-- where p's update is about to exchange, what it found last stands, if a pointer stands there at all
abbrev pub IsSteady : Heap → Progress → Type 0
IsSteady h (Accesses (Point g spot (FetchUpdate tries by)) (suc k) found) =
    (ptr : Ptr) → pointer_at h spot ≡ Some ptr → ptr ≡ found
IsSteady h _ = Unit {0}
