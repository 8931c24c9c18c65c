-- How many tickets the deferrals under way may still take, and which machines keep a job.
use Rattle.std.proofs.Common.{◌≡◌, ℕ, ◌-◌, ◌^◌, ◌<◌, ◌≤◌, ◌==◌, Bool, true, false, List, [], ◌∷◌, length, Some, None}
use Rattle.std.proofs.Common.{refl, ap, arith, if◌then◌else◌, sum_by}
use Rattle.std.proofs.lemmas.Bool.{leb-false}
use Rattle.std.proofs.lemmas.List.Sums.{sum_by-cons}
use Rattle.epoch_cells.specs.declared.fault.Fault.TheVariants.{StrangerGuard, StrangerPointer, TicketsOut}
use Rattle.epoch_machine.specs.declared.machine.Action.{Action}
use Rattle.epoch_machine.specs.declared.machine.Action.TheVariants.{Pin, Unpin, Repin, Defer, Flush, Release}
use Rattle.epoch_machine.specs.declared.machine.Stage.{Stage}
use Rattle.epoch_machine.specs.declared.machine.Stage.TheVariants.{LoadPin, LoadScan, LoadSeal, Keep, LoadRepin}
use Rattle.epoch_machine.specs.declared.machine.Stage.TheVariants.{StoreUnpinned, End}
use Rattle.epoch_machine.specs.Machine.{Machine, is_empty, after_collect, after_pin, after_put, after_unpin, after_job}
use Rattle.epoch_machine.specs.Machine.{past_word, first_stage}
use Rattle.epoch_machine.proofs.StagesAfter.{either_way, after_pin_at, past_word_at, after_job_at}
use Rattle.epoch_laws.specs.declared.step.Call.TheVariants.{Defer as DeferCall, DeferDestroy}
use Rattle.epoch_laws.specs.declared.heap.access.Ptr.{Ptr}
use Rattle.epoch_laws.specs.Heap.{Heap}
use Rattle.epoch_laws.specs.declared.step.Deferral.{Deferral}
pub use Rattle.epoch_laws.specs.Kept.{is_busy, pending_at, pending, KeepsAt, KeepsAsDeferral, TicketsBounded}
use Rattle.epoch_laws.specs.Run.{WorldSeat, call_refusal}

pending_most : (a : Action) (s t : Stage) → is_busy s ≡ true → pending_at a t ≤ pending_at a s
pending_most Defer s t busy = most (is_busy t) (is_busy s) busy
  where
    most : (b c : Bool) → c ≡ true → (if b then 1 else 0) ≤ (if c then 1 else 0)
    most true true busy = omega arith
    most false true busy = omega arith
    most b false busy = absurd (cc)
pending_most _ s t busy = omega arith

-- a participant has at most one deferral under way
pub pending_one : (a : Action) (s : Stage) → pending_at a s ≤ 1
pending_one Defer s = one (is_busy s)
  where
    one : (b : Bool) → (if b then 1 else 0) ≤ 1
    one true = omega arith
    one false = omega arith
pending_one _ s = omega arith

-- one that is not busy has none
pub none_pending : (a : Action) (s : Stage) → is_busy s ≡ false → pending_at a s ≡ 0
none_pending Defer s rests =
    let one_or_none : Bool → ℕ = λ b. if b then 1 else 0 in
    ap one_or_none rests
none_pending _ s rests = refl

-- a sum over the seats of at most one each is at most their number
pub sum_most : (f : WorldSeat → ℕ) (seats : List WorldSeat)
    → ((seat : WorldSeat) → f seat ≤ 1)
    → sum_by f seats ≤ length seats
sum_most f [] one = omega arith
sum_most f (seat ∷ seats) one = omega (arith, sum_by-cons f seat seats, one seat, sum_most f seats one)

-- only a deferral keeps a job: what follows a collection
pub keeps_collected : (a b : Action) (jobs : List Deferral) → KeepsAt a (after_collect b jobs)
keeps_collected a Release [] = tt
keeps_collected a Release (job ∷ jobs) = tt
keeps_collected a _ jobs = tt

-- what follows a pin
pub keeps_pinned : (a : Action) (m : Machine Deferral) → KeepsAt a (after_pin m)
keeps_pinned a m = after_pin_at (KeepsAt a) m tt (keeps_collected a m.action m.held)

-- what follows a put
pub keeps_put : (a : Action) (full : Bool) → KeepsAt a (after_put a full)
keeps_put Defer false = refl
keeps_put _ _ = tt

-- what follows an unpin
pub keeps_unpinned : (a b : Action) (full : Bool) → KeepsAt a (after_unpin b full)
keeps_unpinned a Release false = tt
keeps_unpinned a _ full = tt

-- what follows the call of a job
pub keeps_called : (a : Action) (m : Machine Deferral) (x k : ℕ) (jobs : List Deferral)
    → KeepsAt a (after_job m x k jobs)
keeps_called a m x k jobs = after_job_at (KeepsAt a) m x k jobs tt tt (keeps_collected a m.action m.held)

-- what follows a word of a scan
pub keeps_past : (a : Action) (positions e k w : ℕ) → KeepsAt a (past_word positions e k w)
keeps_past a positions e k w = past_word_at (KeepsAt a) positions e k w tt tt tt

-- and what an action begins with
pub keeps_first : (a : Action) (m : Machine Deferral) → KeepsAt a (first_stage a m)
keeps_first Pin m = either_way (KeepsAt Pin) (m.guards == 0) LoadPin End tt tt
keeps_first Unpin m = either_way (KeepsAt Unpin) (m.guards == 1) StoreUnpinned End tt tt
keeps_first Repin m = either_way (KeepsAt Repin) (m.guards == 1) LoadRepin End tt tt
keeps_first Defer m = either_way (KeepsAt Defer) (length m.held == m.sizes.bag_jobs) LoadSeal Keep tt refl
keeps_first Flush m = either_way (KeepsAt Flush) (is_empty m.held) LoadScan LoadSeal tt tt
keeps_first Release m = tt

-- a deferral is begun only below the limit
pub room_given : (g : ℕ) (seat : WorldSeat) (tickets : ℕ) (heap : Heap)
    → call_refusal (DeferCall (Some g)) seat tickets heap ≡ None
    → tickets < 2 ^ 64 - 4097
room_given g seat tickets heap given = leb-false (2 ^ 64 - 4097) tickets (not_refused _ _ given)
  where
    not_refused : (out late : Bool)
        → (if out then (if late then Some TicketsOut else None) else Some StrangerGuard) ≡ None
        → late ≡ false
    not_refused true true given = absurd (cc)
    not_refused true false given = refl
    not_refused false late given = absurd (cc)

-- as is that of a removal
pub removal_room_given : (g : ℕ) (ptr : Ptr) (seat : WorldSeat) (tickets : ℕ) (heap : Heap)
    → call_refusal (DeferDestroy (Some g) ptr) seat tickets heap ≡ None
    → tickets < 2 ^ 64 - 4097
removal_room_given g ptr seat tickets heap given = leb-false (2 ^ 64 - 4097) tickets (not_refused _ _ _ given)
  where
    not_refused : (out known late : Bool)
        → (if out then (if known then (if late then Some TicketsOut else None) else Some StrangerPointer)
        else Some StrangerGuard) ≡ None
        → late ≡ false
    not_refused true true true given = absurd (cc)
    not_refused true true false given = refl
    not_refused true false late given = absurd (cc)
    not_refused false known late given = absurd (cc)

-- a machine under the same action takes no more, if it was busy
pub busy_takes : (a b : Action) (s t u : Stage)
    → b ≡ a
    → pending_at a s ≡ pending_at a u
    → is_busy u ≡ true
    → pending_at b t ≤ pending_at a s
busy_takes a b s t u same at busy =
    omega (arith, ap (λ (c : Action). pending_at c t) same, pending_most a u t busy)
