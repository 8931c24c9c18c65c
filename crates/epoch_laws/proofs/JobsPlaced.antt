-- Where a participant may have jobs, by the stage of its machine.
use Rattle.std.proofs.Common.{◌≡◌, ◌≢◌, ℕ, ◌==◌, Bool, true, false, List, [], ◌∷◌, length, Option, Some, None, refl}
use Rattle.std.proofs.Common.{subst, if◌then◌else◌}
use Rattle.epoch_machine.specs.declared.machine.Action.{Action}
use Rattle.epoch_machine.specs.declared.machine.Action.TheVariants.{Pin, Unpin, Repin, Defer, Flush, Release}
use Rattle.epoch_machine.specs.declared.machine.Stage.{Stage}
use Rattle.epoch_machine.specs.declared.machine.Stage.TheVariants.{Idle, LoadPin, Calling, LoadScan, LoadSeal, Keep}
use Rattle.epoch_machine.specs.declared.machine.Stage.TheVariants.{LoadRepin, StoreUnpinned, StoreFree, End}
use Rattle.epoch_machine.specs.Machine.{Machine, is_empty, after_collect, after_pin, after_put, after_unpin, after_job}
use Rattle.epoch_machine.specs.Machine.{past_word, first_stage, begun}
use Rattle.epoch_machine.proofs.StagesAfter.{either_way, after_pin_at, past_word_at, after_job_at}
use Rattle.epoch_laws.specs.declared.step.Call.{Call}
use Rattle.epoch_laws.specs.declared.step.Call.TheVariants.{Pin as PinCall, Unpin as UnpinCall, Repin as RepinCall}
use Rattle.epoch_laws.specs.declared.step.Call.TheVariants.{Pause, Resume, Defer as DeferCall, Flush as FlushCall}
use Rattle.epoch_laws.specs.declared.step.Call.TheVariants.{Release as ReleaseCall, DeferDestroy, Access as AccessCall}
use Rattle.epoch_laws.specs.declared.heap.access.AccessAnswer.TheVariants.{Unit as UnitAnswer, Absent}
use Rattle.epoch_laws.specs.declared.step.Reply.TheVariants.{Done}
use Rattle.epoch_laws.specs.declared.step.Deferral.{Deferral}
use Rattle.epoch_laws.specs.declared.step.Word.TheVariants.{Free}
use Rattle.epoch_laws.specs.declared.step.Progress.{Progress}
use Rattle.epoch_laws.specs.declared.step.Progress.TheVariants.{Driven, CallsNow, Ends, Accesses}
use Rattle.epoch_laws.specs.Run.{WorldSeat, drives, begun_seat, with_guards, ended_seat, progress_after, accessed_seat}
use Rattle.epoch_laws.specs.declared.heap.access.AccessAnswer.{AccessAnswer}
use Rattle.epoch_laws.specs.declared.heap.access.Access.{Access}
use Rattle.epoch_laws.specs.declared.heap.access.Accessed.{Accessed}
use Rattle.epoch_laws.specs.declared.heap.access.Accessed.TheVariants.{Again, Answers, NoSlot}
use Rattle.epoch_laws.specs.Heap.{null, has_steps}

-- jobs are in hand only while they are called
abbrev pub HandAt : List Deferral → Stage → Type 0
HandAt hand (Calling x k) = Unit {0}
HandAt hand _ = hand ≡ []

-- where a release can't go back, no job is held
abbrev pub HeldAt : Machine Deferral → Stage → Type 0
HeldAt m StoreFree = m.held ≡ []
HeldAt m StoreUnpinned = m.action ≡ Release → m.full ≡ false → m.held ≡ []
HeldAt m _ = Unit {0}

-- a machine that isn't driven has nothing to ask, and what ends without it tells of no job
abbrev pub RestsAt : Progress → Stage → Type 0
RestsAt (Driven c) s = Unit {0}
RestsAt (Ends reply) s = (s ≡ Idle) × ((answer : AccessAnswer) × (reply ≡ Done answer))
RestsAt _ s = s ≡ Idle

-- where a participant may have jobs while its machine is at this stage; at a free position it has none
pub record PlacesJobs (seat : WorldSeat) (s : Stage) : Type 0 where
  pub hand : HandAt seat.machine.hand s
  pub held : HeldAt seat.machine s
  pub rests : RestsAt seat.progress s
  pub free : seat.word ≡ Free → (seat.machine.held ≡ []) × (seat.machine.hand ≡ [])

-- at its own stage
abbrev pub PlacesHere : WorldSeat → Type 0
PlacesHere seat = PlacesJobs seat seat.machine.stage

-- an empty hand is fine at every stage
pub hand_none : (hand : List Deferral) (s : Stage) → hand ≡ [] → HandAt hand s
hand_none hand (Calling x k) none = tt
hand_none hand _ none = none

-- THE STAGES AFTER EACH PART: m is the machine that goes there

pub held_collected : (m : Machine Deferral) (a : Action) (jobs : List Deferral)
    → m.held ≡ jobs
    → HeldAt m (after_collect a jobs)
held_collected m Release [] none = λ release full. none
held_collected m Release (job ∷ jobs) is = tt
held_collected m _ jobs is = tt

-- at the stage after a pin, no job is held if a release can't go back
pub held_pinned : (m n : Machine Deferral) → n.held ≡ m.held → HeldAt n (after_pin m)
held_pinned m n same =
    after_pin_at (HeldAt n) m tt (held_collected n m.action m.held same)

-- at the stage after a put that found a place, no job is held if a release can't go back
pub held_put : (m : Machine Deferral) (a : Action) (full : Bool)
    → (m.full ≡ false → m.held ≡ [])
    → HeldAt m (after_put a full)
held_put m Flush full none = tt
held_put m Defer false none = tt
held_put m Release full none = λ release. none
held_put m _ full none = tt

-- at the stage after an unpin, no job is held if a release gives its position up
pub held_unpinned : (m : Machine Deferral) (a : Action) (full : Bool)
    → (a ≡ Release → full ≡ false → m.held ≡ [])
    → HeldAt m (after_unpin a full)
held_unpinned m Release false none = none refl refl
held_unpinned m _ full none = tt

-- at the stage after the call of a job, no job is held if a release can't go back
pub held_called : (m n : Machine Deferral) (x k : ℕ) (jobs : List Deferral)
    → n.held ≡ m.held
    → HeldAt n (after_job m x k jobs)
held_called m n x k jobs same =
    after_job_at (HeldAt n) m x k jobs tt tt (held_collected n m.action m.held same)

-- at the stage after the call of a job, jobs are in hand only if they are called next
pub hand_called : (m : Machine Deferral) (x k : ℕ) (jobs : List Deferral) → HandAt jobs (after_job m x k jobs)
hand_called m x k (job ∷ jobs) = tt
hand_called m x k [] = hand_none [] _ refl

-- at the stage after a word of a scan, a release can still go back
pub held_past : (m : Machine Deferral) (positions e k w : ℕ) → HeldAt m (past_word positions e k w)
held_past m positions e k w = past_word_at (HeldAt m) positions e k w tt tt tt

held_first : (m n : Machine Deferral) (a : Action) → n.action ≡ a → HeldAt n (first_stage a m)
held_first m n Pin is = either_way (HeldAt n) (m.guards == 0) LoadPin End tt tt
held_first m n Unpin is = either_way (HeldAt n) (m.guards == 1) StoreUnpinned End (λ release. absurd (cc)) tt
held_first m n Repin is = either_way (HeldAt n) (m.guards == 1) LoadRepin End tt tt
held_first m n Defer is = either_way (HeldAt n) (length m.held == m.sizes.bag_jobs) LoadSeal Keep tt tt
held_first m n Flush is = either_way (HeldAt n) (is_empty m.held) LoadScan LoadSeal tt tt
held_first m n Release is = tt

-- HOW A CALL BEGINS AND ENDS

-- a participant after a step that moves no job
pub record LeavesJobs (old new : WorldSeat) : Type 0 where
  pub places : PlacesHere new
  pub held : new.machine.held ≡ old.machine.held
  pub hand : new.machine.hand ≡ old.machine.hand

module _ (seat : WorldSeat) (taken : seat.word ≢ Free) where
  -- the machine stays
  pub resting : (progress : Progress) → RestsAt progress seat.machine.stage → PlacesHere seat
      → LeavesJobs seat (record seat { progress = progress })
  resting progress rests places = record {
    places = record { hand = places.hand; held = places.held; rests = rests; free = places.free };
    held = refl;
    hand = refl;
  }

  begun_driven : (a : Action) (c : Call) → HandAt seat.machine.hand Idle → LeavesJobs seat (drives a c seat)
  begun_driven a c none = record {
    places = record {
      hand = hand_none seat.machine.hand _ none;
      held = held_first seat.machine (begun a seat.machine) a refl;
      rests = tt;
      free = λ free. absurd (taken free);
    };
    held = refl;
    hand = refl;
  }

  pub begun_leaves : (c : Call)
      → seat.machine.stage ≡ Idle
      → PlacesHere seat
      → LeavesJobs seat (begun_seat c seat)
  begun_leaves c idle places = begins c (subst (HandAt seat.machine.hand) idle places.hand)
    where
      accesses : (a : Access) (b : Bool)
          → LeavesJobs seat (record seat { progress = if b then Accesses a 0 null else Ends (Done Absent) })
      accesses a true = resting (Accesses a 0 null) idle places
      accesses a false = resting (Ends (Done Absent)) (idle, (_, refl)) places

      begins : (c : Call) → HandAt seat.machine.hand Idle → LeavesJobs seat (begun_seat c seat)
      begins PinCall none = begun_driven Pin PinCall none
      begins (UnpinCall g) none = begun_driven Unpin (UnpinCall g) none
      begins (RepinCall (Some g)) none = begun_driven Repin (RepinCall (Some g)) none
      begins (Pause (Some g)) none = begun_driven Unpin (Pause (Some g)) none
      begins (Resume (Some g)) none = begun_driven Pin (Resume (Some g)) none
      begins (DeferCall (Some g)) none = begun_driven Defer (DeferCall (Some g)) none
      begins (FlushCall (Some g)) none = begun_driven Flush (FlushCall (Some g)) none
      begins ReleaseCall none = begun_driven Release ReleaseCall none
      begins (DeferDestroy (Some g) ptr) none = begun_driven Defer (DeferDestroy (Some g) ptr) none
      begins (DeferCall None) none = resting (CallsNow None) idle places
      begins (DeferDestroy None ptr) none = resting (CallsNow ptr.name) idle places
      begins (AccessCall a) none = accesses a (has_steps a)
      begins _ none = resting (Ends (Done UnitAnswer)) (idle, (_, refl)) places

  pub accessed_leaves : (a : Access) (k : ℕ) (told : Accessed)
      → seat.machine.stage ≡ Idle
      → PlacesHere seat
      → LeavesJobs seat (accessed_seat a k told seat)
  accessed_leaves a k told idle places = record {
    places = record { hand = places.hand; held = places.held; rests = goes_on told; free = places.free };
    held = refl;
    hand = refl;
  }
    where
      goes_on : (told : Accessed) → RestsAt (progress_after a k told) seat.machine.stage
      goes_on (Again found) = idle
      goes_on (Answers answer) = (idle, (_, refl))
      goes_on NoSlot = idle

  pub ended_leaves : (c : Call) → seat.machine.hand ≡ [] → LeavesJobs seat (ended_seat c seat)
  ended_leaves c none = ends c
    where
      idles : (guards : List ℕ) (paused : Option ℕ) → LeavesJobs seat (with_guards seat guards paused)
      idles guards paused = record {
        places = record { hand = none; held = tt; rests = refl; free = λ free. absurd (taken free) };
        held = refl;
        hand = refl;
      }

      ends : (c : Call) → LeavesJobs seat (ended_seat c seat)
      ends PinCall = idles _ _
      ends (UnpinCall (Some g)) = idles _ _
      ends (Pause (Some g)) = idles _ _
      ends (Resume (Some g)) = idles _ _
      ends _ = idles _ _
