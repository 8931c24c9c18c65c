-- The world of all participants: what one step may do, and whole runs.
use Rattle.std.specs.Prelude.{◌≡◌, ◌≢◌, ℕ, ◌+◌, ◌-◌, ◌*◌, ◌^◌, ◌<◌, ◌==◌, Bool, true, false, List, [], ◌∷◌, ◌++◌}
use Rattle.std.specs.Prelude.{length, Option, Some, None, ◌⊎◌, nat_le, zero, suc, if◌then◌else◌, slice_index_or}
use Rattle.std.specs.Prelude.{slice_set, slice_get}
use Rattle.std.specs.List.{list_any}
use Rattle.epoch_bags.specs.Bags.{Sealed, is_empty}
use Rattle.epoch_bags.specs.Stores.{IsInserted}
use Rattle.epoch_cells.specs.declared.fault.Fault.{Fault}
use Rattle.epoch_cells.specs.declared.fault.Fault.TheVariants.{TableFull, BagsFull, Busy, Idle as IdleFault}
use Rattle.epoch_cells.specs.declared.fault.Fault.TheVariants.{NotRegistered, StrangerGuard, GuardsOut, TooManyGuards}
use Rattle.epoch_cells.specs.declared.fault.Fault.TheVariants.{ParticipantsLeft, Ended, TicketsOut, CellsFull}
use Rattle.epoch_cells.specs.declared.fault.Fault.TheVariants.{NoSuchPlace, StrangerPointer}
use Rattle.epoch_bags.specs.declared.queue.PutStep.{PutStep}
use Rattle.epoch_bags.specs.declared.queue.TakeStep.{TakeStep}
use Rattle.epoch_machine.specs.declared.machine.Action.{Action}
use Rattle.epoch_machine.specs.declared.machine.Action.TheVariants.{Pin as PinAction, Unpin as UnpinAction}
use Rattle.epoch_machine.specs.declared.machine.Action.TheVariants.{Repin as RepinAction, Defer as DeferAction}
use Rattle.epoch_machine.specs.declared.machine.Action.TheVariants.{Flush as FlushAction, Release as ReleaseAction}
use Rattle.epoch_machine.specs.declared.machine.Sizes.{Sizes}
use Rattle.epoch_machine.specs.declared.machine.Stage.{Stage}
use Rattle.epoch_machine.specs.declared.machine.Ask.{Ask}
use Rattle.epoch_machine.specs.declared.machine.Ask.TheVariants.{LoadEpoch, LoadWord, StorePinned, StoreRepinned}
use Rattle.epoch_machine.specs.declared.machine.Ask.TheVariants.{StoreUnpinned, StoreFree, StoreEpoch, PutBag, TakeBag}
use Rattle.epoch_machine.specs.declared.machine.Ask.TheVariants.{KeepJob, CallJob}
use Rattle.epoch_machine.specs.declared.machine.Answer.TheVariants.{Epoch, Word as WordFound, Stored, Job}
use Rattle.epoch_machine.specs.Machine.{Machine, ask_at, hears, put_heard, took_heard, gives, begun, ended, fresh}
use Rattle.epoch_machine.specs.Machine.{is_taking, IsSized, PutsHeld, TakesHand}
use Rattle.epoch_laws.specs.declared.step.Call.{Call}
use Rattle.epoch_laws.specs.declared.step.Call.TheVariants.{Pin, Unpin, Repin, Pause, Resume, Defer, Flush, Release}
use Rattle.epoch_laws.specs.declared.step.Call.TheVariants.{DeferDestroy, Access as AccessCall}
use Rattle.epoch_laws.specs.declared.step.Step.{Step}
use Rattle.epoch_laws.specs.declared.step.Step.TheVariants.{Register, Begin, Go, End as EndStep, EndGo}
use Rattle.epoch_laws.specs.declared.heap.access.AccessAnswer.TheVariants.{Guard, Unit as UnitAnswer, Released, Count}
use Rattle.epoch_laws.specs.declared.heap.access.AccessAnswer.TheVariants.{Value, Absent}
use Rattle.epoch_laws.specs.declared.step.Reply.{Reply}
use Rattle.epoch_laws.specs.declared.step.Reply.TheVariants.{Registered, Began, Stepped, Pinned as PinnedReply}
use Rattle.epoch_laws.specs.declared.step.Reply.TheVariants.{Unpinned as UnpinnedReply, Repinned, Deferred}
use Rattle.epoch_laws.specs.declared.step.Reply.TheVariants.{Called as CalledReply, CalledNow, Done, Refused}
use Rattle.epoch_laws.specs.declared.step.Entry.{Entry}
use Rattle.epoch_laws.specs.declared.step.Deferral.{Deferral}
use Rattle.epoch_laws.specs.declared.step.Word.{Word}
use Rattle.epoch_laws.specs.declared.step.Word.TheVariants.{Free, Unpinned, Pinned}
use Rattle.epoch_laws.specs.declared.step.Progress.{Progress}
use Rattle.epoch_laws.specs.declared.step.Progress.TheVariants.{Idle, Driven, CallsNow, Ends, Accesses}
use Rattle.epoch_laws.specs.Places.{Occupancy, occupancy, SeesOccupied}
use Rattle.epoch_laws.specs.Collections.{Outlook, outlook, FindsAhead}
use Rattle.epoch_laws.specs.Room.{is_at_places, TellsRoom}
use Rattle.epoch_cells.specs.PlainCells.{empty}
use Rattle.epoch_cells.specs.declared.cells.name.Name.{Name}
use Rattle.epoch_laws.specs.declared.heap.access.Access.{Access}
use Rattle.epoch_laws.specs.declared.heap.access.Access.TheVariants.{Read, Leave}
use Rattle.epoch_laws.specs.declared.heap.access.Accessed.{Accessed}
use Rattle.epoch_laws.specs.declared.heap.access.Accessed.TheVariants.{Again, Answers, NoSlot}
use Rattle.epoch_laws.specs.declared.heap.access.Ptr.{Ptr}
use Rattle.epoch_laws.specs.Heap.{Cell, Heap, null, is_name, outcome_of, heap_after_job, Touched, Touches, guard_of}
use Rattle.epoch_laws.specs.Heap.{has_steps, has_place, is_removable, knows_names}

-- a job of the world, and a bag of the store
abbrev pub Bag : Type 0
Bag = Sealed Deferral

-- one participant: its word, its machine, and what the world keeps of its calls
pub record WorldSeat : Type 0 where
  pub word : Word
  pub machine : Machine Deferral
  pub progress : Progress
  pub guards : List ℕ  -- the numbers of the guards counted
  pub paused : Option ℕ  -- the guard that is paused
  pub readings : List Name  -- the names that it reads

-- the end of the whole collector
pub data Ending : Type 0 where
  Open : Ending
  Emptying : (hand : List Deferral) (count : ℕ) → Ending
  Over : Ending

pub record State : Type 0 where
  pub sizes : Sizes
  pub epoch : ℕ
  pub seats : List WorldSeat
  pub queued : List Bag  -- the bags in the store
  pub tickets : ℕ  -- how many were given
  pub ending : Ending
  pub heap : Heap  -- the cells and pointers
  pub places : List Bool  -- for each place of the store, whether it is occupied
  pub seen : List ℕ  -- for each participant, how many places its put has seen occupied since it began
  pub ahead : List ℕ  -- for each participant, how many bags its collection will still take if nobody disturbs it
  pub room : List Bool  -- for each participant, whether its put will find a place if nobody disturbs it

-- WORDS AND SEATS

-- the word as a number
abbrev pub word_number : Word → ℕ
word_number Free = 0
word_number Unpinned = 2
word_number (Pinned e) = 2 * e + 1

abbrev pub free_seat : Sizes → WorldSeat
free_seat sizes =
    record { word = Free; machine = fresh sizes; progress = Idle; guards = []; paused = None; readings = [] }

-- the participant at a position; a position past the table is free
abbrev pub seat_of : State → ℕ → WorldSeat
seat_of s p = slice_index_or s.seats p (free_seat s.sizes)

abbrev pub position_word : State → ℕ → Word
position_word s p = (seat_of s p).word

abbrev pub with_seat : State → ℕ → WorldSeat → State
with_seat s p seat = record s { seats = slice_set s.seats p seat }

abbrev pub with_heap : State → Heap → State
with_heap s heap = record s { heap = heap }

-- the seat after its machine went on, its word staying or changed
abbrev pub with_machine : WorldSeat → Machine Deferral → WorldSeat
with_machine seat m = record seat { machine = m }

abbrev pub with_word : WorldSeat → Word → Machine Deferral → WorldSeat
with_word seat w m = record seat { word = w; machine = m }

-- GUARDS

abbrev pub is_out : ℕ → List ℕ → Bool
is_out g guards = list_any (λ h. h == g) guards

abbrev pub without : ℕ → List ℕ → List ℕ
without g [] = []
without g (h ∷ hs) = if h == g then hs else h ∷ without g hs

unfoldable pub lowest_from : ℕ → ℕ → List ℕ → ℕ
lowest_from k zero guards = k
lowest_from k (suc fuel) guards = if is_out k guards then lowest_from (k + 1) fuel guards else k

-- the least number of no guard that is out
unfoldable pub lowest : List ℕ → ℕ
lowest guards = lowest_from 0 64 guards

-- READINGS

abbrev pub reads : Option Name → List Name → Bool
reads (Some n) readings = list_any (λ m. is_name m n) readings
reads None readings = false

abbrev pub with_reading : Option Name → List Name → List Name
with_reading (Some n) readings = readings ++ n ∷ []
with_reading None readings = readings

abbrev pub without_reading : Option Name → List Name → List Name
without_reading (Some n) (m ∷ ms) = if is_name m n then ms else m ∷ without_reading (Some n) ms
without_reading _ readings = readings

-- HOW A CALL BEGINS

abbrev pub is_free : Word → Bool
is_free Free = true
is_free _ = false

abbrev pub is_idle : Progress → Bool
is_idle Idle = true
is_idle _ = false

-- a call is under way that its machine drives
abbrev pub is_driven : Progress → Bool
is_driven (Driven c) = true
is_driven _ = false

-- who is paused may only resume
abbrev pub waits : Call → Option ℕ → Bool
waits (Resume g) paused = false
waits _ (Some g) = true
waits _ None = false

-- a protecting guard has to be out; an unprotected one needs nothing
abbrev pub guard_refusal : Option ℕ → List ℕ → Option Fault
guard_refusal (Some g) guards = if is_out g guards then None else Some StrangerGuard
guard_refusal None guards = None

abbrev pub resume_refusal : Option ℕ → Option ℕ → Option Fault
resume_refusal None paused = None
resume_refusal (Some g) None = Some IdleFault
resume_refusal (Some g) (Some h) = if g == h then None else Some StrangerGuard

-- a protecting guard has to be out, before all else
abbrev pub under_guard : Option ℕ → List ℕ → Option Fault → Option Fault
under_guard None guards fault = fault
under_guard (Some g) guards fault = if is_out g guards then fault else Some StrangerGuard

-- what is wrong with the readings: a second one, or none
abbrev pub reading_refusal : Access → List Name → Option Fault
reading_refusal (Read g ptr) readings = if reads ptr.name readings then Some Busy else None
reading_refusal (Leave ptr) readings = if reads ptr.name readings then None else Some StrangerPointer
reading_refusal _ readings = None

-- no such root or field, a name never given, and then the readings
abbrev pub access_refusal : Access → List Name → Heap → Option Fault
access_refusal a readings heap =
    if has_place heap a
    then (if knows_names heap a then reading_refusal a readings else Some StrangerPointer)
    else Some NoSuchPlace

-- the call's own fault, or none
abbrev pub call_refusal : Call → WorldSeat → ℕ → Heap → Option Fault
call_refusal Pin seat tickets heap = if nat_le 64 (length seat.guards) then Some TooManyGuards else None
call_refusal (Unpin None) seat tickets heap = Some StrangerGuard
call_refusal (Unpin (Some g)) seat tickets heap = guard_refusal (Some g) seat.guards
call_refusal (Repin g) seat tickets heap = guard_refusal g seat.guards
call_refusal (Pause g) seat tickets heap = guard_refusal g seat.guards
call_refusal (Resume g) seat tickets heap = resume_refusal g seat.paused
call_refusal (Defer None) seat tickets heap = None
call_refusal (Defer (Some g)) seat tickets heap =
    if is_out g seat.guards then (if nat_le (2 ^ 64 - 4097) tickets then Some TicketsOut else None)
    else Some StrangerGuard
call_refusal (Flush g) seat tickets heap = guard_refusal g seat.guards
call_refusal Release seat tickets heap =
    if length seat.guards == 0 then (if is_empty seat.readings then None else Some GuardsOut) else Some GuardsOut
call_refusal (DeferDestroy None ptr) seat tickets heap =
    if is_removable heap ptr.name then None else Some StrangerPointer
call_refusal (DeferDestroy (Some g) ptr) seat tickets heap =
    if is_out g seat.guards
    then (if is_removable heap ptr.name
    then (if nat_le (2 ^ 64 - 4097) tickets then Some TicketsOut else None)
    else Some StrangerPointer)
    else Some StrangerGuard
call_refusal (AccessCall a) seat tickets heap =
    under_guard (guard_of a) seat.guards (access_refusal a seat.readings heap)

-- not registered, busy, and then the call's own fault
abbrev pub refusal : Call → WorldSeat → ℕ → Heap → Option Fault
refusal c seat tickets heap =
    if is_free seat.word
    then Some NotRegistered
    else (if is_idle seat.progress
    then (if waits c seat.paused then Some Busy else call_refusal c seat tickets heap)
    else Some Busy)

abbrev pub drives : Action → Call → WorldSeat → WorldSeat
drives a c seat = record seat { machine = begun a seat.machine; progress = Driven c }

-- what a participant is after a call was begun: its machine is driven, or, under an unprotected guard, isn't
abbrev pub begun_seat : Call → WorldSeat → WorldSeat
begun_seat Pin seat = drives PinAction Pin seat
begun_seat (Unpin g) seat = drives UnpinAction (Unpin g) seat
begun_seat (Repin (Some g)) seat = drives RepinAction (Repin (Some g)) seat
begun_seat (Pause (Some g)) seat = drives UnpinAction (Pause (Some g)) seat
begun_seat (Resume (Some g)) seat = drives PinAction (Resume (Some g)) seat
begun_seat (Defer (Some g)) seat = drives DeferAction (Defer (Some g)) seat
begun_seat (Flush (Some g)) seat = drives FlushAction (Flush (Some g)) seat
begun_seat Release seat = drives ReleaseAction Release seat
begun_seat (DeferDestroy (Some g) ptr) seat = drives DeferAction (DeferDestroy (Some g) ptr) seat
begun_seat (Defer None) seat = record seat { progress = CallsNow None }
begun_seat (DeferDestroy None ptr) seat = record seat { progress = CallsNow ptr.name }
begun_seat (AccessCall a) seat =
    record seat { progress = if has_steps a then Accesses a 0 null else Ends (Done Absent) }
begun_seat _ seat = record seat { progress = Ends (Done UnitAnswer) }

abbrev pub BeginsCall : State → ℕ → Call → Option Fault → Reply → State → Type 0
BeginsCall old p c (Some f) reply new = (reply ≡ Refused f) × (new ≡ old)
BeginsCall old p c None reply new = (reply ≡ Began) × (new ≡ with_seat old p (begun_seat c (seat_of old p)))

-- HOW A CALL ENDS

abbrev pub full_or_done : Bool → Reply
full_or_done true = Refused BagsFull
full_or_done false = Done UnitAnswer

abbrev pub end_reply : Call → WorldSeat → Reply
end_reply Pin seat = Done (Guard (lowest seat.guards))
end_reply (Defer g) seat = full_or_done seat.machine.full
end_reply (Flush g) seat = full_or_done seat.machine.full
end_reply Release seat = full_or_done seat.machine.full
end_reply (DeferDestroy g ptr) seat = full_or_done seat.machine.full
end_reply _ seat = Done UnitAnswer

abbrev pub with_guards : WorldSeat → List ℕ → Option ℕ → WorldSeat
with_guards seat guards paused =
    record seat { machine = ended seat.machine; progress = Idle; guards = guards; paused = paused }

-- guards are counted, and no longer counted, from the end of their call
abbrev pub ended_seat : Call → WorldSeat → WorldSeat
ended_seat Pin seat = with_guards seat (seat.guards ++ lowest seat.guards ∷ []) seat.paused
ended_seat (Unpin (Some g)) seat = with_guards seat (without g seat.guards) seat.paused
ended_seat (Pause (Some g)) seat = with_guards seat (without g seat.guards) (Some g)
ended_seat (Resume (Some g)) seat = with_guards seat (seat.guards ++ g ∷ []) None
ended_seat _ seat = with_guards seat seat.guards seat.paused

-- HOW A CALL ON CELLS AND POINTERS GOES ON

abbrev pub progress_after : Access → ℕ → Accessed → Progress
progress_after a k (Again found) = Accesses a (k + 1) found
progress_after a k (Answers answer) = Ends (Done answer)
progress_after a k NoSlot = Idle

abbrev pub access_reply : Accessed → Reply
access_reply NoSlot = Refused CellsFull
access_reply _ = Stepped

-- a reading lasts from the step that finds the value, up to that of its Leave
abbrev pub readings_after : Access → Accessed → List Name → List Name
readings_after (Read g ptr) (Answers (Value v)) readings = with_reading ptr.name readings
readings_after (Leave ptr) told readings = without_reading ptr.name readings
readings_after _ told readings = readings

abbrev pub accessed_seat : Access → ℕ → Accessed → WorldSeat → WorldSeat
accessed_seat a k told seat =
    record seat { progress = progress_after a k told; readings = readings_after a told seat.readings }

-- ONE STEP

-- the name whose removal a driven call defers
abbrev pub removed_by : Progress → Option Name
removed_by (Driven (DeferDestroy g ptr)) = ptr.name
removed_by _ = None

-- what may come of one ask of p, whose machine is at this stage: the reply, and the state after it
abbrev pub PerformsAsk : State → ℕ → WorldSeat → Stage → Ask → Reply → State → Type 0
PerformsAsk old p seat s LoadEpoch reply new =
    (reply ≡ Stepped) × (new ≡ with_seat old p (with_machine seat (hears seat.machine s (Epoch old.epoch))))
PerformsAsk old p seat s (LoadWord k) reply new =
    (reply ≡ Stepped)
    × (new ≡ with_seat old p (with_machine seat (hears seat.machine s (WordFound (word_number (position_word old k))))))
PerformsAsk old p seat s (StorePinned e) reply new =
    (reply ≡ PinnedReply p) × (new ≡ with_seat old p (with_word seat (Pinned e) (hears seat.machine s Stored)))
PerformsAsk old p seat s (StoreRepinned e) reply new =
    (reply ≡ Repinned p) × (new ≡ with_seat old p (with_word seat (Pinned e) (hears seat.machine s Stored)))
PerformsAsk old p seat s StoreUnpinned reply new =
    (reply ≡ UnpinnedReply p) × (new ≡ with_seat old p (with_word seat Unpinned (hears seat.machine s Stored)))
PerformsAsk old p seat s StoreFree reply new = (reply ≡ Done Released) × (new ≡ with_seat old p (free_seat old.sizes))
PerformsAsk old p seat s (StoreEpoch e) reply new =
    (reply ≡ Stepped) × (new ≡ record (with_seat old p (with_machine seat (hears seat.machine s Stored))) { epoch = e })
PerformsAsk old p seat s (PutBag seal) reply new =
    (step : PutStep) × (queued : List Bag) × (reply ≡ Stepped) × PutsHeld seal seat.machine old.queued step queued
    × (new ≡ record (with_seat old p (with_machine seat (put_heard seat.machine step))) { queued = queued })
PerformsAsk old p seat s (TakeBag x) reply new =
    (step : TakeStep) × (jobs : List Deferral) × (queued : List Bag) × (reply ≡ Stepped)
    × TakesHand x old.queued step queued jobs
    × (new ≡ record (with_seat old p (with_machine seat (took_heard seat.machine s step jobs))) { queued = queued })
PerformsAsk old p seat s KeepJob reply new =
    (reply ≡ Deferred old.tickets)
    × (new ≡ record (with_seat old p (with_machine seat
    (hears seat.machine s (Job (record { ticket = old.tickets; removes = removed_by seat.progress })))))
    { tickets = old.tickets + 1 })
PerformsAsk old p seat s CallJob reply new =
    (job : Deferral) × (jobs : List Deferral) × (seat.machine.hand ≡ job ∷ jobs)
    × (reply ≡ CalledReply job.ticket (outcome_of old.heap job.removes))
    × (new ≡ record (with_seat old p (with_machine seat (gives seat.machine s jobs)))
    { heap = heap_after_job old.heap job.removes })

-- what a call driven by its machine does next: the machine's ask, or its end
abbrev pub DrivesCall : State → ℕ → WorldSeat → Call → Stage → Option Ask → Reply → State → Type 0
DrivesCall old p seat c s (Some ask) reply new = PerformsAsk old p seat s ask reply new
DrivesCall old p seat c s None reply new = (reply ≡ end_reply c seat) × (new ≡ with_seat old p (ended_seat c seat))

-- what a step Go of p does
abbrev pub DoesGo : State → ℕ → WorldSeat → Progress → Reply → State → Type 0
DoesGo old p seat Idle reply new = (reply ≡ Refused IdleFault) × (new ≡ old)
DoesGo old p seat (Driven c) reply new =
    DrivesCall old p seat c seat.machine.stage (ask_at seat.machine.stage) reply new
DoesGo old p seat (CallsNow removes) reply new =
    (reply ≡ CalledNow (outcome_of old.heap removes))
    × (new ≡ record (with_seat old p (record seat { progress = Ends (Done UnitAnswer) }))
    { heap = heap_after_job old.heap removes })
DoesGo old p seat (Accesses a k found) reply new =
    (did : Touched) × Touches a k found old.heap did × (reply ≡ access_reply did.told)
    × (new ≡ record (with_seat old p (accessed_seat a k did.told seat)) { heap = did.heap })
DoesGo old p seat (Ends r) reply new = (reply ≡ r) × (new ≡ with_seat old p (record seat { progress = Idle }))

abbrev pub AllFree : State → Type 0
AllFree s = (p : ℕ) → position_word s p ≡ Free

-- an end takes any bag, calls its jobs one by one, and is over when no bag is left
abbrev pub EndGoes : State → Ending → Reply → State → Type 0
EndGoes old Open reply new = (reply ≡ Refused IdleFault) × (new ≡ old)
EndGoes old Over reply new = (reply ≡ Refused IdleFault) × (new ≡ old)
EndGoes old (Emptying (job ∷ jobs) n) reply new =
    (reply ≡ CalledReply job.ticket (outcome_of old.heap job.removes))
    × (new ≡ record old { ending = Emptying jobs (n + 1); heap = heap_after_job old.heap job.removes })
EndGoes old (Emptying [] n) reply new =
    ((bag : Bag) × (queued : List Bag) × IsInserted bag queued old.queued × (reply ≡ Stepped)
    × (new ≡ record old { queued = queued; ending = Emptying bag.jobs n }))
    ⊎ ((old.queued ≡ []) × (reply ≡ Done (Count n)) × (new ≡ record old { ending = Over }))

-- what this step does, with this reply, to all but the places
abbrev pub Moves : State → Step → Reply → State → Type 0
Moves old Register reply new =
    ((p : ℕ) × (old.ending ≡ Open) × (p < length old.seats) × (position_word old p ≡ Free)
    × ((k : ℕ) → k < p → position_word old k ≢ Free) × (reply ≡ Registered p)
    × (new ≡ with_seat old p (record (free_seat old.sizes) { word = Unpinned })))
    ⊎ ((old.ending ≡ Open) × ((k : ℕ) → k < length old.seats → position_word old k ≢ Free) × (reply ≡ Refused TableFull)
    × (new ≡ old))
    ⊎ ((old.ending ≢ Open) × (reply ≡ Refused Ended) × (new ≡ old))
Moves old (Begin p c) reply new = BeginsCall old p c (refusal c (seat_of old p) old.tickets old.heap) reply new
Moves old (Go p) reply new =
    ((position_word old p ≡ Free) × (reply ≡ Refused NotRegistered) × (new ≡ old))
    ⊎ ((position_word old p ≢ Free) × DoesGo old p (seat_of old p) (seat_of old p).progress reply new)
Moves old EndStep reply new =
    ((old.ending ≡ Open) × AllFree old × (reply ≡ Began) × (new ≡ record old { ending = Emptying [] 0 }))
    ⊎ ((old.ending ≡ Open) × (¬ (AllFree old)) × (reply ≡ Refused ParticipantsLeft) × (new ≡ old))
    ⊎ ((old.ending ≢ Open) × (reply ≡ Refused Ended) × (new ≡ old))
Moves old EndGo reply new = EndGoes old old.ending reply new

-- WHAT A STEP SEES OF THE PLACES, AND WHAT A COLLECTION AND A PUT FIND

abbrev pub with_places : State → List Bool → List ℕ → List ℕ → List Bool → State
with_places s places seen ahead room = record s { places = places; seen = seen; ahead = ahead; room = room }

-- how many places the put of p has seen
abbrev pub seen_by : State → ℕ → ℕ
seen_by s p = slice_index_or s.seen p 0

abbrev pub occupancy_of : State → ℕ → Occupancy
occupancy_of s p = occupancy s.places (seen_by s p)

-- what is ahead of the collection of p
abbrev pub ahead_of : State → ℕ → ℕ
ahead_of s p = slice_index_or s.ahead p 0

abbrev pub outlook_of : State → ℕ → Outlook
outlook_of s p = outlook s.queued (ahead_of s p)

-- no participant is taking bags
abbrev pub NoneTakes : State → Type 0
NoneTakes s = (q : ℕ) → is_taking (seat_of s q).machine.stage ≡ false

-- whether the put of p will find a place
abbrev pub room_of : State → ℕ → Bool
room_of s p = slice_index_or s.room p false

-- some place has no bag, and nobody but p is putting or taking one
pub record HasFreePlace (p : ℕ) (s : State) : Type 0 where
  pub others : (q : ℕ) → q ≢ p → is_at_places (seat_of s q).machine.stage ≡ false
  pub fewer : length s.queued < length s.places

-- what a step Go asks for, by the word and the stage
abbrev pub turn_at : Word → Progress → Stage → Option Ask
turn_at Free progress s = None
turn_at _ (Driven c) s = ask_at s
turn_at _ progress s = None

abbrev pub turn_of : WorldSeat → Option Ask
turn_of seat = turn_at seat.word seat.progress seat.machine.stage

-- A Go of p counts for the put of p alone; an end takes bags out. Of the collection of p a Go of p alone tells: a step
-- of another, or of an end, may put a bag ahead of it, or take one from there. So it is with the room of its put. No
-- other step changes any of this.
abbrev pub SeesPlaces : State → Step → State → Type 0
SeesPlaces old (Go p) new =
    SeesOccupied (turn_of (seat_of old p)) (seat_of old p).machine (seat_of new p).machine
    (occupancy_of old p) (occupancy_of new p)
    × ((q : ℕ) → q ≢ p → seen_by new q ≡ seen_by old q)
    × FindsAhead (NoneTakes old) (turn_of (seat_of old p)) (seat_of new p).machine (outlook_of old p) (outlook_of new p)
    × TellsRoom (HasFreePlace p old) (turn_of (seat_of old p)) (seat_of new p).machine (room_of old p) (room_of new p)
SeesPlaces old EndGo new = (length new.places ≡ length old.places) × (new.seen ≡ old.seen)
SeesPlaces old _ new =
    (new.places ≡ old.places) × (new.seen ≡ old.seen) × (new.ahead ≡ old.ahead) × (new.room ≡ old.room)

-- the world takes this step, with this reply: the places aside it moves so, and it sees the places so
abbrev pub TakesStep : State → Step → Reply → State → Type 0
TakesStep old step reply new =
    Moves old step reply (with_places new old.places old.seen old.ahead old.room) × SeesPlaces old step new

-- WHOLE RUNS

-- the world goes by these steps and replies from old to new, one atomic step each
abbrev pub Runs : State → List Entry → State → Type 0
Runs old [] new = new ≡ old
Runs old (entry ∷ entries) new = (mid : State) × TakesStep old entry.step entry.reply mid × Runs mid entries new

-- a new world
pub record IsFresh (s : State) : Type 0 where
  pub sized : s.sizes.positions ≡ length s.seats
  pub in_range : IsSized s.sizes
  pub free : (p : ℕ) → seat_of s p ≡ free_seat s.sizes
  pub none_queued : s.queued ≡ []
  pub no_tickets : s.tickets ≡ 0
  pub open_end : s.ending ≡ Open
  pub null_roots : (i : ℕ) (ptr : Ptr) → slice_get s.heap.roots i ≡ Some ptr → ptr ≡ null
  pub empty_cells : (k : ℕ) (cell : Cell) → slice_get s.heap.cells k ≡ Some cell → cell ≡ empty s.heap.start_turn

-- the steps with their replies
abbrev pub entries_of : List Step → List Reply → List Entry
entries_of (s ∷ ss) (r ∷ rs) = record { step = s; reply = r } ∷ entries_of ss rs
entries_of _ _ = []
