-- What the calls of a handle keep and promise.
use Rattle.std.specs.Prelude.{◌≡◌, ◌≢◌, ℕ, ◌+◌, ◌<◌, ◌≤◌, List, [], ◌∷◌, ◌++◌, length, map, Option, Some, None, true}
use Rattle.std.specs.Prelude.{false, ◌⊎◌}
use Rattle.std.specs.List.{All, range_with_len}
use Rattle.epoch_bags.specs.Bags.{Sealed}
use Rattle.epoch_tables.specs.Table.{IsOf}
use Rattle.epoch_tables.specs.TableSteps.{after_epoch, after_own}
use Rattle.epoch_tables.specs.SharedPlaces.{IsPlaceSeatOf as IsAt, with_claim}
use Rattle.epoch_tables.specs.SharedSteps.{RestsAt, TakesAt}
use Rattle.epoch_bags.specs.declared.queue.places.TakeCursor.{TakeCursor}
use Rattle.epoch_bags.specs.declared.queue.places.PutCursor.TheVariants.{Look as PutLook}
use Rattle.epoch_cells.specs.declared.cells.name.Name.{Name}
use Rattle.epoch_bags.specs.Jobs.{IsCalled}
use Rattle.epoch_bags.specs.declared.job.Job.{Job}
use Rattle.epoch_tables.specs.declared.shared_places.view.PlaceView.{PlaceView}
use Rattle.epoch_tables.specs.declared.table.view.ParticipantView.{ParticipantView}
use Rattle.epoch_machine.specs.declared.machine.Action.{Action}
use Rattle.epoch_machine.specs.declared.machine.Stage.TheVariants.{Idle, End, Take}
use Rattle.epoch_handles.specs.declared.collector.Collector.{Collector}
use Rattle.epoch_handles.specs.declared.guard.Guard.{Guard}
use Rattle.epoch_handles.specs.declared.local.Local.{Local}
use Rattle.epoch_handles.specs.declared.paused.Paused.{Paused}
use Rattle.epoch_machine.specs.Machine.{Machine, begun, ended, fresh, with_stage, after_collect, after_put, after_job}
use Rattle.epoch_handles.specs.Drives.{Sight, Cursors, Situation, Performed, NoJob, AnyJob, GivesOnly, Drives, Reaches}
use Rattle.epoch_handles.specs.Drives.{situated, at_start}
use Rattle.epoch_machine.specs.Asks.{Log}

-- what the seats of a participant know
abbrev pub sight_of : {T W : Type 0} → Local T W → Sight (Job W)
sight_of h = record { words = h.seat.me.0; places = h.claimer.me }

-- where the participant is, with its cursors there
abbrev pub situation_of : {T W : Type 0} → Local T W → Cursors → Situation (Job W)
situation_of h c = situated h.machine (sight_of h) c

-- The asks of the participant's machine were performed as far as where it is new, and each job that it gave is such.
abbrev pub IsDrivenTo : {T W : Type 0} → (Job W → Type 0) → Local T W → Local T W → Type 0
IsDrivenTo IsSuch old new =
    Drives IsSuch old.collector.now.places.capacity old.machine (sight_of old) new.machine (sight_of new)

-- it is the same participant of the same collector
pub record IsSame {T W : Type 0} (old new : Local T W) : Type 0 where
  pub position : new.position ≡ old.position
  pub collector : new.collector ≡ old.collector

-- The seats are at the collector's tables, with the position that the participant has there.
pub record IsSeated {T W : Type 0} (h : Local T W) : Type 0 where
  pub words_of : IsOf h.collector.now.participants h.seat
  pub places_of : IsAt h.collector.now.places h.claimer
  pub own : (h.seat.me.0.position ≡ Some h.position) × (h.position < h.collector.now.participants.positions)
  pub sizes : h.machine.sizes ≡ h.collector.now.sizes
  pub positions : h.collector.now.sizes.positions ≡ h.collector.now.participants.positions

-- a step of the participants' seat, after which it knows this, and all else is as it was
pub record Steps {T W : Type 0} (old new : Local T W) (view : ParticipantView) : Type 0 where
  pub seated : IsSeated new
  pub knows : new.seat.me.0 ≡ view
  pub claimer : new.claimer ≡ old.claimer
  pub machine : new.machine ≡ old.machine
  pub position : new.position ≡ old.position
  pub collector : new.collector ≡ old.collector

-- it is pinned, and has loaded the epoch since it published
pub record IsPinned (v : ParticipantView) : Type 0 where
  pub published : (number : ℕ) × (v.published ≡ Some number)
  pub read : (epoch : ℕ) × (v.first_read ≡ Some epoch)

-- two steps: it published this epoch, and loaded the epoch again
pub record PublishSteps {T W : Type 0} (old : Local T W) (published : ℕ) (new : Local T W) : Type 0 where
  pub again : ℕ
  pub rises : published ≤ again
  pub steps : Steps old new (after_epoch (after_own old.seat.me.0 (Some published)) again)

-- the three steps of a pin: it loaded the epoch, published that very epoch, and loaded the epoch again
pub record PinSteps {T W : Type 0} (old : Local T W) (published : ℕ) (new : Local T W) : Type 0 where
  pub again : ℕ
  pub rises : old.seat.me.0.seen ≤ published
  pub rises_again : published ≤ again
  pub steps : Steps old new (after_epoch (after_own (after_epoch old.seat.me.0 published) (Some published)) again)

-- it is pinned as it was, with the same first reading
pub record KeepsPin {T W : Type 0} (old new : Local T W) : Type 0 where
  pub published : new.seat.me.0.published ≡ old.seat.me.0.published
  pub read : new.seat.me.0.first_read ≡ old.seat.me.0.first_read

-- It scanned all words, or up to one that is pinned elsewhere. That gave this epoch, for which bags are taken next.
pub record Scans {T W : Type 0} (old : Local T W) (expiry : ℕ) (new : Local T W) : Type 0 where
  pub seated : IsSeated new
  pub same : IsSame old new
  pub pin : KeepsPin old new
  pub claimer : new.claimer ≡ old.claimer
  pub machine : new.machine ≡ with_stage old.machine (Take expiry 0)
  pub reaches : Reaches NoJob old.collector.now.places.capacity old.machine (sight_of old) (situation_of new at_start)

-- It called what was left of the bag in hand: the next bag is looked for, unless this was the last one.
pub record CallsHand {T W : Type 0} (done : W → Type 0) (tried : Name → Type 0) (old : Local T W) (expiry taken : ℕ)
    (new : Local T W) : Type 0 where
  pub machine : new.machine ≡ record old.machine { stage = after_job old.machine expiry taken []; hand = [] }
  pub performed : (c : Cursors) → (log : Log (Job W))
      × Performed old.collector.now.places.capacity (situation_of old c) log (situated new.machine (sight_of old) c)
      × GivesOnly (IsCalled done tried) log

-- A collection for the epoch x has come to this cursor, and looks for a bag.
pub record HasTaken {T W : Type 0} (done : W → Type 0) (tried : Name → Type 0) (h : Local T W) (x : ℕ)
    (cursor : TakeCursor)
    (n : Local T W) : Type 0 where
  pub taken : ℕ
  pub machine : n.machine ≡ record h.machine { stage = Take x taken; hand = n.machine.hand }
  pub claimer : IsAt h.collector.now.places n.claimer
  pub at : TakesAt h.collector.now.places.capacity x cursor n.claimer.me
  pub seat : n.seat ≡ h.seat
  pub same : IsSame h n
  pub performed : (log : Log (Job W))
      × Performed h.collector.now.places.capacity (situation_of h at_start) log
      (situation_of n (record { put = PutLook 0; take = cursor }))
      × GivesOnly (IsCalled done tried) log

-- It took bags that are expired for the epoch of its scan, and called their jobs.
pub record TakesBags {T W : Type 0} (done : W → Type 0) (tried : Name → Type 0) (old new : Local T W) : Type 0 where
  pub claimer : IsAt old.collector.now.places new.claimer
  pub rests : RestsAt new.claimer.me
  pub seat : new.seat ≡ old.seat
  pub same : IsSame old new
  pub machine : new.machine
      ≡ record old.machine { stage = after_collect old.machine.action old.machine.held; hand = new.machine.hand }
  pub performed : (d : Cursors) × (log : Log (Job W))
      × Performed old.collector.now.places.capacity (situation_of old at_start) log (situation_of new d)
      × GivesOnly (IsCalled done tried) log

-- It collected: it scanned, and took bags and called their jobs, as many as a collection takes or as it found.
pub record Collects {T W : Type 0} (done : W → Type 0) (tried : Name → Type 0) (old new : Local T W) : Type 0 where
  pub seated : IsSeated new
  pub rests : RestsAt new.claimer.me
  pub same : IsSame old new
  pub pin : KeepsPin old new
  pub machine : new.machine
      ≡ record old.machine { stage = after_collect old.machine.action old.machine.held; hand = new.machine.hand }
  pub calls : IsDrivenTo (IsCalled done tried) old new

-- what the seat left in a place last is a bag of just these jobs, in this order
abbrev pub IsLeftWhole : {J : Type 0} → List J → PlaceView J → Type 0
IsLeftWhole {J} jobs v = (seal : ℕ) × (before : List (Option (Sealed J)))
    × (v.left ≡ before ++ Some (record { seal = seal; jobs = jobs }) ∷ [])

-- It sealed the held bag with the epoch that it loaded, and put it into a place, or it has seen every place occupied.
pub record Puts {T W : Type 0} (old new : Local T W) : Type 0 where
  pub seated : IsSeated new
  pub rests : RestsAt new.claimer.me
  pub same : IsSame old new
  pub pin : KeepsPin old new
  pub machine : (new.machine
      ≡ record old.machine { stage = after_put old.machine.action false; full = false; held = [] })
      ⊎ (new.machine ≡ record old.machine { stage = after_put old.machine.action true; full = true })
  pub whole : new.machine.full ≡ false → IsLeftWhole old.machine.held new.claimer.me.0
  pub drives : IsDrivenTo NoJob old new

-- The word says what the machine says: pinned in the published epoch while guards are out, and not pinned while none
-- is.
pub record Agrees {J : Type 0} (m : Machine J) (v : ParticipantView) : Type 0 where
  pub published : 0 < m.guards → v.published ≡ Some m.published
  pub read : 0 < m.guards → v.first_read ≢ None
  pub unpinned : m.guards ≡ 0 → v.published ≡ None

-- what holds of a handle between two calls
pub record IsReady {T W : Type 0} (h : Local T W) : Type 0 where
  pub seated : IsSeated h
  pub rests : RestsAt h.claimer.me
  pub idle : h.machine.stage ≡ Idle
  pub agrees : Agrees h.machine h.seat.me.0

-- The action under way was driven to its end, and its guards are counted from then on. Each job that its machine gave
-- is such.
pub record EndsGiving {T W : Type 0} (IsSuch : Job W → Type 0) (old new : Local T W) : Type 0 where
  pub last : Machine (Job W)
  pub over : last.stage ≡ End
  pub machine : new.machine ≡ ended last
  pub drives : Drives IsSuch old.collector.now.places.capacity old.machine (sight_of old) last (sight_of new)

-- The machine began this action, and ended it so.
abbrev pub DoesGiving : {T W : Type 0} → (Job W → Type 0) → Local T W → Action → Local T W → Type 0
DoesGiving IsSuch old action new = EndsGiving IsSuch (record old { machine = begun action old.machine }) new

-- whichever jobs it gave
abbrev pub Does : {T W : Type 0} → Local T W → Action → Local T W → Type 0
Does old action new = DoesGiving AnyJob old action new

-- it gave no job
abbrev pub DoesStraight : {T W : Type 0} → Local T W → Action → Local T W → Type 0
DoesStraight old action new = DoesGiving NoJob old action new

-- each job that it gave was called
abbrev pub DoesAndCalls : {T W : Type 0} → (W → Type 0) → (Name → Type 0) → Local T W → Action → Local T W → Type 0
DoesAndCalls done tried old action new = DoesGiving (IsCalled done tried) old action new

-- the same participant of the same collector, between two calls, with one guard fewer
pub record IsBetween {T W : Type 0} (old between : Local T W) : Type 0 where
  pub same : IsSame old between
  pub ready : IsReady between
  pub counted : between.machine.guards + 1 ≡ old.machine.guards

-- the guard is one that this participant has out, as far as can be told: it is of its position and of its collector's
-- number
pub record Owns {T W : Type 0} (h : Local T W) (guard : Guard T W) : Type 0 where
  pub position : guard.position ≡ Some h.position
  pub collector : guard.collector.now.id ≡ h.collector.now.id
  pub out : 0 < h.machine.guards

-- the guard that is paused is one of this participant, as far as can be told
pub record IsPausedBy {T W : Type 0} (h : Local T W) (paused : Paused T W) : Type 0 where
  pub position : paused.guard.position ≡ Some h.position
  pub collector : paused.guard.collector.now.id ≡ h.collector.now.id

-- the epoch, and after it each position before this one, once and in order
abbrev pub each_before : ℕ → List (Option ℕ)
each_before position = None ∷ map (λ earlier. Some earlier) (range_with_len 0 position)

-- After the epoch, the words found are those of all positions before this one, in their order, of which none was free.
abbrev pub FindsEachTaken : ℕ → List (Option ℕ) → List ℕ → Type 0
FindsEachTaken position looked found =
    (looked ≡ each_before position) × ((epoch : ℕ) × (taken : List ℕ) × (found ≡ epoch ∷ taken)
    × (length taken ≡ position) × All (λ word. word ≢ 0) taken)

-- It has tried each position from 0 to its own, once and in order, and only its own was free.
abbrev pub TriesInOrder : ℕ → List (Option ℕ) → List ℕ → Type 0
TriesInOrder position looked found =
    (tried : List (Option ℕ)) × (before : List ℕ) × FindsEachTaken position tried before
    × (looked ≡ tried ++ Some position ∷ []) × (found ≡ before ++ 0 ∷ [])

-- a new participant of this collector: registered at the first position that was found free, not pinned, with an empty
-- bag, and at no place yet
pub record IsNewParticipant {T W : Type 0} (collector : Collector T W) (h : Local T W) : Type 0 where
  pub of : h.collector.now ≡ collector
  pub machine : h.machine ≡ fresh collector.sizes
  pub tries : TriesInOrder h.position h.seat.me.0.looked h.seat.me.0.found
  pub places : h.claimer.me ≡ (with_claim None [] [] [] [], [])
