-- What two participants have done for the laws on threads to speak of a job that is kept, waits and is called.
use Rattle.std.specs.Prelude.{◌≡◌, ℕ, ◌*◌, List, [], ◌∷◌, ◌++◌, Option, Some, map, slice_index, All}
use Rattle.atomic_table.specs.Table.{State}
use Rattle.epoch_bags.specs.Bags.{Sealed}
use Rattle.epoch_tables.specs.Table.{EpochsAgree, Sees}
use Rattle.epoch_tables.specs.SharedPlaces.{PlacesAgree}
use Rattle.epoch_tables.specs.ClosedPlaces.{AreLast}
use Rattle.epoch_tables.specs.declared.table.view.ParticipantView.{ParticipantView}
use Rattle.epoch_tables.specs.declared.shared_places.view.PlaceView.{PlaceView}
use Rattle.epoch_machine.specs.declared.machine.Action.{Action}
use Rattle.epoch_machine.specs.declared.machine.Action.TheVariants.{Pin, Unpin, Repin, Defer, Flush}
use Rattle.epoch_machine.specs.Asks.{Log}
use Rattle.epoch_handles.specs.Drives.{Situation, Performed}
use Rattle.epoch_handles.specs.ThreadGrace.{PerformedWithBags}
use Rattle.epoch_handles.specs.JobsKept.{Life, AreLivesOf, HasLeft, all_kept, all_given, with_action}

-- what a participant has begun, the first action first
abbrev pub actions_of : {J : Type 0} → Life J → List Action
actions_of life = map (λ call. call.0) life.calls

-- Two participants share a table of two positions, and one place for bags. The reader has pinned and unpinned. The
-- other one has pinned, deferred this job, flushed it, and called it in its third flush, which is its last call.
pub record SharesAPlace {J : Type 0} (job : J) (reader caller : Life J) : Type 0 where
  pub reads : actions_of reader ≡ Pin ∷ Unpin ∷ []
  pub calls : actions_of caller ≡ Pin ∷ Defer ∷ Flush ∷ Flush ∷ Repin ∷ Flush ∷ []
  pub kept : all_kept caller.calls ≡ job ∷ []
  pub given : all_given caller.calls ≡ job ∷ []
  -- The place is as the rule says, and the lives are those of its seats.
  pub places : State (Option (Sealed J)) (PlaceView J)
  pub agree : PlacesAgree 1 places
  pub are_lives : AreLivesOf 1 places.views (reader ∷ caller ∷ [])

-- The caller's last call got a bag out of the place. It has this job alone.
pub record GetsItsBag {J : Type 0} (job : J) (caller : Life J) : Type 0 where
  pub seal : ℕ
  pub before : Situation J
  pub log : Log J
  pub earlier : List (Action × Log J)
  pub last : caller.calls ≡ earlier ++ (Flush, log) ∷ []
  pub performed : Performed 1 (with_action Flush before) log caller.now
  pub gets : PerformedWithBags 1 (with_action Flush before) log (record { seal = seal; jobs = job ∷ [] } ∷ [])
      caller.now

-- When the epoch was this seal, the reader was pinned, and had read the epoch again. Now both seats know what their
-- participants do, and the reader has unpinned.
pub record WasPinnedAt {J : Type 0} (seal : ℕ) (reader caller : Life J) : Type 0 where
  pub then : State (Unit {0}) ParticipantView
  pub agreed : EpochsAgree 2 then
  pub epoch : slice_index then.words 0 ≡ 2 * seal
  pub pinned : (first : ℕ) × (view : ParticipantView) × Sees then 0 view × (view.first_read ≡ Some first)
  pub now : State (Unit {0}) ParticipantView
  pub agree : EpochsAgree 2 now
  pub reader_sees : Sees now 0 reader.now.sight.words
  pub caller_sees : Sees now 1 caller.now.sight.words

-- A job that two participants kept and called, while one of them was pinned meanwhile.
pub record IsCalledOnThreads {J : Type 0} (job : J) : Type 0 where
  pub reader : Life J
  pub caller : Life J
  pub shares : SharesAPlace job reader caller
  pub bag : GetsItsBag job caller
  pub waits : WasPinnedAt bag.seal reader caller

-- Two participants that have left, after the caller has deferred the job once more, unpinned and been released. The
-- place has a bag with this job alone when it is closed.
pub record IsLeftOnThreads {J : Type 0} (job : J) : Type 0 where
  pub reader : Life J
  pub caller : Life J
  pub seal : ℕ
  pub last : AreLast 1 (Some (record { seal = seal; jobs = job ∷ [] }) ∷ [])
  pub are_lives : AreLivesOf 1 last.state.views (reader ∷ caller ∷ [])
  pub have_left : All (λ life. HasLeft life.now) (reader ∷ caller ∷ [])
  pub kept : all_kept caller.calls ≡ job ∷ job ∷ []
  pub given : all_given caller.calls ≡ job ∷ []
