-- What a call of the map has done or found, by the phase that it is in.
use Rattle.std.specs.Prelude.{ℕ, zero, suc, Option, Some, None, if◌then◌else◌, nat_lt}
use Rattle.epoch_cells.specs.declared.cells.name.Name.{Name}
use Rattle.epoch_laws.specs.declared.heap.access.AccessAnswer.{AccessAnswer}
use Rattle.epoch_laws.specs.declared.heap.access.AccessAnswer.TheVariants.{Exchanged, Pointer}
use Rattle.epoch_laws.specs.declared.step.Reply.{Reply}
use Rattle.epoch_laws.specs.declared.step.Reply.TheVariants.{Done}
use Rattle.epoch_structure_laws.specs.declared.map.plan.Aim.{Aim}
use Rattle.epoch_structure_laws.specs.declared.map.plan.Aim.TheVariants.{ToInsert, ToRemove, ToGet}
use Rattle.epoch_structure_laws.specs.declared.map.plan.MapAnswer.{MapAnswer}
use Rattle.epoch_structure_laws.specs.declared.map.plan.MapAnswer.TheVariants.{Inserted, AlreadyThere}
use Rattle.epoch_structure_laws.specs.declared.map.plan.MapAnswer.TheVariants.{AlreadyThereLeaking}
use Rattle.epoch_structure_laws.specs.declared.map.plan.MapAnswer.TheVariants.{Removed, RemovedLeaking, Found, NotFound}
use Rattle.epoch_structure_laws.specs.declared.map.plan.MapPhase.{MapPhase}
use Rattle.epoch_structure_laws.specs.declared.map.plan.MapPhase.TheVariants.{LoadingFirst, Leaving, LoadingNext}
use Rattle.epoch_structure_laws.specs.declared.map.plan.MapPhase.TheVariants.{Inserting, Marking}
use Rattle.epoch_structure_laws.specs.declared.map.plan.MapPhase.TheVariants.{Dropping, Removing, TakingBack, Answering}
use Rattle.epoch_structure_laws.specs.MapProgram.{node_key, key_sought}

pub data MapDeed : Type 0 where
  DidNothing : MapDeed
  Added : MapDeed  -- its won exchange has added its entry
  TookOut : (entry : ℕ) → MapDeed  -- its won exchange has taken this entry out
  Saw : (entry : ℕ) → MapDeed  -- it has found this entry of its key
  SawNone : MapDeed  -- it has found no entry of its key

-- what a call has done that answers this
abbrev pub deed_answered : MapAnswer → MapDeed
deed_answered Inserted = Added
deed_answered (AlreadyThere v) = Saw v
deed_answered (AlreadyThereLeaking v) = Saw v
deed_answered (Removed v) = TookOut v
deed_answered (RemovedLeaking v) = TookOut v
deed_answered (Found v) = Saw v
deed_answered NotFound = SawNone
deed_answered _ = DidNothing

-- what a call has done that is in this phase
abbrev pub deed_done : MapPhase → MapDeed
deed_done (Dropping b key link c v next) = TookOut v
deed_done (Removing c v) = TookOut v
deed_done (TakingBack own answer) = deed_answered answer
deed_done (Answering answer) = deed_answered answer
deed_done _ = DidNothing

-- A link leads past the key. An insert goes on to put its entry there.
abbrev pub deed_past : Aim → MapDeed
deed_past (ToInsert b e own) = DidNothing
deed_past _ = SawNone

abbrev pub deed_to : Aim → Option Name → MapDeed
deed_to aim None = deed_past aim
deed_to aim (Some c) = DidNothing

-- An entry of the key is there. A removal goes on to mark its node.
abbrev pub deed_there : Aim → ℕ → MapDeed
deed_there (ToRemove b key) v = DidNothing
deed_there _ v = Saw v

abbrev pub deed_looked : Aim → ℕ → Option Name → ℕ → MapDeed
deed_looked aim v next zero = if nat_lt (node_key v) (key_sought aim) then deed_to aim next else deed_there aim v
deed_looked aim v next (suc tag) = DidNothing

-- What it has done once the call of its phase has this reply: a won exchange of an insert or a removal is a deed, and
-- so is what a load or the entry that was read tells of the key. Nothing else changes it, and no refusal does.
abbrev pub deed_told : MapPhase → AccessAnswer → MapDeed
deed_told (Inserting b e own link next k) (Exchanged ptr) = Added
deed_told (Marking b key link c v next k) (Exchanged ptr) = TookOut v
deed_told (LoadingFirst aim k) (Pointer ptr) = deed_to aim ptr.name
deed_told (Leaving aim link c v k) answer = if nat_lt (key_sought aim) (node_key v) then deed_past aim else DidNothing
deed_told (LoadingNext aim link c v k) (Pointer ptr) = deed_looked aim v ptr.name ptr.tag
deed_told phase answer = deed_done phase

abbrev pub deed_then : MapPhase → Reply → MapDeed
deed_then phase (Done answer) = deed_told phase answer
deed_then phase _ = deed_done phase
