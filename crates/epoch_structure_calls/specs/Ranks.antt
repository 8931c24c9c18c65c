-- How a call of the map's program for a key is told apart from one whose entries are coded: each entry is told as how
-- its
-- key compares with the one that is sought.
use Rattle.std.specs.Prelude.{◌≡◌, ℕ}
use Rattle.std.specs.Ordering.{nat_cmp}
use Rattle.epoch_laws.specs.declared.heap.access.Access.{Access}
use Rattle.epoch_laws.specs.declared.heap.access.Access.TheVariants.{Place}
use Rattle.epoch_laws.specs.declared.heap.access.AccessAnswer.TheVariants.{Value}
use Rattle.epoch_laws.specs.declared.step.Reply.{Reply}
use Rattle.epoch_laws.specs.declared.step.Reply.TheVariants.{Done}
use Rattle.epoch_structure_laws.specs.Plans.{Deed, Flushes, Touches, Defers, Answers}
use Rattle.epoch_structure_laws.specs.declared.map.plan.Aim.{Aim}
use Rattle.epoch_structure_laws.specs.declared.map.plan.Aim.TheVariants.{ToInsert, ToRemove, ToGet}
use Rattle.epoch_structure_laws.specs.declared.map.plan.MapAnswer.{MapAnswer}
use Rattle.epoch_structure_laws.specs.declared.map.plan.MapAnswer.TheVariants.{AlreadyThere, AlreadyThereLeaking}
use Rattle.epoch_structure_laws.specs.declared.map.plan.MapAnswer.TheVariants.{Removed}
use Rattle.epoch_structure_laws.specs.declared.map.plan.MapAnswer.TheVariants.{RemovedLeaking, Found}
use Rattle.epoch_structure_laws.specs.declared.map.plan.MapPhase.{MapPhase}
use Rattle.epoch_structure_laws.specs.declared.map.plan.MapPhase.TheVariants.{MakingRoom, Placing, LoadingFirst}
use Rattle.epoch_structure_laws.specs.declared.map.plan.MapPhase.TheVariants.{Reading}
use Rattle.epoch_structure_laws.specs.declared.map.plan.MapPhase.TheVariants.{Leaving}
use Rattle.epoch_structure_laws.specs.declared.map.plan.MapPhase.TheVariants.{LoadingNext, Unlinking, Burying, Linking}
use Rattle.epoch_structure_laws.specs.declared.map.plan.MapPhase.TheVariants.{Inserting}
use Rattle.epoch_structure_laws.specs.declared.map.plan.MapPhase.TheVariants.{Marking, Dropping, Removing, TakingBack}
use Rattle.epoch_structure_laws.specs.declared.map.plan.MapPhase.TheVariants.{Answering}
use Rattle.epoch_structure_laws.specs.declared.map.plan.MapWork.{MapWork}
use Rattle.epoch_structure_laws.specs.declared.map.plan.MapWork.TheVariants.{Insert, Remove, Get}
use Rattle.epoch_structure_laws.specs.MapProgram.{node_key}
use Rattle.epoch_structure_calls.specs.MapCalls.{coded}

module _ (key : ℕ) where
  -- an entry, as a call for this key is told it
  abbrev pub code_of : ℕ → ℕ
  code_of entry = coded (nat_cmp (node_key entry) key)

  abbrev pub coded_work : MapWork → MapWork
  coded_work (Insert b e k) = Insert b (code_of e) k
  coded_work (Remove b key' k) = Remove b 1 k
  coded_work (Get b key' k) = Get b 1 k

  abbrev pub coded_aim : Aim → Aim
  coded_aim (ToInsert b e own) = ToInsert b (code_of e) own
  coded_aim (ToRemove b key') = ToRemove b 1
  coded_aim (ToGet b key') = ToGet b 1

  abbrev pub coded_answer : MapAnswer → MapAnswer
  coded_answer (AlreadyThere v) = AlreadyThere (code_of v)
  coded_answer (AlreadyThereLeaking v) = AlreadyThereLeaking (code_of v)
  coded_answer (Removed v) = Removed (code_of v)
  coded_answer (RemovedLeaking v) = RemovedLeaking (code_of v)
  coded_answer (Found v) = Found (code_of v)
  coded_answer answer = answer

  -- the phase of the coded call
  abbrev pub coded_phase : MapPhase → MapPhase
  coded_phase (MakingRoom work) = MakingRoom (coded_work work)
  coded_phase (Placing b e k) = Placing b (code_of e) k
  coded_phase (LoadingFirst aim k) = LoadingFirst (coded_aim aim) k
  coded_phase (Reading aim link c k) = Reading (coded_aim aim) link c k
  coded_phase (Leaving aim link c v k) = Leaving (coded_aim aim) link c (code_of v) k
  coded_phase (LoadingNext aim link c v k) = LoadingNext (coded_aim aim) link c (code_of v) k
  coded_phase (Unlinking aim link c next k) = Unlinking (coded_aim aim) link c next k
  coded_phase (Burying aim c k) = Burying (coded_aim aim) c k
  coded_phase (Linking b e own link next k) = Linking b (code_of e) own link next k
  coded_phase (Inserting b e own link next k) = Inserting b (code_of e) own link next k
  coded_phase (Marking b key' link c v next k) = Marking b 1 link c (code_of v) next k
  coded_phase (Dropping b key' link c v next) = Dropping b 1 link c (code_of v) next
  coded_phase (Removing c v) = Removing c (code_of v)
  coded_phase (TakingBack own answer) = TakingBack own (coded_answer answer)
  coded_phase (Answering answer) = Answering (coded_answer answer)

  -- the same reply, as it is told to the coded call
  abbrev pub coded_reply : Reply → Reply
  coded_reply (Done (Value v)) = Done (Value (code_of v))
  coded_reply reply = reply

  -- the same access, as the coded call asks for it
  abbrev pub coded_access : Access → Access
  coded_access (Place e) = Place (code_of e)
  coded_access access = access

  -- two deeds ask for the same call, or answer alike
  abbrev pub AsksAlike : Deed MapPhase MapAnswer → Deed MapPhase MapAnswer → Type 0
  AsksAlike (Flushes done refused) (Flushes done' refused') = Unit {0}
  AsksAlike (Touches access told refused) (Touches access' told' refused') = access' ≡ coded_access access
  AsksAlike (Defers name deferred refused) (Defers name' deferred' refused') = name' ≡ name
  AsksAlike (Answers answer) (Answers answer') = answer' ≡ coded_answer answer
  AsksAlike deed deed' = ⊥

  -- the work, the walk or the phase is for this key
  abbrev pub WorkIsFor : MapWork → Type 0
  WorkIsFor (Insert b e k) = node_key e ≡ key
  WorkIsFor (Remove b key' k) = key' ≡ key
  WorkIsFor (Get b key' k) = key' ≡ key

  abbrev pub AimIsFor : Aim → Type 0
  AimIsFor (ToInsert b e own) = node_key e ≡ key
  AimIsFor (ToRemove b key') = key' ≡ key
  AimIsFor (ToGet b key') = key' ≡ key

  abbrev pub PhaseIsFor : MapPhase → Type 0
  PhaseIsFor (MakingRoom work) = WorkIsFor work
  PhaseIsFor (Placing b e k) = node_key e ≡ key
  PhaseIsFor (LoadingFirst aim k) = AimIsFor aim
  PhaseIsFor (Reading aim link c k) = AimIsFor aim
  PhaseIsFor (Leaving aim link c v k) = AimIsFor aim
  PhaseIsFor (LoadingNext aim link c v k) = AimIsFor aim
  PhaseIsFor (Unlinking aim link c next k) = AimIsFor aim
  PhaseIsFor (Burying aim c k) = AimIsFor aim
  PhaseIsFor (Linking b e own link next k) = node_key e ≡ key
  PhaseIsFor (Inserting b e own link next k) = node_key e ≡ key
  PhaseIsFor (Marking b key' link c v next k) = key' ≡ key
  PhaseIsFor phase = Unit {0}
