-- A call of the map passes on what it has done from phase to phase, up to its answer.
use Rattle.std.proofs.Common.{◌≡◌, ℕ, zero, suc, Option, Some, None, Bool, true, false, refl, if◌then◌else◌, nat_lt}
use Rattle.epoch_cells.specs.declared.cells.name.Name.{Name}
use Rattle.epoch_laws.specs.declared.heap.access.AccessAnswer.{AccessAnswer}
use Rattle.epoch_laws.specs.declared.heap.access.AccessAnswer.TheVariants.{Unit as UnitAnswer, Name as NameAnswer}
use Rattle.epoch_laws.specs.declared.heap.access.AccessAnswer.TheVariants.{Value, Pointer, Exchanged}
use Rattle.epoch_laws.specs.declared.heap.access.Spot.{Spot}
use Rattle.epoch_laws.specs.declared.heap.access.Spot.TheVariants.{Root, Field}
use Rattle.epoch_laws.specs.declared.step.Reply.{Reply}
use Rattle.epoch_laws.specs.declared.step.Reply.TheVariants.{Done}
use Rattle.epoch_structure_laws.specs.Plans.{after_by, done_by, refused_by}
use Rattle.epoch_structure_laws.specs.declared.map.plan.Aim.{Aim}
use Rattle.epoch_structure_laws.specs.declared.map.plan.Aim.TheVariants.{ToInsert, ToRemove, ToGet}
use Rattle.epoch_structure_laws.specs.declared.map.plan.MapWork.TheVariants.{Insert, Remove, Get}
use Rattle.epoch_structure_laws.specs.declared.map.plan.MapAnswer.{MapAnswer}
use Rattle.epoch_structure_laws.specs.declared.map.plan.MapAnswer.TheVariants.{AlreadyThere, MovesOut}
use Rattle.epoch_structure_laws.specs.declared.map.plan.MapPhase.{MapPhase}
use Rattle.epoch_structure_laws.specs.declared.map.plan.MapPhase.TheVariants.{MakingRoom, Placing, LoadingFirst}
use Rattle.epoch_structure_laws.specs.declared.map.plan.MapPhase.TheVariants.{Reading, Leaving, LoadingNext, Unlinking}
use Rattle.epoch_structure_laws.specs.declared.map.plan.MapPhase.TheVariants.{Burying, Linking, Inserting, Marking}
use Rattle.epoch_structure_laws.specs.declared.map.plan.MapPhase.TheVariants.{Dropping, Removing, TakingBack, Answering}
use Rattle.epoch_structure_laws.specs.MapProgram.{node_key, key_sought, bucket_of, map_deed_of, MapStarts, again}
use Rattle.epoch_structure_laws.specs.MapProgram.{absent, present, at, leaking, map_placed, first_loaded, map_read}
use Rattle.epoch_structure_laws.specs.MapProgram.{looked_at, to_look, map_next_loaded, unlinked, map_linked, inserted}
use Rattle.epoch_structure_laws.specs.MapProgram.{marked_now, dropped}
use Rattle.epoch_structure_laws.specs.MapDeeds.{MapDeed, DidNothing, TookOut, deed_answered, deed_done, deed_past}
use Rattle.epoch_structure_laws.specs.MapDeeds.{deed_to, deed_there, deed_looked, deed_told, deed_then}

-- a walk that begins again has done nothing
again_done : (aim : Aim) (k : ℕ) → deed_done (again aim k) ≡ DidNothing
again_done (ToInsert b e own) zero = refl
again_done (ToRemove b key) zero = refl
again_done (ToGet b key) zero = refl
again_done aim (suc k) = refl

absent_done : (aim : Aim) (link : Spot) (o : Option Name) (k : ℕ) → deed_done (absent aim link o k) ≡ deed_past aim
absent_done (ToInsert b e own) link o k = refl
absent_done (ToRemove b key) link o k = refl
absent_done (ToGet b key) link o k = refl

present_done : (aim : Aim) (link : Spot) (c : Name) (v : ℕ) (o : Option Name) (k : ℕ)
    → deed_done (present aim link c v o k) ≡ deed_there aim v
present_done (ToInsert b e own) link c v o k = refl
present_done (ToRemove b key) link c v o k = refl
present_done (ToGet b key) link c v o k = refl

at_done : (aim : Aim) (link : Spot) (o : Option Name) (k : ℕ) → deed_done (at aim link o k) ≡ deed_to aim o
at_done aim link None k = absent_done aim link None k
at_done aim link (Some c) zero = again_done aim 0
at_done aim link (Some c) (suc k) = refl

-- AN ANSWER

placed_done : (b e k : ℕ) (a : AccessAnswer) → deed_done (map_placed b e k a) ≡ DidNothing
placed_done b e k (NameAnswer n) = again_done (ToInsert b e n) k
placed_done b e k _ = refl

first_done : (aim : Aim) (k : ℕ) (a : AccessAnswer)
    → deed_done (first_loaded aim k a) ≡ deed_told (LoadingFirst aim k) a
first_done aim k (Pointer ptr) = at_done aim (Root (bucket_of aim)) ptr.name k
first_done aim k _ = again_done aim k

read_done : (aim : Aim) (link : Spot) (c : Name) (k : ℕ) (a : AccessAnswer)
    → deed_done (map_read aim link c k a) ≡ DidNothing
read_done aim link c k (Value v) = refl
read_done aim link c k _ = again_done aim k

look_done : (aim : Aim) (link : Spot) (c : Name) (v k : ℕ) → deed_done (to_look aim link c v k)
    ≡ (if nat_lt (key_sought aim) (node_key v) then deed_past aim else DidNothing)
look_done aim link c v k = by_test (nat_lt (key_sought aim) (node_key v))
  where
    by_test : (b : Bool) → deed_done (if b then absent aim link (Some c) k else LoadingNext aim link c v k)
        ≡ (if b then deed_past aim else DidNothing)
    by_test true = absent_done aim link (Some c) k
    by_test false = refl

looked_done : (aim : Aim) (link : Spot) (c : Name) (v k : ℕ) (o : Option Name) (t : ℕ)
    → deed_done (looked_at aim link c v k o t) ≡ deed_looked aim v o t
looked_done aim link c v k o zero = by_test (nat_lt (node_key v) (key_sought aim))
  where
    by_test : (b : Bool) → deed_done (if b then at aim (Field c 0) o k else present aim link c v o k)
        ≡ (if b then deed_to aim o else deed_there aim v)
    by_test true = at_done aim (Field c 0) o k
    by_test false = present_done aim link c v o k
looked_done aim link c v k o (suc t) = refl

next_done : (aim : Aim) (link : Spot) (c : Name) (v k : ℕ) (a : AccessAnswer)
    → deed_done (map_next_loaded aim link c v k a) ≡ deed_told (LoadingNext aim link c v k) a
next_done aim link c v k (Pointer ptr) = looked_done aim link c v k ptr.name ptr.tag
next_done aim link c v k _ = again_done aim k

unlinked_done : (aim : Aim) (c : Name) (k : ℕ) (a : AccessAnswer) → deed_done (unlinked aim c k a) ≡ DidNothing
unlinked_done aim c k (Exchanged ptr) = refl
unlinked_done aim c k _ = again_done aim k

linked_done : (b e : ℕ) (own : Name) (link : Spot) (o : Option Name) (k : ℕ) (a : AccessAnswer)
    → deed_done (map_linked b e own link o k a) ≡ DidNothing
linked_done b e own link o k UnitAnswer = refl
linked_done b e own link o k _ = again_done (ToInsert b e own) k

inserted_done : (b e : ℕ) (own : Name) (link : Spot) (o : Option Name) (k : ℕ) (a : AccessAnswer)
    → deed_done (inserted b e own k a) ≡ deed_told (Inserting b e own link o k) a
inserted_done b e own link o k (Exchanged ptr) = refl
inserted_done b e own link o k _ = again_done (ToInsert b e own) k

marked_done : (b key : ℕ) (link : Spot) (c : Name) (v : ℕ) (o : Option Name) (k : ℕ) (a : AccessAnswer)
    → deed_done (marked_now b key link c v o k a) ≡ deed_told (Marking b key link c v o k) a
marked_done b key link c v o k (Exchanged ptr) = refl
marked_done b key link c v o k _ = again_done (ToRemove b key) k

dropped_done : (c : Name) (v : ℕ) (a : AccessAnswer) → deed_done (dropped c v a) ≡ TookOut v
dropped_done c v (Exchanged ptr) = refl
dropped_done c v _ = refl

answer_done : (g : ℕ) (phase : MapPhase) (a : AccessAnswer)
    → deed_done (done_by phase (map_deed_of g phase) a) ≡ deed_told phase a
answer_done g (MakingRoom (Insert b e k)) a = refl
answer_done g (MakingRoom (Remove b key k)) a = again_done (ToRemove b key) k
answer_done g (MakingRoom (Get b key k)) a = again_done (ToGet b key) k
answer_done g (Placing b e k) a = placed_done b e k a
answer_done g (LoadingFirst aim k) a = first_done aim k a
answer_done g (Reading aim link c k) a = read_done aim link c k a
answer_done g (Leaving aim link c v k) a = look_done aim link c v k
answer_done g (LoadingNext aim link c v k) a = next_done aim link c v k a
answer_done g (Unlinking aim link c next k) a = unlinked_done aim c k a
answer_done g (Burying aim c k) a = again_done aim k
answer_done g (Linking b e own link next k) a = linked_done b e own link next k a
answer_done g (Inserting b e own link next k) a = inserted_done b e own link next k a
answer_done g (Marking b key link c v next k) a = marked_done b key link c v next k a
answer_done g (Dropping b key link c v next) a = dropped_done c v a
answer_done g (Removing c v) a = refl
answer_done g (TakingBack own answer) a = refl
answer_done g (Answering answer) a = refl

-- A REFUSAL

leaking_done : (answer : MapAnswer) → deed_answered (leaking answer) ≡ deed_answered answer
leaking_done (AlreadyThere v) = refl
leaking_done MovesOut = refl
leaking_done answer = refl

refusal_done : (g : ℕ) (phase : MapPhase) → deed_done (refused_by phase (map_deed_of g phase)) ≡ deed_done phase
refusal_done g (LoadingFirst aim k) = again_done aim k
refusal_done g (Reading aim link c k) = again_done aim k
refusal_done g (Leaving aim link c v k) = again_done aim k
refusal_done g (LoadingNext aim link c v k) = again_done aim k
refusal_done g (Unlinking aim link c next k) = again_done aim k
refusal_done g (Linking b e own link next k) = again_done (ToInsert b e own) k
refusal_done g (Inserting b e own link next k) = again_done (ToInsert b e own) k
refusal_done g (Marking b key link c v next k) = again_done (ToRemove b key) k
refusal_done g (TakingBack own answer) = leaking_done answer
refusal_done g _ = refl

-- each reply passes on what was done
pub deed_passed_on : (g : ℕ) (phase : MapPhase) (r : Reply)
    → deed_done (after_by phase (map_deed_of g phase) r) ≡ deed_then phase r
deed_passed_on g phase (Done a) = answer_done g phase a
deed_passed_on g phase _ = refusal_done g phase

-- a call begins with nothing done
pub begins_with_nothing : (phase : MapPhase) → MapStarts phase → deed_done phase ≡ DidNothing
begins_with_nothing (MakingRoom work) starts = refl
begins_with_nothing (Placing b e k) starts = refl
begins_with_nothing (LoadingFirst (ToRemove b key) k) starts = refl
begins_with_nothing (LoadingFirst (ToGet b key) k) starts = refl
begins_with_nothing (Answering MovesOut) starts = refl
begins_with_nothing _ starts = absurd starts
