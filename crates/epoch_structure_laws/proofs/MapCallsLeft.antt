-- Each reply lowers the number of calls that a call of the map still makes.
use Rattle.std.proofs.Common.{◌≡◌, ◌<◌, ◌≤◌, ℕ, zero, suc, ◌+◌, ◌*◌, Bool, true, false, Option, Some, None, arith}
use Rattle.std.proofs.Common.{if◌then◌else◌, nat_lt}
use Rattle.epoch_cells.specs.declared.cells.name.Name.{Name}
use Rattle.epoch_laws.specs.declared.heap.access.AccessAnswer.{AccessAnswer}
use Rattle.epoch_laws.specs.declared.heap.access.AccessAnswer.TheVariants.{Unit as UnitAnswer, Name as NameAnswer}
use Rattle.epoch_laws.specs.declared.heap.access.AccessAnswer.TheVariants.{Value, Pointer, Exchanged}
use Rattle.epoch_laws.specs.declared.heap.access.Spot.{Spot}
use Rattle.epoch_laws.specs.declared.heap.access.Spot.TheVariants.{Root, Field}
use Rattle.epoch_laws.specs.declared.step.Reply.TheVariants.{Done}
use Rattle.epoch_structure_laws.specs.Plans.{IsLowered}
use Rattle.epoch_structure_laws.specs.declared.map.plan.Aim.{Aim}
use Rattle.epoch_structure_laws.specs.declared.map.plan.Aim.TheVariants.{ToInsert, ToRemove, ToGet}
use Rattle.epoch_structure_laws.specs.declared.map.plan.MapWork.TheVariants.{Insert, Remove, Get}
use Rattle.epoch_structure_laws.specs.declared.map.plan.MapPhase.TheVariants.{MakingRoom, Placing, LoadingFirst}
use Rattle.epoch_structure_laws.specs.declared.map.plan.MapPhase.TheVariants.{Reading, Leaving, LoadingNext, Unlinking}
use Rattle.epoch_structure_laws.specs.declared.map.plan.MapPhase.TheVariants.{Burying, Linking, Inserting, Marking}
use Rattle.epoch_structure_laws.specs.declared.map.plan.MapPhase.TheVariants.{Dropping, Removing, TakingBack, Answering}
use Rattle.epoch_structure_laws.specs.MapProgram.{map, map_calls_left, node_key, key_sought, bucket_of, again, absent}
use Rattle.epoch_structure_laws.specs.MapProgram.{present, at, to_look, looked_at, map_placed, first_loaded, map_read}
use Rattle.epoch_structure_laws.specs.MapProgram.{map_next_loaded, unlinked, map_linked, inserted, marked_now, dropped}

-- a walk that begins again has used up a move, or ends
again_fewer : (aim : Aim) (k : ℕ) → map_calls_left (again aim k) < 5 * k + 2
again_fewer (ToInsert b e own) zero = omega arith
again_fewer (ToRemove b key) zero = omega arith
again_fewer (ToGet b key) zero = omega arith
again_fewer aim (suc k) = omega arith

-- nothing is found, and an insert goes on
absent_fewer : (aim : Aim) (link : Spot) (o : Option Name) (k : ℕ) → map_calls_left (absent aim link o k) < 5 * k + 4
absent_fewer (ToInsert b e own) link o k = omega arith
absent_fewer (ToRemove b key) link o k = omega arith
absent_fewer (ToGet b key) link o k = omega arith

present_fewer : (aim : Aim) (link : Spot) (c : Name) (v : ℕ) (o : Option Name) (k : ℕ)
    → map_calls_left (present aim link c v o k) < 5 * k + 4
present_fewer (ToInsert b e own) link c v o k = omega arith
present_fewer (ToRemove b key) link c v o k = omega arith
present_fewer (ToGet b key) link c v o k = omega arith

-- a walk that goes on has used up a move too
at_fewer : (aim : Aim) (link : Spot) (o : Option Name) (k : ℕ) → map_calls_left (at aim link o k) < 5 * k + 4
at_fewer aim link None k = absent_fewer aim link None k
at_fewer (ToInsert b e own) link (Some c) zero = omega arith
at_fewer (ToRemove b key) link (Some c) zero = omega arith
at_fewer (ToGet b key) link (Some c) zero = omega arith
at_fewer aim link (Some c) (suc k) = omega arith

-- AN ANSWER

placed_fewer : (b e k : ℕ) (a : AccessAnswer) → map_calls_left (map_placed b e k a) < 5 * k + 2
placed_fewer b e k (NameAnswer n) = again_fewer (ToInsert b e n) k
placed_fewer b e k _ = omega arith

first_fewer : (aim : Aim) (k : ℕ) (a : AccessAnswer) → map_calls_left (first_loaded aim k a) < 5 * k + 6
first_fewer aim k (Pointer ptr) = omega (arith, at_fewer aim (Root (bucket_of aim)) ptr.name k)
first_fewer aim k _ = omega (arith, again_fewer aim k)

read_fewer : (aim : Aim) (link : Spot) (c : Name) (k : ℕ) (a : AccessAnswer)
    → map_calls_left (map_read aim link c k a) < 5 * k + 6
read_fewer aim link c k (Value v) = omega arith
read_fewer aim link c k _ = omega (arith, again_fewer aim k)

look_fewer : (aim : Aim) (link : Spot) (c : Name) (v k : ℕ) → map_calls_left (to_look aim link c v k) < 5 * k + 5
look_fewer aim link c v k = by_test (nat_lt (key_sought aim) (node_key v))
  where
    by_test : (b : Bool)
        → map_calls_left (if b then absent aim link (Some c) k else LoadingNext aim link c v k) < 5 * k + 5
    by_test true = omega (arith, absent_fewer aim link (Some c) k)
    by_test false = omega arith

looked_fewer : (aim : Aim) (link : Spot) (c : Name) (v k : ℕ) (o : Option Name) (t : ℕ)
    → map_calls_left (looked_at aim link c v k o t) < 5 * k + 4
looked_fewer aim link c v k o zero = by_test (nat_lt (node_key v) (key_sought aim))
  where
    by_test : (b : Bool)
        → map_calls_left (if b then at aim (Field c 0) o k else present aim link c v o k) < 5 * k + 4
    by_test true = at_fewer aim (Field c 0) o k
    by_test false = present_fewer aim link c v o k
looked_fewer aim link c v k o (suc t) = omega arith

next_fewer : (aim : Aim) (link : Spot) (c : Name) (v k : ℕ) (a : AccessAnswer)
    → map_calls_left (map_next_loaded aim link c v k a) < 5 * k + 4
next_fewer aim link c v k (Pointer ptr) = looked_fewer aim link c v k ptr.name ptr.tag
next_fewer aim link c v k _ = omega (arith, again_fewer aim k)

unlinked_fewer : (aim : Aim) (c : Name) (k : ℕ) (a : AccessAnswer) → map_calls_left (unlinked aim c k a) < 5 * k + 3
unlinked_fewer aim c k (Exchanged ptr) = omega arith
unlinked_fewer aim c k _ = omega (arith, again_fewer aim k)

linked_fewer : (b e : ℕ) (own : Name) (link : Spot) (o : Option Name) (k : ℕ) (a : AccessAnswer)
    → map_calls_left (map_linked b e own link o k a) < 5 * k + 3
linked_fewer b e own link o k UnitAnswer = omega arith
linked_fewer b e own link o k _ = omega (arith, again_fewer (ToInsert b e own) k)

inserted_fewer : (b e : ℕ) (own : Name) (k : ℕ) (a : AccessAnswer) → map_calls_left (inserted b e own k a) < 5 * k + 2
inserted_fewer b e own k (Exchanged ptr) = omega arith
inserted_fewer b e own k _ = again_fewer (ToInsert b e own) k

marked_fewer : (b key : ℕ) (link : Spot) (c : Name) (v : ℕ) (o : Option Name) (k : ℕ) (a : AccessAnswer)
    → map_calls_left (marked_now b key link c v o k a) < 5 * k + 3
marked_fewer b key link c v o k (Exchanged ptr) = omega arith
marked_fewer b key link c v o k _ = omega (arith, again_fewer (ToRemove b key) k)

dropped_fewer : (c : Name) (v : ℕ) (a : AccessAnswer) → map_calls_left (dropped c v a) < 2
dropped_fewer c v (Exchanged ptr) = omega arith
dropped_fewer c v _ = omega arith

-- A REPLY

pub map_lowered : IsLowered map map_calls_left
map_lowered g (MakingRoom (Insert b e k)) (Done a) on = omega arith
map_lowered g (MakingRoom (Remove b key k)) (Done a) on = again_fewer (ToRemove b key) k
map_lowered g (MakingRoom (Get b key k)) (Done a) on = again_fewer (ToGet b key) k
map_lowered g (MakingRoom (Insert b e k)) _ on = omega arith
map_lowered g (MakingRoom (Remove b key k)) _ on = omega arith
map_lowered g (MakingRoom (Get b key k)) _ on = omega arith
map_lowered g (Placing b e k) (Done a) on = placed_fewer b e k a
map_lowered g (Placing b e k) _ on = omega arith
map_lowered g (LoadingFirst aim k) (Done a) on = first_fewer aim k a
map_lowered g (LoadingFirst aim k) _ on = omega (arith, again_fewer aim k)
map_lowered g (Reading aim link c k) (Done a) on = read_fewer aim link c k a
map_lowered g (Reading aim link c k) _ on = omega (arith, again_fewer aim k)
map_lowered g (Leaving aim link c v k) (Done a) on = look_fewer aim link c v k
map_lowered g (Leaving aim link c v k) _ on = omega (arith, again_fewer aim k)
map_lowered g (LoadingNext aim link c v k) (Done a) on = next_fewer aim link c v k a
map_lowered g (LoadingNext aim link c v k) _ on = omega (arith, again_fewer aim k)
map_lowered g (Unlinking aim link c next k) (Done a) on = unlinked_fewer aim c k a
map_lowered g (Unlinking aim link c next k) _ on = omega (arith, again_fewer aim k)
map_lowered g (Burying aim c k) (Done a) on = again_fewer aim k
map_lowered g (Burying aim c k) _ on = omega arith
map_lowered g (Linking b e own link next k) (Done a) on = linked_fewer b e own link next k a
map_lowered g (Linking b e own link next k) _ on = omega (arith, again_fewer (ToInsert b e own) k)
map_lowered g (Inserting b e own link next k) (Done a) on = inserted_fewer b e own k a
map_lowered g (Inserting b e own link next k) _ on = again_fewer (ToInsert b e own) k
map_lowered g (Marking b key link c v next k) (Done a) on = marked_fewer b key link c v next k a
map_lowered g (Marking b key link c v next k) _ on = omega (arith, again_fewer (ToRemove b key) k)
map_lowered g (Dropping b key link c v next) (Done a) on = dropped_fewer c v a
map_lowered g (Dropping b key link c v next) _ on = omega arith
map_lowered g (Removing c v) (Done a) on = omega arith
map_lowered g (Removing c v) _ on = omega arith
map_lowered g (TakingBack own answer) (Done a) on = omega arith
map_lowered g (TakingBack own answer) _ on = omega arith
map_lowered g (Answering a) r on = absurd (on tt)
