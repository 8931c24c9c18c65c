-- How a call of the map stands in each of its phases: which work it is of, and what it has found.
use Rattle.std.proofs.Common.{◌≡◌, ◌∙◌, ℕ, zero, suc, ◌<◌, ◌≤◌, List, [], ◌∷◌, Option, Some, None, Bool, true, false}
use Rattle.std.proofs.Common.{refl, sym, ap, subst, arith, if◌then◌else◌, nat_lt}
use Rattle.std.proofs.lemmas.Bool.Decides.{nat_tests}
use Rattle.epoch_cells.specs.declared.cells.name.Name.{Name}
use Rattle.epoch_cells.specs.declared.fault.Fault.{Fault}
use Rattle.epoch_laws.specs.declared.heap.access.Access.{Access}
use Rattle.epoch_laws.specs.declared.heap.access.AccessAnswer.{AccessAnswer}
use Rattle.epoch_laws.specs.declared.heap.access.AccessAnswer.TheVariants.{Unit as UnitAnswer, Name as NameAnswer}
use Rattle.epoch_laws.specs.declared.heap.access.AccessAnswer.TheVariants.{Value, Pointer, Exchanged}
use Rattle.epoch_laws.specs.declared.heap.access.Spot.{Spot}
use Rattle.epoch_laws.specs.declared.heap.access.Spot.TheVariants.{Root, Field}
use Rattle.epoch_laws.specs.declared.step.Reply.{Reply}
use Rattle.epoch_laws.specs.declared.step.Reply.TheVariants.{Done}
use Rattle.epoch_structure_laws.specs.Plans.{Answers, after_by}
use Rattle.epoch_structure_calls.specs.Paths.{Keeping, GoesTo, DoesBy, ReadsTo}
use Rattle.epoch_structure_laws.specs.declared.map.plan.Aim.{Aim}
use Rattle.epoch_structure_laws.specs.declared.map.plan.Aim.TheVariants.{ToInsert, ToRemove, ToGet}
use Rattle.epoch_structure_laws.specs.declared.map.plan.MapAnswer.{MapAnswer}
use Rattle.epoch_structure_laws.specs.declared.map.plan.MapAnswer.TheVariants.{Inserted, AlreadyThere}
use Rattle.epoch_structure_laws.specs.declared.map.plan.MapAnswer.TheVariants.{AlreadyThereLeaking}
use Rattle.epoch_structure_laws.specs.declared.map.plan.MapAnswer.TheVariants.{Removed, RemovedLeaking, Found, NotFound}
use Rattle.epoch_structure_laws.specs.declared.map.plan.MapAnswer.TheVariants.{MovesOut}
use Rattle.epoch_structure_laws.specs.declared.map.plan.MapAnswer.TheVariants.{MovesOutLeaking, CellsFull, BagsFull}
use Rattle.epoch_structure_laws.specs.declared.map.plan.MapPhase.{MapPhase}
use Rattle.epoch_structure_laws.specs.declared.map.plan.MapPhase.TheVariants.{MakingRoom, Placing, LoadingFirst}
use Rattle.epoch_structure_laws.specs.declared.map.plan.MapPhase.TheVariants.{Reading, Leaving, LoadingNext, Unlinking}
use Rattle.epoch_structure_laws.specs.declared.map.plan.MapPhase.TheVariants.{Burying, Linking, Inserting, Marking}
use Rattle.epoch_structure_laws.specs.declared.map.plan.MapPhase.TheVariants.{Dropping, Removing, TakingBack, Answering}
use Rattle.epoch_structure_laws.specs.declared.map.plan.MapWork.{MapWork}
use Rattle.epoch_structure_laws.specs.declared.map.plan.MapWork.TheVariants.{Insert, Remove, Get}
use Rattle.epoch_structure_laws.specs.MapProgram.{map_deed_of, node_key, key_sought, bucket_of, out_of_moves, again}
use Rattle.epoch_structure_laws.specs.MapProgram.{absent, present, at, to_look, looked_at, map_placed, first_loaded}
use Rattle.epoch_structure_laws.specs.MapProgram.{map_read, map_next_loaded, unlinked, map_linked, inserted, marked_now}
use Rattle.epoch_structure_laws.specs.MapProgram.{dropped, leaking, start_map_work}
use Rattle.epoch_structure_calls.specs.MapCalls.{first_of, stop_of, Attempts}
use Rattle.epoch_structure_calls.specs.MapCalls.Stop.{Answered}

-- the walk is of this work, for the same key
abbrev pub IsFor : MapWork → Aim → Type 0
IsFor (Insert b e m) (ToInsert b' e' own) = e' ≡ e
IsFor (Remove b key m) (ToRemove b' key') = key' ≡ key
IsFor (Get b key m) (ToGet b' key') = key' ≡ key
IsFor work aim = ⊥

abbrev pub moves_for : MapWork → ℕ
moves_for (Insert b e m) = m
moves_for (Remove b key m) = m
moves_for (Get b key m) = m

-- an answer that this work may get: with an entry of its key, and only if it had a move
abbrev pub MayAnswer : MapWork → MapAnswer → Type 0
MayAnswer (Insert b e m) Inserted = 0 < m
MayAnswer (Insert b e m) (AlreadyThere v) = (0 < m) × (node_key v ≡ node_key e)
MayAnswer (Insert b e m) (AlreadyThereLeaking v) = (0 < m) × (node_key v ≡ node_key e)
MayAnswer (Insert b e m) CellsFull = Unit {0}
MayAnswer (Remove b key m) (Removed v) = (0 < m) × (node_key v ≡ key)
MayAnswer (Remove b key m) (RemovedLeaking v) = (0 < m) × (node_key v ≡ key)
MayAnswer (Remove b key m) NotFound = 0 < m
MayAnswer (Get b key m) (Found v) = (0 < m) × (node_key v ≡ key)
MayAnswer (Get b key m) NotFound = 0 < m
MayAnswer work MovesOut = Unit {0}
MayAnswer work MovesOutLeaking = Unit {0}
MayAnswer work BagsFull = Unit {0}
MayAnswer work answer = ⊥

-- an insert gives its own node up, and will answer this
abbrev pub GivesBack : MapWork → MapAnswer → Type 0
GivesBack (Insert b e m) (AlreadyThere v) = (0 < m) × (node_key v ≡ node_key e)
GivesBack (Insert b e m) MovesOut = Unit {0}
GivesBack work answer = ⊥

-- a removal has found this entry of its key
abbrev pub TakesAway : MapWork → ℕ → Type 0
TakesAway (Remove b key m) v = (0 < m) × (node_key v ≡ key)
TakesAway work v = ⊥

-- this work walks on, with a move at least
abbrev pub WalksOn : MapWork → Aim → Type 0
WalksOn work aim = IsFor work aim × (0 < moves_for work)

abbrev pub Suits : MapWork → MapPhase → Type 0
Suits work (MakingRoom w) = w ≡ work
Suits work (Placing b e k) = work ≡ Insert b e k
Suits work (LoadingFirst aim k) = WalksOn work aim
Suits work (Reading aim link c k) = WalksOn work aim
Suits work (Leaving aim link c v k) = WalksOn work aim
Suits work (LoadingNext aim link c v k) = (node_key v ≤ key_sought aim) × WalksOn work aim
Suits work (Unlinking aim link c next k) = WalksOn work aim
Suits work (Burying aim c k) = WalksOn work aim
Suits work (Linking b e own link next k) = WalksOn work (ToInsert b e own)
Suits work (Inserting b e own link next k) = WalksOn work (ToInsert b e own)
Suits work (Marking b key link c v next k) = TakesAway work v × WalksOn work (ToRemove b key)
Suits work (Dropping b key link c v next) = TakesAway work v
Suits work (Removing c v) = TakesAway work v
Suits work (TakingBack own answer) = GivesBack work answer
Suits work (Answering answer) = MayAnswer work answer

-- WHAT FOLLOWS

moves_out : (work : MapWork) → MayAnswer work MovesOut
moves_out (Insert b e m) = tt
moves_out (Remove b key m) = tt
moves_out (Get b key m) = tt

moves_out_leaking : (work : MapWork) → MayAnswer work MovesOutLeaking
moves_out_leaking (Insert b e m) = tt
moves_out_leaking (Remove b key m) = tt
moves_out_leaking (Get b key m) = tt

bags_full : (work : MapWork) → MayAnswer work BagsFull
bags_full (Insert b e m) = tt
bags_full (Remove b key m) = tt
bags_full (Get b key m) = tt

out_suits : (work : MapWork) (aim : Aim) → IsFor work aim → Suits work (out_of_moves aim)
out_suits (Insert b e m) (ToInsert b' e' own) is = tt
out_suits (Remove b key m) (ToRemove b' key') is = tt
out_suits (Get b key m) (ToGet b' key') is = tt
out_suits work aim is = absurd is

begin_suits : (work : MapWork) (aim : Aim) (k : ℕ) → IsFor work aim → (0 < k → 0 < moves_for work)
    → Suits work (again aim k)
begin_suits work aim zero is some = out_suits work aim is
begin_suits work aim (suc k) is some = (is, some (omega arith))

again_suits : (work : MapWork) (aim : Aim) (k : ℕ) → WalksOn work aim → Suits work (again aim k)
again_suits work aim k walks = begin_suits work aim k walks.0 (λ _. walks.1)

absent_suits : (work : MapWork) (aim : Aim) (link : Spot) (o : Option Name) (k : ℕ) → WalksOn work aim
    → Suits work (absent aim link o k)
absent_suits (Insert b e m) (ToInsert b' e' own) link o k walks = walks
absent_suits (Remove b key m) (ToRemove b' key') link o k walks = walks.1
absent_suits (Get b key m) (ToGet b' key') link o k walks = walks.1
absent_suits work aim link o k walks = absurd walks.0

present_suits : (work : MapWork) (aim : Aim) (link : Spot) (c : Name) (v : ℕ) (o : Option Name) (k : ℕ)
    → node_key v ≡ key_sought aim → WalksOn work aim → Suits work (present aim link c v o k)
present_suits (Insert b e m) (ToInsert b' e' own) link c v o k of_key walks = (walks.1, of_key ∙ ap node_key walks.0)
present_suits (Remove b key m) (ToRemove b' key') link c v o k of_key walks = ((walks.1, of_key ∙ walks.0), walks)
present_suits (Get b key m) (ToGet b' key') link c v o k of_key walks = (walks.1, of_key ∙ walks.0)
present_suits work aim link c v o k of_key walks = absurd walks.0

at_suits : (work : MapWork) (aim : Aim) (link : Spot) (o : Option Name) (k : ℕ) → WalksOn work aim
    → Suits work (at aim link o k)
at_suits work aim link None k walks = absent_suits work aim link None k walks
at_suits work aim link (Some c) zero walks = out_suits work aim walks.0
at_suits work aim link (Some c) (suc k) walks = walks

look_suits : (work : MapWork) (aim : Aim) (link : Spot) (c : Name) (v k : ℕ) → WalksOn work aim
    → Suits work (to_look aim link c v k)
look_suits work aim link c v k walks = by_test (nat_lt (key_sought aim) (node_key v)) refl
  where
    by_test : (b : Bool) → nat_lt (key_sought aim) (node_key v) ≡ b
        → Suits work (if b then absent aim link (Some c) k else LoadingNext aim link c v k)
    by_test true is = absent_suits work aim link (Some c) k walks
    by_test false is = (grind (arith, nat_tests, is), walks)

looked_suits : (work : MapWork) (aim : Aim) (link : Spot) (c : Name) (v k : ℕ) (o : Option Name) (t : ℕ)
    → node_key v ≤ key_sought aim → WalksOn work aim → Suits work (looked_at aim link c v k o t)
looked_suits work aim link c v k o zero upto walks = by_test (nat_lt (node_key v) (key_sought aim)) refl
  where
    by_test : (b : Bool) → nat_lt (node_key v) (key_sought aim) ≡ b
        → Suits work (if b then at aim (Field c 0) o k else present aim link c v o k)
    by_test true is = at_suits work aim (Field c 0) o k walks
    by_test false is = present_suits work aim link c v o k (grind (arith, nat_tests, is, upto)) walks
looked_suits work aim link c v k o (suc t) upto walks = walks

-- WHAT FOLLOWS FROM ANSWERS

placed_suits : (b e k : ℕ) (a : AccessAnswer) → Suits (Insert b e k) (map_placed b e k a)
placed_suits b e k (NameAnswer n) = begin_suits (Insert b e k) (ToInsert b e n) k refl (λ some. some)
placed_suits b e k a = tt

first_suits : (work : MapWork) (aim : Aim) (k : ℕ) (a : AccessAnswer) → WalksOn work aim
    → Suits work (first_loaded aim k a)
first_suits work aim k (Pointer ptr) walks = at_suits work aim (Root (bucket_of aim)) ptr.name k walks
first_suits work aim k a walks = again_suits work aim k walks

read_suits : (work : MapWork) (aim : Aim) (link : Spot) (c : Name) (k : ℕ) (a : AccessAnswer) → WalksOn work aim
    → Suits work (map_read aim link c k a)
read_suits work aim link c k (Value v) walks = walks
read_suits work aim link c k a walks = again_suits work aim k walks

next_suits : (work : MapWork) (aim : Aim) (link : Spot) (c : Name) (v k : ℕ) (a : AccessAnswer)
    → node_key v ≤ key_sought aim
    → WalksOn work aim → Suits work (map_next_loaded aim link c v k a)
next_suits work aim link c v k (Pointer ptr) upto walks = looked_suits work aim link c v k ptr.name ptr.tag upto walks
next_suits work aim link c v k a upto walks = again_suits work aim k walks

unlinked_suits : (work : MapWork) (aim : Aim) (c : Name) (k : ℕ) (a : AccessAnswer) → WalksOn work aim
    → Suits work (unlinked aim c k a)
unlinked_suits work aim c k (Exchanged ptr) walks = walks
unlinked_suits work aim c k a walks = again_suits work aim k walks

linked_suits : (work : MapWork) (b e : ℕ) (own : Name) (link : Spot) (o : Option Name) (k : ℕ) (a : AccessAnswer)
    → WalksOn work (ToInsert b e own) → Suits work (map_linked b e own link o k a)
linked_suits work b e own link o k UnitAnswer walks = walks
linked_suits work b e own link o k a walks = again_suits work (ToInsert b e own) k walks

inserted_suits : (work : MapWork) (b e : ℕ) (own : Name) (k : ℕ) (a : AccessAnswer) → WalksOn work (ToInsert b e own)
    → Suits work (inserted b e own k a)
inserted_suits (Insert b' e' m) b e own k (Exchanged ptr) walks = walks.1
inserted_suits (Remove b' key m) b e own k (Exchanged ptr) walks = absurd walks.0
inserted_suits (Get b' key m) b e own k (Exchanged ptr) walks = absurd walks.0
inserted_suits work b e own k a walks = again_suits work (ToInsert b e own) k walks

marked_suits : (work : MapWork) (b key : ℕ) (link : Spot) (c : Name) (v : ℕ) (o : Option Name) (k : ℕ)
    (a : AccessAnswer)
    → TakesAway work v → WalksOn work (ToRemove b key) → Suits work (marked_now b key link c v o k a)
marked_suits work b key link c v o k (Exchanged ptr) takes walks = takes
marked_suits work b key link c v o k a takes walks = again_suits work (ToRemove b key) k walks

removed_suits : (work : MapWork) (v : ℕ) → TakesAway work v → MayAnswer work (Removed v)
removed_suits (Remove b key m) v takes = takes
removed_suits work v takes = absurd takes

removed_leaking_suits : (work : MapWork) (v : ℕ) → TakesAway work v → MayAnswer work (RemovedLeaking v)
removed_leaking_suits (Remove b key m) v takes = takes
removed_leaking_suits work v takes = absurd takes

dropped_suits : (work : MapWork) (c : Name) (v : ℕ) (a : AccessAnswer) → TakesAway work v → Suits work (dropped c v a)
dropped_suits work c v (Exchanged ptr) takes = takes
dropped_suits work c v a takes = removed_suits work v takes

back_suits : (work : MapWork) (answer : MapAnswer) → GivesBack work answer → MayAnswer work answer
back_suits (Insert b e m) (AlreadyThere v) gives = gives
back_suits (Insert b e m) MovesOut gives = tt
back_suits work answer gives = absurd gives

leaking_suits : (work : MapWork) (answer : MapAnswer) → GivesBack work answer → MayAnswer work (leaking answer)
leaking_suits (Insert b e m) (AlreadyThere v) gives = gives
leaking_suits (Insert b e m) MovesOut gives = tt
leaking_suits work answer gives = absurd gives

start_suits : (work : MapWork) → Suits work (start_map_work work)
start_suits (Insert b e k) = refl
start_suits (Remove b key k) = begin_suits (Remove b key k) (ToRemove b key) k refl (λ some. some)
start_suits (Get b key k) = begin_suits (Get b key k) (ToGet b key) k refl (λ some. some)

-- the phase in which a call begins suits its work
pub first_work_suits : (work : MapWork) → Suits work (first_of work)
first_work_suits (Insert b e k) = refl
first_work_suits (Remove b key k) = refl
first_work_suits (Get b key k) = start_suits (Get b key k)

-- STEPS

abbrev next_phase : MapPhase → Reply → MapPhase
next_phase phase reply = after_by phase (map_deed_of 0 phase) reply

-- a phase that is left for the next one
pub suits_on : (work : MapWork) (phase : MapPhase) (reply : Reply) → Suits work phase
    → Suits work (next_phase phase reply)
suits_on work (MakingRoom w) (Done a) s = subst (λ (v : MapWork). Suits v (start_map_work w)) s (start_suits w)
suits_on work (MakingRoom w) reply s = bags_full work
suits_on work (Placing b e k) (Done a) s =
    subst (λ (v : MapWork). Suits v (map_placed b e k a)) (sym s) (placed_suits b e k a)
suits_on work (Placing b e k) reply s = subst (λ (v : MapWork). MayAnswer v CellsFull) (sym s) tt
suits_on work (LoadingFirst aim k) (Done a) s = first_suits work aim k a s
suits_on work (LoadingFirst aim k) reply s = again_suits work aim k s
suits_on work (Reading aim link c k) (Done a) s = read_suits work aim link c k a s
suits_on work (Reading aim link c k) reply s = again_suits work aim k s
suits_on work (Leaving aim link c v k) (Done a) s = look_suits work aim link c v k s
suits_on work (Leaving aim link c v k) reply s = again_suits work aim k s
suits_on work (LoadingNext aim link c v k) (Done a) s = next_suits work aim link c v k a s.0 s.1
suits_on work (LoadingNext aim link c v k) reply s = again_suits work aim k s.1
suits_on work (Unlinking aim link c next k) (Done a) s = unlinked_suits work aim c k a s
suits_on work (Unlinking aim link c next k) reply s = again_suits work aim k s
suits_on work (Burying aim c k) (Done a) s = again_suits work aim k s
suits_on work (Burying aim c k) reply s = moves_out_leaking work
suits_on work (Linking b e own link next k) (Done a) s = linked_suits work b e own link next k a s
suits_on work (Linking b e own link next k) reply s = again_suits work (ToInsert b e own) k s
suits_on work (Inserting b e own link next k) (Done a) s = inserted_suits work b e own k a s
suits_on work (Inserting b e own link next k) reply s = again_suits work (ToInsert b e own) k s
suits_on work (Marking b key link c v next k) (Done a) s = marked_suits work b key link c v next k a s.0 s.1
suits_on work (Marking b key link c v next k) reply s = again_suits work (ToRemove b key) k s.1
suits_on work (Dropping b key link c v next) (Done a) s = dropped_suits work c v a s
suits_on work (Dropping b key link c v next) reply s = removed_suits work v s
suits_on work (Removing c v) (Done a) s = removed_suits work v s
suits_on work (Removing c v) reply s = removed_leaking_suits work v s
suits_on work (TakingBack own answer) (Done a) s = back_suits work answer s
suits_on work (TakingBack own answer) reply s = leaking_suits work answer s
suits_on work (Answering answer) (Done a) s = s
suits_on work (Answering answer) reply s = s

-- WHOLE CALLS

module _ {L H : Type 0} (does : L → Access → Reply → L → Type 0) (keeping : Keeping H) where
  suits_along : (work : MapWork) (replies : List Reply) (phase last : MapPhase) (old new : H) (l l' : L)
      → Suits work phase
      → GoesTo does keeping (map_deed_of 0) replies phase old l last new l' → Suits work last
  suits_along work [] phase last old new l l' suits goes = subst (λ (f : MapPhase). Suits work f) (sym goes.0) suits
  suits_along work (reply ∷ replies) phase last old new l l' suits goes =
      suits_along work replies (next_phase phase reply) last goes.0 new goes.1 l' (suits_on work phase reply suits)
      goes.3

  answer_suits : (work : MapWork) (last : MapPhase) (answer : MapAnswer) → Suits work last
      → map_deed_of 0 last ≡ Answers answer
      → MayAnswer work answer
  answer_suits work (Answering a) answer suits is =
      let same : a ≡ answer = cc in subst (λ (z : MapAnswer). MayAnswer work z) same suits
  answer_suits work last answer suits is = cc

  -- a call answers what its work may answer
  pub call_suits : (work : MapWork) (answer : MapAnswer) (refused : Option Fault) (old new : H) (l l' : L)
      → DoesBy does keeping (map_deed_of 0) (first_of work) old l answer refused new l' → MayAnswer work answer
  call_suits work answer refused old new l l' did =
      answer_suits work did.last answer
      (suits_along work did.replies (first_of work) did.last old new l l' (first_work_suits work) did.goes) did.answers

-- LOOK-UPS THAT ONLY READ

module _ {L : Type 0} (does : L → Access → Reply → L → Type 0) where
  reads_suit : (work : MapWork) (replies : List Reply) (phase last : MapPhase) (l l' : L) → Suits work phase
      → ReadsTo does (map_deed_of 0) replies phase l last l' → Suits work last
  reads_suit work [] phase last l l' suits reads = subst (λ (f : MapPhase). Suits work f) (sym reads.0) suits
  reads_suit work (reply ∷ replies) phase last l l' suits reads =
      reads_suit work replies (next_phase phase reply) last reads.0 l' (suits_on work phase reply suits) reads.2

  answered_so : (work : MapWork) (last : MapPhase) (answer : MapAnswer) → Suits work last
      → stop_of last ≡ Answered answer
      → MayAnswer work answer
  answered_so work (Answering a) answer suits is =
      let same : a ≡ answer = cc in subst (λ (z : MapAnswer). MayAnswer work z) same suits
  answered_so work last answer suits is = cc

  -- an attempt answers what a look-up may answer
  pub attempt_suits : (b key m : ℕ) (answer : MapAnswer) (l l' : L) → Attempts does b key m l (Answered answer) l'
      → MayAnswer (Get b key m) answer
  attempt_suits b key m answer l l' attempt =
      answered_so (Get b key m) attempt.last answer
      (reads_suit (Get b key m) attempt.reads.0 (start_map_work (Get b key m)) attempt.last l l'
      (start_suits (Get b key m))
      attempt.reads.1) attempt.stops
