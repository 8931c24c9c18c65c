-- The path that a call takes through its program, whatever keeps the removals that it defers; and how far a call reads.
use Rattle.std.specs.Prelude.{◌≡◌, ◌⊎◌, List, [], ◌∷◌, Option, Some, None, Result, Ok, Err}
use Rattle.epoch_cells.specs.declared.cells.name.Name.{Name}
use Rattle.epoch_cells.specs.declared.fault.Fault.{Fault}
use Rattle.epoch_cells.specs.declared.fault.Fault.TheVariants.{NoMemory, CellsFull}
use Rattle.epoch_laws.specs.declared.heap.access.Access.{Access}
use Rattle.epoch_laws.specs.declared.heap.access.Access.TheVariants.{Place, Read, Leave, Point}
use Rattle.epoch_laws.specs.declared.heap.access.AccessAnswer.{AccessAnswer}
use Rattle.epoch_laws.specs.declared.heap.access.Change.TheVariants.{Load}
use Rattle.epoch_laws.specs.declared.step.Reply.{Reply}
use Rattle.epoch_laws.specs.declared.step.Reply.TheVariants.{Done, Refused}
use Rattle.epoch_structure_laws.specs.Plans.{Deed, Flushes, Touches, Defers, Answers, after_by}
use Rattle.epoch_structure_laws.specs.declared.machine.Wish.{Wish}
use Rattle.epoch_structure_laws.specs.declared.machine.Wish.TheVariants.{Touch}

-- REPLIES

-- what an access gave, as a reply
abbrev pub reply_given : Result AccessAnswer Fault → Reply
reply_given (Ok answer) = Done answer
reply_given (Err fault) = Refused fault

-- an access is answered, and a placing may be refused
abbrev pub IsTold : Access → Reply → Type 0
IsTold access (Done answer) = Unit {0}
IsTold (Place value) (Refused fault) = (fault ≡ NoMemory) ⊎ (fault ≡ CellsFull)
IsTold access reply = ⊥

-- the fault of the newest refusal, after this reply
abbrev pub fault_after : Option Fault → Reply → Option Fault
fault_after before (Refused fault) = Some fault
fault_after before reply = before

-- the fault of the newest of these replies that is a refusal
abbrev pub newest_fault : Option Fault → List Reply → Option Fault
newest_fault before [] = before
newest_fault before (reply ∷ replies) = newest_fault (fault_after before reply) replies

-- READING

-- the access itself, where it writes nothing to a cell or pointer
abbrev pub read_only : Access → Option Access
read_only (Read guard ptr) = Some (Read guard ptr)
read_only (Leave ptr) = Some (Leave ptr)
read_only (Point guard spot Load) = Some (Point guard spot Load)
read_only access = None

-- the access that is asked for, where it writes nothing
abbrev pub reading_of : {A : Type 0} → Wish A → Option Access
reading_of (Touch access) = read_only access
reading_of wish = None

-- The access that this deed asks for writes nothing. It was made, and got this reply.
abbrev pub ReadsBy : {P A L : Type 0} → (L → Access → Reply → L → Type 0) → Deed P A → L → Reply → L → Type 0
ReadsBy does (Touches access told refused) links reply links' =
    (read_only access ≡ Some access) × does links access reply links' × IsTold access reply
ReadsBy does deed links reply links' = ⊥

-- From this phase a call comes to that one, and only reads on its way: each phase asks for one access, which gets the
-- next of these replies, and the phase that follows is the program's.
abbrev pub ReadsTo : {P A L : Type 0} → (L → Access → Reply → L → Type 0) → (P → Deed P A) → List Reply
    → P → L → P → L → Type 0
ReadsTo does deed [] phase links phase' links' = (phase' ≡ phase) × (links' ≡ links)
ReadsTo {P} {A} {L} does deed (reply ∷ replies) phase links phase' links' =
    (between : L) × ReadsBy does (deed phase) links reply between
    × ReadsTo does deed replies (after_by phase (deed phase) reply) between phase' links'

-- some path on which a call only reads
abbrev pub ReadsOn : {P A L : Type 0} → (L → Access → Reply → L → Type 0) → (P → Deed P A) → P → L → P → L → Type 0
ReadsOn does deed phase links phase' links' =
    (replies : List Reply) × ReadsTo does deed replies phase links phase' links'

-- WHOLE CALLS

-- How a participant keeps removals: the state that follows where it makes room for one, and where it is given one to
-- keep until nobody may read what has this name. The reply says whether it did.
pub record Keeping (H : Type 0) : Type 1 where
  pub room : H → Reply → H → Type 0
  pub removal : H → Name → Reply → H → Type 0

-- The one call that a deed asks for was made, and got this reply.
abbrev pub PerformsBy : {P A L H : Type 0} → (L → Access → Reply → L → Type 0) → Keeping H → Deed P A → H → L → Reply
    → H → L → Type 0
PerformsBy does keeping (Flushes done refused) old links reply new links' =
    keeping.room old reply new × (links' ≡ links)
PerformsBy does keeping (Touches access told refused) old links reply new links' =
    does links access reply links' × IsTold access reply × (new ≡ old)
PerformsBy does keeping (Defers name deferred refused) old links reply new links' =
    keeping.removal old name reply new × (links' ≡ links)
PerformsBy does keeping (Answers answer) old links reply new links' = ⊥

-- From this phase a call comes to that one: each phase on the way asks for one call, which gets the next of these
-- replies, and the phase that follows is the program's.
abbrev pub GoesTo : {P A L H : Type 0} → (L → Access → Reply → L → Type 0) → Keeping H → (P → Deed P A) → List Reply
    → P → H → L → P → H → L → Type 0
GoesTo does keeping deed [] phase old links phase' new links' = (phase' ≡ phase) × (new ≡ old) × (links' ≡ links)
GoesTo {P} {A} {L} {H} does keeping deed (reply ∷ replies) phase old links phase' new links' =
    (mid : H) × (between : L) × PerformsBy does keeping (deed phase) old links reply mid between
    × GoesTo does keeping deed replies (after_by phase (deed phase) reply) mid between phase' new links'

-- This call of a thread took a path of its program, from the first phase to one that answers so. It made one call on
-- cells and pointers, or of what keeps removals, for each phase, in their order and no other one.
pub record DoesBy {P A L H : Type 0} (does : L → Access → Reply → L → Type 0) (keeping : Keeping H)
    (deed : P → Deed P A) (first : P) (old : H) (links : L) (answer : A) (refused : Option Fault) (new : H)
    (links' : L) : Type 0 where
  pub replies : List Reply
  pub last : P
  pub goes : GoesTo does keeping deed replies first old links last new links'
  pub answers : deed last ≡ Answers answer
  pub newest : refused ≡ newest_fault None replies
