-- Which path of the map's program a call takes, whatever keeps its removals; what its answer tells; and what look-ups
-- that only read do.
use Rattle.std.specs.Prelude.{◌≡◌, ℕ, Bool, true, false, Option, Some, None, Result, Ok, Err, List, [], ◌∷◌}
use Rattle.std.specs.declared.cmp.Ordering.{Ordering}
use Rattle.std.specs.declared.cmp.Ordering.TheVariants.{Less, Equal, Greater}
use Rattle.epoch_cells.specs.declared.fault.Fault.{Fault}
use Rattle.epoch_cells.specs.declared.fault.Fault.TheVariants.{TriesOut}
use Rattle.epoch_laws.specs.declared.heap.access.Access.{Access}
use Rattle.epoch_laws.specs.declared.step.Reply.{Reply}
use Rattle.epoch_structure_laws.specs.declared.map.plan.MapPhase.{MapPhase}
use Rattle.epoch_structure_laws.specs.declared.map.plan.MapPhase.TheVariants.{MakingRoom, Unlinking, Answering}
use Rattle.epoch_structure_laws.specs.declared.map.plan.MapAnswer.{MapAnswer}
use Rattle.epoch_structure_laws.specs.declared.map.plan.MapAnswer.TheVariants.{Inserted, AlreadyThere}
use Rattle.epoch_structure_laws.specs.declared.map.plan.MapAnswer.TheVariants.{AlreadyThereLeaking}
use Rattle.epoch_structure_laws.specs.declared.map.plan.MapAnswer.TheVariants.{Removed, RemovedLeaking, Found, NotFound}
use Rattle.epoch_structure_laws.specs.declared.map.plan.MapAnswer.TheVariants.{MovesOut, MovesOutLeaking, CellsFull}
use Rattle.epoch_structure_laws.specs.declared.map.plan.MapAnswer.TheVariants.{BagsFull}
use Rattle.epoch_structure_laws.specs.declared.map.plan.MapWork.{MapWork}
use Rattle.epoch_structure_laws.specs.declared.map.plan.MapWork.TheVariants.{Get}
use Rattle.epoch_structure_laws.specs.declared.map.plan.Aim.TheVariants.{ToGet}
use Rattle.epoch_structure_laws.specs.MapProgram.{map_deed_of, start_map_work, again}
use Rattle.epoch_structure_calls.specs.Paths.{ReadsOn}
use Rattle.epoch_structure_calls.specs.declared.map.looks.Pass.{Pass}
use Rattle.epoch_structure_calls.specs.declared.map.looks.Pass.TheVariants.{FoundIt, Missing, Out, AtMark, Lost}
use Rattle.epoch_structure_calls.specs.Refusals.{place_fault, room_fault}

-- A call of threads compares each key that it meets with the one that it seeks, and its program is told no more than
-- how they compare: it is the map's program, in which the key that is sought has the number 1, lower keys have the
-- number 0, and higher ones the number 2.

-- the entry by which the program knows a node whose key compares so with the one that is sought; its value is 0
abbrev pub coded : Ordering → ℕ
coded Less = 0
coded Equal = 4294967296
coded Greater = 8589934592

-- HOW A CALL BEGINS

-- A look-up begins at once. Another call makes room for a removal first.
abbrev pub first_of : MapWork → MapPhase
first_of (Get b key k) = start_map_work (Get b key k)
first_of work = MakingRoom work

-- WHAT IS TOLD

-- what an insert tells where its program answers so: whether a node of the key was there
abbrev pub insert_tells : MapAnswer → Option Fault → Result Bool Fault
insert_tells Inserted refused = Ok false
insert_tells (AlreadyThere v) refused = Ok true
insert_tells (AlreadyThereLeaking v) refused = Ok true
insert_tells BagsFull refused = Err (room_fault refused)
insert_tells MovesOutLeaking refused = Err (room_fault refused)
insert_tells CellsFull refused = Err (place_fault refused)
insert_tells answer refused = Err TriesOut

-- and what a removal tells
abbrev pub remove_tells : MapAnswer → Option Fault → Result Bool Fault
remove_tells (Removed v) refused = Ok true
remove_tells (RemovedLeaking v) refused = Ok true
remove_tells NotFound refused = Ok false
remove_tells BagsFull refused = Err (room_fault refused)
remove_tells MovesOutLeaking refused = Err (room_fault refused)
remove_tells answer refused = Err TriesOut

-- and what a look-up tells
abbrev pub get_tells : MapAnswer → Option Fault → Result Bool Fault
get_tells (Found v) refused = Ok true
get_tells NotFound refused = Ok false
get_tells MovesOutLeaking refused = Err (room_fault refused)
get_tells answer refused = Err TriesOut

-- LOOK-UPS THAT ONLY READ

-- Where a look-up stops that only reads: at its answer, or at a node that is marked, with so many moves left.
pub data Stop : Type 0 where
  Answered : (answer : MapAnswer) → Stop
  Marked : (left : ℕ) → Stop
  Elsewhere : Stop

abbrev pub stop_of : MapPhase → Stop
stop_of (Answering answer) = Answered answer
stop_of (Unlinking aim link c next k) = Marked k
stop_of phase = Elsewhere

-- One attempt at a look-up with so many moves: it takes a path of the map's program on which it only reads, and stops.
pub record Attempts {L : Type 0} (does : L → Access → Reply → L → Type 0) (bucket key moves : ℕ) (links : L)
    (stop : Stop) (links' : L) : Type 0 where
  pub last : MapPhase
  pub reads : ReadsOn does (map_deed_of 0) (start_map_work (Get bucket key moves)) links last links'
  pub stops : stop_of last ≡ stop

-- Attempts that stop at a marked node, one after the other: each has as many moves as the one before left, which are
-- these numbers.
abbrev pub GivesUp : {L : Type 0} → (L → Access → Reply → L → Type 0) → ℕ → ℕ → List ℕ → ℕ → L → ℕ → L → Type 0
GivesUp does bucket key [] moves links moves' links' = (moves' ≡ moves) × (links' ≡ links)
GivesUp {L} does bucket key (left ∷ lefts) moves links moves' links' =
    (between : L) × Attempts does bucket key moves links (Marked left) between
    × GivesUp does bucket key lefts left between moves' links'

-- A look-up that only reads: where an attempt stops at a marked node, another one begins, and the last one answers.
pub record Looks {L : Type 0} (does : L → Access → Reply → L → Type 0) (bucket key moves : ℕ) (links : L)
    (told : Result Bool Fault) (links' : L) : Type 0 where
  pub lefts : List ℕ
  pub left : ℕ
  pub between : L
  pub gives_up : GivesUp does bucket key lefts moves links left between
  pub answer : MapAnswer
  pub attempts : Attempts does bucket key left between (Answered answer) links'
  pub tells : told ≡ get_tells answer None

-- Where one pass along the bucket ends. `Lost`: a link or a node could not be read, and the program begins again.
abbrev pub EndsAt : ℕ → ℕ → Pass → MapPhase → Type 0
EndsAt bucket key FoundIt last = (v : ℕ) × (last ≡ Answering (Found v))
EndsAt bucket key Missing last = last ≡ Answering NotFound
EndsAt bucket key Out last = last ≡ Answering MovesOut
EndsAt bucket key (AtMark left) last = stop_of last ≡ Marked left
EndsAt bucket key (Lost left) last = last ≡ again (ToGet bucket key) left

abbrev pub moves_after : Pass → ℕ
moves_after (AtMark left) = left
moves_after (Lost left) = left
moves_after pass = 0
