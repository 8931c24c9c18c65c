-- A call of the queue passes on what it has done from phase to phase, up to its answer.
use Rattle.std.proofs.Common.{◌≡◌, ℕ, zero, suc, Option, Some, None, Bool, true, false, refl, if◌then◌else◌}
use Rattle.epoch_cells.specs.declared.cells.name.Name.{Name}
use Rattle.epoch_laws.specs.declared.heap.access.AccessAnswer.{AccessAnswer}
use Rattle.epoch_laws.specs.declared.heap.access.AccessAnswer.TheVariants.{Name as NameAnswer, Value, Pointer}
use Rattle.epoch_laws.specs.declared.heap.access.AccessAnswer.TheVariants.{Exchanged}
use Rattle.epoch_laws.specs.declared.step.Reply.{Reply}
use Rattle.epoch_laws.specs.declared.step.Reply.TheVariants.{Done}
use Rattle.epoch_structure_laws.specs.Plans.{after_by, done_by, refused_by}
use Rattle.epoch_structure_laws.specs.declared.queue.plan.QueueAnswer.TheVariants.{TriesOut}
use Rattle.epoch_structure_laws.specs.declared.queue.plan.QueueWork.TheVariants.{Build, Push, Pop}
use Rattle.epoch_structure_laws.specs.declared.queue.plan.QueuePhase.{QueuePhase}
use Rattle.epoch_structure_laws.specs.declared.queue.plan.QueuePhase.TheVariants.{MakingRoom, Founding, Crowning}
use Rattle.epoch_structure_laws.specs.declared.queue.plan.QueuePhase.TheVariants.{Seating, Placing, LoadingTail}
use Rattle.epoch_structure_laws.specs.declared.queue.plan.QueuePhase.TheVariants.{LoadingLast, Appending, Swinging}
use Rattle.epoch_structure_laws.specs.declared.queue.plan.QueuePhase.TheVariants.{Helping, TakingBack, LoadingHead}
use Rattle.epoch_structure_laws.specs.declared.queue.plan.QueuePhase.TheVariants.{LoadingNext, Reading, Leaving, Taking}
use Rattle.epoch_structure_laws.specs.declared.queue.plan.QueuePhase.TheVariants.{LookingBack, Advancing, Removing}
use Rattle.epoch_structure_laws.specs.declared.queue.plan.QueuePhase.TheVariants.{Answering}
use Rattle.epoch_structure_laws.specs.QueueProgram.{queue_deed_of, QueueStarts, retry_push, retry_pop, founded, crowned}
use Rattle.epoch_structure_laws.specs.QueueProgram.{queue_placed, to_last, tail_loaded, to_append, last_loaded}
use Rattle.epoch_structure_laws.specs.QueueProgram.{appended, to_next, queue_head_loaded, to_read, queue_next_loaded}
use Rattle.epoch_structure_laws.specs.QueueProgram.{queue_read, taken, names, looked_back}
use Rattle.epoch_structure_laws.specs.QueueDeeds.{DidNothing, Took, queue_deed_done, deed_of_look}
use Rattle.epoch_structure_laws.specs.QueueDeeds.{queue_deed_told, queue_deed_then}

-- a call that tries again has done nothing
push_again : (n : Name) (k : ℕ) → queue_deed_done (retry_push n k) ≡ DidNothing
push_again n zero = refl
push_again n (suc k) = refl

pop_again : (k : ℕ) → queue_deed_done (retry_pop k) ≡ DidNothing
pop_again zero = refl
pop_again (suc k) = refl

-- AN ANSWER

founded_done : (a : AccessAnswer) → queue_deed_done (founded a) ≡ DidNothing
founded_done (NameAnswer n) = refl
founded_done _ = refl

crowned_done : (n : Name) (a : AccessAnswer) → queue_deed_done (crowned n a) ≡ DidNothing
crowned_done n (Exchanged ptr) = refl
crowned_done n _ = refl

placed_done : (k : ℕ) (a : AccessAnswer) → queue_deed_done (queue_placed k a) ≡ DidNothing
placed_done k (NameAnswer n) = push_again n k
placed_done k _ = refl

tail_done : (n : Name) (k : ℕ) (a : AccessAnswer) → queue_deed_done (tail_loaded n k a) ≡ DidNothing
tail_done n k (Pointer ptr) = by_name ptr.name
  where
    by_name : (o : Option Name) → queue_deed_done (to_last n k o) ≡ DidNothing
    by_name None = push_again n k
    by_name (Some t) = refl
tail_done n k _ = push_again n k

last_done : (n t : Name) (k : ℕ) (a : AccessAnswer) → queue_deed_done (last_loaded n t k a) ≡ DidNothing
last_done n t k (Pointer ptr) = by_name ptr.name
  where
    by_name : (o : Option Name) → queue_deed_done (to_append n t k o) ≡ DidNothing
    by_name None = refl
    by_name (Some q) = refl
last_done n t k _ = push_again n k

appended_done : (n t : Name) (k : ℕ) (a : AccessAnswer)
    → queue_deed_done (appended n t k a) ≡ queue_deed_told (Appending n t k) a
appended_done n t k (Exchanged ptr) = refl
appended_done n t k _ = push_again n k

head_done : (k : ℕ) (a : AccessAnswer) → queue_deed_done (queue_head_loaded k a) ≡ DidNothing
head_done k (Pointer ptr) = by_name ptr.name
  where
    by_name : (o : Option Name) → queue_deed_done (to_next k o) ≡ DidNothing
    by_name None = pop_again k
    by_name (Some h) = refl
head_done k _ = pop_again k

next_done : (h : Name) (k : ℕ) (a : AccessAnswer)
    → queue_deed_done (queue_next_loaded h k a) ≡ queue_deed_told (LoadingNext h k) a
next_done h k (Pointer ptr) = by_name ptr.name
  where
    by_name : (o : Option Name) → queue_deed_done (to_read h k o) ≡ deed_of_look o
    by_name None = refl
    by_name (Some q) = refl
next_done h k _ = pop_again k

read_done : (h q : Name) (k : ℕ) (a : AccessAnswer) → queue_deed_done (queue_read h q k a) ≡ DidNothing
read_done h q k (Value v) = refl
read_done h q k _ = pop_again k

taken_done : (h q : Name) (v k : ℕ) (a : AccessAnswer)
    → queue_deed_done (taken h q v k a) ≡ queue_deed_told (Taking h q v k) a
taken_done h q v k (Exchanged ptr) = refl
taken_done h q v k _ = pop_again k

looked_done : (h q : Name) (v : ℕ) (a : AccessAnswer) → queue_deed_done (looked_back h q v a) ≡ Took v
looked_done h q v (Pointer ptr) = by_test (names ptr.name h)
  where
    by_test : (b : Bool) → queue_deed_done (if b then Advancing h q v else Removing h v) ≡ Took v
    by_test true = refl
    by_test false = refl
looked_done h q v _ = refl

answer_done : (g : ℕ) (phase : QueuePhase) (a : AccessAnswer)
    → queue_deed_done (done_by phase (queue_deed_of g phase) a) ≡ queue_deed_told phase a
answer_done g (MakingRoom (Pop k)) a = pop_again k
answer_done g Founding a = founded_done a
answer_done g (Crowning n) a = crowned_done n a
answer_done g (Placing v k) a = placed_done k a
answer_done g (LoadingTail n k) a = tail_done n k a
answer_done g (LoadingLast n t k) a = last_done n t k a
answer_done g (Appending n t k) a = appended_done n t k a
answer_done g (Helping n t q k) a = push_again n k
answer_done g (LoadingHead k) a = head_done k a
answer_done g (LoadingNext h k) a = next_done h k a
answer_done g (Reading h q k) a = read_done h q k a
answer_done g (Taking h q v k) a = taken_done h q v k a
answer_done g (LookingBack h q v) a = looked_done h q v a
answer_done g _ a = refl

-- A REFUSAL

refusal_done : (g : ℕ) (phase : QueuePhase)
    → queue_deed_done (refused_by phase (queue_deed_of g phase)) ≡ queue_deed_done phase
refusal_done g (LoadingTail n k) = push_again n k
refusal_done g (LoadingLast n t k) = push_again n k
refusal_done g (Appending n t k) = push_again n k
refusal_done g (Helping n t q k) = push_again n k
refusal_done g (LoadingHead k) = pop_again k
refusal_done g (LoadingNext h k) = pop_again k
refusal_done g (Reading h q k) = pop_again k
refusal_done g (Taking h q v k) = pop_again k
refusal_done g _ = refl

-- each reply passes on what was done
pub deed_passed_on : (g : ℕ) (phase : QueuePhase) (r : Reply)
    → queue_deed_done (after_by phase (queue_deed_of g phase) r) ≡ queue_deed_then phase r
deed_passed_on g phase (Done a) = answer_done g phase a
deed_passed_on g phase _ = refusal_done g phase

-- a call begins with nothing done
pub begins_with_nothing : (phase : QueuePhase) → QueueStarts phase → queue_deed_done phase ≡ DidNothing
begins_with_nothing (MakingRoom work) starts = refl
begins_with_nothing Founding starts = refl
begins_with_nothing (Placing v k) starts = refl
begins_with_nothing (LoadingHead k) starts = refl
begins_with_nothing (Answering TriesOut) starts = refl
begins_with_nothing _ starts = absurd starts
