-- Each reply lowers the number of calls that a call of the queue still makes.
use Rattle.std.proofs.Common.{ℕ, zero, suc, Option, Some, None, Bool, true, false, arith, if◌then◌else◌, ◌<◌, ◌+◌, ◌*◌}
use Rattle.epoch_cells.specs.declared.cells.name.Name.{Name}
use Rattle.epoch_laws.specs.declared.heap.access.AccessAnswer.{AccessAnswer}
use Rattle.epoch_laws.specs.declared.heap.access.AccessAnswer.TheVariants.{Name as NameAnswer, Value, Pointer}
use Rattle.epoch_laws.specs.declared.heap.access.AccessAnswer.TheVariants.{Exchanged}
use Rattle.epoch_laws.specs.declared.step.Reply.TheVariants.{Done}
use Rattle.epoch_structure_laws.specs.Plans.{IsLowered}
use Rattle.epoch_structure_laws.specs.declared.queue.plan.QueueWork.TheVariants.{Build, Push, Pop}
use Rattle.epoch_structure_laws.specs.declared.queue.plan.QueuePhase.TheVariants.{MakingRoom, Founding, Crowning}
use Rattle.epoch_structure_laws.specs.declared.queue.plan.QueuePhase.TheVariants.{Seating, Placing, LoadingTail}
use Rattle.epoch_structure_laws.specs.declared.queue.plan.QueuePhase.TheVariants.{LoadingLast, Appending, Swinging}
use Rattle.epoch_structure_laws.specs.declared.queue.plan.QueuePhase.TheVariants.{Helping, TakingBack, LoadingHead}
use Rattle.epoch_structure_laws.specs.declared.queue.plan.QueuePhase.TheVariants.{LoadingNext, Reading, Leaving, Taking}
use Rattle.epoch_structure_laws.specs.declared.queue.plan.QueuePhase.TheVariants.{LookingBack, Advancing, Removing}
use Rattle.epoch_structure_laws.specs.declared.queue.plan.QueuePhase.TheVariants.{Answering}
use Rattle.epoch_structure_laws.specs.QueueProgram.{retry_push, retry_pop, founded, crowned, queue_placed, to_last}
use Rattle.epoch_structure_laws.specs.QueueProgram.{tail_loaded, to_append, last_loaded, appended, to_next}
use Rattle.epoch_structure_laws.specs.QueueProgram.{queue_head_loaded, to_read, queue_next_loaded, queue_read, taken}
use Rattle.epoch_structure_laws.specs.QueueProgram.{names, looked_back, queue_calls_left, queue}

-- A TRY MORE

-- a push that tries again has used up a try, or takes its node back
push_fewer : (n : Name) (k : ℕ) → queue_calls_left (retry_push n k) < 3 * k + 2
push_fewer n zero = omega arith
push_fewer n (suc k) = omega arith

-- a pop that tries again has used up a try, or answers
pop_fewer : (k : ℕ) → queue_calls_left (retry_pop k) < 5 * k + 4
pop_fewer zero = omega arith
pop_fewer (suc k) = omega arith

-- AN ANSWER

founded_fewer : (a : AccessAnswer) → queue_calls_left (founded a) < 3
founded_fewer (NameAnswer n) = omega arith
founded_fewer _ = omega arith

crowned_fewer : (n : Name) (a : AccessAnswer) → queue_calls_left (crowned n a) < 2
crowned_fewer n (Exchanged ptr) = omega arith
crowned_fewer n _ = omega arith

placed_fewer : (k : ℕ) (a : AccessAnswer) → queue_calls_left (queue_placed k a) < 3 * k + 2
placed_fewer k (NameAnswer n) = push_fewer n k
placed_fewer k _ = omega arith

tail_fewer : (n : Name) (k : ℕ) (a : AccessAnswer) → queue_calls_left (tail_loaded n k a) < 3 * k + 4
tail_fewer n k (Pointer ptr) = by_name ptr.name
  where
    by_name : (o : Option Name) → queue_calls_left (to_last n k o) < 3 * k + 4
    by_name None = omega (arith, push_fewer n k)
    by_name (Some t) = omega arith
tail_fewer n k _ = omega (arith, push_fewer n k)

last_fewer : (n t : Name) (k : ℕ) (a : AccessAnswer) → queue_calls_left (last_loaded n t k a) < 3 * k + 3
last_fewer n t k (Pointer ptr) = by_name ptr.name
  where
    by_name : (o : Option Name) → queue_calls_left (to_append n t k o) < 3 * k + 3
    by_name None = omega arith
    by_name (Some q) = omega arith
last_fewer n t k _ = omega (arith, push_fewer n k)

appended_fewer : (n t : Name) (k : ℕ) (a : AccessAnswer) → queue_calls_left (appended n t k a) < 3 * k + 2
appended_fewer n t k (Exchanged ptr) = omega arith
appended_fewer n t k _ = push_fewer n k

head_fewer : (k : ℕ) (a : AccessAnswer) → queue_calls_left (queue_head_loaded k a) < 5 * k + 8
head_fewer k (Pointer ptr) = by_name ptr.name
  where
    by_name : (o : Option Name) → queue_calls_left (to_next k o) < 5 * k + 8
    by_name None = omega (arith, pop_fewer k)
    by_name (Some h) = omega arith
head_fewer k _ = omega (arith, pop_fewer k)

next_fewer : (h : Name) (k : ℕ) (a : AccessAnswer) → queue_calls_left (queue_next_loaded h k a) < 5 * k + 7
next_fewer h k (Pointer ptr) = by_name ptr.name
  where
    by_name : (o : Option Name) → queue_calls_left (to_read h k o) < 5 * k + 7
    by_name None = omega arith
    by_name (Some q) = omega arith
next_fewer h k _ = omega (arith, pop_fewer k)

read_fewer : (h q : Name) (k : ℕ) (a : AccessAnswer) → queue_calls_left (queue_read h q k a) < 5 * k + 6
read_fewer h q k (Value v) = omega arith
read_fewer h q k _ = omega (arith, pop_fewer k)

taken_fewer : (h q : Name) (v k : ℕ) (a : AccessAnswer) → queue_calls_left (taken h q v k a) < 5 * k + 4
taken_fewer h q v k (Exchanged ptr) = omega arith
taken_fewer h q v k _ = pop_fewer k

looked_fewer : (h q : Name) (v : ℕ) (a : AccessAnswer) → queue_calls_left (looked_back h q v a) < 3
looked_fewer h q v (Pointer ptr) = by_test (names ptr.name h)
  where
    by_test : (b : Bool) → queue_calls_left (if b then Advancing h q v else Removing h v) < 3
    by_test true = omega arith
    by_test false = omega arith
looked_fewer h q v _ = omega arith

-- A REPLY

pub queue_lowered : IsLowered queue queue_calls_left
queue_lowered g (MakingRoom Build) (Done a) on = omega arith
queue_lowered g (MakingRoom (Push v k)) (Done a) on = omega arith
queue_lowered g (MakingRoom (Pop k)) (Done a) on = pop_fewer k
queue_lowered g (MakingRoom Build) _ on = omega arith
queue_lowered g (MakingRoom (Push v k)) _ on = omega arith
queue_lowered g (MakingRoom (Pop k)) _ on = omega arith
queue_lowered g Founding (Done a) on = founded_fewer a
queue_lowered g Founding _ on = omega arith
queue_lowered g (Crowning n) (Done a) on = crowned_fewer n a
queue_lowered g (Crowning n) _ on = omega arith
queue_lowered g (Seating n) (Done a) on = omega arith
queue_lowered g (Seating n) _ on = omega arith
queue_lowered g (Placing v k) (Done a) on = placed_fewer k a
queue_lowered g (Placing v k) _ on = omega arith
queue_lowered g (LoadingTail n k) (Done a) on = tail_fewer n k a
queue_lowered g (LoadingTail n k) _ on = omega (arith, push_fewer n k)
queue_lowered g (LoadingLast n t k) (Done a) on = last_fewer n t k a
queue_lowered g (LoadingLast n t k) _ on = omega (arith, push_fewer n k)
queue_lowered g (Appending n t k) (Done a) on = appended_fewer n t k a
queue_lowered g (Appending n t k) _ on = push_fewer n k
queue_lowered g (Swinging t n) (Done a) on = omega arith
queue_lowered g (Swinging t n) _ on = omega arith
queue_lowered g (Helping n t q k) (Done a) on = push_fewer n k
queue_lowered g (Helping n t q k) _ on = push_fewer n k
queue_lowered g (TakingBack n) (Done a) on = omega arith
queue_lowered g (TakingBack n) _ on = omega arith
queue_lowered g (LoadingHead k) (Done a) on = head_fewer k a
queue_lowered g (LoadingHead k) _ on = omega (arith, pop_fewer k)
queue_lowered g (LoadingNext h k) (Done a) on = next_fewer h k a
queue_lowered g (LoadingNext h k) _ on = omega (arith, pop_fewer k)
queue_lowered g (Reading h q k) (Done a) on = read_fewer h q k a
queue_lowered g (Reading h q k) _ on = omega (arith, pop_fewer k)
queue_lowered g (Leaving h q v k) (Done a) on = omega arith
queue_lowered g (Leaving h q v k) _ on = omega arith
queue_lowered g (Taking h q v k) (Done a) on = taken_fewer h q v k a
queue_lowered g (Taking h q v k) _ on = pop_fewer k
queue_lowered g (LookingBack h q v) (Done a) on = looked_fewer h q v a
queue_lowered g (LookingBack h q v) _ on = omega arith
queue_lowered g (Advancing h q v) (Done a) on = omega arith
queue_lowered g (Advancing h q v) _ on = omega arith
queue_lowered g (Removing h v) (Done a) on = omega arith
queue_lowered g (Removing h v) _ on = omega arith
queue_lowered g (Answering a) r on = absurd (on tt)
