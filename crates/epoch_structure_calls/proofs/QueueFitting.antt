-- How a push or a pop of the queue stands in each of its phases: which work it is of, and whether it had a try.
use Rattle.std.proofs.Common.{◌≡◌, ℕ, zero, suc, ◌<◌, List, [], ◌∷◌, Option, Some, None, Bool, true, false}
use Rattle.std.proofs.Common.{refl, sym, subst, arith, if◌then◌else◌}
use Rattle.epoch_cells.specs.declared.cells.name.Name.{Name}
use Rattle.epoch_cells.specs.declared.fault.Fault.{Fault}
use Rattle.epoch_laws.specs.declared.heap.access.Access.{Access}
use Rattle.epoch_laws.specs.declared.heap.access.AccessAnswer.{AccessAnswer}
use Rattle.epoch_laws.specs.declared.heap.access.AccessAnswer.TheVariants.{Name as NameAnswer, Value, Pointer}
use Rattle.epoch_laws.specs.declared.heap.access.AccessAnswer.TheVariants.{Exchanged}
use Rattle.epoch_laws.specs.declared.step.Reply.{Reply}
use Rattle.epoch_laws.specs.declared.step.Reply.TheVariants.{Done}
use Rattle.epoch_structure_laws.specs.Plans.{Answers, after_by}
use Rattle.epoch_structure_calls.specs.Paths.{Keeping, GoesTo, DoesBy}
use Rattle.epoch_structure_laws.specs.declared.queue.plan.QueuePhase.{QueuePhase}
use Rattle.epoch_structure_laws.specs.declared.queue.plan.QueuePhase.TheVariants.{MakingRoom, Placing, LoadingTail}
use Rattle.epoch_structure_laws.specs.declared.queue.plan.QueuePhase.TheVariants.{LoadingLast, Appending, Swinging}
use Rattle.epoch_structure_laws.specs.declared.queue.plan.QueuePhase.TheVariants.{Helping, TakingBack, LoadingHead}
use Rattle.epoch_structure_laws.specs.declared.queue.plan.QueuePhase.TheVariants.{LoadingNext, Reading, Leaving, Taking}
use Rattle.epoch_structure_laws.specs.declared.queue.plan.QueuePhase.TheVariants.{LookingBack, Advancing, Removing}
use Rattle.epoch_structure_laws.specs.declared.queue.plan.QueuePhase.TheVariants.{Answering}
use Rattle.epoch_structure_laws.specs.declared.queue.plan.QueueAnswer.{QueueAnswer}
use Rattle.epoch_structure_laws.specs.declared.queue.plan.QueueAnswer.TheVariants.{Pushed, Popped, PoppedLeaking, Empty}
use Rattle.epoch_structure_laws.specs.declared.queue.plan.QueueWork.{QueueWork}
use Rattle.epoch_structure_laws.specs.declared.queue.plan.QueueWork.TheVariants.{Build, Push, Pop}
use Rattle.epoch_structure_laws.specs.QueueProgram.{queue_deed_of, start_queue_work, retry_push, retry_pop}
use Rattle.epoch_structure_laws.specs.QueueProgram.{queue_placed, to_last, tail_loaded, to_append, last_loaded}
use Rattle.epoch_structure_laws.specs.QueueProgram.{appended, to_next, queue_head_loaded, to_read, queue_next_loaded}
use Rattle.epoch_structure_laws.specs.QueueProgram.{queue_read, taken, names, looked_back}

-- this work is a push that has a try
abbrev pub PushTries : QueueWork → Type 0
PushTries (Push v k) = 0 < k
PushTries work = ⊥

-- or is a pop that has one
abbrev pub PopTries : QueueWork → Type 0
PopTries (Pop k) = 0 < k
PopTries work = ⊥

-- this work is no building of the first node
abbrev pub IsNoBuild : QueueWork → Type 0
IsNoBuild Build = ⊥
IsNoBuild work = Unit {0}

-- an answer that this work may get
abbrev pub MayAnswer : QueueWork → QueueAnswer → Type 0
MayAnswer work Pushed = PushTries work
MayAnswer work (Popped v) = PopTries work
MayAnswer work (PoppedLeaking v) = PopTries work
MayAnswer work Empty = PopTries work
MayAnswer work answer = Unit {0}

abbrev pub Suits : QueueWork → QueuePhase → Type 0
Suits work (MakingRoom w) = (w ≡ work) × IsNoBuild w
Suits work (Placing v k) = work ≡ Push v k
Suits work (LoadingTail n k) = PushTries work
Suits work (LoadingLast n t k) = PushTries work
Suits work (Appending n t k) = PushTries work
Suits work (Swinging t n) = PushTries work
Suits work (Helping n t q k) = PushTries work
Suits work (TakingBack n) = Unit {0}
Suits work (LoadingHead k) = PopTries work
Suits work (LoadingNext h k) = PopTries work
Suits work (Reading h q k) = PopTries work
Suits work (Leaving h q v k) = PopTries work
Suits work (Taking h q v k) = PopTries work
Suits work (LookingBack h q v) = PopTries work
Suits work (Advancing h q v) = PopTries work
Suits work (Removing h v) = PopTries work
Suits work (Answering answer) = MayAnswer work answer
Suits work phase = ⊥

-- WHAT FOLLOWS

push_again : (work : QueueWork) (n : Name) (k : ℕ) → (0 < k → PushTries work) → Suits work (retry_push n k)
push_again work n zero some = tt
push_again work n (suc k) some = some (omega arith)

pop_again : (work : QueueWork) (k : ℕ) → (0 < k → PopTries work) → Suits work (retry_pop k)
pop_again work zero some = tt
pop_again work (suc k) some = some (omega arith)

start_suits : (work : QueueWork) → IsNoBuild work → Suits work (start_queue_work work)
start_suits Build is = absurd is
start_suits (Push v k) is = refl
start_suits (Pop k) is = pop_again (Pop k) k (λ some. some)

placed_suits : (v k : ℕ) (a : AccessAnswer) → Suits (Push v k) (queue_placed k a)
placed_suits v k (NameAnswer n) = push_again (Push v k) n k (λ some. some)
placed_suits v k a = tt

last_suits : (work : QueueWork) (n : Name) (k : ℕ) (o : Option Name) → PushTries work → Suits work (to_last n k o)
last_suits work n k (Some t) tries = tries
last_suits work n k None tries = push_again work n k (λ _. tries)

tail_suits : (work : QueueWork) (n : Name) (k : ℕ) (a : AccessAnswer) → PushTries work → Suits work (tail_loaded n k a)
tail_suits work n k (Pointer ptr) tries = last_suits work n k ptr.name tries
tail_suits work n k a tries = push_again work n k (λ _. tries)

append_suits : (work : QueueWork) (n t : Name) (k : ℕ) (o : Option Name) → PushTries work
    → Suits work (to_append n t k o)
append_suits work n t k None tries = tries
append_suits work n t k (Some q) tries = tries

last_loaded_suits : (work : QueueWork) (n t : Name) (k : ℕ) (a : AccessAnswer) → PushTries work
    → Suits work (last_loaded n t k a)
last_loaded_suits work n t k (Pointer ptr) tries = append_suits work n t k ptr.name tries
last_loaded_suits work n t k a tries = push_again work n k (λ _. tries)

appended_suits : (work : QueueWork) (n t : Name) (k : ℕ) (a : AccessAnswer) → PushTries work
    → Suits work (appended n t k a)
appended_suits work n t k (Exchanged ptr) tries = tries
appended_suits work n t k a tries = push_again work n k (λ _. tries)

to_next_suits : (work : QueueWork) (k : ℕ) (o : Option Name) → PopTries work → Suits work (to_next k o)
to_next_suits work k (Some h) tries = tries
to_next_suits work k None tries = pop_again work k (λ _. tries)

head_suits : (work : QueueWork) (k : ℕ) (a : AccessAnswer) → PopTries work → Suits work (queue_head_loaded k a)
head_suits work k (Pointer ptr) tries = to_next_suits work k ptr.name tries
head_suits work k a tries = pop_again work k (λ _. tries)

to_read_suits : (work : QueueWork) (h : Name) (k : ℕ) (o : Option Name) → PopTries work → Suits work (to_read h k o)
to_read_suits work h k (Some q) tries = tries
to_read_suits work h k None tries = tries

next_suits : (work : QueueWork) (h : Name) (k : ℕ) (a : AccessAnswer) → PopTries work
    → Suits work (queue_next_loaded h k a)
next_suits work h k (Pointer ptr) tries = to_read_suits work h k ptr.name tries
next_suits work h k a tries = pop_again work k (λ _. tries)

read_suits : (work : QueueWork) (h q : Name) (k : ℕ) (a : AccessAnswer) → PopTries work
    → Suits work (queue_read h q k a)
read_suits work h q k (Value v) tries = tries
read_suits work h q k a tries = pop_again work k (λ _. tries)

taken_suits : (work : QueueWork) (h q : Name) (v k : ℕ) (a : AccessAnswer) → PopTries work
    → Suits work (taken h q v k a)
taken_suits work h q v k (Exchanged ptr) tries = tries
taken_suits work h q v k a tries = pop_again work k (λ _. tries)

looks_suits : (work : QueueWork) (h q : Name) (v : ℕ) (leads : Bool) → PopTries work
    → Suits work (if leads then Advancing h q v else Removing h v)
looks_suits work h q v true tries = tries
looks_suits work h q v false tries = tries

looked_suits : (work : QueueWork) (h q : Name) (v : ℕ) (a : AccessAnswer) → PopTries work
    → Suits work (looked_back h q v a)
looked_suits work h q v (Pointer ptr) tries = looks_suits work h q v (names ptr.name h) tries
looked_suits work h q v a tries = tries

-- STEPS

abbrev next_phase : QueuePhase → Reply → QueuePhase
next_phase phase reply = after_by phase (queue_deed_of 0 phase) reply

-- a phase that is left for the next one
suits_on : (work : QueueWork) (phase : QueuePhase) (reply : Reply) → Suits work phase
    → Suits work (next_phase phase reply)
suits_on work (MakingRoom w) (Done a) s =
    subst (λ (v : QueueWork). Suits v (start_queue_work w)) s.0 (start_suits w s.1)
suits_on work (MakingRoom w) reply s = tt
suits_on work (Placing v k) (Done a) s =
    subst (λ (w : QueueWork). Suits w (queue_placed k a)) (sym s) (placed_suits v k a)
suits_on work (Placing v k) reply s = tt
suits_on work (LoadingTail n k) (Done a) s = tail_suits work n k a s
suits_on work (LoadingTail n k) reply s = push_again work n k (λ _. s)
suits_on work (LoadingLast n t k) (Done a) s = last_loaded_suits work n t k a s
suits_on work (LoadingLast n t k) reply s = push_again work n k (λ _. s)
suits_on work (Appending n t k) (Done a) s = appended_suits work n t k a s
suits_on work (Appending n t k) reply s = push_again work n k (λ _. s)
suits_on work (Swinging t n) (Done a) s = s
suits_on work (Swinging t n) reply s = s
suits_on work (Helping n t q k) (Done a) s = push_again work n k (λ _. s)
suits_on work (Helping n t q k) reply s = push_again work n k (λ _. s)
suits_on work (TakingBack n) (Done a) s = tt
suits_on work (TakingBack n) reply s = tt
suits_on work (LoadingHead k) (Done a) s = head_suits work k a s
suits_on work (LoadingHead k) reply s = pop_again work k (λ _. s)
suits_on work (LoadingNext h k) (Done a) s = next_suits work h k a s
suits_on work (LoadingNext h k) reply s = pop_again work k (λ _. s)
suits_on work (Reading h q k) (Done a) s = read_suits work h q k a s
suits_on work (Reading h q k) reply s = pop_again work k (λ _. s)
suits_on work (Leaving h q v k) (Done a) s = s
suits_on work (Leaving h q v k) reply s = s
suits_on work (Taking h q v k) (Done a) s = taken_suits work h q v k a s
suits_on work (Taking h q v k) reply s = pop_again work k (λ _. s)
suits_on work (LookingBack h q v) (Done a) s = looked_suits work h q v a s
suits_on work (LookingBack h q v) reply s = s
suits_on work (Advancing h q v) (Done a) s = s
suits_on work (Advancing h q v) reply s = s
suits_on work (Removing h v) (Done a) s = s
suits_on work (Removing h v) reply s = s
suits_on work (Answering answer) (Done a) s = s
suits_on work (Answering answer) reply s = s
suits_on work phase reply s = absurd s

-- WHOLE CALLS

module _ {L H : Type 0} (does : L → Access → Reply → L → Type 0) (keeping : Keeping H) where
  suits_along : (work : QueueWork) (replies : List Reply) (phase last : QueuePhase) (old new : H) (l l' : L)
      → Suits work phase
      → GoesTo does keeping (queue_deed_of 0) replies phase old l last new l' → Suits work last
  suits_along work [] phase last old new l l' suits goes = subst (λ (f : QueuePhase). Suits work f) (sym goes.0) suits
  suits_along work (reply ∷ replies) phase last old new l l' suits goes =
      suits_along work replies (next_phase phase reply) last goes.0 new goes.1 l' (suits_on work phase reply suits)
      goes.3

  answer_suits : (work : QueueWork) (last : QueuePhase) (answer : QueueAnswer) → Suits work last
      → queue_deed_of 0 last ≡ Answers answer
      → MayAnswer work answer
  answer_suits work (Answering a) answer suits is =
      let same : a ≡ answer = cc in subst (λ (z : QueueAnswer). MayAnswer work z) same suits
  answer_suits work last answer suits is = cc

  -- a call answers what its work may answer
  pub call_suits : (work : QueueWork) (answer : QueueAnswer) (refused : Option Fault) (old new : H) (l l' : L)
      → IsNoBuild work → DoesBy does keeping (queue_deed_of 0) (MakingRoom work) old l answer refused new l'
      → MayAnswer work answer
  call_suits work answer refused old new l l' is did =
      answer_suits work did.last answer
      (suits_along work did.replies (MakingRoom work) did.last old new l l' (refl, is) did.goes) did.answers
