-- Which phase follows from what a call told, and what it answers at its end.
use Rattle.std.proofs.Common.{◌≡◌, ℕ, zero, suc, ◌-◌, ◌<◌, Bool, true, false, Option, Some, None, ap, refl, arith}
use Rattle.std.specs.Prelude.{if◌then◌else◌}
use Rattle.epoch_cells.specs.declared.cells.name.Name.{Name}
use Rattle.epoch_laws.specs.declared.heap.access.AccessAnswer.{AccessAnswer}
use Rattle.epoch_laws.specs.declared.heap.access.AccessAnswer.TheVariants.{Exchanged}
use Rattle.epoch_laws.specs.declared.heap.access.Ptr.{Ptr}
use Rattle.epoch_laws.specs.declared.step.Reply.{Reply}
use Rattle.epoch_laws.specs.declared.step.Reply.TheVariants.{Done}
use Rattle.epoch_structure_calls.specs.Linking.{loaded, was_made}
use Rattle.epoch_structure_laws.specs.Plans.{Answers, after_by}
use Rattle.epoch_structure_calls.specs.declared.queue.tries.Tried.{Tried}
use Rattle.epoch_structure_calls.specs.declared.queue.tries.Tried.TheVariants.{Lost}
use Rattle.epoch_structure_calls.specs.QueueTrying.{queue_phase_after, leads_on}
use Rattle.epoch_structure_laws.specs.declared.queue.plan.QueuePhase.TheVariants.{MakingRoom, LoadingTail, Swinging}
use Rattle.epoch_structure_laws.specs.declared.queue.plan.QueuePhase.TheVariants.{TakingBack, LoadingHead, LookingBack}
use Rattle.epoch_structure_laws.specs.declared.queue.plan.QueuePhase.TheVariants.{Advancing, Removing}
use Rattle.epoch_structure_laws.specs.declared.queue.plan.QueueAnswer.TheVariants.{PoppedLeaking, TriesOutLeaking}
use Rattle.epoch_structure_laws.specs.declared.queue.plan.QueueAnswer.TheVariants.{BagsFull}
use Rattle.epoch_structure_laws.specs.declared.queue.plan.QueueWork.{QueueWork}
use Rattle.epoch_structure_laws.specs.QueueProgram.{queue_deed_of, retry_push, retry_pop, appended, taken, looked_back}

-- TRIES

-- A push that has a try left makes it.
pub push_goes_on : (node : Name) (k : ℕ) → 0 < k → retry_push node k ≡ LoadingTail node (k - 1)
push_goes_on node zero some = absurd (omega (arith, some))
push_goes_on node (suc k) some = ap (LoadingTail node) (omega arith)

-- A pop that has a try left makes it.
pub pop_goes_on : (k : ℕ) → 0 < k → retry_pop k ≡ LoadingHead (k - 1)
pop_goes_on zero some = absurd (omega (arith, some))
pop_goes_on (suc k) some = ap LoadingHead (omega arith)

-- How many tries are left says nothing of the phase after a try that wasn't lost.
pub goes_alike : (tried : Tried) (k left : ℕ) → (tried ≡ Lost → ⊥)
    → queue_phase_after tried k ≡ queue_phase_after tried left
goes_alike Lost k left none = absurd (none refl)
goes_alike tried k left none = refl

-- EXCHANGES

-- A push whose exchange was made moves the tail on to its node.
pub appends : (node last : Name) (k : ℕ) (answer : AccessAnswer) → was_made answer ≡ true
    → appended node last k answer ≡ Swinging last node
appends node last k (Exchanged ptr) is = refl
appends node last k answer is = cc

-- A push whose exchange wasn't made tries again.
pub loses_push : (node last : Name) (k : ℕ) (answer : AccessAnswer) → was_made answer ≡ false
    → appended node last k answer ≡ retry_push node k
loses_push node last k (Exchanged ptr) is = cc
loses_push node last k answer is = refl

-- A pop whose exchange was made looks at the tail.
pub takes : (head next : Name) (value k : ℕ) (answer : AccessAnswer) → was_made answer ≡ true
    → taken head next value k answer ≡ LookingBack head next value
takes head next value k (Exchanged ptr) is = refl
takes head next value k answer is = cc

-- A pop whose exchange wasn't made tries again.
pub loses_pop : (head next : Name) (value k : ℕ) (answer : AccessAnswer) → was_made answer ≡ false
    → taken head next value k answer ≡ retry_pop k
loses_pop head next value k (Exchanged ptr) is = cc
loses_pop head next value k answer is = refl

-- THE TAIL AFTER A POP

-- A tail that may lead to the node that was taken off is moved on.
pub goes_on_from : (head next : Name) (value : ℕ) (tail : Option Ptr) → leads_on tail head ≡ true
    → looked_back head next value (loaded tail) ≡ Advancing head next value
goes_on_from head next value (Some ptr) is =
    ap (λ (leads : Bool). if leads then Advancing head next value else Removing head value) is
goes_on_from head next value None is = refl

-- A tail that leads elsewhere is left as it is.
pub leaves_tail : (head next : Name) (value : ℕ) (tail : Option Ptr) → leads_on tail head ≡ false
    → looked_back head next value (loaded tail) ≡ Removing head value
leaves_tail head next value (Some ptr) is =
    ap (λ (leads : Bool). if leads then Advancing head next value else Removing head value) is
leaves_tail head next value None is = cc

-- WHAT KEEPS REMOVALS

-- Any reply but an answer says that there is no room.
pub no_room_fails : (work : QueueWork) (reply : Reply) → ((answer : AccessAnswer) → reply ≡ Done answer → ⊥)
    → queue_deed_of 0 (after_by (MakingRoom work) (queue_deed_of 0 (MakingRoom work)) reply) ≡ Answers BagsFull
no_room_fails work (Done answer) none = absurd (none answer refl)
no_room_fails work reply none = refl

-- Any reply but an answer says that the removal of a push's own node isn't kept.
pub taking_back_leaks : (node : Name) (reply : Reply) → ((answer : AccessAnswer) → reply ≡ Done answer → ⊥)
    → queue_deed_of 0 (after_by (TakingBack node) (queue_deed_of 0 (TakingBack node)) reply) ≡ Answers TriesOutLeaking
taking_back_leaks node (Done answer) none = absurd (none answer refl)
taking_back_leaks node reply none = refl

-- Any reply but an answer says that the removal of the node that a pop took off isn't kept.
pub removing_leaks : (node : Name) (value : ℕ) (reply : Reply) → ((answer : AccessAnswer) → reply ≡ Done answer → ⊥)
    → queue_deed_of 0 (after_by (Removing node value) (queue_deed_of 0 (Removing node value)) reply)
    ≡ Answers (PoppedLeaking value)
removing_leaks node value (Done answer) none = absurd (none answer refl)
removing_leaks node value reply none = refl
