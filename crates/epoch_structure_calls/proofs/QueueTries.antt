-- How the accesses of a try join, and how a call ends.
use Rattle.std.proofs.Common.{◌≡◌, ℕ, Bool, Option, Some, None, ap, refl, sym, subst}
use Rattle.epoch_cells.specs.declared.cells.name.Name.{Name}
use Rattle.epoch_cells.specs.declared.fault.Fault.{Fault}
use Rattle.epoch_laws.specs.declared.heap.access.Access.{Access}
use Rattle.epoch_laws.specs.declared.heap.access.Access.TheVariants.{Read, Leave}
use Rattle.epoch_laws.specs.declared.heap.access.AccessAnswer.{AccessAnswer}
use Rattle.epoch_laws.specs.declared.heap.access.AccessAnswer.TheVariants.{Unit as Nothing, Value, Pointer}
use Rattle.epoch_laws.specs.declared.heap.access.Ptr.{Ptr}
use Rattle.epoch_laws.specs.declared.heap.access.Spot.{Spot}
use Rattle.epoch_laws.specs.declared.heap.access.Spot.TheVariants.{Root, Field}
use Rattle.epoch_laws.specs.declared.step.Reply.{Reply}
use Rattle.epoch_laws.specs.declared.step.Reply.TheVariants.{Done}
use Rattle.epoch_structure_calls.proofs.Touched.{touches_first, touches_once, touches_further}
use Rattle.epoch_structure_calls.specs.Linking.{ExchangesAt}
use Rattle.epoch_structure_calls.specs.Touching.{TouchesBy, TouchesOn}
use Rattle.epoch_structure_calls.proofs.PathSteps.{path_ends}
use Rattle.epoch_structure_calls.specs.Paths.{Keeping, PerformsBy, DoesBy, fault_after}
use Rattle.epoch_structure_laws.specs.Plans.{Answers, after_by, ptr_to}
use Rattle.epoch_structure_laws.specs.declared.queue.plan.QueuePhase.{QueuePhase}
use Rattle.epoch_structure_laws.specs.declared.queue.plan.QueuePhase.TheVariants.{LoadingTail, LoadingLast, Appending}
use Rattle.epoch_structure_laws.specs.declared.queue.plan.QueuePhase.TheVariants.{LoadingHead}
use Rattle.epoch_structure_laws.specs.declared.queue.plan.QueuePhase.TheVariants.{LoadingNext, Reading, Leaving, Taking}
use Rattle.epoch_structure_laws.specs.declared.queue.plan.QueueAnswer.{QueueAnswer}
use Rattle.epoch_structure_laws.specs.QueueProgram.{queue_deed_of, queue_load, to_last, to_append, to_next, to_read}

module _ {L : Type 0} (does : L → Access → Reply → L → Type 0) where
  -- One more access is made at the end of a path.
  pub touches_next : (first phase next : QueuePhase) (answer : AccessAnswer) (links between links' : L)
      → TouchesOn does (queue_deed_of 0) first links phase between
      → TouchesBy does (queue_deed_of 0 phase) between answer links'
      → after_by phase (queue_deed_of 0 phase) (Done answer) ≡ next
      → TouchesOn does (queue_deed_of 0) first links next links'
  touches_next first phase next answer links between links' path touches is =
      touches_further does (queue_deed_of 0) first phase next links between links' path
      (touches_once does (queue_deed_of 0) phase next answer between links' touches is)

  -- A path comes to a phase that is another one's beginning.
  pub touches_from : (first phase next last : QueuePhase) (links between links' : L)
      → TouchesOn does (queue_deed_of 0) first links phase between → phase ≡ next
      → TouchesOn does (queue_deed_of 0) next between last links'
      → TouchesOn does (queue_deed_of 0) first links last links'
  touches_from first phase next last links between links' path is further =
      touches_further does (queue_deed_of 0) first phase last links between links' path
      (subst (λ (f : QueuePhase). TouchesOn does (queue_deed_of 0) f between last links') (sym is) further)

  -- An exchange is for the node to which its new pointer was made.
  pub exchanges_for : (spot : Spot) (current new : Ptr) (node : Name) (made : Bool) (links links' : L)
      → new ≡ ptr_to node → ExchangesAt does links spot current new made links'
      → ExchangesAt does links spot current (ptr_to node) made links'
  exchanges_for spot current new node made links links' is exchanges =
      subst (λ (p : Ptr). ExchangesAt does links spot current p made links') is exchanges

  -- An exchange is of one node for another, to which its two pointers were made.
  pub exchanges_nodes : (spot : Spot) (current new : Ptr) (before node : Name) (made : Bool) (links links' : L)
      → current ≡ ptr_to before → new ≡ ptr_to node → ExchangesAt does links spot current new made links'
      → ExchangesAt does links spot (ptr_to before) (ptr_to node) made links'
  exchanges_nodes spot current new before node made links links' was is exchanges =
      subst (λ (p : Ptr). ExchangesAt does links spot p (ptr_to node) made links') was
      (exchanges_for spot current new node made links links' is exchanges)

  -- A PUSH

  -- The tail leads to a node.
  pub finds_last : (node last : Name) (k : ℕ) (ptr : Ptr) (links links' : L)
      → does links (queue_load 0 (Root 1)) (Done (Pointer ptr)) links' → ptr.name ≡ Some last
      → TouchesOn does (queue_deed_of 0) (LoadingTail node k) links (LoadingLast node last k) links'
  finds_last node last k ptr links links' touches is =
      touches_once does (queue_deed_of 0) (LoadingTail node k) (LoadingLast node last k) (Pointer ptr) links links'
      touches
      (ap (to_last node k) is)

  -- No node is behind it.
  pub finds_end : (node last : Name) (k : ℕ) (ptr : Ptr) (links between links' : L)
      → TouchesOn does (queue_deed_of 0) (LoadingTail node k) links (LoadingLast node last k) between
      → does between (queue_load 0 (Field last 0)) (Done (Pointer ptr)) links' → ptr.name ≡ None
      → TouchesOn does (queue_deed_of 0) (LoadingTail node k) links (Appending node last k) links'
  finds_end node last k ptr links between links' path touches is =
      touches_next (LoadingTail node k) (LoadingLast node last k) (Appending node last k) (Pointer ptr) links between
      links' path touches (ap (to_append node last k) is)

  -- A POP

  -- The head leads to a node.
  pub finds_first : (head : Name) (k : ℕ) (ptr : Ptr) (links links' : L)
      → does links (queue_load 0 (Root 0)) (Done (Pointer ptr)) links' → ptr.name ≡ Some head
      → TouchesOn does (queue_deed_of 0) (LoadingHead k) links (LoadingNext head k) links'
  finds_first head k ptr links links' touches is =
      touches_once does (queue_deed_of 0) (LoadingHead k) (LoadingNext head k) (Pointer ptr) links links' touches
      (ap (to_next k) is)

  -- A node is behind it.
  pub finds_next : (head next : Name) (k : ℕ) (ptr : Ptr) (links between links' : L)
      → TouchesOn does (queue_deed_of 0) (LoadingHead k) links (LoadingNext head k) between
      → does between (queue_load 0 (Field head 0)) (Done (Pointer ptr)) links' → ptr.name ≡ Some next
      → TouchesOn does (queue_deed_of 0) (LoadingHead k) links (Reading head next k) links'
  finds_next head next k ptr links between links' path touches is =
      touches_next (LoadingHead k) (LoadingNext head k) (Reading head next k) (Pointer ptr) links between links' path
      touches (ap (to_read head k) is)

  -- The value of that node is read, and the node is left.
  pub finds_value : (head next : Name) (value k : ℕ) (links between read links' : L)
      → TouchesOn does (queue_deed_of 0) (LoadingHead k) links (Reading head next k) between
      → does between (Read (Some 0) (ptr_to next)) (Done (Value value)) read
      → does read (Leave (ptr_to next)) (Done Nothing) links'
      → TouchesOn does (queue_deed_of 0) (LoadingHead k) links (Taking head next value k) links'
  finds_value head next value k links between read links' path reads leaves =
      let at_value =
      touches_next (LoadingHead k) (Reading head next k) (Leaving head next value k) (Value value) links between read
      path reads refl in
      touches_next (LoadingHead k) (Leaving head next value k) (Taking head next value k) Nothing links read links'
      at_value leaves refl

  -- WHOLE CALLS

  -- The last call is made, and the fault that is handed on is its refusal's.
  pub call_ends : {H : Type 0} (keeping : Keeping H) (phase : QueuePhase) (reply : Reply) (old new : H)
      (links links' : L)
      (a : QueueAnswer) (fault : Option Fault)
      → PerformsBy does keeping (queue_deed_of 0 phase) old links reply new links'
      → queue_deed_of 0 (after_by phase (queue_deed_of 0 phase) reply) ≡ Answers a → fault ≡ fault_after None reply
      → DoesBy does keeping (queue_deed_of 0) phase old links a fault new links'
  call_ends keeping phase reply old new links links' a fault performs answers is =
      subst (λ (f : Option Fault). DoesBy does keeping (queue_deed_of 0) phase old links a f new links') (sym is)
      (path_ends does keeping (queue_deed_of 0) phase reply old new links links' a performs answers)
