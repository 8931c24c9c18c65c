-- The values that a queue holds, as they stand in its cells, and what one step makes of them.
use Rattle.std.specs.Prelude.{◌≡◌, ℕ, List, [], ◌∷◌, ◌++◌, Option, Some, None, true}
use Rattle.epoch_cells.specs.declared.cells.name.Name.{Name}
use Rattle.epoch_laws.specs.declared.heap.access.Access.{Access}
use Rattle.epoch_laws.specs.declared.heap.access.AccessAnswer.TheVariants.{Exchanged, Pointer}
use Rattle.epoch_laws.specs.declared.heap.access.Ptr.{Ptr}
use Rattle.epoch_laws.specs.declared.heap.access.Spot.TheVariants.{Root, Field}
use Rattle.epoch_laws.specs.declared.heap.heap.Content.{Content}
use Rattle.epoch_laws.specs.Heap.{Heap, Cell, cell_at, pointer_at}
use Rattle.epoch_laws.specs.declared.step.Entry.{Entry}
use Rattle.epoch_laws.specs.declared.step.Progress.TheVariants.{Accesses, Ends}
use Rattle.epoch_laws.specs.declared.step.Reply.{Reply}
use Rattle.epoch_laws.specs.declared.step.Reply.TheVariants.{Done}
use Rattle.epoch_laws.specs.declared.step.Step.TheVariants.{Go}
use Rattle.epoch_laws.specs.Run.{State, seat_of}
use Rattle.epoch_structure_laws.specs.declared.plan.Plan.TheVariants.{Under}
use Rattle.epoch_structure_laws.specs.Plans.{AllPlans}
use Rattle.epoch_structure_laws.specs.declared.queue.plan.QueuePhase.{QueuePhase}
use Rattle.epoch_structure_laws.specs.declared.queue.plan.QueuePhase.TheVariants.{Appending, Taking, LoadingNext}

-- WHAT A QUEUE HOLDS

-- the node's cell holds this value
abbrev pub HoldsValue : Heap → Name → ℕ → Type 0
HoldsValue h n v =
    (c : Cell) × (content : Content) × (cell_at h n ≡ Some c) × (c.value ≡ Some content) × (content.value ≡ v)

abbrev pub untagged : Option Name → Ptr
untagged o = record { name = o; tag = 0 }

-- the values of the nodes that are met from this one on, each of which points to the next
abbrev pub HoldsFrom : Heap → Option Name → List ℕ → Type 0
HoldsFrom h o [] = o ≡ None
HoldsFrom h o (v ∷ vs) =
    (n : Name) × (next : Option Name) × (o ≡ Some n) × HoldsValue h n v
    × (pointer_at h (Field n 0) ≡ Some (untagged next)) × HoldsFrom h next vs

-- the first node's value is none of the queue's
abbrev pub HoldsBehind : Heap → Option Name → List ℕ → Type 0
HoldsBehind h None vs = vs ≡ []
HoldsBehind h (Some n) vs =
    (next : Option Name) × (pointer_at h (Field n 0) ≡ Some (untagged next)) × HoldsFrom h next vs

-- the queue holds these values, the front's first
abbrev pub QueueHolds : Heap → List ℕ → Type 0
QueueHolds h vs = (head : Option Name) × (pointer_at h (Root 0) ≡ Some (untagged head)) × HoldsBehind h head vs

-- WHAT A STEP MAKES OF IT

-- this step of p's ends its call on cells and pointers, but for its reply, which will be this
abbrev pub BringsValue : State → Entry → State → ℕ → Reply → Type 0
BringsValue old x new p reply =
    (x.step ≡ Go p) × ((a : Access) × (k : ℕ) × (found : Ptr) × ((seat_of old p).progress ≡ Accesses a k found))
    × ((seat_of new p).progress ≡ Ends reply)

-- A step leaves the values as they are; or it is a push's won exchange, which adds the value of its node at the back;
-- or a pop's won exchange, which takes from the front the value that the pop has read, and will answer.
pub data StepOnValues (old : State) (plans : AllPlans QueuePhase) (x : Entry) (new : State) (vs : List ℕ) : Type 0 where
  keeps : QueueHolds new.heap vs → StepOnValues old plans x new vs
  appends : (p g : ℕ) (n t : Name) (k v : ℕ) (ptr : Ptr) → plans p ≡ Under g (Appending n t k) true
      → BringsValue old x new p (Done (Exchanged ptr)) → HoldsValue old.heap n v → QueueHolds new.heap (vs ++ v ∷ [])
      → StepOnValues old plans x new vs
  takes : (p g : ℕ) (h q : Name) (v k : ℕ) (ws : List ℕ) (ptr : Ptr) → plans p ≡ Under g (Taking h q v k) true
      → BringsValue old x new p (Done (Exchanged ptr)) → vs ≡ v ∷ ws → QueueHolds new.heap ws
      → StepOnValues old plans x new vs

-- the step of a pop that finds nothing behind the head, so that the pop will answer Empty
pub record FindsNoValue (old : State) (plans : AllPlans QueuePhase) (x : Entry) (new : State) : Type 0 where
  pub participant : ℕ
  pub guard : ℕ
  pub head : Name
  pub tries : ℕ
  pub ptr : Ptr
  pub phase : plans participant ≡ Under guard (LoadingNext head tries) true
  pub brings : BringsValue old x new participant (Done (Pointer ptr))
  pub none : ptr.name ≡ None
