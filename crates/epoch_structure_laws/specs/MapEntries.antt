-- The entries that a map holds, as they stand in its cells, and what one step makes of them.
use Rattle.std.specs.Prelude.{◌≡◌, ◌≢◌, ◌≤◌, ◌<◌, ℕ, zero, suc, List, [], ◌∷◌, ◌++◌, Option, Some, None, true, ◌⊎◌}
use Rattle.epoch_cells.specs.declared.cells.name.Name.{Name}
use Rattle.epoch_laws.specs.declared.heap.access.Access.{Access}
use Rattle.epoch_laws.specs.declared.heap.access.AccessAnswer.TheVariants.{Exchanged, Pointer}
use Rattle.epoch_laws.specs.declared.heap.access.Ptr.{Ptr}
use Rattle.epoch_laws.specs.declared.heap.access.Spot.{Spot}
use Rattle.epoch_laws.specs.declared.heap.access.Spot.TheVariants.{Root, Field}
use Rattle.epoch_laws.specs.declared.heap.heap.Content.{Content}
use Rattle.epoch_laws.specs.Heap.{Heap, Cell, cell_at, pointer_at}
use Rattle.epoch_laws.specs.declared.step.Entry.{Entry}
use Rattle.epoch_laws.specs.declared.step.Progress.TheVariants.{Accesses, Ends}
use Rattle.epoch_laws.specs.declared.step.Reply.{Reply}
use Rattle.epoch_laws.specs.declared.step.Reply.TheVariants.{Done}
use Rattle.epoch_laws.specs.declared.step.Step.TheVariants.{Go}
use Rattle.epoch_laws.specs.Run.{State, seat_of}
use Rattle.epoch_structure_laws.specs.declared.plan.Plan.TheVariants.{Under}
use Rattle.epoch_structure_laws.specs.Plans.{AllPlans}
use Rattle.epoch_structure_laws.specs.declared.map.plan.Aim.{Aim}
use Rattle.epoch_structure_laws.specs.declared.map.plan.MapPhase.{MapPhase}
use Rattle.epoch_structure_laws.specs.declared.map.plan.MapPhase.TheVariants.{LoadingFirst, LoadingNext, Inserting}
use Rattle.epoch_structure_laws.specs.declared.map.plan.MapPhase.TheVariants.{Marking}
use Rattle.epoch_structure_laws.specs.MapProgram.{node_key, plain, bucket_of, key_sought}

-- A NODE, AND A BUCKET'S NODES

-- a node of a bucket: its entry, and the tag of its field, which is 0 as long as the entry is in the map
pub record Item : Type 0 where
  pub name : Name
  pub entry : ℕ
  pub tag : ℕ

-- the node's cell holds this value
abbrev pub EntryHoldsValue : Heap → Name → ℕ → Type 0
EntryHoldsValue h n v =
    (c : Cell) × (content : Content) × (cell_at h n ≡ Some c) × (c.value ≡ Some content) × (content.value ≡ v)

abbrev pub with_tag : Option Name → ℕ → Ptr
with_tag next tag = record { name = next; tag = tag }

-- the nodes that are met from this one on, each of which points to the next
abbrev pub Chain : Heap → Option Name → List Item → Type 0
Chain h o [] = o ≡ None
Chain h o (x ∷ xs) =
    (next : Option Name) × (o ≡ Some x.name) × EntryHoldsValue h x.name x.entry
    × (pointer_at h (Field x.name 0) ≡ Some (with_tag next x.tag)) × Chain h next xs

-- the root leads there; a root that does not stand leads nowhere
abbrev pub Rooted : Heap → ℕ → Option Name → Type 0
Rooted h i head = (pointer_at h (Root i) ≡ Some (plain head)) ⊎ ((pointer_at h (Root i) ≡ None) × (head ≡ None))

-- the bucket has these nodes
abbrev pub BucketHolds : Heap → ℕ → List Item → Type 0
BucketHolds h i xs = (head : Option Name) × Rooted h i head × Chain h head xs

-- the keys ascend from this one on, so that none is there twice
abbrev pub Ascends : ℕ → List Item → Type 0
Ascends low [] = Unit {0}
Ascends low (x ∷ xs) = (low ≤ node_key x.entry) × Ascends (suc (node_key x.entry)) xs

-- THE ENTRIES OF A BUCKET

-- an entry is in the map as long as its node's field has no mark
abbrev pub unless_marked : ℕ → ℕ → List ℕ → List ℕ
unless_marked v zero vs = v ∷ vs
unless_marked v (suc tag) vs = vs

abbrev pub map_entries : List Item → List ℕ
map_entries [] = []
map_entries (x ∷ xs) = unless_marked x.entry x.tag (map_entries xs)

-- bucket i of the map holds these entries
abbrev pub MapHolds : Heap → ℕ → List ℕ → Type 0
MapHolds h i vs = (xs : List Item) × BucketHolds h i xs × (map_entries xs ≡ vs)

-- this one is among them
abbrev pub Has : ℕ → List ℕ → Type 0
Has v [] = ⊥
Has v (w ∷ ws) = (v ≡ w) ⊎ Has v ws

-- none of them has this key
abbrev pub Lacks : ℕ → List ℕ → Type 0
Lacks key [] = Unit {0}
Lacks key (v ∷ vs) = (node_key v ≢ key) × Lacks key vs

-- WHAT A STEP MAKES OF THEM

-- this step of p's ends its call on cells and pointers, but for its reply, which will be this
abbrev pub BringsEntry : State → Entry → State → ℕ → Reply → Type 0
BringsEntry old x new p reply =
    (x.step ≡ Go p) × ((a : Access) × (k : ℕ) × (found : Ptr) × ((seat_of old p).progress ≡ Accesses a k found))
    × ((seat_of new p).progress ≡ Ends reply)

-- A step leaves the entries of a bucket as they are; or it is an insert's won exchange, which adds an entry of a key
-- that none of them has; or a removal's, which marks the node of an entry of its key, so that the entry is out.
pub data StepOnEntries (old : State) (plans : AllPlans MapPhase) (x : Entry) (new : State) (i : ℕ) (vs : List ℕ) : Type
    0
  where
    keeps : MapHolds new.heap i vs → StepOnEntries old plans x new i vs
    inserts : (p g e : ℕ) (own : Name) (link : Spot) (next : Option Name) (k : ℕ) (ptr : Ptr) (before after : List ℕ)
        → plans p ≡ Under g (Inserting i e own link next k) true → BringsEntry old x new p (Done (Exchanged ptr))
        → Lacks (node_key e) vs → vs ≡ before ++ after → MapHolds new.heap i (before ++ (e ∷ after))
        → StepOnEntries old plans x new i vs
    removes : (p g key : ℕ) (link : Spot) (c : Name) (v : ℕ) (next : Option Name) (k : ℕ) (ptr : Ptr)
        (before after : List ℕ) → plans p ≡ Under g (Marking i key link c v next k) true
        → BringsEntry old x new p (Done (Exchanged ptr)) → node_key v ≡ key → vs ≡ before ++ (v ∷ after)
        → MapHolds new.heap i (before ++ after) → StepOnEntries old plans x new i vs

-- a call in this phase, told this pointer, looks for the key at a link of bucket i behind lower keys
abbrev pub LooksAt : MapPhase → ℕ → ℕ → Ptr → Type 0
LooksAt (LoadingFirst aim k) i key ptr = (bucket_of aim ≡ i) × (key_sought aim ≡ key)
LooksAt (LoadingNext aim link c v k) i key ptr =
    (bucket_of aim ≡ i) × (key_sought aim ≡ key) × (node_key v < key) × (ptr.tag ≡ 0)
LooksAt _ i key ptr = ⊥

-- there is none, or the entry of this node has a higher key
abbrev pub LeadsPast : Heap → ℕ → Option Name → Type 0
LeadsPast h key None = Unit {0}
LeadsPast h key (Some m) = (w : ℕ) × EntryHoldsValue h m w × (key < node_key w)

-- the step at which a call finds no entry of the key: the link that it looks at leads past the key
pub record FindsNoEntry (old : State) (plans : AllPlans MapPhase) (x : Entry) (new : State) (i key : ℕ) : Type 0 where
  pub participant : ℕ
  pub guard : ℕ
  pub phase : MapPhase
  pub ptr : Ptr
  pub under : plans participant ≡ Under guard phase true
  pub looks : LooksAt phase i key ptr
  pub brings : BringsEntry old x new participant (Done (Pointer ptr))
  pub past : LeadsPast old.heap key ptr.name

-- the step at which a call finds this entry of its key, the field of whose node has no mark
pub record FindsEntry (old : State) (plans : AllPlans MapPhase) (x : Entry) (new : State) (i v : ℕ) : Type 0 where
  pub participant : ℕ
  pub guard : ℕ
  pub aim : Aim
  pub link : Spot
  pub node : Name
  pub moves : ℕ
  pub ptr : Ptr
  pub under : plans participant ≡ Under guard (LoadingNext aim link node v moves) true
  pub bucket : bucket_of aim ≡ i
  pub key : node_key v ≡ key_sought aim
  pub brings : BringsEntry old x new participant (Done (Pointer ptr))
  pub no_mark : ptr.tag ≡ 0
