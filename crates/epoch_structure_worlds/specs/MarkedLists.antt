-- Runs of one sorted list of nodes with marks: all its steps so far, the latest first. What they left in its pointers,
-- which nodes are its entries, and what holds of every run.
use Rattle.std.specs.Prelude.{◌≡◌, ◌<◌, ◌≤◌, ◌⊎◌, ◌↔◌, ℕ, eqb, Bool, true, false, if◌then◌else◌}
use Rattle.std.specs.Prelude.{List, [], ◌∷◌, Option, Some, None}
use Rattle.epoch_structure_laws.specs.MapEntries.{Has}

-- STEPS

-- One step of a list. Nodes and keys are numbers, and a place is where a pointer stands: a node, or `None` for the
-- list's own first pointer.
pub data ListStep : Type 0 where
  Places : (node key : ℕ) (next : Option ℕ) → ListStep  -- this node came to be, with this key, and its pointer led here
  Points : (node : ℕ) (next : Option ℕ) → ListStep  -- the pointer of a node that no one else sees was set
  Links : (place : Option ℕ) (node : ℕ) (next : Option ℕ) → ListStep  -- the place's pointer led to `next`: now here
  Marks : (node : ℕ) (next : Option ℕ) → ListStep  -- the node's pointer, which leads to `next`, got the mark
  Replaces : (node heir : ℕ) (next : Option ℕ) → ListStep  -- the node's pointer led to `next`: now, marked, to its heir
  Unlinks : (place : Option ℕ) (node : ℕ) (next : Option ℕ) → ListStep  -- the place's pointer led here: now past it
  Loads : (place found : Option ℕ) (marked : Bool) → ListStep  -- the place's pointer was loaded, and led here

-- WHAT THE STEPS LEFT

-- where a pointer leads, and whether it has the mark: that its own node is removed
abbrev pub ListPointer : Type 0
ListPointer = Option ℕ × Bool

-- whether two places are the same
abbrev pub is_same_place : Option ℕ → Option ℕ → Bool
is_same_place None None = true
is_same_place None (Some node) = false
is_same_place (Some node) None = false
is_same_place (Some node) (Some other) = eqb node other

-- the pointer of this place
abbrev pub list_pointer : Option ℕ → List ListStep → ListPointer
list_pointer place [] = (None, false)
list_pointer place (Places node key next ∷ before) =
    if is_same_place place (Some node) then (next, false) else list_pointer place before
list_pointer place (Points node next ∷ before) =
    if is_same_place place (Some node) then (next, false) else list_pointer place before
list_pointer place (Links at node next ∷ before) =
    if is_same_place place at then (Some node, false) else list_pointer place before
list_pointer place (Marks node next ∷ before) =
    if is_same_place place (Some node) then (next, true) else list_pointer place before
list_pointer place (Replaces node heir next ∷ before) =
    if is_same_place place (Some node) then (Some heir, true) else list_pointer place before
list_pointer place (Unlinks at node next ∷ before) =
    if is_same_place place at then (next, false) else list_pointer place before
list_pointer place (Loads at found marked ∷ before) = list_pointer place before

-- the key with which this node came to be
abbrev pub key_placed : ℕ → List ListStep → ℕ
key_placed node [] = 0
key_placed node (Places other key next ∷ before) = if eqb node other then key else key_placed node before
key_placed node (step ∷ before) = key_placed node before

-- this node came to be at some step
abbrev pub WasPlaced : ℕ → List ListStep → Type 0
WasPlaced node [] = ⊥
WasPlaced node (Places other key next ∷ before) = (node ≡ other) ⊎ WasPlaced node before
WasPlaced node (step ∷ before) = WasPlaced node before

-- this node was linked once, however long ago
abbrev pub WasLinked : ℕ → List ListStep → Type 0
WasLinked node [] = ⊥
WasLinked node (Links at other next ∷ before) = (node ≡ other) ⊎ WasLinked node before
WasLinked node (Replaces other heir next ∷ before) = (node ≡ heir) ⊎ WasLinked node before
WasLinked node (step ∷ before) = WasLinked node before

-- an entry is a node that was linked, and whose pointer has no mark
abbrev pub IsEntry : ℕ → List ListStep → Type 0
IsEntry node run = WasLinked node run × ((list_pointer (Some node) run).1 ≡ false)

-- The entry of this key, as in a map: a link adds a node, a mark takes one out, and a replacement puts its heir there.
abbrev pub entry_of : ℕ → List ListStep → Option ℕ
entry_of key [] = None
entry_of key (Links at node next ∷ before) =
    if eqb key (key_placed node before) then Some node else entry_of key before
entry_of key (Marks node next ∷ before) = if eqb key (key_placed node before) then None else entry_of key before
entry_of key (Replaces node heir next ∷ before) =
    if eqb key (key_placed node before) then Some heir else entry_of key before
entry_of key (step ∷ before) = entry_of key before

-- RUNS

-- this node is its caller's own: it was placed, and never linked
abbrev pub IsUnlinked : ℕ → List ListStep → Type 0
IsUnlinked node before = WasPlaced node before × (WasLinked node before → ⊥)

-- What a caller knows of the place that a hint gives: it is the first pointer, or a node that was linked once.
abbrev pub IsHint : Option ℕ → List ListStep → Type 0
IsHint None before = Unit {0}
IsHint (Some node) before = WasLinked node before

-- the place is the first pointer, or a node with a key below this one
abbrev pub IsBelow : Option ℕ → ℕ → List ListStep → Type 0
IsBelow None key before = Unit {0}
IsBelow (Some node) key before = key_placed node before < key

-- no node stands there, or one with a key above this one
abbrev pub IsAbove : Option ℕ → ℕ → List ListStep → Type 0
IsAbove None key before = Unit {0}
IsAbove (Some node) key before = key < key_placed node before

-- the place stands: it is the first pointer, or a node that was placed
abbrev pub IsPlace : Option ℕ → List ListStep → Type 0
IsPlace None before = Unit {0}
IsPlace (Some node) before = WasPlaced node before

-- What a link needs: the caller's own node, whose pointer leads where that of the place leads, and whose key is
-- between. It is one exchange, which finds that the place's pointer has no mark. Nothing more is known of the place.
pub record MayLink (before : List ListStep) (place : Option ℕ) (node : ℕ) (next : Option ℕ) : Type 0 where
  pub hint : IsHint place before
  pub own : IsUnlinked node before
  pub finds : list_pointer place before ≡ (next, false)
  pub leads : list_pointer (Some node) before ≡ (next, false)
  pub below : IsBelow place (key_placed node before) before
  pub above : IsAbove next (key_placed node before) before

-- What a replacement needs: an heir of the caller's own, which has the node's key, and leads where the node leads. The
-- exchange finds that the node's pointer has no mark.
pub record MayReplace (before : List ListStep) (node heir : ℕ) (next : Option ℕ) : Type 0 where
  pub linked : WasLinked node before
  pub own : IsUnlinked heir before
  pub finds : list_pointer (Some node) before ≡ (next, false)
  pub leads : list_pointer (Some heir) before ≡ (next, false)
  pub same_key : key_placed heir before ≡ key_placed node before

-- What an unlinking needs: the node's pointer has the mark. The exchange finds that the place's pointer has none.
pub record MayUnlink (before : List ListStep) (place : Option ℕ) (node : ℕ) (next : Option ℕ) : Type 0 where
  pub hint : IsHint place before
  pub finds : list_pointer place before ≡ (Some node, false)
  pub leads : list_pointer (Some node) before ≡ (next, true)

-- what a step may be after these
abbrev pub MayComeNext : List ListStep → ListStep → Type 0
MayComeNext before (Places node key next) = WasPlaced node before → ⊥
MayComeNext before (Points node next) = IsUnlinked node before
MayComeNext before (Links place node next) = MayLink before place node next
MayComeNext before (Marks node next) = WasLinked node before × (list_pointer (Some node) before ≡ (next, false))
MayComeNext before (Replaces node heir next) = MayReplace before node heir next
MayComeNext before (Unlinks place node next) = MayUnlink before place node next
MayComeNext before (Loads place found marked) = IsPlace place before × (list_pointer place before ≡ (found, marked))

-- each step of the run may come after those before it
abbrev pub IsListRun : List ListStep → Type 0
IsListRun [] = Unit {0}
IsListRun (step ∷ before) = MayComeNext before step × IsListRun before

-- THE LIST

-- the pointers lead from this place along these nodes, and nowhere from the last one
abbrev pub LeadsAlong : List ListStep → Option ℕ → List ℕ → Type 0
LeadsAlong run place [] = (list_pointer place run).0 ≡ None
LeadsAlong run place (node ∷ behind) = ((list_pointer place run).0 ≡ Some node) × LeadsAlong run (Some node) behind

-- no node behind this one has a lesser key, and if this one is an entry, none has its key
abbrev pub StandsBelow : List ListStep → ℕ → List ℕ → Type 0
StandsBelow run node behind = (other : ℕ) → Has other behind
    → (key_placed node run ≤ key_placed other run)
    × (IsEntry node run → key_placed node run < key_placed other run)

-- this holds of each of the nodes
abbrev pub IsSorted : List ListStep → List ℕ → Type 0
IsSorted run [] = Unit {0}
IsSorted run (node ∷ behind) = StandsBelow run node behind × IsSorted run behind

-- the first pointer leads along finitely many nodes, which are sorted, and each entry is one of them
abbrev pub ListStaysSorted : Type 0
ListStaysSorted = (run : List ListStep) → IsListRun run
    → (nodes : List ℕ) × LeadsAlong run None nodes × IsSorted run nodes
    × ((node : ℕ) → IsEntry node run → Has node nodes)

-- THE MAP

-- a node is an entry with this key exactly if it is the map's entry of the key
abbrev pub EntriesAreAMap : Type 0
EntriesAreAMap = (run : List ListStep) (key node : ℕ) → IsListRun run
    → ((entry_of key run ≡ Some node) ↔ (IsEntry node run × (key_placed node run ≡ key)))

-- A step leaves the map as it is, or adds an entry of a key that had none, or takes out the entry that its node is. A
-- replacement then puts one with the same key there.
abbrev pub KeepsMap : List ListStep → ListStep → Type 0
KeepsMap before (Links place node next) = entry_of (key_placed node before) before ≡ None
KeepsMap before (Marks node next) = entry_of (key_placed node before) before ≡ Some node
KeepsMap before (Replaces node heir next) =
    (entry_of (key_placed node before) before ≡ Some node) × (key_placed heir before ≡ key_placed node before)
KeepsMap before step = Unit {0}

-- and so does each step of every run
abbrev pub StepsKeepMap : Type 0
StepsKeepMap = (before : List ListStep) (step : ListStep) → IsListRun (step ∷ before) → KeepsMap before step

-- a load that finds the pointer of a linked node without a mark finds the entry of its key
abbrev pub UnmarkedLoadsFindEntries : Type 0
UnmarkedLoadsFindEntries = (before : List ListStep) (node : ℕ) (found : Option ℕ)
    → IsListRun (Loads (Some node) found false ∷ before) → WasLinked node before
    → entry_of (key_placed node before) before ≡ Some node

-- WALKS

-- these are the run's steps up to a moment
abbrev pub IsMomentOf : List ListStep → List ListStep → Type 0
IsMomentOf moment [] = moment ≡ []
IsMomentOf moment (step ∷ before) = (moment ≡ step ∷ before) ⊎ IsMomentOf moment before

-- A walk so far: where and when it began, its last load, and the nodes that it saw without a mark, the last one first.
pub record ListWalk : Type 0 where
  pub first : Option ℕ
  pub start : List ListStep
  pub last : Option ℕ
  pub found : Option ℕ
  pub marked : Bool
  pub seen : List ℕ

-- A walk may begin at the first pointer, or at a node that is an entry at that moment, as a hint whose pointer is found
-- without a mark.
abbrev pub MayStartWalk : Option ℕ → List ListStep → Type 0
MayStartWalk None start = Unit {0}
MayStartWalk (Some node) start = IsEntry node start

-- with the node of this load, if it was found without a mark
abbrev pub with_seen : Option ℕ → Bool → List ℕ → List ℕ
with_seen None marked seen = seen
with_seen (Some node) true seen = seen
with_seen (Some node) false seen = node ∷ seen

-- a walk of one load, of the place where it began
abbrev pub walk_begun : List ListStep → Option ℕ → Option ℕ → Bool → ListWalk
walk_begun start place found marked = record {
  first = place;
  start = start;
  last = place;
  found = found;
  marked = marked;
  seen = with_seen place marked [];
}

-- a walk with one load more, from the node that it had found
abbrev pub walk_on : ListWalk → ℕ → Option ℕ → Bool → ListWalk
walk_on walk node found marked = record {
  first = walk.first;
  start = walk.start;
  last = Some node;
  found = found;
  marked = marked;
  seen = with_seen (Some node) marked walk.seen;
}

-- This walk was made: it began, and since then some loads of the run, in their order, were its own: the first of the
-- place where it began, and each other one of the node that the one before it found. Steps of others may lie between.
abbrev pub WasWalked : ListWalk → List ListStep → Type 0
WasWalked walk [] = ⊥
WasWalked walk (Loads place found marked ∷ before) =
    WasWalked walk before
    ⊎ (((start : List ListStep) × IsMomentOf start before × MayStartWalk place start
    × (walk ≡ walk_begun start place found marked))
    ⊎ ((earlier : ListWalk) × (node : ℕ) × WasWalked earlier before × (earlier.found ≡ Some node)
    × (place ≡ Some node) × (walk ≡ walk_on earlier node found marked)))
WasWalked walk (step ∷ before) = WasWalked walk before

-- the walk's last load was at the first pointer, at a key below this one, or at a removed node with this key
abbrev pub IsShortOf : Option ℕ → Bool → ℕ → List ListStep → Type 0
IsShortOf None marked key run = Unit {0}
IsShortOf (Some node) marked key run =
    (key_placed node run < key) ⊎ ((key_placed node run ≡ key) × (marked ≡ true))

-- each node that a walk saw without a mark was the entry of its key, at some moment since the walk began
abbrev pub WalksSeeEntries : Type 0
WalksSeeEntries = (run : List ListStep) (walk : ListWalk) (node : ℕ) → IsListRun run → WasWalked walk run
    → Has node walk.seen
    → (moment : List ListStep) × IsMomentOf walk.start moment × IsMomentOf moment run
    × (entry_of (key_placed node run) moment ≡ Some node)

-- A key that a walk passes without finding it had no entry, at some moment since the walk began. In a run that ends
-- with the walk's last load, this is a moment of the walk.
abbrev pub MissedKeysHadNoEntry : Type 0
MissedKeysHadNoEntry = (run : List ListStep) (walk : ListWalk) (key : ℕ) → IsListRun run → WasWalked walk run
    → IsShortOf walk.last walk.marked key run → IsAbove walk.found key run
    → (moment : List ListStep) × IsMomentOf walk.start moment × IsMomentOf moment run × (entry_of key moment ≡ None)

-- keys descend along these nodes, of which the last one seen stands first
abbrev pub KeysDescend : List ListStep → List ℕ → Type 0
KeysDescend run [] = Unit {0}
KeysDescend run (node ∷ earlier) =
    ((other : ℕ) → Has other earlier → key_placed other run < key_placed node run) × KeysDescend run earlier

-- of the nodes that a walk saw without a mark, the keys ascend
abbrev pub WalksAscend : Type 0
WalksAscend = (run : List ListStep) (walk : ListWalk) → IsListRun run → WasWalked walk run
    → KeysDescend run walk.seen

-- this node was the key's entry all the while since the walk began
abbrev pub StaysEntry : ListWalk → ℕ → ℕ → List ListStep → Type 0
StaysEntry walk key node run = (moment : List ListStep) → IsMomentOf walk.start moment → IsMomentOf moment run
    → entry_of key moment ≡ Some node

-- the walk began at the first pointer, or at a node whose key isn't above this one
abbrev pub BeginsUpTo : Option ℕ → ℕ → List ListStep → Type 0
BeginsUpTo None key run = Unit {0}
BeginsUpTo (Some node) key run = key_placed node run ≤ key

-- a walk that begins up to a key and comes past it has seen its entry, if that stayed the same all the while
abbrev pub WalksSeeWhatStays : Type 0
WalksSeeWhatStays = (run : List ListStep) (walk : ListWalk) (key node : ℕ) → IsListRun run → WasWalked walk run
    → BeginsUpTo walk.first key run → IsAbove walk.found key run → StaysEntry walk key node run
    → Has node walk.seen

-- some walk missed a key that has an entry now: it was linked behind the walk, while that was under way
abbrev pub WalksMayMissNewEntries : Type 0
WalksMayMissNewEntries = (run : List ListStep) × (walk : ListWalk) × (key node : ℕ) × IsListRun run
    × WasWalked walk run × IsShortOf walk.last walk.marked key run × IsAbove walk.found key run
    × (entry_of key run ≡ Some node)
