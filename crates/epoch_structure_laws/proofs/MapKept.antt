-- What holds of a map between any two steps, and that each step of its plans keeps it.
use Rattle.std.proofs.Common.{◌≡◌, ◌≢◌, ◌≤◌, ◌<◌, ℕ, zero, suc, List, Option, Some, None, ◌⊎◌, inl, inr, refl}
use Rattle.std.proofs.Common.{ap, sym, subst, ◌∙◌, slice_get}
use Rattle.epoch_cells.specs.declared.cells.name.Name.{Name}
use Rattle.epoch_cells.specs.declared.fault.Fault.{Fault}
use Rattle.epoch_laws.specs.declared.heap.access.Ptr.{Ptr}
use Rattle.epoch_laws.specs.declared.heap.access.Spot.{Spot}
use Rattle.epoch_laws.specs.declared.heap.access.Spot.TheVariants.{Root, Field}
use Rattle.epoch_laws.specs.Heap.{Heap, pointer_at}
use Rattle.epoch_laws.specs.declared.step.Reply.{Reply}
use Rattle.epoch_laws.specs.declared.step.Reply.TheVariants.{Done, Refused}
use Rattle.epoch_laws.specs.Reach.{IsReachable, Past}
use Rattle.epoch_laws.proofs.TurnsGiven.{IsGiven}
use Rattle.epoch_structure_laws.specs.Plans.{Defers, IsOver, IsFlush, IsFit, after_by}
use Rattle.epoch_structure_laws.proofs.Custody.{Passed, Calm, Structure, Sane}
use Rattle.epoch_structure_laws.proofs.Obligations.{Weaker, Settled, HandsOver}
use Rattle.epoch_structure_laws.proofs.Steps.{fewer_reach}
use Rattle.epoch_structure_laws.proofs.Calls.{calm_pointer}
use Rattle.epoch_structure_laws.specs.declared.map.plan.MapWork.{MapWork}
use Rattle.epoch_structure_laws.specs.declared.map.plan.MapWork.TheVariants.{Insert, Remove, Get}
use Rattle.epoch_structure_laws.specs.declared.map.plan.Aim.{Aim}
use Rattle.epoch_structure_laws.specs.declared.map.plan.Aim.TheVariants.{ToInsert, ToRemove, ToGet}
use Rattle.epoch_structure_laws.specs.declared.map.plan.MapAnswer.{MapAnswer}
use Rattle.epoch_structure_laws.specs.declared.map.plan.MapAnswer.TheVariants.{Removed}
use Rattle.epoch_structure_laws.specs.declared.map.plan.MapPhase.{MapPhase}
use Rattle.epoch_structure_laws.specs.declared.map.plan.MapPhase.TheVariants.{MakingRoom, Placing, LoadingFirst}
use Rattle.epoch_structure_laws.specs.declared.map.plan.MapPhase.TheVariants.{Reading, Leaving, LoadingNext, Unlinking}
use Rattle.epoch_structure_laws.specs.declared.map.plan.MapPhase.TheVariants.{Burying, Linking, Inserting, Marking}
use Rattle.epoch_structure_laws.specs.declared.map.plan.MapPhase.TheVariants.{Dropping, Removing, TakingBack, Answering}
use Rattle.epoch_structure_laws.specs.MapProgram.{node_key, plain, bucket_of, key_sought, again, start_map_work}
use Rattle.epoch_structure_laws.specs.MapProgram.{map_deed_of, map, MapStarts}
use Rattle.epoch_structure_laws.specs.MapEntries.{EntryHoldsValue}
use Rattle.epoch_structure_laws.proofs.MapChains.{In}
use Rattle.epoch_structure_laws.proofs.MapForm.{Buckets, InAny, Form, in_reach, reached_in, bucket_kept}

-- what holds of the map between any two steps, with what has happened so far
pub record Shape (past : Past) (h : Heap) (xs : Buckets) : Type 0 where
  pub form : Form h xs
  pub known : (n : Name) → InAny n xs → past.reached n × (¬ (past.left n))
  -- what was in reach and has no mark is in a bucket: so an exchange that expects none changes no node out of reach
  pub live : (n : Name) (next : Option Name) → past.reached n → pointer_at h (Field n 0) ≡ Some (plain next)
      → InAny n xs

-- WHAT IS KNOWN OF NODES

-- an own node that holds this entry and was never in reach
abbrev pub Mine : Past → Heap → Name → ℕ → Type 0
Mine past h n e = (¬ (past.reached n)) × (¬ (past.left n)) × IsGiven h n × EntryHoldsValue h n e

abbrev pub MineFor : Past → Heap → Aim → Type 0
MineFor past h (ToInsert b e own) = Mine past h own e
MineFor past h _ = Unit {0}

-- in no bucket, its removal not yet deferred
abbrev pub Off : Past → Heap → Buckets → Name → Type 0
Off past h xs n = (¬ (InAny n xs)) × (¬ (past.left n)) × IsGiven h n

-- once in reach, and in no bucket but this one
abbrev pub Node : Past → Buckets → ℕ → Name → Type 0
Node past xs b n = past.reached n × ((i : ℕ) → In n (xs i) → i ≡ b)

-- its entry is this one, until its removal is deferred
abbrev pub Worth : Past → Heap → Name → ℕ → Type 0
Worth past h n v = ¬ (past.left n) → EntryHoldsValue h n v

-- the link is this bucket's root, or the field of a node of a lower key
abbrev pub Below : Past → Heap → Buckets → ℕ → ℕ → Spot → Type 0
Below past h xs b key (Root i) = i ≡ b
Below past h xs b key (Field y zero) = Node past xs b y × ((v : ℕ) × Worth past h y v × (node_key v < key))
Below past h xs b key (Field y (suc f)) = ⊥

-- the key of what the link leads to is higher
abbrev pub Above : Past → Heap → ℕ → Option Name → Type 0
Above past h key None = Unit {0}
Above past h key (Some m) = (w : ℕ) × Worth past h m w × (key < node_key w)

-- its field has a mark and leads there, as long as it has a cell
abbrev pub Marked : Heap → Name → Option Name → Type 0
Marked h c next = (ptr : Ptr) → pointer_at h (Field c 0) ≡ Some ptr → (ptr.name ≡ next) × (ptr.tag ≢ 0)

-- a walk for this knows the link that it is at
abbrev pub At : Past → Heap → Buckets → Aim → Spot → Type 0
At past h xs aim link = MineFor past h aim × Below past h xs (bucket_of aim) (key_sought aim) link

-- what is known in each phase
abbrev pub Stands : Past → Heap → Buckets → MapPhase → Type 0
Stands past h xs (LoadingFirst aim k) = MineFor past h aim
Stands past h xs (Reading aim link c k) = At past h xs aim link × Node past xs (bucket_of aim) c
Stands past h xs (Leaving aim link c v k) =
    At past h xs aim link × Node past xs (bucket_of aim) c × Worth past h c v
Stands past h xs (LoadingNext aim link c v k) =
    At past h xs aim link × Node past xs (bucket_of aim) c × Worth past h c v × (node_key v ≤ key_sought aim)
Stands past h xs (Unlinking aim link c next k) = At past h xs aim link × past.reached c × Marked h c next
Stands past h xs (Burying aim c k) = MineFor past h aim × Off past h xs c × past.reached c
Stands past h xs (Linking b e own link next k) =
    Mine past h own e × Below past h xs b (node_key e) link × Above past h (node_key e) next
Stands past h xs (Inserting b e own link next k) =
    Mine past h own e × Below past h xs b (node_key e) link × Above past h (node_key e) next
    × (pointer_at h (Field own 0) ≡ Some (plain next))
Stands past h xs (Marking b key link c v next k) =
    Below past h xs b key link × Node past xs b c × Worth past h c v × (node_key v ≡ key)
Stands past h xs (Dropping b key link c v next) = Below past h xs b key link × past.reached c × Marked h c next
Stands past h xs (Removing c v) = Off past h xs c
Stands past h xs (TakingBack own answer) = Off past h xs own
Stands past h xs _ = Unit {0}

-- a walk owns its own node
abbrev pub OwnsFor : Aim → Name → Type 0
OwnsFor (ToInsert b e own) x = x ≡ own
OwnsFor _ x = ⊥

-- each phase owns its own node, and the one that it has unlinked
abbrev pub Owns : MapPhase → Name → Type 0
Owns (LoadingFirst aim k) x = OwnsFor aim x
Owns (Reading aim link c k) x = OwnsFor aim x
Owns (Leaving aim link c v k) x = OwnsFor aim x
Owns (LoadingNext aim link c v k) x = OwnsFor aim x
Owns (Unlinking aim link c next k) x = OwnsFor aim x
Owns (Burying aim c k) x = OwnsFor aim x ⊎ (x ≡ c)
Owns (Linking b e own link next k) x = x ≡ own
Owns (Inserting b e own link next k) x = x ≡ own
Owns (Removing c v) x = x ≡ c
Owns (TakingBack own answer) x = x ≡ own
Owns _ x = ⊥

abbrev pub structure : Structure map
structure = record {
  Ghost = Buckets;
  Shape = Shape;
  Owns = Owns;
  Stands = Stands;
  Common = λ past h xs n. InAny n xs;
}

-- SANITY

abbrev Safe : Past → Heap → Name → Type 0
Safe past h n = (¬ (past.left n)) × IsGiven h n

mine_safe : (past : Past) (h : Heap) (n x : Name) (e : ℕ) → x ≡ n → Mine past h n e → Safe past h x
mine_safe past h n x e is m = subst (Safe past h) (sym is) (m.1, m.2)

aim_safe : (past : Past) (h : Heap) (aim : Aim) (x : Name) → MineFor past h aim → OwnsFor aim x → Safe past h x
aim_safe past h (ToInsert b e own) x m is = mine_safe past h own x e is m
aim_safe past h (ToRemove b key) x m is = absurd is
aim_safe past h (ToGet b key) x m is = absurd is

off_safe : (past : Past) (h : Heap) (xs : Buckets) (n x : Name) → x ≡ n → Off past h xs n → Safe past h x
off_safe past h xs n x is o = subst (Safe past h) (sym is) (o.1, o.2)

-- what a phase owns was given and has not left
owned : (past : Past) (h : Heap) (xs : Buckets) (phase : MapPhase) (x : Name) → Stands past h xs phase → Owns phase x
    → Safe past h x
owned past h xs (LoadingFirst aim k) x s o = aim_safe past h aim x s o
owned past h xs (Reading aim link c k) x s o = aim_safe past h aim x s.0.0 o
owned past h xs (Leaving aim link c v k) x s o = aim_safe past h aim x s.0.0 o
owned past h xs (LoadingNext aim link c v k) x s o = aim_safe past h aim x s.0.0 o
owned past h xs (Unlinking aim link c next k) x s o = aim_safe past h aim x s.0.0 o
owned past h xs (Burying aim c k) x s o =
    elim o [ inl own ↦ aim_safe past h aim x s.0 own | inr e ↦ off_safe past h xs c x e s.1 ]
owned past h xs (Linking b e own link next k) x s o = mine_safe past h own x e o s.0
owned past h xs (Inserting b e own link next k) x s o = mine_safe past h own x e o s.0
owned past h xs (Removing c v) x s o = off_safe past h xs c x o s
owned past h xs (TakingBack own answer) x s o = off_safe past h xs own x o s
owned past h xs _ x s o = absurd o

module _ (past : Past) (h : Heap) (xs : Buckets) (shape : Shape past h xs) where
  -- a node that a call has not linked yet is in no bucket
  pub mine_off : (n : Name) (e : ℕ) → Mine past h n e → Off past h xs n
  mine_off n e m = (λ there. m.0 (shape.known n there).0, m.1, m.2)

  off_not : (n x : Name) → InAny x xs → x ≡ n → ¬ (Off past h xs n)
  off_not n x there e o = o.0 (subst (λ k. InAny k xs) e there)

  aim_not : (aim : Aim) (x : Name) → InAny x xs → MineFor past h aim → ¬ (OwnsFor aim x)
  aim_not (ToInsert b e own) x there m is = off_not own x there is (mine_off own e m)
  aim_not (ToRemove b key) x there m is = is
  aim_not (ToGet b key) x there m is = is

  -- no phase owns a node that is in a bucket
  pub unshared : (x : Name) → InAny x xs → (phase : MapPhase) → Stands past h xs phase → ¬ (Owns phase x)
  unshared x there (LoadingFirst aim k) s o = aim_not aim x there s o
  unshared x there (Reading aim link c k) s o = aim_not aim x there s.0.0 o
  unshared x there (Leaving aim link c v k) s o = aim_not aim x there s.0.0 o
  unshared x there (LoadingNext aim link c v k) s o = aim_not aim x there s.0.0 o
  unshared x there (Unlinking aim link c next k) s o = aim_not aim x there s.0.0 o
  unshared x there (Burying aim c k) s o =
      elim o [ inl own ↦ aim_not aim x there s.0 own | inr e ↦ off_not c x there e s.1 ]
  unshared x there (Linking b e own link next k) s o = off_not own x there o (mine_off own e s.0)
  unshared x there (Inserting b e own link next k) s o = off_not own x there o (mine_off own e s.0)
  unshared x there (Removing c v) s o = off_not c x there o s
  unshared x there (TakingBack own answer) s o = off_not own x there o s
  unshared x there _ s o = o

-- a node that a phase owns has not left, and neither has a node of a bucket, which no phase owns
pub sane : Sane map structure
sane = record {
  owned = owned;
  common = λ past h xs n shape there. ((shape.known n there).1, unshared past h xs shape n there);
}

-- WHAT THE STEPS OF OTHERS LEAVE

-- A step: hit is the actor's own node, the field of which it may write and which it may bring into a bucket.
pub record Turn (past : Past) (h h' : Heap) (xs xs' : Buckets) (hit : Option Name) : Type 0 where
  pub own : (n : Name) (ptr : Ptr) → ¬ (past.reached n) → ¬ (past.left n) → hit ≢ Some n
      → pointer_at h (Field n 0) ≡ Some ptr → pointer_at h' (Field n 0) ≡ Some ptr
  -- a field that has a mark stays
  pub back : (n : Name) (ptr : Ptr) → past.reached n → pointer_at h' (Field n 0) ≡ Some ptr
      → (pointer_at h (Field n 0) ≡ Some ptr)
      ⊎ ((next : Option Name) × (pointer_at h (Field n 0) ≡ Some (plain next)))
  pub inside : (i : ℕ) (n : Name) → In n (xs' i) → In n (xs i) ⊎ (hit ≡ Some n)
  pub new : (n : Name) → hit ≡ Some n → ¬ (past.reached n)
  pub reach : (n : Name) → IsReachable h' n → IsReachable h n ⊎ (hit ≡ Some n)
  pub given : (n : Name) → IsGiven h n → IsGiven h' n
  pub worth : (n : Name) (v : ℕ) → ¬ (past.left n) → EntryHoldsValue h n v → EntryHoldsValue h' n v

module _ (past past' : Past) (h h' : Heap) (xs xs' : Buckets) (hit gone : Option Name) (settled : Settled past h)
    (turn : Turn past h h' xs xs' hit) (passed : Passed past past' h' gone) where
  stays_here : (n : Name) → gone ≢ Some n → ¬ (past.left n) → ¬ (past'.left n)
  stays_here n stays l left = elim (passed.left n left) [ inl was ↦ l was | inr e ↦ stays e ]

  -- an own node stays the caller's, unless this step puts it into a bucket or defers its removal
  pub mine_kept : (n : Name) (e : ℕ) → hit ≢ Some n → gone ≢ Some n → Mine past h n e → Mine past' h' n e
  mine_kept n e off stays m = (
    λ r. elim (passed.reached n r) [
      | inl was ↦ m.0 was
      | inr there ↦ elim (turn.reach n there) [ inl was ↦ m.0 (settled.seen n was) | inr e ↦ off e ]
    ],
    stays_here n stays m.1,
    turn.given n m.2,
    turn.worth n e m.1 m.3,
  )

  -- the steps of others leave the own node of an insert
  pub aim_kept : (aim : Aim) → ((n : Name) → OwnsFor aim n → (hit ≢ Some n) × (gone ≢ Some n)) → MineFor past h aim
      → MineFor past' h' aim
  aim_kept (ToInsert b e own) off m = mine_kept own e (off own refl).0 (off own refl).1 m
  aim_kept (ToRemove b key) off m = tt
  aim_kept (ToGet b key) off m = tt

  -- and leave a node out that is in no bucket
  pub off_kept : (n : Name) → hit ≢ Some n → gone ≢ Some n → Off past h xs n → Off past' h' xs' n
  off_kept n off stays o = (
    λ is. elim (turn.inside is.0 n is.1) [ inl was ↦ o.0 (is.0, was) | inr e ↦ off e ],
    stays_here n stays o.1,
    turn.given n o.2,
  )

  -- a node that was once in reach, and is in no bucket but this one, stays so
  pub node_kept : (b : ℕ) (n : Name) → Node past xs b n → Node past' xs' b n
  node_kept b n s = (
    passed.more n s.0,
    λ i is. elim (turn.inside i n is) [ inl was ↦ s.1 i was | inr e ↦ absurd (turn.new n e s.0) ],
  )

  -- a node's entry stays
  pub worth_kept : (n : Name) (v : ℕ) → Worth past h n v → Worth past' h' n v
  worth_kept n v w off =
      let before : ¬ (past.left n) = λ l. off (passed.left_more n l) in turn.worth n v before (w before)

  -- a link below the key that is sought stays one below it
  pub below_kept : (b key : ℕ) (link : Spot) → Below past h xs b key link → Below past' h' xs' b key link
  below_kept b key (Root i) s = s
  below_kept b key (Field y zero) s = (node_kept b y s.0, (s.1.0, worth_kept y s.1.0 s.1.1, s.1.2))
  below_kept b key (Field y (suc f)) s = absurd s

  -- and what was above the key stays above it
  pub above_kept : (key : ℕ) (next : Option Name) → Above past h key next → Above past' h' key next
  above_kept key None s = tt
  above_kept key (Some m) s = (s.0, worth_kept m s.0 s.1, s.2)

  -- a node that is marked stays marked, with the same next node
  pub marked_kept : (c : Name) (next : Option Name) → past.reached c → Marked h c next → Marked h' c next
  marked_kept c next r m ptr e = elim (turn.back c ptr r e) [
    | inl was ↦ m ptr was
    | inr none ↦ absurd ((m (plain none.0) none.1).1 refl)
  ]

  at_kept : (aim : Aim) (link : Spot) → ((n : Name) → OwnsFor aim n → (hit ≢ Some n) × (gone ≢ Some n))
      → At past h xs aim link → At past' h' xs' aim link
  at_kept aim link off s = (aim_kept aim off s.0, below_kept (bucket_of aim) (key_sought aim) link s.1)

  -- whatever is known in a phase stays known
  pub stands_kept : (phase : MapPhase) → ((n : Name) → Owns phase n → (hit ≢ Some n) × (gone ≢ Some n))
      → Stands past h xs phase → Stands past' h' xs' phase
  stands_kept (LoadingFirst aim k) off s = aim_kept aim off s
  stands_kept (Reading aim link c k) off s = (at_kept aim link off s.0, node_kept (bucket_of aim) c s.1)
  stands_kept (Leaving aim link c v k) off s =
      (at_kept aim link off s.0, node_kept (bucket_of aim) c s.1, worth_kept c v s.2)
  stands_kept (LoadingNext aim link c v k) off s =
      (at_kept aim link off s.0, node_kept (bucket_of aim) c s.1, worth_kept c v s.2, s.3)
  stands_kept (Unlinking aim link c next k) off s =
      (at_kept aim link off s.0, passed.more c s.1, marked_kept c next s.1 s.2)
  stands_kept (Burying aim c k) off s = (
    aim_kept aim (λ n o. off n (inl o)) s.0,
    off_kept c (off c (inr refl)).0 (off c (inr refl)).1 s.1,
    passed.more c s.2,
  )
  stands_kept (Linking b e own link next k) off s = (
    mine_kept own e (off own refl).0 (off own refl).1 s.0,
    below_kept b (node_key e) link s.1,
    above_kept (node_key e) next s.2,
  )
  stands_kept (Inserting b e own link next k) off s = (
    mine_kept own e (off own refl).0 (off own refl).1 s.0,
    below_kept b (node_key e) link s.1,
    above_kept (node_key e) next s.2,
    turn.own own (plain next) s.0.0 s.0.1 (off own refl).0 s.3,
  )
  stands_kept (Marking b key link c v next k) off s =
      (below_kept b key link s.0, node_kept b c s.1, worth_kept c v s.2, s.3)
  stands_kept (Dropping b key link c v next) off s =
      (below_kept b key link s.0, passed.more c s.1, marked_kept c next s.1 s.2)
  stands_kept (Removing c v) off s = off_kept c (off c refl).0 (off c refl).1 s
  stands_kept (TakingBack own answer) off s = off_kept own (off own refl).0 (off own refl).1 s
  stands_kept (MakingRoom work) off s = tt
  stands_kept (Placing b e k) off s = tt
  stands_kept (Answering a) off s = tt

  -- the map then, by how it stands in the cells
  pub shape_after : Form h' xs' → ((n : Name) → past'.left n → ¬ (IsReachable h' n))
      → ((n : Name) (next : Option Name) → past.reached n → pointer_at h' (Field n 0) ≡ Some (plain next) → InAny n xs')
      → Shape past' h' xs'
  shape_after form out live = record {
    form = form;
    known = λ n there. let r = in_reach h' xs' form n there in (passed.come n r, λ l. out n l r);
    live = λ n next r e. elim (passed.reached n r) [
      | inl was ↦ live n next was e
      | inr reach ↦ reached_in h' xs' form n reach
    ];
  }

-- A CALM STEP

module _ (past : Past) (h h' : Heap) (xs : Buckets) (settled : Settled past h) (calm : Calm past.left h h')
    (shape : Shape past h xs) where
  calm_worth : (n : Name) (v : ℕ) → ¬ (past.left n) → EntryHoldsValue h n v → EntryHoldsValue h' n v
  calm_worth n v l w = let kept = calm.kept n w.0 w.1 l w.2 w.3 in (kept.0, w.1, kept.1, kept.2, w.4)

  -- a step that changes nothing that stands leaves the map as it is
  pub calm_form : Form h' xs
  calm_form = record {
    held = λ i. bucket_kept h h' i (xs i) (ap (λ (rs : List Ptr). slice_get rs i) calm.roots)
        (λ n ptr there e. calm_pointer past.left h h' calm n 0 ptr (shape.known n (i, there)).1 e)
        (λ n v there w. calm_worth n v (shape.known n (i, there)).1 w) (shape.form.held i);
    sorted = shape.form.sorted;
    apart = shape.form.apart;
    single = λ y f x leads. shape.form.single y f x (calm.fewer (Field y (suc f)) x leads);
    marks = subst (λ (a : ℕ). 2 ≤ a) (sym calm.align) shape.form.marks;
  }

  -- a pointer found in a cell once in reach stood there before
  was : (n : Name) (ptr : Ptr) → past.reached n → pointer_at h' (Field n 0) ≡ Some ptr
      → pointer_at h (Field n 0) ≡ Some ptr
  was n ptr r e = calm.back n 0 ptr (settled.reached_given n r) e

  -- a calm step leaves each bucket as it was
  pub calm_turn : Turn past h h' xs xs None
  calm_turn = record {
    own = λ n ptr r l off e. calm_pointer past.left h h' calm n 0 ptr l e;
    back = λ n ptr r e. inl (was n ptr r e);
    inside = λ i n there. inl there;
    new = λ n e. absurd (cc (e));
    reach = λ n r. inl (fewer_reach h h' calm.fewer n r);
    given = calm.given;
    worth = calm_worth;
  }

  -- and a node in reach that is not marked is in some bucket
  pub calm_live : (n : Name) (next : Option Name) → past.reached n → pointer_at h' (Field n 0) ≡ Some (plain next)
      → InAny n xs
  calm_live n next r e = shape.live n next r (was n (plain next) r e)

-- so does it leave what each phase knows
pub calm_kept : (past past' : Past) (h h' : Heap) (xs : Buckets) (gone : Option Name) → Settled past h
    → Calm past.left h h' → Passed past past' h' gone → ((n : Name) → past'.left n → ¬ (IsReachable h' n))
    → Shape past h xs
    → Shape past' h' xs × ((phase : MapPhase) → ((n : Name) → Owns phase n → gone ≢ Some n)
    → Stands past h xs phase → Stands past' h' xs phase)
calm_kept past past' h h' xs gone settled calm passed out shape = (
  shape_after past past' h h' xs xs None gone settled (calm_turn past h h' xs settled calm shape) passed
      (calm_form past h h' xs settled calm shape) out (calm_live past h h' xs settled calm shape),
  λ phase off s. stands_kept past past' h h' xs xs None gone settled (calm_turn past h h' xs settled calm shape) passed
      phase (λ n o. (λ e. cc (e), off n o)) s,
)

-- WHAT IS REFUSED, A CALL'S BEGIN AND END

-- a phase that knows and owns nothing says no more than any other
weaker_none : (a b : MapPhase) → ((past : Past) (h : Heap) (xs : Buckets) → Stands past h xs b)
    → ((n : Name) → ¬ (Owns b n)) → Weaker map structure a b
weaker_none a b stands owns = record { stands = λ past h xs shape s. stands past h xs; owns = λ n o. absurd (owns n o) }

-- a walk that begins again knows and owns what it did
pub once_more : (a : MapPhase) (aim : Aim) (k : ℕ)
    → ((past : Past) (h : Heap) (xs : Buckets) → Stands past h xs a → MineFor past h aim)
    → ((n : Name) → OwnsFor aim n → Owns a n) → Weaker map structure a (again aim k)
once_more a (ToInsert b e own) zero mine owns =
    record { stands = λ past h xs shape s. mine_off past h xs shape own e (mine past h xs s); owns = owns }
once_more a (ToRemove b key) zero mine owns = weaker_none a _ (λ past h xs. tt) (λ n o. o)
once_more a (ToGet b key) zero mine owns = weaker_none a _ (λ past h xs. tt) (λ n o. o)
once_more a aim (suc k) mine owns = record { stands = λ past h xs shape s. mine past h xs s; owns = owns }

-- what a phase knows when its call is refused is no more than before
pub refused : (g : ℕ) (phase : MapPhase) (f : Fault)
    → Weaker map structure phase (after_by phase (map_deed_of g phase) (Refused f))
refused g (LoadingFirst aim k) f = once_more (LoadingFirst aim k) aim k (λ past h xs s. s) (λ n o. o)
refused g (Reading aim link c k) f = once_more (Reading aim link c k) aim k (λ past h xs s. s.0.0) (λ n o. o)
refused g (Leaving aim link c v k) f = once_more (Leaving aim link c v k) aim k (λ past h xs s. s.0.0) (λ n o. o)
refused g (LoadingNext aim link c v k) f =
    once_more (LoadingNext aim link c v k) aim k (λ past h xs s. s.0.0) (λ n o. o)
refused g (Unlinking aim link c next k) f =
    once_more (Unlinking aim link c next k) aim k (λ past h xs s. s.0.0) (λ n o. o)
refused g (Linking b e own link next k) f =
    once_more (Linking b e own link next k) (ToInsert b e own) k (λ past h xs s. s.0) (λ n o. o)
refused g (Inserting b e own link next k) f =
    once_more (Inserting b e own link next k) (ToInsert b e own) k (λ past h xs s. s.0) (λ n o. o)
refused g (Marking b key link c v next k) f =
    once_more (Marking b key link c v next k) (ToRemove b key) k (λ past h xs s. tt) (λ n o. o)
refused g (Answering a) f = record { stands = λ past h xs shape s. s; owns = λ n o. o }
refused g _ f = weaker_none _ _ (λ past h xs. tt) (λ n o. o)

begins : (a : MapPhase) (work : MapWork) → Weaker map structure a (start_map_work work)
begins a (Insert b e k) = weaker_none a (Placing b e k) (λ past h xs. tt) (λ n o. o)
begins a (Remove b key k) = once_more a (ToRemove b key) k (λ past h xs s. tt) (λ n o. absurd o)
begins a (Get b key k) = once_more a (ToGet b key) k (λ past h xs s. tt) (λ n o. absurd o)

-- and so it is behind a flush
pub flushed : (g : ℕ) (phase : MapPhase) (r : Reply) → IsFlush (map_deed_of g phase)
    → Weaker map structure phase (after_by phase (map_deed_of g phase) r)
flushed g (MakingRoom work) (Done a) is = begins _ work
flushed g (MakingRoom work) _ is = weaker_none _ _ (λ past h xs. tt) (λ n o. o)
flushed g _ r is = absurd is

-- a first phase owns no node, and stands whatever the map is
pub starts : (phase : MapPhase) → MapStarts phase → ((n : Name) → ¬ (Owns phase n))
    × ((past : Past) (h : Heap) (xs : Buckets) → Shape past h xs → Stands past h xs phase)
starts (MakingRoom work) is = (λ n o. o, λ past h xs shape. tt)
starts (Placing b e k) is = (λ n o. o, λ past h xs shape. tt)
starts (LoadingFirst (ToRemove b key) k) is = (λ n o. o, λ past h xs shape. tt)
starts (LoadingFirst (ToGet b key) k) is = (λ n o. o, λ past h xs shape. tt)
starts (Answering a) is = (λ n o. o, λ past h xs shape. tt)
starts _ is = absurd is

-- a phase that answers owns no node
pub answers : (g : ℕ) (phase : MapPhase) → IsOver (map_deed_of g phase) → (n : Name) → ¬ (Owns phase n)
answers g (Answering a) is n o = o
answers g _ is n o = absurd is

-- each call of a phase is one that programs of phases may make
pub fits : (g : ℕ) (phase : MapPhase) → IsFit (map_deed_of g phase)
fits g (MakingRoom work) = tt
fits g (Burying aim c k) = tt
fits g (Removing c v) = tt
fits g (TakingBack own answer) = tt
fits g (Answering a) = tt
fits g _ = (tt, refl)

-- A REMOVAL

not_in_reach : (past : Past) (h : Heap) (xs : Buckets) → Shape past h xs → (n : Name) → Off past h xs n
    → ¬ (IsReachable h n)
not_in_reach past h xs shape n off r = off.0 (reached_in h xs shape.form n r)

-- the own node of a walk is not the one that it has unlinked
own_other : (past : Past) (h : Heap) (aim : Aim) (c m : Name) → MineFor past h aim → past.reached c → OwnsFor aim m
    → m ≢ c
own_other past h (ToInsert b e own) c m mine r o is =
    mine.0 (subst (λ k. past.reached k) (sym is ∙ o) r)
own_other past h (ToRemove b key) c m mine r o is = o
own_other past h (ToGet b key) c m mine r o is = o

again_owns : (aim : Aim) (k : ℕ) (m : Name) → Owns (again aim k) m → OwnsFor aim m
again_owns (ToInsert b e own) zero m o = o
again_owns (ToRemove b key) zero m o = o
again_owns (ToGet b key) zero m o = o
again_owns aim (suc k) m o = o

-- whoever has unlinked another's marked node defers its removal, and begins again
buries : (aim : Aim) (c : Name) (k : ℕ) → HandsOver map structure (Burying aim c k) (again aim k) c
buries aim c k = record {
  own = inr refl;
  fewer = λ m o. inl (again_owns aim k m o);
  known = λ past h xs shape s. (
    not_in_reach past h xs shape c s.1,
    (once_more (Burying aim c k) aim k (λ past h xs s. s.0) (λ n o. inl o)).stands past h xs shape s,
    λ m o. own_other past h aim c m s.0 s.2 (again_owns aim k m o),
  );
}

-- and else the call answers then
hands_over : (phase : MapPhase) (n : Name) (a : MapAnswer) → Owns phase n
    → ((past : Past) (h : Heap) (xs : Buckets) → Stands past h xs phase → Off past h xs n)
    → HandsOver map structure phase (Answering a) n
hands_over phase n a own off = record {
  own = own;
  fewer = λ x o. absurd o;
  known = λ past h xs shape s. (not_in_reach past h xs shape n (off past h xs s), tt, λ x o. absurd o);
}

-- a phase that defers a removal owns the node, and hands it over
pub defers : (g : ℕ) (phase next failed : MapPhase) (n : Name) → map_deed_of g phase ≡ Defers n next failed
    → HandsOver map structure phase next n
defers g (Burying aim c k) next failed n is =
    let name : c ≡ n = cc (is) in
    let ends : again aim k ≡ next = cc (is) in
    subst (λ (f : MapPhase). HandsOver map structure (Burying aim c k) f n) ends
    (subst (λ (x : Name). HandsOver map structure (Burying aim c k) (again aim k) x) name (buries aim c k))
defers g (Removing c v) next failed n is =
    let name : c ≡ n = cc (is) in
    let ends : Answering (Removed v) ≡ next = cc (is) in
    subst (λ (f : MapPhase). HandsOver map structure (Removing c v) f n) ends
    (subst (λ (x : Name). HandsOver map structure (Removing c v) (Answering (Removed v)) x) name
    (hands_over (Removing c v) c (Removed v) refl (λ past h xs s. s)))
defers g (TakingBack own answer) next failed n is =
    let name : own ≡ n = cc (is) in
    let ends : Answering answer ≡ next = cc (is) in
    subst (λ (f : MapPhase). HandsOver map structure (TakingBack own answer) f n) ends
    (subst (λ (x : Name). HandsOver map structure (TakingBack own answer) (Answering answer) x) name
    (hands_over (TakingBack own answer) own answer refl (λ past h xs s. s)))
defers g _ next failed n is = absurd (cc (is))
