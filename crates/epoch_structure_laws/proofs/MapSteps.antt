-- What the steps of a map's calls that exchange nothing do to it.
use Rattle.std.proofs.Common.{◌≡◌, ◌≢◌, ◌≤◌, ◌<◌, ℕ, zero, suc, ◌-◌, Bool, true, false, Option, Some, None}
use Rattle.std.proofs.Common.{◌⊎◌, inl, inr, refl, ap, sym, subst, ◌∙◌, arith, slice_get, if◌then◌else◌, nat_lt}
use Rattle.std.proofs.lemmas.Bool.Decides.{nat_tests}
use Rattle.std.proofs.Math.Nat.{zero-mod}
use Rattle.epoch_cells.specs.PlainCells.{filled, readable}
use Rattle.epoch_cells.specs.declared.cells.name.Name.{Name}
use Rattle.epoch_cells.specs.declared.fault.Fault.TheVariants.{CellsFull}
use Rattle.epoch_laws.specs.declared.heap.access.Ptr.{Ptr}
use Rattle.epoch_laws.specs.declared.heap.access.Spot.{Spot}
use Rattle.epoch_laws.specs.declared.heap.access.Spot.TheVariants.{Root, Field}
use Rattle.epoch_laws.specs.declared.heap.access.Change.TheVariants.{Load, Store}
use Rattle.epoch_laws.specs.declared.heap.heap.Content.{Content}
use Rattle.epoch_laws.specs.Heap.{Cell, Heap, cell_at, nulls, with_cell_at, pointer_at, aligned, Touched}
use Rattle.epoch_laws.specs.Heap.{ChangesAt, Places, read_by, left_by, with_pointer}
use Rattle.epoch_laws.specs.Reach.{IsReachable, Past}
use Rattle.epoch_laws.proofs.TurnsGiven.{IsGiven, StaysGiven, place_gives}
use Rattle.epoch_laws.proofs.PointerSteps.{pointer_other}
use Rattle.epoch_structure_laws.proofs.Custody.{Passed, Calm, calm_same, Acts}
use Rattle.epoch_structure_laws.proofs.Obligations.{Weaker, Settled, after_touch}
use Rattle.epoch_structure_laws.proofs.Steps.{fewer_reach}
use Rattle.epoch_structure_laws.proofs.Cells.{cell_there, written_there}
use Rattle.epoch_structure_laws.specs.declared.map.plan.Aim.{Aim}
use Rattle.epoch_structure_laws.specs.declared.map.plan.Aim.TheVariants.{ToInsert, ToRemove, ToGet}
use Rattle.epoch_structure_laws.specs.declared.map.plan.MapAnswer.TheVariants.{CellsFull as CellsFullAnswer}
use Rattle.epoch_structure_laws.specs.declared.map.plan.MapPhase.{MapPhase}
use Rattle.epoch_structure_laws.specs.declared.map.plan.MapPhase.TheVariants.{Placing, LoadingFirst, Reading, Leaving}
use Rattle.epoch_structure_laws.specs.declared.map.plan.MapPhase.TheVariants.{LoadingNext}
use Rattle.epoch_structure_laws.specs.declared.map.plan.MapPhase.TheVariants.{Unlinking, Linking, Inserting, Answering}
use Rattle.epoch_structure_laws.specs.MapProgram.{node_key, plain, bucket_of, key_sought, again, absent, present, at}
use Rattle.epoch_structure_laws.specs.MapProgram.{to_look, looked_at, map_deed_of, map}
use Rattle.epoch_structure_laws.proofs.MapChains.{In, readable_held, value_written, follows_in}
use Rattle.epoch_structure_laws.proofs.MapLinks.{other_field}
use Rattle.epoch_structure_laws.proofs.MapForm.{Buckets, InAny, Form, in_reach, reached_in, root_in, bucket_kept}
use Rattle.epoch_structure_laws.proofs.MapForm.{single_kept, field_apart, align_kept}
use Rattle.epoch_structure_laws.proofs.MapKept.{Shape, Mine, MineFor, Node, Worth, Above, At, Stands, OwnsFor, Owns}
use Rattle.epoch_structure_laws.proofs.MapKept.{structure, sane, mine_off, Turn, stands_kept, below_kept, above_kept}
use Rattle.epoch_structure_laws.proofs.MapKept.{shape_after, calm_form, calm_turn, calm_live, refused}

-- a pointer without a mark is aligned
pub aligned_at : (h : Heap) (o : Option Name) → aligned h (plain o) ≡ plain o
aligned_at h o = λ i. record { name = o; tag = zero-mod h.align i }

module _ (past : Past) (h h' : Heap) (xs xs' : Buckets) (hit : Option Name) (settled : Settled past h)
    (shape : Shape past h xs) (turn : Turn past h h' xs xs' hit) (form : Form h' xs')
    (live : (n : Name) (next : Option Name) → past.reached n → pointer_at h' (Field n 0) ≡ Some (plain next)
    → InAny n xs')
    (phase next : MapPhase) (stands : Stands past h xs phase) (hits : (n : Name) → hit ≡ Some n → Owns phase n)
    (owns : (n : Name) → Owns next n → Owns phase n ⊎ InAny n xs ⊎ (¬ (IsGiven h n)))
    (own : (past' : Past) → Passed past past' h' None → Stands past' h' xs' next) where
  out : (past' : Past) → Passed past past' h' None → (n : Name) → past'.left n → ¬ (IsReachable h' n)
  out past' passed n l r = elim (passed.left n l) [
    | inr e ↦ cc (e)
    | inl was ↦ elim (turn.reach n r) [
      | inl before ↦ settled.left_out n was before
      | inr e ↦ (sane.owned past h xs phase n stands (hits n e)).0 was
    ]
  ]

  -- a step that keeps the others is one that the frame asks for
  pub turn_acts : Acts map structure past h h' xs (Some phase) (Some next)
  turn_acts = record {
    ghost' = xs';
    gone = None;
    reach = λ n r. elim (turn.reach n r) [ inl was ↦ inl was | inr e ↦ inr (hits n e) ];
    goes = λ n e. absurd (cc (e));
    owned = owns;
    given = turn.given;
    own = λ past' passed. (
      shape_after past past' h h' xs xs' hit None settled turn passed form (out past' passed) live,
      own past' passed,
    );
    other = λ past' passed f apart s. stands_kept past past' h h' xs xs' hit None settled turn passed f
        (λ n o. (λ e. apart n o (hits n e), λ e. cc (e))) s;
  }

-- what a walk owns that has ended for want of moves, or finds nothing, or goes on
pub again_owns : (aim : Aim) (k : ℕ) (n : Name) → Owns (again aim k) n → OwnsFor aim n
again_owns (ToInsert b e own) zero n o = o
again_owns (ToRemove b key) zero n o = o
again_owns (ToGet b key) zero n o = o
again_owns aim (suc k) n o = o

-- a call that finds no node of its key owns no more than before
pub absent_owns : (aim : Aim) (link : Spot) (o : Option Name) (k : ℕ) (n : Name) → Owns (absent aim link o k) n
    → OwnsFor aim n
absent_owns (ToInsert b e own) link o k n owns = owns
absent_owns (ToRemove b key) link o k n owns = absurd owns
absent_owns (ToGet b key) link o k n owns = absurd owns

-- and neither does one that goes on along its bucket
pub at_owns : (aim : Aim) (link : Spot) (o : Option Name) (k : ℕ) (n : Name) → Owns (at aim link o k) n → OwnsFor aim n
at_owns aim link None k n owns = absent_owns aim link None k n owns
at_owns aim link (Some c) zero n owns = again_owns aim 0 n owns
at_owns aim link (Some c) (suc k) n owns = owns

module _ (past : Past) (h : Heap) (xs : Buckets) (settled : Settled past h) (shape : Shape past h xs) where
  abbrev pub Goes : Heap → MapPhase → MapPhase → Type 1
  Goes h' phase next = Acts map structure past h h' xs (Some phase) (Some next)

  -- what a step shows; what was given stays so anyway
  abbrev pub Does : ℕ → MapPhase → Touched → Type 1
  Does g phase did =
      StaysGiven h did.heap → Goes did.heap phase (after_touch phase (map_deed_of g phase) did.told)

  -- a calm step, at which no more is known than before it
  pub calm_acts : (h' : Heap) → Calm past.left h h' → (phase next : MapPhase) → Stands past h xs phase
      → Stands past h xs next → ((n : Name) → Owns next n → Owns phase n ⊎ InAny n xs ⊎ (¬ (IsGiven h n)))
      → Goes h' phase next
  calm_acts h' calm phase next stands later owns =
      let turn = calm_turn past h h' xs settled calm shape in
      turn_acts past h h' xs xs None settled shape turn (calm_form past h h' xs settled calm shape)
      (calm_live past h h' xs settled calm shape) phase next stands (λ n e. absurd (cc (e))) owns
      (λ past' passed. stands_kept past past' h h' xs xs None None settled turn passed next
      (λ n o. (λ e. cc (e), λ e. cc (e))) later)

  -- a step that changes nothing
  pub still : (phase next : MapPhase) → Stands past h xs phase → Stands past h xs next
      → ((n : Name) → Owns next n → Owns phase n) → Goes h phase next
  still phase next stands later owns =
      calm_acts h (calm_same past.left h h refl) phase next stands later (λ n o. inl (owns n o))

  -- a calm step, after which less is known
  pub weak : (h' : Heap) → Calm past.left h h' → (phase next : MapPhase) → Weaker map structure phase next
      → Stands past h xs phase → Goes h' phase next
  weak h' calm phase next w stands =
      calm_acts h' calm phase next stands (w.stands past h xs shape stands) (λ n o. inl (w.owns n o))

  -- a step that changes nothing may leave a phase that knows less
  pub weak_here : (phase next : MapPhase) → Weaker map structure phase next → Stands past h xs phase → Goes h phase next
  weak_here phase next w stands = weak h (calm_same past.left h h refl) phase next w stands

  -- WHAT A WALK KNOWS

  out_stands : (aim : Aim) → MineFor past h aim → Stands past h xs (again aim 0)
  out_stands (ToInsert b e own) m = mine_off past h xs shape own e m
  out_stands (ToRemove b key) m = tt
  out_stands (ToGet b key) m = tt

  absent_stands : (aim : Aim) (link : Spot) (o : Option Name) (k : ℕ) → At past h xs aim link
      → Above past h (key_sought aim) o → Stands past h xs (absent aim link o k)
  absent_stands (ToInsert b e own) link o k s above = (s.0, s.1, above)
  absent_stands (ToRemove b key) link o k s above = tt
  absent_stands (ToGet b key) link o k s above = tt

  at_stands : (aim : Aim) (link : Spot) (o : Option Name) (k : ℕ) → At past h xs aim link
      → ((c : Name) → o ≡ Some c → Node past xs (bucket_of aim) c) → Stands past h xs (at aim link o k)
  at_stands aim link None k s node = absent_stands aim link None k s tt
  at_stands aim link (Some c) zero s node = out_stands aim s.0
  at_stands aim link (Some c) (suc k) s node = (s, node c refl)

  -- a node of a bucket is in no other
  node_in : (b : ℕ) (c : Name) → In c (xs b) → Node past xs b c
  node_in b c there = ((shape.known c (b, there)).0, λ i is. shape.form.apart i b c is there)

  -- a node of this bucket whose field has no mark is in it
  pub unmarked_in : (b : ℕ) (c : Name) (next : Option Name) → Node past xs b c
      → pointer_at h (Field c 0) ≡ Some (plain next) → In c (xs b)
  unmarked_in b c next node there =
      let is = shape.live c next node.0 there in subst (λ k. In c (xs k)) (node.1 is.0 is.1) is.1

  -- LOADS

  -- the load of a root learns the first node of the bucket
  pub load_first : (g : ℕ) (aim : Aim) (k j : ℕ) (found : Ptr) (did : Touched) (o : Option Ptr)
      → pointer_at h (Root (bucket_of aim)) ≡ o → ChangesAt Load j found (Root (bucket_of aim)) h o did
      → MineFor past h aim → Does g (LoadingFirst aim k) did
  load_first g aim k j found did None e is s =
      subst (Does g (LoadingFirst aim k)) (sym is) (λ given. weak_here _ _ (refused g (LoadingFirst aim k) CellsFull) s)
  load_first g aim k j found did (Some ptr) e is s =
      subst (Does g (LoadingFirst aim k)) (sym is) (λ given.
      still (LoadingFirst aim k) (at aim (Root (bucket_of aim)) ptr.name k) s
      (at_stands aim (Root (bucket_of aim)) ptr.name k (s, refl)
      (λ c name. node_in (bucket_of aim) c (root_in h xs shape.form (bucket_of aim) ptr c e name)))
      (λ n o. at_owns aim (Root (bucket_of aim)) ptr.name k n o))

  -- the load of a link learns the next node, and whether its own is marked
  pub load_next : (g : ℕ) (aim : Aim) (link : Spot) (c : Name) (v k j : ℕ) (found : Ptr) (did : Touched)
      (o : Option Ptr) → pointer_at h (Field c 0) ≡ o → ChangesAt Load j found (Field c 0) h o did
      → Stands past h xs (LoadingNext aim link c v k) → Does g (LoadingNext aim link c v k) did
  load_next g aim link c v k j found did None e is s =
      subst (Does g (LoadingNext aim link c v k)) (sym is)
      (λ given. weak_here _ _ (refused g (LoadingNext aim link c v k) CellsFull) s)
  load_next g aim link c v k j found did (Some ptr) e is s =
      subst (Does g (LoadingNext aim link c v k)) (sym is) (λ given. by_tag ptr.tag refl)
    where
      phase : MapPhase
      phase = LoadingNext aim link c v k

      there : ptr.tag ≡ 0 → pointer_at h (Field c 0) ≡ Some (plain ptr.name)
      there none = e ∙ ap Some (λ i. record { name = ptr.name; tag = none i })

      -- where there is no mark, the next node is in the bucket too
      next_node : ptr.tag ≡ 0 → (m : Name) → ptr.name ≡ Some m → Node past xs (bucket_of aim) m
      next_node none m name =
          let bucket = shape.form.held (bucket_of aim) in
          node_in (bucket_of aim) m (follows_in h bucket.0 (xs (bucket_of aim)) c m ptr bucket.2
          (unmarked_in (bucket_of aim) c ptr.name s.1 (there none)) e name)

      here : (aim' : Aim) → aim' ≡ aim → node_key v ≡ key_sought aim
          → Goes h (LoadingNext aim link c v k) (present aim' link c v ptr.name k)
      here (ToInsert b w own) is same = still phase (present (ToInsert b w own) link c v ptr.name k) s
          (mine_off past h xs shape own w (subst (λ (a : Aim). MineFor past h a) (sym is) s.0.0))
          (λ n o. subst (λ (a : Aim). OwnsFor a n) is o)
      here (ToRemove b key) is same = still phase (present (ToRemove b key) link c v ptr.name k) s
          (subst (λ (a : Aim). At past h xs a link × Node past xs (bucket_of a) c × Worth past h c v
          × (node_key v ≡ key_sought a) → Stands past h xs (present (ToRemove b key) link c v ptr.name k)) is
          (λ s. (s.0.1, s.1, s.2, s.3)) (s.0, s.1, s.2, same)) (λ n o. absurd o)
      here (ToGet b key) is same = still phase (present (ToGet b key) link c v ptr.name k) s tt (λ n o. absurd o)

      by_test : (b : Bool) → nat_lt (node_key v) (key_sought aim) ≡ b → ptr.tag ≡ 0
          → Goes h (LoadingNext aim link c v k)
          (if b then at aim (Field c 0) ptr.name k else present aim link c v ptr.name k)
      by_test true test none =
          let lt : node_key v < key_sought aim = grind (arith, nat_tests) in
          still phase (at aim (Field c 0) ptr.name k) s
          (at_stands aim (Field c 0) ptr.name k (s.0.0, (s.1, (v, s.2, lt))) (next_node none))
          (λ n o. at_owns aim (Field c 0) ptr.name k n o)
      by_test false test none =
          let same : node_key v ≡ key_sought aim = grind (arith, nat_tests, s.3) in here aim refl same

      by_tag : (t : ℕ) → ptr.tag ≡ t → Goes h (LoadingNext aim link c v k) (looked_at aim link c v k ptr.name t)
      by_tag zero none = by_test (nat_lt (node_key v) (key_sought aim)) refl none
      by_tag (suc t) some =
          still phase (Unlinking aim link c ptr.name k) s (
            s.0,
            s.1.0,
            λ other there.
                let same : other ≡ ptr = cc (there, e) in (
                  ap (λ (p : Ptr). p.name) same,
                  λ none. cc (sym some ∙ sym (ap (λ (p : Ptr). p.tag) same) ∙ none),
                ),
          ) (λ n o. o)

  -- A READING

  -- the read of a node learns its entry
  pub read_entry : (g : ℕ) (aim : Aim) (link : Spot) (c : Name) (k : ℕ) (did : Touched) (o : Option Cell)
      (p : Option Content) → cell_at h c ≡ o → readable o ≡ p → did ≡ read_by h c o p
      → Stands past h xs (Reading aim link c k) → (StaysGiven h did.heap → Calm past.left h did.heap)
      → Does g (Reading aim link c k) did
  read_entry g aim link c k did None p at_c held is s calm given =
      weak did.heap (calm given) _ _ (subst (λ (d : Touched). Weaker map structure (Reading aim link c k)
      (after_touch (Reading aim link c k) (map_deed_of g (Reading aim link c k)) d.told)) (sym is)
      (refused g (Reading aim link c k) CellsFull)) s
  read_entry g aim link c k did (Some cell) None at_c held is s calm given =
      weak did.heap (calm given) _ _ (subst (λ (d : Touched). Weaker map structure (Reading aim link c k)
      (after_touch (Reading aim link c k) (map_deed_of g (Reading aim link c k)) d.told)) (sym is)
      (refused g (Reading aim link c k) CellsFull)) s
  read_entry g aim link c k did (Some cell) (Some content) at_c held is s calm given =
      subst (λ (d : Touched). Goes did.heap (Reading aim link c k) (after_touch (Reading aim link c k) (map_deed_of g
      (Reading aim link c k)) d.told)) (sym is) (calm_acts did.heap (calm given) (Reading aim link c k)
      (Leaving aim link c content.value k) s
      (s.0, s.1, λ l. (cell, content, at_c, readable_held cell content held, refl)) (λ n o. inl o))

  -- the end of that read keeps what was learnt
  pub leave_entry : (g : ℕ) (aim : Aim) (link : Spot) (c : Name) (v k : ℕ) (did : Touched) (o : Option Cell)
      → did ≡ left_by h c o → Stands past h xs (Leaving aim link c v k)
      → (StaysGiven h did.heap → Calm past.left h did.heap) → Does g (Leaving aim link c v k) did
  leave_entry g aim link c v k did o is s calm given =
      subst (λ (f : MapPhase). Goes did.heap (Leaving aim link c v k) f) (sym (told o is))
      (by_test (nat_lt (key_sought aim) (node_key v)) refl)
    where
      told : (o : Option Cell) → did ≡ left_by h c o
          → after_touch (Leaving aim link c v k) (map_deed_of g (Leaving aim link c v k)) did.told
          ≡ to_look aim link c v k
      told None is = ap (λ (d : Touched). after_touch (Leaving aim link c v k) (map_deed_of g (Leaving aim link c v k))
          d.told) is
      told (Some cell) is = ap (λ (d : Touched). after_touch (Leaving aim link c v k)
          (map_deed_of g (Leaving aim link c v k)) d.told) is

      by_test : (b : Bool) → nat_lt (key_sought aim) (node_key v) ≡ b → Goes did.heap (Leaving aim link c v k)
          (if b then absent aim link (Some c) k else LoadingNext aim link c v k)
      by_test true test =
          let lt : key_sought aim < node_key v = grind (arith, nat_tests) in
          calm_acts did.heap (calm given) (Leaving aim link c v k) (absent aim link (Some c) k) s
          (absent_stands aim link (Some c) k s.0 (v, s.2, lt))
          (λ n o. inl (absent_owns aim link (Some c) k n o))
      by_test false test =
          let le : node_key v ≤ key_sought aim = grind (arith, nat_tests) in
          calm_acts did.heap (calm given) (Leaving aim link c v k) (LoadingNext aim link c v k) s
          (s.0, s.1, s.2, le) (λ n o. inl o)

  -- A NODE IS PLACED

  module _ (g b e k : ℕ) (j : ℕ) (found : Ptr) (did : Touched) where
    abbrev content : Content
    content = record { value = e; fields = nulls 16 }

    abbrev new : Name → Heap
    new n = with_cell_at h n (filled n.turn 0 (record { value = e; fields = nulls 16 }))

    again_stands : (n : Name) (k : ℕ) (past' : Past) (h' : Heap) → Mine past' h' n e → (¬ (InAny n xs))
        → Stands past' h' xs (again (ToInsert b e n) k)
    again_stands n zero past' h' m out = (out, m.1, m.2)
    again_stands n (suc k) past' h' m out = m

    pub place : (o : Option Cell) → slice_get h.cells j ≡ o → Places e j found h o did
        → (StaysGiven h did.heap → Calm past.left h did.heap) → Does g (Placing b e k) did
    place None at_j is calm =
        subst (Does g (Placing b e k)) (sym is)
        (λ given. still (Placing b e k) (Answering CellsFullAnswer) tt tt (λ n o. o))
    place (Some cell) at_j (inr is) calm =
        subst (Does g (Placing b e k)) (sym is.1)
        (λ given. still (Placing b e k) (Placing b e k) tt tt (λ n o. o))
    place (Some cell) at_j (inl (free, n, slot, turn, is)) calm =
        subst (λ (d : Touched). (StaysGiven h d.heap → Calm past.left h d.heap) → Does g (Placing b e k) d) (sym is)
        (λ calm given. placed (calm given) given) calm
      where
        there : slice_get h.cells (n.slot - 1) ≡ Some cell
        there =
            let here : n.slot - 1 ≡ j = omega (arith, slot) in ap (λ (i : ℕ). slice_get h.cells i) here ∙ at_j

        fresh : ¬ (IsGiven h n)
        fresh = (place_gives e j found h (Some cell) at_j _ (inl (free, n, slot, turn, refl)) n refl).fresh

        is_given : IsGiven (new n) n
        is_given = (place_gives e j found h (Some cell) at_j _ (inl (free, n, slot, turn, refl)) n refl).given

        at_n : cell_at (new n) n ≡ Some (filled n.turn 0 (record { value = e; fields = nulls 16 }))
        at_n = cell_there h n cell (filled n.turn 0 (record { value = e; fields = nulls 16 })) content there refl refl

        out : ¬ (InAny n xs)
        out is = fresh (settled.reached_given n (shape.known n is).0)

        mine : Calm past.left h (new n) → (past' : Past) → Passed past past' (new n) None → Mine past' (new n) n e
        mine calm past' passed = (
          λ r. elim (passed.reached n r) [
            | inl was ↦ fresh (settled.reached_given n was)
            | inr at ↦ fresh (settled.reached_given n (settled.seen n (fewer_reach h (new n) calm.fewer n at)))
          ],
          λ l. elim (passed.left n l) [ inl was ↦ fresh (settled.left_given n was) | inr e ↦ cc (e) ],
          is_given,
          (filled n.turn 0 (record { value = e; fields = nulls 16 }), content, at_n, refl, refl),
        )

        placed : Calm past.left h (new n) → StaysGiven h (new n)
            → Goes (new n) (Placing b e k) (again (ToInsert b e n) k)
        placed calm given =
            turn_acts past h (new n) xs xs None settled shape (calm_turn past h (new n) xs settled calm shape)
            (calm_form past h (new n) xs settled calm shape) (calm_live past h (new n) xs settled calm shape)
            (Placing b e k) (again (ToInsert b e n) k) tt (λ m e. absurd (cc (e)))
            (λ m o. inr (inr (λ was. fresh (subst (IsGiven h) (again_owns (ToInsert b e n) k m o) was))))
            (λ past' passed. again_stands n k past' (new n) (mine calm past' passed) out)

  -- A NODE IS POINTED TO WHERE THE LINK LEADS

  module _ (b e : ℕ) (own : Name) (link : Spot) (next : Option Name) (k : ℕ)
      (s : Stands past h xs (Linking b e own link next k)) where
    abbrev pointed : Heap
    pointed = with_pointer h (Field own 0) (plain next)

    apart : (n : Name) → past.reached n → n ≢ own
    apart n r e = s.0.0 (subst (λ k. past.reached k) e r)

    field_kept : (n : Name) → past.reached n → pointer_at pointed (Field n 0) ≡ pointer_at h (Field n 0)
    field_kept n r = other_field h own (plain next) n (apart n r)

    pub pointed_form : Form pointed xs
    pointed_form = record {
      held = λ i. bucket_kept h pointed i (xs i)
          (pointer_other h (Field own 0) (plain next) (Root i) (λ e. cc (e)))
          (λ n ptr is e. field_kept n (shape.known n (i, is)).0 ∙ e)
          (λ n v is w. value_written h own (plain next) n v w) (shape.form.held i);
      sorted = shape.form.sorted;
      apart = shape.form.apart;
      single = single_kept h (Field own 0) (plain next) (field_apart own) shape.form.single;
      marks = subst (λ (a : ℕ). 2 ≤ a) (sym (align_kept h (Field own 0) (plain next))) shape.form.marks;
    }

    pointed_turn : StaysGiven h pointed → Turn past h pointed xs xs (Some own)
    pointed_turn given = record {
      own = λ n ptr r l off e. other_field h own (plain next) n (λ same. off (ap Some (sym same))) ∙ e;
      back = λ n ptr r e. inl (sym (field_kept n r) ∙ e);
      inside = λ i n is. inl is;
      new = λ n e r. apart n r (let same : own ≡ n = cc (e) in sym same);
      reach = λ n r. inl (in_reach h xs shape.form n (reached_in pointed xs pointed_form n r));
      given = given;
      worth = λ n v l w. value_written h own (plain next) n v w;
    }

    linked_acts : (ptr : Ptr) → pointer_at h (Field own 0) ≡ Some ptr → StaysGiven h pointed
        → Goes pointed (Linking b e own link next k) (Inserting b e own link next k)
    linked_acts ptr there given =
        let turn = pointed_turn given in
        turn_acts past h pointed xs xs (Some own) settled shape turn pointed_form
        (λ n after r e. shape.live n after r (sym (field_kept n r) ∙ e)) (Linking b e own link next k)
        (Inserting b e own link next k) s (λ n e. let same : own ≡ n = cc (e) in sym same) (λ n o. inl o)
        (λ past' passed. (
          (
            λ r. elim (passed.reached own r) [
              | inl was ↦ s.0.0 was
              | inr reach ↦ s.0.0 (shape.known own (reached_in pointed xs pointed_form own reach)).0
            ],
            λ l. elim (passed.left own l) [ inl was ↦ s.0.1 was | inr e ↦ cc (e) ],
            given own s.0.2,
            value_written h own (plain next) own e s.0.3,
          ),
          below_kept past past' h pointed xs xs (Some own) None settled turn passed b (node_key e) link s.1,
          above_kept past past' h pointed xs xs (Some own) None settled turn passed (node_key e) next s.2,
          written_there h (Field own 0) ptr (plain next) there,
        ))

    pub link_own : (g j : ℕ) (found : Ptr) (did : Touched) (o : Option Ptr) → pointer_at h (Field own 0) ≡ o
        → ChangesAt (Store (plain next)) j found (Field own 0) h o did → Does g (Linking b e own link next k) did
    link_own g j found did None there is =
        subst (Does g (Linking b e own link next k)) (sym is)
        (λ given. weak_here _ _ (refused g (Linking b e own link next k) CellsFull) s)
    link_own g j found did (Some ptr) there is =
        subst (Does g (Linking b e own link next k)) (sym is) (λ given.
        subst (λ (p : Ptr). StaysGiven h (with_pointer h (Field own 0) p)
        → Goes (with_pointer h (Field own 0) p) (Linking b e own link next k) (Inserting b e own link next k))
        (sym (aligned_at h next)) (linked_acts ptr there) given)
