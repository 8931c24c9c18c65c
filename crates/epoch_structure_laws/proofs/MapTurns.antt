-- What a step of a map's run makes of the entries that it holds.
use Rattle.std.proofs.Common.{◌≡◌, ◌≢◌, ◌<◌, ℕ, zero, suc, List, [], ◌∷◌, ◌++◌, Option, Some, None, true, ◌⊎◌, inl, inr}
use Rattle.std.proofs.Common.{refl, ap, sym, subst, ◌∙◌}
use Rattle.epoch_cells.specs.declared.cells.name.Name.{Name}
use Rattle.epoch_laws.specs.declared.heap.access.Access.TheVariants.{Place, Read, Leave}
use Rattle.epoch_laws.specs.declared.heap.access.Accessed.{Accessed}
use Rattle.epoch_laws.specs.declared.heap.access.Accessed.TheVariants.{Answers as Told}
use Rattle.epoch_laws.specs.declared.heap.access.AccessAnswer.{AccessAnswer}
use Rattle.epoch_laws.specs.declared.heap.access.AccessAnswer.TheVariants.{Absent, Exchanged, Pointer}
use Rattle.epoch_laws.specs.declared.heap.access.Change.TheVariants.{Load, Store, CompareExchange}
use Rattle.epoch_laws.specs.declared.heap.access.Ptr.{Ptr}
use Rattle.epoch_laws.specs.declared.heap.access.Spot.{Spot}
use Rattle.epoch_laws.specs.declared.heap.access.Spot.TheVariants.{Root, Field}
use Rattle.epoch_laws.specs.Heap.{Heap, pointer_at, Touched, ChangesAt, with_pointer}
use Rattle.epoch_laws.specs.declared.step.Entry.{Entry}
use Rattle.epoch_laws.specs.declared.step.Progress.TheVariants.{Ends}
use Rattle.epoch_laws.specs.declared.step.Reply.TheVariants.{Done}
use Rattle.epoch_laws.specs.Run.{State, WorldSeat, seat_of, TakesStep, progress_after}
use Rattle.epoch_laws.specs.Reach.{Past}
use Rattle.epoch_laws.proofs.TurnsGiven.{touches_given}
use Rattle.epoch_structure_laws.specs.declared.plan.Plan.TheVariants.{Under}
use Rattle.epoch_structure_laws.specs.Plans.{AllPlans}
use Rattle.epoch_structure_laws.proofs.Custody.{Calm, Sound, same_number}
use Rattle.epoch_structure_laws.proofs.Obligations.{Settled, TouchesBy}
use Rattle.epoch_structure_laws.proofs.Calls.{calm_call}
use Rattle.epoch_structure_laws.proofs.HeapTurns.{Touching, heap_turns, touched}
use Rattle.epoch_structure_laws.specs.declared.map.plan.MapPhase.{MapPhase}
use Rattle.epoch_structure_laws.specs.declared.map.plan.MapPhase.TheVariants.{MakingRoom, Placing, LoadingFirst}
use Rattle.epoch_structure_laws.specs.declared.map.plan.MapPhase.TheVariants.{Reading, Leaving, LoadingNext, Unlinking}
use Rattle.epoch_structure_laws.specs.declared.map.plan.MapPhase.TheVariants.{Burying, Linking, Inserting, Marking}
use Rattle.epoch_structure_laws.specs.declared.map.plan.MapPhase.TheVariants.{Dropping, Removing, TakingBack, Answering}
use Rattle.epoch_structure_laws.specs.MapProgram.{node_key, plain, marked, bucket_of, key_sought, map_deed_of, map}
use Rattle.epoch_structure_laws.specs.MapEntries.{Item, EntryHoldsValue, BucketHolds, Ascends, map_entries, MapHolds}
use Rattle.epoch_structure_laws.specs.MapEntries.{Has, Lacks, BringsEntry, StepOnEntries, keeps, inserts, removes}
use Rattle.epoch_structure_laws.specs.MapEntries.{LooksAt, LeadsPast, FindsNoEntry, FindsEntry}
use Rattle.epoch_structure_laws.proofs.MapChains.{In, one_value}
use Rattle.epoch_structure_laws.proofs.MapLinks.{item, Adds, Drops, Marks, with_mark}
use Rattle.epoch_structure_laws.proofs.MapForm.{Buckets, InAny, Form, put, put_other, Rebucketed}
use Rattle.epoch_structure_laws.proofs.MapKept.{Shape, Node, Worth, Below, Marked, Stands, structure, calm_form}
use Rattle.epoch_structure_laws.proofs.MapSteps.{aligned_at, unmarked_in, pointed_form}
use Rattle.epoch_structure_laws.proofs.MapExchanges.{mark_aligned, link_form, dropped, comes, added, comes_in, fresh}
use Rattle.epoch_structure_laws.proofs.MapExchanges.{marks, comes_marked, field_below}
use Rattle.epoch_structure_laws.proofs.MapLists.{one_bucket, entries_app, entry_first, entry_gone, lacks_first}
use Rattle.epoch_structure_laws.proofs.MapLists.{lacks_behind, has_entry, lacks_beside}

module _ (past : Past) (h : Heap) (xs : Buckets) (settled : Settled past h) (shape : Shape past h xs) where
  -- what a won exchange of this phase makes of the entries of bucket i
  abbrev Won : MapPhase → Touched → ℕ → Type 0
  Won (Inserting b e own link next k) did i =
      (b ≡ i) × (before : List ℕ) × (after : List ℕ) × (map_entries (xs i) ≡ before ++ after)
      × Lacks (node_key e) (map_entries (xs i)) × MapHolds did.heap i (before ++ (e ∷ after))
      × (ptr : Ptr) × (did.told ≡ Told (Exchanged ptr))
  Won (Marking b key link c v next k) did i =
      (b ≡ i) × (before : List ℕ) × (after : List ℕ) × (map_entries (xs i) ≡ before ++ (v ∷ after)) × (node_key v ≡ key)
      × MapHolds did.heap i (before ++ after) × (ptr : Ptr) × (did.told ≡ Told (Exchanged ptr))
  Won _ did i = ⊥

  module _ (j : ℕ) (found : Ptr) (did : Touched) (i : ℕ) where
    abbrev Does : MapPhase → Type 0
    Does phase = MapHolds did.heap i (map_entries (xs i)) ⊎ Won phase did i

    same_heap : (phase : MapPhase) → did.heap ≡ h → Does phase
    same_heap phase is =
        inl (subst (λ (k : Heap). MapHolds k i (map_entries (xs i))) (sym is) (xs i, shape.form.held i, refl))

    calm_does : (phase : MapPhase) → Calm past.left h did.heap → Does phase
    calm_does phase calm = inl (xs i, (calm_form past h did.heap xs settled calm shape).held i, refl)

    loads : (phase : MapPhase) (spot : Spot) (o : Option Ptr) → ChangesAt Load j found spot h o did → Does phase
    loads phase spot None e = same_heap phase (ap (λ (d : Touched). d.heap) e)
    loads phase spot (Some ptr) e = same_heap phase (ap (λ (d : Touched). d.heap) e)

    -- the other buckets hold what they did
    other_holds : (h' : Heap) (b : ℕ) (zs : List Item) → Form h' (put xs b zs) → i ≢ b
        → MapHolds h' i (map_entries (xs i))
    other_holds h' b zs form ne = (put xs b zs i, form.held i, ap map_entries (put_other xs b zs i ne))

    -- a marked node is unlinked: its entry was out
    unlinks : (phase : MapPhase) (b key : ℕ) (link : Spot) (c : Name) (next : Option Name) (o : Option Ptr)
        → pointer_at h link ≡ o → ChangesAt (CompareExchange (plain (Some c)) (plain next)) j found link h o did
        → Below past h xs b key link → past.reached c → Marked h c next → Does phase
    unlinks phase b key link c next None is e below r gone = same_heap phase (ap (λ (d : Touched). d.heap) e)
    unlinks phase b key link c next (Some ptr) is (inr e) below r gone =
        same_heap phase (ap (λ (d : Touched). d.heap) e.1)
    unlinks phase b key link c next (Some ptr) is (inl e) below r gone =
        inl (subst (λ (d : Touched). MapHolds d.heap i (map_entries (xs i))) (sym e.1)
        (subst (λ (p : Ptr). MapHolds (with_pointer h link p) i (map_entries (xs i))) (sym (aligned_at h next))
        (by_number (same_number i b))))
      where
        there : pointer_at h link ≡ Some (plain (Some c))
        there = is ∙ ap Some (e.0 ∙ aligned_at h (Some c))

        re : Rebucketed (with_pointer h link (plain next)) xs b (Drops c)
        re = dropped past h xs settled shape b key link c next below r gone there

        form : Form (with_pointer h link (plain next)) (put xs b re.0)
        form = link_form past h xs settled shape b key link (Some c) (plain next) below there (Drops c) re None
            (comes past h xs settled shape b key link c next below r gone there) (λ n e. absurd (cc (e)))

        same : map_entries re.0 ≡ map_entries (xs b)
        same =
            let z = re.3.0.0 in
            let splice = re.3.0.3 in
            ap map_entries splice.3 ∙ entries_app splice.0 splice.1
            ∙ ap (λ (vs : List ℕ). map_entries splice.0 ++ vs) (sym (entry_gone z splice.1 re.3.0.2))
            ∙ sym (entries_app splice.0 (z ∷ splice.1)) ∙ sym (ap map_entries splice.2)

        by_number : (i ≡ b) ⊎ (i ≢ b) → MapHolds (with_pointer h link (plain next)) i (map_entries (xs i))
        by_number (inl e) = subst (λ k. MapHolds (with_pointer h link (plain next)) k (map_entries (xs k))) (sym e)
            (re.0, re.1, same)
        by_number (inr ne) = other_holds (with_pointer h link (plain next)) b re.0 form ne

    -- a node is put there
    adds : (b e : ℕ) (own : Name) (link : Spot) (next : Option Name) (k : ℕ) (o : Option Ptr)
        → pointer_at h link ≡ o → ChangesAt (CompareExchange (plain next) (plain (Some own))) j found link h o did
        → Stands past h xs (Inserting b e own link next k) → Does (Inserting b e own link next k)
    adds b e own link next k None is at s = same_heap (Inserting b e own link next k) (ap (λ (d : Touched). d.heap) at)
    adds b e own link next k (Some ptr) is (inr at) s =
        same_heap (Inserting b e own link next k) (ap (λ (d : Touched). d.heap) at.1)
    adds b e own link next k (Some ptr) is (inl at) s =
        subst (λ (d : Touched). MapHolds d.heap i (map_entries (xs i)) ⊎ Won (Inserting b e own link next k) d i)
        (sym at.1) (subst (λ (p : Ptr). MapHolds (with_pointer h link p) i (map_entries (xs i))
        ⊎ Won (Inserting b e own link next k)
        (record { told = Told (Exchanged p); heap = with_pointer h link p }) i) (sym (aligned_at h (Some own)))
        (by_number (same_number i b)))
      where
        there : pointer_at h link ≡ Some (plain next)
        there = is ∙ ap Some (at.0 ∙ aligned_at h next)

        re : Rebucketed (with_pointer h link (plain (Some own))) xs b (Adds own e)
        re = added past h xs settled shape b e own link next k s there

        form : Form (with_pointer h link (plain (Some own))) (put xs b re.0)
        form = link_form past h xs settled shape b (node_key e) link next (plain (Some own)) s.1 there (Adds own e) re
            (Some own) (comes_in past h xs settled shape b e own link next k s there)
            (fresh past h xs settled shape b e own link next k s there)

        before : List Item
        before = re.3.0

        after : List Item
        after = re.3.1

        whole : map_entries (xs b) ≡ map_entries before ++ map_entries after
        whole = ap map_entries re.3.2 ∙ entries_app before after

        more : map_entries re.0 ≡ map_entries before ++ (e ∷ map_entries after)
        more = ap map_entries re.3.3 ∙ entries_app before (item own e ∷ after)

        lacks : Lacks (node_key e) (map_entries (xs b))
        lacks = subst (λ (l : List Item). Lacks (node_key e) (map_entries l)) (sym re.3.2)
            (lacks_beside (item own e) 0 before after (subst (Ascends 0) re.3.3 re.2))

        by_number : (i ≡ b) ⊎ (i ≢ b)
            → MapHolds (with_pointer h link (plain (Some own))) i (map_entries (xs i))
            ⊎ Won (Inserting b e own link next k) (record {
              told = Told (Exchanged (plain (Some own)));
              heap = with_pointer h link (plain (Some own));
            }) i
        by_number (inr ne) = inl (other_holds (with_pointer h link (plain (Some own))) b re.0 form ne)
        by_number (inl e') = inr (
          sym e',
          map_entries before,
          map_entries after,
          subst (λ k. map_entries (xs k) ≡ map_entries before ++ map_entries after) (sym e') whole,
          subst (λ k. Lacks (node_key e) (map_entries (xs k))) (sym e') lacks,
          subst
              (λ k. MapHolds (with_pointer h link (plain (Some own))) k (map_entries before ++ (e ∷ map_entries after)))
              (sym e') (re.0, re.1, more),
          plain (Some own),
          refl,
        )

    -- a node is marked
    marks_it : (b key : ℕ) (link : Spot) (c : Name) (v : ℕ) (next : Option Name) (k : ℕ) (o : Option Ptr)
        → pointer_at h (Field c 0) ≡ o
        → ChangesAt (CompareExchange (plain next) (marked next)) j found (Field c 0) h o did
        → Stands past h xs (Marking b key link c v next k) → Does (Marking b key link c v next k)
    marks_it b key link c v next k None is at s =
        same_heap (Marking b key link c v next k) (ap (λ (d : Touched). d.heap) at)
    marks_it b key link c v next k (Some ptr) is (inr at) s =
        same_heap (Marking b key link c v next k) (ap (λ (d : Touched). d.heap) at.1)
    marks_it b key link c v next k (Some ptr) is (inl at) s =
        subst (λ (d : Touched). MapHolds d.heap i (map_entries (xs i)) ⊎ Won (Marking b key link c v next k) d i)
        (sym at.1) (subst (λ (p : Ptr). MapHolds (with_pointer h (Field c 0) p) i (map_entries (xs i))
        ⊎ Won (Marking b key link c v next k)
        (record { told = Told (Exchanged p); heap = with_pointer h (Field c 0) p }) i)
        (sym (mark_aligned h next shape.form.marks)) (by_number (same_number i b)))
      where
        there : pointer_at h (Field c 0) ≡ Some (plain next)
        there = is ∙ ap Some (at.0 ∙ aligned_at h next)

        re : Rebucketed (with_pointer h (Field c 0) (marked next)) xs b (Marks h c)
        re = marks past h xs settled shape b key link c v next k s there

        form : Form (with_pointer h (Field c 0) (marked next)) (put xs b re.0)
        form = link_form past h xs settled shape b (suc (node_key v)) (Field c 0) next (marked next)
            (field_below past h xs settled shape b key link c v next k s there) there (Marks h c) re None
            (comes_marked past h xs settled shape b key link c v next k s there) (λ n e. absurd (cc (e)))

        before : List Item
        before = re.3.4.0

        after : List Item
        after = re.3.4.1

        is_in : In c (xs b)
        is_in = unmarked_in past h xs settled shape b c next s.1 there

        value : re.3.0.entry ≡ v
        value = one_value h c re.3.0.entry v re.3.3 (s.2 (shape.known c (b, is_in)).1)

        whole : map_entries (xs b) ≡ map_entries before ++ (v ∷ map_entries after)
        whole = ap map_entries re.3.4.2 ∙ entries_app before (re.3.0 ∷ after)
            ∙ ap (λ (vs : List ℕ). map_entries before ++ vs) (entry_first re.3.0 after re.3.2)
            ∙ ap (λ (w : ℕ). map_entries before ++ (w ∷ map_entries after)) value

        less : map_entries re.0 ≡ map_entries before ++ map_entries after
        less = ap map_entries re.3.4.3
            ∙ entries_app before (with_mark re.3.0 ∷ after)

        by_number : (i ≡ b) ⊎ (i ≢ b)
            → MapHolds (with_pointer h (Field c 0) (marked next)) i (map_entries (xs i))
            ⊎ Won (Marking b key link c v next k) (record {
              told = Told (Exchanged (marked next));
              heap = with_pointer h (Field c 0) (marked next);
            }) i
        by_number (inr ne) = inl (other_holds (with_pointer h (Field c 0) (marked next)) b re.0 form ne)
        by_number (inl e) = inr (
          sym e,
          map_entries before,
          map_entries after,
          subst (λ k. map_entries (xs k) ≡ map_entries before ++ (v ∷ map_entries after)) (sym e) whole,
          s.3,
          subst (λ k. MapHolds (with_pointer h (Field c 0) (marked next)) k (map_entries before ++ map_entries after))
              (sym e)
              (re.0, re.1, less),
          marked next,
          refl,
        )

    -- an own node is pointed to where the link leads
    points : (b e : ℕ) (own : Name) (link : Spot) (next : Option Name) (k : ℕ) (o : Option Ptr)
        → pointer_at h (Field own 0) ≡ o → ChangesAt (Store (plain next)) j found (Field own 0) h o did
        → Stands past h xs (Linking b e own link next k) → Does (Linking b e own link next k)
    points b e own link next k None is at s = same_heap (Linking b e own link next k) (ap (λ (d : Touched). d.heap) at)
    points b e own link next k (Some ptr) is at s =
        inl (subst (λ (d : Touched). MapHolds d.heap i (map_entries (xs i))) (sym at)
        (subst (λ (p : Ptr). MapHolds (with_pointer h (Field own 0) p) i (map_entries (xs i))) (sym (aligned_at h next))
        (xs i, (pointed_form past h xs settled shape b e own link next k s).held i, refl)))

    -- each phase's step
    touch_entries : (g : ℕ) (phase : MapPhase) → TouchesBy (map_deed_of g phase) j found h did → Stands past h xs phase
        → Does phase
    touch_entries g (MakingRoom work) e s = absurd e
    touch_entries g (Burying aim c k) e s = absurd e
    touch_entries g (Removing c v) e s = absurd e
    touch_entries g (TakingBack own answer) e s = absurd e
    touch_entries g (Answering a) e s = absurd e
    touch_entries g (Placing b w k) e s = calm_does (Placing b w k)
        (calm_call past.left h (Place w) j found did tt e (touches_given (Place w) j found h did e))
    touch_entries g (LoadingFirst aim k) e s =
        loads (LoadingFirst aim k) (Root (bucket_of aim)) (pointer_at h (Root (bucket_of aim))) e
    touch_entries g (Reading aim link c k) e s = calm_does (Reading aim link c k)
        (calm_call past.left h (Read (Some g) (plain (Some c))) j found did tt e
        (touches_given (Read (Some g) (plain (Some c))) j found h did e))
    touch_entries g (Leaving aim link c v k) e s = calm_does (Leaving aim link c v k)
        (calm_call past.left h (Leave (plain (Some c))) j found did tt e
        (touches_given (Leave (plain (Some c))) j found h did e))
    touch_entries g (LoadingNext aim link c v k) e s =
        loads (LoadingNext aim link c v k) (Field c 0) (pointer_at h (Field c 0)) e
    touch_entries g (Unlinking aim link c next k) e s =
        unlinks (Unlinking aim link c next k) (bucket_of aim) (key_sought aim) link c next (pointer_at h link) refl e
        s.0.1 s.1 s.2
    touch_entries g (Linking b w own link next k) e s =
        points b w own link next k (pointer_at h (Field own 0)) refl e s
    touch_entries g (Inserting b w own link next k) e s = adds b w own link next k (pointer_at h link) refl e s
    touch_entries g (Marking b key link c v next k) e s =
        marks_it b key link c v next k (pointer_at h (Field c 0)) refl e s
    touch_entries g (Dropping b key link c v next) e s =
        unlinks (Dropping b key link c v next) b key link c next (pointer_at h link) refl e s.0 s.1 s.2

  -- WHAT A LOAD TELLS

  -- a bucket whose root leads past the key has none of it
  pub none_first : (i key : ℕ) (ptr : Ptr) → pointer_at h (Root i) ≡ Some ptr → LeadsPast h key ptr.name
      → Lacks key (map_entries (xs i))
  none_first i key ptr there leads = by_root (shape.form.held i)
    where
      by_root : BucketHolds h i (xs i) → Lacks key (map_entries (xs i))
      by_root (head, inl rooted, chain) =
          let same : plain head ≡ ptr = cc (rooted, there) in
          let name : ptr.name ≡ head = sym (ap (λ (p : Ptr). p.name) same) in
          lacks_first h key 0 head (xs i) chain (shape.form.sorted i)
          (subst (λ (o : Option Name). LeadsPast h key o) name leads)
      by_root (head, inr none, chain) = absurd (cc (none.0, there))

  -- and so has one where a node of a lower key leads past it
  pub none_behind : (i key : ℕ) (c : Name) (v : ℕ) (ptr : Ptr) → Node past xs i c → Worth past h c v → node_key v < key
      → pointer_at h (Field c 0) ≡ Some ptr → ptr.tag ≡ 0 → LeadsPast h key ptr.name → Lacks key (map_entries (xs i))
  none_behind i key c v ptr node worth lt there none leads =
      let is_in : In c (xs i) = unmarked_in past h xs settled shape i c ptr.name node
      (there ∙ ap Some (λ t. record { name = ptr.name; tag = none t })) in
      let bucket = shape.form.held i in
      lacks_behind h key 0 bucket.0 (xs i) c v ptr bucket.2 (shape.form.sorted i) is_in
      (worth (shape.known c (i, is_in)).1) lt there leads

  -- an entry whose node has no mark is there
  pub entry_there : (i : ℕ) (c : Name) (v : ℕ) (ptr : Ptr) → Node past xs i c → Worth past h c v
      → pointer_at h (Field c 0) ≡ Some ptr → ptr.tag ≡ 0 → Has v (map_entries (xs i))
  entry_there i c v ptr node worth there none =
      let plainly = there ∙ ap Some (λ t. record { name = ptr.name; tag = none t }) in
      let is_in : In c (xs i) = unmarked_in past h xs settled shape i c ptr.name node plainly in
      let bucket = shape.form.held i in
      has_entry h bucket.0 (xs i) c v ptr.name bucket.2 is_in (worth (shape.known c (i, is_in)).1) plainly

-- A STEP

module _ (past : Past) (old new : State) (plans : AllPlans MapPhase) (x : Entry)
    (sound : Sound map structure past old plans) (did : TakesStep old x.step x.reply new) (i : ℕ) (vs : List ℕ)
    (holds : MapHolds old.heap i vs) where
  settled : Settled past old.heap
  settled = record {
    left_out = sound.left_out;
    left_given = sound.left_given;
    seen = sound.seen;
    reached_given = sound.reached_given;
  }

  -- these are the entries of the bucket's nodes
  whole : vs ≡ map_entries (sound.ghost i)
  whole = sym holds.2 ∙ ap map_entries (one_bucket old.heap i holds.0 (sound.ghost i) holds.1 (sound.shape.form.held i))

  brought : (t : Touching map structure past old new plans x sound) (answer : AccessAnswer)
      → t.did.told ≡ Told answer → BringsEntry old x new t.who (Done answer)
  brought t answer told = (
    t.step,
    (t.access, t.made, t.found, t.going),
    ap (λ (st : WorldSeat). st.progress) t.seat ∙ ap (λ (r : Accessed). progress_after t.access t.made r) told,
  )

  kept : (h' : Heap) → MapHolds h' i (map_entries (sound.ghost i)) → MapHolds h' i vs
  kept h' same = (same.0, same.1, same.2 ∙ sym whole)

  by_touch : (t : Touching map structure past old new plans x sound) → StepOnEntries old plans x new i vs
  by_touch t = elim (touch_entries past old.heap sound.ghost settled sound.shape t.made t.found t.did i t.guard t.phase
      t.touches t.stands) [
        | inl same ↦ keeps (subst (λ (k : Heap). MapHolds k i vs) (sym t.heap) (kept t.did.heap same))
        | inr won ↦ by_won t.phase refl won
      ]
    where
      by_won : (phase : MapPhase) → t.phase ≡ phase
          → Won past old.heap sound.ghost settled sound.shape phase t.did i → StepOnEntries old plans x new i vs
      by_won (Inserting b e own link next k) is (bucket, before, after, split, lacks, more, ptr, told) =
          inserts t.who t.guard e own link next k ptr before after
          (t.under ∙ ap (λ (f : MapPhase). Under t.guard f true) is
          ∙ ap (λ (n : ℕ). Under t.guard (Inserting n e own link next k) true) bucket)
          (brought t (Exchanged ptr) told) (subst (Lacks (node_key e)) (sym whole) lacks) (whole ∙ split)
          (subst (λ (h : Heap). MapHolds h i (before ++ (e ∷ after))) (sym t.heap) more)
      by_won (Marking b key link c v next k) is (bucket, before, after, split, same, less, ptr, told) =
          removes t.who t.guard key link c v next k ptr before after
          (t.under ∙ ap (λ (f : MapPhase). Under t.guard f true) is
          ∙ ap (λ (n : ℕ). Under t.guard (Marking n key link c v next k) true) bucket)
          (brought t (Exchanged ptr) told) same (whole ∙ split)
          (subst (λ (h : Heap). MapHolds h i (before ++ after)) (sym t.heap) less)
      by_won _ is won = absurd won

  -- what the step makes of the entries of a bucket
  pub step_on_entries : StepOnEntries old plans x new i vs
  step_on_entries = elim (heap_turns map structure past old new plans x sound did) [
    | inl calm ↦ keeps (kept new.heap (
      sound.ghost i,
      (calm_form past old.heap new.heap sound.ghost settled calm sound.shape).held i,
      refl,
    ))
    | inr t ↦ by_touch t
  ]

  -- the step of a load that brings this pointer, by its phase
  module _ (participant guard : ℕ) (phase : MapPhase) (ptr : Ptr) (under : plans participant ≡ Under guard phase true)
      (brings : BringsEntry old x new participant (Done (Pointer ptr))) where
    t : Touching map structure past old new plans x sound
    t = touched map structure past old new plans x sound did participant brings.0 brings.1.0 brings.1.1 brings.1.2
        brings.1.3

    same : t.who ≡ participant
    same = cc (t.step, brings.0)

    in_phase : t.phase ≡ phase
    in_phase =
        let both : Under t.guard t.phase true ≡ Under guard phase true = sym t.under ∙ ap plans same ∙ under in
        cc (both)

    stands : Stands past old.heap sound.ghost phase
    stands = subst (Stands past old.heap sound.ghost) in_phase t.stands

    touches : TouchesBy (map_deed_of t.guard phase) t.made t.found old.heap t.did
    touches =
        subst (λ (p : MapPhase). TouchesBy (map_deed_of t.guard p) t.made t.found old.heap t.did) in_phase t.touches

    ends : (answer : AccessAnswer) → t.did.told ≡ Told answer → Ends (Done answer) ≡ Ends (Done (Pointer ptr))
    ends answer told = sym (brought t answer told).2 ∙ ap (λ (p : ℕ). (seat_of new p).progress) same ∙ brings.2

    -- a load found this pointer there
    loaded : (spot : Spot) → ChangesAt Load t.made t.found spot old.heap (pointer_at old.heap spot) t.did
        → pointer_at old.heap spot ≡ Some ptr
    loaded spot e = by_pointer (pointer_at old.heap spot) refl e
      where
        by_pointer : (o : Option Ptr) → pointer_at old.heap spot ≡ o
            → ChangesAt Load t.made t.found spot old.heap o t.did → pointer_at old.heap spot ≡ Some ptr
        by_pointer None to e = absurd (cc (ends Absent (ap (λ (d : Touched). d.told) e)))
        by_pointer (Some p) to e =
            let ended = ends (Pointer p) (ap (λ (d : Touched). d.told) e) in
            let one : p ≡ ptr = cc (ended) in to ∙ ap Some one

  -- a call that finds no node of its key finds no entry of it in the map
  pub finds_none : (key : ℕ) → FindsNoEntry old plans x new i key → Lacks key vs
  finds_none key f = subst (Lacks key) (sym whole) (by_phase f.phase f.under f.looks)
    where
      by_phase : (phase : MapPhase) → plans f.participant ≡ Under f.guard phase true → LooksAt phase i key f.ptr
          → Lacks key (map_entries (sound.ghost i))
      by_phase (LoadingFirst aim k) under (bucket, sought) =
          none_first past old.heap sound.ghost settled sound.shape i key f.ptr
          (subst (λ n. pointer_at old.heap (Root n) ≡ Some f.ptr) bucket
          (loaded f.participant f.guard (LoadingFirst aim k) f.ptr under f.brings (Root (bucket_of aim))
          (touches f.participant f.guard (LoadingFirst aim k) f.ptr under f.brings))) f.past
      by_phase (LoadingNext aim link c v k) under (bucket, sought, lower, none) =
          let s = stands f.participant f.guard (LoadingNext aim link c v k) f.ptr under f.brings in
          none_behind past old.heap sound.ghost settled sound.shape i key c v f.ptr
          (subst (λ n. Node past sound.ghost n c) bucket s.1) s.2 lower
          (loaded f.participant f.guard (LoadingNext aim link c v k) f.ptr under f.brings (Field c 0)
          (touches f.participant f.guard (LoadingNext aim link c v k) f.ptr under f.brings)) none f.past
      by_phase _ under looks = absurd looks

  -- and one that finds an entry finds one of the map
  pub finds_entry : (v : ℕ) → FindsEntry old plans x new i v → Has v vs
  finds_entry v f =
      let s = stands f.participant f.guard (LoadingNext f.aim f.link f.node v f.moves) f.ptr f.under f.brings in
      subst (Has v) (sym whole) (entry_there past old.heap sound.ghost settled sound.shape i f.node v f.ptr
      (subst (λ n. Node past sound.ghost n f.node) f.bucket s.1) s.2
      (loaded f.participant f.guard (LoadingNext f.aim f.link f.node v f.moves) f.ptr f.under f.brings (Field f.node 0)
      (touches f.participant f.guard (LoadingNext f.aim f.link f.node v f.moves) f.ptr f.under f.brings)) f.no_mark)
