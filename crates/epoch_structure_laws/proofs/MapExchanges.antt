-- What the exchanges of a map's calls do to it.
use Rattle.std.proofs.Common.{◌≡◌, ◌≢◌, ◌≤◌, ◌<◌, ℕ, zero, suc, ◌%◌, List, [], ◌∷◌, Option, Some, None, ◌⊎◌, inl, inr}
use Rattle.std.proofs.Common.{refl, ap, sym, subst, ◌∙◌, arith}
use Rattle.epoch_cells.specs.declared.cells.name.Name.{Name}
use Rattle.epoch_cells.specs.declared.fault.Fault.TheVariants.{CellsFull}
use Rattle.epoch_laws.specs.declared.heap.access.Ptr.{Ptr}
use Rattle.epoch_laws.specs.declared.heap.access.Spot.{Spot}
use Rattle.epoch_laws.specs.declared.heap.access.Spot.TheVariants.{Root, Field}
use Rattle.epoch_laws.specs.declared.heap.access.Change.TheVariants.{CompareExchange}
use Rattle.epoch_laws.specs.Heap.{Heap, pointer_at, aligned, Touched, ChangesAt, with_pointer}
use Rattle.epoch_laws.specs.Reach.{Past}
use Rattle.epoch_laws.proofs.TurnsGiven.{StaysGiven}
use Rattle.epoch_laws.proofs.PointerSteps.{pointer_other}
use Rattle.epoch_structure_laws.proofs.Custody.{Passed, same_number}
use Rattle.epoch_structure_laws.proofs.Obligations.{Settled}
use Rattle.epoch_structure_laws.proofs.Cells.{same_name, written_there}
use Rattle.epoch_structure_laws.specs.declared.map.plan.Aim.{Aim}
use Rattle.epoch_structure_laws.specs.declared.map.plan.MapAnswer.TheVariants.{Inserted}
use Rattle.epoch_structure_laws.specs.declared.map.plan.MapPhase.{MapPhase}
use Rattle.epoch_structure_laws.specs.declared.map.plan.MapPhase.TheVariants.{Unlinking, Burying, Inserting, Marking}
use Rattle.epoch_structure_laws.specs.declared.map.plan.MapPhase.TheVariants.{Dropping, Removing, Answering}
use Rattle.epoch_structure_laws.specs.MapProgram.{node_key, plain, marked, bucket_of, key_sought}
use Rattle.epoch_structure_laws.specs.MapEntries.{Item, EntryHoldsValue}
use Rattle.epoch_structure_laws.proofs.MapChains.{In, value_written, one_value, spliced_in, spliced_back, new_in}
use Rattle.epoch_structure_laws.proofs.MapLinks.{item, Adds, Drops, Marks, with_mark}
use Rattle.epoch_structure_laws.proofs.MapForm.{Buckets, InAny, Form, in_reach, reached_in, put, put_here, put_other}
use Rattle.epoch_structure_laws.proofs.MapForm.{put_in, put_form, single_kept, align_kept, LinkOf, Rebucketed}
use Rattle.epoch_structure_laws.proofs.MapForm.{others_kept, link_single, link_in, drop_from, add_to, mark_in}
use Rattle.epoch_structure_laws.proofs.MapKept.{Shape, Below, Above, Marked, Off, Stands, Owns, Turn}
use Rattle.epoch_structure_laws.proofs.MapKept.{below_kept, aim_kept, refused}
use Rattle.epoch_structure_laws.proofs.MapSteps.{aligned_at, turn_acts, Goes, Does, weak_here, unmarked_in}

-- a mark is aligned
pub mark_aligned : (h : Heap) (o : Option Name) → 2 ≤ h.align → aligned h (marked o) ≡ marked o
mark_aligned h o two =
    let one : 1 % h.align ≡ 1 = grind (arith, two) in λ i. record { name = o; tag = one i }

-- a list of buckets keeps a name where one bucket changes, if that one keeps it
pub kept_in : (xs : Buckets) (b : ℕ) (zs : List Item) (n : Name) → (In n (xs b) → In n zs) → InAny n xs
    → InAny n (put xs b zs)
kept_in xs b zs n stays (i, there) = elim (same_number i b) [
  | inl e ↦ (
    b,
    subst (λ (l : List Item). In n l) (sym (put_here xs b zs))
        (stays (subst (λ k. In n (xs k)) e there)),
  )
  | inr ne ↦ (i, subst (λ (l : List Item). In n l) (sym (put_other xs b zs i ne)) there)
]

module _ (past : Past) (h : Heap) (xs : Buckets) (settled : Settled past h) (shape : Shape past h xs) where
  -- what a phase knows of its link
  pub link_of : (b key : ℕ) (link : Spot) → Below past h xs b key link → LinkOf xs b link
  link_of b key (Root i) s = s
  link_of b key (Field y zero) s = λ is. subst (λ k. In y (xs k)) (s.0.1 is.0 is.1) is.1
  link_of b key (Field y (suc f)) s = absurd s

  -- a link that has no mark is in reach
  pub link_live : (b key : ℕ) (link : Spot) (o : Option Name) → Below past h xs b key link
      → pointer_at h link ≡ Some (plain o) → (y : Name) → link ≡ Field y 0 → InAny y xs
  link_live b key link o s there y is =
      let known : Below past h xs b key (Field y 0) = subst (Below past h xs b key) is s in
      shape.live y o known.0.0 (subst (λ (k : Spot). pointer_at h k ≡ Some (plain o)) is there)

  -- a link that a call has come to is the root of its bucket, or stands in a node that was in reach
  pub link_reached : (b key : ℕ) (link : Spot) → Below past h xs b key link → (y : Name) → link ≡ Field y 0
      → past.reached y
  link_reached b key link s y is =
      let known : Below past h xs b key (Field y 0) = subst (Below past h xs b key) is s in known.0.0

  -- A LINK IS WRITTEN

  module _ (link : Spot) (ptr : Ptr) where
    abbrev pub wrote : Heap
    wrote = with_pointer h link ptr

    holder_other : (n : Name) → link ≢ Field n 0 → pointer_at wrote (Field n 0) ≡ pointer_at h (Field n 0)
    holder_other n ne = pointer_other h link ptr (Field n 0) (λ e. ne (sym e))

    value_kept : (n : Name) (v : ℕ) → ((y : Name) (f : ℕ) → link ≢ Field y (suc f)) → EntryHoldsValue h n v
        → EntryHoldsValue wrote n v
    value_kept n v plain w = by_link link plain
      where
        by_link : (spot : Spot) → ((y : Name) (f : ℕ) → spot ≢ Field y (suc f))
            → EntryHoldsValue (with_pointer h spot ptr) n v
        by_link (Root i) ne = w
        by_link (Field y zero) ne = value_written h y ptr n v w
        by_link (Field y (suc f)) ne = absurd (ne y f refl)

    -- whether the link is this node's field
    is_field : (n : Name) → (link ≡ Field n 0) ⊎ (link ≢ Field n 0)
    is_field n = by_link link
      where
        holder : Name → Spot → Name
        holder y (Root i) = y
        holder y (Field k f) = k

        by_link : (spot : Spot) → (spot ≡ Field n 0) ⊎ (spot ≢ Field n 0)
        by_link (Root i) = inr (λ e. cc (e))
        by_link (Field y (suc f)) = inr (λ e. cc (e))
        by_link (Field y zero) = elim (same_name y n) [
          | inl e ↦ inl (ap (λ (k : Name). Field k 0) e)
          | inr ne ↦ inr (λ e. ne (ap (holder n) e))
        ]

  -- A LINK OF A BUCKET IS EXCHANGED

  -- the nodes of the bucket then, of which new may be one that was in none
  module _ (b key : ℕ) (link : Spot) (old : Option Name) (ptr : Ptr) (below : Below past h xs b key link)
      (there : pointer_at h link ≡ Some (plain old)) (R : List Item → List Item → Type 0)
      (re : Rebucketed (with_pointer h link ptr) xs b R) (hit : Option Name)
      (comes : (n : Name) → In n re.0 → In n (xs b) ⊎ (hit ≡ Some n))
      (fresh : (n : Name) → hit ≡ Some n → ¬ (past.reached n)) where
    abbrev pub after : Buckets
    after = put xs b re.0

    abbrev h' : Heap
    h' = with_pointer h link ptr

    of : LinkOf xs b link
    of = link_of b key link below

    live : (y : Name) → link ≡ Field y 0 → InAny y xs
    live y is = link_live b key link old below there y is

    pub link_form : Form h' after
    link_form =
        put_form h h' xs shape.form b re.0 (λ n. hit ≡ Some n) re.1 re.2 comes
        (λ n e is. fresh n e (shape.known n is).0) (λ j ne. others_kept h xs shape.form b link ptr of live j ne)
        (single_kept h link ptr (link_single xs b link of) shape.form.single) (align_kept h link ptr)

    pub inside : (i : ℕ) (n : Name) → In n (after i) → In n (xs i) ⊎ (hit ≡ Some n)
    inside i n is = elim (put_in xs b re.0 (λ n. hit ≡ Some n) comes i n is) [ inl was ↦ inl was | inr new ↦ inr new.1 ]

    -- what no link of the bucket is, stays
    pub field_stays : (n : Name) → link ≢ Field n 0 → pointer_at h' (Field n 0) ≡ pointer_at h (Field n 0)
    field_stays n ne = holder_other link ptr n ne

    pub link_turn : StaysGiven h h' → Turn past h h' xs after hit
    link_turn given = record {
      own = λ n p r l off e. field_stays n (λ is. r (link_reached b key link below n is)) ∙ e;
      back = λ n p r e. elim (is_field link ptr n) [
        | inl is ↦ inr (old, subst (λ (k : Spot). pointer_at h k ≡ Some (plain old)) is there)
        | inr ne ↦ inl (sym (field_stays n ne) ∙ e)
      ];
      inside = inside;
      new = fresh;
      reach = λ n r. let is = reached_in h' after link_form n r in elim (inside is.0 n is.1) [
        | inl was ↦ inl (in_reach h xs shape.form n (is.0, was))
        | inr e ↦ inr e
      ];
      given = given;
      worth = λ n v l w. value_kept link ptr n v (λ y f e. link_single xs b link of y f (sym e)) w;
    }

    -- what has no mark stays in the map, but for what the exchange takes out
    pub link_lives : (stays : (n : Name) → (next : Option Name) → pointer_at h (Field n 0) ≡ Some (plain next)
        → In n (xs b) → In n re.0)
        → (n : Name) (next : Option Name) → past.reached n → pointer_at h' (Field n 0) ≡ Some (plain next)
        → InAny n after
    link_lives stays n next r e = elim (is_field link ptr n) [
      | inl is ↦
          let was = subst (λ (k : Spot). pointer_at h k ≡ Some (plain old)) is there in
          kept_in xs b re.0 n (stays n old was) (live n is)
      | inr ne ↦
          let was = sym (field_stays n ne) ∙ e in
          kept_in xs b re.0 n (stays n next was) (shape.live n next r was)
    ]

  -- A MARKED NODE IS UNLINKED

  module _ (b key : ℕ) (link : Spot) (c : Name) (next : Option Name) (below : Below past h xs b key link)
      (r : past.reached c) (gone : Marked h c next) (there : pointer_at h link ≡ Some (plain (Some c))) where
    pub dropped : Rebucketed (with_pointer h link (plain next)) xs b (Drops c)
    dropped = drop_from h xs shape.form b link (link_of b key link below)
        (λ y is. link_live b key link (Some c) below there y is) c next there gone

    pub comes : (n : Name) → In n dropped.0 → In n (xs b) ⊎ (None ≡ Some n)
    comes n is = elim (spliced_in (dropped.3.0.0 ∷ []) [] (xs b) dropped.0 n dropped.3.0.3 is) [
      | inl was ↦ inl was
      | inr none ↦ absurd none
    ]

    -- who has no mark stays
    stays : (n : Name) (o : Option Name) → pointer_at h (Field n 0) ≡ Some (plain o) → In n (xs b) → In n dropped.0
    stays n o e is = elim (spliced_back (dropped.3.0.0 ∷ []) [] (xs b) dropped.0 n dropped.3.0.3 is) [
      | inl kept ↦ kept
      | inr first ↦ elim first [
        | inr none ↦ absurd none
        | inl same ↦
            let one : n ≡ c = same ∙ dropped.3.0.1 in
            absurd ((gone (plain o) (subst (λ k. pointer_at h (Field k 0) ≡ Some (plain o)) one e)).1 refl)
      ]
    ]

    -- the node is in the map before, and then in no bucket
    pub was_in : In c (xs b)
    was_in = dropped.3.1

    is_out : ¬ (InAny c (put xs b dropped.0))
    is_out (i, is) = elim (same_number i b) [
      | inl e ↦ dropped.3.2 (subst (λ (l : List Item). In c l) (put_here xs b dropped.0)
          (subst (λ k. In c (put xs b dropped.0 k)) e is))
      | inr ne ↦ ne (shape.form.apart i b c
          (subst (λ (l : List Item). In c l) (put_other xs b dropped.0 i ne) is) was_in)
    ]

    pub drop_acts : (phase other : MapPhase) → Stands past h xs phase
        → ((n : Name) → Owns other n → Owns phase n ⊎ (n ≡ c))
        → ((past' : Past) → Passed past past' (with_pointer h link (plain next)) None
        → Turn past h (with_pointer h link (plain next)) xs (put xs b dropped.0) None
        → Off past' (with_pointer h link (plain next)) (put xs b dropped.0) c
        → Stands past' (with_pointer h link (plain next)) (put xs b dropped.0) other)
        → StaysGiven h (with_pointer h link (plain next))
        → Goes past h xs settled shape (with_pointer h link (plain next)) phase other
    drop_acts phase other s owns own given =
        let turn = link_turn b key link (Some c) (plain next) below there (Drops c) dropped None comes
        (λ n e. absurd (cc (e))) given in
        turn_acts past h (with_pointer h link (plain next)) xs (put xs b dropped.0) None settled shape turn
        (link_form b key link (Some c) (plain next) below there (Drops c) dropped None comes (λ n e. absurd (cc (e))))
        (link_lives b key link (Some c) (plain next) below there (Drops c) dropped None comes
        (λ n e. absurd (cc (e))) stays)
        phase other s (λ n e. absurd (cc (e)))
        (λ n o. elim (owns n o) [
          | inl was ↦ inl was
          | inr e ↦ inr (inl (b, subst (λ k. In k (xs b)) (sym e) was_in))
        ])
        (λ past' passed. own past' passed turn (
          is_out,
          λ l. elim (passed.left c l) [ inl was ↦ (shape.known c (b, was_in)).1 was | inr e ↦ cc (e) ],
          given c (settled.reached_given c r),
        ))

  -- a marked node is unlinked, or the exchange is lost
  pub unlink : (g : ℕ) (aim : Aim) (link : Spot) (c : Name) (next : Option Name) (k j : ℕ) (found : Ptr)
      (did : Touched) (o : Option Ptr) → pointer_at h link ≡ o
      → ChangesAt (CompareExchange (plain (Some c)) (plain next)) j found link h o did
      → Stands past h xs (Unlinking aim link c next k) → Does past h xs settled shape g (Unlinking aim link c next k)
      did
  unlink g aim link c next k j found did None e is s =
      subst (Does past h xs settled shape g (Unlinking aim link c next k)) (sym is)
      (λ given. weak_here past h xs settled shape _ _ (refused g (Unlinking aim link c next k) CellsFull) s)
  unlink g aim link c next k j found did (Some ptr) e (inr is) s =
      subst (Does past h xs settled shape g (Unlinking aim link c next k)) (sym is.1)
      (λ given. weak_here past h xs settled shape _ _ (refused g (Unlinking aim link c next k) CellsFull) s)
  unlink g aim link c next k j found did (Some ptr) e (inl is) s =
      subst (Does past h xs settled shape g (Unlinking aim link c next k)) (sym is.1) (λ given.
      subst (λ (p : Ptr). StaysGiven h (with_pointer h link p)
      → Goes past h xs settled shape (with_pointer h link p) (Unlinking aim link c next k) (Burying aim c k))
      (sym (aligned_at h next)) acts given)
    where
      there : pointer_at h link ≡ Some (plain (Some c))
      there = e ∙ ap Some (is.0 ∙ aligned_at h (Some c))

      acts : StaysGiven h (with_pointer h link (plain next))
          → Goes past h xs settled shape (with_pointer h link (plain next)) (Unlinking aim link c next k)
          (Burying aim c k)
      acts given =
          drop_acts (bucket_of aim) (key_sought aim) link c next s.0.1 s.1 s.2 there (Unlinking aim link c next k)
          (Burying aim c k) s (λ n o. o)
          (λ past' passed turn off. (
            aim_kept past past' h (with_pointer h link (plain next)) xs _ None None settled turn passed aim
                (λ n o. (λ e. cc (e), λ e. cc (e))) s.0.0,
            off,
            passed.more c s.1,
          )) given

  -- a removal unlinks the node that it has marked itself, or the exchange is lost
  pub drop_own : (g b key : ℕ) (link : Spot) (c : Name) (v : ℕ) (next : Option Name) (j : ℕ) (found : Ptr)
      (did : Touched) (o : Option Ptr) → pointer_at h link ≡ o
      → ChangesAt (CompareExchange (plain (Some c)) (plain next)) j found link h o did
      → Stands past h xs (Dropping b key link c v next)
      → Does past h xs settled shape g (Dropping b key link c v next) did
  drop_own g b key link c v next j found did None e is s =
      subst (Does past h xs settled shape g (Dropping b key link c v next)) (sym is)
      (λ given. weak_here past h xs settled shape _ _ (refused g (Dropping b key link c v next) CellsFull) s)
  drop_own g b key link c v next j found did (Some ptr) e (inr is) s =
      subst (Does past h xs settled shape g (Dropping b key link c v next)) (sym is.1)
      (λ given. weak_here past h xs settled shape _ _ (refused g (Dropping b key link c v next) CellsFull) s)
  drop_own g b key link c v next j found did (Some ptr) e (inl is) s =
      subst (Does past h xs settled shape g (Dropping b key link c v next)) (sym is.1) (λ given.
      subst (λ (p : Ptr). StaysGiven h (with_pointer h link p)
      → Goes past h xs settled shape (with_pointer h link p) (Dropping b key link c v next) (Removing c v))
      (sym (aligned_at h next))
      (drop_acts b key link c next s.0 s.1 s.2 (e ∙ ap Some (is.0 ∙ aligned_at h (Some c)))
      (Dropping b key link c v next) (Removing c v) s (λ n o. inr o) (λ past' passed turn off. off)) given)

  -- A NODE IS PUT THERE

  module _ (b e : ℕ) (own : Name) (link : Spot) (next : Option Name) (k : ℕ)
      (s : Stands past h xs (Inserting b e own link next k)) (there : pointer_at h link ≡ Some (plain next)) where
    pub fresh : (n : Name) → Some own ≡ Some n → ¬ (past.reached n)
    fresh n is r = let same : own ≡ n = cc (is) in s.0.0 (subst (λ k. past.reached k) (sym same) r)

    -- what the link leads to has a higher key
    above : (m : Name) (w : ℕ) → next ≡ Some m → EntryHoldsValue h m w → node_key e < node_key w
    above m w is worth = by_next next refl s.2
      where
        by_next : (o : Option Name) → o ≡ next → Above past h (node_key e) o → node_key e < node_key w
        by_next None same known = absurd (cc (same, is))
        by_next (Some n) same (u, held, lt) =
            let one : n ≡ m = cc (same, is) in
            let inside : In m (xs b) =
            link_in h xs shape.form b link (plain next) m (link_of b (node_key e) link s.1)
            (λ y at. link_live b (node_key e) link next s.1 there y at) there is in
            let stands : EntryHoldsValue h n u =
            held (subst (λ k. ¬ (past.left k)) (sym one) (shape.known m (b, inside)).1) in
            let values : u ≡ w = one_value h m u w (subst (λ k. EntryHoldsValue h k u) one stands) worth in
            subst (λ k. node_key e < node_key k) values lt

    -- and the node whose field the link is a lower one
    before : (y : Name) → link ≡ Field y 0 → (own ≢ y) × ((v : ℕ) → EntryHoldsValue h y v → node_key v < node_key e)
    before y is =
        let known : Below past h xs b (node_key e) (Field y 0) = subst (Below past h xs b (node_key e)) is s.1 in (
          λ same. s.0.0 (subst (λ k. past.reached k) (sym same) known.0.0),
          λ v worth.
              let left = (shape.known y (link_live b (node_key e) link next s.1 there y is)).1 in
              let values : known.1.0 ≡ v = one_value h y known.1.0 v (known.1.1 left) worth in
              subst (λ k. node_key k < node_key e) values known.1.2,
        )

    pub added : Rebucketed (with_pointer h link (plain (Some own))) xs b (Adds own e)
    added = add_to h xs shape.form b link (link_of b (node_key e) link s.1)
        (λ y is. link_live b (node_key e) link next s.1 there y is) own e next s.0.3 s.3 above before there

    pub comes_in : (n : Name) → In n added.0 → In n (xs b) ⊎ (Some own ≡ Some n)
    comes_in n is = elim (spliced_in [] (item own e ∷ []) (xs b) added.0 n added.3 is) [
      | inl was ↦ inl was
      | inr new ↦ elim new [ inl same ↦ inr (ap Some (sym same)) | inr none ↦ absurd none ]
    ]

    stays_in : (n : Name) (o : Option Name) → pointer_at h (Field n 0) ≡ Some (plain o) → In n (xs b) → In n added.0
    stays_in n o at is = elim (spliced_back [] (item own e ∷ []) (xs b) added.0 n added.3 is) [
      | inl kept ↦ kept
      | inr none ↦ absurd none
    ]

    pub insert_acts : StaysGiven h (with_pointer h link (plain (Some own)))
        → Goes past h xs settled shape (with_pointer h link (plain (Some own))) (Inserting b e own link next k)
        (Answering Inserted)
    insert_acts given =
        turn_acts past h (with_pointer h link (plain (Some own))) xs (put xs b added.0) (Some own) settled shape
        (link_turn b (node_key e) link next (plain (Some own)) s.1 there (Adds own e) added (Some own) comes_in fresh
        given)
        (link_form b (node_key e) link next (plain (Some own)) s.1 there (Adds own e) added (Some own) comes_in fresh)
        (link_lives b (node_key e) link next (plain (Some own)) s.1 there (Adds own e) added (Some own) comes_in fresh
        stays_in)
        (Inserting b e own link next k) (Answering Inserted) s (λ n is. let same : own ≡ n = cc (is) in sym same)
        (λ n o. absurd o) (λ past' passed. tt)

  -- a new node is linked before the one with the next key, or the exchange is lost
  pub insert : (g b e : ℕ) (own : Name) (link : Spot) (next : Option Name) (k j : ℕ) (found : Ptr) (did : Touched)
      (o : Option Ptr) → pointer_at h link ≡ o
      → ChangesAt (CompareExchange (plain next) (plain (Some own))) j found link h o did
      → Stands past h xs (Inserting b e own link next k)
      → Does past h xs settled shape g (Inserting b e own link next k) did
  insert g b e own link next k j found did None at is s =
      subst (Does past h xs settled shape g (Inserting b e own link next k)) (sym is)
      (λ given. weak_here past h xs settled shape _ _ (refused g (Inserting b e own link next k) CellsFull) s)
  insert g b e own link next k j found did (Some ptr) at (inr is) s =
      subst (Does past h xs settled shape g (Inserting b e own link next k)) (sym is.1)
      (λ given. weak_here past h xs settled shape _ _ (refused g (Inserting b e own link next k) CellsFull) s)
  insert g b e own link next k j found did (Some ptr) at (inl is) s =
      subst (Does past h xs settled shape g (Inserting b e own link next k)) (sym is.1) (λ given.
      subst (λ (p : Ptr). StaysGiven h (with_pointer h link p)
      → Goes past h xs settled shape (with_pointer h link p) (Inserting b e own link next k) (Answering Inserted))
      (sym (aligned_at h (Some own)))
      (insert_acts b e own link next k s (at ∙ ap Some (is.0 ∙ aligned_at h next))) given)

  -- A NODE IS MARKED

  module _ (b key : ℕ) (link : Spot) (c : Name) (v : ℕ) (next : Option Name) (k : ℕ)
      (s : Stands past h xs (Marking b key link c v next k))
      (there : pointer_at h (Field c 0) ≡ Some (plain next)) where
    is_in : In c (xs b)
    is_in = unmarked_in past h xs settled shape b c next s.1 there

    -- the node's field is a link too, to what has a higher key than its own
    pub field_below : Below past h xs b (suc (node_key v)) (Field c 0)
    field_below = (s.1, (v, s.2, omega arith))

    pub marks : Rebucketed (with_pointer h (Field c 0) (marked next)) xs b (Marks h c)
    marks = mark_in h xs shape.form b c next is_in there

    pub comes_marked : (n : Name) → In n marks.0 → In n (xs b) ⊎ (None ≡ Some n)
    comes_marked n is = elim (spliced_in (marks.3.0 ∷ []) (with_mark marks.3.0 ∷ []) (xs b) marks.0 n marks.3.4 is) [
      | inl was ↦ inl was
      | inr new ↦ elim new [
        | inl same ↦ inl (subst (λ k. In k (xs b)) (sym (same ∙ marks.3.1)) is_in)
        | inr none ↦ absurd none
      ]
    ]

    pub stays_marked : (n : Name) → In n (xs b) → In n marks.0
    stays_marked n is = elim (spliced_back (marks.3.0 ∷ []) (with_mark marks.3.0 ∷ []) (xs b) marks.0 n marks.3.4 is) [
      | inl kept ↦ kept
      | inr old ↦ elim old [
        | inl same ↦ new_in (marks.3.0 ∷ []) (with_mark marks.3.0 ∷ []) (xs b) marks.0 n marks.3.4 (inl same)
        | inr none ↦ absurd none
      ]
    ]

    pub mark_acts : StaysGiven h (with_pointer h (Field c 0) (marked next))
        → Goes past h xs settled shape (with_pointer h (Field c 0) (marked next)) (Marking b key link c v next k)
        (Dropping b key link c v next)
    mark_acts given =
        let turn =
        link_turn b (suc (node_key v)) (Field c 0) next (marked next) field_below there (Marks h c) marks None
        comes_marked (λ n e. absurd (cc (e))) given in
        turn_acts past h (with_pointer h (Field c 0) (marked next)) xs (put xs b marks.0) None settled shape turn
        (link_form b (suc (node_key v)) (Field c 0) next (marked next) field_below there (Marks h c) marks None
        comes_marked (λ n e. absurd (cc (e))))
        (link_lives b (suc (node_key v)) (Field c 0) next (marked next) field_below there (Marks h c) marks None
        comes_marked (λ n e. absurd (cc (e))) (λ n o at is. stays_marked n is))
        (Marking b key link c v next k) (Dropping b key link c v next) s (λ n e. absurd (cc (e))) (λ n o. absurd o)
        (λ past' passed. (
          below_kept past past' h (with_pointer h (Field c 0) (marked next)) xs _ None None settled turn passed b key
              link s.0,
          passed.more c s.1.0,
          λ ptr at.
              let written = written_there h (Field c 0) (plain next) (marked next) there in
              let same : ptr ≡ marked next = cc (at, written) in (
                ap (λ (p : Ptr). p.name) same,
                λ none. cc (sym (ap (λ (p : Ptr). p.tag) same) ∙ none),
              ),
        ))

  -- the node of an entry is marked, which takes the entry out of the map, or the exchange is lost
  pub mark : (g b key : ℕ) (link : Spot) (c : Name) (v : ℕ) (next : Option Name) (k j : ℕ) (found : Ptr)
      (did : Touched) (o : Option Ptr) → pointer_at h (Field c 0) ≡ o
      → ChangesAt (CompareExchange (plain next) (marked next)) j found (Field c 0) h o did
      → Stands past h xs (Marking b key link c v next k)
      → Does past h xs settled shape g (Marking b key link c v next k) did
  mark g b key link c v next k j found did None e is s =
      subst (Does past h xs settled shape g (Marking b key link c v next k)) (sym is)
      (λ given. weak_here past h xs settled shape _ _ (refused g (Marking b key link c v next k) CellsFull) s)
  mark g b key link c v next k j found did (Some ptr) e (inr is) s =
      subst (Does past h xs settled shape g (Marking b key link c v next k)) (sym is.1)
      (λ given. weak_here past h xs settled shape _ _ (refused g (Marking b key link c v next k) CellsFull) s)
  mark g b key link c v next k j found did (Some ptr) e (inl is) s =
      subst (Does past h xs settled shape g (Marking b key link c v next k)) (sym is.1) (λ given.
      subst (λ (p : Ptr). StaysGiven h (with_pointer h (Field c 0) p)
      → Goes past h xs settled shape (with_pointer h (Field c 0) p) (Marking b key link c v next k)
      (Dropping b key link c v next)) (sym (mark_aligned h next shape.form.marks))
      (mark_acts b key link c v next k s (e ∙ ap Some (is.0 ∙ aligned_at h next))) given)
