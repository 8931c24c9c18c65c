-- How a map stands in the cells, and what each of its exchanges makes of it.
use Rattle.std.proofs.Common.{◌≡◌, ◌≢◌, ◌≤◌, ◌<◌, ℕ, zero, suc, List, Option, Some, None, ◌⊎◌, inl, inr, refl}
use Rattle.std.proofs.Common.{ap, sym, subst, ◌∙◌}
use Rattle.epoch_cells.specs.declared.cells.name.Name.{Name}
use Rattle.epoch_laws.specs.declared.heap.access.Ptr.{Ptr}
use Rattle.epoch_laws.specs.declared.heap.access.Spot.{Spot}
use Rattle.epoch_laws.specs.declared.heap.access.Spot.TheVariants.{Root, Field}
use Rattle.epoch_laws.specs.Heap.{Heap, Cell, cell_at, pointer_at, with_pointer, with_field_in}
use Rattle.epoch_laws.specs.Reach.{Leads, IsReachable, from_root, from_field}
use Rattle.epoch_laws.proofs.PointerSteps.{pointer_other}
use Rattle.epoch_structure_laws.proofs.Cells.{written_there}
use Rattle.epoch_structure_laws.proofs.Custody.{same_number}
use Rattle.epoch_structure_laws.specs.MapProgram.{node_key, plain, marked}
use Rattle.epoch_structure_laws.specs.MapEntries.{Item, EntryHoldsValue, Chain, Rooted, BucketHolds, Ascends}
use Rattle.epoch_structure_laws.proofs.MapChains.{In, head_in, follows_in, chain_reached, chain_kept, value_written}
use Rattle.epoch_structure_laws.proofs.MapLinks.{Relinked, Adds, Drops, Marks, added_behind, added_first}
use Rattle.epoch_structure_laws.proofs.MapLinks.{dropped_behind, dropped_first, marked_there, other_field, same_names}

-- each bucket's nodes
abbrev pub Buckets : Type 0
Buckets = ℕ → List Item

abbrev pub InAny : Name → Buckets → Type 0
InAny n xs = (i : ℕ) × In n (xs i)

-- how the map stands in the cells, with these nodes in its buckets
pub record Form (h : Heap) (xs : Buckets) : Type 0 where
  pub held : (i : ℕ) → BucketHolds h i (xs i)
  pub sorted : (i : ℕ) → Ascends 0 (xs i)
  pub apart : (i j : ℕ) (n : Name) → In n (xs i) → In n (xs j) → i ≡ j
  pub single : (y : Name) (f : ℕ) (x : Name) → ¬ (Leads h (Field y (suc f)) x)
  pub marks : 2 ≤ h.align

-- REACH

rooted_first : (h : Heap) (i : ℕ) (head : Option Name) (x : Name) → Rooted h i head → head ≡ Some x → IsReachable h x
rooted_first h i head x (inl there) e = from_root i x (plain head, there, e)
rooted_first h i head x (inr none) e = absurd (cc (none.1, e))

-- each node of a bucket is in reach
pub in_reach : (h : Heap) (xs : Buckets) → Form h xs → (n : Name) → InAny n xs → IsReachable h n
in_reach h xs form n (i, there) =
    let bucket = form.held i in
    chain_reached h bucket.0 (xs i) (λ x e. rooted_first h i bucket.0 x bucket.1 e) bucket.2 n there

-- what a bucket's root leads to is its first node
pub root_in : (h : Heap) (xs : Buckets) → Form h xs → (i : ℕ) (ptr : Ptr) (x : Name) → pointer_at h (Root i) ≡ Some ptr
    → ptr.name ≡ Some x → In x (xs i)
root_in h xs form i ptr x there name = by_root (form.held i)
  where
    by_root : BucketHolds h i (xs i) → In x (xs i)
    by_root (head, inl rooted, chain) =
        let same : plain head ≡ ptr = cc (rooted, there) in
        head_in h head (xs i) x chain (ap (λ (p : Ptr). p.name) same ∙ name)
    by_root (head, inr none, chain) = absurd (cc (none.0, there))

-- what is in reach is in a bucket
pub reached_in : (h : Heap) (xs : Buckets) → Form h xs → (x : Name) → IsReachable h x → InAny x xs
reached_in h xs form x (from_root i _ leads) = (i, root_in h xs form i leads.0 x leads.1 leads.2)
reached_in h xs form x (from_field y (suc f) _ r leads) = absurd (form.single y f x leads)
reached_in h xs form x (from_field y zero _ r leads) =
    let there = reached_in h xs form y r in
    let bucket = form.held there.0 in
    (there.0, follows_in h bucket.0 (xs there.0) y x leads.0 bucket.2 there.1 leads.1 leads.2)

-- ONE BUCKET CHANGES

abbrev pub chosen : {j i : ℕ} → (j ≡ i) ⊎ (j ≢ i) → List Item → List Item → List Item
chosen (inl e) zs xs = zs
chosen (inr ne) zs xs = xs

-- the nodes where bucket i has these
abbrev pub put : Buckets → ℕ → List Item → Buckets
put xs i zs j = chosen (same_number j i) zs (xs j)

-- what holds of the one's nodes, and of the others', holds of each bucket's
pub by_bucket : (P : ℕ → List Item → Type 0) (xs : Buckets) (i : ℕ) (zs : List Item) → P i zs
    → ((j : ℕ) → j ≢ i → P j (xs j)) → (j : ℕ) → P j (put xs i zs j)
by_bucket P xs i zs one others j = by_test (same_number j i)
  where
    by_test : (t : (j ≡ i) ⊎ (j ≢ i)) → P j (chosen t zs (xs j))
    by_test (inl e) = subst (λ k. P k zs) (sym e) one
    by_test (inr ne) = others j ne

-- the one's nodes are there
pub put_here : (xs : Buckets) (i : ℕ) (zs : List Item) → put xs i zs i ≡ zs
put_here xs i zs = by_test (same_number i i)
  where
    by_test : (t : (i ≡ i) ⊎ (i ≢ i)) → chosen t zs (xs i) ≡ zs
    by_test (inl e) = refl
    by_test (inr ne) = absurd (ne refl)

-- a bucket that is put in leaves the others
pub put_other : (xs : Buckets) (i : ℕ) (zs : List Item) (j : ℕ) → j ≢ i → put xs i zs j ≡ xs j
put_other xs i zs j off = by_test (same_number j i)
  where
    by_test : (t : (j ≡ i) ⊎ (j ≢ i)) → chosen t zs (xs j) ≡ xs j
    by_test (inl e) = absurd (off e)
    by_test (inr ne) = refl

-- a name that is in a bucket then was there, or is the new one's
pub put_in : (xs : Buckets) (i : ℕ) (zs : List Item) (New : Name → Type 0)
    → ((n : Name) → In n zs → In n (xs i) ⊎ New n) → (j : ℕ) (n : Name) → In n (put xs i zs j)
    → In n (xs j) ⊎ ((j ≡ i) × New n)
put_in xs i zs New comes j n there = by_test (same_number j i) there
  where
    by_test : (t : (j ≡ i) ⊎ (j ≢ i)) → In n (chosen t zs (xs j)) → In n (xs j) ⊎ ((j ≡ i) × New n)
    by_test (inl e) there = elim (comes n there) [
      | inl was ↦ inl (subst (λ k. In n (xs k)) (sym e) was)
      | inr new ↦ inr (e, new)
    ]
    by_test (inr ne) there = inl there

module _ (h h' : Heap) (xs : Buckets) (form : Form h xs) (i : ℕ) (zs : List Item) (New : Name → Type 0)
    (held : BucketHolds h' i zs) (sorted : Ascends 0 zs)
    (comes : (n : Name) → In n zs → In n (xs i) ⊎ New n) (new : (n : Name) → New n → ¬ (InAny n xs))
    (others : (j : ℕ) → j ≢ i → BucketHolds h' j (xs j))
    (single : (y : Name) (f : ℕ) (x : Name) → ¬ (Leads h' (Field y (suc f)) x)) (align : h'.align ≡ h.align) where
  -- the map with the new bucket stands as it must
  pub put_form : Form h' (put xs i zs)
  put_form = record {
    held = by_bucket (BucketHolds h') xs i zs held others;
    sorted = by_bucket (λ j l. Ascends 0 l) xs i zs sorted (λ j ne. form.sorted j);
    apart = λ j k n a b. elim (put_in xs i zs New comes j n a) [
      | inl was ↦ elim (put_in xs i zs New comes k n b) [
        | inl is ↦ form.apart j k n was is
        | inr fresh ↦ absurd (new n fresh.1 (j, was))
      ]
      | inr fresh ↦ elim (put_in xs i zs New comes k n b) [
        | inl is ↦ absurd (new n fresh.1 (k, is))
        | inr also ↦ fresh.0 ∙ sym also.0
      ]
    ];
    single = single;
    marks = subst (λ (a : ℕ). 2 ≤ a) (sym align) form.marks;
  }

-- WHAT AN EXCHANGE LEAVES

-- a field that is written leads elsewhere, or the spot is another
pub single_kept : (h : Heap) (spot : Spot) (ptr : Ptr) → ((y : Name) (f : ℕ) → Field y (suc f) ≢ spot)
    → ((y : Name) (f : ℕ) (x : Name) → ¬ (Leads h (Field y (suc f)) x))
    → (y : Name) (f : ℕ) (x : Name) → ¬ (Leads (with_pointer h spot ptr) (Field y (suc f)) x)
single_kept h spot ptr apart single y f x leads =
    single y f x (leads.0, sym (pointer_other h spot ptr (Field y (suc f)) (apart y f)) ∙ leads.1, leads.2)

-- a root is no field of a node
pub root_apart : (i : ℕ) (y : Name) (f : ℕ) → Field y (suc f) ≢ Root i
root_apart i y f e = cc (e)

-- only the first field of a node links it
pub field_apart : (n y : Name) (f : ℕ) → Field y (suc f) ≢ Field n 0
field_apart n y f e = cc (e)

-- a store changes no alignment
pub align_kept : (h : Heap) (spot : Spot) (ptr : Ptr) → (with_pointer h spot ptr).align ≡ h.align
align_kept h (Root i) ptr = refl
align_kept h (Field n f) ptr = by_cell (cell_at h n)
  where
    by_cell : (o : Option Cell) → (with_field_in h n f ptr o).align ≡ h.align
    by_cell None = refl
    by_cell (Some c) = refl

-- a bucket that the root and no node of which is written
pub bucket_kept : (h h' : Heap) (j : ℕ) (xs : List Item) → pointer_at h' (Root j) ≡ pointer_at h (Root j)
    → ((n : Name) (ptr : Ptr) → In n xs → pointer_at h (Field n 0) ≡ Some ptr → pointer_at h' (Field n 0) ≡ Some ptr)
    → ((n : Name) (v : ℕ) → In n xs → EntryHoldsValue h n v → EntryHoldsValue h' n v) → BucketHolds h j xs
    → BucketHolds h' j xs
bucket_kept h h' j xs root fields values (head, inl there, chain) =
    (head, inl (root ∙ there), chain_kept h h' head xs fields values chain)
bucket_kept h h' j xs root fields values (head, inr none, chain) =
    (head, inr (root ∙ none.0, none.1), chain_kept h h' head xs fields values chain)

-- A LINK'S BUCKET

-- the link is this bucket's root, or the field of a node that is in this bucket if it is in one
abbrev pub LinkOf : Buckets → ℕ → Spot → Type 0
LinkOf xs b (Root i) = i ≡ b
LinkOf xs b (Field y zero) = InAny y xs → In y (xs b)
LinkOf xs b (Field y (suc f)) = ⊥

-- the nodes of the bucket after an exchange of a link, related to those before
abbrev pub Rebucketed : Heap → Buckets → ℕ → (List Item → List Item → Type 0) → Type 0
Rebucketed h' xs b R = (zs : List Item) × BucketHolds h' b zs × Ascends 0 zs × R (xs b) zs

-- of a bucket whose node's field is written
pub by_field : (h : Heap) (xs : Buckets) → Form h xs → (b : ℕ) (y : Name) (ptr : Ptr)
    → (R : List Item → List Item → Type 0)
    → ((o : Option Name) → Chain h o (xs b) → Relinked (with_pointer h (Field y 0) ptr) R 0 o (xs b))
    → Rebucketed (with_pointer h (Field y 0) ptr) xs b R
by_field h xs form b y ptr R link = by_root (form.held b)
  where
    root : pointer_at (with_pointer h (Field y 0) ptr) (Root b) ≡ pointer_at h (Root b)
    root = pointer_other h (Field y 0) ptr (Root b) (λ e. cc (e))

    by_root : BucketHolds h b (xs b) → Rebucketed (with_pointer h (Field y 0) ptr) xs b R
    by_root (head, inl there, chain) =
        let more = link head chain in (more.0, (head, inl (root ∙ there), more.1), more.2, more.3)
    by_root (head, inr none, chain) =
        let more = link head chain in (more.0, (head, inr (root ∙ none.0, none.1), more.1), more.2, more.3)

-- or whose root is written
pub by_root : (h : Heap) (xs : Buckets) → Form h xs → (b : ℕ) (old new : Option Name)
    → pointer_at h (Root b) ≡ Some (plain old) → (R : List Item → List Item → Type 0)
    → (Chain h old (xs b) → Relinked (with_pointer h (Root b) (plain new)) R 0 new (xs b))
    → Rebucketed (with_pointer h (Root b) (plain new)) xs b R
by_root h xs form b old new there R link = by_bucket_root (form.held b)
  where
    by_bucket_root : BucketHolds h b (xs b) → Rebucketed (with_pointer h (Root b) (plain new)) xs b R
    by_bucket_root (head, inr none, chain) = absurd (cc (none.0, there))
    by_bucket_root (head, inl rooted, chain) =
        let same : head ≡ old = same_names head old 0 0 (sym rooted ∙ there) in
        let more = link (subst (λ (o : Option Name). Chain h o (xs b)) same chain) in
        (more.0, (new, inl (written_there h (Root b) (plain old) (plain new) there), more.1), more.2, more.3)

-- THE OTHER BUCKETS

others_by_field : (h : Heap) (xs : Buckets) → Form h xs → (b : ℕ) (y : Name) (ptr : Ptr) → In y (xs b) → (j : ℕ)
    → j ≢ b → BucketHolds (with_pointer h (Field y 0) ptr) j (xs j)
others_by_field h xs form b y ptr there j ne =
    bucket_kept h (with_pointer h (Field y 0) ptr) j (xs j) (pointer_other h (Field y 0) ptr (Root j) (λ e. cc (e)))
    (λ m p is e. other_field h y ptr m (λ same. ne (form.apart j b y (subst (λ k. In k (xs j)) same is) there)) ∙ e)
    (λ m v is w. value_written h y ptr m v w) (form.held j)

others_by_root : (h : Heap) (xs : Buckets) → Form h xs → (b : ℕ) (ptr : Ptr) (j : ℕ) → j ≢ b
    → BucketHolds (with_pointer h (Root b) ptr) j (xs j)
others_by_root h xs form b ptr j ne =
    bucket_kept h (with_pointer h (Root b) ptr) j (xs j)
    (pointer_other h (Root b) ptr (Root j) (λ e. ne (number e))) (λ m p is e. e) (λ m v is w. w) (form.held j)
  where
    index : Spot → ℕ
    index (Root k) = k
    index (Field n f) = b

    number : Root j ≡ Root b → j ≡ b
    number e = ap index e

-- the others stay where a link of this bucket is written
pub others_kept : (h : Heap) (xs : Buckets) → Form h xs → (b : ℕ) (link : Spot) (ptr : Ptr) → LinkOf xs b link
    → ((y : Name) → link ≡ Field y 0 → InAny y xs) → (j : ℕ) → j ≢ b → BucketHolds (with_pointer h link ptr) j (xs j)
others_kept h xs form b (Root i) ptr of live j ne =
    others_by_root h xs form i ptr j (λ e. ne (e ∙ of))
others_kept h xs form b (Field y zero) ptr of live j ne =
    others_by_field h xs form b y ptr (of (live y refl)) j ne
others_kept h xs form b (Field y (suc f)) ptr of live j ne = absurd of

-- a link is a root, or the first field of a node
pub link_single : (xs : Buckets) (b : ℕ) (link : Spot) → LinkOf xs b link → (y : Name) (f : ℕ)
    → Field y (suc f) ≢ link
link_single xs b (Root i) of y f = root_apart i y f
link_single xs b (Field n zero) of y f = field_apart n y f
link_single xs b (Field n (suc k)) of y f = absurd of

-- what a link of this bucket leads to is in this bucket
pub link_in : (h : Heap) (xs : Buckets) → Form h xs → (b : ℕ) (link : Spot) (ptr : Ptr) (x : Name) → LinkOf xs b link
    → ((y : Name) → link ≡ Field y 0 → InAny y xs) → pointer_at h link ≡ Some ptr → ptr.name ≡ Some x → In x (xs b)
link_in h xs form b (Root i) ptr x of live there name =
    subst (λ k. In x (xs k)) of (root_in h xs form i ptr x there name)
link_in h xs form b (Field y zero) ptr x of live there name =
    let bucket = form.held b in follows_in h bucket.0 (xs b) y x ptr bucket.2 (of (live y refl)) there name
link_in h xs form b (Field y (suc f)) ptr x of live there name = absurd of

-- THE EXCHANGES

module _ (h : Heap) (xs : Buckets) (form : Form h xs) (b : ℕ) (link : Spot) (of : LinkOf xs b link)
    (live : (y : Name) → link ≡ Field y 0 → InAny y xs) where
  -- a marked node is unlinked
  pub drop_from : (c : Name) (next : Option Name) → pointer_at h link ≡ Some (plain (Some c))
      → ((ptr : Ptr) → pointer_at h (Field c 0) ≡ Some ptr → (ptr.name ≡ next) × (ptr.tag ≢ 0))
      → Rebucketed (with_pointer h link (plain next)) xs b (Drops c)
  drop_from c next there gone = by_link link of live there
    where
      by_link : (spot : Spot) → LinkOf xs b spot → ((y : Name) → spot ≡ Field y 0 → InAny y xs)
          → pointer_at h spot ≡ Some (plain (Some c)) → Rebucketed (with_pointer h spot (plain next)) xs b (Drops c)
      by_link (Root i) of live there = subst (λ k. Rebucketed (with_pointer h (Root i) (plain next)) xs k (Drops c)) of
          (by_root h xs form i (Some c) next there (Drops c)
          (λ chain. dropped_first h c next gone i (xs i) chain (form.sorted i)))
      by_link (Field y zero) of live there =
          by_field h xs form b y (plain next) (Drops c)
          (λ o chain. dropped_behind h c next gone y there 0 o (xs b) chain (form.sorted b) (of (live y refl)))
      by_link (Field y (suc f)) of live there = absurd of

  -- a node is put there
  pub add_to : (own : Name) (e : ℕ) (next : Option Name) → EntryHoldsValue h own e
      → pointer_at h (Field own 0) ≡ Some (plain next)
      → ((m : Name) (w : ℕ) → next ≡ Some m → EntryHoldsValue h m w → node_key e < node_key w)
      → ((y : Name) → link ≡ Field y 0 → (own ≢ y) × ((v : ℕ) → EntryHoldsValue h y v → node_key v < node_key e))
      → pointer_at h link ≡ Some (plain next) → Rebucketed (with_pointer h link (plain (Some own))) xs b (Adds own e)
  add_to own e next worth mine above below there = by_link link of live below there
    where
      by_link : (spot : Spot) → LinkOf xs b spot → ((y : Name) → spot ≡ Field y 0 → InAny y xs)
          → ((y : Name) → spot ≡ Field y 0 → (own ≢ y) × ((v : ℕ) → EntryHoldsValue h y v → node_key v < node_key e))
          → pointer_at h spot ≡ Some (plain next)
          → Rebucketed (with_pointer h spot (plain (Some own))) xs b (Adds own e)
      by_link (Root i) of live below there =
          subst (λ k. Rebucketed (with_pointer h (Root i) (plain (Some own))) xs k (Adds own e)) of
          (by_root h xs form i next (Some own) there (Adds own e)
          (λ chain. added_first h own e next worth mine above i (xs i) chain (form.sorted i)))
      by_link (Field y zero) of live below there =
          by_field h xs form b y (plain (Some own)) (Adds own e)
          (λ o chain. added_behind h own e next worth mine above y there (below y refl).0 (below y refl).1 0 o (xs b)
          chain (form.sorted b) (of (live y refl)))
      by_link (Field y (suc f)) of live below there = absurd of

-- a node is marked
pub mark_in : (h : Heap) (xs : Buckets) → Form h xs → (b : ℕ) (c : Name) (next : Option Name) → In c (xs b)
    → pointer_at h (Field c 0) ≡ Some (plain next)
    → Rebucketed (with_pointer h (Field c 0) (marked next)) xs b (Marks h c)
mark_in h xs form b c next is there =
    by_field h xs form b c (marked next) (Marks h c)
    (λ o chain. marked_there h c next there 0 o (xs b) chain (form.sorted b) is)
