-- What each exchange of a link makes of its bucket's nodes.
use Rattle.std.proofs.Common.{◌≡◌, ◌≢◌, ◌≤◌, ◌<◌, ℕ, suc, List, [], ◌∷◌, Option, Some, inl, inr}
use Rattle.std.proofs.Common.{refl, ap, sym, subst, ◌∙◌, arith}
use Rattle.epoch_cells.specs.declared.cells.name.Name.{Name}
use Rattle.epoch_laws.specs.declared.heap.access.Ptr.{Ptr}
use Rattle.epoch_laws.specs.declared.heap.access.Spot.{Spot}
use Rattle.epoch_laws.specs.declared.heap.access.Spot.TheVariants.{Root, Field}
use Rattle.epoch_laws.specs.Heap.{Heap, pointer_at, with_pointer}
use Rattle.epoch_laws.proofs.PointerSteps.{pointer_other}
use Rattle.epoch_structure_laws.proofs.Cells.{same_name, written_there}
use Rattle.epoch_structure_laws.specs.MapProgram.{node_key, plain, marked}
use Rattle.epoch_structure_laws.specs.MapEntries.{Item, EntryHoldsValue, with_tag, Chain, Ascends}
use Rattle.epoch_structure_laws.proofs.MapChains.{In, value_written, chain_kept, lower, not_behind, Splices}
use Rattle.epoch_structure_laws.proofs.MapChains.{splice_cons}

-- a field of another node stays where one is written
pub other_field : (h : Heap) (y : Name) (ptr : Ptr) (m : Name) → m ≢ y
    → pointer_at (with_pointer h (Field y 0) ptr) (Field m 0) ≡ pointer_at h (Field m 0)
other_field h y ptr m ne = pointer_other h (Field y 0) ptr (Field m 0) (λ e. ne (name_of e))
  where
    holder : Spot → Name
    holder (Field k f) = k
    holder (Root i) = y

    name_of : Field m 0 ≡ Field y 0 → m ≡ y
    name_of e = cc (e)

-- pointers that are the same have the same name and tag
pub same_names : (a b : Option Name) (s t : ℕ) → Some (with_tag a s) ≡ Some (with_tag b t) → a ≡ b
same_names a b s t e = let same : with_tag a s ≡ with_tag b t = cc (e) in ap (λ (q : Ptr). q.name) same

-- two equal pointers have equal tags
pub same_tags : (a b : Option Name) (s t : ℕ) → Some (with_tag a s) ≡ Some (with_tag b t) → s ≡ t
same_tags a b s t e = let same : with_tag a s ≡ with_tag b t = cc (e) in ap (λ (q : Ptr). q.tag) same

-- WHAT A CHANGE MAKES OF A CHAIN

-- from here on there are such nodes then, related to those before
abbrev pub Relinked : Heap → (List Item → List Item → Type 0) → ℕ → Option Name → List Item → Type 0
Relinked h' R low o xs = (zs : List Item) × Chain h' o zs × Ascends low zs × R xs zs

-- A node's field is written: what follows from it is shown once, and the nodes before it stay.
module _ (h h' : Heap) (y : Name) (R : List Item → List Item → Type 0)
    (other : (m : Name) → m ≢ y → pointer_at h' (Field m 0) ≡ pointer_at h (Field m 0))
    (value : (m : Name) (v : ℕ) → EntryHoldsValue h m v → EntryHoldsValue h' m v)
    (from : (low : ℕ) (x : Item) (next : Option Name) (xs : List Item) → x.name ≡ y → low ≤ node_key x.entry
    → EntryHoldsValue h x.name x.entry → pointer_at h (Field x.name 0) ≡ Some (with_tag next x.tag) → Chain h next xs
    → Ascends (suc (node_key x.entry)) xs → Relinked h' R low (Some x.name) (x ∷ xs))
    (cons : (x : Item) (next : Option Name) (xs zs : List Item) → EntryHoldsValue h x.name x.entry → Chain h next xs
    → Ascends (suc (node_key x.entry)) xs → R xs zs → R (x ∷ xs) (x ∷ zs)) where
  -- what is done at a node of an ascending chain is done once in it
  pub relinked : (low : ℕ) (o : Option Name) (xs : List Item) → Chain h o xs → Ascends low xs → In y xs
      → Relinked h' R low o xs
  relinked low o [] chain asc there = absurd there
  relinked low o (x ∷ xs) (next, name, worth, link, rest) asc there = elim (same_name x.name y) [
    | inl e ↦ subst (λ (p : Option Name). Relinked h' R low p (x ∷ xs)) (sym name)
        (from low x next xs e asc.0 worth link rest asc.1)
    | inr ne ↦
        let later : In y xs = elim there [ inl e ↦ absurd (ne (sym e)) | inr is ↦ is ] in
        let more = relinked (suc (node_key x.entry)) next xs rest asc.1 later in (
          x ∷ more.0,
          (next, name, value x.name x.entry worth, other x.name ne ∙ link, more.1),
          (asc.0, more.2),
          cons x next xs more.0 worth rest asc.1 more.3,
        )
  ]

-- the nodes behind stay
behind_kept : (h : Heap) (y : Name) (ptr : Ptr) (x : Item) (o : Option Name) (xs : List Item) → x.name ≡ y
    → EntryHoldsValue h x.name x.entry → Ascends (suc (node_key x.entry)) xs → Chain h o xs
    → Chain (with_pointer h (Field y 0) ptr) o xs
behind_kept h y ptr x o xs is worth asc chain =
    chain_kept h (with_pointer h (Field y 0) ptr) o xs
    (λ m p there e. other_field h y ptr m (λ same. not_behind h x o xs worth chain asc
    (subst (λ k. In k xs) (same ∙ sym is) there)) ∙ e)
    (λ m v there w. value_written h y ptr m v w) chain

-- A NODE IS PUT THERE

abbrev pub item : Name → ℕ → Item
item own e = record { name = own; entry = e; tag = 0 }

abbrev pub Adds : Name → ℕ → List Item → List Item → Type 0
Adds own e xs zs = Splices [] (item own e ∷ []) xs zs

-- the keys behind the new node are higher
raised : (h : Heap) (e low : ℕ) (o : Option Name) (xs : List Item)
    → ((m : Name) (w : ℕ) → o ≡ Some m → EntryHoldsValue h m w → node_key e < node_key w)
    → Chain h o xs → Ascends low xs → Ascends (suc (node_key e)) xs
raised h e low o [] above chain asc = tt
raised h e low o (x ∷ xs) above (next, name, worth, link, rest) asc =
    (omega (arith, above x.name x.entry name worth), asc.1)

-- the node points to where the link leads, and its key is between
module _ (h : Heap) (own : Name) (e : ℕ) (next : Option Name) (worth : EntryHoldsValue h own e)
    (mine : pointer_at h (Field own 0) ≡ Some (plain next))
    (above : (m : Name) (w : ℕ) → next ≡ Some m → EntryHoldsValue h m w → node_key e < node_key w) where
  -- behind a node
  pub added_behind : (y : Name) → pointer_at h (Field y 0) ≡ Some (plain next) → own ≢ y
      → ((v : ℕ) → EntryHoldsValue h y v → node_key v < node_key e)
      → (low : ℕ) (o : Option Name) (xs : List Item) → Chain h o xs → Ascends low xs → In y xs
      → Relinked (with_pointer h (Field y 0) (plain (Some own))) (Adds own e) low o xs
  added_behind y there apart below low o xs chain asc is_in =
      relinked h h' y (Adds own e) (λ m ne. other_field h y (plain (Some own)) m ne)
      (λ m v w. value_written h y (plain (Some own)) m v w) from
      (λ x o xs zs w chain asc adds. splice_cons [] (item own e ∷ []) xs zs x adds) low o xs chain asc is_in
    where
      h' : Heap
      h' = with_pointer h (Field y 0) (plain (Some own))

      from : (low : ℕ) (x : Item) (o : Option Name) (xs : List Item) → x.name ≡ y → low ≤ node_key x.entry
          → EntryHoldsValue h x.name x.entry → pointer_at h (Field x.name 0) ≡ Some (with_tag o x.tag) → Chain h o xs
          → Ascends (suc (node_key x.entry)) xs → Relinked (with_pointer h (Field y 0) (plain (Some own))) (Adds own e)
          low (Some x.name) (x ∷ xs)
      from low x o xs is le held link rest asc =
          let both = sym link ∙ subst (λ k. pointer_at h (Field k 0) ≡ Some (plain next)) (sym is) there in
          let name : o ≡ next = same_names o next x.tag 0 both in
          let tag : x.tag ≡ 0 = same_tags o next x.tag 0 both in
          let chain : Chain h next xs = subst (λ (p : Option Name). Chain h p xs) name rest in
          let written : pointer_at h' (Field x.name 0) ≡ Some (with_tag (Some own) x.tag) =
          subst (λ k. pointer_at h' (Field k 0) ≡ Some (with_tag (Some own) x.tag)) (sym is)
          (written_there h (Field y 0) (plain next) (plain (Some own)) there
          ∙ ap (λ (t : ℕ). Some (with_tag (Some own) t)) (sym tag)) in (
            x ∷ item own e ∷ xs,
            (
              Some own,
              refl,
              value_written h y (plain (Some own)) x.name x.entry held,
              written,
              (
                next,
                refl,
                value_written h y (plain (Some own)) own e worth,
                other_field h y (plain (Some own)) own apart ∙ mine,
                behind_kept h y (plain (Some own)) x next xs is held asc chain,
              ),
            ),
            (
              le,
              (
                omega (arith, below x.entry (subst (λ k. EntryHoldsValue h k x.entry) is held)),
                raised h e (suc (node_key x.entry)) next xs above chain asc,
              ),
            ),
            (x ∷ [], xs, refl, refl),
          )

  -- in front of all
  pub added_first : (i : ℕ) (xs : List Item) → Chain h next xs → Ascends 0 xs
      → Relinked (with_pointer h (Root i) (plain (Some own))) (Adds own e) 0 (Some own) xs
  added_first i xs chain asc = (
    item own e ∷ xs,
    (
      next,
      refl,
      worth,
      mine,
      chain_kept h (with_pointer h (Root i) (plain (Some own))) next xs (λ m p there to. to) (λ m v there w. w) chain,
    ),
    (omega arith, raised h e 0 next xs above chain asc),
    ([], xs, refl, refl),
  )

-- A MARKED NODE IS UNLINKED

abbrev pub Drops : Name → List Item → List Item → Type 0
Drops c xs zs =
    ((z : Item) × (z.name ≡ c) × (z.tag ≢ 0) × Splices (z ∷ []) [] xs zs) × In c xs × (¬ (In c zs))

module _ (h : Heap) (c : Name) (next : Option Name)
    (gone : (ptr : Ptr) → pointer_at h (Field c 0) ≡ Some ptr → (ptr.name ≡ next) × (ptr.tag ≢ 0)) where
  -- the first of these is the node
  record First (low : ℕ) (o : Option Name) (xs : List Item) : Type 0 where
    z : Item
    rest : List Item
    whole : xs ≡ z ∷ rest
    name : z.name ≡ c
    tag : z.tag ≢ 0
    worth : EntryHoldsValue h z.name z.entry
    chain : Chain h next rest
    low_key : low ≤ node_key z.entry
    sorted : Ascends (suc (node_key z.entry)) rest

  first : (low : ℕ) (o : Option Name) (xs : List Item) → o ≡ Some c → Chain h o xs → Ascends low xs → First low o xs
  first low o [] is chain asc = absurd (cc (chain, is))
  first low o (z ∷ rest) is (after, name, worth, link, chain) asc =
      let same : z.name ≡ c = cc (name, is) in
      let was = gone (with_tag after z.tag)
      (subst (λ k. pointer_at h (Field k 0) ≡ Some (with_tag after z.tag)) same link) in
      record {
        z = z;
        rest = rest;
        whole = refl;
        name = same;
        tag = was.1;
        worth = worth;
        chain = subst (λ (p : Option Name). Chain h p rest) was.0 chain;
        low_key = asc.0;
        sorted = asc.1;
      }

  -- from behind a node
  pub dropped_behind : (y : Name) → pointer_at h (Field y 0) ≡ Some (plain (Some c))
      → (low : ℕ) (o : Option Name) (xs : List Item) → Chain h o xs → Ascends low xs → In y xs
      → Relinked (with_pointer h (Field y 0) (plain next)) (Drops c) low o xs
  dropped_behind y there low o xs chain asc is_in =
      relinked h h' y (Drops c) (λ m ne. other_field h y (plain next) m ne)
      (λ m v w. value_written h y (plain next) m v w) from cons low o xs chain asc is_in
    where
      h' : Heap
      h' = with_pointer h (Field y 0) (plain next)

      cons : (x : Item) (o : Option Name) (xs zs : List Item) → EntryHoldsValue h x.name x.entry → Chain h o xs
          → Ascends (suc (node_key x.entry)) xs → Drops c xs zs → Drops c (x ∷ xs) (x ∷ zs)
      cons x o xs zs worth chain asc (drops, was, out) = (
        (drops.0, drops.1, drops.2, splice_cons (drops.0 ∷ []) [] xs zs x drops.3),
        inr was,
        λ is. elim is [
          | inl e ↦ not_behind h x o xs worth chain asc (subst (λ k. In k xs) e was)
          | inr later ↦ out later
        ],
      )

      from : (low : ℕ) (x : Item) (o : Option Name) (xs : List Item) → x.name ≡ y → low ≤ node_key x.entry
          → EntryHoldsValue h x.name x.entry → pointer_at h (Field x.name 0) ≡ Some (with_tag o x.tag) → Chain h o xs
          → Ascends (suc (node_key x.entry)) xs
          → Relinked (with_pointer h (Field y 0) (plain next)) (Drops c) low (Some x.name) (x ∷ xs)
      from low x o xs is le held link rest asc =
          subst (λ (l : List Item). Relinked h' (Drops c) low (Some x.name) (x ∷ l)) (sym f.whole) (
            x ∷ f.rest,
            (
              next,
              refl,
              value_written h y (plain next) x.name x.entry held,
              written,
              behind_kept h y (plain next) x next f.rest is held behind f.chain,
            ),
            (le, behind),
            (
              (f.z, f.name, f.tag, (x ∷ [], f.rest, refl, refl)),
              inr (inl (sym f.name)),
              λ there. elim there [
                | inl e ↦ not_behind h x o xs held rest asc (subst (λ (l : List Item). In x.name l) (sym f.whole)
                    (inl (sym e ∙ sym f.name)))
                | inr later ↦ not_behind h f.z next f.rest f.worth f.chain f.sorted
                    (subst (λ k. In k f.rest) (sym f.name) later)
              ],
            ),
          )
        where
          both : Some (with_tag o x.tag) ≡ Some (plain (Some c))
          both = sym link ∙ subst (λ k. pointer_at h (Field k 0) ≡ Some (plain (Some c))) (sym is) there

          f : First (suc (node_key x.entry)) o xs
          f = first (suc (node_key x.entry)) o xs (same_names o (Some c) x.tag 0 both) rest asc

          behind : Ascends (suc (node_key x.entry)) f.rest
          behind = lower (suc (node_key x.entry)) (suc (node_key f.z.entry)) f.rest (omega (arith, f.low_key)) f.sorted

          written : pointer_at h' (Field x.name 0) ≡ Some (with_tag next x.tag)
          written = subst (λ k. pointer_at h' (Field k 0) ≡ Some (with_tag next x.tag)) (sym is)
              (written_there h (Field y 0) (plain (Some c)) (plain next) there
              ∙ ap (λ (t : ℕ). Some (with_tag next t)) (sym (same_tags o (Some c) x.tag 0 both)))

  -- from in front
  pub dropped_first : (i : ℕ) (xs : List Item) → Chain h (Some c) xs → Ascends 0 xs
      → Relinked (with_pointer h (Root i) (plain next)) (Drops c) 0 next xs
  dropped_first i xs chain asc =
      subst (λ (l : List Item). Relinked (with_pointer h (Root i) (plain next)) (Drops c) 0 next l) (sym f.whole) (
        f.rest,
        chain_kept h (with_pointer h (Root i) (plain next)) next f.rest (λ m p there to. to) (λ m v there w. w)
            f.chain,
        lower 0 (suc (node_key f.z.entry)) f.rest (omega arith) f.sorted,
        (
          (f.z, f.name, f.tag, ([], f.rest, refl, refl)),
          inl (sym f.name),
          λ there. not_behind h f.z next f.rest f.worth f.chain f.sorted (subst (λ k. In k f.rest) (sym f.name) there),
        ),
      )
    where
      f : First 0 (Some c) xs
      f = first 0 (Some c) xs refl chain asc

-- A NODE IS MARKED

abbrev pub with_mark : Item → Item
with_mark z = record { name = z.name; entry = z.entry; tag = 1 }

abbrev pub Marks : Heap → Name → List Item → List Item → Type 0
Marks h c xs zs =
    (z : Item) × (z.name ≡ c) × (z.tag ≡ 0) × EntryHoldsValue h c z.entry
    × Splices (z ∷ []) (with_mark z ∷ []) xs zs

-- a node of a chain that is marked stays where it is, and the others stay as they are
pub marked_there : (h : Heap) (c : Name) (next : Option Name) → pointer_at h (Field c 0) ≡ Some (plain next)
    → (low : ℕ) (o : Option Name) (xs : List Item) → Chain h o xs → Ascends low xs → In c xs
    → Relinked (with_pointer h (Field c 0) (marked next)) (Marks h c) low o xs
marked_there h c next there low o xs chain asc is_in =
    relinked h h' c (Marks h c) (λ m ne. other_field h c (marked next) m ne)
    (λ m v w. value_written h c (marked next) m v w) from
    (λ x o xs zs w chain asc marks.
    (marks.0, marks.1, marks.2, marks.3, splice_cons (marks.0 ∷ []) (with_mark marks.0 ∷ []) xs zs x marks.4)) low o xs
    chain asc is_in
  where
    h' : Heap
    h' = with_pointer h (Field c 0) (marked next)

    from : (low : ℕ) (x : Item) (o : Option Name) (xs : List Item) → x.name ≡ c → low ≤ node_key x.entry
        → EntryHoldsValue h x.name x.entry → pointer_at h (Field x.name 0) ≡ Some (with_tag o x.tag) → Chain h o xs
        → Ascends (suc (node_key x.entry)) xs
        → Relinked (with_pointer h (Field c 0) (marked next)) (Marks h c) low (Some x.name) (x ∷ xs)
    from low x o xs is le held link rest asc =
        let both = sym link ∙ subst (λ k. pointer_at h (Field k 0) ≡ Some (plain next)) (sym is) there in
        let name : o ≡ next = same_names o next x.tag 0 both in
        let chain : Chain h next xs = subst (λ (p : Option Name). Chain h p xs) name rest in (
          with_mark x ∷ xs,
          (
            next,
            refl,
            value_written h c (marked next) x.name x.entry held,
            subst (λ k. pointer_at h' (Field k 0) ≡ Some (marked next)) (sym is)
                (written_there h (Field c 0) (plain next) (marked next) there),
            behind_kept h c (marked next) x next xs is held asc chain,
          ),
          (le, asc),
          (
            x,
            is,
            same_tags o next x.tag 0 both,
            subst (λ k. EntryHoldsValue h k x.entry) is held,
            ([], xs, refl, refl),
          ),
        )
