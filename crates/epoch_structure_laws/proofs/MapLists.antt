-- The entries of a bucket's nodes, and what each splice of the nodes makes of them.
use Rattle.std.proofs.Common.{◌≡◌, ◌≢◌, ◌≤◌, ◌<◌, ℕ, zero, suc, List, [], ◌∷◌, ◌++◌, Option, Some, None, ◌⊎◌, inl, inr}
use Rattle.std.proofs.Common.{refl, ap, sym, subst, ◌∙◌, arith}
use Rattle.epoch_cells.specs.declared.cells.name.Name.{Name}
use Rattle.epoch_laws.specs.declared.heap.access.Ptr.{Ptr}
use Rattle.epoch_laws.specs.declared.heap.access.Spot.TheVariants.{Root, Field}
use Rattle.epoch_laws.specs.Heap.{Heap, pointer_at}
use Rattle.epoch_structure_laws.proofs.Cells.{same_name}
use Rattle.epoch_structure_laws.specs.MapProgram.{node_key, plain}
use Rattle.epoch_structure_laws.specs.MapEntries.{Item, EntryHoldsValue, with_tag, Chain, Rooted, BucketHolds, Ascends}
use Rattle.epoch_structure_laws.specs.MapEntries.{unless_marked, map_entries, MapHolds, Has, Lacks, LeadsPast}
use Rattle.epoch_structure_laws.proofs.MapChains.{In, one_value}
use Rattle.epoch_structure_laws.proofs.MapLinks.{same_names, same_tags}

-- ONE MAP

-- from one node on there is one list of nodes
pub one_chain : (h : Heap) (o : Option Name) (xs ys : List Item) → Chain h o xs → Chain h o ys → xs ≡ ys
one_chain h o [] [] a b = refl
one_chain h o [] (y ∷ ys) a b = absurd (cc (a, b.1))
one_chain h o (x ∷ xs) [] a b = absurd (cc (b, a.1))
one_chain h o (x ∷ xs) (y ∷ ys) (next, name, worth, link, rest) (after, named, value, to, behind) =
    let names : x.name ≡ y.name = cc (name, named) in
    let both = sym (subst (λ k. pointer_at h (Field k 0) ≡ Some (with_tag next x.tag)) names link) ∙ to in
    let one : next ≡ after = same_names next after x.tag y.tag both in
    let tags : x.tag ≡ y.tag = same_tags next after x.tag y.tag both in
    let values : x.entry ≡ y.entry =
    one_value h y.name x.entry y.entry (subst (λ k. EntryHoldsValue h k x.entry) names worth) value in
    let first : x ≡ y = λ i. record { name = names i; entry = values i; tag = tags i } in
    let others : xs ≡ ys =
    one_chain h after xs ys (subst (λ (p : Option Name). Chain h p xs) one rest) behind in
    cc (first, others)

one_head : (h : Heap) (i : ℕ) (a b : Option Name) → Rooted h i a → Rooted h i b → a ≡ b
one_head h i a b (inl there) (inl at) = same_names a b 0 0 (sym there ∙ at)
one_head h i a b (inl there) (inr none) = absurd (cc (there, none.0))
one_head h i a b (inr none) (inl at) = absurd (cc (at, none.0))
one_head h i a b (inr none) (inr nil) = none.1 ∙ sym nil.1

-- a heap shows one list of nodes for each bucket
pub one_bucket : (h : Heap) (i : ℕ) (xs ys : List Item) → BucketHolds h i xs → BucketHolds h i ys → xs ≡ ys
one_bucket h i xs ys (head, rooted, chain) (other, root, nodes) =
    let same : head ≡ other = one_head h i head other rooted root in
    one_chain h other xs ys (subst (λ (p : Option Name). Chain h p xs) same chain) nodes

-- the cells hold the entries of one map at most
pub every_heap_holds_one_map : (h : Heap) (i : ℕ) (vs ws : List ℕ) → MapHolds h i vs → MapHolds h i ws → vs ≡ ws
every_heap_holds_one_map h i vs ws (xs, a, is) (ys, b, are) =
    sym is ∙ ap map_entries (one_bucket h i xs ys a b) ∙ are

-- SPLICES

unless_app : (v tag : ℕ) (us ws : List ℕ) → unless_marked v tag (us ++ ws) ≡ unless_marked v tag us ++ ws
unless_app v zero us ws = refl
unless_app v (suc tag) us ws = refl

-- the entries of two lists of nodes are those of the one and then of the other
pub entries_app : (xs ys : List Item) → map_entries (xs ++ ys) ≡ map_entries xs ++ map_entries ys
entries_app [] ys = refl
entries_app (x ∷ xs) ys =
    ap (λ (vs : List ℕ). unless_marked x.entry x.tag vs) (entries_app xs ys)
    ∙ unless_app x.entry x.tag (map_entries xs) (map_entries ys)

-- the entry of a node without a mark, and of one that has a mark
pub entry_first : (x : Item) (xs : List Item) → x.tag ≡ 0 → map_entries (x ∷ xs) ≡ x.entry ∷ map_entries xs
entry_first x xs none = ap (λ (t : ℕ). unless_marked x.entry t (map_entries xs)) none

-- a marked node has no entry
pub entry_gone : (x : Item) (xs : List Item) → x.tag ≢ 0 → map_entries (x ∷ xs) ≡ map_entries xs
entry_gone x xs some = by_tag x.tag some
  where
    by_tag : (t : ℕ) → t ≢ 0 → unless_marked x.entry t (map_entries xs) ≡ map_entries xs
    by_tag zero ne = absurd (ne refl)
    by_tag (suc t) ne = refl

-- ORDER

lacks_unless : (key v tag : ℕ) (vs : List ℕ) → node_key v ≢ key → Lacks key vs → Lacks key (unless_marked v tag vs)
lacks_unless key v zero vs ne rest = (ne, rest)
lacks_unless key v (suc tag) vs ne rest = rest

-- where all keys are higher, none is this one
pub lacks_above : (key low : ℕ) (xs : List Item) → key < low → Ascends low xs → Lacks key (map_entries xs)
lacks_above key low [] lt asc = tt
lacks_above key low (x ∷ xs) lt asc =
    lacks_unless key x.entry x.tag (map_entries xs) (λ e. absurd (omega (arith, lt, asc.0, e)))
    (lacks_above key (suc (node_key x.entry)) xs (omega (arith, lt, asc.0)) asc.1)

-- a node's key is as high as the lowest
pub key_above : (h : Heap) (low : ℕ) (o : Option Name) (xs : List Item) (c : Name) (v : ℕ) → Chain h o xs
    → Ascends low xs → In c xs → EntryHoldsValue h c v → low ≤ node_key v
key_above h low o [] c v chain asc there worth = absurd there
key_above h low o (x ∷ xs) c v (next, name, held, link, rest) asc (inl e) worth =
    let same : x.entry ≡ v = one_value h c x.entry v (subst (λ k. EntryHoldsValue h k x.entry) (sym e) held) worth in
    subst (λ w. low ≤ node_key w) same asc.0
key_above h low o (x ∷ xs) c v (next, name, held, link, rest) asc (inr there) worth =
    let above = key_above h (suc (node_key x.entry)) next xs c v rest asc.1 there worth in omega (arith, asc.0, above)

-- where the first node's key is higher, none has this one
pub lacks_first : (h : Heap) (key low : ℕ) (o : Option Name) (xs : List Item) → Chain h o xs → Ascends low xs
    → LeadsPast h key o → Lacks key (map_entries xs)
lacks_first h key low o [] chain asc leads = tt
lacks_first h key low o (x ∷ xs) (next, name, held, link, rest) asc leads =
    let past : (w : ℕ) × EntryHoldsValue h x.name w × (key < node_key w) =
    subst (λ (p : Option Name). LeadsPast h key p) name leads in
    let same : past.0 ≡ x.entry = one_value h x.name past.0 x.entry past.1 held in
    let lt : key < node_key x.entry = subst (λ w. key < node_key w) same past.2 in
    lacks_above key (node_key x.entry) (x ∷ xs) lt (le_self (node_key x.entry), asc.1)
  where
    le_self : (n : ℕ) → n ≤ n
    le_self n = omega arith

-- where a node's key is lower, and that of what it leads to is higher, none has this one
pub lacks_behind : (h : Heap) (key low : ℕ) (o : Option Name) (xs : List Item) (c : Name) (v : ℕ) (ptr : Ptr)
    → Chain h o xs → Ascends low xs → In c xs → EntryHoldsValue h c v → node_key v < key
    → pointer_at h (Field c 0) ≡ Some ptr → LeadsPast h key ptr.name → Lacks key (map_entries xs)
lacks_behind h key low o [] c v ptr chain asc there worth lt to leads = absurd there
lacks_behind h key low o (x ∷ xs) c v ptr (next, name, held, link, rest) asc there worth lt to leads =
    elim (same_name x.name c) [
      | inl e ↦
          let same : x.entry ≡ v = one_value h c x.entry v (subst (λ k. EntryHoldsValue h k x.entry) e held) worth in
          let both : with_tag next x.tag ≡ ptr =
          cc (link, subst (λ k. pointer_at h (Field k 0) ≡ Some ptr) (sym e) to) in
          let name : ptr.name ≡ next = sym (ap (λ (p : Ptr). p.name) both) in
          lacks_unless key x.entry x.tag (map_entries xs)
          (λ is. absurd (omega (arith, lt, sym (ap node_key same) ∙ is)))
          (lacks_first h key (suc (node_key x.entry)) next xs rest asc.1
          (subst (λ (p : Option Name). LeadsPast h key p) name leads))
      | inr ne ↦
          let later : In c xs = elim there [ inl e ↦ absurd (ne (sym e)) | inr is ↦ is ] in
          let above = key_above h (suc (node_key x.entry)) next xs c v rest asc.1 later worth in
          lacks_unless key x.entry x.tag (map_entries xs) (λ is. absurd (omega (arith, above, lt, is)))
          (lacks_behind h key (suc (node_key x.entry)) next xs c v ptr rest asc.1 later worth lt to leads)
    ]

-- the entry of a node without a mark is there
has_unless : (v w tag : ℕ) (vs : List ℕ) → Has v vs → Has v (unless_marked w tag vs)
has_unless v w zero vs has = inr has
has_unless v w (suc tag) vs has = has

-- a node that is not marked has its entry in the map
pub has_entry : (h : Heap) (o : Option Name) (xs : List Item) (c : Name) (v : ℕ) (next : Option Name) → Chain h o xs
    → In c xs → EntryHoldsValue h c v → pointer_at h (Field c 0) ≡ Some (plain next) → Has v (map_entries xs)
has_entry h o [] c v after chain there worth to = absurd there
has_entry h o (x ∷ xs) c v after (next, name, held, link, rest) (inl e) worth to =
    let same : v ≡ x.entry = one_value h c v x.entry worth (subst (λ k. EntryHoldsValue h k x.entry) (sym e) held) in
    let none : x.tag ≡ 0 = same_tags next after x.tag 0
    (sym link ∙ subst (λ k. pointer_at h (Field k 0) ≡ Some (plain after)) e to) in
    subst (λ (vs : List ℕ). Has v vs) (sym (entry_first x xs none)) (inl same)
has_entry h o (x ∷ xs) c v after (next, name, held, link, rest) (inr there) worth to =
    has_unless v x.entry x.tag (map_entries xs) (has_entry h next xs c v after rest there worth to)

-- the keys of what stands beside a node are not its own
pub lacks_beside : (x : Item) (low : ℕ) (before after : List Item) → Ascends low (before ++ (x ∷ after))
    → Lacks (node_key x.entry) (map_entries (before ++ after))
lacks_beside x low [] after asc = lacks_above (node_key x.entry) (suc (node_key x.entry)) after (omega arith) asc.1
lacks_beside x low (y ∷ before) after asc =
    lacks_unless (node_key x.entry) y.entry y.tag (map_entries (before ++ after))
    (λ e. absurd (omega (arith, lowest (suc (node_key y.entry)) before asc.1, e)))
    (lacks_beside x (suc (node_key y.entry)) before after asc.1)
  where
    lowest : (low : ℕ) (ys : List Item) → Ascends low (ys ++ (x ∷ after)) → low ≤ node_key x.entry
    lowest low [] asc = asc.0
    lowest low (y ∷ ys) asc =
        let more = lowest (suc (node_key y.entry)) ys asc.1 in omega (arith, asc.0, more)
