-- The nodes of one bucket, as they are met from its root on.
use Rattle.std.proofs.Common.{◌≡◌, ◌≤◌, ◌<◌, ℕ, suc, List, [], ◌∷◌, ◌++◌, Option, Some, None, ◌⊎◌, inl, inr}
use Rattle.std.proofs.Common.{refl, ap, sym, subst, ◌∙◌, arith, Bool, true, false, ◌==◌, if◌then◌else◌}
use Rattle.std.specs.Prelude.{option_map}
use Rattle.epoch_cells.specs.PlainCells.{readable}
use Rattle.epoch_cells.specs.declared.cells.name.Name.{Name}
use Rattle.epoch_laws.specs.declared.heap.access.Ptr.{Ptr}
use Rattle.epoch_laws.specs.declared.heap.access.Spot.TheVariants.{Field}
use Rattle.epoch_laws.specs.declared.heap.heap.Content.{Content}
use Rattle.epoch_laws.specs.Heap.{Cell, Heap, cell_at, with_cell_at, pointer_at, with_pointer, with_field}
use Rattle.epoch_laws.specs.Heap.{with_field_in}
use Rattle.epoch_laws.specs.Reach.{IsReachable, from_field}
use Rattle.epoch_structure_laws.proofs.Cells.{same_name, cell_kept, cell_filled}
use Rattle.epoch_structure_laws.specs.MapProgram.{node_key}
use Rattle.epoch_structure_laws.specs.MapEntries.{Item, EntryHoldsValue, with_tag, Chain, Ascends}

-- the name is that of one of these
abbrev pub In : Name → List Item → Type 0
In n [] = ⊥
In n (x ∷ xs) = (n ≡ x.name) ⊎ In n xs

-- names can be looked up in a list
pub in_or : (n : Name) (xs : List Item) → In n xs ⊎ (¬ (In n xs))
in_or n [] = inr (λ h. h)
in_or n (x ∷ xs) = elim (same_name n x.name) [
  | inl e ↦ inl (inl e)
  | inr ne ↦ elim (in_or n xs) [
    | inl there ↦ inl (inr there)
    | inr out ↦ inr (λ h. elim h [ inl e ↦ ne e | inr there ↦ out there ])
  ]
]

-- a node of two lists one behind the other is of the one or of the other
pub in_app : (n : Name) (xs ys : List Item) → In n (xs ++ ys) → In n xs ⊎ In n ys
in_app n [] ys there = inr there
in_app n (x ∷ xs) ys (inl e) = inl (inl e)
in_app n (x ∷ xs) ys (inr there) = elim (in_app n xs ys there) [ inl front ↦ inl (inr front) | inr back ↦ inr back ]

-- a node of the first list is one of both
pub in_front : (n : Name) (xs ys : List Item) → In n xs → In n (xs ++ ys)
in_front n [] ys there = absurd there
in_front n (x ∷ xs) ys (inl e) = inl e
in_front n (x ∷ xs) ys (inr there) = inr (in_front n xs ys there)

-- and so is a node of the second
pub in_back : (n : Name) (xs ys : List Item) → In n ys → In n (xs ++ ys)
in_back n [] ys there = there
in_back n (x ∷ xs) ys there = inr (in_back n xs ys there)

-- VALUES

-- what can be read is what the cell holds
pub readable_held : (c : Cell) (content : Content) → readable (Some c) ≡ Some content → c.value ≡ Some content
readable_held c content e = by_test (c.readers == 1073741823) e
  where
    by_test : (b : Bool) → (if b then None else c.value) ≡ Some content → c.value ≡ Some content
    by_test true e = absurd (cc (e))
    by_test false e = e

-- a field that is written leaves all values as they are
pub value_written : (h : Heap) (t : Name) (ptr : Ptr) (m : Name) (v : ℕ) → EntryHoldsValue h m v
    → EntryHoldsValue (with_pointer h (Field t 0) ptr) m v
value_written h t ptr m v w = by_cell (cell_at h t) refl
  where
    by_cell : (o : Option Cell) → cell_at h t ≡ o → EntryHoldsValue (with_field_in h t 0 ptr o) m v
    by_cell None there = w
    by_cell (Some c) there = elim (same_name m t) [
      | inr ne ↦ (w.0, w.1, cell_kept h t c _ m w.0 there ne w.2, w.3, w.4)
      | inl e ↦
          let same : c ≡ w.0 = cc (there, subst (λ k. cell_at h k ≡ Some w.0) e w.2) in
          let after : Cell = record c { value = option_map (λ content. with_field content 0 ptr) c.value } in
          let held : after.value ≡ Some (with_field w.1 0 ptr) =
          ap (λ (o : Option Content). option_map (λ content. with_field content 0 ptr) o)
          (ap (λ (y : Cell). y.value) same ∙ w.3) in (
            after,
            with_field w.1 0 ptr,
            subst (λ k. cell_at (with_cell_at h t after) k ≡ Some after) (sym e)
                (cell_filled h t c after (with_field w.1 0 ptr) there refl held),
            held,
            w.4,
          )
    ]

-- a cell holds one value
pub one_value : (h : Heap) (n : Name) (v w : ℕ) → EntryHoldsValue h n v → EntryHoldsValue h n w → v ≡ w
one_value h n v w a b =
    let cell : a.0 ≡ b.0 = cc (a.2, b.2) in
    let content : a.1 ≡ b.1 = cc (sym a.3 ∙ ap (λ (c : Cell). c.value) cell ∙ b.3) in
    sym a.4 ∙ ap (λ (c : Content). c.value) content ∙ b.4

-- CHAINS

-- a chain stays where the fields and values of its nodes do
pub chain_kept : (h h' : Heap) (o : Option Name) (xs : List Item)
    → ((n : Name) (ptr : Ptr) → In n xs → pointer_at h (Field n 0) ≡ Some ptr → pointer_at h' (Field n 0) ≡ Some ptr)
    → ((n : Name) (v : ℕ) → In n xs → EntryHoldsValue h n v → EntryHoldsValue h' n v)
    → Chain h o xs → Chain h' o xs
chain_kept h h' o [] fields values chain = chain
chain_kept h h' o (x ∷ xs) fields values (next, name, worth, link, rest) = (
  next,
  name,
  values x.name x.entry (inl refl) worth,
  fields x.name (with_tag next x.tag) (inl refl) link,
  chain_kept h h' next xs (λ m p there. fields m p (inr there)) (λ m v there. values m v (inr there)) rest,
)

-- what a node of a chain holds
pub record Holds (h : Heap) (n : Name) : Type 0 where
  pub entry : ℕ
  pub next : Option Name
  pub tag : ℕ
  pub worth : EntryHoldsValue h n entry
  pub link : pointer_at h (Field n 0) ≡ Some (with_tag next tag)

-- each node of a chain has its cell
pub item_in : (h : Heap) (o : Option Name) (xs : List Item) (n : Name) → Chain h o xs → In n xs → Holds h n
item_in h o [] n chain there = absurd there
item_in h o (x ∷ xs) n (next, name, worth, link, rest) (inl e) =
    subst (Holds h) (sym e)
    (record { entry = x.entry; next = next; tag = x.tag; worth = worth; link = link })
item_in h o (x ∷ xs) n (next, name, worth, link, rest) (inr there) = item_in h next xs n rest there

-- the node at which a chain begins is one of it
pub head_in : (h : Heap) (o : Option Name) (xs : List Item) (n : Name) → Chain h o xs → o ≡ Some n → In n xs
head_in h o [] n chain e = absurd (cc (chain, e))
head_in h o (x ∷ xs) n chain e = inl (cc (chain.1, e))

-- whoever follows one of the chain is in it
pub follows_in : (h : Heap) (o : Option Name) (xs : List Item) (n m : Name) (ptr : Ptr) → Chain h o xs → In n xs
    → pointer_at h (Field n 0) ≡ Some ptr → ptr.name ≡ Some m → In m xs
follows_in h o [] n m ptr chain there to name = absurd there
follows_in h o (x ∷ xs) n m ptr (next, is, worth, link, rest) (inr there) to name =
    inr (follows_in h next xs n m ptr rest there to name)
follows_in h o (x ∷ xs) n m ptr (next, is, worth, link, rest) (inl e) to name =
    let same : with_tag next x.tag ≡ ptr = cc (link, subst (λ k. pointer_at h (Field k 0) ≡ Some ptr) e to) in
    inr (head_in h next xs m rest (ap (λ (p : Ptr). p.name) same ∙ name))

-- each node of a chain is in reach where its first one is
pub chain_reached : (h : Heap) (o : Option Name) (xs : List Item) → ((x : Name) → o ≡ Some x → IsReachable h x)
    → Chain h o xs → (n : Name) → In n xs → IsReachable h n
chain_reached h o [] reach chain n there = absurd there
chain_reached h o (x ∷ xs) reach (next, name, worth, link, rest) n (inl e) =
    subst (IsReachable h) (sym e) (reach x.name name)
chain_reached h o (x ∷ xs) reach (next, name, worth, link, rest) n (inr there) =
    chain_reached h next xs (λ m e. from_field x.name 0 m (reach x.name name) (with_tag next x.tag, link, e)) rest n
    there

-- ORDER

-- the keys ascend from any lower one on
pub lower : (low high : ℕ) (xs : List Item) → low ≤ high → Ascends high xs → Ascends low xs
lower low high [] le asc = tt
lower low high (x ∷ xs) le asc = (omega (arith, le, asc.0), asc.1)

-- a node of a lower key is not among them
pub not_among : (h : Heap) (n : Name) (v low : ℕ) (o : Option Name) (xs : List Item) → EntryHoldsValue h n v
    → node_key v < low → Chain h o xs → Ascends low xs → ¬ (In n xs)
not_among h n v low o [] worth lt chain asc there = there
not_among h n v low o (x ∷ xs) worth lt (next, name, held, link, rest) asc (inl e) =
    let same : v ≡ x.entry = one_value h x.name v x.entry (subst (λ k. EntryHoldsValue h k v) e worth) held in
    let keys : node_key v ≡ node_key x.entry = ap node_key same in
    absurd (omega (arith, lt, asc.0, keys))
not_among h n v low o (x ∷ xs) worth lt (next, name, held, link, rest) asc (inr there) =
    not_among h n v (suc (node_key x.entry)) next xs worth (omega (arith, lt, asc.0)) rest asc.1 there

-- a node is not behind itself
pub not_behind : (h : Heap) (x : Item) (o : Option Name) (xs : List Item) → EntryHoldsValue h x.name x.entry
    → Chain h o xs
    → Ascends (suc (node_key x.entry)) xs → ¬ (In x.name xs)
not_behind h x o xs worth chain asc =
    not_among h x.name x.entry (suc (node_key x.entry)) o xs worth (omega arith) chain asc

-- SPLICES

-- in the first list stands one part, and in the other another in its place
abbrev pub Splices : List Item → List Item → List Item → List Item → Type 0
Splices mid mid' xs zs =
    (before : List Item) × (after : List Item) × (xs ≡ before ++ (mid ++ after)) × (zs ≡ before ++ (mid' ++ after))

-- a splice further back is a splice of the whole list
pub splice_cons : (mid mid' xs zs : List Item) (x : Item) → Splices mid mid' xs zs
    → Splices mid mid' (x ∷ xs) (x ∷ zs)
splice_cons mid mid' xs zs x (before, after, e, e') =
    (x ∷ before, after, ap (λ (l : List Item). x ∷ l) e, ap (λ (l : List Item). x ∷ l) e')

-- what is in the second list is in the first, or in the new part
pub spliced_in : (mid mid' xs zs : List Item) (n : Name) → Splices mid mid' xs zs → In n zs → In n xs ⊎ In n mid'
spliced_in mid mid' xs zs n (before, after, e, e') there =
    elim (in_app n before (mid' ++ after) (subst (λ (l : List Item). In n l) e' there)) [
      | inl front ↦ inl (subst (λ (l : List Item). In n l) (sym e) (in_front n before (mid ++ after) front))
      | inr back ↦ elim (in_app n mid' after back) [
        | inl new ↦ inr new
        | inr last ↦ inl (subst (λ (l : List Item). In n l) (sym e)
            (in_back n before (mid ++ after) (in_back n mid after last)))
      ]
    ]

-- a node that was in the list is in the new one, or was spliced out
pub spliced_back : (mid mid' xs zs : List Item) (n : Name) → Splices mid mid' xs zs → In n xs → In n zs ⊎ In n mid
spliced_back mid mid' xs zs n (before, after, e, e') there =
    spliced_in mid' mid zs xs n (before, after, e', e) there

-- the new part is in the second list
pub new_in : (mid mid' xs zs : List Item) (n : Name) → Splices mid mid' xs zs → In n mid' → In n zs
new_in mid mid' xs zs n (before, after, e, e') there =
    subst (λ (l : List Item). In n l) (sym e') (in_back n before (mid' ++ after) (in_front n mid' after there))
