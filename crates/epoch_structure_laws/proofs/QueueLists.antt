-- The values in a queue's cells, by the nodes that hold them, and what each exchange makes of them.
use Rattle.std.proofs.Common.{◌≡◌, ◌≢◌, ℕ, List, [], ◌∷◌, ◌++◌, Option, Some, None, ◌⊎◌, inl, inr, refl, ap, sym, subst}
use Rattle.std.proofs.Common.{◌∙◌, Bool, true, false, ◌==◌, if◌then◌else◌}
use Rattle.std.specs.Prelude.{option_map}
use Rattle.epoch_cells.specs.PlainCells.{readable}
use Rattle.epoch_cells.specs.declared.cells.name.Name.{Name}
use Rattle.epoch_laws.specs.declared.heap.access.Ptr.{Ptr}
use Rattle.epoch_laws.specs.declared.heap.access.Spot.TheVariants.{Root, Field}
use Rattle.epoch_laws.specs.declared.heap.heap.Content.{Content}
use Rattle.epoch_laws.specs.Heap.{Cell, Heap, cell_at, with_cell_at, pointer_at, with_pointer, with_field}
use Rattle.epoch_laws.specs.Heap.{with_field_in}
use Rattle.epoch_structure_laws.proofs.Cells.{same_name, cell_kept, cell_filled, content_found}
use Rattle.epoch_structure_laws.specs.QueueValues.{HoldsValue, HoldsFrom, HoldsBehind, QueueHolds}
use Rattle.epoch_structure_laws.proofs.QueueForm.{In, at, at_same, Next, next_same, Chain, Form}

-- names can be looked up in a list
pub in_or : (n : Name) (ns : List Name) → In n ns ⊎ (¬ (In n ns))
in_or n [] = inr (λ h. h)
in_or n (m ∷ ms) = elim (same_name n m) [
  | inl e ↦ inl (inl e)
  | inr ne ↦ elim (in_or n ms) [
    | inl there ↦ inl (inr there)
    | inr out ↦ inr (λ h. elim h [ inl e ↦ ne e | inr there ↦ out there ])
  ]
]

-- what can be read is what the cell holds
pub readable_held : (c : Cell) (content : Content) → readable (Some c) ≡ Some content → c.value ≡ Some content
readable_held c content e = by_test (c.readers == 1073741823) e
  where
    by_test : (b : Bool) → (if b then None else c.value) ≡ Some content → c.value ≡ Some content
    by_test true e = absurd (cc (e))
    by_test false e = e

-- a field that is written leaves all values as they are
pub value_written : (h : Heap) (t : Name) (ptr : Ptr) (m : Name) (v : ℕ) → HoldsValue h m v
    → HoldsValue (with_pointer h (Field t 0) ptr) m v
value_written h t ptr m v w = by_cell (cell_at h t) refl
  where
    by_cell : (o : Option Cell) → cell_at h t ≡ o → HoldsValue (with_field_in h t 0 ptr o) m v
    by_cell None there = w
    by_cell (Some c) there = elim (same_name m t) [
      | inr ne ↦ (w.0, w.1, cell_kept h t c _ m w.0 there ne w.2, w.3, w.4)
      | inl e ↦
          let same : c ≡ w.0 = cc (there, subst (λ k. cell_at h k ≡ Some w.0) e w.2) in
          let after : Cell = record c { value = option_map (λ content. with_field content 0 ptr) c.value } in
          let held : after.value ≡ Some (with_field w.1 0 ptr) =
          ap (λ (o : Option Content). option_map (λ content. with_field content 0 ptr) o)
          (ap (λ (y : Cell). y.value) same ∙ w.3) in (
            after,
            with_field w.1 0 ptr,
            subst (λ k. cell_at (with_cell_at h t after) k ≡ Some after) (sym e)
                (cell_filled h t c after (with_field w.1 0 ptr) there refl held),
            held,
            w.4,
          )
    ]

-- a cell holds one value
pub one_value : (h : Heap) (n : Name) (v w : ℕ) → HoldsValue h n v → HoldsValue h n w → v ≡ w
one_value h n v w a b =
    let cell : a.0 ≡ b.0 = cc (a.2, b.2) in
    let content : a.1 ≡ b.1 = cc (sym a.3 ∙ ap (λ (c : Cell). c.value) cell ∙ b.3) in
    sym a.4 ∙ ap (λ (c : Content). c.value) content ∙ b.4

-- WHAT STAYS

-- the values stay where the nodes' fields and values do
from_kept : (h h' : Heap) (o : Option Name) (ns : List Name) (vs : List ℕ)
    → ((n : Name) (next : Option Name) → In n ns → Next h n next → Next h' n next)
    → ((n : Name) (v : ℕ) → In n ns → HoldsValue h n v → HoldsValue h' n v)
    → Chain h o ns → HoldsFrom h o vs → HoldsFrom h' o vs
from_kept h h' o ns [] fields values chain holds = holds
from_kept h h' o [] (v ∷ vs) fields values chain holds = absurd (cc (chain, holds.2))
from_kept h h' o (m ∷ ms) (v ∷ vs) fields values (next, name, to, apart, rest) (n, after, is, worth, leads, behind) =
    let same : m ≡ n = cc (name, is) in
    let one : after ≡ next = next_same h n after next leads (subst (λ k. Next h k next) same to) in
    let there : In n (m ∷ ms) = inl (sym same) in (
      n,
      after,
      is,
      values n v there worth,
      fields n after there leads,
      from_kept h h' after ms vs (λ k w is. fields k w (inr is)) (λ k w is. values k w (inr is))
          (subst (λ (p : Option Name). Chain h p ms) (sym one) rest) behind,
    )

-- a step that leaves the head, the links and the values of the list leaves what the queue holds
pub holds_kept : (h h' : Heap) (xs : List Name) (form : Form h xs) (vs : List ℕ)
    → pointer_at h' (Root 0) ≡ pointer_at h (Root 0)
    → ((n : Name) (next : Option Name) → In n xs → Next h n next → Next h' n next)
    → ((n : Name) (v : ℕ) → In n xs → HoldsValue h n v → HoldsValue h' n v) → QueueHolds h vs → QueueHolds h' vs
holds_kept h h' xs form vs root fields values (head, rooted, behind) =
    (head, root ∙ rooted, by_head head (at_same head form.head (sym rooted ∙ form.rooted)) behind)
  where
    by_names : (n : Name) (ns : List Name) → xs ≡ ns → form.head ≡ Some n → Chain h form.head ns
        → HoldsBehind h (Some n) vs → HoldsBehind h' (Some n) vs
    by_names n [] whole is chain holds = absurd (cc (chain, is))
    by_names n (m ∷ ms) whole is (next, name, to, apart, rest) (after, leads, holds) =
        let same : m ≡ n = cc (name, is) in
        let one : after ≡ next = next_same h n after next leads (subst (λ k. Next h k next) same to) in
        let inside : (k : Name) → In k (m ∷ ms) → In k xs =
        λ k there. subst (λ (l : List Name). In k l) (sym whole) there
        in (
          after,
          fields n after (inside n (inl (sym same))) leads,
          from_kept h h' after ms vs (λ k w is. fields k w (inside k (inr is)))
              (λ k w is. values k w (inside k (inr is)))
              (subst (λ (p : Option Name). Chain h p ms) (sym one) rest) holds,
        )

    by_head : (o : Option Name) → o ≡ form.head → HoldsBehind h o vs → HoldsBehind h' o vs
    by_head None is holds = holds
    by_head (Some n) is holds = by_names n xs refl (sym is) form.chain holds

-- WHAT IS ADDED

-- The null of the node t becomes a pointer to n, the cell of which holds v.
module _ (h h' : Heap) (t n : Name) (v : ℕ) (none : Next h t None) (written : Next h' t (Some n))
    (own : Next h' n None) (worth : HoldsValue h' n v)
    (other : (m : Name) (next : Option Name) → m ≢ t → Next h m next → Next h' m next)
    (values : (m : Name) (w : ℕ) → HoldsValue h m w → HoldsValue h' m w) where
  -- behind t itself nothing was
  ended : (m : Name) (o : Option Name) (vs : List ℕ) → m ≡ t → Next h m o → HoldsFrom h o vs
      → (o' : Option Name) × Next h' m o' × HoldsFrom h' o' (vs ++ v ∷ [])
  ended m o vs e to holds = (
    Some n,
    subst (λ k. Next h' k (Some n)) (sym e) written,
    at_end vs (subst (λ (p : Option Name). HoldsFrom h p vs)
        (next_same h t o None (subst (λ k. Next h k o) e to) none) holds),
  )
    where
      at_end : (vs : List ℕ) → HoldsFrom h None vs → HoldsFrom h' (Some n) (vs ++ v ∷ [])
      at_end [] holds = (n, None, refl, worth, own, refl)
      at_end (w ∷ ws) holds = absurd (cc (holds.2))

  -- behind each node up to t, the value is added at the end
  grown : (m : Name) (o : Option Name) (ns : List Name) (vs : List ℕ) → Next h m o → Chain h o ns → In t (m ∷ ns)
      → HoldsFrom h o vs → (o' : Option Name) × Next h' m o' × HoldsFrom h' o' (vs ++ v ∷ [])
  grown m o [] vs to chain there holds = elim there [
    | inl e ↦ ended m o vs (sym e) to holds
    | inr nothing ↦ absurd nothing
  ]
  grown m o (k ∷ ks) [] to chain there holds = absurd (cc (chain.1, holds))
  grown m o (k ∷ ks) (w ∷ ws) to (next, name, leads, apart, rest) there (y, after, is, held, on, behind) =
      elim (same_name m t) [
        | inl e ↦ ended m o (w ∷ ws) e to (y, after, is, held, on, behind)
        | inr ne ↦ elim there [
          | inl e ↦ absurd (ne (sym e))
          | inr later ↦
              let same : k ≡ y = cc (name, is) in
              let one : after ≡ next = next_same h y after next on (subst (λ j. Next h j next) same leads) in
              let more = grown y after ks ws on (subst (λ (p : Option Name). Chain h p ks) (sym one) rest)
              (subst (λ j. In t (j ∷ ks)) same later) behind in
              (o, other m o ne to, (y, more.0, is, values y w held, more.1, more.2))
        ]
      ]

  -- a node that is put behind adds its value at the end
  pub holds_more : (xs : List Name) (form : Form h xs) (vs : List ℕ) → In t xs
      → pointer_at h' (Root 0) ≡ pointer_at h (Root 0) → QueueHolds h vs → QueueHolds h' (vs ++ v ∷ [])
  holds_more xs form vs there root (head, rooted, behind) =
      let same : head ≡ form.head = at_same head form.head (sym rooted ∙ form.rooted) in
      (head, root ∙ rooted, by_names head same xs form.chain there behind)
    where
      by_names : (o : Option Name) → o ≡ form.head → (ns : List Name) → Chain h form.head ns → In t ns
          → HoldsBehind h o vs → HoldsBehind h' o (vs ++ v ∷ [])
      by_names o is [] chain there holds = absurd there
      by_names None is (m ∷ ms) chain there holds = absurd (cc (is, chain.1))
      by_names (Some k) is (m ∷ ms) (next, name, to, apart, rest) there (after, leads, holds) =
          let same : m ≡ k = cc (name, is) in
          let one : after ≡ next = next_same h k after next leads (subst (λ j. Next h j next) same to) in
          let more = grown k after ms vs leads (subst (λ (p : Option Name). Chain h p ms) (sym one) rest)
          (subst (λ j. In t (j ∷ ms)) same there) holds in
          (more.0, more.1, more.2)

-- WHAT IS TAKEN

-- The head becomes its next: the front's value, which that one holds, is off.
pub holds_less : (h h' : Heap) (n q : Name) (v : ℕ) (vs : List ℕ) → pointer_at h (Root 0) ≡ Some (at (Some n))
    → Next h n (Some q) → HoldsValue h q v → pointer_at h' (Root 0) ≡ Some (at (Some q))
    → ((ws : List ℕ) (next : Option Name) → Next h q next → HoldsFrom h next ws
    → Next h' q next × HoldsFrom h' next ws)
    → QueueHolds h vs → (ws : List ℕ) × (vs ≡ v ∷ ws) × QueueHolds h' ws
holds_less h h' n q v vs rooted to worth taken keeps (head, entry, behind) =
    by_head head (at_same head (Some n) (sym entry ∙ rooted)) behind
  where
    by_values : (o : Option Name) (us : List ℕ) → o ≡ Some q → HoldsFrom h o us
        → (ws : List ℕ) × (us ≡ v ∷ ws) × QueueHolds h' ws
    by_values o [] is holds = absurd (cc (holds, is))
    by_values o (u ∷ us) is (y, next, name, held, leads, rest) =
        let same : y ≡ q = cc (name, is) in
        let one : u ≡ v = one_value h q u v (subst (λ k. HoldsValue h k u) same held) worth in
        let kept = keeps us next (subst (λ k. Next h k next) same leads) rest in
        (us, ap (λ (w : ℕ). w ∷ us) one, (Some q, taken, (next, kept.0, kept.1)))

    by_head : (o : Option Name) → o ≡ Some n → HoldsBehind h o vs → (ws : List ℕ) × (vs ≡ v ∷ ws) × QueueHolds h' ws
    by_head None is holds = absurd (cc (is))
    by_head (Some m) is (next, leads, holds) =
        let same : m ≡ n = cc (is) in
        by_values next vs (next_same h n next (Some q) (subst (λ k. Next h k next) same leads) to) holds

-- WHAT THERE IS

-- the chain's nodes hold values
listed : (h : Heap) (o : Option Name) (ns : List Name) → Chain h o ns → (vs : List ℕ) × HoldsFrom h o vs
listed h o [] chain = ([], chain)
listed h o (n ∷ ns) (next, name, to, apart, rest) =
    let there = content_found h n 0 (at next) to in
    let more = listed h next ns rest in
    (there.1.value ∷ more.0, (n, next, name, (there.0, there.1, there.2, there.3, refl), to, more.1))

-- the nodes of a queue hold some list of values
pub holds_some : (h : Heap) (xs : List Name) → Form h xs → (vs : List ℕ) × QueueHolds h vs
holds_some h xs form =
    let behind = by_names form.head xs form.chain in (behind.0, (form.head, form.rooted, behind.1))
  where
    by_names : (o : Option Name) (ns : List Name) → Chain h o ns → (vs : List ℕ) × HoldsBehind h o vs
    by_names None ns chain = ([], refl)
    by_names (Some k) [] chain = absurd (cc (chain))
    by_names (Some k) (m ∷ ms) (next, name, to, apart, rest) =
        let more = listed h next ms rest in
        (more.0, (next, subst (λ j. Next h j next) (let same : m ≡ k = cc (name) in same) to, more.1))

-- a queue of one node holds none
pub holds_none : (h : Heap) (n : Name) (vs : List ℕ) → pointer_at h (Root 0) ≡ Some (at (Some n)) → Next h n None
    → QueueHolds h vs → vs ≡ []
holds_none h n vs rooted to (head, entry, behind) = by_head head (at_same head (Some n) (sym entry ∙ rooted)) behind
  where
    by_values : (us : List ℕ) → HoldsFrom h None us → us ≡ []
    by_values [] holds = refl
    by_values (u ∷ us) holds = absurd (cc (holds.2))

    by_head : (o : Option Name) → o ≡ Some n → HoldsBehind h o vs → vs ≡ []
    by_head None is holds = holds
    by_head (Some m) is (next, leads, holds) =
        let same : m ≡ n = cc (is) in
        by_values vs (subst (λ (p : Option Name). HoldsFrom h p vs)
        (next_same h n next None (subst (λ k. Next h k next) same leads) to) holds)
