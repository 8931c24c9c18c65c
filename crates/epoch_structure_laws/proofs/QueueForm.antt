-- How a queue stands in the cells, and what each of its exchanges makes of it.
use Rattle.std.proofs.Common.{◌≡◌, ◌≢◌, ℕ, zero, suc, List, [], ◌∷◌, ◌++◌, Option, Some, None, ◌⊎◌, inl, inr, refl, ap}
use Rattle.std.proofs.Common.{sym, subst, ◌∙◌}
use Rattle.epoch_cells.specs.declared.cells.name.Name.{Name}
use Rattle.epoch_laws.specs.declared.heap.access.Ptr.{Ptr}
use Rattle.epoch_laws.specs.declared.heap.access.Spot.{Spot}
use Rattle.epoch_laws.specs.declared.heap.access.Spot.TheVariants.{Root, Field}
use Rattle.epoch_laws.specs.Heap.{Heap, pointer_at, with_pointer}
use Rattle.epoch_laws.specs.Reach.{Leads, IsReachable, from_root, from_field}
use Rattle.epoch_laws.proofs.PointerSteps.{pointer_other}
use Rattle.epoch_structure_laws.proofs.Cells.{same_name, written_there}

-- the name is one of these
abbrev pub In : Name → List Name → Type 0
In n [] = ⊥
In n (m ∷ ms) = (n ≡ m) ⊎ In n ms

-- an untagged pointer
abbrev pub at : Option Name → Ptr
at o = record { name = o; tag = 0 }

-- a pointer without a tag tells which node it leads to
pub at_same : (a b : Option Name) → Some (at a) ≡ Some (at b) → a ≡ b
at_same a b e = let same : at a ≡ at b = cc (e) in ap (λ (q : Ptr). q.name) same

-- the field of the node holds this, untagged
abbrev pub Next : Heap → Name → Option Name → Type 0
Next h n o = pointer_at h (Field n 0) ≡ Some (at o)

-- a node has one next node, or none
pub next_same : (h : Heap) (n : Name) (a b : Option Name) → Next h n a → Next h n b → a ≡ b
next_same h n a b one other = at_same a b (sym one ∙ other)

-- the names met from a pointer along the fields
abbrev pub Chain : Heap → Option Name → List Name → Type 0
Chain h o [] = o ≡ None
Chain h o (n ∷ ns) = (next : Option Name) × (o ≡ Some n) × Next h n next × (¬ (In n ns)) × Chain h next ns

-- a chain stays where the fields of its nodes do
pub chain_kept : (h h' : Heap) (o : Option Name) (ns : List Name)
    → ((n : Name) (next : Option Name) → In n ns → Next h n next → Next h' n next) → Chain h o ns → Chain h' o ns
chain_kept h h' o [] keep chain = chain
chain_kept h h' o (n ∷ ns) keep (next, name, to, apart, rest) =
    (next, name, keep n next (inl refl) to, apart, chain_kept h h' next ns (λ m w there. keep m w (inr there)) rest)

-- each node of a chain has a pointer to the next, or null
pub next_in : (h : Heap) (o : Option Name) (ns : List Name) (n : Name) → Chain h o ns → In n ns
    → (next : Option Name) × Next h n next
next_in h o [] n chain there = absurd there
next_in h o (m ∷ ms) n (next, name, to, apart, rest) (inl e) = (next, subst (λ k. Next h k next) (sym e) to)
next_in h o (m ∷ ms) n (next, name, to, apart, rest) (inr there) = next_in h next ms n rest there

-- whoever follows one of the chain is in it
pub follows_in : (h : Heap) (o : Option Name) (ns : List Name) (n x : Name) → Chain h o ns → In n ns → Next h n (Some x)
    → In x ns
follows_in h o [] n x chain there to = absurd there
follows_in h o (m ∷ ms) n x (next, name, old, apart, rest) (inr there) to = inr (follows_in h next ms n x rest there to)
follows_in h o (m ∷ ms) n x (next, name, old, apart, rest) (inl e) to =
    inr (first ms rest (next_same h m next (Some x) old (subst (λ k. Next h k (Some x)) e to)))
  where
    first : (ms : List Name) → Chain h next ms → next ≡ Some x → In x ms
    first [] chain e = absurd (cc (chain, e))
    first (k ∷ ks) chain e = inl (cc (chain.1, e))

-- who has no next is the last
none_follow : (h : Heap) (ns : List Name) → Chain h None ns → ns ≡ []
none_follow h [] chain = refl
none_follow h (n ∷ ns) chain = absurd (cc (chain.1))

-- the tail is the last one, or leads to it
abbrev pub IsNear : Heap → List Name → Name → Type 0
IsNear h xs t = (In t xs × Next h t None) ⊎ ((m : Name) × Next h t (Some m) × Next h m None × In m xs)

-- how the queue stands in the cells, with these nodes from the head on
pub record Form (h : Heap) (xs : List Name) : Type 0 where
  pub head : Option Name
  pub rooted : pointer_at h (Root 0) ≡ Some (at head)
  pub last : Option Name
  pub tailed : pointer_at h (Root 1) ≡ Some (at last)
  pub two : (i : ℕ) (x : Name) → ¬ (Leads h (Root (suc (suc i))) x)
  pub single : (y : Name) (f : ℕ) (x : Name) → ¬ (Leads h (Field y (suc f)) x)
  pub chain : Chain h head xs
  pub near : (t : Name) → last ≡ Some t → IsNear h xs t
  pub bare : last ≡ None → (n : Name) → In n xs → Next h n None  -- nobody follows before there is a tail

-- REACH

-- what an untagged pointer leads to is its name
led : (h : Heap) (spot : Spot) (o : Option Name) (x : Name) → pointer_at h spot ≡ Some (at o) → Leads h spot x
    → o ≡ Some x
led h spot o x e (ptr, entry, name) =
    let same : at o ≡ ptr = cc (e, entry) in ap (λ (q : Ptr). q.name) same ∙ name

-- the node that the tail leads to is in reach, also while it is off the list
pub tail_reached : (h : Heap) (xs : List Name) (form : Form h xs) (t : Name) → form.last ≡ Some t → IsReachable h t
tail_reached h xs form t e = from_root 1 t (at form.last, form.tailed, e)

-- each node of a chain is in reach where its first one is
chain_reached : (h : Heap) (o : Option Name) (ns : List Name) → ((x : Name) → o ≡ Some x → IsReachable h x)
    → Chain h o ns → (n : Name) → In n ns → IsReachable h n
chain_reached h o [] reach chain n there = absurd there
chain_reached h o (m ∷ ms) reach (next, name, to, apart, rest) n (inl e) =
    subst (IsReachable h) (sym e) (reach m name)
chain_reached h o (m ∷ ms) reach (next, name, to, apart, rest) n (inr there) =
    chain_reached h next ms (λ x e. from_field m 0 x (reach m name) (at next, to, e)) rest n there

-- each node of the list is in reach
pub in_reach : (h : Heap) (xs : List Name) → Form h xs → (n : Name) → In n xs → IsReachable h n
in_reach h xs form n there =
    chain_reached h form.head xs (λ x e. from_root 0 x (at form.head, form.rooted, e)) form.chain n there

-- the node at which a chain begins is one of it
pub head_in : (h : Heap) (o : Option Name) (ns : List Name) (x : Name) → Chain h o ns → o ≡ Some x → In x ns
head_in h o [] x chain e = absurd (cc (chain, e))
head_in h o (m ∷ ms) x chain e = inl (cc (chain.1, e))

-- what is in reach is in the chain, or is the tail
pub reached_in : (h : Heap) (xs : List Name) (form : Form h xs) (x : Name) → IsReachable h x
    → In x xs ⊎ (form.last ≡ Some x)
reached_in h xs form x (from_root zero _ leads) =
    inl (head_in h form.head xs x form.chain (led h (Root 0) form.head x form.rooted leads))
reached_in h xs form x (from_root (suc zero) _ leads) = inr (led h (Root 1) form.last x form.tailed leads)
reached_in h xs form x (from_root (suc (suc i)) _ leads) = absurd (form.two i x leads)
reached_in h xs form x (from_field y (suc f) _ r leads) = absurd (form.single y f x leads)
reached_in h xs form x (from_field y zero _ r leads) = elim (reached_in h xs form y r) [
  | inl there ↦
      let next = next_in h form.head xs y form.chain there in
      inl (follows_in h form.head xs y x form.chain there
      (next.1 ∙ ap (λ (o : Option Name). Some (at o)) (led h (Field y 0) next.0 x next.1 leads)))
  | inr tail ↦ elim (form.near y tail) [
    | inl there ↦ absurd (let none : None ≡ Some x = led h (Field y 0) None x there.1 leads in cc (none))
    | inr lags ↦
        let same : Some lags.0 ≡ Some x = led h (Field y 0) (Some lags.0) x lags.1 leads in
        inl (subst (λ k. In k xs) (let s : lags.0 ≡ x = cc (same) in s) lags.3)
  ]
]

-- the heap after each exchange
abbrev pub took : Heap → Name → Heap
took h q = with_pointer h (Root 0) (at (Some q))

abbrev pub swung : Heap → Name → Heap
swung h q = with_pointer h (Root 1) (at (Some q))

abbrev pub appended : Heap → Name → Name → Heap
appended h t n = with_pointer h (Field t 0) (at (Some n))

-- AN EXCHANGE OF THE HEAD

module _ (h : Heap) (xs : List Name) (form : Form h xs) (n q : Name) (to_next : Next h n (Some q))
    (is_head : pointer_at h (Root 0) ≡ Some (at (Some n))) where
  kept : (m : Name) (f : ℕ) → pointer_at (took h q) (Field m f) ≡ pointer_at h (Field m f)
  kept m f = pointer_other h (Root 0) (at (Some q)) (Field m f) (λ e. cc (e))

  -- the head is brought on to its next: its node is off, and the others stay
  pub take_form : (ys : List Name) × (xs ≡ n ∷ ys) × (¬ (In n ys)) × Form (took h q) ys
  take_form = by_names xs refl form.chain
    where
      head : form.head ≡ Some n
      head = at_same form.head (Some n) (sym form.rooted ∙ is_head)

      by_names : (zs : List Name) → xs ≡ zs → Chain h form.head zs
          → (ys : List Name) × (xs ≡ n ∷ ys) × (¬ (In n ys)) × Form (took h q) ys
      by_names [] is chain = absurd (cc (chain, head))
      by_names (m ∷ ms) is (next, name, old, apart, rest) =
          let same : m ≡ n = cc (name, head) in
          let whole : xs ≡ n ∷ ms = is ∙ ap (λ k. k ∷ ms) same in
          let out : ¬ (In n ms) = subst (λ k. ¬ (In k ms)) same apart in
          let next_is : next ≡ Some q = next_same h n next (Some q) (subst (λ k. Next h k next) same old) to_next in (
            ms,
            whole,
            out,
            record {
              head = Some q;
              rooted = written_there h (Root 0) (at (Some n)) (at (Some q)) is_head;
              last = form.last;
              tailed = pointer_other h (Root 0) (at (Some q)) (Root 1) (λ e. cc (e)) ∙ form.tailed;
              two = λ i x leads. form.two i x (
                leads.0,
                sym (pointer_other h (Root 0) (at (Some q)) (Root (suc (suc i))) (λ e. cc (e))) ∙ leads.1,
                leads.2,
              );
              single = λ y f x leads. form.single y f x (leads.0, sym (kept y (suc f)) ∙ leads.1, leads.2);
              chain = chain_kept h (took h q) (Some q) ms (λ y w there to. kept y 0 ∙ to)
                  (subst (λ (o : Option Name). Chain h o ms) next_is rest);
              near = λ t e. elim (form.near t e) [
                | inl there ↦ by_in t ms whole there.0 there.1
                | inr lags ↦ inr (
                  lags.0,
                  kept t 0 ∙ lags.1,
                  kept lags.0 0 ∙ lags.2,
                  not_first lags.0 ms whole lags.3 lags.2,
                )
              ];
              bare = λ none y there. absurd (let both : None ≡ Some q = next_same h n None (Some q)
                  (form.bare none n (subst (λ ns. In n ns) (sym whole) (inl refl))) to_next in cc (both));
            },
          )
        where
          not_first : (m : Name) (ms : List Name) → xs ≡ n ∷ ms → In m xs → Next h m None → In m ms
          not_first m ms whole there none = elim (subst (λ ns. In m ns) whole there) [
            | inr later ↦ later
            | inl e ↦ absurd (let both : None ≡ Some q =
                next_same h n None (Some q) (subst (λ k. Next h k None) e none) to_next in cc (both))
          ]

          by_in : (t : Name) (ms : List Name) → xs ≡ n ∷ ms → In t xs → Next h t None → IsNear (took h q) ms t
          by_in t ms whole there none = inl (not_first t ms whole there none, kept t 0 ∙ none)

-- AN EXCHANGE OF THE TAIL

module _ (h : Heap) (xs : List Name) (form : Form h xs) (t q : Name)
    (to_next : (ptr : Ptr) → pointer_at h (Field t 0) ≡ Some ptr → ptr ≡ at (Some q))
    (is_tail : pointer_at h (Root 1) ≡ Some (at (Some t))) where
  swing_kept : (m : Name) (f : ℕ) → pointer_at (swung h q) (Field m f) ≡ pointer_at h (Field m f)
  swing_kept m f = pointer_other h (Root 1) (at (Some q)) (Field m f) (λ e. cc (e))

  -- what follows the tail is the last node
  pub swing_to : In q xs × Next h q None
  swing_to = elim (form.near t (at_same form.last (Some t) (sym form.tailed ∙ is_tail))) [
    | inl there ↦ absurd (let both : at None ≡ at (Some q) = to_next (at None) there.1 in
        let name : None ≡ Some q = ap (λ (p : Ptr). p.name) both in cc (name))
    | inr lags ↦
        let both : at (Some lags.0) ≡ at (Some q) = to_next (at (Some lags.0)) lags.1 in
        let name : Some lags.0 ≡ Some q = ap (λ (p : Ptr). p.name) both in
        let same : lags.0 ≡ q = cc (name) in
        (subst (λ k. In k xs) same lags.3, subst (λ k. Next h k None) same lags.2)
  ]

  -- the tail is brought on to it
  pub swing_form : Form (swung h q) xs
  swing_form = record {
    head = form.head;
    rooted = pointer_other h (Root 1) (at (Some q)) (Root 0) (λ e. cc (e)) ∙ form.rooted;
    last = Some q;
    tailed = written_there h (Root 1) (at (Some t)) (at (Some q)) is_tail;
    two = λ i x leads. form.two i x
        (leads.0, sym (pointer_other h (Root 1) (at (Some q)) (Root (suc (suc i))) (λ e. cc (e))) ∙ leads.1, leads.2);
    single = λ y f x leads. form.single y f x (leads.0, sym (swing_kept y (suc f)) ∙ leads.1, leads.2);
    chain = chain_kept h (swung h q) form.head xs (λ y w there to. swing_kept y 0 ∙ to) form.chain;
    near = λ s e. let same : q ≡ s = cc (e) in
        inl (
          subst (λ k. In k xs) same swing_to.0,
          subst (λ k. Next (swung h q) k None) same (swing_kept q 0 ∙ swing_to.1),
        );
    bare = λ e. absurd (cc (e));
  }

-- AN EXCHANGE OF THE LAST ONE'S NULL

module _ (h : Heap) (xs : List Name) (form : Form h xs) (t n : Name) (there : In t xs) (none : Next h t None)
    (is_tail : pointer_at h (Root 1) ≡ Some (at (Some t))) (fresh : ¬ (In n xs)) (mine : Next h n None) where
  -- an exchange in the last node writes no other node
  pub other_field : (m : Name) → m ≢ t → pointer_at (appended h t n) (Field m 0) ≡ pointer_at h (Field m 0)
  other_field m ne = pointer_other h (Field t 0) (at (Some n)) (Field m 0) (λ e. ne (name_of e))
    where
      holder : Spot → Name
      holder (Field k f) = k
      holder (Root i) = t

      name_of : Field m 0 ≡ Field t 0 → m ≡ t
      name_of e = cc (e)

  -- the last node then leads to the new one
  pub written : Next (appended h t n) t (Some n)
  written = written_there h (Field t 0) (at None) (at (Some n)) none

  -- and the new one leads nowhere
  pub own : Next (appended h t n) n None
  own = other_field n (λ e. fresh (subst (λ k. In k xs) (sym e) there)) ∙ mine

  -- the chain with the new node at its end
  more : (o : Option Name) (ns : List Name) → Chain h o ns → In t ns → ¬ (In n ns)
      → Chain (appended h t n) o (ns ++ n ∷ [])
  more o [] chain at_t out = absurd at_t
  more o (m ∷ ms) (next, name, to, apart, rest) at_t out = elim (same_name m t) [
    | inl e ↦
        let next_is : next ≡ None = next_same h t next None (subst (λ k. Next h k next) e to) none in
        let ends : ms ≡ [] = none_follow h ms (subst (λ (o : Option Name). Chain h o ms) next_is rest) in (
          Some n,
          name,
          subst (λ k. Next (appended h t n) k (Some n)) (sym e) written,
          subst (λ ns. ¬ (In m (ns ++ n ∷ []))) (sym ends) (λ is. elim is [
            | inl same ↦ out (inl (sym same))
            | inr nothing ↦ nothing
          ]),
          subst (λ ns. Chain (appended h t n) (Some n) (ns ++ n ∷ [])) (sym ends) (None, refl, own, (λ h. h), refl),
        )
    | inr ne ↦ (
      next,
      name,
      other_field m ne ∙ to,
      not_in m ms apart (λ e. out (inl (sym e))),
      more next ms rest (later m ms ne at_t) (λ is. out (inr is)),
    )
  ]
    where
      not_in : (m : Name) (ms : List Name) → ¬ (In m ms) → m ≢ n → ¬ (In m (ms ++ n ∷ []))
      not_in m [] apart ne (inl e) = ne e
      not_in m [] apart ne (inr nothing) = nothing
      not_in m (k ∷ ks) apart ne (inl e) = apart (inl e)
      not_in m (k ∷ ks) apart ne (inr is) = not_in m ks (λ h. apart (inr h)) ne is

      later : (m : Name) (ms : List Name) → m ≢ t → In t (m ∷ ms) → In t ms
      later m ms ne (inl e) = absurd (ne (sym e))
      later m ms ne (inr is) = is

  -- a node of the list stays one when another is put behind
  pub in_more : (x : Name) (ns : List Name) → In x ns → In x (ns ++ n ∷ [])
  in_more x [] is = absurd is
  in_more x (m ∷ ms) (inl e) = inl e
  in_more x (m ∷ ms) (inr is) = inr (in_more x ms is)

  -- the node that is put behind is one of the list
  pub new_in : (ns : List Name) → In n (ns ++ n ∷ [])
  new_in [] = inl refl
  new_in (m ∷ ms) = inr (new_in ms)

  -- and there are no others
  pub in_either : (x : Name) (ns : List Name) → In x (ns ++ n ∷ []) → In x ns ⊎ (x ≡ n)
  in_either x [] (inl e) = inr e
  in_either x [] (inr nothing) = absurd nothing
  in_either x (m ∷ ms) (inl e) = inl (inl e)
  in_either x (m ∷ ms) (inr is) = elim (in_either x ms is) [ inl was ↦ inl (inr was) | inr new ↦ inr new ]

  -- a node is put behind the last one, and the tail lags by it
  pub append_form : Form (appended h t n) (xs ++ n ∷ [])
  append_form = record {
    head = form.head;
    rooted = pointer_other h (Field t 0) (at (Some n)) (Root 0) (λ e. cc (e)) ∙ form.rooted;
    last = Some t;
    tailed = pointer_other h (Field t 0) (at (Some n)) (Root 1) (λ e. cc (e)) ∙ is_tail;
    two = λ i x leads. form.two i x (
      leads.0,
      sym (pointer_other h (Field t 0) (at (Some n)) (Root (suc (suc i))) (λ e. cc (e))) ∙ leads.1,
      leads.2,
    );
    single = λ y f x leads. form.single y f x
        (leads.0, sym (pointer_other h (Field t 0) (at (Some n)) (Field y (suc f)) (λ e. cc (e))) ∙ leads.1, leads.2);
    chain = more form.head xs form.chain there fresh;
    near = λ s e. let same : t ≡ s = cc (e) in
        inr (n, subst (λ k. Next (appended h t n) k (Some n)) same written, own, new_in xs);
    bare = λ e. absurd (cc (e));
  }

-- THE FIRST NODE

module _ (h : Heap) (xs : List Name) (form : Form h xs) (n : Name) (mine : Next h n None) where
  -- the head was null
  pub crown_form : pointer_at h (Root 0) ≡ Some (at None) → (xs ≡ []) × (form.last ≡ None) × Form (took h n) (n ∷ [])
  crown_form null_head = (
    empty,
    by_last form.last refl,
    record {
      head = Some n;
      rooted = written_there h (Root 0) (at None) (at (Some n)) null_head;
      last = form.last;
      tailed = pointer_other h (Root 0) (at (Some n)) (Root 1) (λ e. cc (e)) ∙ form.tailed;
      two = λ i x leads. form.two i x
          (leads.0, sym (pointer_other h (Root 0) (at (Some n)) (Root (suc (suc i))) (λ e. cc (e))) ∙ leads.1, leads.2);
      single = λ y f x leads. form.single y f x (leads.0, sym (kept y (suc f)) ∙ leads.1, leads.2);
      chain = (None, refl, kept n 0 ∙ mine, (λ h. h), refl);
      near = λ t e. absurd (cc (by_last form.last refl, e));
      bare = λ e y there. elim there [
        | inl same ↦ subst (λ k. Next (took h n) k None) (sym same) (kept n 0 ∙ mine)
        | inr nothing ↦ absurd nothing
      ];
    },
  )
    where
      kept : (m : Name) (f : ℕ) → pointer_at (took h n) (Field m f) ≡ pointer_at h (Field m f)
      kept m f = pointer_other h (Root 0) (at (Some n)) (Field m f) (λ e. cc (e))

      empty : xs ≡ []
      empty = none_follow h xs (subst (λ (o : Option Name). Chain h o xs)
          (at_same form.head None (sym form.rooted ∙ null_head)) form.chain)

      -- a tail is in the queue, or leads to what is in it
      by_last : (o : Option Name) → form.last ≡ o → form.last ≡ None
      by_last None e = e
      by_last (Some t) e = elim (form.near t e) [
        | inl there ↦ absurd (subst (λ ns. In t ns) empty there.0)
        | inr lags ↦ absurd (subst (λ ns. In lags.0 ns) empty lags.3)
      ]

-- the tail was null
pub seat_form : (h : Heap) (xs : List Name) (form : Form h xs) (n : Name) → In n xs → Next h n None
    → pointer_at h (Root 1) ≡ Some (at None) → Form (swung h n) xs
seat_form h xs form n there mine null_tail = record {
  head = form.head;
  rooted = pointer_other h (Root 1) (at (Some n)) (Root 0) (λ e. cc (e)) ∙ form.rooted;
  last = Some n;
  tailed = written_there h (Root 1) (at None) (at (Some n)) null_tail;
  two = λ i x leads. form.two i x
      (leads.0, sym (pointer_other h (Root 1) (at (Some n)) (Root (suc (suc i))) (λ e. cc (e))) ∙ leads.1, leads.2);
  single = λ y f x leads. form.single y f x (leads.0, sym (kept y (suc f)) ∙ leads.1, leads.2);
  chain = chain_kept h (swung h n) form.head xs (λ y w there to. kept y 0 ∙ to) form.chain;
  near = λ t e. let same : n ≡ t = cc (e) in inl (
    subst (λ k. In k xs) same there,
    subst (λ k. Next (swung h n) k None) same (kept n 0 ∙ mine),
  );
  bare = λ e. absurd (cc (e));
}
  where
    kept : (m : Name) (f : ℕ) → pointer_at (swung h n) (Field m f) ≡ pointer_at h (Field m f)
    kept m f = pointer_other h (Root 1) (at (Some n)) (Field m f) (λ e. cc (e))
