-- How one pass along a bucket goes on at a node, and where it ends: each step by an access that only reads.
use Rattle.std.proofs.Common.{◌≡◌, ◌∙◌, ℕ, zero, suc, [], Option, Some, true, false, refl, sym, ap, subst}
use Rattle.std.specs.Ordering.{is_ge, is_gt}
use Rattle.std.specs.declared.cmp.Ordering.{Ordering}
use Rattle.std.specs.declared.cmp.Ordering.TheVariants.{Less, Equal, Greater}
use Rattle.epoch_cells.specs.declared.cells.name.Name.{Name}
use Rattle.epoch_laws.specs.declared.heap.access.Access.{Access}
use Rattle.epoch_laws.specs.declared.heap.access.Access.TheVariants.{Read, Leave, Point}
use Rattle.epoch_laws.specs.declared.heap.access.AccessAnswer.TheVariants.{Unit as Nothing, Value, Pointer, Absent}
use Rattle.epoch_laws.specs.declared.heap.access.Change.TheVariants.{Load}
use Rattle.epoch_laws.specs.declared.heap.access.Ptr.{Ptr}
use Rattle.epoch_laws.specs.declared.heap.access.Spot.{Spot}
use Rattle.epoch_laws.specs.declared.heap.access.Spot.TheVariants.{Root, Field}
use Rattle.epoch_laws.specs.declared.step.Reply.{Reply}
use Rattle.epoch_laws.specs.declared.step.Reply.TheVariants.{Done}
use Rattle.epoch_structure_laws.specs.Plans.{ptr_to}
use Rattle.epoch_structure_calls.specs.Paths.{ReadsOn}
use Rattle.epoch_structure_laws.specs.declared.map.plan.Aim.TheVariants.{ToGet}
use Rattle.epoch_structure_laws.specs.declared.map.plan.MapAnswer.TheVariants.{Found, NotFound, MovesOut}
use Rattle.epoch_structure_laws.specs.declared.map.plan.MapPhase.{MapPhase}
use Rattle.epoch_structure_laws.specs.declared.map.plan.MapPhase.TheVariants.{LoadingFirst, Reading, Leaving}
use Rattle.epoch_structure_laws.specs.declared.map.plan.MapPhase.TheVariants.{LoadingNext, Unlinking, Answering}
use Rattle.epoch_structure_laws.specs.MapProgram.{map_deed_of, node_key, at, again, to_look, looked_at}
use Rattle.epoch_structure_calls.specs.MapCalls.{coded}
use Rattle.epoch_structure_calls.proofs.Strides.{reads_one, reads_first, reads_so}

-- WHAT FOLLOWS FROM HOW KEYS COMPARE

module _ (b : ℕ) (link : Spot) (c : Name) (k : ℕ) where
  past_key : (order : Ordering) → is_gt order ≡ true → to_look (ToGet b 1) link c (coded order) k ≡ Answering NotFound
  unfolding node_key
  past_key Less is = absurd cc
  past_key Equal is = absurd cc
  past_key Greater is = refl

  not_past : (order : Ordering) → is_gt order ≡ false
      → to_look (ToGet b 1) link c (coded order) k ≡ LoadingNext (ToGet b 1) link c (coded order) k
  unfolding node_key
  not_past Less is = refl
  not_past Equal is = refl
  not_past Greater is = absurd cc

  is_there : (order : Ordering) (o : Option Name) → is_ge order ≡ true → is_gt order ≡ false
      → looked_at (ToGet b 1) link c (coded order) k o 0 ≡ Answering (Found (coded order))
  unfolding node_key
  is_there Less o upward not_past = absurd cc
  is_there Equal o upward not_past = refl
  is_there Greater o upward not_past = absurd cc

  is_lower : (order : Ordering) (o : Option Name) → is_ge order ≡ false
      → looked_at (ToGet b 1) link c (coded order) k o 0 ≡ at (ToGet b 1) (Field c 0) o k
  unfolding node_key
  is_lower Less o is = refl
  is_lower Equal o is = absurd cc
  is_lower Greater o is = absurd cc

  has_mark : (v : ℕ) (o : Option Name) (tag : ℕ) → ¬ (tag ≡ 0)
      → looked_at (ToGet b 1) link c v k o tag ≡ Unlinking (ToGet b 1) link c o k
  has_mark v o zero some = absurd (some refl)
  has_mark v o (suc tag) some = refl

-- a lower key is no higher one
is_below : (order : Ordering) → is_ge order ≡ false → is_gt order ≡ false
is_below Less is = refl
is_below Equal is = absurd cc
is_below Greater is = absurd cc

-- STEPS

module _ {L : Type 0} (does : L → Access → Reply → L → Type 0) (b : ℕ) where
  -- a link or a node that can't be read has the walk begin again
  pub first_lost : (k : ℕ) (l l' : L) → does l (Point (Some 0) (Root b) Load) (Done Absent) l'
      → ReadsOn does (map_deed_of 0) (LoadingFirst (ToGet b 1) k) l (again (ToGet b 1) k) l'
  first_lost k l l' did = reads_one does (LoadingFirst (ToGet b 1) k) l l' (Done Absent) (refl, did, tt)

  pub node_lost : (link : Spot) (c : Name) (k : ℕ) (l l' : L) → does l (Read (Some 0) (ptr_to c)) (Done Absent) l'
      → ReadsOn does (map_deed_of 0) (Reading (ToGet b 1) link c k) l (again (ToGet b 1) k) l'
  node_lost link c k l l' did = reads_one does (Reading (ToGet b 1) link c k) l l' (Done Absent) (refl, did, tt)

  pub next_lost : (link : Spot) (c : Name) (v k : ℕ) (l l' : L)
      → does l (Point (Some 0) (Field c 0) Load) (Done Absent) l'
      → ReadsOn does (map_deed_of 0) (LoadingNext (ToGet b 1) link c v k) l (again (ToGet b 1) k) l'
  next_lost link c v k l l' did = reads_one does (LoadingNext (ToGet b 1) link c v k) l l' (Done Absent) (refl, did, tt)

  -- the root leads there
  pub root_leads : (k : ℕ) (ptr : Ptr) (o : Option Name) (l l' : L) → ptr.name ≡ o
      → does l (Point (Some 0) (Root b) Load) (Done (Pointer ptr)) l'
      → ReadsOn does (map_deed_of 0) (LoadingFirst (ToGet b 1) k) l (at (ToGet b 1) (Root b) o k) l'
  root_leads k ptr o l l' is did =
      subst (λ (z : Option Name). ReadsOn does (map_deed_of 0) (LoadingFirst (ToGet b 1) k) l
      (at (ToGet b 1) (Root b) z k)
      l') is
      (reads_one does (LoadingFirst (ToGet b 1) k) l l' (Done (Pointer ptr)) (refl, did, tt))

  -- a node was read and left
  pub looks_at : (link : Spot) (c : Name) (v k : ℕ) (l l1 l2 : L)
      → does l (Read (Some 0) (ptr_to c)) (Done (Value v)) l1
      → does l1 (Leave (ptr_to c)) (Done Nothing) l2
      → ReadsOn does (map_deed_of 0) (Reading (ToGet b 1) link c k) l (to_look (ToGet b 1) link c v k) l2
  looks_at link c v k l l1 l2 read leaves =
      reads_first does (Reading (ToGet b 1) link c k) (to_look (ToGet b 1) link c v k) l l1 l2 (Done (Value v))
      (refl, read, tt)
      (reads_one does (Leaving (ToGet b 1) link c v k) l1 l2 (Done Nothing) (refl, leaves, tt))

  -- and its pointer is loaded, where its key is lower
  pub goes_to_next : (link : Spot) (c : Name) (order : Ordering) (k : ℕ) (l l1 l2 : L) → is_ge order ≡ false
      → does l (Read (Some 0) (ptr_to c)) (Done (Value (coded order))) l1
      → does l1 (Leave (ptr_to c)) (Done Nothing) l2
      → ReadsOn does (map_deed_of 0) (Reading (ToGet b 1) link c k) l (LoadingNext (ToGet b 1) link c (coded order) k)
      l2
  goes_to_next link c order k l l1 l2 lower read leaves =
      reads_so does (Reading (ToGet b 1) link c k) (to_look (ToGet b 1) link c (coded order) k)
      (LoadingNext (ToGet b 1) link c (coded order) k) l l2
      (sym (not_past b link c k order (is_below order lower))) (looks_at link c (coded order) k l l1 l2 read leaves)

  -- It goes past the key that is sought.
  pub ends_past : (link : Spot) (c : Name) (order : Ordering) (k : ℕ) (l : L) → is_gt order ≡ true
      → ReadsOn does (map_deed_of 0) (to_look (ToGet b 1) link c (coded order) k) l (Answering NotFound) l
  ends_past link c order k l past = ([], (sym (past_key b link c k order past), refl))

  -- Or it doesn't, so that its pointer is loaded.
  pub ends_at_next : (link : Spot) (c : Name) (order : Ordering) (k : ℕ) (l l' : L) (last : MapPhase)
      → is_gt order ≡ false
      → ReadsOn does (map_deed_of 0) (LoadingNext (ToGet b 1) link c (coded order) k) l last l'
      → ReadsOn does (map_deed_of 0) (to_look (ToGet b 1) link c (coded order) k) l last l'
  ends_at_next link c order k l l' last upto reads =
      subst (λ (f : MapPhase). ReadsOn does (map_deed_of 0) f l last l') (sym (not_past b link c k order upto)) reads

  module _ (link : Spot) (c : Name) (order : Ordering) (k : ℕ) (ptr : Ptr) (l l' : L)
      (did : does l (Point (Some 0) (Field c 0) Load) (Done (Pointer ptr)) l') where
    loads_so : (last : MapPhase) → looked_at (ToGet b 1) link c (coded order) k ptr.name ptr.tag ≡ last
        → ReadsOn does (map_deed_of 0) (LoadingNext (ToGet b 1) link c (coded order) k) l last l'
    loads_so last is =
        reads_so does (LoadingNext (ToGet b 1) link c (coded order) k)
        (looked_at (ToGet b 1) link c (coded order) k ptr.name ptr.tag) last l l' (sym is)
        (reads_one does (LoadingNext (ToGet b 1) link c (coded order) k) l l' (Done (Pointer ptr)) (refl, did, tt))

    -- the node is marked
    pub ends_at_mark : ¬ (ptr.tag ≡ 0)
        → ReadsOn does (map_deed_of 0) (LoadingNext (ToGet b 1) link c (coded order) k) l
        (Unlinking (ToGet b 1) link c ptr.name k) l'
    ends_at_mark some = loads_so _ (has_mark b link c k (coded order) ptr.name ptr.tag some)

    by_tag : ptr.tag ≡ 0 → (last : MapPhase) → looked_at (ToGet b 1) link c (coded order) k ptr.name 0 ≡ last
        → looked_at (ToGet b 1) link c (coded order) k ptr.name ptr.tag ≡ last
    by_tag none last is =
        ap (λ (t : ℕ). looked_at (ToGet b 1) link c (coded order) k ptr.name t) none ∙ is

    -- it is that of the key
    pub ends_at_key : ptr.tag ≡ 0 → is_ge order ≡ true → is_gt order ≡ false
        → ReadsOn does (map_deed_of 0) (LoadingNext (ToGet b 1) link c (coded order) k) l
        (Answering (Found (coded order)))
        l'
    ends_at_key none upward upto = loads_so _ (by_tag none _ (is_there b link c k order ptr.name upward upto))

    -- its key is lower, and its pointer leads there
    pub leads_on : (o : Option Name) → ptr.name ≡ o → ptr.tag ≡ 0 → is_ge order ≡ false
        → ReadsOn does (map_deed_of 0) (LoadingNext (ToGet b 1) link c (coded order) k) l
        (at (ToGet b 1) (Field c 0) o k)
        l'
    leads_on o is none lower =
        loads_so _
        (by_tag none _
        (is_lower b link c k order ptr.name lower ∙ ap (λ (z : Option Name). at (ToGet b 1) (Field c 0) z k) is))

-- going on to a node takes a move
pub to_further : (b : ℕ) (link : Spot) (c : Name) (k rest : ℕ) → k ≡ suc rest
    → at (ToGet b 1) link (Some c) k ≡ Reading (ToGet b 1) link c rest
to_further b link c k rest is = ap (λ (m : ℕ). at (ToGet b 1) link (Some c) m) is

-- with no move left, the walk doesn't go on to a node, and answers so
pub to_none : (b : ℕ) (link : Spot) (c : Name) (k : ℕ) → k ≡ 0
    → at (ToGet b 1) link (Some c) k ≡ Answering MovesOut
to_none b link c k is = ap (λ (m : ℕ). at (ToGet b 1) link (Some c) m) is
