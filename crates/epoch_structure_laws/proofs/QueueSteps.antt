-- What each step of a queue's calls on cells and pointers does to the queue.
use Rattle.std.proofs.Common.{◌≡◌, ◌≢◌, ℕ, zero, suc, ◌-◌, Bool, true, false, List, [], ◌∷◌, ◌++◌, Option, Some, None}
use Rattle.std.proofs.Common.{◌⊎◌, inl, inr, refl, ap, sym, subst, ◌∙◌, arith, slice_get, if◌then◌else◌}
use Rattle.std.proofs.Math.Nat.{zero-mod}
use Rattle.epoch_cells.specs.PlainCells.{filled, readable}
use Rattle.epoch_cells.specs.declared.cells.name.Name.{Name}
use Rattle.epoch_laws.specs.declared.heap.access.Ptr.{Ptr}
use Rattle.epoch_laws.specs.declared.heap.access.Spot.TheVariants.{Root, Field}
use Rattle.epoch_laws.specs.declared.heap.access.Change.TheVariants.{Load, CompareExchange}
use Rattle.epoch_laws.specs.declared.heap.access.Access.TheVariants.{Place}
use Rattle.epoch_laws.specs.declared.heap.access.Accessed.{Accessed}
use Rattle.epoch_laws.specs.declared.heap.access.Accessed.TheVariants.{Again, Answers as Told, NoSlot}
use Rattle.epoch_laws.specs.declared.heap.access.AccessAnswer.{AccessAnswer}
use Rattle.epoch_laws.specs.declared.heap.heap.Content.{Content}
use Rattle.epoch_laws.specs.Heap.{Cell, Heap, cell_at, null, nulls, with_cell_at, field_in, pointer_at, aligned}
use Rattle.epoch_laws.specs.Heap.{Touched, ChangesAt, Places, read_by, left_by, with_pointer}
use Rattle.epoch_laws.specs.Reach.{IsReachable, Past}
use Rattle.epoch_laws.proofs.TurnsGiven.{IsGiven, StaysGiven, place_gives}
use Rattle.epoch_laws.proofs.ReadersCounted.{name_self}
use Rattle.epoch_laws.proofs.PointerSteps.{pointer_other}
use Rattle.epoch_structure_laws.specs.Plans.{ptr_to, Deed, Touches}
use Rattle.epoch_structure_laws.specs.declared.queue.plan.QueueAnswer.{QueueAnswer}
use Rattle.epoch_structure_laws.specs.declared.queue.plan.QueueAnswer.TheVariants.{Empty, Pushed, Built}
use Rattle.epoch_structure_laws.specs.declared.queue.plan.QueuePhase.{QueuePhase}
use Rattle.epoch_structure_laws.specs.declared.queue.plan.QueuePhase.TheVariants.{Crowning, Seating, LoadingTail}
use Rattle.epoch_structure_laws.specs.declared.queue.plan.QueuePhase.TheVariants.{LoadingLast, Appending, Swinging}
use Rattle.epoch_structure_laws.specs.declared.queue.plan.QueuePhase.TheVariants.{Helping, TakingBack, LoadingHead}
use Rattle.epoch_structure_laws.specs.declared.queue.plan.QueuePhase.TheVariants.{LoadingNext, Reading, Leaving, Taking}
use Rattle.epoch_structure_laws.specs.declared.queue.plan.QueuePhase.TheVariants.{LookingBack, Advancing, Removing}
use Rattle.epoch_structure_laws.specs.declared.queue.plan.QueuePhase.TheVariants.{Answering}
use Rattle.epoch_structure_laws.specs.QueueProgram.{retry_push, queue_deed_of, queue, to_last, to_append, to_next}
use Rattle.epoch_structure_laws.specs.QueueProgram.{to_read, names}
use Rattle.epoch_structure_laws.proofs.QueueLists.{in_or, readable_held, value_written}
use Rattle.epoch_laws.specs.declared.heap.access.AccessAnswer.TheVariants.{Name as NameAnswer}
use Rattle.epoch_cells.specs.declared.fault.Fault.TheVariants.{CellsFull}
use Rattle.epoch_structure_laws.proofs.Custody.{Passed, Calm, calm_same, Acts}
use Rattle.epoch_structure_laws.proofs.Obligations.{Weaker, Settled, after_touch, phase_after}
use Rattle.epoch_structure_laws.proofs.Steps.{fewer_reach}
use Rattle.epoch_structure_laws.proofs.Cells.{same_name, cell_there, written_there}
use Rattle.epoch_structure_laws.proofs.QueueForm.{In, at, at_same, Next, next_same, Chain, Form, tail_reached, in_reach}
use Rattle.epoch_structure_laws.proofs.QueueForm.{crown_form, seat_form, reached_in, took, take_form, swung, swing_to}
use Rattle.epoch_structure_laws.proofs.QueueForm.{swing_form, appended, in_more, in_either, append_form, other_field}
use Rattle.epoch_structure_laws.proofs.QueueForm.{written, next_in}
use Rattle.epoch_structure_laws.proofs.QueueKept.{AtHead, First, Worth, none_not, Shape, Mine, Linked, AtTail, Off}
use Rattle.epoch_structure_laws.proofs.QueueKept.{Stands, Owns, structure, sane, Turn, stands_kept, shape_after}
use Rattle.epoch_structure_laws.proofs.QueueKept.{calm_form, calm_turn, calm_shut, refused}

-- an untagged pointer is aligned
pub aligned_at : (h : Heap) (o : Option Name) → aligned h (at o) ≡ at o
aligned_at h o = λ i. record { name = o; tag = zero-mod h.align i }

module _ (past : Past) (h h' : Heap) (xs xs' : List Name) (hit : Option Name) (settled : Settled past h)
    (shape : Shape past h xs) (turn : Turn past h h' xs xs' hit) (form : Form h' xs')
    (shut : (n : Name) → past.reached n → ¬ (In n xs') → ¬ (Next h' n None))
    (phase next : QueuePhase) (stands : Stands past h xs phase) (hits : (n : Name) → hit ≡ Some n → Owns phase n)
    (owns : (n : Name) → Owns next n → Owns phase n ⊎ In n xs ⊎ (¬ (IsGiven h n)))
    (own : (past' : Past) → Passed past past' h' None → Stands past' h' xs' next) where
  out : (past' : Past) → Passed past past' h' None → (n : Name) → past'.left n → ¬ (IsReachable h' n)
  out past' passed n l r = elim (passed.left n l) [
    | inr e ↦ cc (e)
    | inl was ↦ elim (turn.reach n r) [
      | inl before ↦ settled.left_out n was before
      | inr e ↦ (sane.owned past h xs phase n stands (hits n e)).0 was
    ]
  ]

  -- a step that keeps the others is one that the frame asks for
  turn_acts : Acts queue structure past h h' xs (Some phase) (Some next)
  turn_acts = record {
    ghost' = xs';
    gone = None;
    reach = λ n r. elim (turn.reach n r) [ inl was ↦ inl was | inr e ↦ inr (hits n e) ];
    goes = λ n e. absurd (cc (e));
    owned = owns;
    given = turn.given;
    own = λ past' passed. (
      shape_after past past' h h' xs xs' hit None settled turn passed shape form (out past' passed) shut,
      own past' passed,
    );
    other = λ past' passed f apart s. stands_kept past past' h h' xs xs' hit None settled turn passed f
        (λ n o. (λ e. apart n o (hits n e), λ e. cc (e))) s;
  }

-- a phase of who has placed a node
pub record MineOf (phase : QueuePhase) (n : Name) : Type 1 where
  pub stands : (past : Past) (h : Heap) (xs : List Name) → Mine past h n → Stands past h xs phase
  pub owns : (x : Name) → Owns phase x → x ≡ n

-- a push that tries again still owns its node, and one that gives up owns it to the end
pub tries_mine : (n : Name) (k : ℕ) → MineOf (retry_push n k) n
tries_mine n zero = record { stands = λ past h xs m. m; owns = λ x o. o }
tries_mine n (suc k) = record { stands = λ past h xs m. m; owns = λ x o. o }

module _ (past : Past) (h : Heap) (xs : List Name) (settled : Settled past h) (shape : Shape past h xs) where
  abbrev Goes : Heap → QueuePhase → QueuePhase → Type 1
  Goes h' phase next = Acts queue structure past h h' xs (Some phase) (Some next)

  -- what a step shows; what was given stays so anyway
  abbrev Does : ℕ → QueuePhase → Touched → Type 1
  Does g phase did =
      StaysGiven h did.heap → Goes did.heap phase (after_touch phase (queue_deed_of g phase) did.told)

  -- a calm step, at which no more is known than before it
  calm_acts : (h' : Heap) → Calm past.left h h' → (phase next : QueuePhase) → Stands past h xs phase
      → (Stands past h xs next) → ((n : Name) → Owns next n → Owns phase n ⊎ In n xs ⊎ (¬ (IsGiven h n)))
      → Goes h' phase next
  calm_acts h' calm phase next stands later owns =
      let turn = calm_turn past h h' xs settled calm shape in
      turn_acts past h h' xs xs None settled shape turn (calm_form past h h' xs settled calm shape)
      (calm_shut past h h' xs settled calm shape) phase next stands (λ n e. absurd (cc (e))) owns
      (λ past' passed. stands_kept past past' h h' xs xs None None settled turn passed next
      (λ n o. (λ e. cc (e), λ e. cc (e))) later)

  -- a step that changes nothing
  still : (phase next : QueuePhase) → Stands past h xs phase → Stands past h xs next
      → ((n : Name) → Owns next n → Owns phase n) → Goes h phase next
  still phase next stands later owns =
      calm_acts h (calm_same past.left h h refl) phase next stands later (λ n o. inl (owns n o))

  -- a calm step, after which less is known
  weak : (h' : Heap) → Calm past.left h h' → (phase next : QueuePhase) → Weaker queue structure phase next
      → Stands past h xs phase → Goes h' phase next
  weak h' calm phase next w stands =
      calm_acts h' calm phase next stands (w.stands past h xs shape stands) (λ n o. inl (w.owns n o))

  weak_here : (phase next : QueuePhase) → Weaker queue structure phase next → Stands past h xs phase → Goes h phase next
  weak_here phase next w stands = weak h (calm_same past.left h h refl) phase next w stands

  tail_is : (ptr : Ptr) → pointer_at h (Root 1) ≡ Some ptr → at shape.form.last ≡ ptr
  tail_is ptr e = let both : Some (at shape.form.last) ≡ Some ptr = sym shape.form.tailed ∙ e in cc

  head_is : (ptr : Ptr) → pointer_at h (Root 0) ≡ Some ptr → at shape.form.head ≡ ptr
  head_is ptr e = let both : Some (at shape.form.head) ≡ Some ptr = sym shape.form.rooted ∙ e in cc

  head_in : (n : Name) → shape.form.head ≡ Some n → In n xs
  head_in n e = by_chain xs shape.form.chain
    where
      by_chain : (ns : List Name) → Chain h shape.form.head ns → In n ns
      by_chain [] chain = absurd (cc (chain, e))
      by_chain (m ∷ ms) chain = inl (cc (chain.1, e))

  head_first : (n : Name) → shape.form.head ≡ Some n → (ys : List Name) × (xs ≡ n ∷ ys)
  head_first n e = by_chain xs shape.form.chain
    where
      by_chain : (ns : List Name) → Chain h shape.form.head ns → (ys : List Name) × (ns ≡ n ∷ ys)
      by_chain [] chain = absurd (cc (chain, e))
      by_chain (m ∷ ms) chain =
          let same : m ≡ n = cc (chain.1, e) in (ms, ap (λ (k : Name). k ∷ ms) same)

  -- the pointer found in a field is this one's next from then on
  links : (t q : Name) (ptr : Ptr) → past.reached t → pointer_at h (Field t 0) ≡ Some ptr → ptr.name ≡ Some q
      → Linked past h t q
  links t q ptr r e name = (
    r,
    λ other there.
        let same : other ≡ ptr = cc (there, e) in same ∙ (λ i. record { name = name i; tag = shape.plain t ptr r e i }),
  )

  -- a tail that was loaded is the tail as long as it has no next
  pub load_tail : (g : ℕ) (n : Name) (k j : ℕ) (found : Ptr) (did : Touched) (o : Option Ptr)
      → pointer_at h (Root 1) ≡ o → ChangesAt Load j found (Root 1) h o did → Mine past h n
      → Does g (LoadingTail n k) did
  load_tail g n k j found did None e is s =
      subst (Does g (LoadingTail n k)) (sym is) (λ given. weak_here _ _ (refused g (LoadingTail n k) CellsFull) s)
  load_tail g n k j found did (Some ptr) e is s =
      subst (Does g (LoadingTail n k)) (sym is) (λ given. by_name ptr.name refl)
    where
      by_name : (o : Option Name) → ptr.name ≡ o → Goes h (LoadingTail n k) (to_last n k o)
      by_name None name = weak_here _ _ (refused g (LoadingTail n k) CellsFull) s
      by_name (Some t) name =
          let tail : shape.form.last ≡ Some t = ap (λ (q : Ptr). q.name) (tail_is ptr e) ∙ name in
          still (LoadingTail n k) (LoadingLast n t k) s (
            s,
            (
              (shape.tail_known t tail).0,
              λ none. shape.form.tailed ∙ ap (λ (o : Option Name). Some (at o)) tail,
            ),
          ) (λ x o. o)

  -- the tail's next is null, or stays its next
  pub load_last : (g : ℕ) (n t : Name) (k j : ℕ) (found : Ptr) (did : Touched) (o : Option Ptr)
      → pointer_at h (Field t 0) ≡ o → ChangesAt Load j found (Field t 0) h o did
      → Mine past h n × AtTail past h t → Does g (LoadingLast n t k) did
  load_last g n t k j found did None e is s =
      subst (Does g (LoadingLast n t k)) (sym is) (λ given. weak_here _ _ (refused g (LoadingLast n t k) CellsFull) s)
  load_last g n t k j found did (Some ptr) e is s =
      subst (Does g (LoadingLast n t k)) (sym is) (λ given. by_name ptr.name refl)
    where
      by_name : (o : Option Name) → ptr.name ≡ o → Goes h (LoadingLast n t k) (to_append n t k o)
      by_name None name = still (LoadingLast n t k) (Appending n t k) s s (λ x o. o)
      by_name (Some q) name =
          still (LoadingLast n t k) (Helping n t q k) s (s.0, links t q ptr s.1.0 e name) (λ x o. o)

  -- a loaded head was in the queue
  pub load_head : (g k j : ℕ) (found : Ptr) (did : Touched) (o : Option Ptr) → pointer_at h (Root 0) ≡ o
      → ChangesAt Load j found (Root 0) h o did → Does g (LoadingHead k) did
  load_head g k j found did None e is =
      subst (Does g (LoadingHead k)) (sym is) (λ given. weak_here _ _ (refused g (LoadingHead k) CellsFull) tt)
  load_head g k j found did (Some ptr) e is =
      subst (Does g (LoadingHead k)) (sym is) (λ given. by_name ptr.name refl)
    where
      by_name : (o : Option Name) → ptr.name ≡ o → Goes h (LoadingHead k) (to_next k o)
      by_name None name = weak_here _ _ (refused g (LoadingHead k) CellsFull) tt
      by_name (Some n) name =
          still (LoadingHead k) (LoadingNext n k) tt (
            (shape.known n (head_in n (ap (λ (q : Ptr). q.name) (head_is ptr e) ∙ name))).0,
            λ there. head_first n (ap (λ (q : Ptr). q.name) (head_is ptr e) ∙ name),
          ) (λ x o. o)

  -- the head's next is null, or stays its next
  pub load_next : (g : ℕ) (n : Name) (k j : ℕ) (found : Ptr) (did : Touched) (o : Option Ptr)
      → pointer_at h (Field n 0) ≡ o → ChangesAt Load j found (Field n 0) h o did
      → past.reached n × First xs n → Does g (LoadingNext n k) did
  load_next g n k j found did None e is s =
      subst (Does g (LoadingNext n k)) (sym is) (λ given. weak_here _ _ (refused g (LoadingNext n k) CellsFull) s)
  load_next g n k j found did (Some ptr) e is s =
      subst (Does g (LoadingNext n k)) (sym is) (λ given. by_name ptr.name refl)
    where
      by_name : (o : Option Name) → ptr.name ≡ o → Goes h (LoadingNext n k) (to_read n k o)
      by_name None name = still (LoadingNext n k) (Answering Empty) s tt (λ x o. o)
      by_name (Some q) name = still (LoadingNext n k) (Reading n q k) s (links n q ptr s.0 e name) (λ x o. o)

  -- the read of the node behind the first one learns its value
  pub read_next : (g : ℕ) (n q : Name) (k : ℕ) (did : Touched) (o : Option Cell) (p : Option Content)
      → cell_at h q ≡ o → readable o ≡ p → did ≡ read_by h q o p → Linked past h n q
      → (StaysGiven h did.heap → Calm past.left h did.heap) → Does g (Reading n q k) did
  read_next g n q k did None p at_q held is s calm given =
      weak did.heap (calm given) _ _ (subst (λ (d : Touched). Weaker queue structure (Reading n q k)
      (after_touch (Reading n q k) (queue_deed_of g (Reading n q k)) d.told)) (sym is)
      (refused g (Reading n q k) CellsFull)) s
  read_next g n q k did (Some c) None at_q held is s calm given =
      weak did.heap (calm given) _ _ (subst (λ (d : Touched). Weaker queue structure (Reading n q k)
      (after_touch (Reading n q k) (queue_deed_of g (Reading n q k)) d.told)) (sym is)
      (refused g (Reading n q k) CellsFull)) s
  read_next g n q k did (Some c) (Some content) at_q held is s calm given =
      subst (λ (d : Touched). Goes did.heap (Reading n q k) (after_touch (Reading n q k) (queue_deed_of g
      (Reading n q k)) d.told)) (sym is) (calm_acts did.heap (calm given) (Reading n q k)
      (Leaving n q content.value k) s (s, λ l. (c, content, at_q, readable_held c content held, refl))
      (λ x o. absurd o))

  -- the end of that read keeps what was learnt
  pub leave_next : (g : ℕ) (n q : Name) (v k : ℕ) (did : Touched) (o : Option Cell)
      → did ≡ left_by h q o → Linked past h n q × Worth past h q v → (StaysGiven h did.heap → Calm past.left h did.heap)
      → Does g (Leaving n q v k) did
  leave_next g n q v k did None is s calm given =
      weak did.heap (calm given) _ _ (subst (λ (d : Touched). Weaker queue structure (Leaving n q v k)
      (after_touch (Leaving n q v k) (queue_deed_of g (Leaving n q v k)) d.told)) (sym is)
      (record { stands = λ past h xs shape s. s; owns = λ x o. o })) s
  leave_next g n q v k did (Some c) is s calm given =
      weak did.heap (calm given) _ _ (subst (λ (d : Touched). Weaker queue structure (Leaving n q v k)
      (after_touch (Leaving n q v k) (queue_deed_of g (Leaving n q v k)) d.told)) (sym is)
      (record { stands = λ past h xs shape s. s; owns = λ x o. o })) s

  -- where the tail leads elsewhere, what was taken off is out of reach
  pub look_back : (g : ℕ) (n q : Name) (v j : ℕ) (found : Ptr) (did : Touched) (o : Option Ptr)
      → pointer_at h (Root 1) ≡ o → ChangesAt Load j found (Root 1) h o did
      → Off past h xs n × Linked past h n q → Does g (LookingBack n q v) did
  look_back g n q v j found did None e is s = absurd (cc (e, shape.form.tailed))
  look_back g n q v j found did (Some ptr) e is s =
      subst (Does g (LookingBack n q v)) (sym is) (λ given. by_test (names ptr.name n) refl)
    where
      by_test : (b : Bool) → names ptr.name n ≡ b
          → Goes h (LookingBack n q v) (if b then Advancing n q v else Removing n v)
      by_test true test = still (LookingBack n q v) (Advancing n q v) s s (λ x o. o)
      by_test false test = still (LookingBack n q v) (Removing n v) s (
        s.0,
        λ there.
            let same : ptr ≡ at (Some n) = cc (e, there) in
            let self : names ptr.name n ≡ true = ap (λ (p : Ptr). names p.name n) same ∙ name_self n in
            cc (test, self),
      ) (λ x o. o)

  -- EXCHANGES

  -- the tail is brought on
  swing : (t q : Name) (phase next : QueuePhase) → Stands past h xs phase → Linked past h t q
      → pointer_at h (Root 1) ≡ Some (at (Some t)) → StaysGiven h (swung h q)
      → ((n : Name) → Owns next n → Owns phase n)
      → ((past' : Past) → Passed past past' (swung h q) None
      → Turn past h (swung h q) xs xs None → Stands past' (swung h q) xs next)
      → Goes (swung h q) phase next
  swing t q phase next s l is_tail given owns own =
      turn_acts past h h' xs xs None settled shape turn form
      (λ n r apart none. shape.shut n r apart (sym (kept n) ∙ none)) phase next s (λ n e. absurd (cc (e)))
      (λ n o. inl (owns n o)) (λ past' passed. own past' passed turn)
    where
      h' : Heap
      h' = swung h q

      form : Form (swung h q) xs
      form = swing_form h xs shape.form t q l.1 is_tail

      kept : (m : Name) → pointer_at (swung h q) (Field m 0) ≡ pointer_at h (Field m 0)
      kept m = pointer_other h (Root 1) (at (Some q)) (Field m 0) (λ e. cc (e))

      to_q : pointer_at (swung h q) (Root 1) ≡ Some (at (Some q))
      to_q = written_there h (Root 1) (at (Some t)) (at (Some q)) is_tail

      goal : In q xs × Next h q None
      goal = swing_to h xs shape.form t q l.1 is_tail

      turn : Turn past h (swung h q) xs xs None
      turn = record {
        own = λ n r left off e. kept n ∙ e;
        back = λ n r ptr e. inl (sym (kept n) ∙ e);
        inside = λ n there r. there;
        at_tail = λ y r none e. absurd (
            let same : at (Some t) ≡ at (Some y) = cc (is_tail, e) in
            let name : Some t ≡ Some y = ap (λ (p : Ptr). p.name) same in
            let first : t ≡ y = cc (name) in
            let both : at None ≡ at (Some q) =
            l.1 (at None) (subst (λ k. Next h k None) (sym first) (sym (kept y) ∙ none)) in
            let none_is : None ≡ Some q = ap (λ (p : Ptr). p.name) both in cc (none_is)
            );
        tails = λ n e.
            let same : at (Some q) ≡ at (Some n) = cc (to_q, e) in
            let name : Some q ≡ Some n = ap (λ (p : Ptr). p.name) same in
            let one : q ≡ n = cc (name) in
            inr (subst (λ k. In k xs) one goal.0);
        untailed = λ n e. absurd (let both : at (Some q) ≡ at None = cc (to_q, e) in none_not q (sym both));
        reach = λ n r. inl (elim (reached_in (swung h q) xs form n r) [
          | inl there ↦ in_reach h xs shape.form n there
          | inr e ↦
              let name : Some q ≡ Some n = sym (at_same form.last (Some q) (sym form.tailed ∙ to_q)) ∙ e in
              let one : q ≡ n = cc (name) in in_reach h xs shape.form n (subst (λ k. In k xs) one goal.0)
        ]);
        given = given;
        first = λ n r f. f;
        worth = λ n v l w. w;
      }

  -- an exchange of the tail, won or lost
  swings : (g : ℕ) (phase next : QueuePhase) (t q : Name) (j : ℕ) (found : Ptr) (did : Touched) (o : Option Ptr)
      → pointer_at h (Root 1) ≡ o → ChangesAt (CompareExchange (ptr_to t) (ptr_to q)) j found (Root 1) h o did
      → Stands past h xs phase → Linked past h t q → ((n : Name) → Owns next n → Owns phase n)
      → ((told : Accessed) → did.told ≡ told → after_touch phase (queue_deed_of g phase) told ≡ next)
      → (pointer_at h (Root 1) ≢ Some (at (Some t)) → Stands past h xs next)
      → (pointer_at h (Root 1) ≡ Some (at (Some t)) → (past' : Past)
      → Passed past past' (swung h q) None
      → Turn past h (swung h q) xs xs None → Stands past' (swung h q) xs next)
      → Does g phase did
  swings g phase next t q j found did None e is s l owns ends lost won given = absurd (cc (e, shape.form.tailed))
  swings g phase next t q j found did (Some ptr) e (inr is) s l owns ends lost won given =
      subst (Goes did.heap phase) (sym (ends did.told refl))
      (subst (λ (d : Touched). Goes d.heap phase next) (sym is.1)
      (still phase next s (lost (λ there. is.0 (let same : ptr ≡ at (Some t) = cc (e, there) in
      same ∙ sym (aligned_at h (Some t))))) owns))
  swings g phase next t q j found did (Some ptr) e (inl is) s l owns ends lost won given =
      subst (Goes did.heap phase) (sym (ends did.told refl))
      (subst (λ (k : Heap). Goes k phase next) (sym heap)
      (swing t q phase next s l is_tail (subst (StaysGiven h) heap given) owns (won is_tail)))
    where
      is_tail : pointer_at h (Root 1) ≡ Some (at (Some t))
      is_tail = e ∙ ap Some (is.0 ∙ aligned_at h (Some t))

      heap : did.heap ≡ swung h q
      heap = ap (λ (d : Touched). d.heap) is.1
          ∙ ap (λ (p : Ptr). with_pointer h (Root 1) p) (aligned_at h (Some q))

  -- the exchange of the head writes no node, and not the tail
  took_field : (q m : Name) → pointer_at (took h q) (Field m 0) ≡ pointer_at h (Field m 0)
  took_field q m = pointer_other h (Root 0) (at (Some q)) (Field m 0) (λ e. cc (e))

  took_tail : (q : Name) → pointer_at (took h q) (Root 1) ≡ pointer_at h (Root 1)
  took_tail q = pointer_other h (Root 0) (at (Some q)) (Root 1) (λ e. cc (e))

  -- the head is taken off, won or lost
  pub take : (g : ℕ) (n q : Name) (v k j : ℕ) (found : Ptr) (did : Touched) (o : Option Ptr)
      → pointer_at h (Root 0) ≡ o → ChangesAt (CompareExchange (ptr_to n) (ptr_to q)) j found (Root 0) h o did
      → Linked past h n q × Worth past h q v → Does g (Taking n q v k) did
  take g n q v k j found did None e is s = absurd (cc (e, shape.form.rooted))
  take g n q v k j found did (Some ptr) e (inr is) s =
      subst (Does g (Taking n q v k)) (sym is.1) (λ given. weak_here _ _ (refused g (Taking n q v k) CellsFull) s)
  take g n q v k j found did (Some ptr) e (inl is) s =
      subst (Does g (Taking n q v k)) (sym is.1) (λ given.
      subst (λ (p : Ptr). StaysGiven h (with_pointer h (Root 0) p)
      → Goes (with_pointer h (Root 0) p) (Taking n q v k) (LookingBack n q v)) (sym (aligned_at h (Some q)))
      (λ given. by_form (take_form h xs shape.form n q (linked_next) is_head) given) given)
    where
      l : Linked past h n q
      l = s.0

      is_head : pointer_at h (Root 0) ≡ Some (at (Some n))
      is_head = e ∙ ap Some (is.0 ∙ aligned_at h (Some n))

      there : In n xs
      there = head_in n (at_same shape.form.head (Some n) (sym shape.form.rooted ∙ is_head))

      linked_next : Next h n (Some q)
      linked_next =
          let next = next_in h shape.form.head xs n shape.form.chain there in
          next.1 ∙ ap Some (l.1 (at next.0) next.1)

      by_form : (ys : List Name) × (xs ≡ n ∷ ys) × (¬ (In n ys)) × Form (took h q) ys → StaysGiven h (took h q)
          → Goes (took h q) (Taking n q v k) (LookingBack n q v)
      by_form (ys, whole, apart, form) given =
          turn_acts past h (took h q) xs ys None settled shape turn form shut (Taking n q v k) (LookingBack n q v) s
          (λ m e. absurd (cc (e))) (λ m o. inr (inl (subst (λ k. In k xs) (sym o) there)))
          (λ past' passed. (
            (
              passed.more n l.0,
              apart,
              λ left. elim (passed.left n left) [ inl was ↦ (shape.known n there).1 was | inr e ↦ cc (e) ],
              given n (settled.reached_given n l.0),
            ),
            (passed.more n l.0, λ ptr e. l.1 ptr (sym (took_field q n) ∙ e)),
          ))
        where
          before : (m : Name) → In m ys → In m xs
          before m is = subst (λ ns. In m ns) (sym whole) (inr is)

          by_first : (m : Name) → In m ys → ((zs : List Name) × (xs ≡ m ∷ zs)) → ⊥
          by_first m is (zs, first) =
              let same : m ≡ n = cc (first, whole) in apart (subst (λ k. In k ys) same is)

          turn : Turn past h (took h q) xs ys None
          turn = record {
            own = λ m r left off e. took_field q m ∙ e;
            back = λ m r ptr e. inl (sym (took_field q m) ∙ e);
            inside = λ m is r. before m is;
            at_tail = λ t r none e. took_tail q ∙ e;
            tails = λ m e. inl (sym (took_tail q) ∙ e);
            untailed = λ m e. absurd (
                let none : Next h n None = shape.form.bare
                (at_same shape.form.last None (sym shape.form.tailed ∙ sym (took_tail q) ∙ e)) n there in
                let both : None ≡ Some q = next_same h n None (Some q) none linked_next in cc (both)
                );
            reach = λ m r. inl (elim (reached_in (took h q) ys form m r) [
              | inl is ↦ in_reach h xs shape.form m (before m is)
              | inr e ↦ tail_reached h xs shape.form m
                  (at_same shape.form.last form.last (sym shape.form.tailed ∙ sym (took_tail q) ∙ form.tailed) ∙ e)
            ]);
            given = given;
            first = λ m r f is. absurd (by_first m is (f (before m is)));
            worth = λ m v l w. w;
          }

          shut : (m : Name) → past.reached m → ¬ (In m ys) → ¬ (Next (took h q) m None)
          shut m r out none = elim (same_name m n) [
            | inl e ↦
                let both : None ≡ Some q = next_same h n None (Some q)
                (subst (λ k. Next h k None) e (sym (took_field q m) ∙ none)) linked_next in cc (both)
            | inr ne ↦ shape.shut m r (λ is. elim (subst (λ ns. In m ns) whole is) [
              | inl e ↦ ne e
              | inr later ↦ out later
            ]) (sym (took_field q m) ∙ none)
          ]

  -- a node is put behind the last one
  module _ (n t : Name) (k : ℕ) (s : Mine past h n × AtTail past h t) (none : Next h t None) where
    last_in : In t xs
    last_in = elim (in_or t xs) [ inl is ↦ is | inr out ↦ absurd (shape.shut t s.1.0 out none) ]

    own_out : ¬ (In n xs)
    own_out is = s.0.0 (shape.known n is).0

    is_tail : pointer_at h (Root 1) ≡ Some (at (Some t))
    is_tail = s.1.1 none

    longer : Form (appended h t n) (xs ++ n ∷ [])
    longer = append_form h xs shape.form t n last_in none is_tail own_out s.0.2

    other : (m : Name) → m ≢ t → pointer_at (appended h t n) (Field m 0) ≡ pointer_at h (Field m 0)
    other m ne = other_field h xs shape.form t n last_in none is_tail own_out s.0.2 m ne

    to_own : Next (appended h t n) t (Some n)
    to_own = written h xs shape.form t n last_in none is_tail own_out s.0.2

    same_tail : pointer_at (appended h t n) (Root 1) ≡ pointer_at h (Root 1)
    same_tail = pointer_other h (Field t 0) (at (Some n)) (Root 1) (λ e. cc (e))

    more : (m : Name) → In m xs → In m (xs ++ n ∷ [])
    more m is = in_more h xs shape.form t n last_in none is_tail own_out s.0.2 m xs is

    either : (m : Name) → In m (xs ++ n ∷ []) → In m xs ⊎ (m ≡ n)
    either m is = in_either h xs shape.form t n last_in none is_tail own_out s.0.2 m xs is

    append_turn : StaysGiven h (appended h t n) → Turn past h (appended h t n) xs (xs ++ n ∷ []) (Some n)
    append_turn given = record {
      own = λ m r left off e. other m (λ same. r (subst (λ k. past.reached k) (sym same) s.1.0)) ∙ e;
      back = λ m r ptr e. elim (same_name m t) [
        | inl same ↦ inr (subst (λ k. Next h k None × In k (xs ++ n ∷ [])) (sym same) (none, more t last_in))
        | inr ne ↦ inl (sym (other m ne) ∙ e)
      ];
      inside = λ m is r. elim (either m is) [
        | inl was ↦ was
        | inr e ↦ absurd (s.0.0 (subst (λ k. past.reached k) e r))
      ];
      at_tail = λ y r gone e. same_tail ∙ e;
      tails = λ m e. inl (sym same_tail ∙ e);
      untailed = λ m e. absurd (
          let both : at None ≡ at (Some t) = cc (sym same_tail ∙ e, is_tail) in none_not t both
          );
      reach = λ m r. elim (reached_in (appended h t n) (xs ++ n ∷ []) longer m r) [
        | inl is ↦ elim (either m is) [
          | inl was ↦ inl (in_reach h xs shape.form m was)
          | inr e ↦ inr (ap Some (sym e))
        ]
        | inr e ↦ inl (tail_reached h xs shape.form m
            (at_same shape.form.last longer.last (sym shape.form.tailed ∙ sym same_tail ∙ longer.tailed) ∙ e))
      ];
      given = given;
      first = λ m r f is. elim (either m is) [
        | inl was ↦ let one = f was in (one.0 ++ n ∷ [], ap (λ (ns : List Name). ns ++ n ∷ []) one.1)
        | inr e ↦ absurd (s.0.0 (subst (λ k. past.reached k) e r))
      ];
      worth = λ m v l w. value_written h t (at (Some n)) m v w;
    }

    append_shut : (m : Name) → past.reached m → ¬ (In m (xs ++ n ∷ [])) → ¬ (Next (appended h t n) m None)
    append_shut m r out gone = elim (same_name m t) [
      | inl same ↦
          let both : None ≡ Some n = next_same (appended h t n) t None (Some n)
          (subst (λ k. Next (appended h t n) k None) same gone) to_own in cc (both)
      | inr ne ↦ shape.shut m r (λ is. out (more m is)) (sym (other m ne) ∙ gone)
    ]

    append_acts : StaysGiven h (appended h t n) → Goes (appended h t n) (Appending n t k) (Swinging t n)
    append_acts given =
        turn_acts past h (appended h t n) xs (xs ++ n ∷ []) (Some n) settled shape (append_turn given) longer
        append_shut (Appending n t k) (Swinging t n) s (λ m e. let same : n ≡ m = cc (e) in sym same)
        (λ m o. absurd o)
        (λ past' passed. (
          passed.more t s.1.0,
          λ ptr e. let same : ptr ≡ at (Some n) = cc (e, to_own) in same,
        ))

  -- the exchange that puts it there, won or lost
  pub append : (g : ℕ) (n t : Name) (k j : ℕ) (found : Ptr) (did : Touched) (o : Option Ptr)
      → pointer_at h (Field t 0) ≡ o → ChangesAt (CompareExchange null (ptr_to n)) j found (Field t 0) h o did
      → Mine past h n × AtTail past h t → Does g (Appending n t k) did
  append g n t k j found did None e is s =
      subst (Does g (Appending n t k)) (sym is) (λ given. weak_here _ _ (refused g (Appending n t k) CellsFull) s)
  append g n t k j found did (Some ptr) e (inr is) s =
      subst (Does g (Appending n t k)) (sym is.1) (λ given. weak_here _ _ (refused g (Appending n t k) CellsFull) s)
  append g n t k j found did (Some ptr) e (inl is) s =
      subst (Does g (Appending n t k)) (sym is.1) (λ given.
      subst (λ (p : Ptr). StaysGiven h (with_pointer h (Field t 0) p)
      → Goes (with_pointer h (Field t 0) p) (Appending n t k) (Swinging t n)) (sym (aligned_at h (Some n)))
      (λ given. append_acts n t k s (e ∙ ap Some (is.0 ∙ aligned_at h None)) given) given)

  -- a node is placed
  module _ (g v : ℕ) (phase full : QueuePhase) (j : ℕ) (found : Ptr) (did : Touched) (told : AccessAnswer → QueuePhase)
      (is_place : queue_deed_of g phase ≡ Touches (Place v) told full) (nothing : Stands past h xs phase)
      (none : (n : Name) → ¬ (Owns phase n)) (fails : Stands past h xs full) (nobody : (n : Name) → ¬ (Owns full n))
      (gives : (n : Name) → MineOf (told (NameAnswer n)) n) where
    abbrev content : Content
    content = record { value = v; fields = nulls 16 }

    abbrev put : Name → Heap
    put n = with_cell_at h n (filled n.turn 0 (record { value = v; fields = nulls 16 }))

    abbrev DoesIt : Touched → Type 1
    DoesIt did = StaysGiven h did.heap → Goes did.heap phase (phase_after phase told full did.told)

    mine : (n : Name) → ¬ (IsGiven h n) → Next (put n) n None → Calm past.left h (put n) → (past' : Past)
        → Passed past past' (put n) None → Mine past' (put n) n
    mine n fresh new calm past' passed = (
      λ r. elim (passed.reached n r) [
        | inl was ↦ fresh (settled.reached_given n was)
        | inr at ↦ fresh (settled.reached_given n (settled.seen n (fewer_reach h (put n) calm.fewer n at)))
      ],
      λ l. elim (passed.left n l) [ inl was ↦ fresh (settled.left_given n was) | inr e ↦ cc (e) ],
      new,
    )

    place_by : (o : Option Cell) → slice_get h.cells j ≡ o → Places v j found h o did
        → (StaysGiven h did.heap → Calm past.left h did.heap) → DoesIt did
    place_by None e is calm =
        subst DoesIt (sym is) (λ given. still phase full nothing fails (λ n o. absurd (nobody n o)))
    place_by (Some c) e (inr is) calm =
        subst DoesIt (sym is.1) (λ given. still phase phase nothing nothing (λ x o. o))
    place_by (Some c) e (inl (free, n, slot, turn, is)) calm =
        subst (λ (d : Touched). (StaysGiven h d.heap → Calm past.left h d.heap) → DoesIt d) (sym is)
        (λ calm given. placed (calm given)) calm
      where
        there : slice_get h.cells (n.slot - 1) ≡ Some c
        there = let here : n.slot - 1 ≡ j = omega (arith, slot) in ap (λ (i : ℕ). slice_get h.cells i) here ∙ e

        fresh : ¬ (IsGiven h n)
        fresh = (place_gives v j found h (Some c) e _ (inl (free, n, slot, turn, refl)) n refl).fresh

        new : Next (put n) n None
        new = ap (λ (o : Option Cell). field_in o 0)
            (cell_there h n c (filled n.turn 0 (record { value = v; fields = nulls 16 })) content there refl refl)

        placed : Calm past.left h (put n) → Goes (put n) phase (told (NameAnswer n))
        placed calm =
            turn_acts past h (put n) xs xs None settled shape (calm_turn past h (put n) xs settled calm shape)
            (calm_form past h (put n) xs settled calm shape) (calm_shut past h (put n) xs settled calm shape) phase
            (told (NameAnswer n)) nothing (λ m e. absurd (cc (e)))
            (λ m o. inr (inr (λ was. fresh (subst (IsGiven h) ((gives n).owns m o) was))))
            (λ past' passed. (gives n).stands past' (put n) xs (mine n fresh new calm past' passed))

    pub place : (o : Option Cell) → slice_get h.cells j ≡ o → Places v j found h o did
        → (StaysGiven h did.heap → Calm past.left h did.heap) → Does g phase did
    place o e is calm given =
        subst (λ (d : Deed QueuePhase QueueAnswer). Goes did.heap phase (after_touch phase d did.told))
        (sym is_place) (place_by o e is calm given)

  -- the first node is put at the head, won or lost
  pub crown : (g : ℕ) (n : Name) (j : ℕ) (found : Ptr) (did : Touched) (o : Option Ptr) → pointer_at h (Root 0) ≡ o
      → ChangesAt (CompareExchange null (ptr_to n)) j found (Root 0) h o did → Mine past h n → Does g (Crowning n) did
  crown g n j found did None e is s = absurd (cc (e, shape.form.rooted))
  crown g n j found did (Some ptr) e (inr is) s =
      subst (Does g (Crowning n)) (sym is.1) (λ given. weak_here _ _ (refused g (Crowning n) CellsFull) s)
  crown g n j found did (Some ptr) e (inl is) s =
      subst (Does g (Crowning n)) (sym is.1) (λ given.
      subst (λ (p : Ptr). StaysGiven h (with_pointer h (Root 0) p)
      → Goes (with_pointer h (Root 0) p) (Crowning n) (Seating n)) (sym (aligned_at h (Some n)))
      (λ given. crowns given) given)
    where
      null_head : pointer_at h (Root 0) ≡ Some (at None)
      null_head = e ∙ ap Some (is.0 ∙ aligned_at h None)

      formed : (xs ≡ []) × (shape.form.last ≡ None) × Form (took h n) (n ∷ [])
      formed = crown_form h xs shape.form n s.2 null_head

      kept : (m : Name) → pointer_at (took h n) (Field m 0) ≡ pointer_at h (Field m 0)
      kept m = pointer_other h (Root 0) (at (Some n)) (Field m 0) (λ e. cc (e))

      tail : pointer_at (took h n) (Root 1) ≡ pointer_at h (Root 1)
      tail = pointer_other h (Root 0) (at (Some n)) (Root 1) (λ e. cc (e))

      outside : (m : Name) → ¬ (In m xs)
      outside m there = subst (λ ns. In m ns) formed.0 there

      turn : StaysGiven h (took h n) → Turn past h (took h n) xs (n ∷ []) (Some n)
      turn given = record {
        own = λ m r left off e. kept m ∙ e;
        back = λ m r ptr e. inl (sym (kept m) ∙ e);
        inside = λ m there r. elim there [
          | inl e ↦ absurd (s.0 (subst (λ k. past.reached k) e r))
          | inr nothing ↦ absurd nothing
        ];
        at_tail = λ t r none e. tail ∙ e;
        tails = λ m e. inl (sym tail ∙ e);
        untailed = λ m e. (sym tail ∙ e, λ there. absurd (outside m there));
        reach = λ m r. elim (reached_in (took h n) (n ∷ []) formed.2 m r) [
          | inl there ↦ elim there [ inl e ↦ inr (ap Some (sym e)) | inr nothing ↦ absurd nothing ]
          | inr e ↦ inl (tail_reached h xs shape.form m
              (at_same shape.form.last formed.2.last (sym shape.form.tailed ∙ sym tail ∙ formed.2.tailed) ∙ e))
        ];
        given = given;
        first = λ m r f there. elim there [
          | inl e ↦ absurd (s.0 (subst (λ k. past.reached k) e r))
          | inr nothing ↦ absurd nothing
        ];
        worth = λ m v l w. w;
      }

      crowns : StaysGiven h (took h n) → Goes (took h n) (Crowning n) (Seating n)
      crowns given =
          turn_acts past h (took h n) xs (n ∷ []) (Some n) settled shape (turn given) formed.2
          (λ m r out none. shape.shut m r (outside m) (sym (kept m) ∙ none)) (Crowning n) (Seating n) s
          (λ m e. let same : n ≡ m = cc (e) in sym same) (λ m o. absurd o)
          (λ past' passed.
          (passed.come n (in_reach (took h n) (n ∷ []) formed.2 n (inl refl)), λ none. inl refl))

  -- and at the tail
  pub seat : (g : ℕ) (n : Name) (j : ℕ) (found : Ptr) (did : Touched) (o : Option Ptr) → pointer_at h (Root 1) ≡ o
      → ChangesAt (CompareExchange null (ptr_to n)) j found (Root 1) h o did → AtHead past h xs n
      → Does g (Seating n) did
  seat g n j found did None e is s = absurd (cc (e, shape.form.tailed))
  seat g n j found did (Some ptr) e (inr is) s =
      subst (Does g (Seating n)) (sym is.1) (λ given. weak_here _ _ (refused g (Seating n) CellsFull) s)
  seat g n j found did (Some ptr) e (inl is) s =
      subst (Does g (Seating n)) (sym is.1) (λ given.
      subst (λ (p : Ptr). StaysGiven h (with_pointer h (Root 1) p)
      → Goes (with_pointer h (Root 1) p) (Seating n) (Answering Built)) (sym (aligned_at h (Some n)))
      (λ given. seats given) given)
    where
      null_tail : pointer_at h (Root 1) ≡ Some (at None)
      null_tail = e ∙ ap Some (is.0 ∙ aligned_at h None)

      there : In n xs
      there = s.1 null_tail

      alone : Next h n None
      alone = shape.form.bare (at_same shape.form.last None (sym shape.form.tailed ∙ null_tail)) n there

      form : Form (swung h n) xs
      form = seat_form h xs shape.form n there alone null_tail

      kept : (m : Name) → pointer_at (swung h n) (Field m 0) ≡ pointer_at h (Field m 0)
      kept m = pointer_other h (Root 1) (at (Some n)) (Field m 0) (λ e. cc (e))

      to_n : pointer_at (swung h n) (Root 1) ≡ Some (at (Some n))
      to_n = written_there h (Root 1) (at None) (at (Some n)) null_tail

      turn : StaysGiven h (swung h n) → Turn past h (swung h n) xs xs None
      turn given = record {
        own = λ m r left off e. kept m ∙ e;
        back = λ m r ptr e. inl (sym (kept m) ∙ e);
        inside = λ m there r. there;
        at_tail = λ t r none e. absurd (let both : at None ≡ at (Some t) = cc (null_tail, e) in none_not t both);
        tails = λ m e.
            let same : at (Some n) ≡ at (Some m) = cc (to_n, e) in
            let name : Some n ≡ Some m = ap (λ (p : Ptr). p.name) same in
            let one : n ≡ m = cc (name) in inr (subst (λ k. In k xs) one there);
        untailed = λ m e. absurd (let both : at (Some n) ≡ at None = cc (to_n, e) in none_not n (sym both));
        reach = λ m r. inl (elim (reached_in (swung h n) xs form m r) [
          | inl is ↦ in_reach h xs shape.form m is
          | inr e ↦
              let name : Some n ≡ Some m = sym (at_same form.last (Some n) (sym form.tailed ∙ to_n)) ∙ e in
              let one : n ≡ m = cc (name) in in_reach h xs shape.form m (subst (λ k. In k xs) one there)
        ]);
        given = given;
        first = λ m r f. f;
        worth = λ m v l w. w;
      }

      seats : StaysGiven h (swung h n) → Goes (swung h n) (Seating n) (Answering Built)
      seats given =
          turn_acts past h (swung h n) xs xs None settled shape (turn given) form
          (λ m r apart none. shape.shut m r apart (sym (kept m) ∙ none)) (Seating n) (Answering Built) s
          (λ m e. absurd (cc (e))) (λ m o. absurd o) (λ past' passed. tt)

  -- what the tail's removal waits for: after an exchange of the tail, it is past what was taken off
  pub advance : (g : ℕ) (n q : Name) (v j : ℕ) (found : Ptr) (did : Touched) (o : Option Ptr)
      → pointer_at h (Root 1) ≡ o → ChangesAt (CompareExchange (ptr_to n) (ptr_to q)) j found (Root 1) h o did
      → Off past h xs n × Linked past h n q → Does g (Advancing n q v) did
  advance g n q v j found did o e is s =
      swings g (Advancing n q v) (Removing n v) n q j found did o e is s s.1 (λ x o. o)
      (ends o is)
      (λ off. (s.0, off))
      (λ is_tail past' passed turn. (
        (
          passed.more n s.0.0,
          s.0.1,
          λ l. elim (passed.left n l) [ inl was ↦ s.0.2 was | inr e ↦ cc (e) ],
          turn.given n s.0.3,
        ),
        λ there.
            let to_q = written_there h (Root 1) (at (Some n)) (at (Some q)) is_tail in
            let same : at (Some q) ≡ at (Some n) = cc (to_q, there) in
            let name : Some q ≡ Some n = ap (λ (p : Ptr). p.name) same in
            let one : q ≡ n = cc (name) in
            s.0.1 (subst (λ k. In k xs) one (swing_to h xs shape.form n q s.1.1 is_tail).0),
      ))
    where
      ends : (o : Option Ptr) → ChangesAt (CompareExchange (ptr_to n) (ptr_to q)) j found (Root 1) h o did
          → (told : Accessed) → did.told ≡ told
          → after_touch (Advancing n q v) (queue_deed_of g (Advancing n q v)) told ≡ Removing n v
      ends o is (Told a) e = refl
      ends None is (Again f) e = absurd (cc (e, ap (λ (d : Touched). d.told) is))
      ends (Some ptr) (inl is) (Again f) e = absurd (cc (e, ap (λ (d : Touched). d.told) is.1))
      ends (Some ptr) (inr is) (Again f) e = absurd (cc (e, ap (λ (d : Touched). d.told) is.1))
      ends None is NoSlot e = absurd (cc (e, ap (λ (d : Touched). d.told) is))
      ends (Some ptr) (inl is) NoSlot e = absurd (cc (e, ap (λ (d : Touched). d.told) is.1))
      ends (Some ptr) (inr is) NoSlot e = absurd (cc (e, ap (λ (d : Touched). d.told) is.1))

  -- a push brings the tail on to its own node
  pub swing_last : (g : ℕ) (t n : Name) (j : ℕ) (found : Ptr) (did : Touched) (o : Option Ptr)
      → pointer_at h (Root 1) ≡ o → ChangesAt (CompareExchange (ptr_to t) (ptr_to n)) j found (Root 1) h o did
      → Linked past h t n → Does g (Swinging t n) did
  swing_last g t n j found did o e is s =
      swings g (Swinging t n) (Answering Pushed) t n j found did o e is s s (λ x o. o) (ends o is) (λ off. tt)
      (λ is_tail past' passed turn. tt)
    where
      ends : (o : Option Ptr) → ChangesAt (CompareExchange (ptr_to t) (ptr_to n)) j found (Root 1) h o did
          → (told : Accessed) → did.told ≡ told
          → after_touch (Swinging t n) (queue_deed_of g (Swinging t n)) told ≡ Answering Pushed
      ends o is (Told a) e = refl
      ends None is (Again f) e = absurd (cc (e, ap (λ (d : Touched). d.told) is))
      ends (Some ptr) (inl is) (Again f) e = absurd (cc (e, ap (λ (d : Touched). d.told) is.1))
      ends (Some ptr) (inr is) (Again f) e = absurd (cc (e, ap (λ (d : Touched). d.told) is.1))
      ends o is NoSlot e = refl

  -- or to another's, where the tail lags
  pub help : (g : ℕ) (n t q : Name) (k j : ℕ) (found : Ptr) (did : Touched) (o : Option Ptr)
      → pointer_at h (Root 1) ≡ o → ChangesAt (CompareExchange (ptr_to t) (ptr_to q)) j found (Root 1) h o did
      → Mine past h n × Linked past h t q → Does g (Helping n t q k) did
  help g n t q k j found did o e is s =
      swings g (Helping n t q k) (retry_push n k) t q j found did o e is s s.1 again.owns (ends o is)
      (λ off. again.stands past h xs shape s)
      (λ is_tail past' passed turn.
      by_tries k past' passed turn)
    where
      again : Weaker queue structure (Helping n t q k) (retry_push n k)
      again = refused g (Helping n t q k) CellsFull

      by_tries : (k : ℕ) (past' : Past) → Passed past past' (swung h q) None → Turn past h (swung h q) xs xs None
          → Stands past' (swung h q) xs (retry_push n k)
      by_tries zero past' passed turn =
          stands_kept past past' h (swung h q) xs xs None None settled turn passed (TakingBack n)
          (λ x o. (λ e. cc (e), λ e. cc (e))) s.0
      by_tries (suc k) past' passed turn =
          stands_kept past past' h (swung h q) xs xs None None settled turn passed (LoadingTail n k)
          (λ x o. (λ e. cc (e), λ e. cc (e))) s.0

      ends : (o : Option Ptr) → ChangesAt (CompareExchange (ptr_to t) (ptr_to q)) j found (Root 1) h o did
          → (told : Accessed) → did.told ≡ told
          → after_touch (Helping n t q k) (queue_deed_of g (Helping n t q k)) told ≡ retry_push n k
      ends o is (Told a) e = refl
      ends None is (Again f) e = absurd (cc (e, ap (λ (d : Touched). d.told) is))
      ends (Some ptr) (inl is) (Again f) e = absurd (cc (e, ap (λ (d : Touched). d.told) is.1))
      ends (Some ptr) (inr is) (Again f) e = absurd (cc (e, ap (λ (d : Touched). d.told) is.1))
      ends o is NoSlot e = refl
