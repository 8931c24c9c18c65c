-- What a step of a queue's run makes of the values that it holds.
use Rattle.std.proofs.Common.{◌≡◌, ℕ, List, [], ◌∷◌, ◌++◌, Option, Some, None, true, ◌⊎◌, inl, inr, refl, ap, sym}
use Rattle.std.proofs.Common.{subst, ◌∙◌, slice_get}
use Rattle.epoch_cells.specs.declared.cells.name.Name.{Name}
use Rattle.epoch_laws.specs.declared.heap.access.Access.TheVariants.{Place, Read, Leave}
use Rattle.epoch_laws.specs.declared.heap.access.Accessed.{Accessed}
use Rattle.epoch_laws.specs.declared.heap.access.Accessed.TheVariants.{Answers as Told}
use Rattle.epoch_laws.specs.declared.heap.access.AccessAnswer.TheVariants.{Absent, Exchanged, Pointer}
use Rattle.epoch_laws.specs.declared.heap.access.Change.TheVariants.{Load, CompareExchange}
use Rattle.epoch_laws.specs.declared.heap.access.Ptr.{Ptr}
use Rattle.epoch_laws.specs.declared.heap.access.Spot.{Spot}
use Rattle.epoch_laws.specs.declared.heap.access.Spot.TheVariants.{Root, Field}
use Rattle.epoch_laws.specs.declared.heap.heap.Content.{Content}
use Rattle.epoch_laws.specs.declared.heap.access.AccessAnswer.{AccessAnswer}
use Rattle.epoch_laws.specs.Heap.{Heap, Cell, cell_at, null, pointer_at, Touched, ChangesAt, with_pointer}
use Rattle.epoch_laws.specs.declared.step.Entry.{Entry}
use Rattle.epoch_laws.specs.declared.step.Progress.TheVariants.{Ends}
use Rattle.epoch_laws.specs.declared.step.Reply.TheVariants.{Done}
use Rattle.epoch_laws.specs.Run.{State, WorldSeat, seat_of, TakesStep, progress_after}
use Rattle.epoch_laws.specs.Reach.{Past}
use Rattle.epoch_laws.proofs.PointerSteps.{pointer_other}
use Rattle.epoch_laws.proofs.TurnsGiven.{touches_given}
use Rattle.epoch_structure_laws.specs.declared.plan.Plan.TheVariants.{Under}
use Rattle.epoch_structure_laws.specs.Plans.{AllPlans, ptr_to}
use Rattle.epoch_structure_laws.proofs.Custody.{Calm, Sound}
use Rattle.epoch_structure_laws.proofs.Obligations.{TouchesBy}
use Rattle.epoch_structure_laws.proofs.Calls.{calm_call, calm_pointer}
use Rattle.epoch_structure_laws.proofs.Cells.{content_found, written_there}
use Rattle.epoch_structure_laws.proofs.HeapTurns.{Touching, heap_turns, touched}
use Rattle.epoch_structure_laws.specs.declared.queue.plan.QueuePhase.{QueuePhase}
use Rattle.epoch_structure_laws.specs.declared.queue.plan.QueuePhase.TheVariants.{MakingRoom, Founding, Crowning}
use Rattle.epoch_structure_laws.specs.declared.queue.plan.QueuePhase.TheVariants.{Seating, Placing, LoadingTail}
use Rattle.epoch_structure_laws.specs.declared.queue.plan.QueuePhase.TheVariants.{LoadingLast, Appending, Swinging}
use Rattle.epoch_structure_laws.specs.declared.queue.plan.QueuePhase.TheVariants.{Helping, TakingBack, LoadingHead}
use Rattle.epoch_structure_laws.specs.declared.queue.plan.QueuePhase.TheVariants.{LoadingNext, Reading, Leaving, Taking}
use Rattle.epoch_structure_laws.specs.declared.queue.plan.QueuePhase.TheVariants.{LookingBack, Advancing, Removing}
use Rattle.epoch_structure_laws.specs.declared.queue.plan.QueuePhase.TheVariants.{Answering}
use Rattle.epoch_structure_laws.specs.QueueProgram.{queue_deed_of, queue}
use Rattle.epoch_structure_laws.specs.QueueValues.{HoldsValue, HoldsFrom, HoldsBehind, QueueHolds, BringsValue}
use Rattle.epoch_structure_laws.specs.QueueValues.{StepOnValues, keeps, appends, takes, FindsNoValue}
use Rattle.epoch_structure_laws.proofs.QueueForm.{In, at, at_same, Next, Chain, head_in, next_in, follows_in}
use Rattle.epoch_structure_laws.proofs.QueueForm.{other_field, written, own, took, appended}
use Rattle.epoch_structure_laws.proofs.QueueKept.{Shape, Mine, AtTail, Linked, First, Worth, Stands, structure}
use Rattle.epoch_structure_laws.proofs.QueueLists.{holds_kept, holds_more, holds_less, holds_none, in_or, value_written}
use Rattle.epoch_structure_laws.proofs.QueueSteps.{aligned_at}

-- an exchange of a root leaves what the nodes hold
from_rooted : (h : Heap) (i : ℕ) (ptr : Ptr) (o : Option Name) (vs : List ℕ) → HoldsFrom h o vs
    → HoldsFrom (with_pointer h (Root i) ptr) o vs
from_rooted h i ptr o [] holds = holds
from_rooted h i ptr o (v ∷ vs) (n, next, is, worth, leads, rest) =
    (n, next, is, worth, leads, from_rooted h i ptr next vs rest)

module _ (past : Past) (h : Heap) (xs : List Name) (shape : Shape past h xs) where
  calm_list : (h' : Heap) (vs : List ℕ) → Calm past.left h h' → QueueHolds h vs → QueueHolds h' vs
  calm_list h' vs calm holds =
      holds_kept h h' xs shape.form vs (ap (λ (rs : List Ptr). slice_get rs 0) calm.roots)
      (λ n o there e. calm_pointer past.left h h' calm n 0 (at o) (shape.known n there).1 e)
      (λ n v there w. let kept = calm.kept n w.0 w.1 (shape.known n there).1 w.2 w.3 in
      (kept.0, w.1, kept.1, kept.2, w.4))
      holds

  -- what a won exchange of this phase makes of the values
  abbrev Won : QueuePhase → Touched → List ℕ → Type 0
  Won (Appending n t k) did vs =
      (v : ℕ) × HoldsValue h n v × QueueHolds did.heap (vs ++ v ∷ []) × (ptr : Ptr) × (did.told ≡ Told (Exchanged ptr))
  Won (Taking n q v k) did vs =
      (ws : List ℕ) × (vs ≡ v ∷ ws) × QueueHolds did.heap ws × (ptr : Ptr) × (did.told ≡ Told (Exchanged ptr))
  Won _ did vs = ⊥

  module _ (j : ℕ) (found : Ptr) (did : Touched) (vs : List ℕ) (holds : QueueHolds h vs) where
    abbrev Does : QueuePhase → Type 0
    Does phase = QueueHolds did.heap vs ⊎ Won phase did vs

    same_heap : (phase : QueuePhase) → did.heap ≡ h → Does phase
    same_heap phase is = inl (subst (λ (k : Heap). QueueHolds k vs) (sym is) holds)

    loads : (phase : QueuePhase) (spot : Spot) (o : Option Ptr) → ChangesAt Load j found spot h o did → Does phase
    loads phase spot None e = same_heap phase (ap (λ (d : Touched). d.heap) e)
    loads phase spot (Some ptr) e = same_heap phase (ap (λ (d : Touched). d.heap) e)

    -- an exchange of the tail
    swings_tail : (phase : QueuePhase) (current other : Ptr) (o : Option Ptr)
        → ChangesAt (CompareExchange current other) j found (Root 1) h o did → Does phase
    swings_tail phase current other None e = same_heap phase (ap (λ (d : Touched). d.heap) e)
    swings_tail phase current other (Some ptr) (inr e) = same_heap phase (ap (λ (d : Touched). d.heap) e.1)
    swings_tail phase current other (Some ptr) (inl e) =
        inl (subst (λ (d : Touched). QueueHolds d.heap vs) (sym e.1)
        (holds_kept h (with_pointer h (Root 1) _) xs shape.form vs (pointer_other h (Root 1) _ (Root 0) (λ e. cc (e)))
        (λ n o there e. e) (λ n v there w. w) holds))

    -- the first node is put at the head
    crowns : (n : Name) (o : Option Ptr) → pointer_at h (Root 0) ≡ o
        → ChangesAt (CompareExchange null (ptr_to n)) j found (Root 0) h o did → Mine past h n → Does (Crowning n)
    crowns n None is e s = same_heap (Crowning n) (ap (λ (d : Touched). d.heap) e)
    crowns n (Some ptr) is (inr e) s = same_heap (Crowning n) (ap (λ (d : Touched). d.heap) e.1)
    crowns n (Some ptr) is (inl e) s =
        inl (subst (λ (d : Touched). QueueHolds d.heap vs) (sym e.1)
        (subst (λ (p : Ptr). QueueHolds (with_pointer h (Root 0) p) vs) (sym (aligned_at h (Some n))) crowned))
      where
        null_head : pointer_at h (Root 0) ≡ Some (at None)
        null_head = is ∙ ap Some (e.0 ∙ aligned_at h None)

        nothing : vs ≡ []
        nothing = subst (λ (o : Option Name). HoldsBehind h o vs) (at_same holds.0 None (sym holds.1 ∙ null_head))
            holds.2

        crowned : QueueHolds (took h n) vs
        crowned = (
          Some n,
          written_there h (Root 0) (at None) (at (Some n)) null_head,
          (
            None,
            s.2,
            subst (λ (us : List ℕ). HoldsFrom (took h n) None us) (sym nothing) refl,
          ),
        )

    -- a node is put behind the last one
    adds : (n t : Name) (k : ℕ) (o : Option Ptr) → pointer_at h (Field t 0) ≡ o
        → ChangesAt (CompareExchange null (ptr_to n)) j found (Field t 0) h o did → Mine past h n × AtTail past h t
        → Does (Appending n t k)
    adds n t k None is e s = same_heap (Appending n t k) (ap (λ (d : Touched). d.heap) e)
    adds n t k (Some ptr) is (inr e) s = same_heap (Appending n t k) (ap (λ (d : Touched). d.heap) e.1)
    adds n t k (Some ptr) is (inl e) s = inr (
      content.1.value,
      worth,
      subst (λ (d : Touched). QueueHolds d.heap (vs ++ content.1.value ∷ [])) (sym e.1)
          (subst (λ (p : Ptr). QueueHolds (with_pointer h (Field t 0) p) (vs ++ content.1.value ∷ []))
          (sym (aligned_at h (Some n))) longer),
      _,
      ap (λ (d : Touched). d.told) e.1,
    )
      where
        none : Next h t None
        none = is ∙ ap Some (e.0 ∙ aligned_at h None)

        there : In t xs
        there = elim (in_or t xs) [ inl is ↦ is | inr out ↦ absurd (shape.shut t s.1.0 out none) ]

        is_tail : pointer_at h (Root 1) ≡ Some (at (Some t))
        is_tail = s.1.1 none

        fresh : ¬ (In n xs)
        fresh is = s.0.0 (shape.known n is).0

        content : (c : Cell) × (content : Content) × (cell_at h n ≡ Some c) × (c.value ≡ Some content)
        content = content_found h n 0 (at None) s.0.2

        worth : HoldsValue h n content.1.value
        worth = (content.0, content.1, content.2, content.3, refl)

        longer : QueueHolds (appended h t n) (vs ++ content.1.value ∷ [])
        longer = holds_more h (appended h t n) t n content.1.value none
            (written h xs shape.form t n there none is_tail fresh s.0.2)
            (own h xs shape.form t n there none is_tail fresh s.0.2)
            (value_written h t (at (Some n)) n content.1.value worth)
            (λ m next ne to. other_field h xs shape.form t n there none is_tail fresh s.0.2 m ne ∙ to)
            (λ m w held. value_written h t (at (Some n)) m w held) xs shape.form vs there
            (pointer_other h (Field t 0) (at (Some n)) (Root 0) (λ e. cc (e))) holds

    -- the head is taken off
    takes_off : (n q : Name) (v k : ℕ) (o : Option Ptr) → pointer_at h (Root 0) ≡ o
        → ChangesAt (CompareExchange (ptr_to n) (ptr_to q)) j found (Root 0) h o did
        → Linked past h n q × Worth past h q v → Does (Taking n q v k)
    takes_off n q v k None is e s = same_heap (Taking n q v k) (ap (λ (d : Touched). d.heap) e)
    takes_off n q v k (Some ptr) is (inr e) s = same_heap (Taking n q v k) (ap (λ (d : Touched). d.heap) e.1)
    takes_off n q v k (Some ptr) is (inl e) s = inr (
      less.0,
      less.1,
      subst (λ (d : Touched). QueueHolds d.heap less.0) (sym e.1)
          (subst (λ (p : Ptr). QueueHolds (with_pointer h (Root 0) p) less.0) (sym (aligned_at h (Some q))) less.2),
      _,
      ap (λ (d : Touched). d.told) e.1,
    )
      where
        is_head : pointer_at h (Root 0) ≡ Some (at (Some n))
        is_head = is ∙ ap Some (e.0 ∙ aligned_at h (Some n))

        there : In n xs
        there = head_in h shape.form.head xs n shape.form.chain
            (at_same shape.form.head (Some n) (sym shape.form.rooted ∙ is_head))

        to_next : Next h n (Some q)
        to_next =
            let next = next_in h shape.form.head xs n shape.form.chain there in
            next.1 ∙ ap Some (s.0.1 (at next.0) next.1)

        stays : ¬ (past.left q)
        stays = (shape.known q (follows_in h shape.form.head xs n q shape.form.chain there to_next)).1

        less : (ws : List ℕ) × (vs ≡ v ∷ ws) × QueueHolds (took h q) ws
        less = holds_less h (took h q) n q v vs is_head to_next (s.1 stays)
            (written_there h (Root 0) (at (Some n)) (at (Some q)) is_head)
            (λ ws next to rest. (to, from_rooted h 0 (at (Some q)) next ws rest)) holds

    -- each phase's step
    touch_list : (g : ℕ) (phase : QueuePhase) → TouchesBy (queue_deed_of g phase) j found h did → Stands past h xs phase
        → Does phase
    touch_list g (MakingRoom work) e s = absurd e
    touch_list g (TakingBack n) e s = absurd e
    touch_list g (Removing n v) e s = absurd e
    touch_list g (Answering a) e s = absurd e
    touch_list g Founding e s =
        inl (calm_list did.heap vs (calm_call past.left h (Place 0) j found did tt e
        (touches_given (Place 0) j found h did e)) holds)
    touch_list g (Placing v k) e s =
        inl (calm_list did.heap vs (calm_call past.left h (Place v) j found did tt e
        (touches_given (Place v) j found h did e)) holds)
    touch_list g (Crowning n) e s = crowns n (pointer_at h (Root 0)) refl e s
    touch_list g (Seating n) e s = swings_tail (Seating n) null (ptr_to n) (pointer_at h (Root 1)) e
    touch_list g (LoadingTail n k) e s = loads (LoadingTail n k) (Root 1) (pointer_at h (Root 1)) e
    touch_list g (LoadingLast n t k) e s = loads (LoadingLast n t k) (Field t 0) (pointer_at h (Field t 0)) e
    touch_list g (Appending n t k) e s = adds n t k (pointer_at h (Field t 0)) refl e s
    touch_list g (Swinging t n) e s = swings_tail (Swinging t n) (ptr_to t) (ptr_to n) (pointer_at h (Root 1)) e
    touch_list g (Helping n t q k) e s =
        swings_tail (Helping n t q k) (ptr_to t) (ptr_to q) (pointer_at h (Root 1)) e
    touch_list g (LoadingHead k) e s = loads (LoadingHead k) (Root 0) (pointer_at h (Root 0)) e
    touch_list g (LoadingNext n k) e s = loads (LoadingNext n k) (Field n 0) (pointer_at h (Field n 0)) e
    touch_list g (Reading n q k) e s =
        inl (calm_list did.heap vs (calm_call past.left h (Read (Some g) (ptr_to q)) j found did tt e
        (touches_given (Read (Some g) (ptr_to q)) j found h did e)) holds)
    touch_list g (Leaving n q v k) e s =
        inl (calm_list did.heap vs (calm_call past.left h (Leave (ptr_to q)) j found did tt e
        (touches_given (Leave (ptr_to q)) j found h did e)) holds)
    touch_list g (Taking n q v k) e s = takes_off n q v k (pointer_at h (Root 0)) refl e s
    touch_list g (LookingBack n q v) e s = loads (LookingBack n q v) (Root 1) (pointer_at h (Root 1)) e
    touch_list g (Advancing n q v) e s =
        swings_tail (Advancing n q v) (ptr_to n) (ptr_to q) (pointer_at h (Root 1)) e

    -- a node without a next that a pop has loaded as the head is the only one
    pub nothing_behind : (n : Name) (ptr : Ptr) → past.reached n → First xs n → pointer_at h (Field n 0) ≡ Some ptr
        → ptr.name ≡ None → vs ≡ []
    nothing_behind n ptr r first to name = holds_none h n vs rooted none holds
      where
        none : Next h n None
        none = to ∙ ap Some (λ i. record { name = name i; tag = shape.plain n ptr r to i })

        there : In n xs
        there = elim (in_or n xs) [ inl is ↦ is | inr out ↦ absurd (shape.shut n r out none) ]

        head : shape.form.head ≡ Some n
        head =
            let only = first there in
            (subst (λ (ns : List Name). Chain h shape.form.head ns) only.1 shape.form.chain).1

        rooted : pointer_at h (Root 0) ≡ Some (at (Some n))
        rooted = shape.form.rooted ∙ ap (λ (o : Option Name). Some (at o)) head

module _ (past : Past) (old new : State) (plans : AllPlans QueuePhase) (x : Entry)
    (sound : Sound queue structure past old plans) (did : TakesStep old x.step x.reply new) (vs : List ℕ)
    (holds : QueueHolds old.heap vs) where
  brought : (t : Touching queue structure past old new plans x sound) (answer : AccessAnswer)
      → t.did.told ≡ Told answer → BringsValue old x new t.who (Done answer)
  brought t answer told = (
    t.step,
    (t.access, t.made, t.found, t.going),
    ap (λ (st : WorldSeat). st.progress) t.seat ∙ ap (λ (r : Accessed). progress_after t.access t.made r) told,
  )

  by_touch : (t : Touching queue structure past old new plans x sound) → StepOnValues old plans x new vs
  by_touch t = elim (touch_list past old.heap sound.ghost sound.shape t.made t.found t.did vs holds t.guard t.phase
      t.touches t.stands) [
        | inl same ↦ keeps (subst (λ (k : Heap). QueueHolds k vs) (sym t.heap) same)
        | inr won ↦ by_won t.phase refl won
      ]
    where
      by_won : (phase : QueuePhase) → t.phase ≡ phase → Won past old.heap sound.ghost sound.shape phase t.did vs
          → StepOnValues old plans x new vs
      by_won (Appending n y k) is (v, worth, more, ptr, told) =
          appends t.who t.guard n y k v ptr (t.under ∙ ap (λ (f : QueuePhase). Under t.guard f true) is)
          (brought t (Exchanged ptr) told) worth
          (subst (λ (i : Heap). QueueHolds i (vs ++ v ∷ [])) (sym t.heap) more)
      by_won (Taking n q v k) is (ws, whole, less, ptr, told) =
          takes t.who t.guard n q v k ws ptr (t.under ∙ ap (λ (f : QueuePhase). Under t.guard f true) is)
          (brought t (Exchanged ptr) told) whole
          (subst (λ (i : Heap). QueueHolds i ws) (sym t.heap) less)
      by_won _ is won = absurd won

  -- what the step makes of the values
  pub step_on_values : StepOnValues old plans x new vs
  step_on_values = elim (heap_turns queue structure past old new plans x sound did) [
    | inl calm ↦ keeps (calm_list past old.heap sound.ghost sound.shape new.heap vs calm holds)
    | inr t ↦ by_touch t
  ]

  -- a pop that finds no node behind the first one finds no value
  pub finds_none : FindsNoValue old plans x new → vs ≡ []
  finds_none f = by_pointer (pointer_at old.heap (Field f.head 0)) refl
      (subst (λ (p : QueuePhase). TouchesBy (queue_deed_of t.guard p) t.made t.found old.heap t.did) phase t.touches)
    where
      t : Touching queue structure past old new plans x sound
      t = touched queue structure past old new plans x sound did f.participant f.brings.0 f.brings.1.0 f.brings.1.1
          f.brings.1.2 f.brings.1.3

      same : t.who ≡ f.participant
      same = cc (t.step, f.brings.0)

      phase : t.phase ≡ LoadingNext f.head f.tries
      phase =
          let both : Under t.guard t.phase true ≡ Under f.guard (LoadingNext f.head f.tries) true =
          sym t.under ∙ ap plans same ∙ f.phase in cc (both)

      ends : (answer : AccessAnswer) → t.did.told ≡ Told answer → Ends (Done answer) ≡ Ends (Done (Pointer f.ptr))
      ends answer told = sym (brought t answer told).2 ∙ ap (λ (p : ℕ). (seat_of new p).progress) same ∙ f.brings.2

      by_pointer : (o : Option Ptr) → pointer_at old.heap (Field f.head 0) ≡ o
          → ChangesAt Load t.made t.found (Field f.head 0) old.heap o t.did → vs ≡ []
      by_pointer None to e = absurd (cc (ends Absent (ap (λ (d : Touched). d.told) e)))
      by_pointer (Some p) to e =
          let ended = ends (Pointer p) (ap (λ (d : Touched). d.told) e) in
          let loaded : p ≡ f.ptr = cc (ended) in
          let stands : past.reached f.head × First sound.ghost f.head =
          subst (Stands past old.heap sound.ghost) phase t.stands in
          nothing_behind past old.heap sound.ghost sound.shape t.made t.found t.did vs holds f.head p stands.0 stands.1
          to (ap (λ (q : Ptr). q.name) loaded ∙ f.none)
