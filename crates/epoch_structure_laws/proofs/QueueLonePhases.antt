-- What a push or a pop knows of the head and the tail while no other takes a step, and that each of its own keeps it.
use Rattle.std.proofs.Common.{◌≡◌, ℕ, zero, suc, ◌≤◌, Bool, true, false, List, [], ◌∷◌, Option, Some, None}
use Rattle.std.proofs.Common.{◌⊎◌, inl, inr, refl, ap, sym, subst, ◌∙◌, arith, if◌then◌else◌, slice_get}
use Rattle.epoch_cells.specs.declared.cells.name.Name.{Name}
use Rattle.epoch_laws.specs.declared.heap.access.Access.TheVariants.{Read, Point}
use Rattle.epoch_laws.specs.declared.heap.access.Accessed.{Accessed}
use Rattle.epoch_laws.specs.declared.heap.access.Accessed.TheVariants.{Again, Answers as Told, NoSlot}
use Rattle.epoch_laws.specs.declared.heap.access.AccessAnswer.{AccessAnswer}
use Rattle.epoch_laws.specs.declared.heap.access.AccessAnswer.TheVariants.{Pointer}
use Rattle.epoch_laws.specs.declared.heap.access.Change.TheVariants.{Load, CompareExchange}
use Rattle.epoch_laws.specs.declared.heap.access.Ptr.{Ptr}
use Rattle.epoch_laws.specs.declared.heap.access.Spot.TheVariants.{Root, Field}
use Rattle.epoch_laws.specs.Heap.{Cell, Heap, null, aligned, pointer_at, Touched, ChangesAt, Places, read_by, left_by}
use Rattle.epoch_laws.specs.Heap.{cell_at, nulls, with_cell_at, with_pointer}
use Rattle.epoch_laws.specs.declared.heap.heap.Content.{Content}
use Rattle.epoch_cells.specs.PlainCells.{filled, readable}
use Rattle.epoch_structure_laws.proofs.AloneRuns.{LoneDuty}
use Rattle.epoch_structure_laws.specs.Plans.{ptr_to}
use Rattle.epoch_structure_laws.proofs.Cells.{written_there}
use Rattle.epoch_structure_laws.proofs.Obligations.{after_touch}
use Rattle.epoch_structure_laws.specs.Served.{AnswersAccess}
use Rattle.epoch_structure_laws.specs.declared.queue.plan.QueueWork.{QueueWork}
use Rattle.epoch_structure_laws.specs.declared.queue.plan.QueueWork.TheVariants.{Build, Push, Pop}
use Rattle.epoch_structure_laws.specs.declared.queue.plan.QueuePhase.{QueuePhase}
use Rattle.epoch_structure_laws.specs.declared.queue.plan.QueuePhase.TheVariants.{MakingRoom, Founding, Crowning}
use Rattle.epoch_structure_laws.specs.declared.queue.plan.QueuePhase.TheVariants.{Seating, Placing, LoadingTail}
use Rattle.epoch_structure_laws.specs.declared.queue.plan.QueuePhase.TheVariants.{LoadingLast, Appending, Swinging}
use Rattle.epoch_structure_laws.specs.declared.queue.plan.QueuePhase.TheVariants.{Helping, TakingBack, LoadingHead}
use Rattle.epoch_structure_laws.specs.declared.queue.plan.QueuePhase.TheVariants.{LoadingNext, Reading, Leaving, Taking}
use Rattle.epoch_structure_laws.specs.declared.queue.plan.QueuePhase.TheVariants.{LookingBack, Advancing, Removing}
use Rattle.epoch_structure_laws.specs.declared.queue.plan.QueuePhase.TheVariants.{Answering}
use Rattle.epoch_structure_laws.specs.QueueProgram.{QueueStarts, queue_deed_of, names, queue, retry_push}
use Rattle.epoch_structure_laws.specs.QueueProgram.{start_queue_work, to_append, to_last, to_next, to_read}
use Rattle.epoch_structure_laws.proofs.QueueForm.{at, at_same, In, Next, next_same, Form, Chain}
use Rattle.epoch_structure_laws.proofs.QueueKept.{structure}
use Rattle.epoch_structure_laws.proofs.QueueSteps.{aligned_at}
use Rattle.epoch_structure_laws.proofs.QueueTouches.{queue_obeys}
use Rattle.epoch_structure_laws.specs.QueueAlone.{HasTries, IsQueueCallOut}
use Rattle.epoch_structure_laws.proofs.QueueServes.{knowledge, queue_serves}

abbrev pub TailIs : Heap → Name → Type 0
TailIs h t = pointer_at h (Root 1) ≡ Some (at (Some t))

abbrev pub HeadIs : Heap → Name → Type 0
HeadIs h n = pointer_at h (Root 0) ≡ Some (at (Some n))

-- head and tail lead to nodes
abbrev pub HasEnds : Heap → Type 0
HasEnds h = ((n : Name) × HeadIs h n) × ((t : Name) × TailIs h t)

-- what is known in each phase: the pointer that its exchange expects stands there
abbrev pub Lone : Heap → QueuePhase → Type 0
Lone h (MakingRoom work) = HasEnds h × HasTries work
Lone h (Placing v k) = HasEnds h × (2 ≤ k)
Lone h (LoadingTail n k) = (t : Name) × TailIs h t × ((1 ≤ k) ⊎ Next h t None)
Lone h (LoadingLast n t k) = TailIs h t × ((1 ≤ k) ⊎ Next h t None)
Lone h (Appending n t k) = Next h t None
Lone h (Swinging t n) = Unit {0}
Lone h (Helping n t q k) = (1 ≤ k) × TailIs h t × Next h q None
Lone h (LoadingHead k) = (n : Name) × HeadIs h n
Lone h (LoadingNext n k) = HeadIs h n
Lone h (Reading n q k) = HeadIs h n
Lone h (Leaving n q v k) = HeadIs h n
Lone h (Taking n q v k) = HeadIs h n
Lone h (LookingBack n q v) = Unit {0}
Lone h (Advancing n q v) = Unit {0}
Lone h (Removing n v) = Unit {0}
Lone h (Answering a) = ¬ (IsQueueCallOut a)
Lone h _ = ⊥

-- a queue whose tail leads to a node has a head
pub has_ends : (h : Heap) (xs : List Name) → Form h xs → (t : Name) → TailIs h t → HasEnds h
has_ends h xs form t tail = (by_head form.head xs form.chain form.rooted some, (t, tail))
  where
    last : form.last ≡ Some t
    last = at_same form.last (Some t) (sym form.tailed ∙ tail)

    some : (n : Name) × In n xs
    some = elim (form.near t last) [ inl there ↦ (t, there.0) | inr lags ↦ (lags.0, lags.3) ]

    none_in : (ns : List Name) → Chain h None ns → (n : Name) → ¬ (In n ns)
    none_in [] chain n there = there
    none_in (m ∷ ms) chain n there = cc (chain.1)

    by_head : (o : Option Name) (ns : List Name) → Chain h o ns → pointer_at h (Root 0) ≡ Some (at o)
        → (n : Name) × In n ns → (n : Name) × HeadIs h n
    by_head (Some n) ns chain rooted there = (n, rooted)
    by_head None ns chain rooted there = absurd (none_in ns chain there.0 there.1)

-- WHERE NOTHING OF THE HEAP BUT CELLS CHANGES

roots_kept : (h h' : Heap) → h'.roots ≡ h.roots → HasEnds h → HasEnds h'
roots_kept h h' same ends = (
  (ends.0.0, ap (λ (rs : List Ptr). slice_get rs 0) same ∙ ends.0.1),
  (ends.1.0, ap (λ (rs : List Ptr). slice_get rs 1) same ∙ ends.1.1),
)

-- making room leaves the head and the tail as they are
room_kept : (h h' : Heap) (work : QueueWork) → h'.roots ≡ h.roots → Lone h (MakingRoom work) → Lone h' (MakingRoom work)
room_kept h h' work same lone = (roots_kept h h' same lone.0, lone.1)

-- a call that begins
pub lone_start : (h : Heap) (work : QueueWork) → Lone h (MakingRoom work) → Lone h (start_queue_work work)
lone_start h Build lone = absurd lone.1
lone_start h (Push v k) lone = lone
lone_start h (Pop zero) lone = absurd (omega (arith, lone.1))
lone_start h (Pop (suc k)) lone = lone.0.0

-- one more try to push, where one is left and the tail leads to a node
lone_again : (h : Heap) (n : Name) (k : ℕ) → 1 ≤ k → ((j : ℕ) → k ≡ suc j → Lone h (LoadingTail n j))
    → Lone h (retry_push n k)
lone_again h n zero some next = absurd (omega (arith, some))
lone_again h n (suc k) some next = next k refl

-- EACH STEP OF A CALL ON CELLS AND POINTERS

module _ (h : Heap) (xs : List Name) (form : Form h xs) where
  -- what a step shows, whose answer is an expected one
  abbrev Shows : ℕ → QueuePhase → Touched → Type 0
  Shows g phase did = Lone did.heap (after_touch phase (queue_deed_of g phase) did.told)

  along : (g : ℕ) (phase : QueuePhase) {did did' : Touched} → did ≡ did' → Shows g phase did' → Shows g phase did
  along g phase e shows = subst (Shows g phase) (sym e) shows

  -- a placing changes no root
  place : (g v k j : ℕ) (found : Ptr) (did : Touched) (o : Option Cell) → Places v j found h o did
      → Lone h (Placing v k) → Shows g (Placing v k) did
  place g v k j found did None e lone = along g (Placing v k) e (λ out. out)
  place g v k j found did (Some c) (inr e) lone = along g (Placing v k) e.1 lone
  place g v k j found did (Some c) (inl (free, n, slot, turn, e)) lone = along g (Placing v k) e
      (lone_again (with_cell_at h n (filled n.turn 0 (record { value = v; fields = nulls 16 }))) n k
      (omega (arith, lone.1))
      (λ i is. (lone.0.1.0, lone.0.1.1, inl (omega (arith, is, lone.1)))))

  -- a load finds the tail
  load_tail : (g : ℕ) (n : Name) (k j : ℕ) (found : Ptr) (did : Touched) (o : Option Ptr) → pointer_at h (Root 1) ≡ o
      → ChangesAt Load j found (Root 1) h o did → Lone h (LoadingTail n k) → Shows g (LoadingTail n k) did
  load_tail g n k j found did None is e lone = absurd (cc (is, lone.1))
  load_tail g n k j found did (Some ptr) is e (t, tail, room) =
      let same : ptr ≡ at (Some t) = cc (is, tail) in
      along g (LoadingTail n k) e
      (subst (λ (q : Ptr). Lone h (to_last n k q.name)) (sym same) (tail, room))

  -- and its next, which is the last one or null
  load_last : (g : ℕ) (n t : Name) (k j : ℕ) (found : Ptr) (did : Touched) (o : Option Ptr)
      → pointer_at h (Field t 0) ≡ o → ChangesAt Load j found (Field t 0) h o did → Lone h (LoadingLast n t k)
      → Shows g (LoadingLast n t k) did
  load_last g n t k j found did o is e (tail, room) =
      elim (form.near t (at_same form.last (Some t) (sym form.tailed ∙ tail))) [
        | inl there ↦ by_next o is e None there.1 there.1
        | inr lags ↦ elim room [
          | inl some ↦ by_next o is e (Some lags.0) lags.1 (some, tail, lags.2)
          | inr none ↦ absurd (cc (next_same h t None (Some lags.0) none lags.1))
        ]
      ]
    where
      by_next : (o : Option Ptr) → pointer_at h (Field t 0) ≡ o → ChangesAt Load j found (Field t 0) h o did
          → (next : Option Name) → Next h t next → Lone h (to_append n t k next) → Shows g (LoadingLast n t k) did
      by_next None is e next to lone = absurd (cc (is, to))
      by_next (Some ptr) is e next to lone =
          let same : ptr ≡ at next = cc (is, to) in
          along g (LoadingLast n t k) e (subst (λ (q : Ptr). Lone h (to_append n t k q.name)) (sym same) lone)

  -- the exchange of the last one's null is won
  append : (g : ℕ) (n t : Name) (k j : ℕ) (found : Ptr) (did : Touched) (o : Option Ptr) → pointer_at h (Field t 0) ≡ o
      → ChangesAt (CompareExchange null (ptr_to n)) j found (Field t 0) h o did → Next h t None
      → Shows g (Appending n t k) did
  append g n t k j found did None is e lone = absurd (cc (is, lone))
  append g n t k j found did (Some ptr) is (inl e) lone = along g (Appending n t k) e.1 tt
  append g n t k j found did (Some ptr) is (inr e) lone =
      absurd (e.0 (let same : ptr ≡ at None = cc (is, lone) in same ∙ sym (aligned_at h None)))

  -- and so is that of a lagging tail, which leads to the last one then
  help : (g : ℕ) (n t q : Name) (k j : ℕ) (found : Ptr) (did : Touched) (o : Option Ptr) → pointer_at h (Root 1) ≡ o
      → ChangesAt (CompareExchange (ptr_to t) (ptr_to q)) j found (Root 1) h o did → Lone h (Helping n t q k)
      → Shows g (Helping n t q k) did
  help g n t q k j found did None is e lone = absurd (cc (is, lone.1))
  help g n t q k j found did (Some ptr) is (inl e) (some, tail, last) = along g (Helping n t q k) e.1
      (lone_again (with_pointer h (Root 1) (aligned h (ptr_to q))) n k some (λ i left. (
        q,
        written_there h (Root 1) ptr (aligned h (ptr_to q)) is ∙ ap Some (aligned_at h (Some q)),
        inr last,
      )))
  help g n t q k j found did (Some ptr) is (inr e) lone =
      absurd (e.0 (let same : ptr ≡ at (Some t) = cc (is, lone.1) in same ∙ sym (aligned_at h (Some t))))

  -- a load finds the head
  load_head : (g k j : ℕ) (found : Ptr) (did : Touched) (o : Option Ptr) → pointer_at h (Root 0) ≡ o
      → ChangesAt Load j found (Root 0) h o did → Lone h (LoadingHead k) → Shows g (LoadingHead k) did
  load_head g k j found did None is e lone = absurd (cc (is, lone.1))
  load_head g k j found did (Some ptr) is e (n, head) =
      let same : ptr ≡ at (Some n) = cc (is, head) in
      along g (LoadingHead k) e (subst (λ (q : Ptr). Lone h (to_next k q.name)) (sym same) head)

  -- and its next, or that there is none
  load_next : (g : ℕ) (n : Name) (k j : ℕ) (found : Ptr) (did : Touched) (o : Option Ptr)
      → ChangesAt Load j found (Field n 0) h o did
      → ((answer : AccessAnswer) → did.told ≡ Told answer → AnswersAccess (Point (Some g) (Field n 0) Load) answer)
      → HeadIs h n → Shows g (LoadingNext n k) did
  load_next g n k j found did None e expected head =
      absurd (expected _ (ap (λ (d : Touched). d.told) e))
  load_next g n k j found did (Some ptr) e expected head = along g (LoadingNext n k) e (by_name ptr.name)
    where
      by_name : (o : Option Name) → Lone h (to_read n k o)
      by_name None = λ out. out
      by_name (Some q) = head

  -- the value is read
  read : (g : ℕ) (n q : Name) (k : ℕ) (did : Touched) (o : Option Cell) (c : Option Content) → did ≡ read_by h q o c
      → ((answer : AccessAnswer) → did.told ≡ Told answer → AnswersAccess (Read (Some g) (ptr_to q)) answer)
      → HeadIs h n
      → Shows g (Reading n q k) did
  read g n q k did (Some c) (Some content) e expected head = along g (Reading n q k) e head
  read g n q k did (Some c) None e expected head = absurd (expected _ (ap (λ (d : Touched). d.told) e))
  read g n q k did None c e expected head = absurd (expected _ (ap (λ (d : Touched). d.told) e))

  -- and left
  leave : (g : ℕ) (n q : Name) (v k : ℕ) (did : Touched) (o : Option Cell) → did ≡ left_by h q o → HeadIs h n
      → Shows g (Leaving n q v k) did
  leave g n q v k did (Some c) e head = along g (Leaving n q v k) e head
  leave g n q v k did None e head = along g (Leaving n q v k) e head

  -- the exchange of the head is won
  take : (g : ℕ) (n q : Name) (v k j : ℕ) (found : Ptr) (did : Touched) (o : Option Ptr) → pointer_at h (Root 0) ≡ o
      → ChangesAt (CompareExchange (ptr_to n) (ptr_to q)) j found (Root 0) h o did → HeadIs h n
      → Shows g (Taking n q v k) did
  take g n q v k j found did None is e head = absurd (cc (is, head))
  take g n q v k j found did (Some ptr) is (inl e) head = along g (Taking n q v k) e.1 tt
  take g n q v k j found did (Some ptr) is (inr e) head =
      absurd (e.0 (let same : ptr ≡ at (Some n) = cc (is, head) in same ∙ sym (aligned_at h (Some n))))

  -- a look at the tail, and its exchange, are the same to the call whatever they tell
  swing : (g : ℕ) (t n : Name) (did : Touched) → Shows g (Swinging t n) did
  swing g t n did = by_told did.told
    where
      by_told : (told : Accessed) → Lone did.heap (after_touch (Swinging t n) (queue_deed_of g (Swinging t n)) told)
      by_told (Again f) = tt
      by_told (Told answer) = λ out. out
      by_told NoSlot = λ out. out

  look_back : (g : ℕ) (n q : Name) (v : ℕ) (did : Touched) → Shows g (LookingBack n q v) did
  look_back g n q v did = by_told did.told
    where
      by_test : (b : Bool) → Lone did.heap (if b then Advancing n q v else Removing n v)
      by_test true = tt
      by_test false = tt

      by_told : (told : Accessed)
          → Lone did.heap (after_touch (LookingBack n q v) (queue_deed_of g (LookingBack n q v)) told)
      by_told (Again f) = tt
      by_told (Told (Pointer ptr)) = by_test (names ptr.name n)
      by_told (Told _) = tt
      by_told NoSlot = tt

  advance : (g : ℕ) (n q : Name) (v : ℕ) (did : Touched) → Shows g (Advancing n q v) did
  advance g n q v did = by_told did.told
    where
      by_told : (told : Accessed)
          → Lone did.heap (after_touch (Advancing n q v) (queue_deed_of g (Advancing n q v)) told)
      by_told (Again f) = tt
      by_told (Told answer) = tt
      by_told NoSlot = λ out. out

-- each phase does its duty
pub lone_duties : (g : ℕ) (phase : QueuePhase)
    → LoneDuty queue structure QueueStarts queue_obeys knowledge queue_serves Lone IsQueueCallOut g phase
    (queue_deed_of g phase)
lone_duties g (MakingRoom work) = λ past h h' same lone.
    let kept = room_kept h h' work same lone in (kept, lone_start h' work kept, λ out. out)
lone_duties g Founding = (λ past h xs shape j found did e expected lone. absurd lone, λ h f r lone. absurd lone)
lone_duties g (Crowning n) = (λ past h xs shape j found did e expected lone. absurd lone, λ h f r. absurd r)
lone_duties g (Seating n) = (λ past h xs shape j found did e expected lone. absurd lone, λ h f r. absurd r)
lone_duties g (Placing v k) = (
  λ past h xs shape j found did e expected lone.
      place h xs shape.form g v k j found did (slice_get h.cells j) e lone,
  λ h f r lone. λ out. out,
)
lone_duties g (LoadingTail n k) = (
  λ past h xs shape j found did e expected lone.
      load_tail h xs shape.form g n k j found did (pointer_at h (Root 1)) refl e lone,
  λ h f r. absurd r,
)
lone_duties g (LoadingLast n t k) = (
  λ past h xs shape j found did e expected lone.
      load_last h xs shape.form g n t k j found did (pointer_at h (Field t 0)) refl e lone,
  λ h f r. absurd r,
)
lone_duties g (Appending n t k) = (
  λ past h xs shape j found did e expected lone.
      append h xs shape.form g n t k j found did (pointer_at h (Field t 0)) refl e lone,
  λ h f r. absurd r,
)
lone_duties g (Swinging t n) =
    (λ past h xs shape j found did e expected lone. swing h xs shape.form g t n did, λ h f r. absurd r)
lone_duties g (Helping n t q k) = (
  λ past h xs shape j found did e expected lone.
      help h xs shape.form g n t q k j found did (pointer_at h (Root 1)) refl e lone,
  λ h f r. absurd r,
)
lone_duties g (TakingBack n) = λ past h h' lone. absurd lone
lone_duties g (LoadingHead k) = (
  λ past h xs shape j found did e expected lone.
      load_head h xs shape.form g k j found did (pointer_at h (Root 0)) refl e lone,
  λ h f r. absurd r,
)
lone_duties g (LoadingNext n k) = (
  λ past h xs shape j found did e expected lone.
      load_next h xs shape.form g n k j found did (pointer_at h (Field n 0)) e expected lone,
  λ h f r. absurd r,
)
lone_duties g (Reading n q k) = (
  λ past h xs shape j found did e expected lone.
      read h xs shape.form g n q k did (cell_at h q) (readable (cell_at h q)) e expected lone,
  λ h f r. absurd r,
)
lone_duties g (Leaving n q v k) = (
  λ past h xs shape j found did e expected lone. leave h xs shape.form g n q v k did (cell_at h q) e lone,
  λ h f r. absurd r,
)
lone_duties g (Taking n q v k) = (
  λ past h xs shape j found did e expected lone.
      take h xs shape.form g n q v k j found did (pointer_at h (Root 0)) refl e lone,
  λ h f r. absurd r,
)
lone_duties g (LookingBack n q v) =
    (λ past h xs shape j found did e expected lone. look_back h xs shape.form g n q v did, λ h f r. absurd r)
lone_duties g (Advancing n q v) =
    (λ past h xs shape j found did e expected lone. advance h xs shape.form g n q v did, λ h f r. absurd r)
-- a lone call defers the removal of what it took off alone
lone_duties g (Removing n v) = λ past h h' lone. (tt, λ out. out, λ out. out)
lone_duties g (Answering a) = λ past h lone. lone
