-- What holds of a queue between any two steps, and that each step of its plans keeps it.
use Rattle.std.proofs.Common.{◌≡◌, ◌≢◌, ℕ, zero, suc, List, ◌∷◌, Option, Some, None, ◌⊎◌, inl, inr, refl, ap, sym}
use Rattle.std.proofs.Common.{subst, ◌∙◌, slice_get}
use Rattle.epoch_cells.specs.declared.cells.name.Name.{Name}
use Rattle.epoch_laws.specs.declared.heap.access.Ptr.{Ptr}
use Rattle.epoch_laws.specs.declared.heap.access.Spot.TheVariants.{Root, Field}
use Rattle.epoch_laws.specs.Heap.{Cell, Heap, pointer_at}
use Rattle.epoch_laws.specs.declared.step.Reply.{Reply}
use Rattle.epoch_laws.specs.declared.step.Reply.TheVariants.{Done, Refused}
use Rattle.epoch_cells.specs.declared.fault.Fault.{Fault}
use Rattle.epoch_laws.specs.Reach.{IsReachable, Past}
use Rattle.epoch_laws.proofs.TurnsGiven.{IsGiven}
use Rattle.epoch_laws.proofs.CellsStand.{stands_given}
use Rattle.epoch_structure_laws.specs.Plans.{Defers, IsOver, IsFlush, IsFit, after_by}
use Rattle.epoch_structure_laws.specs.declared.queue.plan.QueueWork.{QueueWork}
use Rattle.epoch_structure_laws.specs.declared.queue.plan.QueueWork.TheVariants.{Build, Push, Pop}
use Rattle.epoch_structure_laws.specs.declared.queue.plan.QueueAnswer.TheVariants.{TriesOut, Popped}
use Rattle.epoch_structure_laws.specs.declared.queue.plan.QueuePhase.{QueuePhase}
use Rattle.epoch_structure_laws.specs.declared.queue.plan.QueuePhase.TheVariants.{MakingRoom, Founding, Crowning}
use Rattle.epoch_structure_laws.specs.declared.queue.plan.QueuePhase.TheVariants.{Seating, Placing, LoadingTail}
use Rattle.epoch_structure_laws.specs.declared.queue.plan.QueuePhase.TheVariants.{LoadingLast, Appending, Swinging}
use Rattle.epoch_structure_laws.specs.declared.queue.plan.QueuePhase.TheVariants.{Helping, TakingBack, LoadingHead}
use Rattle.epoch_structure_laws.specs.declared.queue.plan.QueuePhase.TheVariants.{LoadingNext, Reading, Leaving, Taking}
use Rattle.epoch_structure_laws.specs.declared.queue.plan.QueuePhase.TheVariants.{LookingBack, Advancing, Removing}
use Rattle.epoch_structure_laws.specs.declared.queue.plan.QueuePhase.TheVariants.{Answering}
use Rattle.epoch_structure_laws.specs.QueueProgram.{retry_push, retry_pop, start_queue_work, queue_deed_of, queue}
use Rattle.epoch_structure_laws.specs.QueueProgram.{QueueStarts}
use Rattle.std.specs.Prelude.{is_some}
use Rattle.epoch_structure_laws.specs.QueueValues.{HoldsValue}
use Rattle.epoch_structure_laws.proofs.Custody.{Passed, Calm, Structure, Sane}
use Rattle.epoch_structure_laws.proofs.Obligations.{Weaker, Settled, HandsOver}
use Rattle.epoch_structure_laws.proofs.Steps.{fewer_reach}
use Rattle.epoch_structure_laws.proofs.Cells.{content_found}
use Rattle.epoch_structure_laws.proofs.Calls.{calm_pointer}
use Rattle.epoch_structure_laws.proofs.QueueForm.{In, at, at_same, Next, next_same, chain_kept, next_in, Form}
use Rattle.epoch_structure_laws.proofs.QueueForm.{tail_reached, in_reach, reached_in}

-- what holds of the queue between any two steps, with what has happened so far
pub record Shape (past : Past) (h : Heap) (xs : List Name) : Type 0 where
  pub form : Form h xs
  pub known : (n : Name) → In n xs → past.reached n × (¬ (past.left n))
  pub tail_known : (t : Name) → form.last ≡ Some t → past.reached t × (¬ (past.left t))
  -- what fell out of reach has a next
  pub shut : (n : Name) → past.reached n → ¬ (In n xs) → ¬ (Next h n None)
  pub plain : (n : Name) (ptr : Ptr) → past.reached n → pointer_at h (Field n 0) ≡ Some ptr → ptr.tag ≡ 0

-- an own node, that was never in reach
abbrev pub Mine : Past → Heap → Name → Type 0
Mine past h n = (¬ (past.reached n)) × (¬ (past.left n)) × Next h n None

-- this one's next is that one, as long as it has a cell
abbrev pub Linked : Past → Heap → Name → Name → Type 0
Linked past h t q = past.reached t × ((ptr : Ptr) → pointer_at h (Field t 0) ≡ Some ptr → ptr ≡ at (Some q))

-- as long as it has no next, it is the tail
abbrev pub AtTail : Past → Heap → Name → Type 0
AtTail past h t = past.reached t × (Next h t None → pointer_at h (Root 1) ≡ Some (at (Some t)))

-- taken off, its removal not yet deferred
abbrev pub Off : Past → Heap → List Name → Name → Type 0
Off past h xs n = past.reached n × (¬ (In n xs)) × (¬ (past.left n)) × IsGiven h n

-- as long as there is no tail, it is alone in the queue
abbrev pub AtHead : Past → Heap → List Name → Name → Type 0
AtHead past h xs n = past.reached n × (pointer_at h (Root 1) ≡ Some (at None) → In n xs)

-- it is the first one, as long as it is in the queue
abbrev pub First : List Name → Name → Type 0
First xs n = In n xs → (ys : List Name) × (xs ≡ n ∷ ys)

-- its value is this one, until its removal is deferred
abbrev pub Worth : Past → Heap → Name → ℕ → Type 0
Worth past h n v = ¬ (past.left n) → HoldsValue h n v

-- what is known in each phase
abbrev pub Stands : Past → Heap → List Name → QueuePhase → Type 0
Stands past h xs (Crowning n) = Mine past h n
Stands past h xs (Seating n) = AtHead past h xs n
Stands past h xs (LoadingTail n k) = Mine past h n
Stands past h xs (LoadingLast n t k) = Mine past h n × AtTail past h t
Stands past h xs (Appending n t k) = Mine past h n × AtTail past h t
Stands past h xs (Swinging t n) = Linked past h t n
Stands past h xs (Helping n t q k) = Mine past h n × Linked past h t q
Stands past h xs (TakingBack n) = Mine past h n
Stands past h xs (LoadingNext n k) = past.reached n × First xs n
Stands past h xs (Reading n q k) = Linked past h n q
Stands past h xs (Leaving n q v k) = Linked past h n q × Worth past h q v
Stands past h xs (Taking n q v k) = Linked past h n q × Worth past h q v
Stands past h xs (LookingBack n q v) = Off past h xs n × Linked past h n q
Stands past h xs (Advancing n q v) = Off past h xs n × Linked past h n q
Stands past h xs (Removing n v) = Off past h xs n × (pointer_at h (Root 1) ≢ Some (at (Some n)))
Stands past h xs _ = Unit {0}

-- each phase owns its own node, or the one that it took off
abbrev pub Owns : QueuePhase → Name → Type 0
Owns (Crowning n) x = x ≡ n
Owns (LoadingTail n k) x = x ≡ n
Owns (LoadingLast n t k) x = x ≡ n
Owns (Appending n t k) x = x ≡ n
Owns (Helping n t q k) x = x ≡ n
Owns (TakingBack n) x = x ≡ n
Owns (LookingBack n q v) x = x ≡ n
Owns (Advancing n q v) x = x ≡ n
Owns (Removing n v) x = x ≡ n
Owns _ x = ⊥

abbrev pub structure : Structure queue
structure = record {
  Ghost = List Name;
  Shape = Shape;
  Owns = Owns;
  Stands = Stands;
  Common = λ past h xs n. In n xs;
}

-- SANITY

mine_given : (past : Past) (h : Heap) (n x : Name) → x ≡ n → Mine past h n → (¬ (past.left x)) × IsGiven h x
mine_given past h n x e mine =
    let there = content_found h n 0 (at None) mine.2 in
    subst (λ k. (¬ (past.left k)) × IsGiven h k) (sym e)
    (mine.1, stands_given h n (ap (λ (o : Option Cell). is_some o) there.2))

off_given : (past : Past) (h : Heap) (xs : List Name) (n x : Name) → x ≡ n → Off past h xs n
    → (¬ (past.left x)) × IsGiven h x
off_given past h xs n x e off = subst (λ k. (¬ (past.left k)) × IsGiven h k) (sym e) (off.2, off.3)

-- what a phase owns was given and has not left
owned : (past : Past) (h : Heap) (xs : List Name) (phase : QueuePhase) (x : Name)
    → Stands past h xs phase → Owns phase x → (¬ (past.left x)) × IsGiven h x
owned past h xs (Crowning n) x s e = mine_given past h n x e s
owned past h xs (LoadingTail n k) x s e = mine_given past h n x e s
owned past h xs (LoadingLast n t k) x s e = mine_given past h n x e s.0
owned past h xs (Appending n t k) x s e = mine_given past h n x e s.0
owned past h xs (Helping n t q k) x s e = mine_given past h n x e s.0
owned past h xs (TakingBack n) x s e = mine_given past h n x e s
owned past h xs (LookingBack n q v) x s e = off_given past h xs n x e s.0
owned past h xs (Advancing n q v) x s e = off_given past h xs n x e s.0
owned past h xs (Removing n v) x s e = off_given past h xs n x e s.0
owned past h xs _ x s e = absurd e

-- no phase owns a node that is in the queue
unshared : (past : Past) (h : Heap) (xs : List Name) (x : Name) → Shape past h xs → In x xs → (phase : QueuePhase)
    → Stands past h xs phase → ¬ (Owns phase x)
unshared past h xs x shape there (Crowning n) s e = s.0 (subst (λ k. past.reached k) e (shape.known x there).0)
unshared past h xs x shape there (LoadingTail n k) s e = s.0 (subst (λ k. past.reached k) e (shape.known x there).0)
unshared past h xs x shape there (LoadingLast n t k) s e = s.0.0 (subst (λ k. past.reached k) e (shape.known x there).0)
unshared past h xs x shape there (Appending n t k) s e = s.0.0 (subst (λ k. past.reached k) e (shape.known x there).0)
unshared past h xs x shape there (Helping n t q k) s e = s.0.0 (subst (λ k. past.reached k) e (shape.known x there).0)
unshared past h xs x shape there (TakingBack n) s e = s.0 (subst (λ k. past.reached k) e (shape.known x there).0)
unshared past h xs x shape there (LookingBack n q v) s e = s.0.1 (subst (λ k. In k xs) e there)
unshared past h xs x shape there (Advancing n q v) s e = s.0.1 (subst (λ k. In k xs) e there)
unshared past h xs x shape there (Removing n v) s e = s.0.1 (subst (λ k. In k xs) e there)
unshared past h xs x shape there _ s e = e

-- a node that a phase owns has not left, and neither has a node of the list, which no phase owns
pub sane : Sane queue structure
sane = record {
  owned = owned;
  common = λ past h xs n shape there. ((shape.known n there).1, unshared past h xs n shape there);
}

-- WHAT THE STEPS OF OTHERS LEAVE

-- A step: hit is the one node that it brings into the queue.
pub record Turn (past : Past) (h h' : Heap) (xs xs' : List Name) (hit : Option Name) : Type 0 where
  pub own : (n : Name) → ¬ (past.reached n) → ¬ (past.left n) → hit ≢ Some n → Next h n None → Next h' n None
  pub back : (n : Name) → past.reached n → (ptr : Ptr) → pointer_at h' (Field n 0) ≡ Some ptr
      → (pointer_at h (Field n 0) ≡ Some ptr) ⊎ (Next h n None × In n xs')
  pub inside : (n : Name) → In n xs' → past.reached n → In n xs
  pub at_tail : (t : Name) → past.reached t → Next h' t None → pointer_at h (Root 1) ≡ Some (at (Some t))
      → pointer_at h' (Root 1) ≡ Some (at (Some t))
  pub tails : (n : Name) → pointer_at h' (Root 1) ≡ Some (at (Some n))
      → (pointer_at h (Root 1) ≡ Some (at (Some n))) ⊎ In n xs
  pub untailed : (n : Name) → pointer_at h' (Root 1) ≡ Some (at None)
      → (pointer_at h (Root 1) ≡ Some (at None)) × (In n xs → In n xs')
  pub reach : (n : Name) → IsReachable h' n → IsReachable h n ⊎ (hit ≡ Some n)
  pub given : (n : Name) → IsGiven h n → IsGiven h' n
  pub first : (n : Name) → past.reached n → First xs n → First xs' n
  pub worth : (n : Name) (v : ℕ) → ¬ (past.left n) → HoldsValue h n v → HoldsValue h' n v

-- a null pointer leads to no node
pub none_not : (q : Name) → at None ≢ at (Some q)
none_not q e = let name : None ≡ Some q = ap (λ (p : Ptr). p.name) e in cc (name)

module _ (past past' : Past) (h h' : Heap) (xs xs' : List Name) (hit gone : Option Name) (settled : Settled past h)
    (turn : Turn past h h' xs xs' hit) (passed : Passed past past' h' gone) where
  tag_of : (ptr : Ptr) (n : Name) (o : Option Name) → pointer_at h' (Field n 0) ≡ Some ptr → Next h' n o → ptr.tag ≡ 0
  tag_of ptr n o e to = let same : ptr ≡ at o = cc (e, to) in ap (λ (q : Ptr). q.tag) same

  -- an own node stays the caller's, unless this step puts it into the queue or defers its removal
  mine_kept : (n : Name) → hit ≢ Some n → gone ≢ Some n → Mine past h n → Mine past' h' n
  mine_kept n off stays m = (
    λ r. elim (passed.reached n r) [
      | inl was ↦ m.0 was
      | inr there ↦ elim (turn.reach n there) [ inl was ↦ m.0 (settled.seen n was) | inr e ↦ off e ]
    ],
    λ l. elim (passed.left n l) [ inl was ↦ m.1 was | inr e ↦ stays e ],
    turn.own n m.0 m.1 off m.2,
  )

  -- a node that has a next keeps it
  linked_kept : (t q : Name) → Linked past h t q → Linked past' h' t q
  linked_kept t q l = (
    passed.more t l.0,
    λ ptr e. elim (turn.back t l.0 ptr e) [
      | inl was ↦ l.1 ptr was
      | inr none ↦ absurd (none_not q (l.1 (at None) none.0))
    ],
  )

  -- a node without a next stays the tail
  tail_kept : (t : Name) → AtTail past h t → AtTail past' h' t
  tail_kept t a = (
    passed.more t a.0,
    λ none. turn.at_tail t a.0 none (a.1 (elim (turn.back t a.0 (at None) none) [ inl was ↦ was | inr was ↦ was.0 ])),
  )

  -- what was taken off stays off
  off_kept : (n : Name) → gone ≢ Some n → Off past h xs n → Off past' h' xs' n
  off_kept n stays o = (
    passed.more n o.0,
    λ is. o.1 (turn.inside n is o.0),
    λ l. elim (passed.left n l) [ inl was ↦ o.2 was | inr e ↦ stays e ],
    turn.given n o.3,
  )

  -- a node's value stays
  worth_kept : (n : Name) (v : ℕ) → Worth past h n v → Worth past' h' n v
  worth_kept n v w off =
      let before : ¬ (past.left n) = λ l. off (passed.left_more n l) in turn.worth n v before (w before)

  -- whatever is known in a phase stays known
  pub stands_kept : (phase : QueuePhase) → ((n : Name) → Owns phase n → (hit ≢ Some n) × (gone ≢ Some n))
      → Stands past h xs phase → Stands past' h' xs' phase
  stands_kept (LoadingTail n k) off s = mine_kept n (off n refl).0 (off n refl).1 s
  stands_kept (LoadingLast n t k) off s = (mine_kept n (off n refl).0 (off n refl).1 s.0, tail_kept t s.1)
  stands_kept (Appending n t k) off s = (mine_kept n (off n refl).0 (off n refl).1 s.0, tail_kept t s.1)
  stands_kept (Swinging t n) off s = linked_kept t n s
  stands_kept (Helping n t q k) off s = (mine_kept n (off n refl).0 (off n refl).1 s.0, linked_kept t q s.1)
  stands_kept (TakingBack n) off s = mine_kept n (off n refl).0 (off n refl).1 s
  stands_kept (LoadingNext n k) off s = (passed.more n s.0, turn.first n s.0 s.1)
  stands_kept (Reading n q k) off s = linked_kept n q s
  stands_kept (Leaving n q v k) off s = (linked_kept n q s.0, worth_kept q v s.1)
  stands_kept (Taking n q v k) off s = (linked_kept n q s.0, worth_kept q v s.1)
  stands_kept (LookingBack n q v) off s = (off_kept n (off n refl).1 s.0, linked_kept n q s.1)
  stands_kept (Advancing n q v) off s = (off_kept n (off n refl).1 s.0, linked_kept n q s.1)
  stands_kept (Removing n v) off s = (
    off_kept n (off n refl).1 s.0,
    λ e. elim (turn.tails n e) [ inl was ↦ s.1 was | inr there ↦ s.0.1 there ],
  )
  stands_kept (Crowning n) off s = mine_kept n (off n refl).0 (off n refl).1 s
  stands_kept (Seating n) off s =
      (passed.more n s.0, λ none. let was = turn.untailed n none in was.1 (s.1 was.0))
  stands_kept Founding off s = tt
  stands_kept (MakingRoom work) off s = tt
  stands_kept (Placing v k) off s = tt
  stands_kept (LoadingHead k) off s = tt
  stands_kept (Answering a) off s = tt

  -- the queue then, by how it stands in the cells
  pub shape_after : Shape past h xs → Form h' xs' → ((n : Name) → past'.left n → ¬ (IsReachable h' n))
      → ((n : Name) → past.reached n → ¬ (In n xs') → ¬ (Next h' n None)) → Shape past' h' xs'
  shape_after before form out shut = record {
    form = form;
    known = λ n there. let r = in_reach h' xs' form n there in (passed.come n r, λ l. out n l r);
    tail_known = λ t e. let r = tail_reached h' xs' form t e in (passed.come t r, λ l. out t l r);
    shut = λ n r apart none. elim (passed.reached n r) [
      | inl was ↦ shut n was apart none
      | inr reach ↦ elim (reached_in h' xs' form n reach) [
        | inl there ↦ apart there
        | inr tail ↦ elim (form.near n tail) [
          | inl there ↦ apart there.0
          | inr lags ↦ let both : None ≡ Some lags.0 = next_same h' n None (Some lags.0) none lags.1 in cc (both)
        ]
      ]
    ];
    plain = λ n ptr r e. elim (passed.reached n r) [
      | inl was ↦ elim (turn.back n was ptr e) [
        | inl same ↦ before.plain n ptr was same
        | inr there ↦ let next = next_in h' form.head xs' n form.chain there.1 in tag_of ptr n next.0 e next.1
      ]
      | inr reach ↦ elim (reached_in h' xs' form n reach) [
        | inl there ↦ let next = next_in h' form.head xs' n form.chain there in tag_of ptr n next.0 e next.1
        | inr tail ↦ elim (form.near n tail) [
          | inl there ↦ tag_of ptr n None e there.1
          | inr lags ↦ tag_of ptr n (Some lags.0) e lags.1
        ]
      ]
    ];
  }

-- A CALM STEP

module _ (past : Past) (h h' : Heap) (xs : List Name) (settled : Settled past h) (calm : Calm past.left h h')
    (shape : Shape past h xs) where
  stays : (n : Name) (o : Option Name) → ¬ (past.left n) → Next h n o → Next h' n o
  stays n o l e = calm_pointer past.left h h' calm n 0 (at o) l e

  -- a step that changes nothing that stands leaves the queue as it is
  pub calm_form : Form h' xs
  calm_form = record {
    head = shape.form.head;
    rooted = ap (λ (rs : List Ptr). slice_get rs 0) calm.roots ∙ shape.form.rooted;
    last = shape.form.last;
    tailed = ap (λ (rs : List Ptr). slice_get rs 1) calm.roots ∙ shape.form.tailed;
    two = λ i x leads. shape.form.two i x (calm.fewer (Root (suc (suc i))) x leads);
    single = λ y f x leads. shape.form.single y f x (calm.fewer (Field y (suc f)) x leads);
    chain = chain_kept h h' shape.form.head xs (λ n o there e. stays n o (shape.known n there).1 e) shape.form.chain;
    near = λ t e. elim (shape.form.near t e) [
      | inl there ↦ inl (there.0, stays t None (shape.tail_known t e).1 there.1)
      | inr lags ↦ inr (
        lags.0,
        stays t (Some lags.0) (shape.tail_known t e).1 lags.1,
        stays lags.0 None (shape.known lags.0 lags.3).1 lags.2,
        lags.3,
      )
    ];
    bare = λ e n there. stays n None (shape.known n there).1 (shape.form.bare e n there);
  }

  -- a pointer found in a cell once in reach stood there before
  was : (n : Name) (ptr : Ptr) → past.reached n → pointer_at h' (Field n 0) ≡ Some ptr
      → pointer_at h (Field n 0) ≡ Some ptr
  was n ptr r e = calm.back n 0 ptr (settled.reached_given n r) e

  -- a calm step leaves the list as it was
  pub calm_turn : Turn past h h' xs xs None
  calm_turn = record {
    own = λ n r l off e. stays n None l e;
    back = λ n r ptr e. inl (was n ptr r e);
    inside = λ n there r. there;
    at_tail = λ t r none e. ap (λ (rs : List Ptr). slice_get rs 1) calm.roots ∙ e;
    tails = λ n e. inl (ap (λ (rs : List Ptr). slice_get rs 1) (sym calm.roots) ∙ e);
    untailed = λ n e. (ap (λ (rs : List Ptr). slice_get rs 1) (sym calm.roots) ∙ e, λ there. there);
    reach = λ n r. inl (fewer_reach h h' calm.fewer n r);
    given = calm.given;
    first = λ n r f. f;
    worth = λ n v l w. let kept = calm.kept n w.0 w.1 l w.2 w.3 in (kept.0, w.1, kept.1, kept.2, w.4);
  }

  -- and each node in reach that is off the list still leads somewhere
  pub calm_shut : (n : Name) → past.reached n → ¬ (In n xs) → ¬ (Next h' n None)
  calm_shut n r apart none = shape.shut n r apart (was n (at None) r none)

-- so does it leave what each phase knows
pub calm_kept : (past past' : Past) (h h' : Heap) (xs : List Name) (gone : Option Name) → Settled past h
    → Calm past.left h h' → Passed past past' h' gone → ((n : Name) → past'.left n → ¬ (IsReachable h' n))
    → Shape past h xs
    → Shape past' h' xs × ((phase : QueuePhase) → ((n : Name) → Owns phase n → gone ≢ Some n)
    → Stands past h xs phase → Stands past' h' xs phase)
calm_kept past past' h h' xs gone settled calm passed out shape = (
  shape_after past past' h h' xs xs None gone settled (calm_turn past h h' xs settled calm shape) passed shape
      (calm_form past h h' xs settled calm shape) out (calm_shut past h h' xs settled calm shape),
  λ phase off s. stands_kept past past' h h' xs xs None gone settled (calm_turn past h h' xs settled calm shape) passed
      phase (λ n o. (λ e. cc (e), off n o)) s,
)

-- WHAT IS REFUSED, A CALL'S BEGIN AND END

-- a phase that knows and owns nothing says no more than any other
weaker_none : (a b : QueuePhase) → ((past : Past) (h : Heap) (xs : List Name) → Stands past h xs b)
    → ((n : Name) → ¬ (Owns b n)) → Weaker queue structure a b
weaker_none a b stands owns = record { stands = λ past h xs shape s. stands past h xs; owns = λ n o. absurd (owns n o) }

-- one more try to push knows and owns what the last one did
mine_again : (a : QueuePhase) (n : Name) (k : ℕ) → ((past : Past) (h : Heap) (xs : List Name) → Stands past h xs a
    → Mine past h n) → Owns a n → Weaker queue structure a (retry_push n k)
mine_again a n zero mine own =
    record { stands = λ past h xs shape s. mine past h xs s; owns = λ x e. subst (Owns a) (sym e) own }
mine_again a n (suc k) mine own =
    record { stands = λ past h xs shape s. mine past h xs s; owns = λ x e. subst (Owns a) (sym e) own }

-- one more try to pop knows and owns nothing
pub again : (a : QueuePhase) (k : ℕ) → Weaker queue structure a (retry_pop k)
again a zero = weaker_none a (retry_pop zero) (λ past h xs. tt) (λ n o. o)
again a (suc k) = weaker_none a (retry_pop (suc k)) (λ past h xs. tt) (λ n o. o)

same : (a b : QueuePhase) → ((past : Past) (h : Heap) (xs : List Name) → Stands past h xs a → Stands past h xs b)
    → ((n : Name) → Owns b n → Owns a n) → Weaker queue structure a b
same a b stands owns = record { stands = λ past h xs shape s. stands past h xs s; owns = owns }

-- a call that begins knows nothing yet
pub begins : (a : QueuePhase) (work : QueueWork) → Weaker queue structure a (start_queue_work work)
begins a Build = weaker_none a Founding (λ past h xs. tt) (λ n o. o)
begins a (Push v k) = weaker_none a (Placing v k) (λ past h xs. tt) (λ n o. o)
begins a (Pop k) = again a k

-- what a phase knows when its call is refused is no more than before
pub refused : (g : ℕ) (phase : QueuePhase) (f : Fault)
    → Weaker queue structure phase (after_by phase (queue_deed_of g phase) (Refused f))
refused g (MakingRoom work) f = weaker_none _ _ (λ past h xs. tt) (λ n o. o)
refused g Founding f = weaker_none _ _ (λ past h xs. tt) (λ n o. o)
refused g (Crowning n) f = same (Crowning n) (TakingBack n) (λ past h xs s. s) (λ n o. o)
refused g (Seating n) f = weaker_none _ _ (λ past h xs. tt) (λ n o. o)
refused g (Placing v k) f = weaker_none _ _ (λ past h xs. tt) (λ n o. o)
refused g (LoadingTail n k) f = mine_again (LoadingTail n k) n k (λ past h xs s. s) refl
refused g (LoadingLast n t k) f = mine_again (LoadingLast n t k) n k (λ past h xs s. s.0) refl
refused g (Appending n t k) f = mine_again (Appending n t k) n k (λ past h xs s. s.0) refl
refused g (Swinging t n) f = weaker_none _ _ (λ past h xs. tt) (λ n o. o)
refused g (Helping n t q k) f = mine_again (Helping n t q k) n k (λ past h xs s. s.0) refl
refused g (TakingBack n) f = weaker_none _ _ (λ past h xs. tt) (λ n o. o)
refused g (LoadingHead k) f = again _ k
refused g (LoadingNext n k) f = again _ k
refused g (Reading n q k) f = again _ k
refused g (Leaving n q v k) f = same (Leaving n q v k) (Taking n q v k) (λ past h xs s. s) (λ n o. o)
refused g (Taking n q v k) f = again _ k
refused g (LookingBack n q v) f = same (LookingBack n q v) (Advancing n q v) (λ past h xs s. s) (λ n o. o)
refused g (Advancing n q v) f = weaker_none _ _ (λ past h xs. tt) (λ n o. o)
refused g (Removing n v) f = weaker_none _ _ (λ past h xs. tt) (λ n o. o)
refused g (Answering a) f = same (Answering a) (Answering a) (λ past h xs s. s) (λ n o. o)

-- and so it is behind a flush
pub flushed : (g : ℕ) (phase : QueuePhase) (r : Reply) → IsFlush (queue_deed_of g phase)
    → Weaker queue structure phase (after_by phase (queue_deed_of g phase) r)
flushed g (MakingRoom work) (Done a) is = begins _ work
flushed g (MakingRoom work) _ is = weaker_none _ _ (λ past h xs. tt) (λ n o. o)
flushed g _ r is = absurd is

-- a first phase owns no node, and stands whatever the queue is
pub starts : (phase : QueuePhase) → QueueStarts phase → ((n : Name) → ¬ (Owns phase n))
    × ((past : Past) (h : Heap) (xs : List Name) → Shape past h xs → Stands past h xs phase)
starts (MakingRoom work) is = (λ n o. o, λ past h xs shape. tt)
starts Founding is = (λ n o. o, λ past h xs shape. tt)
starts (Placing v k) is = (λ n o. o, λ past h xs shape. tt)
starts (LoadingHead k) is = (λ n o. o, λ past h xs shape. tt)
starts (Answering a) is = (λ n o. o, λ past h xs shape. tt)
starts _ is = absurd is

-- a phase that answers owns no node
pub answers : (g : ℕ) (phase : QueuePhase) → IsOver (queue_deed_of g phase) → (n : Name) → ¬ (Owns phase n)
answers g (Answering a) is n o = o
answers g _ is n o = absurd is

-- each call of a phase is one that programs of phases may make
pub fits : (g : ℕ) (phase : QueuePhase) → IsFit (queue_deed_of g phase)
fits g (MakingRoom work) = tt
fits g (TakingBack n) = tt
fits g (Removing n v) = tt
fits g (Answering a) = tt
fits g _ = (tt, refl)

-- A REMOVAL

-- what is not in the queue, and is not the tail, is out of reach
out_of_reach : (past : Past) (h : Heap) (xs : List Name) → Shape past h xs → (n : Name) → ¬ (In n xs)
    → pointer_at h (Root 1) ≢ Some (at (Some n)) → ¬ (IsReachable h n)
out_of_reach past h xs shape n out off r = elim (reached_in h xs shape.form n r) [
  | inl there ↦ out there
  | inr e ↦ off (shape.form.tailed ∙ ap (λ (o : Option Name). Some (at o)) e)
]

-- and so is an own node
mine_out : (past : Past) (h : Heap) (xs : List Name) → Shape past h xs → (n : Name) → Mine past h n
    → ¬ (IsReachable h n)
mine_out past h xs shape n mine =
    out_of_reach past h xs shape n (λ there. mine.0 (shape.known n there).0)
    (λ e. mine.0 (shape.tail_known n (at_same shape.form.last (Some n) (sym shape.form.tailed ∙ e))).0)

-- a removal is deferred of a name that is out of reach, and the call then answers
hands_over : (phase : QueuePhase) (n : Name) (next : QueuePhase) → Owns phase n
    → ((past : Past) (h : Heap) (xs : List Name) → Shape past h xs → Stands past h xs phase → ¬ (IsReachable h n))
    → ((past : Past) (h : Heap) (xs : List Name) → Stands past h xs next) → ((x : Name) → ¬ (Owns next x))
    → HandsOver queue structure phase next n
hands_over phase n next own out stands none = record {
  own = own;
  fewer = λ x o. absurd (none x o);
  known = λ past h xs shape s. (out past h xs shape s, stands past h xs, λ x o. absurd (none x o));
}

-- a phase that defers a removal owns the node, and hands it over
pub defers : (g : ℕ) (phase next failed : QueuePhase) (n : Name) → queue_deed_of g phase ≡ Defers n next failed
    → HandsOver queue structure phase next n
defers g (TakingBack m) next failed n is =
    let name : m ≡ n = cc (is) in
    let ends : Answering TriesOut ≡ next = cc (is) in
    subst (λ (f : QueuePhase). HandsOver queue structure (TakingBack m) f n) ends
    (subst (λ (x : Name). HandsOver queue structure (TakingBack m) (Answering TriesOut) x) name
    (hands_over (TakingBack m) m (Answering TriesOut) refl (λ past h xs shape s. mine_out past h xs shape m s)
    (λ past h xs. tt) (λ x o. o)))
defers g (Removing m v) next failed n is =
    let name : m ≡ n = cc (is) in
    let ends : Answering (Popped v) ≡ next = cc (is) in
    subst (λ (f : QueuePhase). HandsOver queue structure (Removing m v) f n) ends
    (subst (λ (x : Name). HandsOver queue structure (Removing m v) (Answering (Popped v)) x) name
    (hands_over (Removing m v) m (Answering (Popped v)) refl
    (λ past h xs shape s. out_of_reach past h xs shape m s.0.1 s.1) (λ past h xs. tt) (λ x o. o)))
defers g _ next failed n is = absurd (cc (is))
