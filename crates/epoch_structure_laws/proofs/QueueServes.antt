-- A queue's phases know what their calls are made on, so that each is replied to as expected.
use Rattle.std.proofs.Common.{◌≡◌, ℕ, zero, suc, ◌<◌, ◌&&◌, ◌||◌, nat_lt, Bool, true, false, List, [], ◌∷◌, length}
use Rattle.std.proofs.Common.{Option, Some, None, ◌⊎◌, inl, inr, refl, ap, sym, subst, ◌∙◌, arith, if◌then◌else◌}
use Rattle.std.proofs.lemmas.Bool.Decides.{nat_tests}
use Rattle.std.proofs.lemmas.Option.{slice_get_within}
use Rattle.epoch_cells.specs.declared.cells.name.Name.{Name}
use Rattle.epoch_cells.specs.declared.fault.Fault.TheVariants.{CellsFull as CellsFullFault, StrangerPointer}
use Rattle.epoch_laws.specs.declared.heap.access.Access.{Access}
use Rattle.epoch_laws.specs.declared.heap.access.Access.TheVariants.{Place, Read, Leave, Point}
use Rattle.epoch_laws.specs.declared.heap.access.Accessed.TheVariants.{Answers as Told}
use Rattle.epoch_laws.specs.declared.heap.access.AccessAnswer.{AccessAnswer}
use Rattle.epoch_laws.specs.declared.heap.access.AccessAnswer.TheVariants.{Name as NameAnswer, Value, Pointer}
use Rattle.epoch_laws.specs.declared.heap.access.AccessAnswer.TheVariants.{Exchanged, Unchanged}
use Rattle.epoch_laws.specs.declared.heap.access.Change.{Change}
use Rattle.epoch_laws.specs.declared.heap.access.Ptr.{Ptr}
use Rattle.epoch_laws.specs.declared.heap.access.Spot.TheVariants.{Root, Field}
use Rattle.epoch_laws.specs.Heap.{Heap, null, has_spot, knows_names, pointer_at, was_given}
use Rattle.epoch_laws.specs.Run.{State, readings_after}
use Rattle.epoch_structure_laws.specs.Plans.{AllPlans, ptr_to}
use Rattle.epoch_structure_laws.proofs.Begun.{given_known}
use Rattle.epoch_structure_laws.proofs.Duties.{Knowledge, Fewer, Allows, Learns, DeferDuty, TouchDuty, DutyOf, Serves}
use Rattle.epoch_structure_laws.proofs.Duties.{NamedBy}
use Rattle.epoch_structure_laws.proofs.Ready.{Steady}
use Rattle.epoch_structure_laws.proofs.RunsServed.{Keeps, runs_served}
use Rattle.epoch_structure_laws.specs.Served.{AnswersAccess, RefusesAccess}
use Rattle.epoch_structure_laws.specs.declared.plan.Plan.{Plan}
use Rattle.epoch_structure_laws.specs.declared.queue.plan.QueueAnswer.TheVariants.{Built, Pushed, Popped, PoppedLeaking}
use Rattle.epoch_structure_laws.specs.declared.queue.plan.QueueAnswer.TheVariants.{Empty}
use Rattle.epoch_structure_laws.specs.declared.queue.plan.QueueAnswer.TheVariants.{TriesOut, TriesOutLeaking, CellsFull}
use Rattle.epoch_structure_laws.specs.declared.queue.plan.QueueWork.{QueueWork}
use Rattle.epoch_structure_laws.specs.declared.queue.plan.QueueWork.TheVariants.{Build, Push, Pop}
use Rattle.epoch_structure_laws.specs.declared.queue.plan.QueuePhase.{QueuePhase}
use Rattle.epoch_structure_laws.specs.declared.queue.plan.QueuePhase.TheVariants.{MakingRoom, Founding, Crowning}
use Rattle.epoch_structure_laws.specs.declared.queue.plan.QueuePhase.TheVariants.{Seating, Placing, LoadingTail}
use Rattle.epoch_structure_laws.specs.declared.queue.plan.QueuePhase.TheVariants.{LoadingLast, Appending, Swinging}
use Rattle.epoch_structure_laws.specs.declared.queue.plan.QueuePhase.TheVariants.{Helping, TakingBack, LoadingHead}
use Rattle.epoch_structure_laws.specs.declared.queue.plan.QueuePhase.TheVariants.{LoadingNext, Reading, Leaving, Taking}
use Rattle.epoch_structure_laws.specs.declared.queue.plan.QueuePhase.TheVariants.{LookingBack, Advancing, Removing}
use Rattle.epoch_structure_laws.specs.declared.queue.plan.QueuePhase.TheVariants.{Answering}
use Rattle.epoch_structure_laws.specs.QueueProgram.{queue_deed_of, queue_exchange, queue_load, names, queue, retry_push}
use Rattle.epoch_structure_laws.specs.QueueProgram.{retry_pop, start_queue_work, QueueStarts, founded, crowned}
use Rattle.epoch_structure_laws.specs.QueueProgram.{queue_placed, tail_loaded, last_loaded, appended, queue_head_loaded}
use Rattle.epoch_structure_laws.specs.QueueProgram.{queue_next_loaded, queue_read, taken, looked_back, to_append}
use Rattle.epoch_structure_laws.specs.QueueProgram.{to_last, to_next, to_read, QueueLog, QueueRuns}
use Rattle.epoch_structure_laws.proofs.QueueKept.{Shape, structure}
use Rattle.epoch_structure_laws.proofs.QueueRuns.{new_sound}
use Rattle.epoch_structure_laws.proofs.QueueTouches.{queue_obeys}
use Rattle.epoch_structure_laws.specs.QueueReplies.{IsUsualQueue, AllQueueAsksReady, AllQueueCallsServed}
use Rattle.epoch_laws.specs.Reach.{no_past, Past}
use Rattle.epoch_laws.proofs.PointersGiven.{WasGiven}
use Rattle.epoch_laws.proofs.Readable.{field_is}
use Rattle.epoch_laws.proofs.ReadersCounted.{name_self}
use Rattle.epoch_laws.proofs.WorldAlong.{fresh_along}
use Rattle.epoch_laws.specs.Run.{WorldSeat, seat_of}

-- WHAT A PHASE KNOWS

-- the names that its call, or a later one, is given
abbrev pub Names : QueuePhase → Name → Type 0
Names (Crowning n) x = x ≡ n
Names (Seating n) x = x ≡ n
Names (LoadingTail n k) x = x ≡ n
Names (LoadingLast n t k) x = (x ≡ n) ⊎ (x ≡ t)
Names (Appending n t k) x = (x ≡ n) ⊎ (x ≡ t)
Names (Swinging t n) x = (x ≡ t) ⊎ (x ≡ n)
Names (Helping n t q k) x = (x ≡ n) ⊎ (x ≡ t) ⊎ (x ≡ q)
Names (TakingBack n) x = x ≡ n
Names (LoadingNext h k) x = x ≡ h
Names (Reading h q k) x = (x ≡ h) ⊎ (x ≡ q)
Names (Leaving h q v k) x = (x ≡ h) ⊎ (x ≡ q)
Names (Taking h q v k) x = (x ≡ h) ⊎ (x ≡ q)
Names (LookingBack h q v) x = (x ≡ h) ⊎ (x ≡ q)
Names (Advancing h q v) x = (x ≡ h) ⊎ (x ≡ q)
Names (Removing h v) x = x ≡ h
Names _ x = ⊥

-- those whose cells its call is made on
abbrev pub Loads : QueuePhase → Name → Type 0
Loads (LoadingLast n t k) x = x ≡ t
Loads (Appending n t k) x = x ≡ t
Loads (LoadingNext h k) x = x ≡ h
Loads (Reading h q k) x = x ≡ q
Loads _ x = ⊥

-- the held bag has room but before the flush, and after the call
abbrev pub Roomy : QueuePhase → Type 0
Roomy (MakingRoom work) = ⊥
Roomy (Answering a) = ⊥
Roomy _ = Unit {0}

-- the value is being read
abbrev pub reads_at : QueuePhase → List Name
reads_at (Leaving h q v k) = q ∷ []
reads_at _ = []

abbrev pub knowledge : Knowledge queue
knowledge = record { Names = Names; Loads = Loads; Roomy = Roomy; reads = reads_at }

-- WHAT A CALL IS MADE ON

both_true : (a b : Bool) → a ≡ true → b ≡ true → (a && b) ≡ true
both_true true b one other = other
both_true false b one other = absurd (cc (one))

less_is : (a b : ℕ) → a < b → nat_lt a b ≡ true
less_is a b lt = grind (arith, nat_tests)

-- the head and the tail are there
root_there : (past : Past) (h : Heap) (xs : List Name) → Shape past h xs → (i : ℕ) (ptr : Ptr)
    → pointer_at h (Root i) ≡ Some ptr → has_spot h (Root i) ≡ true
root_there past h xs shape i ptr e = less_is i (length h.roots) (slice_get_within h.roots i ptr e)

field_there : (h : Heap) (n : Name) → h.fields ≡ 1 → has_spot h (Field n 0) ≡ true
field_there h n one = ap (λ (k : ℕ). nat_lt 0 k) one

module _ (g : ℕ) (phase : QueuePhase) (unread : reads_at phase ≡ []) where
  -- a call on the head or the tail
  on_head : (change : Change) → ((h : Heap) → ((n : Name) → Names phase n → WasGiven h n)
      → knows_names h (Point (Some g) (Root 0) change) ≡ true)
      → Allows queue structure knowledge g phase (Point (Some g) (Root 0) change)
  on_head change known = record {
    guard = λ k e. cc (e);
    names = known;
    place = λ past h xs one shape. root_there past h xs shape 0 _ shape.form.rooted;
    reading = refl;
    finds = λ past h xs shape stands readable. (_, shape.form.rooted);
  }

  on_tail : (change : Change) → ((h : Heap) → ((n : Name) → Names phase n → WasGiven h n)
      → knows_names h (Point (Some g) (Root 1) change) ≡ true)
      → Allows queue structure knowledge g phase (Point (Some g) (Root 1) change)
  on_tail change known = record {
    guard = λ k e. cc (e);
    names = known;
    place = λ past h xs one shape. root_there past h xs shape 1 _ shape.form.tailed;
    reading = refl;
    finds = λ past h xs shape stands readable. (_, shape.form.tailed);
  }

  -- a call on the field of a node that was loaded
  on_node : (n : Name) (change : Change) → Loads phase n → ((h : Heap) → ((x : Name) → Names phase x → WasGiven h x)
      → knows_names h (Point (Some g) (Field n 0) change) ≡ true)
      → Allows queue structure knowledge g phase (Point (Some g) (Field n 0) change)
  on_node n change loaded known = record {
    guard = λ k e. cc (e);
    names = known;
    place = λ past h xs one shape. field_there h n one;
    reading = refl;
    finds = λ past h xs shape stands readable. (_, field_is h n (readable n loaded));
  }

  placing : (v : ℕ) → Allows queue structure knowledge g phase (Place v)
  placing v = record {
    guard = λ k e. absurd (cc (e));
    names = λ h known. refl;
    place = λ past h xs one shape. refl;
    reading = refl;
    finds = λ past h xs shape stands readable. tt;
  }

  -- the phase after an answer knows nothing
  blank : (a : Access) (answer : AccessAnswer) (next : QueuePhase) → ((x : Name) → ¬ (Names next x))
      → ((x : Name) → ¬ (Loads next x))
      → ¬ (Roomy next) → reads_at next ≡ readings_after a (Told answer) (reads_at phase)
      → Learns queue structure knowledge g phase a answer next
  blank a answer next none unloaded poor reads = record {
    names = λ x k. absurd (none x k);
    loads = λ x l. absurd (unloaded x l);
    roomy = λ roomy. absurd (poor roomy);
    reads = reads;
  }

  -- or no more than this one
  no_more : (a : Access) (answer : AccessAnswer) (next : QueuePhase) → ((x : Name) → Names next x → Names phase x)
      → ((x : Name) → Loads next x → Loads phase x) → Roomy phase
      → reads_at next ≡ readings_after a (Told answer) (reads_at phase)
      → Learns queue structure knowledge g phase a answer next
  no_more a answer next fewer unloaded rich reads = record {
    names = λ x k. inl (fewer x k);
    loads = λ x l. inl (unloaded x l);
    roomy = λ roomy. rich;
    reads = reads;
  }

  -- one more try to push, or to pop
  again_push : (a : Access) (answer : AccessAnswer) (n : Name) (k : ℕ) → Names phase n ⊎ NamedBy a answer n
      → Roomy phase
      → [] ≡ readings_after a (Told answer) (reads_at phase)
      → Learns queue structure knowledge g phase a answer (retry_push n k)
  again_push a answer n zero own rich reads = record {
    names = λ x e. subst (λ (y : Name). Names phase y ⊎ NamedBy a answer y) (sym e) own;
    loads = λ x l. absurd l;
    roomy = λ roomy. rich;
    reads = reads;
  }
  again_push a answer n (suc k) own rich reads = record {
    names = λ x e. subst (λ (y : Name). Names phase y ⊎ NamedBy a answer y) (sym e) own;
    loads = λ x l. absurd l;
    roomy = λ roomy. rich;
    reads = reads;
  }

  again_pop : (a : Access) (answer : AccessAnswer) (k : ℕ) → Roomy phase
      → [] ≡ readings_after a (Told answer) (reads_at phase)
      → Learns queue structure knowledge g phase a answer (retry_pop k)
  again_pop a answer zero rich reads = blank a answer (retry_pop zero) (λ x k. k) (λ x l. l) (λ r. r) reads
  again_pop a answer (suc k) rich reads =
      record { names = λ x k. absurd k; loads = λ x l. absurd l; roomy = λ roomy. rich; reads = reads }

-- WHAT AN ANSWER TELLS

-- a new node
placed_tells : (g v k : ℕ) (answer : AccessAnswer) → AnswersAccess (Place v) answer
    → Learns queue structure knowledge g (Placing v k) (Place v) answer (queue_placed k answer)
placed_tells g v k (NameAnswer n) ok = again_push g (Placing v k) refl (Place v) (NameAnswer n) n k (inr refl) tt refl
placed_tells g v k _ ok = absurd ok

founded_tells : (g : ℕ) (answer : AccessAnswer) → AnswersAccess (Place 0) answer
    → Learns queue structure knowledge g Founding (Place 0) answer (founded answer)
founded_tells g (NameAnswer n) ok = record {
  names = λ x e. inr (sym e);
  loads = λ x l. absurd l;
  roomy = λ roomy. tt;
  reads = refl;
}
founded_tells g _ ok = absurd ok

crowned_tells : (g : ℕ) (n : Name) (answer : AccessAnswer) → AnswersAccess (queue_exchange g (Root 0) null n) answer
    → Learns queue structure knowledge g (Crowning n) (queue_exchange g (Root 0) null n) answer (crowned n answer)
crowned_tells g n (Exchanged ptr) ok = no_more g (Crowning n) refl _ _ (Seating n) (λ x e. e) (λ x l. l) tt refl
crowned_tells g n (Unchanged ptr) ok = no_more g (Crowning n) refl _ _ (TakingBack n) (λ x e. e) (λ x l. l) tt refl
crowned_tells g n _ ok = absurd ok

-- the tail, and its next
tail_tells : (g : ℕ) (n : Name) (k : ℕ) (answer : AccessAnswer) → AnswersAccess (queue_load g (Root 1)) answer
    → Learns queue structure knowledge g (LoadingTail n k) (queue_load g (Root 1)) answer (tail_loaded n k answer)
tail_tells g n k (Pointer ptr) ok = by_name ptr.name refl
  where
    by_name : (o : Option Name) → ptr.name ≡ o
        → Learns queue structure knowledge g (LoadingTail n k) (queue_load g (Root 1)) (Pointer ptr) (to_last n k o)
    by_name None e = again_push g (LoadingTail n k) refl (queue_load g (Root 1)) (Pointer ptr) n k (inl refl) tt refl
    by_name (Some t) e = record {
      names = λ x is. elim is [
        | inl own ↦ inl own
        | inr new ↦ inr (e ∙ ap Some (sym new))
      ];
      loads = λ x is. inr (refl, (tt, e ∙ ap Some (sym is)));
      roomy = λ roomy. tt;
      reads = refl;
    }
tail_tells g n k _ ok = absurd ok

last_tells : (g : ℕ) (n t : Name) (k : ℕ) (answer : AccessAnswer) → AnswersAccess (queue_load g (Field t 0)) answer
    → Learns queue structure knowledge g (LoadingLast n t k) (queue_load g (Field t 0)) answer
    (last_loaded n t k answer)
last_tells g n t k (Pointer ptr) ok = by_name ptr.name refl
  where
    by_name : (o : Option Name) → ptr.name ≡ o
        → Learns queue structure knowledge g (LoadingLast n t k) (queue_load g (Field t 0)) (Pointer ptr)
        (to_append n t k o)
    by_name None e =
        no_more g (LoadingLast n t k) refl _ _ (Appending n t k) (λ x is. is) (λ x l. l) tt refl
    by_name (Some q) e = record {
      names = λ x is. elim is [
        | inl own ↦ inl (inl own)
        | inr (inl last) ↦ inl (inr last)
        | inr (inr new) ↦ inr (e ∙ ap Some (sym new))
      ];
      loads = λ x l. absurd l;
      roomy = λ roomy. tt;
      reads = refl;
    }
last_tells g n t k _ ok = absurd ok

appended_tells : (g : ℕ) (n t : Name) (k : ℕ) (answer : AccessAnswer)
    → AnswersAccess (queue_exchange g (Field t 0) null n) answer
    → Learns queue structure knowledge g (Appending n t k) (queue_exchange g (Field t 0) null n) answer
    (appended n t k answer)
appended_tells g n t k (Exchanged ptr) ok = no_more g (Appending n t k) refl _ _ (Swinging t n)
    (λ x is. elim is [ inl last ↦ inr last | inr own ↦ inl own ]) (λ x l. absurd l) tt refl
appended_tells g n t k (Unchanged ptr) ok =
    again_push g (Appending n t k) refl (queue_exchange g (Field t 0) null n) (Unchanged ptr) n k (inl (inl refl)) tt
    refl
appended_tells g n t k _ ok = absurd ok

-- the head, and its next
head_tells : (g k : ℕ) (answer : AccessAnswer) → AnswersAccess (queue_load g (Root 0)) answer
    → Learns queue structure knowledge g (LoadingHead k) (queue_load g (Root 0)) answer (queue_head_loaded k answer)
head_tells g k (Pointer ptr) ok = by_name ptr.name refl
  where
    by_name : (o : Option Name) → ptr.name ≡ o
        → Learns queue structure knowledge g (LoadingHead k) (queue_load g (Root 0)) (Pointer ptr) (to_next k o)
    by_name None e = again_pop g (LoadingHead k) refl (queue_load g (Root 0)) (Pointer ptr) k tt refl
    by_name (Some h) e = record {
      names = λ x is. inr (e ∙ ap Some (sym is));
      loads = λ x is. inr (refl, (tt, e ∙ ap Some (sym is)));
      roomy = λ roomy. tt;
      reads = refl;
    }
head_tells g k _ ok = absurd ok

next_tells : (g : ℕ) (h : Name) (k : ℕ) (answer : AccessAnswer) → AnswersAccess (queue_load g (Field h 0)) answer
    → Learns queue structure knowledge g (LoadingNext h k) (queue_load g (Field h 0)) answer
    (queue_next_loaded h k answer)
next_tells g h k (Pointer ptr) ok = by_name ptr.name refl
  where
    by_name : (o : Option Name) → ptr.name ≡ o
        → Learns queue structure knowledge g (LoadingNext h k) (queue_load g (Field h 0)) (Pointer ptr) (to_read h k o)
    by_name None e = blank g (LoadingNext h k) refl _ _ (Answering Empty) (λ x k. k) (λ x l. l) (λ r. r) refl
    by_name (Some q) e = record {
      names = λ x is. elim is [
        | inl head ↦ inl head
        | inr new ↦ inr (e ∙ ap Some (sym new))
      ];
      loads = λ x is. inr (refl, (refl, e ∙ ap Some (sym is)));
      roomy = λ roomy. tt;
      reads = refl;
    }
next_tells g h k _ ok = absurd ok

-- the value
read_tells : (g : ℕ) (h q : Name) (k : ℕ) (answer : AccessAnswer) → AnswersAccess (Read (Some g) (ptr_to q)) answer
    → Learns queue structure knowledge g (Reading h q k) (Read (Some g) (ptr_to q)) answer (queue_read h q k answer)
read_tells g h q k (Value v) ok =
    no_more g (Reading h q k) refl _ _ (Leaving h q v k) (λ x is. is) (λ x l. absurd l) tt refl
read_tells g h q k _ ok = absurd ok

-- the end of its reading
left_reads : (q : Name) (answer : AccessAnswer) → [] ≡ readings_after (Leave (ptr_to q)) (Told answer) (q ∷ [])
left_reads q answer = sym (ap (λ (b : Bool). if b then [] else q ∷ []) (name_self q))

left_tells : (g : ℕ) (h q : Name) (v k : ℕ) (answer : AccessAnswer) → AnswersAccess (Leave (ptr_to q)) answer
    → Learns queue structure knowledge g (Leaving h q v k) (Leave (ptr_to q)) answer (Taking h q v k)
left_tells g h q v k answer ok = record {
  names = λ x is. inl is;
  loads = λ x l. absurd l;
  roomy = λ roomy. tt;
  reads = left_reads q answer;
}

-- the exchange of the head, and the look at the tail
taken_tells : (g : ℕ) (h q : Name) (v k : ℕ) (answer : AccessAnswer)
    → AnswersAccess (queue_exchange g (Root 0) (ptr_to h) q) answer
    → Learns queue structure knowledge g (Taking h q v k) (queue_exchange g (Root 0) (ptr_to h) q) answer
    (taken h q v k answer)
taken_tells g h q v k (Exchanged ptr) ok =
    no_more g (Taking h q v k) refl _ _ (LookingBack h q v) (λ x is. is) (λ x l. l) tt refl
taken_tells g h q v k (Unchanged ptr) ok =
    again_pop g (Taking h q v k) refl (queue_exchange g (Root 0) (ptr_to h) q) (Unchanged ptr) k tt refl
taken_tells g h q v k _ ok = absurd ok

back_tells : (g : ℕ) (h q : Name) (v : ℕ) (answer : AccessAnswer) → AnswersAccess (queue_load g (Root 1)) answer
    → Learns queue structure knowledge g (LookingBack h q v) (queue_load g (Root 1)) answer (looked_back h q v answer)
back_tells g h q v (Pointer ptr) ok = by_test (names ptr.name h)
  where
    by_test : (b : Bool) → Learns queue structure knowledge g (LookingBack h q v) (queue_load g (Root 1)) (Pointer ptr)
        (if b then Advancing h q v else Removing h v)
    by_test true = no_more g (LookingBack h q v) refl _ _ (Advancing h q v) (λ x is. is) (λ x l. l) tt refl
    by_test false = no_more g (LookingBack h q v) refl _ _ (Removing h v) (λ x is. inl is) (λ x l. l) tt refl
back_tells g h q v _ ok = absurd ok

-- DUTIES

-- the call and what it tells; only a placing is refused
touches : (g : ℕ) (phase : QueuePhase) (a : Access) (told : AccessAnswer → QueuePhase) (failed : QueuePhase)
    → Allows queue structure knowledge g phase a
    → ((answer : AccessAnswer) → AnswersAccess a answer
    → Learns queue structure knowledge g phase a answer (told answer))
    → ¬ (RefusesAccess a CellsFullFault) → TouchDuty queue structure knowledge g phase a told failed
touches g phase a told failed allows learns never =
    record { allows = allows; learns = learns; unplaced = λ r. absurd (never r) }

-- a placing that is refused ends the call
places : (g v : ℕ) (phase : QueuePhase) (told : AccessAnswer → QueuePhase)
    → Allows queue structure knowledge g phase (Place v)
    → reads_at phase ≡ []
    → ((answer : AccessAnswer) → AnswersAccess (Place v) answer
    → Learns queue structure knowledge g phase (Place v) answer (told answer))
    → TouchDuty queue structure knowledge g phase (Place v) told (Answering CellsFull)
places g v phase told allows unread learns = record {
  allows = allows;
  learns = learns;
  unplaced = λ r. (
    record { names = λ x k. absurd k; loads = λ x l. absurd l; reads = sym unread },
    λ roomy. absurd roomy,
  );
}

-- whatever a flush leads to knows no name
begins_blank : (work : QueueWork) → Fewer queue structure knowledge (MakingRoom work) (start_queue_work work)
begins_blank Build = record { names = λ x k. k; loads = λ x l. l; reads = refl }
begins_blank (Push v k) = record { names = λ x k. k; loads = λ x l. l; reads = refl }
begins_blank (Pop zero) = record { names = λ x k. k; loads = λ x l. l; reads = refl }
begins_blank (Pop (suc k)) = record { names = λ x k. k; loads = λ x l. l; reads = refl }

-- a removal ends the call
removes : (phase deferred failed : QueuePhase) (n : Name) → Names phase n → Roomy phase
    → Fewer queue structure knowledge phase deferred → Fewer queue structure knowledge phase failed → ¬ (Roomy deferred)
    → DeferDuty queue structure knowledge phase deferred failed n
removes phase deferred failed n known rich after refused poor =
    record { name = known; room = rich; after = after; refused = refused; none_after = poor }

-- the exchange of a root for a name, where the one before is known or null
known_both : (h : Heap) (n m : Name) → WasGiven h n → WasGiven h m → (was_given h n && was_given h m) ≡ true
known_both h n m one other = both_true _ _ (given_known h n one) (given_known h m other)

known_one : (h : Heap) (n : Name) → WasGiven h n → (was_given h n && true) ≡ true
known_one h n one = both_true _ _ (given_known h n one) refl

-- each phase does its duty
duties : (g : ℕ) (phase : QueuePhase) → DutyOf queue structure knowledge g phase (queue_deed_of g phase)
duties g (MakingRoom work) = record {
  after = begins_blank work;
  refused = record { names = λ x k. k; loads = λ x l. l; reads = refl };
  none_before = λ r. r;
  none_refused = λ r. r;
}
duties g Founding = places g 0 Founding founded (placing g Founding refl 0) refl (founded_tells g)
duties g (Placing v k) =
    places g v (Placing v k) (queue_placed k) (placing g (Placing v k) refl v) refl (placed_tells g v k)
duties g (Crowning n) = touches g (Crowning n) (queue_exchange g (Root 0) null n) (crowned n) (TakingBack n)
    (on_head g (Crowning n) refl _ (λ h known. given_known h n (known n refl))) (crowned_tells g n) (λ r. r)
duties g (Seating n) = touches g (Seating n) (queue_exchange g (Root 1) null n) (λ a. Answering Built) (Answering Built)
    (on_tail g (Seating n) refl _ (λ h known. given_known h n (known n refl)))
    (λ answer ok. blank g (Seating n) refl _ answer (Answering Built) (λ x k. k) (λ x l. l) (λ r. r) refl) (λ r. r)
duties g (LoadingTail n k) = touches g (LoadingTail n k) (queue_load g (Root 1)) (tail_loaded n k) (retry_push n k)
    (on_tail g (LoadingTail n k) refl _ (λ h known. refl)) (tail_tells g n k) (λ r. r)
duties g (LoadingLast n t k) =
    touches g (LoadingLast n t k) (queue_load g (Field t 0)) (last_loaded n t k) (retry_push n k)
    (on_node g (LoadingLast n t k) refl t _ refl (λ h known. known_one h t (known t (inr refl)))) (last_tells g n t k)
    (λ r. r)
duties g (Appending n t k) =
    touches g (Appending n t k) (queue_exchange g (Field t 0) null n) (appended n t k) (retry_push n k)
    (on_node g (Appending n t k) refl t _ refl
    (λ h known. known_both h t n (known t (inr refl)) (known n (inl refl)))) (appended_tells g n t k) (λ r. r)
duties g (Swinging t n) =
    touches g (Swinging t n) (queue_exchange g (Root 1) (ptr_to t) n) (λ a. Answering Pushed) (Answering Pushed)
    (on_tail g (Swinging t n) refl _ (λ h known. known_both h t n (known t (inl refl)) (known n (inr refl))))
    (λ answer ok. blank g (Swinging t n) refl _ answer (Answering Pushed) (λ x k. k) (λ x l. l) (λ r. r) refl) (λ r. r)
duties g (Helping n t q k) =
    touches g (Helping n t q k) (queue_exchange g (Root 1) (ptr_to t) q) (λ a. retry_push n k) (retry_push n k)
    (on_tail g (Helping n t q k) refl _
    (λ h known. known_both h t q (known t (inr (inl refl))) (known q (inr (inr refl)))))
    (λ answer ok. again_push g (Helping n t q k) refl (queue_exchange g (Root 1) (ptr_to t) q) answer n k
    (inl (inl refl)) tt
    refl) (λ r. r)
duties g (TakingBack n) = removes (TakingBack n) (Answering TriesOut) (Answering TriesOutLeaking) n refl tt
    (record { names = λ x k. absurd k; loads = λ x l. l; reads = refl })
    (record { names = λ x k. absurd k; loads = λ x l. l; reads = refl }) (λ r. r)
duties g (LoadingHead k) = touches g (LoadingHead k) (queue_load g (Root 0)) (queue_head_loaded k) (retry_pop k)
    (on_head g (LoadingHead k) refl _ (λ h known. refl)) (head_tells g k) (λ r. r)
duties g (LoadingNext h k) =
    touches g (LoadingNext h k) (queue_load g (Field h 0)) (queue_next_loaded h k) (retry_pop k)
    (on_node g (LoadingNext h k) refl h _ refl (λ i known. known_one i h (known h refl))) (next_tells g h k) (λ r. r)
duties g (Reading h q k) = touches g (Reading h q k) (Read (Some g) (ptr_to q)) (queue_read h q k) (retry_pop k)
    (record {
      guard = λ i e. cc (e);
      names = λ i known. given_known i q (known q (inr refl));
      place = λ past i xs one shape. refl;
      reading = refl;
      finds = λ past i xs shape stands readable. (q, refl, readable q refl);
    }) (read_tells g h q k) (λ r. r)
duties g (Leaving h q v k) =
    touches g (Leaving h q v k) (Leave (ptr_to q)) (λ a. Taking h q v k) (Taking h q v k)
    (record {
      guard = λ i e. absurd (cc (e));
      names = λ i known. given_known i q (known q (inr refl));
      place = λ past i xs one shape. refl;
      reading = ap (λ (b : Bool). if b || false then None else Some StrangerPointer) (name_self q);
      finds = λ past i xs shape stands readable. (q, refl);
    }) (left_tells g h q v k) (λ r. r)
duties g (Taking h q v k) =
    touches g (Taking h q v k) (queue_exchange g (Root 0) (ptr_to h) q) (taken h q v k) (retry_pop k)
    (on_head g (Taking h q v k) refl _ (λ i known. known_both i h q (known h (inl refl)) (known q (inr refl))))
    (taken_tells g h q v k) (λ r. r)
duties g (LookingBack h q v) =
    touches g (LookingBack h q v) (queue_load g (Root 1)) (looked_back h q v) (Advancing h q v)
    (on_tail g (LookingBack h q v) refl _ (λ i known. refl)) (back_tells g h q v) (λ r. r)
duties g (Advancing h q v) =
    touches g (Advancing h q v) (queue_exchange g (Root 1) (ptr_to h) q) (λ a. Removing h v)
    (Answering (PoppedLeaking v))
    (on_tail g (Advancing h q v) refl _ (λ i known. known_both i h q (known h (inl refl)) (known q (inr refl))))
    (λ answer ok. no_more g (Advancing h q v) refl _ answer (Removing h v) (λ x is. inl is) (λ x l. l) tt refl) (λ r. r)
duties g (Removing h v) = removes (Removing h v) (Answering (Popped v)) (Answering (PoppedLeaking v)) h refl tt
    (record { names = λ x k. absurd k; loads = λ x l. l; reads = refl })
    (record { names = λ x k. absurd k; loads = λ x l. l; reads = refl }) (λ r. r)
duties g (Answering a) = record { reads = refl }

-- a call begins knowing no name
begins : (phase : QueuePhase) → QueueStarts phase
    → ((n : Name) → ¬ (Names phase n)) × ((n : Name) → ¬ (Loads phase n)) × (reads_at phase ≡ [])
begins (MakingRoom work) is = (λ n k. k, λ n l. l, refl)
begins Founding is = (λ n k. k, λ n l. l, refl)
begins (Placing v k) is = (λ n k. k, λ n l. l, refl)
begins (LoadingHead k) is = (λ n k. k, λ n l. l, refl)
begins (Answering a) is = (λ n k. k, λ n l. l, refl)
begins _ is = absurd is

-- each phase of a queue shows that its call will be replied to as expected
pub queue_serves : Serves queue structure knowledge QueueStarts
queue_serves = record { starts = begins; duties = duties }

-- WHOLE RUNS

-- a new queue keeps what is to be kept
pub new_keeps : (world : State) (plans : AllPlans QueuePhase) → IsUsualQueue world plans
    → Keeps queue structure QueueStarts queue_obeys knowledge queue_serves no_past world plans []
new_keeps world plans usual = record {
  sound = new_sound world plans usual.new;
  along = fresh_along world usual.new.fresh usual.few;
  one_field = usual.one_field;
  steady = λ p. subst (λ (l : Plan QueuePhase). Steady queue knowledge no_past world.heap p l (seat_of world p))
      (sym (usual.new.no_plans p)) (ap (λ (st : WorldSeat). st.readings) (usual.new.fresh.free p));
}

-- and so each call of each run is
pub every_queue_call_is_served : (world world' : State) (plans plans' : AllPlans QueuePhase) (log : QueueLog)
    → IsUsualQueue world plans → (run : QueueRuns world plans log world' plans')
    → AllQueueAsksReady world plans log world' plans' run → AllQueueCallsServed world plans log world' plans' run
every_queue_call_is_served world world' plans plans' log usual run ready =
    (runs_served queue structure QueueStarts queue_obeys knowledge queue_serves no_past world plans log world' plans' []
    (new_keeps world plans usual) run ready).0
