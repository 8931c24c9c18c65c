-- Each phase's step keeps what holds of the queue, so that the queue obeys.
use Rattle.std.proofs.Common.{◌≡◌, ℕ, List, Option, Some, None, inl, inr, refl, ap, sym, subst, ◌∙◌, slice_get}
use Rattle.epoch_cells.specs.PlainCells.{readable}
use Rattle.epoch_cells.specs.declared.cells.name.Name.{Name}
use Rattle.epoch_laws.specs.declared.heap.access.Ptr.{Ptr}
use Rattle.epoch_laws.specs.declared.heap.access.Spot.{Spot}
use Rattle.epoch_laws.specs.declared.heap.access.Spot.TheVariants.{Root, Field}
use Rattle.epoch_laws.specs.declared.heap.access.Change.TheVariants.{Load, CompareExchange}
use Rattle.epoch_laws.specs.declared.heap.access.Access.TheVariants.{Place, Read, Leave}
use Rattle.epoch_laws.specs.Heap.{Heap, null, cell_at, pointer_at, Touched, ChangesAt}
use Rattle.epoch_laws.specs.Reach.{IsReachable, Past}
use Rattle.epoch_laws.proofs.TurnsGiven.{StaysGiven}
use Rattle.epoch_structure_laws.specs.Plans.{ptr_to, call_by}
use Rattle.epoch_structure_laws.specs.declared.queue.plan.QueueAnswer.TheVariants.{CellsFull as CellsFullAnswer}
use Rattle.epoch_structure_laws.specs.declared.queue.plan.QueuePhase.{QueuePhase}
use Rattle.epoch_structure_laws.specs.declared.queue.plan.QueuePhase.TheVariants.{MakingRoom, Founding, Crowning}
use Rattle.epoch_structure_laws.specs.declared.queue.plan.QueuePhase.TheVariants.{Seating, Placing, LoadingTail}
use Rattle.epoch_structure_laws.specs.declared.queue.plan.QueuePhase.TheVariants.{LoadingLast, Appending, Swinging}
use Rattle.epoch_structure_laws.specs.declared.queue.plan.QueuePhase.TheVariants.{Helping, TakingBack, LoadingHead}
use Rattle.epoch_structure_laws.specs.declared.queue.plan.QueuePhase.TheVariants.{LoadingNext, Reading, Leaving, Taking}
use Rattle.epoch_structure_laws.specs.declared.queue.plan.QueuePhase.TheVariants.{LookingBack, Advancing, Removing}
use Rattle.epoch_structure_laws.specs.declared.queue.plan.QueuePhase.TheVariants.{Answering}
use Rattle.epoch_structure_laws.specs.QueueProgram.{queue_deed_of, queue, QueueStarts, founded, queue_placed}
use Rattle.epoch_structure_laws.proofs.Custody.{Acts}
use Rattle.epoch_structure_laws.proofs.Obligations.{Settled, Obeys, after_touch, TouchesBy, ChangesReached}
use Rattle.epoch_structure_laws.proofs.Calls.{calm_call}
use Rattle.epoch_structure_laws.proofs.QueueForm.{in_reach}
use Rattle.epoch_structure_laws.proofs.QueueKept.{Shape, AtTail, Stands, structure, sane, calm_kept, refused, flushed}
use Rattle.epoch_structure_laws.proofs.QueueKept.{starts, answers, fits, defers}
use Rattle.epoch_structure_laws.proofs.QueueLists.{in_or}
use Rattle.epoch_structure_laws.proofs.QueueSteps.{aligned_at, tries_mine, load_tail, load_last, load_head, load_next}
use Rattle.epoch_structure_laws.proofs.QueueSteps.{read_next, leave_next, look_back, take, append, place, crown, seat}
use Rattle.epoch_structure_laws.proofs.QueueSteps.{advance, swing_last, help}

module _ (past : Past) (h : Heap) (xs : List Name) (settled : Settled past h) (shape : Shape past h xs) where
  -- what a step shows; what was given stays so anyway
  abbrev Does : ℕ → QueuePhase → Touched → Type 1
  Does g phase did =
      StaysGiven h did.heap
      → Acts queue structure past h did.heap xs (Some phase) (Some (after_touch phase (queue_deed_of g phase) did.told))

  -- each phase's step
  touch_does : (g : ℕ) (phase : QueuePhase) (j : ℕ) (found : Ptr) (did : Touched)
      → TouchesBy (queue_deed_of g phase) j found h did → Stands past h xs phase → Does g phase did
  touch_does g (MakingRoom work) j found did e s = absurd e
  touch_does g (TakingBack n) j found did e s = absurd e
  touch_does g (Removing n v) j found did e s = absurd e
  touch_does g (Answering a) j found did e s = absurd e
  touch_does g (Placing v k) j found did e s =
      place past h xs settled shape g v (Placing v k) (Answering CellsFullAnswer) j found did (queue_placed k) refl tt
      (λ n o. o) tt (λ n o. o)
      (λ n. tries_mine n k) (slice_get h.cells j) refl e (calm_call past.left h (Place v) j found did tt e)
  touch_does g Founding j found did e s =
      place past h xs settled shape g 0 Founding (Answering CellsFullAnswer) j found did founded refl tt
      (λ n o. o) tt (λ n o. o)
      (λ n. record { stands = λ past h xs m. m; owns = λ x o. o }) (slice_get h.cells j) refl e
      (calm_call past.left h (Place 0) j found did tt e)
  touch_does g (Crowning n) j found did e s =
      crown past h xs settled shape g n j found did (pointer_at h (Root 0)) refl e s
  touch_does g (Seating n) j found did e s =
      seat past h xs settled shape g n j found did (pointer_at h (Root 1)) refl e s
  touch_does g (LoadingTail n k) j found did e s =
      load_tail past h xs settled shape g n k j found did (pointer_at h (Root 1)) refl e s
  touch_does g (LoadingLast n t k) j found did e s =
      load_last past h xs settled shape g n t k j found did (pointer_at h (Field t 0)) refl e s
  touch_does g (Appending n t k) j found did e s =
      append past h xs settled shape g n t k j found did (pointer_at h (Field t 0)) refl e s
  touch_does g (Swinging t n) j found did e s =
      swing_last past h xs settled shape g t n j found did (pointer_at h (Root 1)) refl e s
  touch_does g (Helping n t q k) j found did e s =
      help past h xs settled shape g n t q k j found did (pointer_at h (Root 1)) refl e s
  touch_does g (LoadingHead k) j found did e s =
      load_head past h xs settled shape g k j found did (pointer_at h (Root 0)) refl e
  touch_does g (LoadingNext n k) j found did e s =
      load_next past h xs settled shape g n k j found did (pointer_at h (Field n 0)) refl e s
  touch_does g (Reading n q k) j found did e s =
      read_next past h xs settled shape g n q k did (cell_at h q) (readable (cell_at h q)) refl refl e s
      (calm_call past.left h (Read (Some g) (ptr_to q)) j found did tt e)
  touch_does g (Leaving n q v k) j found did e s =
      leave_next past h xs settled shape g n q v k did (cell_at h q) e s (calm_call past.left h (Leave
      (ptr_to q)) j found did tt e)
  touch_does g (Taking n q v k) j found did e s =
      take past h xs settled shape g n q v k j found did (pointer_at h (Root 0)) refl e s
  touch_does g (LookingBack n q v) j found did e s =
      look_back past h xs settled shape g n q v j found did (pointer_at h (Root 1)) refl e s
  touch_does g (Advancing n q v) j found did e s =
      advance past h xs settled shape g n q v j found did (pointer_at h (Root 1)) refl e s

  -- A field that changes is of a node in reach.
  loads_same : (o : Option Ptr) (spot : Spot) (j : ℕ) (found : Ptr) (did : Touched)
      → ChangesAt Load j found spot h o did → did.heap ≡ h
  loads_same None spot j found did e = ap (λ (d : Touched). d.heap) e
  loads_same (Some ptr) spot j found did e = ap (λ (d : Touched). d.heap) e

  abbrev Frozen : ℕ → QueuePhase → Touched → Type 0
  Frozen g phase did = ChangesReached past h did.heap (call_by g (queue_deed_of g phase))

  -- a push changes the field of a node in the queue alone
  append_frozen : (g : ℕ) (n t : Name) (k j : ℕ) (found : Ptr) (did : Touched) (o : Option Ptr)
      → pointer_at h (Field t 0) ≡ o → ChangesAt (CompareExchange null (ptr_to n)) j found (Field t 0) h o did
      → AtTail past h t → Frozen g (Appending n t k) did
  append_frozen g n t k j found did None e is s c y f change call changed r never =
      changed (ap (λ (d : Touched). pointer_at d.heap (Field y f)) (sym is))
  append_frozen g n t k j found did (Some ptr) e (inr is) s c y f change call changed r never =
      changed (ap (λ (d : Touched). pointer_at d.heap (Field y f)) (sym is.1))
  append_frozen g n t k j found did (Some ptr) e (inl is) s c y f change call changed r never =
      never (subst (IsReachable h) (let same : t ≡ y = cc (call) in same) (elim (in_or t xs) [
        | inl there ↦ in_reach h xs shape.form t there
        | inr out ↦ absurd (shape.shut t s.0 out (e ∙ ap Some (is.0 ∙ aligned_at h None)))
      ]))

  -- no other phase changes a field
  touch_frozen : (g : ℕ) (phase : QueuePhase) (j : ℕ) (found : Ptr) (did : Touched)
      → TouchesBy (queue_deed_of g phase) j found h did → Stands past h xs phase → Frozen g phase did
  touch_frozen g (Appending n t k) j found did e s c y f change call changed r never =
      append_frozen g n t k j found did (pointer_at h (Field t 0)) refl e s.1 c y f change call changed r never
  touch_frozen g (LoadingLast n t k) j found did e s c y f change call changed r never =
      changed (ap (λ (i : Heap). pointer_at i (Field y f))
      (sym (loads_same (pointer_at h (Field t 0)) (Field t 0) j found did e)))
  touch_frozen g (LoadingNext n k) j found did e s c y f change call changed r never =
      changed (ap (λ (i : Heap). pointer_at i (Field y f))
      (sym (loads_same (pointer_at h (Field n 0)) (Field n 0) j found did e)))
  touch_frozen g _ j found did e s c y f change call changed r never = cc (call)

-- A QUEUE OBEYS

pub queue_obeys : Obeys queue structure QueueStarts
queue_obeys = record {
  sane = sane;
  fits = fits;
  calm = λ past past' h h' xs gone settled calm passed out shape.
      calm_kept past past' h h' xs gone settled calm passed out shape;
  starts = starts;
  answers = answers;
  refused = refused;
  flushed = flushed;
  defers = defers;
  touches = λ past h xs g phase j found did e given settled shape s. (
    touch_does past h xs settled shape g phase j found did e s given,
    touch_frozen past h xs settled shape g phase j found did e s,
  );
}
