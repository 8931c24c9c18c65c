-- In every run of a structure that obeys and serves, each phase's call is replied to as expected.
use Rattle.std.proofs.Common.{◌≡◌, ℕ, ◌==◌, Bool, true, false, List, [], ◌∷◌, ◌++◌, Option, Some, None}
use Rattle.std.proofs.Common.{◌⊎◌, inl, inr, refl, ap, sym, subst, ◌∙◌, if◌then◌else◌}
use Rattle.epoch_cells.specs.PlainCells.{readable, unread, removal_of}
use Rattle.epoch_cells.specs.declared.cells.Removal.TheVariants.{Destroyed, HeldElsewhere}
use Rattle.epoch_cells.specs.declared.cells.name.Name.{Name}
use Rattle.epoch_laws.specs.declared.heap.access.Ptr.{Ptr}
use Rattle.epoch_laws.specs.declared.heap.access.Spot.{Spot}
use Rattle.epoch_laws.specs.declared.heap.access.Spot.TheVariants.{Root, Field}
use Rattle.epoch_laws.specs.declared.heap.heap.Content.{Content}
use Rattle.epoch_laws.specs.Heap.{Cell, Heap, cell_at, with_field_in, with_pointer, without_cell, heap_after_job}
use Rattle.epoch_laws.specs.Heap.{read_by}
use Rattle.epoch_laws.specs.Heap.{left_by, written_by, taken_by}
use Rattle.epoch_laws.specs.declared.step.Call.{Call}
use Rattle.epoch_laws.specs.declared.step.Entry.{Entry}
use Rattle.epoch_laws.specs.declared.step.Reply.{Reply}
use Rattle.epoch_laws.specs.declared.step.Step.{Step}
use Rattle.epoch_laws.specs.declared.step.Step.TheVariants.{Register, Begin, Go, End, EndGo}
use Rattle.epoch_laws.specs.Run.{State, seat_of, with_places, TakesStep}
use Rattle.epoch_laws.specs.Reach.{LeavesRightly, Past, past_after}
use Rattle.epoch_laws.proofs.HeapSteps.{HeapGoes, heap_goes}
use Rattle.epoch_laws.proofs.HeldByTouches.{holds_touched}
use Rattle.epoch_laws.proofs.PointersGiven.{WasGiven}
use Rattle.epoch_laws.proofs.WorldAlong.{Along, later, push, world_holds}
use Rattle.epoch_structure_laws.specs.declared.plan.Plan.{Plan}
use Rattle.epoch_structure_laws.specs.declared.plan.Plan.TheVariants.{NoPlan, Under}
use Rattle.epoch_structure_laws.specs.Plans.{Deed, Flushes, Touches, Defers, Answers, Program, AllPlans, IsFlush}
use Rattle.epoch_structure_laws.specs.Plans.{IsOther}
use Rattle.epoch_structure_laws.specs.Plans.{KeepsPlans, Replans, PlanEvent, Asked, Declined, Answered, Makes, Follows}
use Rattle.epoch_structure_laws.specs.Plans.{asks}
use Rattle.epoch_structure_laws.specs.Plans.{declines, answers, passes, free_begins, free_goes, begins, goes, made_at}
use Rattle.epoch_structure_laws.specs.Plans.{WorldThen}
use Rattle.epoch_structure_laws.specs.Plans.{PlanRuns, plan_begun, plan_gone}
use Rattle.epoch_structure_laws.proofs.Custody.{same_number, Sound, Structure}
use Rattle.epoch_structure_laws.proofs.Obligations.{Obeys}
use Rattle.epoch_structure_laws.proofs.Runs.{follows_none, follows_some}
use Rattle.epoch_structure_laws.specs.Served.{AsksReady, AtEachStep, SeatHasRoom, ServesAt, ServesPlan}
use Rattle.epoch_structure_laws.specs.Served.{ServesStep, ThenAlso}
use Rattle.epoch_structure_laws.proofs.Clear.{IsOf}
use Rattle.epoch_structure_laws.proofs.Duties.{Knowledge, Serves, duty_of}
use Rattle.epoch_structure_laws.proofs.Ready.{AllSteady, RoomAt, Steady}
use Rattle.epoch_structure_laws.proofs.StepServed.{begin_served, free_served, go_served}

-- THE NUMBER OF FIELDS

-- no change of the cells changes how many fields each has
module _ (h : Heap) where
  abbrev Alike : Heap → Type 0
  Alike other = other.fields ≡ h.fields

  read_alike : (n : Name) (cell : Option Cell) (content : Option Content) → Alike (read_by h n cell content).heap
  read_alike n (Some cell) (Some content) = refl
  read_alike n (Some cell) None = refl
  read_alike n None content = refl

  left_alike : (n : Name) (cell : Option Cell) → Alike (left_by h n cell).heap
  left_alike n (Some cell) = refl
  left_alike n None = refl

  put_alike : (v : ℕ) (n : Name) (content : Option Content) → Alike (written_by h n v content).heap
  put_alike v n (Some content) = refl
  put_alike v n None = refl

  taken_alike : (n : Name) (content : Option Content) → Alike (taken_by h n content).heap
  taken_alike n (Some content) = refl
  taken_alike n None = refl

  field_alike : (n : Name) (f : ℕ) (ptr : Ptr) (cell : Option Cell) → Alike (with_field_in h n f ptr cell)
  field_alike n f ptr (Some cell) = refl
  field_alike n f ptr None = refl

  pointed_alike : (spot : Spot) (ptr : Ptr) → Alike (with_pointer h spot ptr)
  pointed_alike (Root i) ptr = refl
  pointed_alike (Field n f) ptr = field_alike n f ptr (cell_at h n)

  without_alike : (n : Name) (cell : Option Cell) → Alike (without_cell h n (removal_of cell))
  without_alike n None = refl
  without_alike n (Some cell) = at_test (cell.readers == 0)
    where
      at_test : (b : Bool) → Alike (without_cell h n (if b then Destroyed else HeldElsewhere))
      at_test true = refl
      at_test false = refl

  job_alike : (removes : Option Name) → Alike (heap_after_job h removes)
  job_alike None = refl
  job_alike (Some n) = without_alike n (cell_at h n)

-- nor does any step
fields_stay : (old new : State) (step : Step) (reply : Reply) → HeapGoes old new step reply
    → new.heap.fields ≡ old.heap.fields
fields_stay old new step reply (inl e) = ap (λ (h : Heap). h.fields) e
fields_stay old new step reply (inr (inl calls)) =
    ap (λ (h : Heap). h.fields) calls.heap ∙ job_alike old.heap calls.removes
fields_stay old new step reply (inr (inr (inl calls))) =
    ap (λ (h : Heap). h.fields) calls.heap ∙ job_alike old.heap calls.removes
fields_stay old new step reply (inr (inr (inr access))) =
    ap (λ (h : Heap). h.fields) access.makes.heap
    ∙ holds_touched (Alike old.heap) old.heap (record {
      before = refl;
      placed = λ v n cell at none turn. refl;
      read = λ n. read_alike old.heap n (cell_at old.heap n) (readable (cell_at old.heap n));
      left = λ n. left_alike old.heap n (cell_at old.heap n);
      put = λ v n. put_alike old.heap v n (unread (cell_at old.heap n));
      taken = λ n. taken_alike old.heap n (unread (cell_at old.heap n));
      pointed = pointed_alike old.heap;
    }) access.call access.steps access.found access.makes.did access.makes.touches

-- EACH STEP

not_made : {P A : Type 0} (event : PlanEvent P A) (x : Entry) → event ≡ Makes x → made_at event ≡ None → ⊥
not_made event x is none = cc (none, ap made_at is)

-- a step of no participant is nobody's
pub not_of : (s : Step) {step : Step} → step ≡ s → IsOther s → (p : ℕ) → ¬ (IsOf step p)
not_of Register on other p (inl e) = cc (on, e)
not_of Register on other p (inr (c, e)) = cc (on, e)
not_of End on other p (inl e) = cc (on, e)
not_of End on other p (inr (c, e)) = cc (on, e)
not_of EndGo on other p (inl e) = cc (on, e)
not_of EndGo on other p (inr (c, e)) = cc (on, e)
not_of (Begin q c) on other p is = other
not_of (Go q) on other p is = other

module _ (S : Program) (T : Structure S) (Starts : S.Phase → Type 0) (obeys : Obeys S T Starts) (K : Knowledge S)
    (serves : Serves S T K Starts) where
  -- what holds of the structure and of the world between any two steps
  pub record Keeps (past : Past) (s : State) (plans : AllPlans S.Phase) (log : List Entry) : Type 1 where
    pub sound : Sound S T past s plans
    pub along : Along past s log
    pub one_field : s.heap.fields ≡ 1
    pub steady : AllSteady S K past s plans

  module _ (past : Past) (world : State) (plans plans' : AllPlans S.Phase) (log : List Entry)
      (keeps : Keeps past world plans log) where
    steady_set : (p : ℕ) (plan : Plan S.Phase) → Replans plans p plan plans'
        → Steady S K past world.heap p plan (seat_of world p) → AllSteady S K past world plans'
    steady_set p plan sets own q = elim (same_number q p) [
      | inl e ↦ subst (λ (k : ℕ). Steady S K past world.heap k (plans' k) (seat_of world k)) (sym e)
          (subst (λ (l : Plan S.Phase). Steady S K past world.heap p l (seat_of world p)) (sym sets.0) own)
      | inr ne ↦ subst (λ (l : Plan S.Phase). Steady S K past world.heap q l (seat_of world q)) (sym (sets.1 q ne))
          (keeps.steady q)
    ]

    -- a first phase that knows of room has it
    first_room : (g : ℕ) (phase : S.Phase) (p : ℕ) → IsFlush (S.deed g phase) ⊎ SeatHasRoom (seat_of world p)
        → RoomAt S K phase (seat_of world p)
    first_room g phase p (inr room) known = room
    first_room g phase p (inl flush) known = absurd (by_deed (S.deed g phase) refl flush)
      where
        by_deed : (d : Deed S.Phase S.Answer) → S.deed g phase ≡ d → IsFlush d → ⊥
        by_deed (Flushes done failed) is flush =
            (duty_of S T K Starts serves g phase (Flushes done failed) is).none_before known
        by_deed (Touches a told failed) is flush = flush
        by_deed (Defers n deferred failed) is flush = flush
        by_deed (Answers a) is flush = flush

    steady_none : (event : PlanEvent S.Phase S.Answer) → made_at event ≡ None → AsksReady S world plans event
        → Follows S Starts world plans plans' event → AllSteady S K past world plans'
    steady_none event none ready (declines p f is same) =
        λ q. subst (λ (l : Plan S.Phase). Steady S K past world.heap q l (seat_of world q)) (sym (same q))
        (keeps.steady q)
    steady_none event none ready (asks p g phase is free idle starts sets) =
        let first = serves.starts phase starts in
        let able = subst (AsksReady S world plans) is ready in
        let reads = subst (λ (l : Plan S.Phase). Steady S K past world.heap p l (seat_of world p)) free (keeps.steady p)
        in
        steady_set p (Under g phase false) sets (
          record {
            ready = able.0;
            known = λ n k. absurd (first.0 n k);
            loaded = λ n l. absurd (first.1 n l);
            reads = reads ∙ sym first.2;
          },
          first_room g phase p able.1,
        )
    steady_none event none ready (answers p g phase answer is under over sets) =
        let sees = subst (λ (l : Plan S.Phase). Steady S K past world.heap p l (seat_of world p)) under (keeps.steady p)
        in
        steady_set p NoPlan sets (sees.0.reads
        ∙ (duty_of S T K Starts serves g phase (Answers answer) over).reads)
    steady_none event none ready (passes x is other same) = absurd (not_made event x is none)
    steady_none event none ready (free_begins x p c is on plain free same) = absurd (not_made event x is none)
    steady_none event none ready (free_goes x p is on free same) = absurd (not_made event x is none)
    steady_none event none ready (begins x p g phase is on under call sets) = absurd (not_made event x is none)
    steady_none event none ready (goes x p g phase is on under sets) = absurd (not_made event x is none)

    pub keeps_none : (event : PlanEvent S.Phase S.Answer) → made_at event ≡ None → AsksReady S world plans event
        → Follows S Starts world plans plans' event → Keeps past world plans' log
    keeps_none event none ready follows = record {
      sound = follows_none S T Starts obeys past world plans plans' keeps.sound event none follows;
      along = keeps.along;
      one_field = keeps.one_field;
      steady = steady_none event none ready follows;
    }

    -- a step that makes one of the world
    module _ (new : State) (y : Entry) (takes : TakesStep world y.step y.reply new)
        (follows : Follows S Starts world plans plans' (Makes y)) where
      leaves : LeavesRightly past world y new × Sound S T (past_after past world y new) new plans'
      leaves = follows_some S T Starts obeys past world new plans plans' y keeps.sound takes follows

      given_later : (n : Name) → WasGiven world.heap n → WasGiven new.heap n
      given_later = later past world new log y keeps.sound.linked keeps.along leaves.0 takes

      abbrev Shown : Type 0
      Shown = AllSteady S K (past_after past world y new) new plans' × ServesAt S plans y.step y.reply

      free_shown : KeepsPlans plans plans' → ((p : ℕ) → IsOf y.step p → plans p ≡ NoPlan)
          → AllSteady S K (past_after past world y new) new plans'
      free_shown same free = free_served S T Starts obeys K serves past world new plans plans' y keeps.sound
          (world_holds past world log keeps.along) keeps.one_field takes given_later keeps.steady same free

      serves_plan : (p : ℕ) (plan : Plan S.Phase) → plans p ≡ plan → ServesPlan S plan y.reply
          → ServesPlan S (plans p) y.reply
      serves_plan p plan e served = subst (λ (l : Plan S.Phase). ServesPlan S l y.reply) (sym e) served

      serves_go : (p : ℕ) → y.step ≡ Go p → ServesPlan S (plans p) y.reply → ServesAt S plans y.step y.reply
      serves_go p on served = subst (λ (s : Step). ServesAt S plans s y.reply) (sym on) served

      serves_begin : (p : ℕ) (c : Call) → y.step ≡ Begin p c → ServesPlan S (plans p) y.reply
          → ServesAt S plans y.step y.reply
      serves_begin p c on served = subst (λ (s : Step). ServesAt S plans s y.reply) (sym on) served

      pass_shown : (s : Step) → y.step ≡ s → IsOther s → KeepsPlans plans plans' → Shown
      pass_shown Register on other same = (
        free_shown same (λ p is. absurd (not_of Register on tt p is)),
        subst (λ (s : Step). ServesAt S plans s y.reply) (sym on) tt,
      )
      pass_shown End on other same = (
        free_shown same (λ p is. absurd (not_of End on tt p is)),
        subst (λ (s : Step). ServesAt S plans s y.reply)
            (sym on) tt,
      )
      pass_shown EndGo on other same = (
        free_shown same (λ p is. absurd (not_of EndGo on tt p is)),
        subst (λ (s : Step). ServesAt S plans s y.reply)
            (sym on) tt,
      )
      pass_shown (Begin p c) on other same = absurd other
      pass_shown (Go p) on other same = absurd other

      made_is : (x : Entry) → ◌≡◌ {A = PlanEvent S.Phase S.Answer} (Makes y) (Makes x) → y ≡ x
      made_is x is = cc (is)

      pub shown : Shown
      shown = by_kind follows
        where
          by_kind : Follows S Starts world plans plans' (Makes y) → Shown
          by_kind (declines p f is same) = absurd (cc (is))
          by_kind (asks p g phase is free idle starts sets) = absurd (cc (is))
          by_kind (answers p g phase answer is under over sets) = absurd (cc (is))
          by_kind (passes x is other same) =
              pass_shown x.step (ap (λ (z : Entry). z.step) (made_is x is)) other same
          by_kind (free_begins x p c is on plain free same) =
              let at : y.step ≡ Begin p c = ap (λ (z : Entry). z.step) (made_is x is) ∙ on in (
                free_shown same (λ q by. elim by [
                  | inl e ↦ absurd (cc (at, e))
                  | inr (d, e) ↦ subst (λ (k : ℕ). plans k ≡ NoPlan) (let who : p ≡ q = cc (at, e) in who) free
                ]),
                serves_begin p c at (serves_plan p NoPlan free tt),
              )
          by_kind (free_goes x p is on free same) =
              let at : y.step ≡ Go p = ap (λ (z : Entry). z.step) (made_is x is) ∙ on in (
                free_shown same (λ q by. elim by [
                  | inl e ↦ subst (λ (k : ℕ). plans k ≡ NoPlan) (let who : p ≡ q = cc (at, e) in who) free
                  | inr (d, e) ↦ absurd (cc (at, e))
                ]),
                serves_go p at (serves_plan p NoPlan free tt),
              )
          by_kind (begins x p g phase is on under call sets) =
              let at = ap (λ (z : Entry). z.step) (made_is x is) ∙ on in
              let served = begin_served S T Starts obeys K serves past world new plans plans' y keeps.sound
              (world_holds past world log keeps.along) keeps.one_field takes given_later keeps.steady p g phase call at
              under (subst (λ (z : Entry). Replans plans p (plan_begun g phase (S.deed g phase) z.reply) plans')
              (sym (made_is x is)) sets) in
              (served.0, serves_begin p _ at (serves_plan p (Under g phase false) under served.1))
          by_kind (goes x p g phase is on under sets) =
              let at : y.step ≡ Go p = ap (λ (z : Entry). z.step) (made_is x is) ∙ on in
              let served = go_served S T Starts obeys K serves past world new plans plans' y keeps.sound
              (world_holds past world log keeps.along) keeps.one_field takes given_later keeps.steady p g phase at
              under (subst (λ (z : Entry). Replans plans p (plan_gone g phase (S.deed g phase) z.reply) plans')
              (sym (made_is x is)) sets) in
              (served.0, serves_go p at (serves_plan p (Under g phase true) under served.1))

      pub keeps_some : Keeps (past_after past world y new) new plans' (log ++ y ∷ [])
      keeps_some = record {
        sound = leaves.1;
        along = push past world new log y keeps.sound.linked keeps.along leaves.0 takes;
        one_field = fields_stay world (with_places new world.places world.seen world.ahead world.room) y.step y.reply
            (heap_goes world (with_places new world.places world.seen world.ahead world.room) y.step y.reply y.step refl
            takes.0) ∙ keeps.one_field;
        steady = shown.0;
      }

  -- WHOLE RUNS

  -- at the end of a run
  pub record EndsKeeping (s : State) (plans : AllPlans S.Phase) : Type 1 where
    pub past : Past
    pub log : List Entry
    pub keeps : Keeps past s plans log

  -- what holds of the first step of a run, and of those that follow
  abbrev Shows : (world : State) (plans mid : AllPlans S.Phase) (log : List (PlanEvent S.Phase S.Answer))
      (world' : State) (plans' : AllPlans S.Phase) (event : PlanEvent S.Phase S.Answer)
      → WorldThen (made_at event) world (λ w. PlanRuns S Starts w mid log world' plans')
      → (State → AllPlans S.Phase → PlanEvent S.Phase S.Answer → Type 0) → Type 0
  Shows world plans mid log world' plans' event rest Holds = Holds world plans event
      × ThenAlso S (made_at event) world (λ w. PlanRuns S Starts w mid log world' plans')
      (λ w more. AtEachStep S Starts Holds w mid log world' plans' more) rest

  pub runs_served : (past : Past) (world : State) (plans : AllPlans S.Phase)
      (log : List (PlanEvent S.Phase S.Answer)) (world' : State) (plans' : AllPlans S.Phase) (entries : List Entry)
      → Keeps past world plans entries → (run : PlanRuns S Starts world plans log world' plans')
      → AtEachStep S Starts (AsksReady S) world plans log world' plans' run
      → AtEachStep S Starts (ServesStep S) world plans log world' plans' run × EndsKeeping world' plans'
  runs_served past world plans [] world' plans' entries keeps run ready = (
    tt,
    subst (λ (l : AllPlans S.Phase). EndsKeeping world' l) (sym run.1)
        (subst (λ (w : State). EndsKeeping w plans) (sym run.0)
        (record { past = past; log = entries; keeps = keeps })),
  )
  runs_served past world plans (event ∷ log) world' plans' entries keeps run ready =
      by_event (λ past' w entries' next rest able.
      runs_served past' w run.0 log world' plans' entries' next rest able) event run.1 run.2 ready
    where
      by_event : ((past' : Past) (w : State) (entries' : List Entry) → Keeps past' w run.0 entries'
          → (rest : PlanRuns S Starts w run.0 log world' plans')
          → AtEachStep S Starts (AsksReady S) w run.0 log world' plans' rest
          → AtEachStep S Starts (ServesStep S) w run.0 log world' plans' rest × EndsKeeping world' plans')
          → (event : PlanEvent S.Phase S.Answer) → Follows S Starts world plans run.0 event
          → (rest : WorldThen (made_at event) world (λ w. PlanRuns S Starts w run.0 log world' plans'))
          → Shows world plans run.0 log world' plans' event rest (AsksReady S)
          → Shows world plans run.0 log world' plans' event rest (ServesStep S) × EndsKeeping world' plans'
      by_event go_on (Makes x) follows rest able =
          let last = go_on (past_after past world x rest.0) rest.0 (entries ++ x ∷ [])
          (keeps_some past world plans run.0 entries keeps rest.0 x rest.1 follows) rest.2 able.1 in
          ((((shown past world plans run.0 entries keeps rest.0 x rest.1 follows).1), last.0), last.1)
      by_event go_on (Asked p g phase) follows rest able =
          let last = go_on past world entries
          (keeps_none past world plans run.0 entries keeps (Asked p g phase) refl able.0 follows) rest able.1 in
          ((tt, last.0), last.1)
      by_event go_on (Declined p f) follows rest able =
          let last = go_on past world entries
          (keeps_none past world plans run.0 entries keeps (Declined p f) refl able.0 follows) rest able.1 in
          ((tt, last.0), last.1)
      by_event go_on (Answered p answer) follows rest able =
          let last = go_on past world entries
          (keeps_none past world plans run.0 entries keeps (Answered p answer) refl able.0 follows) rest able.1 in
          ((tt, last.0), last.1)
