-- A call of a structure with no step of others in its midst keeps what it knows, up to its answer.
use Rattle.std.proofs.Common.{◌≡◌, ◌≢◌, ℕ, ◌==◌, Bool, true, false, List, [], ◌∷◌, ◌++◌, Option, Some, None, inl, inr}
use Rattle.std.proofs.Common.{refl}
use Rattle.std.proofs.Common.{ap, sym, subst, ◌∙◌, if◌then◌else◌}
use Rattle.epoch_cells.specs.PlainCells.{removal_of}
use Rattle.epoch_cells.specs.declared.cells.Removal.TheVariants.{Destroyed, HeldElsewhere}
use Rattle.epoch_cells.specs.declared.cells.name.Name.{Name}
use Rattle.epoch_cells.specs.declared.fault.Fault.{Fault}
use Rattle.epoch_laws.specs.declared.heap.access.Access.{Access}
use Rattle.epoch_laws.specs.declared.heap.access.Accessed.{Accessed}
use Rattle.epoch_laws.specs.declared.heap.access.Accessed.TheVariants.{Again, Answers as Told, NoSlot}
use Rattle.epoch_laws.specs.declared.heap.access.AccessAnswer.{AccessAnswer}
use Rattle.epoch_laws.specs.declared.heap.access.Ptr.{Ptr}
use Rattle.epoch_laws.specs.Heap.{Cell, Heap, cell_at, without_cell, heap_after_job, Touched, Touches as TouchesHeap}
use Rattle.epoch_laws.specs.declared.step.Call.{Call}
use Rattle.epoch_laws.specs.declared.step.Call.TheVariants.{Flush, DeferDestroy}
use Rattle.epoch_laws.specs.declared.step.Entry.{Entry}
use Rattle.epoch_laws.specs.declared.step.Progress.{Progress}
use Rattle.epoch_laws.specs.declared.step.Progress.TheVariants.{Driven, Accesses, Ends}
use Rattle.epoch_laws.specs.declared.step.Reply.{Reply}
use Rattle.epoch_laws.specs.declared.step.Reply.TheVariants.{Done, Refused}
use Rattle.epoch_laws.specs.declared.step.Step.{Step}
use Rattle.epoch_laws.specs.declared.step.Step.TheVariants.{Begin, Go}
use Rattle.epoch_laws.specs.declared.step.Word.TheVariants.{Free}
use Rattle.epoch_laws.specs.Run.{WorldSeat, State, seat_of, with_places, begun_seat, refusal, access_reply}
use Rattle.epoch_laws.specs.Run.{accessed_seat}
use Rattle.epoch_laws.specs.Run.{BeginsCall, DoesGo, Moves, TakesStep}
use Rattle.epoch_laws.proofs.SeatLemmas.{seat_there, begin_given}
use Rattle.epoch_laws.specs.Reach.{Past, no_past, past_after}
use Rattle.epoch_laws.proofs.HeapSteps.{HeapGoes, heap_goes}
use Rattle.epoch_structure_laws.specs.declared.plan.Plan.{Plan}
use Rattle.epoch_structure_laws.specs.declared.plan.Plan.TheVariants.{NoPlan, Under}
use Rattle.epoch_structure_laws.specs.Plans.{Deed, Flushes, Touches, Defers, Answers, AllPlans, IsOver, KeepsPlans}
use Rattle.epoch_structure_laws.specs.Plans.{PlanEvent}
use Rattle.epoch_structure_laws.specs.Plans.{PlanRuns, Program, Replans}
use Rattle.epoch_structure_laws.specs.Plans.{Asked, Declined, Answered, Makes, Follows, asks, declines, answers, passes}
use Rattle.epoch_structure_laws.specs.Plans.{free_begins, free_goes, begins, goes, made_at, WorldThen, call_by}
use Rattle.epoch_structure_laws.specs.Plans.{after_by}
use Rattle.epoch_structure_laws.specs.Plans.{plan_begun, plan_gone, ptr_to}
use Rattle.epoch_structure_laws.proofs.Custody.{IsAccessing, IsBegun, Structure, Tied}
use Rattle.epoch_structure_laws.proofs.Moved.{accessing, alone, begin_made, begin_refused, ended_with, go_taken}
use Rattle.epoch_structure_laws.proofs.Obligations.{Obeys, after_touch, phase_after}
use Rattle.epoch_structure_laws.specs.Served.{AnswersAccess, AsksReady, AtEachStep, IsExpected, RefusesAccess}
use Rattle.epoch_structure_laws.specs.Served.{RefusesDeed}
use Rattle.epoch_structure_laws.specs.Served.{ServesAt, ServesPlan, ThenAlso}
use Rattle.epoch_structure_laws.proofs.Duties.{Knowledge, Serves, duty_of}
use Rattle.epoch_structure_laws.proofs.Ready.{ExpectedBy, Steady, Works, next_under, begun_at}
use Rattle.epoch_structure_laws.proofs.RunsServed.{Keeps, keeps_none, keeps_some, not_of, shown}
use Rattle.epoch_structure_laws.specs.Alone.{AllOwn, AnswersOut, IsOwn, NeverOut}

-- ROOTS

-- the call of a job changes no root
without_roots : (h : Heap) (n : Name) (cell : Option Cell) → (without_cell h n (removal_of cell)).roots ≡ h.roots
without_roots h n None = refl
without_roots h n (Some cell) = at_test (cell.readers == 0)
  where
    at_test : (b : Bool) → (without_cell h n (if b then Destroyed else HeldElsewhere)).roots ≡ h.roots
    at_test true = refl
    at_test false = refl

job_roots : (h : Heap) (removes : Option Name) → (heap_after_job h removes).roots ≡ h.roots
job_roots h None = refl
job_roots h (Some n) = without_roots h n (cell_at h n)

-- nor does a step of a participant that is in no call on cells
roots_stay : (old new : State) (step : Step) (reply : Reply) (p : ℕ) (c : Call) → step ≡ Go p
    → (seat_of old p).progress ≡ Driven c → HeapGoes old new step reply → new.heap.roots ≡ old.heap.roots
roots_stay old new step reply p c on driven (inl e) = ap (λ (h : Heap). h.roots) e
roots_stay old new step reply p c on driven (inr (inl calls)) =
    ap (λ (h : Heap). h.roots) calls.heap ∙ job_roots old.heap calls.removes
roots_stay old new step reply p c on driven (inr (inr (inl calls))) =
    ap (λ (h : Heap). h.roots) calls.heap ∙ job_roots old.heap calls.removes
roots_stay old new step reply p c on driven (inr (inr (inr access))) =
    absurd (cc (
      driven,
      ap (λ (k : ℕ). (seat_of old k).progress) (let who : p ≡ access.who = cc (on, access.goes) in who),
      access.progress,
    ))

-- Lone is what a call knows in a phase if no step of others came in its midst. Out says which answers it never gives.
module _ (S : Program) (T : Structure S) (Starts : S.Phase → Type 0) (obeys : Obeys S T Starts) (K : Knowledge S)
    (serves : Serves S T K Starts) (Lone : Heap → S.Phase → Type 0) (Out : S.Answer → Type 0) where
  abbrev Deeds : Type 0
  Deeds = Deed S.Phase S.Answer

  abbrev Event : Type 0
  Event = PlanEvent S.Phase S.Answer

  abbrev Plans : Type 0
  Plans = AllPlans S.Phase

  -- what a phase owes: whichever phase follows knows what it has to
  abbrev pub LoneDuty : ℕ → S.Phase → Deeds → Type 1
  -- no root changes in the steps of a flush
  LoneDuty g phase (Flushes done failed) =
      (past : Past) (h h' : Heap) → h'.roots ≡ h.roots → Lone h phase → Lone h' phase × Lone h' done × Lone h' failed
  -- a step on cells and pointers answers as expected, and so is a call refused
  LoneDuty g phase (Touches a told failed) =
      ((past : Past) (h : Heap) (ghost : T.Ghost) → T.Shape past h ghost → (j : ℕ) (found : Ptr) (did : Touched)
      → TouchesHeap a j found h did → ((answer : AccessAnswer) → did.told ≡ Told answer → AnswersAccess a answer)
      → Lone h phase → Lone did.heap (phase_after phase told failed did.told))
      × ((h : Heap) (f : Fault) → RefusesAccess a f → Lone h phase → Lone h failed)
  -- anything may change in the steps of a deferral
  LoneDuty g phase (Defers n deferred failed) =
      (past : Past) (h h' : Heap) → Lone h phase → Lone h' phase × Lone h' deferred × Lone h' failed
  LoneDuty g phase (Answers a) = (past : Past) (h : Heap) → Lone h phase → ¬ (Out a)

  module _ (duties : (g : ℕ) (phase : S.Phase) → LoneDuty g phase (S.deed g phase)) where
    duty_at : (g : ℕ) (phase : S.Phase) (d : Deeds) → S.deed g phase ≡ d → LoneDuty g phase d
    duty_at g phase d is = subst (LoneDuty g phase) is (duties g phase)

    refused_lone : (h : Heap) (g : ℕ) (phase : S.Phase) (f : Fault) → RefusesDeed (S.deed g phase) f → Lone h phase
        → Lone h (after_by phase (S.deed g phase) (Refused f))
    refused_lone h g phase f refused lone = by_deed (S.deed g phase) (duties g phase) refused
      where
        by_deed : (d : Deeds) → LoneDuty g phase d → RefusesDeed d f
            → Lone h (after_by phase d (Refused f))
        by_deed (Flushes done failed) duty r = (duty no_past h h refl lone).2
        by_deed (Touches a told failed) duty r = duty.1 h f r lone
        by_deed (Defers n next failed) duty r = (duty no_past h h lone).2
        by_deed (Answers a) duty r = absurd r

    -- what holds between any two steps
    abbrev pub KeepsAt : Past → State → Plans → List Entry → Type 1
    KeepsAt past s plans log = Keeps S T Starts obeys K serves past s plans log

    abbrev SteadyOf : Past → Heap → ℕ → Plan S.Phase → WorldSeat → Type 0
    SteadyOf past h p plan seat = Steady S K past h p plan seat

    -- what a lone call knows, by the phase whose call comes next
    abbrev pub LoneOf : Heap → Plan S.Phase → WorldSeat → Type 0
    LoneOf h NoPlan seat = Unit {0}
    LoneOf h (Under g phase false) seat = Lone h phase
    LoneOf h (Under g phase true) seat = Lone h (next_under S K g phase seat.progress)

    -- ONE STEP OF THE CALL

    module _ (past past' : Past) (old new : State) (plans plans' : Plans) (log log' : List Entry)
        (keeps : KeepsAt past old plans log) (next : KeepsAt past' new plans' log') (x : Entry)
        (did : TakesStep old x.step x.reply new) where
      abbrev aside : State
      aside = with_places new old.places old.seen old.ahead old.room

      module _ (p g : ℕ) (phase : S.Phase) where
        to_plan : (plan : Plan S.Phase) → plans' p ≡ plan → LoneOf new.heap plan (seat_of new p)
            → LoneOf new.heap (plans' p) (seat_of new p)
        to_plan plan e lone = subst (λ (l : Plan S.Phase). LoneOf new.heap l (seat_of new p)) (sym e) lone

        module _ (on : x.step ≡ Go p) (at : plans p ≡ Under g phase true)
            (sets : Replans plans p (plan_gone g phase (S.deed g phase) x.reply) plans')
            (lone : Lone old.heap (next_under S K g phase (seat_of old p).progress)) where
          -- a driven call: it goes on, or ends in one of two phases
          driven_lone : (c : Call) (done failed : S.Phase)
              → ((a : AccessAnswer) → after_by phase (S.deed g phase) (Done a) ≡ done)
              → ((f : Fault) → after_by phase (S.deed g phase) (Refused f) ≡ failed)
              → (plans' p ≡ Under g phase true → (seat_of new p).progress ≡ Driven c)
              → Lone new.heap phase × Lone new.heap done × Lone new.heap failed
              → LoneOf new.heap (plans' p) (seat_of new p)
          driven_lone c done failed to_done to_failed driven lones = by_reply x.reply refl
            where
              by_reply : (r : Reply) → x.reply ≡ r → LoneOf new.heap (plans' p) (seat_of new p)
              by_reply (Done a) told = to_plan (Under g done false)
                  (sets.0 ∙ ap (plan_gone g phase (S.deed g phase)) told
                  ∙ ap (λ (f : S.Phase). Under g f false) (to_done a))
                  lones.1
              by_reply (Refused f) told = to_plan (Under g failed false)
                  (sets.0 ∙ ap (plan_gone g phase (S.deed g phase)) told
                  ∙ ap (λ (f : S.Phase). Under g f false) (to_failed f)) lones.2
              by_reply _ told = on_with (sets.0 ∙ ap (plan_gone g phase (S.deed g phase)) told)
                where
                  on_with : plans' p ≡ Under g phase true → LoneOf new.heap (plans' p) (seat_of new p)
                  on_with e = to_plan (Under g phase true) e
                      (subst (Lone new.heap) (sym (ap (next_under S K g phase) (driven e))) lones.0)

          lone_at : (progress : Progress) → (seat_of old p).progress ≡ progress
              → Lone old.heap (next_under S K g phase progress)
          lone_at progress e = subst (λ (s : Progress). Lone old.heap (next_under S K g phase s)) e lone

          tied : IsBegun (call_by g (S.deed g phase)) (seat_of old p)
          tied = subst (λ (l : Plan S.Phase). Tied S l (seat_of old p)) at (keeps.sound.ties p)

          go_flush : (done failed : S.Phase) → S.deed g phase ≡ Flushes done failed
              → LoneOf new.heap (plans' p) (seat_of new p)
          go_flush done failed is =
              let works =
              (subst (λ (l : Plan S.Phase). SteadyOf past old.heap p l (seat_of old p)) at (keeps.steady p)).1 in
              let now = (subst (λ (d : Deeds). Works S K g phase d (seat_of old p)) is works).0
              in
              driven_lone (Flush (Some g)) done failed
              (λ a. ap (λ (d : Deeds). after_by phase d (Done a)) is)
              (λ f. ap (λ (d : Deeds). after_by phase d (Refused f)) is)
              (λ under. (subst (λ (d : Deeds). Works S K g phase d (seat_of new p)) is
              (subst (λ (l : Plan S.Phase). SteadyOf past' new.heap p l (seat_of new p)) under (next.steady p)).1).0)
              (duty_at g phase (Flushes done failed) is past old.heap new.heap
              (roots_stay old aside x.step x.reply p (Flush (Some g)) on now
              (heap_goes old aside x.step x.reply x.step refl did.0))
              (lone_at (Driven (Flush (Some g))) now))

          go_defer : (n : Name) (deferred failed : S.Phase) → S.deed g phase ≡ Defers n deferred failed
              → LoneOf new.heap (plans' p) (seat_of new p)
          go_defer n deferred failed is =
              let now = (subst (λ (d : Deeds). IsBegun (call_by g d) (seat_of old p)) is tied).1 in
              driven_lone (DeferDestroy (Some g) (ptr_to n)) deferred failed
              (λ a. ap (λ (d : Deeds). after_by phase d (Done a)) is)
              (λ f. ap (λ (d : Deeds). after_by phase d (Refused f)) is)
              (λ under. (subst (λ (d : Deeds). IsBegun (call_by g d) (seat_of new p)) is
              (subst (λ (l : Plan S.Phase). Tied S l (seat_of new p)) under (next.sound.ties p))).1)
              (duty_at g phase (Defers n deferred failed) is past old.heap new.heap
              (lone_at (Driven (DeferDestroy (Some g) (ptr_to n))) now))

          module _ (a : Access) (tells : AccessAnswer → S.Phase) (failed : S.Phase)
              (is : S.deed g phase ≡ Touches a tells failed) where
            taken : (seat_of old p).word ≢ Free
            taken = (subst (λ (d : Deeds). IsBegun (call_by g d) (seat_of old p)) is tied).0

            -- once an answer is there it is an expected one
            answered_so : (answer : AccessAnswer) → plans' p ≡ Under g phase true
                → (seat_of new p).progress ≡ Ends (Done answer) → AnswersAccess a answer
            answered_so answer under ends = subst (ExpectedBy a) ends
                (subst (λ (d : Deeds). Works S K g phase d (seat_of new p)) is
                (subst (λ (l : Plan S.Phase). SteadyOf past' new.heap p l (seat_of new p)) under (next.steady p)).1).1

            -- the phase after one step, by what was told
            by_told : (j : ℕ) (made : Touched) → x.reply ≡ access_reply made.told
                → (seat_of new p).progress ≡ (accessed_seat a j made.told (seat_of old p)).progress
                → Lone new.heap (after_touch phase (S.deed g phase) made.told)
                → LoneOf new.heap (plans' p) (seat_of new p)
            by_told j made reply_is progress lone_so = by_case made.told refl
              where
                by_case : (t : Accessed) → made.told ≡ t → LoneOf new.heap (plans' p) (seat_of new p)
                by_case (Again f) same = to_plan (Under g phase true)
                    (sets.0 ∙ ap (plan_gone g phase (S.deed g phase)) (reply_is ∙ ap access_reply same))
                    (subst (λ (s : Progress). Lone new.heap (next_under S K g phase s))
                    (sym (progress ∙ ap (λ (t : Accessed). (accessed_seat a j t (seat_of old p)).progress) same))
                    (subst (λ (d : Deeds). Lone new.heap (after_touch phase d (Again f))) is
                    (subst (λ (t : Accessed). Lone new.heap (after_touch phase (S.deed g phase) t)) same lone_so)))
                by_case (Told answer) same = to_plan (Under g phase true)
                    (sets.0 ∙ ap (plan_gone g phase (S.deed g phase)) (reply_is ∙ ap access_reply same))
                    (subst (λ (s : Progress). Lone new.heap (next_under S K g phase s))
                    (sym (progress ∙ ap (λ (t : Accessed). (accessed_seat a j t (seat_of old p)).progress) same))
                    (subst (λ (f : S.Phase). Lone new.heap f)
                    (sym (ap (λ (d : Deeds). after_by phase d (Done answer)) is))
                    (subst (λ (d : Deeds). Lone new.heap (after_touch phase d (Told answer))) is
                    (subst (λ (t : Accessed). Lone new.heap (after_touch phase (S.deed g phase) t)) same lone_so))))
                by_case NoSlot same = to_plan (Under g failed false)
                    (sets.0 ∙ ap (plan_gone g phase (S.deed g phase)) (reply_is ∙ ap access_reply same)
                    ∙ ap (λ (d : Deeds). Under g (after_by phase d (access_reply NoSlot)) false) is)
                    (subst (λ (d : Deeds). Lone new.heap (after_touch phase d NoSlot)) is
                    (subst (λ (t : Accessed). Lone new.heap (after_touch phase (S.deed g phase) t)) same lone_so))

            by_progress : (progress : Progress) → (seat_of old p).progress ≡ progress → IsAccessing a progress
                → DoesGo old p (seat_of old p) progress x.reply aside → LoneOf new.heap (plans' p) (seat_of new p)
            by_progress (Accesses b j found) now same done =
                let step = accessing old aside x.reply p a j found
                (subst (λ (c : Access). DoesGo old p (seat_of old p) (Accesses c j found) x.reply aside) same done) in
                let a_so =
                alone old aside _ p (accessed_seat a j step.did.told (seat_of old p)) (seat_there old p taken)
                step.state refl refl in
                let progress : (seat_of new p).progress ≡ (accessed_seat a j step.did.told (seat_of old p)).progress =
                ap (λ (st : WorldSeat). st.progress) a_so.own in
                let heap : new.heap ≡ step.did.heap = ap (λ (s : State). s.heap) step.state in
                by_told j step.did step.told progress
                (subst (λ (h : Heap). Lone h (after_touch phase (S.deed g phase) step.did.told)) (sym heap)
                (subst (λ (d : Deeds). Lone step.did.heap (after_touch phase d step.did.told)) (sym is)
                ((duty_at g phase (Touches a tells failed) is).0 past old.heap keeps.sound.ghost keeps.sound.shape j
                found step.did step.touches
                (λ answer told. answered_so answer
                (sets.0 ∙ ap (plan_gone g phase (S.deed g phase)) (step.told ∙ ap access_reply told))
                (progress ∙ ap (λ (t : Accessed). (accessed_seat a j t (seat_of old p)).progress) told))
                (lone_at (Accesses b j found) now))))
            by_progress (Ends (Done answer)) now ok done =
                let over = ended_with old aside x.reply (Done answer) p done in
                let heap : new.heap ≡ old.heap = ap (λ (s : State). s.heap) over.1 in
                to_plan (Under g (after_by phase (S.deed g phase) (Done answer)) false)
                (sets.0 ∙ ap (plan_gone g phase (S.deed g phase)) over.0)
                (subst (λ (h : Heap). Lone h (after_by phase (S.deed g phase) (Done answer))) (sym heap)
                (lone_at (Ends (Done answer)) now))
            by_progress _ now ok done = absurd ok

            go_touch : LoneOf new.heap (plans' p) (seat_of new p)
            go_touch = by_progress (seat_of old p).progress refl
                (subst (λ (d : Deeds). IsBegun (call_by g d) (seat_of old p)) is tied).1
                (go_taken old aside x.reply p taken (subst (λ s. Moves old s x.reply aside) on did.0))

          go_lone : LoneOf new.heap (plans' p) (seat_of new p)
          go_lone = by_deed (S.deed g phase) refl
            where
              by_deed : (d : Deeds) → S.deed g phase ≡ d → LoneOf new.heap (plans' p) (seat_of new p)
              by_deed (Flushes done failed) is = go_flush done failed is
              by_deed (Touches a tells failed) is = go_touch a tells failed is
              by_deed (Defers n deferred failed) is = go_defer n deferred failed is
              by_deed (Answers a) is =
                  absurd (subst (λ (d : Deeds). IsBegun (call_by g d) (seat_of old p)) is tied)

        -- the call of a phase begins, or is refused as expected
        begin_lone : ¬ (IsOver (S.deed g phase)) → x.step ≡ Begin p (call_by g (S.deed g phase))
            → plans p ≡ Under g phase false → Replans plans p (plan_begun g phase (S.deed g phase) x.reply) plans'
            → IsExpected (S.deed g phase) x.reply → Lone old.heap phase → LoneOf new.heap (plans' p) (seat_of new p)
        begin_lone call on at sets expected lone =
            by_refusal (refusal (call_by g (S.deed g phase)) (seat_of old p) old.tickets old.heap) refl
            (subst (λ s. Moves old s x.reply aside) on did.0)
          where
            by_refusal : (f : Option Fault)
                → refusal (call_by g (S.deed g phase)) (seat_of old p) old.tickets old.heap ≡ f
                → BeginsCall old p (call_by g (S.deed g phase)) f x.reply aside
                → LoneOf new.heap (plans' p) (seat_of new p)
            by_refusal (Some f) why d =
                let step = begin_refused old aside x.reply p (call_by g (S.deed g phase)) f d in
                to_plan (Under g (after_by phase (S.deed g phase) (Refused f)) false)
                (sets.0 ∙ ap (plan_begun g phase (S.deed g phase)) step.0)
                (refused_lone new.heap g phase f (subst (IsExpected (S.deed g phase)) step.0 expected)
                (subst (λ (s : State). Lone s.heap phase) (sym step.1) lone))
            by_refusal None why d =
                let step = begin_made old aside x.reply p (call_by g (S.deed g phase)) d in
                let taken = (begin_given (call_by g (S.deed g phase)) (seat_of old p) old.tickets old.heap why).taken in
                let a_so = alone old aside _ p (begun_seat (call_by g (S.deed g phase)) (seat_of old p))
                (seat_there old p taken) step.1 refl refl in
                let was =
                subst (λ (l : Plan S.Phase). SteadyOf past old.heap p l (seat_of old p)) at (keeps.steady p) in
                let begun = begun_at S K g phase (seat_of old p) (S.deed g phase) refl call (obeys.fits g phase) was.1
                (λ n deferred failed is. (duty_of S T K Starts serves g phase
                (Defers n deferred failed) is).room) in
                to_plan (Under g phase true) (sets.0 ∙ ap (plan_begun g phase (S.deed g phase)) step.0)
                (subst (Lone new.heap)
                (sym (ap (λ (st : WorldSeat). next_under S K g phase st.progress) a_so.own ∙ begun.next))
                (subst (λ (s : State). Lone s.heap phase) (sym step.1) lone))

      -- a step of p keeps what its call knows
      own_lone : (p : ℕ) → IsOwn {P = S.Phase} {A = S.Answer} p (Makes x) → Follows S Starts old plans plans' (Makes x)
          → ServesAt S plans x.step x.reply → LoneOf old.heap (plans p) (seat_of old p)
          → LoneOf new.heap (plans' p) (seat_of new p)
      own_lone p own follows served lone = by_kind follows
        where
          for_actor : (q : ℕ) → q ≡ p
              → (LoneOf old.heap (plans q) (seat_of old q) → LoneOf new.heap (plans' q) (seat_of new q))
              → LoneOf new.heap (plans' p) (seat_of new p)
          for_actor q who keeps_lone = subst
              (λ (k : ℕ). LoneOf old.heap (plans k) (seat_of old k) → LoneOf new.heap (plans' k) (seat_of new k)) who
              keeps_lone lone

          made_is : (y : Entry) → ◌≡◌ {A = Event} (Makes x) (Makes y) → x ≡ y
          made_is y is = cc (is)

          by_go : (q : ℕ) → x.step ≡ Go q → q ≡ p
          by_go q on = elim own [ inl e ↦ cc (on, e) | inr (c, e) ↦ absurd (cc (on, e)) ]

          by_begin : (q : ℕ) (d : Call) → x.step ≡ Begin q d → q ≡ p
          by_begin q d on = elim own [ inl e ↦ absurd (cc (on, e)) | inr (c, e) ↦ cc (on, e) ]

          freely : (q : ℕ) → q ≡ p → plans q ≡ NoPlan → KeepsPlans plans plans'
              → LoneOf new.heap (plans' p) (seat_of new p)
          freely q who free same = subst (λ (l : Plan S.Phase). LoneOf new.heap l (seat_of new p))
              (sym (same p ∙ subst (λ (k : ℕ). plans k ≡ NoPlan) who free)) tt

          served_at : (q g : ℕ) (phase : S.Phase) (b : Bool) → plans q ≡ Under g phase b
              → ServesPlan S (plans q) x.reply → IsExpected (S.deed g phase) x.reply
          served_at q g phase b e was = subst (λ (l : Plan S.Phase). ServesPlan S l x.reply) e was

          by_kind : Follows S Starts old plans plans' (Makes x) → LoneOf new.heap (plans' p) (seat_of new p)
          by_kind (declines q f is same) = absurd (cc (is))
          by_kind (asks q g phase is free idle starts sets) = absurd (cc (is))
          by_kind (answers q g phase answer is under over sets) = absurd (cc (is))
          by_kind (passes y is other same) =
              absurd (not_of y.step (ap (λ (z : Entry). z.step) (made_is y is)) other p own)
          by_kind (free_begins y q c is on plain free same) =
              freely q (by_begin q c (ap (λ (z : Entry). z.step) (made_is y is) ∙ on)) free same
          by_kind (free_goes y q is on free same) =
              freely q (by_go q (ap (λ (z : Entry). z.step) (made_is y is) ∙ on)) free same
          by_kind (begins y q g phase is on under call sets) =
              let at = ap (λ (z : Entry). z.step) (made_is y is) ∙ on in
              for_actor q (by_begin q _ at) (λ was. begin_lone q g phase call at under
              (subst (λ (z : Entry). Replans plans q (plan_begun g phase (S.deed g phase) z.reply) plans')
              (sym (made_is y is)) sets)
              (served_at q g phase false under (subst (λ (s : Step). ServesAt S plans s x.reply) at served))
              (subst (λ (l : Plan S.Phase). LoneOf old.heap l (seat_of old q)) under was))
          by_kind (goes y q g phase is on under sets) =
              let at : x.step ≡ Go q = ap (λ (z : Entry). z.step) (made_is y is) ∙ on in
              for_actor q (by_go q at) (λ was. go_lone q g phase at under
              (subst (λ (z : Entry). Replans plans q (plan_gone g phase (S.deed g phase) z.reply) plans')
              (sym (made_is y is)) sets)
              (subst (λ (l : Plan S.Phase). LoneOf old.heap l (seat_of old q)) under was))

    -- WHOLE RUNS

    -- a call that answers has not lost its tries, and leaves no plan
    answer_lone : (world : State) (plans plans' : Plans) (p q : ℕ) (answer : S.Answer) → q ≡ p
        → Follows S Starts world plans plans' (Answered q answer) → LoneOf world.heap (plans p) (seat_of world p)
        → (¬ (Out answer)) × LoneOf world.heap (plans' p) (seat_of world p)
    answer_lone world plans plans' p q answer who follows lone = by_kind follows
      where
        by_kind : Follows S Starts world plans plans' (Answered q answer)
            → (¬ (Out answer)) × LoneOf world.heap (plans' p) (seat_of world p)
        by_kind (answers r g phase other is under over sets) =
            let actor : r ≡ p = cc (is, who) in
            let said : other ≡ answer = cc (is) in
            let at : plans p ≡ Under g phase false = subst (λ (k : ℕ). plans k ≡ Under g phase false) actor under in (
              subst (λ (b : S.Answer). ¬ (Out b)) said
                  (duty_at g phase (Answers other) over no_past world.heap
                  (subst (λ (l : Plan S.Phase). LoneOf world.heap l (seat_of world p)) at lone)),
              subst (λ (l : Plan S.Phase). LoneOf world.heap l (seat_of world p))
                  (sym (subst (λ (k : ℕ). plans' k ≡ NoPlan) actor sets.0)) tt,
            )
        by_kind (asks r g phase is free idle starts sets) = absurd (cc (is))
        by_kind (declines r f is same) = absurd (cc (is))
        by_kind (passes x is other same) = absurd (cc (is))
        by_kind (free_begins x r c is on plain free same) = absurd (cc (is))
        by_kind (free_goes x r is on free same) = absurd (cc (is))
        by_kind (begins x r g phase is on under call sets) = absurd (cc (is))
        by_kind (goes x r g phase is on under sets) = absurd (cc (is))

    -- the steps of a lone call
    pub runs_lone : (p : ℕ) (past : Past) (world : State) (plans : Plans) (log : List (Event)) (world' : State)
        (plans' : Plans) (entries : List Entry) → KeepsAt past world plans entries
        → (run : PlanRuns S Starts world plans log world' plans')
        → AtEachStep S Starts (AsksReady S) world plans log world' plans' run → AllOwn p log
        → LoneOf world.heap (plans p) (seat_of world p) → NeverOut Out log
    runs_lone p past world plans [] world' plans' entries keeps run ready own lone = tt
    runs_lone p past world plans (event ∷ log) world' plans' entries keeps run ready own lone =
        by_event (λ past' w entries' next rest able known.
        runs_lone p past' w run.0 log world' plans' entries' next rest able own.1 known) event run.1 run.2 ready own.0
      where
        by_event : ((past' : Past) (w : State) (entries' : List Entry) → KeepsAt past' w run.0 entries'
            → (rest : PlanRuns S Starts w run.0 log world' plans')
            → AtEachStep S Starts (AsksReady S) w run.0 log world' plans' rest
            → LoneOf w.heap (run.0 p) (seat_of w p) → NeverOut Out log)
            → (event : Event) → Follows S Starts world plans run.0 event
            → (rest : WorldThen (made_at event) world (λ w. PlanRuns S Starts w run.0 log world' plans'))
            → AsksReady S world plans event
            × ThenAlso S (made_at event) world (λ w. PlanRuns S Starts w run.0 log world' plans')
            (λ w more. AtEachStep S Starts (AsksReady S) w run.0 log world' plans' more) rest
            → IsOwn p event → (¬ (AnswersOut Out event)) × NeverOut Out log
        by_event go_on (Makes x) follows rest able mine =
            let next = keeps_some S T Starts obeys K serves past world plans run.0 entries
            keeps rest.0 x rest.1 follows in
            let served = (shown S T Starts obeys K serves past world plans run.0 entries
            keeps rest.0 x rest.1 follows).1 in (
              λ out. out,
              go_on (past_after past world x rest.0) rest.0 (entries ++ x ∷ []) next rest.2 able.1
                  (own_lone past (past_after past world x rest.0) world rest.0 plans run.0 entries
                  (entries ++ x ∷ []) keeps
                  next x rest.1 p mine follows served lone),
            )
        by_event go_on (Answered q answer) follows rest able mine =
            let next = keeps_none S T Starts obeys K serves past world plans run.0 entries
            keeps (Answered q answer) refl able.0 follows in
            let answered = answer_lone world plans run.0 p q answer mine follows lone in
            (answered.0, go_on past world entries next rest able.1 answered.1)
        by_event go_on (Asked q g phase) follows rest able mine = absurd mine
        by_event go_on (Declined q f) follows rest able mine = absurd mine

    -- a call is asked for
    pub asked_lone : (world : State) (plans plans' : Plans) (p g : ℕ) (phase : S.Phase) → Lone world.heap phase
        → Follows S Starts world plans plans' (Asked p g phase) → LoneOf world.heap (plans' p) (seat_of world p)
    asked_lone world plans plans' p g phase lone (asks r h other is free idle starts sets) =
        subst (λ (l : Plan S.Phase). LoneOf world.heap l (seat_of world p))
        (sym (subst (λ (k : ℕ). plans' k ≡ Under h other false) (let e : r ≡ p = cc (is) in e) sets.0))
        (subst (Lone world.heap) (let e : phase ≡ other = cc (is) in e) lone)
    asked_lone world plans plans' p g phase lone (declines r f is same) = absurd (cc (is))
    asked_lone world plans plans' p g phase lone (answers r h other a is under over sets) = absurd (cc (is))
    asked_lone world plans plans' p g phase lone (passes x is other same) = absurd (cc (is))
    asked_lone world plans plans' p g phase lone (free_begins x r c is on plain free same) = absurd (cc (is))
    asked_lone world plans plans' p g phase lone (free_goes x r is on free same) = absurd (cc (is))
    asked_lone world plans plans' p g phase lone (begins x r h other is on under call sets) = absurd (cc (is))
    asked_lone world plans plans' p g phase lone (goes x r h other is on under sets) = absurd (cc (is))
