-- Every step of a world keeps each call of a structure ready for its next phase, and each phase's call is replied to as
-- expected.
use Rattle.std.proofs.Common.{◌≡◌, ◌≢◌, ℕ, ◌<◌, Bool, true, false, List, [], length, Option, Some, None, inl}
use Rattle.std.proofs.Common.{inr, refl, ap, sym, subst, ◌∙◌, arith}
use Rattle.epoch_cells.specs.declared.cells.name.Name.{Name}
use Rattle.epoch_cells.specs.declared.fault.Fault.{Fault}
use Rattle.epoch_cells.specs.declared.fault.Fault.TheVariants.{BagsFull, CellsFull}
use Rattle.epoch_laws.specs.declared.heap.access.Access.{Access}
use Rattle.epoch_laws.specs.declared.heap.access.Access.TheVariants.{Place, Read, Leave, Point, Write, Take}
use Rattle.epoch_laws.specs.declared.heap.access.Accessed.{Accessed}
use Rattle.epoch_laws.specs.declared.heap.access.Accessed.TheVariants.{Again, Answers as Told, NoSlot}
use Rattle.epoch_laws.specs.declared.heap.access.AccessAnswer.{AccessAnswer}
use Rattle.epoch_laws.specs.declared.heap.access.AccessAnswer.TheVariants.{Unit as UnitAnswer, Pointer}
use Rattle.epoch_laws.specs.declared.heap.access.Change.TheVariants.{Load}
use Rattle.epoch_laws.specs.declared.heap.access.Ptr.{Ptr}
use Rattle.epoch_laws.specs.declared.heap.access.Spot.{Spot}
use Rattle.epoch_laws.specs.declared.heap.access.Spot.TheVariants.{Root, Field}
use Rattle.epoch_laws.specs.Heap.{Heap, guard_of, Touched, Touches as TouchesHeap}
use Rattle.epoch_machine.specs.Machine.{Machine}
use Rattle.epoch_machine.specs.declared.machine.Action.TheVariants.{Flush as FlushAction}
use Rattle.epoch_machine.specs.declared.machine.Sizes.{Sizes}
use Rattle.epoch_machine.specs.declared.machine.Stage.{Stage}
use Rattle.epoch_machine.specs.Machine.{ask_at}
use Rattle.epoch_laws.specs.declared.step.Call.{Call}
use Rattle.epoch_laws.specs.declared.step.Call.TheVariants.{Flush, DeferDestroy}
use Rattle.epoch_laws.specs.declared.step.Deferral.{Deferral}
use Rattle.epoch_laws.specs.declared.step.Entry.{Entry}
use Rattle.epoch_laws.specs.declared.step.Progress.{Progress}
use Rattle.epoch_laws.specs.declared.step.Progress.TheVariants.{Idle, Driven, Accesses, Ends}
use Rattle.epoch_laws.specs.declared.step.Reply.{Reply}
use Rattle.epoch_laws.specs.declared.step.Reply.TheVariants.{Done, Refused, Repinned}
use Rattle.epoch_laws.specs.declared.step.Step.TheVariants.{Begin as WorldBegin, Go as WorldGo}
use Rattle.epoch_laws.specs.declared.step.Word.TheVariants.{Free}
use Rattle.epoch_laws.specs.Run.{WorldSeat, State, seat_of, position_word, with_places, with_machine, begun_seat}
use Rattle.epoch_laws.specs.Run.{full_or_done, access_reply, accessed_seat, readings_after, refusal}
use Rattle.epoch_laws.specs.Run.{BeginsCall, DrivesCall, DoesGo, Moves, TakesStep, reading_refusal}
use Rattle.epoch_laws.proofs.Linked.{step_linked}
use Rattle.epoch_laws.proofs.QuietReplies.{quiet_access}
use Rattle.epoch_laws.proofs.SeatChanges.{SeatChange, Registers, Begins as BeginsCallAt, MachineGoes, Leaves}
use Rattle.epoch_laws.proofs.SeatChanges.{MachineEnds}
use Rattle.epoch_laws.proofs.SeatChanges.{JobCalled, AccessGoes, Replies, seats_go, each_seat}
use Rattle.epoch_laws.proofs.SeatLemmas.{seat_there, begin_given}
use Rattle.epoch_laws.proofs.SeatLinks.{IsInStep}
use Rattle.epoch_laws.proofs.SizesStay.{moves_same}
use Rattle.epoch_laws.specs.Reach.{IsLoadedFrom, LetsGo, Meets, Past, past_after}
use Rattle.epoch_laws.proofs.PointersGiven.{WasGiven}
use Rattle.epoch_laws.proofs.WorldAlong.{Holds}
use Rattle.epoch_structure_laws.specs.declared.plan.Plan.{Plan}
use Rattle.epoch_structure_laws.specs.declared.plan.Plan.TheVariants.{NoPlan, Under}
use Rattle.epoch_structure_laws.specs.Plans.{Deed, Flushes, Touches, Defers, Answers, Program, AllPlans, IsFit, IsOver}
use Rattle.epoch_structure_laws.specs.Plans.{Replans}
use Rattle.epoch_structure_laws.specs.Plans.{KeepsPlans, call_by, after_by, plan_begun, plan_gone, ptr_to}
use Rattle.epoch_structure_laws.proofs.Custody.{same_number, IsAccessing, IsBegun, Tied, now, now_of, now_under}
use Rattle.epoch_structure_laws.proofs.Custody.{Structure}
use Rattle.epoch_structure_laws.proofs.Custody.{StandsNow, Sound}
use Rattle.epoch_structure_laws.proofs.Moved.{is_end, go_taken, accessing, ended_with, begin_refused, begin_made}
use Rattle.epoch_structure_laws.proofs.Moved.{Alone, alone, unmoved}
use Rattle.epoch_structure_laws.proofs.Obligations.{Obeys}
use Rattle.epoch_structure_laws.specs.Served.{AnswersAccess, RefusesAccess, RefusesDeed, IsExpected, SeatHasRoom}
use Rattle.epoch_structure_laws.proofs.Begun.{begin_expected}
use Rattle.epoch_structure_laws.proofs.Clear.{IsOf, lets_own, reads_none}
use Rattle.epoch_structure_laws.proofs.Driven.{GoesOn, IsOverAt, Drove, drove, FlushesAt, Flushing, flush_still}
use Rattle.epoch_structure_laws.proofs.Driven.{flush_heard}
use Rattle.epoch_structure_laws.proofs.Driven.{Keeping, keeps_still, keep_heard}
use Rattle.epoch_structure_laws.proofs.Duties.{Knowledge, Fewer, Allows, LoadedBy, Serves, duty_of}
use Rattle.epoch_structure_laws.proofs.Ready.{ExpectedBy, next_under, RoomAt, Sees, Works, Steady, AllSteady}
use Rattle.epoch_structure_laws.proofs.Ready.{steady_later}
use Rattle.epoch_structure_laws.proofs.Ready.{ready_same, going_on, expected_silent, begun_at}
use Rattle.epoch_structure_laws.proofs.Told.{ToldAs, touch_told, told_given, load_found, again_reads}

-- a placing that is refused reads nothing
unplaced_reads : (a : Access) (readings : List Name) → RefusesAccess a CellsFull
    → readings_after a NoSlot readings ≡ readings
unplaced_reads (Place v) readings is = refl
unplaced_reads (Read g ptr) readings is = absurd is
unplaced_reads (Leave ptr) readings is = absurd is
unplaced_reads (Write g ptr v) readings is = absurd is
unplaced_reads (Take g ptr) readings is = absurd is
unplaced_reads (Point g spot change) readings is = absurd is

module _ (S : Program) (T : Structure S) (Starts : S.Phase → Type 0) (obeys : Obeys S T Starts) (K : Knowledge S)
    (serves : Serves S T K Starts) (past : Past) (old new : State) (plans plans' : AllPlans S.Phase) (x : Entry)
    (sound : Sound S T past old plans) (holds : Holds past old) (one_field : old.heap.fields ≡ 1)
    (did : TakesStep old x.step x.reply new) (later : (n : Name) → WasGiven old.heap n → WasGiven new.heap n)
    (steady : AllSteady S K past old plans) where
  -- the state after it, but for the places
  abbrev aside : State
  aside = with_places new old.places old.seen old.ahead old.room

  abbrev next_past : Past
  next_past = past_after past old x new

  abbrev Others : ℕ → Type 0
  Others p = (q : ℕ) → q ≢ p → (seat_of new q ≡ seat_of old q) × (plans' q ≡ plans q)

  abbrev SteadyThen : ℕ → Plan S.Phase → Type 0
  SteadyThen p plan = Steady S K next_past new.heap p plan (seat_of new p)

  steady_as : (p : ℕ) (plan : Plan S.Phase) → plans p ≡ plan → Steady S K past old.heap p plan (seat_of old p)
  steady_as p plan e = subst (λ (l : Plan S.Phase). Steady S K past old.heap p l (seat_of old p)) e (steady p)

  tied_as : (p : ℕ) (plan : Plan S.Phase) → plans p ≡ plan → Tied S plan (seat_of old p)
  tied_as p plan e = subst (λ (l : Plan S.Phase). Tied S l (seat_of old p)) e (sound.ties p)

  to_plan : (p : ℕ) (plan : Plan S.Phase) → plans' p ≡ plan → SteadyThen p plan → SteadyThen p (plans' p)
  to_plan p plan e own = subst (SteadyThen p) (sym e) own

  -- whoever the step is not of keeps what it has loaded
  keeps_loaded : (q g : ℕ) → ¬ (IsOf x.step q) → (n : Name) → past.loaded q g n → next_past.loaded q g n
  keeps_loaded q g not_of n l = (λ lets. not_of (lets_own old aside x sound.linked did.0 q g lets), inl l)

  -- and stays ready
  stays : (q : ℕ) → ¬ (IsOf x.step q) → seat_of new q ≡ seat_of old q → plans' q ≡ plans q → SteadyThen q (plans' q)
  stays q not_of seat plan = subst (SteadyThen q) (sym plan)
      (subst (Steady S K next_past new.heap q (plans q)) (sym seat)
      (steady_later S K past next_past old.heap new.heap q later (plans q) (seat_of old q)
      (λ g phase b e n l. keeps_loaded q g not_of n l) (steady q)))

  -- p's seat and plan alone change
  of_actor : (p : ℕ) → ((q : ℕ) → IsOf x.step q → q ≡ p) → Others p → SteadyThen p (plans' p)
      → AllSteady S K next_past new plans'
  of_actor p only others own q = elim (same_number q p) [
    | inl e ↦ subst (λ (k : ℕ). SteadyThen k (plans' k)) (sym e) own
    | inr ne ↦ let o = others q ne in stays q (λ is. ne (only q is)) o.0 o.1
  ]

  go_only : (p : ℕ) → x.step ≡ WorldGo p → (q : ℕ) → IsOf x.step q → q ≡ p
  go_only p on q (inl e) = cc (on, e)
  go_only p on q (inr (c, e)) = absurd (cc (on, e))

  begin_only : (p : ℕ) (c : Call) → x.step ≡ WorldBegin p c → (q : ℕ) → IsOf x.step q → q ≡ p
  begin_only p c on q (inl e) = absurd (cc (on, e))
  begin_only p c on q (inr (d, e)) = cc (on, e)

  -- a Go that tells of no repin lets nothing go
  go_keeps : (p g : ℕ) → x.step ≡ WorldGo p → ((q : ℕ) → x.reply ≢ Repinned q) → ¬ (LetsGo x p g)
  go_keeps p g on plain (inl (inl e, told)) = cc (on, e)
  go_keeps p g on plain (inl (inr e, told)) = cc (on, e)
  go_keeps p g on plain (inr told) = plain p told

  -- what the actor knows of a phase that knows no more
  sees_fewer : (p g : ℕ) (a b : S.Phase) → Fewer S T K a b → ¬ (LetsGo x p g)
      → Sees S K past old.heap p g a (seat_of old p) → (seat_of new p).word ≢ Free
      → (seat_of new p).guards ≡ (seat_of old p).guards → (seat_of new p).paused ≡ (seat_of old p).paused
      → (seat_of new p).readings ≡ (seat_of old p).readings → Sees S K next_past new.heap p g b (seat_of new p)
  sees_fewer p g a b fewer clear sees taken guards paused readings = record {
    ready = ready_same g (seat_of old p) (seat_of new p) taken guards paused sees.ready;
    known = λ n k. later n (sees.known n (fewer.names n k));
    loaded = λ n l. (clear, inl (sees.loaded n (fewer.loads n l)));
    reads = readings ∙ sees.reads ∙ sym fewer.reads;
  }

  same_fewer : (a : S.Phase) → Fewer S T K a a
  same_fewer a = record { names = λ n k. k; loads = λ n l. l; reads = refl }

  goes_by : (p : ℕ) → x.step ≡ WorldGo p → Moves old (WorldGo p) x.reply aside
  goes_by p on = subst (λ s. Moves old s x.reply aside) on did.0

  -- A PHASE'S CALL GOES ON

  module _ (p g : ℕ) (phase : S.Phase) (on : x.step ≡ WorldGo p) (at : plans p ≡ Under g phase true)
      (sets : Replans plans p (plan_gone g phase (S.deed g phase) x.reply) plans') where
    abbrev seat : WorldSeat
    seat = seat_of old p

    abbrev Served : Type 0
    Served = AllSteady S K next_past new plans' × IsExpected (S.deed g phase) x.reply

    sees : Sees S K past old.heap p g (next_under S K g phase (seat_of old p).progress) (seat_of old p)
    sees = (steady_as p (Under g phase true) at).0

    sees_at : (progress : Progress) → (seat_of old p).progress ≡ progress
        → Sees S K past old.heap p g (next_under S K g phase progress) (seat_of old p)
    sees_at progress e =
        subst (λ (s : Progress). Sees S K past old.heap p g (next_under S K g phase s) (seat_of old p)) e sees

    works_at : (d : Deed S.Phase S.Answer) → S.deed g phase ≡ d → Works S K g phase d (seat_of old p)
    works_at d is = subst (λ (e : Deed S.Phase S.Answer). Works S K g phase e (seat_of old p)) is
        (steady_as p (Under g phase true) at).1

    taken : position_word old p ≢ Free
    taken = sees.ready.taken

    expected_by : (d : Deed S.Phase S.Answer) (r : Reply) → S.deed g phase ≡ d → x.reply ≡ r → IsExpected d r
        → IsExpected (S.deed g phase) x.reply
    expected_by d r is told e = subst (λ (c : Deed S.Phase S.Answer). IsExpected c x.reply) (sym is)
        (subst (IsExpected d) (sym told) e)

    -- the call is over, and leads to this phase
    ends_at : (r : Reply) (next : S.Phase) → x.reply ≡ r → is_end r ≡ true → after_by phase (S.deed g phase) r ≡ next
        → plans' p ≡ Under g next false
    ends_at (Done a) next told ends after =
        sets.0 ∙ ap (plan_gone g phase (S.deed g phase)) told ∙ ap (λ (f : S.Phase). Under g f false) after
    ends_at (Refused f) next told ends after =
        sets.0 ∙ ap (plan_gone g phase (S.deed g phase)) told ∙ ap (λ (f : S.Phase). Under g f false) after
    ends_at _ next told ends after = absurd (cc (ends))

    still : is_end x.reply ≡ false → plans' p ≡ Under g phase true
    still silent = sets.0 ∙ going_on g phase (S.deed g phase) x.reply silent

    driven_as : (c : Call) → (seat_of old p).progress ≡ Driven c
        → DrivesCall old p (seat_of old p) c (seat_of old p).machine.stage (ask_at (seat_of old p).machine.stage)
        x.reply aside
    driven_as c driven =
        subst (λ (progress : Progress). DoesGo old p (seat_of old p) progress x.reply aside) driven
        (go_taken old aside x.reply p taken (goes_by p on))

    -- the machine of the call goes on
    machine_on : (c : Call) (m : Machine Deferral) → (seat_of old p).progress ≡ Driven c
        → GoesOn old aside p x.reply m → Works S K g phase (S.deed g phase) (with_machine (seat_of old p) m)
        → SteadyThen p (plans' p)
    machine_on c m driven goes works = to_plan p (Under g phase true) (still goes.silent) (
      subst (λ (f : S.Phase). Sees S K next_past new.heap p g f (seat_of new p))
          (ap (next_under S K g phase) (sym (ap (λ (st : WorldSeat). st.progress) goes.seat ∙ driven)))
          (sees_fewer p g phase phase (same_fewer phase) (go_keeps p g on goes.told) (sees_at (Driven c) driven)
          (subst (λ (st : WorldSeat). st.word ≢ Free) (sym goes.seat) taken)
          (ap (λ (st : WorldSeat). st.guards) goes.seat) (ap (λ (st : WorldSeat). st.paused) goes.seat)
          (ap (λ (st : WorldSeat). st.readings) goes.seat)),
      subst (Works S K g phase (S.deed g phase)) (sym goes.seat) works,
    )

    -- the machine of the call has ended it
    machine_over : (c : Call) (next : S.Phase) (last : WorldSeat) → (seat_of old p).progress ≡ Driven c
        → Fewer S T K phase next → ((q : ℕ) → x.reply ≢ Repinned q) → plans' p ≡ Under g next false
        → seat_of new p ≡ last → last.word ≡ (seat_of old p).word → last.guards ≡ (seat_of old p).guards
        → last.paused ≡ (seat_of old p).paused → last.readings ≡ (seat_of old p).readings
        → RoomAt S K next last → SteadyThen p (plans' p)
    machine_over c next last driven fewer plain plan own word guards paused readings room =
        to_plan p (Under g next false) plan (
          sees_fewer p g phase next fewer (go_keeps p g on plain) (sees_at (Driven c) driven)
              (λ free. taken (sym (ap (λ (st : WorldSeat). st.word) own ∙ word) ∙ free))
              (ap (λ (st : WorldSeat). st.guards) own ∙ guards) (ap (λ (st : WorldSeat). st.paused) own ∙ paused)
              (ap (λ (st : WorldSeat). st.readings) own ∙ readings),
          subst (RoomAt S K next) (sym own) room,
        )

    -- a flush
    module _ (done failed : S.Phase) (is : S.deed g phase ≡ Flushes done failed) where
      abbrev call : Call
      call = Flush (Some g)

      flushing : ((seat_of old p).progress ≡ Driven (Flush (Some g))) × Flushing (seat_of old p).machine
      flushing = works_at (Flushes done failed) is

      action : (seat_of old p).machine.action ≡ FlushAction
      action = (subst (λ (s : Progress). IsInStep s (seat_of old p).machine (seat_of old p).guards) flushing.0
          (sound.linked.seats p).follows).action

      -- where nothing is held any more there is room
      emptied : (last : WorldSeat) → seat_of new p ≡ last → last.machine.held ≡ (seat_of old p).machine.held
          → (seat_of old p).machine.held ≡ [] → SeatHasRoom last
      emptied last own held none same = absurd (omega (
        arith,
        ap (λ (l : List Deferral). length l) (held ∙ none),
        same,
        ap (λ (z : Sizes). z.bag_jobs) (ap (λ (st : WorldSeat). st.machine.sizes) (sym own) ∙ sized),
        roomy,
      ))
        where
          sized : (seat_of new p).machine.sizes ≡ new.sizes
          sized = ((step_linked old new x.step x.reply sound.linked did).seats p).sized

          roomy : 0 < new.sizes.bag_jobs
          roomy = subst (λ (z : Sizes). 0 < z.bag_jobs) (sym (moves_same old aside x.reply x.step did.0)) holds.roomy

      flush_over : (b : Bool) → (seat_of old p).machine.full ≡ b → IsOverAt old aside p (Flush (Some g)) x.reply
          → SteadyThen p (plans' p) × IsExpected (S.deed g phase) x.reply
      flush_over true full over =
          let told : x.reply ≡ Refused BagsFull = over.reply_is ∙ ap full_or_done full in
          let duty = duty_of S T K Starts serves g phase (Flushes done failed) is in (
            machine_over (Flush (Some g)) failed _ flushing.0 duty.refused (λ q e. cc (told, e))
                (ends_at (Refused BagsFull) failed told refl
                (ap (λ (d : Deed S.Phase S.Answer). after_by phase d (Refused BagsFull)) is))
                over.seat refl refl refl refl (λ known. absurd (duty.none_refused known)),
            expected_by (Flushes done failed) (Refused BagsFull) is told tt,
          )
      flush_over false full over =
          let told : x.reply ≡ Done UnitAnswer = over.reply_is ∙ ap full_or_done full in
          let duty = duty_of S T K Starts serves g phase (Flushes done failed) is in
          let none : (seat_of old p).machine.held ≡ [] = elim
          (subst (λ (s : Stage). FlushesAt s (seat_of old p).machine.full (seat_of old p).machine.held) over.stage
          flushing.1) [ inl is_full ↦ absurd (cc (full, is_full)) | inr held ↦ held ] in (
            machine_over (Flush (Some g)) done _ flushing.0 duty.after (λ q e. cc (told, e))
                (ends_at (Done UnitAnswer) done told refl
                (ap (λ (d : Deed S.Phase S.Answer). after_by phase d (Done UnitAnswer)) is))
                over.seat refl refl refl refl (λ known. emptied _ over.seat refl none),
            expected_by (Flushes done failed) (Done UnitAnswer) is told tt,
          )

      flush_goes : Drove old aside p (Flush (Some g)) x.reply
          → SteadyThen p (plans' p) × IsExpected (S.deed g phase) x.reply
      flush_goes drove = elim drove.goes [
        | inl (m, goes) ↦ (
          machine_on (Flush (Some g)) m flushing.0 goes
              (subst (λ (d : Deed S.Phase S.Answer). Works S K g phase d (with_machine (seat_of old p) m)) (sym is) (
                flushing.0,
                flush_heard (seat_of old p).machine action (seat_of old p).machine.stage m refl flushing.1
                    goes.heard,
              )),
          expected_silent (S.deed g phase) x.reply goes.silent,
        )
        | inr over ↦ flush_over (seat_of old p).machine.full refl over
      ]

      go_flush : Served
      go_flush =
          let drove_so = drove old aside p (Flush (Some g)) x.reply taken
          (flush_still (seat_of old p).machine.stage (seat_of old p).machine.full (seat_of old p).machine.held
          flushing.1)
          (driven_as (Flush (Some g)) flushing.0) in
          let shown = flush_goes drove_so in
          (of_actor p (go_only p on) (λ q ne. (drove_so.others q ne, sets.1 q ne)) shown.0, shown.1)

    -- the deferral of a removal
    module _ (n : Name) (deferred failed : S.Phase) (is : S.deed g phase ≡ Defers n deferred failed) where
      keeping : Keeping (seat_of old p).machine
      keeping = works_at (Defers n deferred failed) is

      driven : (seat_of old p).progress ≡ Driven (DeferDestroy (Some g) (ptr_to n))
      driven = (subst (λ (d : Deed S.Phase S.Answer). IsBegun (call_by g d) (seat_of old p)) is
          (tied_as p (Under g phase true) at)).1

      defer_goes : Drove old aside p (DeferDestroy (Some g) (ptr_to n)) x.reply
          → SteadyThen p (plans' p) × IsExpected (S.deed g phase) x.reply
      defer_goes drove = elim drove.goes [
        | inl (m, goes) ↦ (
          machine_on (DeferDestroy (Some g) (ptr_to n)) m driven goes
              (subst (λ (d : Deed S.Phase S.Answer). Works S K g phase d (with_machine (seat_of old p) m)) (sym is)
              (keep_heard (seat_of old p).machine (seat_of old p).machine.stage m refl keeping.0 keeping.1 goes.heard)),
          expected_silent (S.deed g phase) x.reply goes.silent,
        )
        | inr over ↦
            let told : x.reply ≡ Done UnitAnswer = over.reply_is ∙ ap full_or_done keeping.1 in
            let duty = duty_of S T K Starts serves g phase (Defers n deferred failed) is in (
              machine_over (DeferDestroy (Some g) (ptr_to n)) deferred _ driven duty.after (λ q e. cc (told, e))
                  (ends_at (Done UnitAnswer) deferred told refl
                  (ap (λ (d : Deed S.Phase S.Answer). after_by phase d (Done UnitAnswer)) is))
                  over.seat refl refl refl refl (λ known. absurd (duty.none_after known)),
              expected_by (Defers n deferred failed) (Done UnitAnswer) is told tt,
            )
      ]

      go_defer : Served
      go_defer =
          let drove_so = drove old aside p (DeferDestroy (Some g) (ptr_to n)) x.reply taken
          (keeps_still (seat_of old p).machine.stage keeping.0)
          (driven_as (DeferDestroy (Some g) (ptr_to n)) driven) in
          let shown = defer_goes drove_so in
          (of_actor p (go_only p on) (λ q ne. (drove_so.others q ne, sets.1 q ne)) shown.0, shown.1)

    -- a call on cells and pointers
    module _ (a : Access) (told : AccessAnswer → S.Phase) (failed : S.Phase)
        (is : S.deed g phase ≡ Touches a told failed) where
      room : RoomAt S K phase (seat_of old p)
      room = (works_at (Touches a told failed) is).0

      -- a load of what is loaded loads what it finds
      meets : (b : Access) (answer : AccessAnswer) (j : ℕ) (found : Ptr) (made : Touched)
          → (seat_of old p).progress ≡ Accesses b j found → guard_of b ≡ Some g → TouchesHeap b j found old.heap made
          → made.told ≡ Told answer → (n : Name) → LoadedBy (K.Loads phase) b answer n
          → ((m : Name) → K.Loads phase m → past.loaded p g m) → Meets (past.loaded p g) old x new p g n
      meets (Point h spot Load) (Pointer ptr) j found made now guard touches answers n loads known = record {
        spot = spot;
        points = record {
          step = on;
          taken = taken;
          change = Load;
          steps = j;
          found = found;
          progress = now ∙ ap (λ (o : Option ℕ). Accesses (Point o spot Load) j found) guard;
        };
        within = within spot loads.0;
        named = inl (ptr, load_found h spot j found old.heap made ptr touches answers, loads.1);
      }
        where
          within : (s : Spot) → IsLoadedFrom (K.Loads phase) s → IsLoadedFrom (past.loaded p g) s
          within (Root i) from = tt
          within (Field y f) from = known y from
      meets _ answer j found made now guard touches answers n loads known = absurd loads

      -- what one step of it shows
      module _ (j : ℕ) (found : Ptr) (now_at : (seat_of old p).progress ≡ Accesses a j found) (made : Touched)
          (touches : TouchesHeap a j found old.heap made) (reply_is : x.reply ≡ access_reply made.told)
          (heap : new.heap ≡ made.heap) (alone_so : Alone old aside p
          (accessed_seat a j made.told (seat_of old p))) where
        duty : Allows S T K g phase a
        duty = (duty_of S T K Starts serves g phase (Touches a told failed) is).allows

        known : Sees S K past old.heap p g phase (seat_of old p)
        known = sees_at (Accesses a j found) now_at

        stands : T.Stands past old.heap sound.ghost phase
        stands = subst (StandsNow S T past old.heap sound.ghost)
            (ap (λ (l : Plan S.Phase). now_of S l (seat_of old p)) at
            ∙ ap (λ (s : Progress). Some (now_under S g phase (seat_of old p) s)) now_at) (sound.stands p)

        fit : IsFit {P = S.Phase} {A = S.Answer} (Touches a told failed)
        fit = subst (λ (d : Deed S.Phase S.Answer). IsFit d) is (obeys.fits g phase)

        as_told : ToldAs a made.told
        as_told = touch_told a j found old.heap made fit.0
            (duty.finds past old.heap sound.ghost sound.shape stands
            (λ n l. holds.readable p g n (known.loaded n l))) touches

        plain : (q : ℕ) → x.reply ≢ Repinned q
        plain q e = (quiet_access x.reply made.told reply_is).plain.published q (inr e)

        -- what is known of a phase after it
        sees_next : (next : S.Phase) → ((n : Name) → K.Names next n → WasGiven new.heap n)
            → ((n : Name) → K.Loads next n → next_past.loaded p g n)
            → readings_after a made.told (K.reads phase) ≡ K.reads next
            → Sees S K next_past new.heap p g next (seat_of new p)
        sees_next next names loads reads = record {
          ready = ready_same g (seat_of old p) (seat_of new p)
              (subst (λ (st : WorldSeat). st.word ≢ Free) (sym alone_so.own) taken)
              (ap (λ (st : WorldSeat). st.guards) alone_so.own) (ap (λ (st : WorldSeat). st.paused) alone_so.own)
              known.ready;
          known = names;
          loaded = loads;
          reads = ap (λ (st : WorldSeat). st.readings) alone_so.own
              ∙ ap (readings_after a made.told) known.reads ∙ reads;
        }

        -- the names of the phase itself were given, and are loaded, still
        names_still : (n : Name) → K.Names phase n → WasGiven new.heap n
        names_still n k = later n (known.known n k)

        loads_still : (n : Name) → K.Loads phase n → next_past.loaded p g n
        loads_still n l = (go_keeps p g on plain, inl (known.loaded n l))

        still_room : RoomAt S K phase (seat_of new p)
        still_room = subst (RoomAt S K phase) (sym alone_so.own) room

        progress_is : (t : Accessed) → made.told ≡ t
            → (seat_of new p).progress ≡ (accessed_seat a j t (seat_of old p)).progress
        progress_is t same = ap (λ (st : WorldSeat). st.progress) alone_so.own
            ∙ ap (λ (r : Accessed). (accessed_seat a j r (seat_of old p)).progress) same

        -- the phase after an answer
        learned : (answer : AccessAnswer) → made.told ≡ Told answer → AnswersAccess a answer
            → Sees S K next_past new.heap p g (told answer) (seat_of new p)
        learned answer same expected =
            let learn = (duty_of S T K Starts serves g phase (Touches a told failed) is).learns answer expected in
            sees_next (told answer)
            (λ n k. elim (learn.names n k) [
              | inl was ↦ names_still n was
              | inr named ↦ subst (λ (h : Heap). WasGiven h n) (sym heap)
                  (told_given a j found old.heap made answer holds.fits touches same n named
                  (λ spot ptr there name. subst (λ (h : Heap). WasGiven h n) heap
                  (later n (holds.leads spot n (ptr, there, name)))))
            ])
            (λ n l. elim (learn.loads n l) [
              | inl was ↦ loads_still n was
              | inr by ↦ (
                go_keeps p g on plain,
                inr (meets a answer j found made now_at by.0 touches same n by.1 known.loaded),
              )
            ])
            (ap (λ (t : Accessed). readings_after a t (K.reads phase)) same ∙ sym learn.reads)

        works_so : ExpectedBy a (seat_of new p).progress → Works S K g phase (S.deed g phase) (seat_of new p)
        works_so expected = subst (λ (d : Deed S.Phase S.Answer). Works S K g phase d (seat_of new p)) (sym is)
            (still_room, expected)

        by_told : (t : Accessed) → made.told ≡ t → SteadyThen p (plans' p) × IsExpected (S.deed g phase) x.reply
        by_told (Again f) same =
            let silent : is_end x.reply ≡ false = ap is_end (reply_is ∙ ap access_reply same) in (
              to_plan p (Under g phase true) (still silent) (
                subst (λ (f : S.Phase). Sees S K next_past new.heap p g f (seat_of new p))
                    (ap (next_under S K g phase) (sym (progress_is (Again f) same)))
                    (sees_next phase names_still loads_still
                    (ap (λ (t : Accessed). readings_after a t (K.reads phase)) same
                    ∙ again_reads a j found f old.heap made (K.reads phase) touches same)),
                works_so (subst (ExpectedBy a) (sym (progress_is (Again f) same)) tt),
              ),
              expected_silent (S.deed g phase) x.reply silent,
            )
        by_told (Told answer) same =
            let silent : is_end x.reply ≡ false = ap is_end (reply_is ∙ ap access_reply same) in
            let expected : AnswersAccess a answer = subst (ToldAs a) same as_told in (
              to_plan p (Under g phase true) (still silent) (
                subst (λ (f : S.Phase). Sees S K next_past new.heap p g f (seat_of new p))
                    (sym (ap (λ (d : Deed S.Phase S.Answer). after_by phase d (Done answer)) is)
                    ∙ ap (next_under S K g phase) (sym (progress_is (Told answer) same)))
                    (learned answer same expected),
                works_so (subst (ExpectedBy a) (sym (progress_is (Told answer) same)) expected),
              ),
              expected_silent (S.deed g phase) x.reply silent,
            )
        by_told NoSlot same =
            let refused : RefusesAccess a CellsFull = subst (ToldAs a) same as_told in
            let less = (duty_of S T K Starts serves g phase (Touches a told failed) is).unplaced refused in
            let is_refused : x.reply ≡ Refused CellsFull = reply_is ∙ ap access_reply same in (
              to_plan p (Under g failed false)
                  (ends_at (Refused CellsFull) failed is_refused refl
                  (ap (λ (d : Deed S.Phase S.Answer). after_by phase d (Refused CellsFull)) is)) (
                    sees_next failed (λ n k. names_still n (less.0.names n k)) (λ n l. loads_still n (less.0.loads n l))
                        (ap (λ (t : Accessed). readings_after a t (K.reads phase)) same
                        ∙ unplaced_reads a (K.reads phase) refused ∙ sym less.0.reads),
                    λ roomy. still_room (less.1 roomy),
                  ),
              expected_by (Touches a told failed) (Refused CellsFull) is is_refused refused,
            )

      -- the call has its answer
      end_shown : (answer : AccessAnswer) → (seat_of old p).progress ≡ Ends (Done answer) → x.reply ≡ Done answer
          → Alone old aside p (record (seat_of old p) { progress = Idle })
          → SteadyThen p (plans' p) × IsExpected (S.deed g phase) x.reply
      end_shown answer now_at reply_is a_so =
          let expected : AnswersAccess a answer =
          subst (ExpectedBy a) now_at (works_at (Touches a told failed) is).1 in
          let learn = (duty_of S T K Starts serves g phase (Touches a told failed) is).learns answer expected in
          let after : after_by phase (S.deed g phase) (Done answer) ≡ told answer =
          ap (λ (d : Deed S.Phase S.Answer). after_by phase d (Done answer)) is in
          let before : Sees S K past old.heap p g (told answer) (seat_of old p) =
          subst (λ (f : S.Phase). Sees S K past old.heap p g f (seat_of old p)) after
          (sees_at (Ends (Done answer)) now_at)
          in (
            to_plan p (Under g (told answer) false) (ends_at (Done answer) (told answer) reply_is refl after) (
              sees_fewer p g (told answer) (told answer) (same_fewer (told answer))
                  (go_keeps p g on (λ q e. cc (reply_is, e))) before
                  (subst (λ (st : WorldSeat). st.word ≢ Free) (sym a_so.own) taken)
                  (ap (λ (st : WorldSeat). st.guards) a_so.own) (ap (λ (st : WorldSeat). st.paused) a_so.own)
                  (ap (λ (st : WorldSeat). st.readings) a_so.own),
              λ roomy. subst SeatHasRoom (sym a_so.own) (room (learn.roomy roomy)),
            ),
            expected_by (Touches a told failed) (Done answer) is reply_is expected,
          )

      served_by : (last : WorldSeat) → Alone old aside p last
          → SteadyThen p (plans' p) × IsExpected (S.deed g phase) x.reply → Served
      served_by last a_so shown = (of_actor p (go_only p on) (λ q ne. (a_so.others q ne, sets.1 q ne)) shown.0, shown.1)

      by_progress : (progress : Progress) → (seat_of old p).progress ≡ progress → IsAccessing a progress
          → DoesGo old p (seat_of old p) progress x.reply aside → Served
      by_progress (Accesses b j found) now_at same goes =
          let step = accessing old aside x.reply p a j found
          (subst (λ (c : Access). DoesGo old p (seat_of old p) (Accesses c j found) x.reply aside) same goes) in
          let a_so = alone old aside _ p (accessed_seat a j step.did.told (seat_of old p)) (seat_there old p taken)
          step.state refl refl in
          served_by _ a_so
          (by_told j found (now_at ∙ ap (λ (c : Access). Accesses c j found) same) step.did step.touches step.told
          (ap (λ (s : State). s.heap) step.state) a_so step.did.told refl)
      by_progress (Ends (Done answer)) now_at ok goes =
          let over = ended_with old aside x.reply (Done answer) p goes in
          let a_so = alone old aside _ p (record (seat_of old p) { progress = Idle }) (seat_there old p taken) over.1
          refl refl in
          served_by _ a_so (end_shown answer now_at over.0 a_so)
      by_progress _ now_at ok goes = absurd ok

      go_touch : Served
      go_touch = by_progress (seat_of old p).progress refl
          (subst (λ (d : Deed S.Phase S.Answer). IsBegun (call_by g d) (seat_of old p)) is
          (tied_as p (Under g phase true) at)).1 (go_taken old aside x.reply p taken (goes_by p on))

    -- each phase's call goes on so
    pub go_served : Served
    go_served = by_deed (S.deed g phase) refl
      where
        by_deed : (d : Deed S.Phase S.Answer) → S.deed g phase ≡ d → Served
        by_deed (Flushes done failed) is = go_flush done failed is
        by_deed (Touches a told failed) is = go_touch a told failed is
        by_deed (Defers n deferred failed) is = go_defer n deferred failed is
        by_deed (Answers a) is = absurd (works_at (Answers a) is)

  -- A PHASE'S CALL BEGINS

  module _ (p g : ℕ) (phase : S.Phase) (call : ¬ (IsOver (S.deed g phase)))
      (on : x.step ≡ WorldBegin p (call_by g (S.deed g phase))) (at : plans p ≡ Under g phase false)
      (sets : Replans plans p (plan_begun g phase (S.deed g phase) x.reply) plans') where
    abbrev Begins : Type 0
    Begins = AllSteady S K next_past new plans' × IsExpected (S.deed g phase) x.reply

    was : Sees S K past old.heap p g phase (seat_of old p) × RoomAt S K phase (seat_of old p)
    was = steady_as p (Under g phase false) at

    -- the call of a deed lets nothing go
    not_let : (d : Deed S.Phase S.Answer) → x.step ≡ WorldBegin p (call_by g d) → ((q : ℕ) → x.reply ≢ Repinned q)
        → ¬ (LetsGo x p g)
    not_let d on plain (inr told) = plain p told
    not_let (Flushes done failed) on plain (inl (inl e, told)) = cc (on, e)
    not_let (Flushes done failed) on plain (inl (inr e, told)) = cc (on, e)
    not_let (Touches a tells failed) on plain (inl (inl e, told)) = cc (on, e)
    not_let (Touches a tells failed) on plain (inl (inr e, told)) = cc (on, e)
    not_let (Defers n deferred failed) on plain (inl (inl e, told)) = cc (on, e)
    not_let (Defers n deferred failed) on plain (inl (inr e, told)) = cc (on, e)
    not_let (Answers a) on plain (inl (inl e, told)) = cc (on, e)
    not_let (Answers a) on plain (inl (inr e, told)) = cc (on, e)

    -- what is refused so leads to a phase that knows no more
    refused_less : (d : Deed S.Phase S.Answer) → S.deed g phase ≡ d → (f : Fault) → RefusesDeed d f
        → refusal (call_by g d) (seat_of old p) old.tickets old.heap ≡ Some f
        → Fewer S T K phase (after_by phase d (Refused f)) × RoomAt S K (after_by phase d (Refused f)) (seat_of old p)
    refused_less (Flushes done failed) is f expected why =
        let duty = duty_of S T K Starts serves g phase (Flushes done failed) is in
        (duty.refused, λ known. absurd (duty.none_refused known))
    refused_less (Touches a told failed) is f expected why =
        let less = (duty_of S T K Starts serves g phase (Touches a told failed) is).unplaced (placing a f expected) in
        (less.0, λ known. was.1 (less.1 known))
      where
        placing : (b : Access) (e : Fault) → RefusesAccess b e → RefusesAccess b CellsFull
        placing (Place v) e expected = tt
        placing (Read h ptr) e expected = absurd expected
        placing (Leave ptr) e expected = absurd expected
        placing (Write h ptr v) e expected = absurd expected
        placing (Take h ptr) e expected = absurd expected
        placing (Point h spot change) e expected = absurd expected
    refused_less (Defers n deferred failed) is f expected why =
        let duty = duty_of S T K Starts serves g phase (Defers n deferred failed) is in
        (duty.refused, λ known. was.1 duty.room)
    refused_less (Answers a) is f expected why = absurd expected

    expected_at : (f : Fault) → refusal (call_by g (S.deed g phase)) (seat_of old p) old.tickets old.heap ≡ Some f
        → RefusesDeed (S.deed g phase) f
    expected_at f why =
        begin_expected g old.tickets (seat_of old p) old.heap (tied_as p (Under g phase false) at) was.0.ready
        (S.deed g phase) call
        (λ a told failed is. let duty = (duty_of S T K Starts serves g phase (Touches a told failed) is).allows in
        record {
          guard = duty.guard;
          place = duty.place past old.heap sound.ghost one_field sound.shape;
          names = duty.names old.heap was.0.known;
          reading = subst (λ (rs : List Name). reading_refusal a rs ≡ None) (sym was.0.reads) duty.reading;
        })
        (λ n deferred failed is. was.0.known n (duty_of S T K Starts serves g phase (Defers n deferred failed) is).name)
        f why

    by_refusal : (f : Option Fault)
        → refusal (call_by g (S.deed g phase)) (seat_of old p) old.tickets old.heap ≡ f
        → BeginsCall old p (call_by g (S.deed g phase)) f x.reply aside → Begins
    by_refusal (Some f) why d =
        let step = begin_refused old aside x.reply p (call_by g (S.deed g phase)) f d in
        let seats = unmoved old aside old step.1 refl refl in
        let expected = expected_at f why in
        let less = refused_less (S.deed g phase) refl f expected why in (
          of_actor p (begin_only p _ on) (λ q ne. (seats q, sets.1 q ne))
              (to_plan p (Under g (after_by phase (S.deed g phase) (Refused f)) false)
              (sets.0 ∙ ap (plan_begun g phase (S.deed g phase)) step.0) (
                sees_fewer p g phase (after_by phase (S.deed g phase) (Refused f)) less.0
                    (not_let (S.deed g phase) on (λ q e. cc (step.0, e))) was.0
                    (subst (λ (st : WorldSeat). st.word ≢ Free) (sym (seats p)) was.0.ready.taken)
                    (ap (λ (st : WorldSeat). st.guards) (seats p)) (ap (λ (st : WorldSeat). st.paused) (seats p))
                    (ap (λ (st : WorldSeat). st.readings) (seats p)),
                subst (RoomAt S K (after_by phase (S.deed g phase) (Refused f))) (sym (seats p)) less.1,
              )),
          subst (IsExpected (S.deed g phase)) (sym step.0) expected,
        )
    by_refusal None why d =
        let step = begin_made old aside x.reply p (call_by g (S.deed g phase)) d in
        let taken = (begin_given (call_by g (S.deed g phase)) (seat_of old p) old.tickets old.heap why).taken in
        let a_so = alone old aside _ p (begun_seat (call_by g (S.deed g phase)) (seat_of old p))
        (seat_there old p taken)
        step.1 refl refl in
        let begun = begun_at S K g phase (seat_of old p) (S.deed g phase) refl call (obeys.fits g phase) was.1
        (λ n deferred failed is. (duty_of S T K Starts serves g phase (Defers n deferred failed) is).room) in (
          of_actor p (begin_only p _ on) (λ q ne. (a_so.others q ne, sets.1 q ne))
              (to_plan p (Under g phase true) (sets.0 ∙ ap (plan_begun g phase (S.deed g phase)) step.0) (
                subst (λ (f : S.Phase). Sees S K next_past new.heap p g f (seat_of new p))
                    (sym (ap (λ (st : WorldSeat). next_under S K g phase st.progress) a_so.own ∙ begun.next))
                    (sees_fewer p g phase phase (same_fewer phase)
                    (not_let (S.deed g phase) on (λ q e. cc (step.0, e))) was.0
                    (λ free. taken (sym (ap (λ (st : WorldSeat). st.word) a_so.own ∙ begun.word) ∙ free))
                    (ap (λ (st : WorldSeat). st.guards) a_so.own ∙ begun.guards)
                    (ap (λ (st : WorldSeat). st.paused) a_so.own ∙ begun.paused)
                    (ap (λ (st : WorldSeat). st.readings) a_so.own ∙ begun.readings)),
                subst (Works S K g phase (S.deed g phase)) (sym a_so.own) begun.works,
              )),
          subst (IsExpected (S.deed g phase)) (sym step.0) tt,
        )

    pub begin_served : Begins
    begin_served = by_refusal (refusal (call_by g (S.deed g phase)) (seat_of old p) old.tickets old.heap) refl
        (subst (λ s. Moves old s x.reply aside) on did.0)

  -- A STEP OF NO PLAN

  -- a step that is of nobody who has a plan
  pub free_served : KeepsPlans plans plans' → ((p : ℕ) → IsOf x.step p → plans p ≡ NoPlan)
      → AllSteady S K next_past new plans'
  free_served same free q =
      each_seat (λ k st. Steady S K next_past new.heap k (plans' k) st)
      (λ k. subst (λ (plan : Plan S.Phase). Steady S K next_past new.heap k plan (seat_of old k)) (sym (same k))
      (steady_later S K past next_past old.heap new.heap k later (plans k) (seat_of old k)
      (λ g phase b e n l. keeps_loaded k g (λ is. cc (e, free k is)) n l) (steady k)))
      (λ k after change. subst (λ (plan : Plan S.Phase). Steady S K next_past new.heap k plan after) (sym (same k))
      (changed k after change (plans k) refl))
      (seats_go old aside x.step x.reply did.0) q
    where
      none : (k : ℕ) (after : WorldSeat) → SeatChange old x.step k after → plans k ≡ NoPlan → after.readings ≡ []
      none k after change e = reads_none old x.step k after change (tied_as k NoPlan e) (steady_as k NoPlan e)

      changed : (k : ℕ) (after : WorldSeat) → SeatChange old x.step k after → (plan : Plan S.Phase) → plans k ≡ plan
          → Steady S K next_past new.heap k plan after
      changed k after change NoPlan e = none k after change e
      changed k after change (Under g phase b) e = absurd (registers k after change g phase b e)
        where
          of_it : (j : ℕ) → IsOf x.step j → (h : ℕ) (f : S.Phase) (c : Bool) → plans j ≡ Under h f c → ⊥
          of_it j is h f c under = cc (under, free j is)

          registers : (j : ℕ) (st : WorldSeat) → SeatChange old x.step j st → (h : ℕ) (f : S.Phase) (c : Bool)
              → plans j ≡ Under h f c → ⊥
          registers j _ (Registers at_free) h f true under = (steady_as j (Under h f true) under).0.ready.taken at_free
          registers j _ (Registers at_free) h f false under = (steady_as j (Under h f false) under).0.ready.taken
              at_free
          registers j _ (BeginsCallAt c on given) h f b under = of_it j (inr (c, on)) h f b under
          registers j _ (MachineGoes c w m on drive word stage heard) h f b under = of_it j (inl on.0) h f b under
          registers j _ (Leaves on) h f b under = of_it j (inl on.0) h f b under
          registers j _ (MachineEnds c on drive) h f b under = of_it j (inl on.0) h f b under
          registers j _ (JobCalled removes on now_at) h f b under = of_it j (inl on.0) h f b under
          registers j _ (AccessGoes a k found made on now_at touches) h f b under = of_it j (inl on.0) h f b under
          registers j _ (Replies r on now_at) h f b under = of_it j (inl on.0) h f b under
