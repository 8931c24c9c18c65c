-- In every run each reply fits what the entries before it tell.
use Rattle.std.proofs.Common.{◌≡◌, ◌≢◌, ℕ, zero, suc, ◌⊎◌, inl, inr, Bool, true, false, List, [], ◌∷◌, ◌++◌, length}
use Rattle.std.proofs.Common.{Option, Some, None, take, slice_get, refl, ap, sym, subst, ◌∙◌, arith}
use Rattle.std.proofs.Common.{length-append, if◌then◌else◌, ◌==◌}
use Rattle.std.proofs.lemmas.Bool.Decides.{nat_tests}
use Rattle.std.proofs.lemmas.Option.{same_Some}
use Rattle.epoch_cells.specs.declared.fault.Fault.{Fault}
use Rattle.epoch_cells.specs.declared.fault.Fault.TheVariants.{NotRegistered, Busy, BagsFull, Idle as IdleFault}
use Rattle.epoch_cells.specs.declared.fault.Fault.TheVariants.{TableFull, Ended, ParticipantsLeft}
use Rattle.epoch_laws.specs.Heap.{Heap}
use Rattle.epoch_laws.specs.declared.heap.access.Access.{Access}
use Rattle.epoch_laws.specs.declared.heap.access.Accessed.{Accessed}
use Rattle.epoch_laws.specs.declared.heap.access.Accessed.TheVariants.{NoSlot}
use Rattle.epoch_laws.specs.declared.heap.access.AccessAnswer.{AccessAnswer}
use Rattle.epoch_laws.specs.declared.heap.access.AccessAnswer.TheVariants.{Guard}
use Rattle.epoch_machine.specs.declared.machine.Stage.{Stage}
use Rattle.epoch_machine.specs.declared.machine.Ask.{Ask}
use Rattle.epoch_machine.specs.declared.machine.Ask.TheVariants.{PutBag, TakeBag, CallJob}
use Rattle.epoch_machine.specs.Machine.{Machine, ask_at}
use Rattle.epoch_laws.specs.declared.step.Phase.{Phase}
use Rattle.epoch_laws.specs.declared.step.Phase.TheVariants.{Before, During, After}
use Rattle.epoch_laws.specs.declared.step.Call.{Call}
use Rattle.epoch_laws.specs.declared.step.Call.TheVariants.{Pin, Defer, Flush, Release, DeferDestroy}
use Rattle.epoch_laws.specs.declared.step.Call.TheVariants.{Access as AccessCall}
use Rattle.epoch_laws.specs.declared.step.Step.{Step}
use Rattle.epoch_laws.specs.declared.step.Step.TheVariants.{Register, Begin, Go, End as EndStep, EndGo}
use Rattle.epoch_laws.specs.declared.step.Reply.{Reply}
use Rattle.epoch_laws.specs.declared.step.Reply.TheVariants.{Registered, Began, Done, Refused}
use Rattle.epoch_laws.specs.declared.step.Deferral.{Deferral}
use Rattle.epoch_laws.specs.declared.step.Entry.{Entry}
use Rattle.epoch_laws.specs.declared.step.Progress.{Progress}
use Rattle.epoch_laws.specs.declared.step.Progress.TheVariants.{Idle, Driven, CallsNow, Ends, Accesses}
use Rattle.epoch_laws.specs.declared.step.Word.{Word}
use Rattle.epoch_laws.specs.declared.step.Word.TheVariants.{Free}
use Rattle.epoch_laws.specs.Grace.{IsReplyAt}
use Rattle.epoch_laws.specs.Run.{with_places, WorldSeat, State, Ending, Open, Emptying, Over, seat_of, position_word}
use Rattle.epoch_laws.specs.Run.{is_free, is_idle, waits, call_refusal, refusal, BeginsCall, full_or_done, end_reply}
use Rattle.epoch_laws.specs.Run.{access_reply, lowest, DrivesCall, PerformsAsk, DoesGo, AllFree, EndGoes, Moves}
use Rattle.epoch_laws.specs.Run.{TakesStep}
use Rattle.epoch_laws.specs.Run.{Runs, IsFresh}
use Rattle.epoch_laws.specs.Lawful.{Told, nothing, after_begin, after_go, after_refused, after_done}
use Rattle.epoch_laws.specs.Lawful.{registered_after, told_after, told_from}
use Rattle.epoch_laws.specs.Lawful.{told_of, HasTold, MayCallNow}
use Rattle.epoch_laws.specs.Fits.{phase_after, phase_from, phase_of, EachHasLeft, EndFits, EndGoFits, RegisterFits}
use Rattle.epoch_laws.specs.Fits.{CallFault, BeginFault, BeginFits, IsGivenGuard, go_fault, GoFits, Fits, EachFits}
use Rattle.epoch_laws.proofs.StepKinds.{StepKind, Refusal, MachineStep, EndBegins, EndCalls, EndTakes, EndIsOver}
use Rattle.epoch_laws.proofs.StepKinds.{step_kind}
use Rattle.epoch_laws.proofs.EndsCounted.{machine_apart}
use Rattle.epoch_laws.proofs.EventsAgree.{ReplyFits, LeavesAll, ToldOf, Agrees, IsAway, AllAgree}
use Rattle.epoch_laws.proofs.EventsLawful.{agrees_along, fresh_agrees}
use Rattle.epoch_laws.proofs.Linked.{fresh_linked}
use Rattle.epoch_laws.proofs.RefusalsFit.{call_refused}

-- HOW FAR THE END IS

abbrev phase_at : Ending → Phase
phase_at Open = Before
phase_at (Emptying hand n) = During
phase_at Over = After

kind_phase : (old new : State) (step : Step) (reply : Reply) → StepKind old step reply new
    → phase_after (phase_at old.ending) step reply ≡ phase_at new.ending
kind_phase old _ _ _ (Refusal step fault) = same step
  where
    same : (s : Step) → phase_after (phase_at old.ending) s (Refused fault) ≡ phase_at old.ending
    same EndStep = refl
    same EndGo = refl
    same _ = refl
kind_phase old _ _ _ (MachineStep p c reply new taken drive did) =
    ap phase_at (sym (machine_apart old new p _ c _ _ reply did))
kind_phase old _ _ _ (EndBegins opened free) = refl
kind_phase old _ _ _ (EndCalls job jobs n at) = ap phase_at at
kind_phase old _ _ _ (EndTakes bag queued n at out) = ap phase_at at
kind_phase old _ _ _ (EndIsOver n at none) = refl
kind_phase old _ _ _ _ = refl

phase_along : (old new : State) (log : List Entry) (phase : Phase) → phase ≡ phase_at old.ending → Runs old log new
    → phase_from phase log ≡ phase_at new.ending
phase_along old new [] phase h run = h ∙ ap (λ (s : State). phase_at s.ending) (sym run)
phase_along old new (x ∷ log) phase h (mid, took, run) =
    let aside : State = with_places mid old.places old.seen old.ahead old.room in
    phase_along mid new log (phase_after phase x.step x.reply)
    (ap (λ (at : Phase). phase_after at x.step x.reply) h
    ∙ kind_phase old aside x.step x.reply (step_kind old aside x.step x.reply took.0)) run

-- WHO HAS REGISTERED

begin_keeps : (t : Told) (c : Call) (reply : Reply) → (after_begin t c reply).registered ≡ t.registered
begin_keeps t c Began = refl
begin_keeps t c _ = refl

go_registers : (t : Told) (reply : Reply) → (after_go t reply).registered ≡ true → t.registered ≡ true
go_registers t (Done answer) now = by_call t.call now
  where
    by_call : (call : Option Call) → registered_after call t.registered ≡ true → t.registered ≡ true
    by_call (Some Release) now = absurd (cc (now))
    by_call _ now = now
go_registers t _ now = now

-- who is registered after one more step was so before it, or registers by it
step_registers : (p : ℕ) (t : Told) (step : Step) (reply : Reply) → (told_after p t step reply).registered ≡ true
    → (t.registered ≡ true) ⊎ (reply ≡ Registered p)
step_registers p t Register (Registered q) now = at_position (q == p) refl now
  where
    same : (q == p) ≡ true → q ≡ p
    same e = grind (arith, nat_tests)

    at_position : (b : Bool) → (q == p) ≡ b → (if b then record t { registered = true } else t).registered ≡ true
        → (t.registered ≡ true) ⊎ (Registered q ≡ Registered p)
    at_position true e now = inr (ap Registered (same e))
    at_position false e now = inl now
step_registers p t Register _ now = inl now
step_registers p t (Begin q c) reply now = inl (at_position (q == p) now)
  where
    at_position : (b : Bool) → (if b then after_begin t c reply else t).registered ≡ true → t.registered ≡ true
    at_position true now = sym (begin_keeps t c reply) ∙ now
    at_position false now = now
step_registers p t (Go q) reply now = inl (at_position (q == p) now)
  where
    at_position : (b : Bool) → (if b then after_go t reply else t).registered ≡ true → t.registered ≡ true
    at_position true now = go_registers t reply now
    at_position false now = now
step_registers p t _ reply now = inl now

-- who is registered at the end of a log was so before it, or has registered in it
registered_told : (p : ℕ) (t : Told) (log : List Entry) → (told_from p t log).registered ≡ true
    → (t.registered ≡ true) ⊎ ((i : ℕ) × IsReplyAt log i (Registered p))
registered_told p t [] now = inl now
registered_told p t (x ∷ log) now = elim (registered_told p (told_after p t x.step x.reply) log now) [
  | inl was ↦ elim (step_registers p t x.step x.reply was) [
    | inl before ↦ inl before
    | inr here ↦ inr (0, ap Some here)
  ]
  | inr later ↦ inr (suc later.0, later.1)
]

-- A BEGIN THAT IS REFUSED

some_now : (call : Option Call) → MayCallNow call → (c : Call) × (call ≡ Some c)
some_now None may = absurd may
some_now (Some c) may = (c, refl)

some_told : (call : Option Call) (t : Told) → HasTold call t → (c : Call) × (call ≡ Some c)
some_told None t told = absurd told
some_told (Some c) t told = (c, refl)

-- a call is under way where the seat isn't idle
under_way : (t : Told) (m : Machine Deferral) (progress : Progress) → is_idle progress ≡ false → ToldOf t m progress
    → (c : Call) × (t.call ≡ Some c)
under_way t m Idle busy told = absurd (cc (busy))
under_way t m (Driven c) busy told = (c, told.0)
under_way t m (CallsNow removes) busy told = some_now t.call told.0
under_way t m (Accesses a k found) busy told = (AccessCall a, told.0)
under_way t m (Ends reply) busy told = some_told t.call t told.0

none_under_way : (t : Told) (m : Machine Deferral) (progress : Progress) → is_idle progress ≡ true → ToldOf t m progress
    → t.call ≡ None
none_under_way t m Idle idle told = told.0
none_under_way t m _ idle told = absurd (cc (idle))

free_is : (w : Word) → is_free w ≡ true → w ≡ Free
free_is Free e = refl
free_is _ e = absurd (cc (e))

taken_is : (w : Word) → is_free w ≡ false → w ≢ Free
taken_is w e free = cc (e, ap is_free free)

module _ (t : Told) (seat : WorldSeat) (h : Agrees t seat) (c : Call) (tickets : ℕ) (heap : Heap) (fault : Fault) where
  -- what is known of the participant decides so
  faulty : (registered : Bool) (call : Option Call) (waiting : Bool) → t.registered ≡ registered → t.call ≡ call
      → waits c t.paused ≡ waiting → BeginFault registered call waiting c t.guards t.paused fault
      → BeginFault t.registered t.call (waits c t.paused) c t.guards t.paused fault
  faulty registered call waiting here under waiting_so told =
      subst (λ (r : Bool). BeginFault r t.call (waits c t.paused) c t.guards t.paused fault) (sym here)
      (subst (λ (o : Option Call). BeginFault registered o (waits c t.paused) c t.guards t.paused fault) (sym under)
      (subst (λ (w : Bool). BeginFault registered call w c t.guards t.paused fault) (sym waiting_so) told))

  own_fault : CallFault c seat.guards seat.paused fault → CallFault c t.guards t.paused fault
  own_fault own = subst (λ (guards : List ℕ). CallFault c guards t.paused fault) (sym h.guards)
      (subst (λ (paused : Option ℕ). CallFault c seat.guards paused fault) (sym h.paused) own)

  abbrev Goal : Type 0
  Goal = BeginFault t.registered t.call (waits c t.paused) c t.guards t.paused fault

  at_pause : (b : Bool) → waits c seat.paused ≡ b → t.registered ≡ true → t.call ≡ None
      → (if b then Some Busy else call_refusal c seat tickets heap) ≡ Some fault → Goal
  at_pause true waiting here idle e =
      let busy : fault ≡ Busy = cc (e) in
      faulty true None true here idle (ap (waits c) h.paused ∙ waiting) busy
  at_pause false waiting here idle e = faulty true None false here idle (ap (waits c) h.paused ∙ waiting)
      (own_fault (call_refused c seat tickets heap fault e))

  at_progress : (b : Bool) → is_idle seat.progress ≡ b → t.registered ≡ true
      → (if b then (if waits c seat.paused then Some Busy else call_refusal c seat tickets heap) else Some Busy)
      ≡ Some fault → Goal
  at_progress true idle here e =
      at_pause (waits c seat.paused) refl here (none_under_way t seat.machine seat.progress idle h.told) e
  at_progress false busy here e =
      let other : (d : Call) × (t.call ≡ Some d) = under_way t seat.machine seat.progress busy h.told in
      let told : fault ≡ Busy = cc (e) in
      faulty true (Some other.0) (waits c t.paused) here other.1 refl told

  at_word : (b : Bool) → is_free seat.word ≡ b
      → (if b
      then Some NotRegistered
      else (if is_idle seat.progress
      then (if waits c seat.paused then Some Busy else call_refusal c seat tickets heap)
      else Some Busy))
      ≡ Some fault → Goal
  at_word true free e =
      let told : fault ≡ NotRegistered = cc (e) in
      faulty false t.call (waits c t.paused) (h.away (free_is seat.word free)).registered refl refl told
  at_word false taken e = at_progress (is_idle seat.progress) refl (h.here (taken_is seat.word taken)) e

  -- the fault with which a Begin is refused fits what is told of its participant
  pub refused_fits : refusal c seat tickets heap ≡ Some fault → Goal
  refused_fits e = at_word (is_free seat.word) refl e

-- A GO

-- a call that its machine doesn't drive is no pin
no_pin : (t : Told) (call : Option Call) (g : ℕ)
    → ((answer : AccessAnswer) → after_done call answer t ≡ after_refused t) → IsGivenGuard call g t.guards
no_pin t (Some Pin) g leaves = absurd (longer t.guards (ap (λ (u : Told). u.guards) (leaves (Guard g))))
  where
    longer : (guards : List ℕ) → guards ++ g ∷ [] ≡ guards → ⊥
    longer guards e = omega (arith, ap length e, length-append guards (g ∷ []))
no_pin t _ g leaves = tt

module _ (t : Told) (seat : WorldSeat) (h : Agrees t seat) (taken : seat.word ≢ Free) where
  -- the fault of a Go, where this call is under way
  fault_of : (call : Option Call) (fault : Fault) → t.call ≡ call → fault ≡ go_fault true call
      → GoFits t (Refused fault)
  fault_of call fault under told = subst (λ (r : Bool). fault ≡ go_fault r t.call) (sym (h.here taken))
      (subst (λ (o : Option Call). fault ≡ go_fault true o) (sym under) told)

  full_fits : (c : Call) (full : Bool) → t.call ≡ Some c → BagsFull ≡ go_fault true (Some c)
      → GoFits t (full_or_done full)
  full_fits c true under told = fault_of (Some c) BagsFull under told
  full_fits c false under told = tt

  ends_fit : (c : Call) → t.call ≡ Some c → GoFits t (end_reply c seat)
  ends_fit Pin under = subst (λ (o : Option Call). IsGivenGuard o (lowest seat.guards) t.guards) (sym under)
      (ap lowest (sym h.guards))
  ends_fit (Defer g) under = full_fits (Defer g) seat.machine.full under refl
  ends_fit (Flush g) under = full_fits (Flush g) seat.machine.full under refl
  ends_fit Release under = full_fits Release seat.machine.full under refl
  ends_fit (DeferDestroy g ptr) under = full_fits (DeferDestroy g ptr) seat.machine.full under refl
  ends_fit _ under = tt

  access_fits : (a : Access) (told : Accessed) → t.call ≡ Some (AccessCall a) → GoFits t (access_reply told)
  access_fits a NoSlot under = fault_of (Some (AccessCall a)) _ under refl
  access_fits a _ under = tt

  last_fits : (reply : Reply) → ReplyFits t.call reply → LeavesAll t → GoFits t reply
  last_fits (Done (Guard g)) fits leaves = no_pin t t.call g leaves
  last_fits (Done _) fits leaves = tt
  last_fits (Refused fault) fits leaves = absurd fits
  last_fits _ fits leaves = absurd fits

ask_fits : (old new : State) (p : ℕ) (seat : WorldSeat) (s : Stage) (ask : Ask) (reply : Reply) (t : Told)
    → PerformsAsk old p seat s ask reply new → GoFits t reply
ask_fits old new p seat s (PutBag seal) reply t did = subst (GoFits t) (sym did.2) tt
ask_fits old new p seat s (TakeBag x) reply t did = subst (GoFits t) (sym did.3) tt
ask_fits old new p seat s CallJob reply t did = subst (GoFits t) (sym did.3) tt
ask_fits old new p seat s _ reply t did = subst (GoFits t) (sym did.0) tt

-- EACH REPLY

by_word : (w : Word) → (w ≡ Free) ⊎ (w ≢ Free)
by_word Free = inl refl
by_word _ = inr (λ e. cc (e))

module _ (old new : State) (before : List Entry) (reply : Reply) (h : AllAgree old (λ q. told_of q before))
    (at_phase : phase_of before ≡ phase_at old.ending) where
  abbrev told : ℕ → Told
  told q = told_of q before

  -- the end is so far
  phase_is : (ending : Ending) → old.ending ≡ ending → phase_of before ≡ phase_at ending
  phase_is ending e = at_phase ∙ ap phase_at e

  register_fits : (tell : Reply) (ending : Ending) → reply ≡ tell → old.ending ≡ ending
      → RegisterFits before tell (phase_at ending) → Fits before Register reply
  register_fits tell ending told_so e fits =
      subst (λ (r : Reply). RegisterFits before r (phase_of before)) (sym told_so)
      (subst (RegisterFits before tell) (sym (phase_is ending e)) fits)

  end_fits : (tell : Reply) (ending : Ending) → reply ≡ tell → old.ending ≡ ending
      → EndFits before tell (phase_at ending) → Fits before EndStep reply
  end_fits tell ending told_so e fits = subst (λ (r : Reply). EndFits before r (phase_of before)) (sym told_so)
      (subst (EndFits before tell) (sym (phase_is ending e)) fits)

  end_go_fits : (tell : Reply) (ending : Ending) → reply ≡ tell → old.ending ≡ ending
      → EndGoFits tell (phase_at ending) → Fits before EndGo reply
  end_go_fits tell ending told_so e fits = subst (λ (r : Reply). EndGoFits r (phase_of before)) (sym told_so)
      (subst (EndGoFits tell) (sym (phase_is ending e)) fits)

  -- after an end began
  too_late : (ending : Ending) → ending ≢ Open
      → RegisterFits before (Refused Ended) (phase_at ending) × EndFits before (Refused Ended) (phase_at ending)
  too_late Open ne = absurd (ne refl)
  too_late (Emptying hand n) ne = (refl, refl)
  too_late Over ne = (refl, refl)

  -- where each participant has left, each position is free
  all_free : EachHasLeft before → AllFree old
  all_free left p = elim (by_word (position_word old p)) [
    | inl free ↦ free
    | inr taken ↦
        let here : (told p).registered ≡ true = (h p).here taken in
        elim (registered_told p nothing before here) [
          | inl never ↦ absurd (cc (never))
          | inr registers ↦ absurd (cc (left registers.0 p registers.1, here))
        ]
  ]

  begin_fits : (p : ℕ) (c : Call) (fault : Option Fault) → refusal c (seat_of old p) old.tickets old.heap ≡ fault
      → BeginsCall old p c fault reply new → BeginFits (told p) c reply
  begin_fits p c (Some fault) e did = subst (BeginFits (told p) c) (sym did.0)
      (refused_fits (told p) (seat_of old p) (h p) c old.tickets old.heap fault e)
  begin_fits p c None e did = subst (BeginFits (told p) c) (sym did.0) tt

  -- a Go of a position that is free
  away_fits : (p : ℕ) → position_word old p ≡ Free → GoFits (told p) (Refused NotRegistered)
  away_fits p free =
      let away : IsAway (told p) = (h p).away free in
      subst (λ (r : Bool). NotRegistered ≡ go_fault r (told p).call) (sym away.registered)
      (subst (λ (o : Option Call). NotRegistered ≡ go_fault false o) (sym away.call) refl)

  drive_fits : (p : ℕ) (c : Call) (s : Stage) (ask : Option Ask) → position_word old p ≢ Free
      → (told p).call ≡ Some c → DrivesCall old p (seat_of old p) c s ask reply new → GoFits (told p) reply
  drive_fits p c s (Some ask) taken under did = ask_fits old new p (seat_of old p) s ask reply (told p) did
  drive_fits p c s None taken under did =
      subst (GoFits (told p)) (sym did.0) (ends_fit (told p) (seat_of old p) (h p) taken c under)

  go_fits : (p : ℕ) (progress : Progress) → (seat_of old p).progress ≡ progress → position_word old p ≢ Free
      → DoesGo old p (seat_of old p) progress reply new → GoFits (told p) reply
  go_fits p progress at taken did = by_told progress did
      (subst (λ (now : Progress). ToldOf (told p) (seat_of old p).machine now) at (h p).told)
    where
      by_told : (progress : Progress) → DoesGo old p (seat_of old p) progress reply new
          → ToldOf (told p) (seat_of old p).machine progress → GoFits (told p) reply
      by_told Idle did was = subst (GoFits (told p)) (sym did.0)
          (fault_of (told p) (seat_of old p) (h p) taken None IdleFault was.0 refl)
      by_told (Driven c) did was = drive_fits p c _ (ask_at (seat_of old p).machine.stage) taken was.0 did
      by_told (CallsNow removes) did was = subst (GoFits (told p)) (sym did.0) tt
      by_told (Accesses a k found) (touched, touches, told_so, e) was = subst (GoFits (told p)) (sym told_so)
          (access_fits (told p) (seat_of old p) (h p) taken a touched.told was.0)
      by_told (Ends last) did was = subst (GoFits (told p)) (sym did.0)
          (last_fits (told p) (seat_of old p) (h p) taken last was.1 was.2)

  ends_on : (ending : Ending) → old.ending ≡ ending → EndGoes old ending reply new → Fits before EndGo reply
  ends_on Open e did = end_go_fits (Refused IdleFault) Open did.0 e refl
  ends_on Over e did = end_go_fits (Refused IdleFault) Over did.0 e refl
  ends_on (Emptying (job ∷ jobs) n) e did = end_go_fits _ (Emptying (job ∷ jobs) n) did.0 e tt
  ends_on (Emptying [] n) e (inl did) = end_go_fits _ (Emptying [] n) did.3 e tt
  ends_on (Emptying [] n) e (inr did) = end_go_fits _ (Emptying [] n) did.1 e tt

  -- the reply to each step fits what the entries before it tell
  pub step_fits : (step : Step) → Moves old step reply new → Fits before step reply
  step_fits Register (inl did) =
      register_fits (Registered did.0) Open did.5 did.1 (λ k below. (h k).here (did.4 k below))
  step_fits Register (inr (inl did)) = register_fits (Refused TableFull) Open did.2 did.0 refl
  step_fits Register (inr (inr did)) =
      register_fits (Refused Ended) old.ending did.1 refl (too_late old.ending did.0).0
  step_fits (Begin p c) did = begin_fits p c (refusal c (seat_of old p) old.tickets old.heap) refl did
  step_fits (Go p) (inl did) = subst (GoFits (told p)) (sym did.1) (away_fits p did.0)
  step_fits (Go p) (inr did) = go_fits p (seat_of old p).progress refl did.0 did.1
  step_fits EndStep (inl did) =
      end_fits Began Open did.2 did.0 (λ i p at. ((h p).away (did.1 p)).registered)
  step_fits EndStep (inr (inl did)) =
      end_fits (Refused ParticipantsLeft) Open did.2 did.0 (refl, λ left. did.1 (all_free left))
  step_fits EndStep (inr (inr did)) = end_fits (Refused Ended) old.ending did.1 refl (too_late old.ending did.0).1
  step_fits EndGo did = ends_on old.ending refl did

-- WHOLE RUNS

-- a run up to the entry at a place, and the step there
record IsReached (s : State) (log : List Entry) (k : ℕ) (entry : Entry) : Type 0 where
  old : State
  mid : State
  run : Runs s (take k log) old
  took : TakesStep old entry.step entry.reply mid

reached : (s new : State) (log : List Entry) (k : ℕ) (entry : Entry) → slice_get log k ≡ Some entry → Runs s log new
    → IsReached s log k entry
reached s new [] k entry at run = absurd (cc (at))
reached s new (x ∷ log) zero entry at (mid, took, run) = record {
  old = s;
  mid = mid;
  run = refl;
  took = subst (λ (y : Entry). TakesStep s y.step y.reply mid) (same_Some x entry at) took;
}
reached s new (x ∷ log) (suc k) entry at (mid, took, run) =
    let later : IsReached mid log k entry = reached mid new log k entry at run in
    record { old = later.old; mid = later.mid; run = (mid, took, later.run); took = later.took }

-- in every run of a new world each reply fits what the entries before it tell
pub replies_fit : (s new : State) (log : List Entry) → IsFresh s → Runs s log new → EachFits log
replies_fit s new log fresh run k entry at =
    let here : IsReached s log k entry = reached s new log k entry at run in
    let aside : State = with_places here.mid here.old.places here.old.seen here.old.ahead here.old.room in
    step_fits here.old aside (take k log) entry.reply
    (agrees_along s here.old (take k log) (λ p. nothing) (fresh_agrees s fresh) (fresh_linked s fresh) here.run)
    (phase_along s here.old (take k log) Before (ap phase_at (sym fresh.open_end)) here.run)
    entry.step here.took.0
