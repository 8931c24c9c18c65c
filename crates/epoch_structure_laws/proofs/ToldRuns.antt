-- A run of any program by one participant, told as a flat list: each function here puts one step or one call before the
-- steps that are told already.
use Rattle.std.proofs.Common.{◌≡◌, ◌≢◌, ℕ, zero, suc, ◌+◌, false, true, List, [], ◌∷◌, Option, Some, None, inl}
use Rattle.std.proofs.Common.{inr, refl, ap, sym, arith}
use Rattle.epoch_bags.specs.declared.queue.TakeStep.TheVariants.{Empty as NoBag}
use Rattle.epoch_cells.specs.declared.cells.name.Name.{Name}
use Rattle.epoch_laws.specs.declared.heap.access.Access.{Access}
use Rattle.epoch_laws.specs.declared.heap.access.Accessed.TheVariants.{Again, Answers as Told}
use Rattle.epoch_laws.specs.declared.heap.access.AccessAnswer.{AccessAnswer}
use Rattle.epoch_laws.specs.declared.heap.access.AccessAnswer.TheVariants.{Guard, Unit as UnitAnswer}
use Rattle.epoch_laws.specs.declared.heap.access.Ptr.{Ptr}
use Rattle.epoch_laws.specs.Heap.{Heap, Touches as TouchesHeap, answers as told_by, null, touched}
use Rattle.epoch_machine.specs.Machine.{Machine}
use Rattle.epoch_machine.specs.declared.machine.Action.{Action}
use Rattle.epoch_machine.specs.declared.machine.Action.TheVariants.{Pin as PinAction, Defer as DeferAction}
use Rattle.epoch_machine.specs.declared.machine.Stage.{Stage}
use Rattle.epoch_machine.specs.declared.machine.Stage.TheVariants.{Idle as Resting, LoadPin, StorePin, ReloadPin}
use Rattle.epoch_machine.specs.declared.machine.Stage.TheVariants.{LoadScan, Scan, Advance, Take as TakeStage, Keep}
use Rattle.epoch_machine.specs.declared.machine.Stage.TheVariants.{End}
use Rattle.epoch_laws.specs.declared.step.Call.TheVariants.{Pin, DeferDestroy}
use Rattle.epoch_laws.specs.declared.step.Deferral.{Deferral}
use Rattle.epoch_laws.specs.declared.step.Entry.{Entry}
use Rattle.epoch_laws.specs.declared.step.Progress.{Progress}
use Rattle.epoch_laws.specs.declared.step.Progress.TheVariants.{Idle, Driven, Accesses, Ends}
use Rattle.epoch_laws.specs.declared.step.Reply.{Reply}
use Rattle.epoch_laws.specs.declared.step.Reply.TheVariants.{Registered, Began, Stepped, Pinned as PinnedReply}
use Rattle.epoch_laws.specs.declared.step.Reply.TheVariants.{Deferred, Done}
use Rattle.epoch_laws.specs.declared.step.Step.{Step}
use Rattle.epoch_laws.specs.declared.step.Step.TheVariants.{Register, Begin, Go}
use Rattle.epoch_laws.specs.declared.step.Word.{Word}
use Rattle.epoch_laws.specs.declared.step.Word.TheVariants.{Unpinned, Pinned}
use Rattle.epoch_laws.specs.Run.{State, seat_of, free_seat, refusal, readings_after, BeginsCall, TakesStep}
use Rattle.epoch_structure_laws.specs.declared.plan.Plan.{Plan}
use Rattle.epoch_structure_laws.specs.declared.plan.Plan.TheVariants.{NoPlan, Under}
use Rattle.epoch_structure_laws.specs.Plans.{AllPlans, Answers, Asked, Answered, Follows, IsOver, Makes, PlanEvent}
use Rattle.epoch_structure_laws.specs.Plans.{PlanRuns}
use Rattle.epoch_structure_laws.specs.Plans.{Program, Replans, answers, asks, begins, call_by, done_by, free_begins}
use Rattle.epoch_structure_laws.specs.Plans.{free_goes}
use Rattle.epoch_structure_laws.specs.Plans.{goes, passes, ptr_to}
use Rattle.epoch_structure_laws.specs.Served.{AsksReady, AtEachStep, SeatHasRoom, IsReadySeat}
use Rattle.epoch_laws.proofs.LoneWorld.{sizes, lone_world, lone_machine, seat}
use Rattle.epoch_laws.proofs.ReachLost.{taken_unpinned, taken_pinned, lowest_none, none_ahead}

-- THE ONE PARTICIPANT

-- only it has a plan
abbrev pub lone_plans : {P : Type 0} → Plan P → AllPlans P
lone_plans plan zero = plan
lone_plans plan (suc q) = NoPlan

-- where the one participant has no plan, nobody has one
pub no_plans : {P : Type 0} (p : ℕ) → lone_plans {P = P} NoPlan p ≡ NoPlan
no_plans zero = refl
no_plans (suc p) = refl

-- where the one participant gets another plan, nobody else's changes
pub replanned : {P : Type 0} (old new : Plan P) → Replans (lone_plans old) 0 new (lone_plans new)
replanned old new = (refl, others)
  where
    others : (q : ℕ) → q ≢ 0 → lone_plans new q ≡ lone_plans old q
    others zero ne = absurd (ne refl)
    others (suc q) ne = refl

-- It has pinned, and then deferred at most one removal.
abbrev last_action : Option Name → Action
last_action None = PinAction
last_action (Some n) = DeferAction

abbrev deferred_jobs : Option Name → List Deferral
deferred_jobs None = []
deferred_jobs (Some n) = record { ticket = 0; removes = Some n } ∷ []

abbrev deferred_count : Option Name → ℕ
deferred_count None = 0
deferred_count (Some n) = 1

-- it holds its guard, has deferred this removal, and reads these names
abbrev pub holds : Option Name → Progress → Heap → List Name → State
holds removed progress heap readings = lone_world (deferred_count removed) (record {
  word = Pinned 0;
  machine = lone_machine (last_action removed) Resting 1 1 (deferred_jobs removed);
  progress = progress;
  guards = 0 ∷ [];
  paused = None;
  readings = readings;
}) 1 heap

-- it is in the midst of a deferral
abbrev pub deferring : Name → Stage → Option Name → Heap → State
deferring n stage removed heap =
    lone_world (deferred_count removed) (seat (Pinned 0) (lone_machine DeferAction stage 1 1 (deferred_jobs removed))
    (Driven (DeferDestroy (Some 0) (ptr_to n))) (0 ∷ [])) 1 heap

-- it may ask for a call: it holds its guard, and its bag has room
pub is_ready : (removed : Option Name) (h : Heap) → IsReadySeat 0 (seat_of (holds removed Idle h []) 0)
is_ready removed h = record { taken = taken_pinned; out = refl; awake = refl }

-- its bag takes a further job, whether it has deferred a removal or not
pub has_room : (removed : Option Name) (h : Heap) → SeatHasRoom (seat_of (holds removed Idle h []) 0)
has_room None h = λ e. absurd (omega (arith, e))
has_room (Some n) h = λ e. absurd (omega (arith, e))

-- the world while the participant registers and pins
abbrev at : Heap → ℕ → Word → Machine Deferral → Progress → List ℕ → State
at h epoch word m progress guards = lone_world 0 (seat word m progress guards) epoch h

abbrev pins : Heap → ℕ → Word → Stage → ℕ → State
pins h epoch word stage count = at h epoch word (lone_machine PinAction stage 0 count []) (Driven Pin) []

abbrev first_guard : Heap → ℕ → State
first_guard h g = at h 1 (Pinned 0) (lone_machine PinAction Resting 1 1 []) Idle (g ∷ [])

abbrev entry : Step → Reply → Entry
entry step reply = record { step = step; reply = reply }

-- A log, the run by it from this state, with this plan, to the last one, with none, and that each call is asked for as
-- it has to be.
module _ (S : Program) (Starts : S.Phase → Type 0) (last : State) where
  pub record ToLast (from : State) (plan : Plan S.Phase) : Type 0 where
    pub log : List (PlanEvent S.Phase S.Answer)
    pub run : PlanRuns S Starts from (lone_plans plan) log last (lone_plans NoPlan)
    pub ready : AtEachStep S Starts (AsksReady S) from (lone_plans plan) log last (lone_plans NoPlan) run

module _ {S : Program} {Starts : S.Phase → Type 0} {last : State} where
  abbrev pub no_more : ToLast S Starts last last NoPlan
  no_more = record { log = []; run = (refl, refl); ready = tt }

  -- STEPS

  -- a step of the world while there is no plan
  abbrev pub plainly : {old : State} (mid : State) (made : Entry)
      → Follows S Starts old (lone_plans NoPlan) (lone_plans NoPlan) (Makes made)
      → TakesStep old made.step made.reply mid → ToLast S Starts last mid NoPlan → ToLast S Starts last old NoPlan
  plainly mid made follows takes rest = record {
    log = Makes made ∷ rest.log;
    run = (lone_plans NoPlan, follows, (mid, takes, rest.run));
    ready = (tt, rest.ready);
  }

  abbrev going : {old : State} (mid : State) (reply : Reply) → TakesStep old (Go 0) reply mid
      → ToLast S Starts last mid NoPlan → ToLast S Starts last old NoPlan
  going mid reply takes rest =
      plainly mid (entry (Go 0) reply) (free_goes (entry (Go 0) reply) 0 refl refl refl (λ q. refl)) takes rest

  -- a step of a phase's call
  abbrev pub steps : {old : State} (phase : S.Phase) (after : Plan S.Phase) (mid : State) (reply : Reply)
      → TakesStep old (Go 0) reply mid
      → (Replans (lone_plans (Under 0 phase true)) 0 after (lone_plans after)
      → Follows S Starts old (lone_plans (Under 0 phase true)) (lone_plans after) (Makes (entry (Go 0) reply)))
      → ToLast S Starts last mid after → ToLast S Starts last old (Under 0 phase true)
  steps phase after mid reply takes follows rest = record {
    log = Makes (entry (Go 0) reply) ∷ rest.log;
    run = (lone_plans after, follows (replanned (Under 0 phase true) after), (mid, takes, rest.run));
    ready = (tt, rest.ready);
  }

  -- the begin of one
  abbrev pub begun : {old : State} (phase : S.Phase) (mid : State) → ¬ (IsOver (S.deed 0 phase))
      → TakesStep old (Begin 0 (call_by 0 (S.deed 0 phase))) Began mid
      → ToLast S Starts last mid (Under 0 phase true) → ToLast S Starts last old (Under 0 phase false)
  begun phase mid call takes rest = record {
    log = Makes (entry (Begin 0 (call_by 0 (S.deed 0 phase))) Began) ∷ rest.log;
    run = (
      lone_plans (Under 0 phase true),
      begins (entry (Begin 0 (call_by 0 (S.deed 0 phase))) Began) 0 0 phase refl refl refl call
          (replanned (Under 0 phase false) (Under 0 phase true)),
      (mid, takes, rest.run),
    );
    ready = (tt, rest.ready);
  }

  -- CALLS

  -- the participant registers and pins
  abbrev pub by_pin : (h : Heap) → ToLast S Starts last (holds None Idle h []) NoPlan
      → ToLast S Starts last (lone_world 0 (free_seat sizes) 0 h) NoPlan
  by_pin h rest =
      (plainly (at h 0 Unpinned (lone_machine PinAction Resting 0 0 []) Idle []) (entry Register (Registered 0))
      (passes (entry Register (Registered 0)) refl tt (λ q. refl))
      (inl (0, refl, omega arith, refl, λ k lt. absurd (omega (arith, lt)), refl, refl), (refl, refl, refl, refl))
      (plainly (pins h 0 Unpinned LoadPin 0) (entry (Begin 0 Pin) Began)
      (free_begins (entry (Begin 0 Pin) Began) 0 Pin refl refl tt refl (λ q. refl))
      ((refl, refl), (refl, refl, refl, refl))
      (going (pins h 0 Unpinned (StorePin 0) 0) Stepped (
        inr (taken_unpinned, (refl, refl)),
        ((refl, refl), λ q ne. refl, tt, λ place. absurd (omega (arith, place.fewer))),
      )
      (going (pins h 0 (Pinned 0) ReloadPin 1) (PinnedReply 0)
      (inr (taken_unpinned, (refl, refl)), ((refl, refl), λ q ne. refl, tt, tt))
      (going (pins h 0 (Pinned 0) LoadScan 1) Stepped (
        inr (taken_pinned, (refl, refl)),
        ((refl, refl), λ q ne. refl, tt, λ place. absurd (omega (arith, place.fewer))),
      )
      (going (pins h 0 (Pinned 0) (Scan 0 0) 1) Stepped (
        inr (taken_pinned, (refl, refl)),
        ((refl, refl), λ q ne. refl, tt, λ place. absurd (omega (arith, place.fewer))),
      )
      (going (pins h 0 (Pinned 0) (Advance 0) 1) Stepped
      (inr (taken_pinned, (refl, refl)), ((refl, refl), λ q ne. refl, λ alone expired. refl, tt))
      (going (pins h 1 (Pinned 0) (TakeStage 1 0) 1) Stepped
      (inr (taken_pinned, (refl, refl)), ((refl, refl), λ q ne. refl, λ alone expired. refl, tt))
      (going (pins h 1 (Pinned 0) End 1) Stepped
      (inr (taken_pinned, (NoBag, [], [], refl, refl, refl)), ((refl, refl), λ q ne. refl, none_ahead, tt))
      (going (holds None Idle h []) (Done (Guard 0)) (
        inr (taken_pinned, (ap (λ (g : ℕ). Done (Guard g)) (sym lowest_none), ap (first_guard h) (sym lowest_none))),
        ((refl, refl), λ q ne. refl, tt, tt),
      )
      rest))))))))))

  -- a call of the structure is asked for, and answers
  abbrev pub asking : (removed : Option Name) (h : Heap) (phase : S.Phase) → Starts phase
      → ToLast S Starts last (holds removed Idle h []) (Under 0 phase false)
      → ToLast S Starts last (holds removed Idle h []) NoPlan
  asking removed h phase starts rest = record {
    log = Asked 0 0 phase ∷ rest.log;
    run = (
      lone_plans (Under 0 phase false),
      asks 0 0 phase refl refl refl starts (replanned NoPlan (Under 0 phase false)),
      rest.run,
    );
    ready = ((is_ready removed h, inr (has_room removed h)), rest.ready);
  }

  abbrev pub answering : {old : State} (phase : S.Phase) (answer : S.Answer) → S.deed 0 phase ≡ Answers answer
      → ToLast S Starts last old NoPlan → ToLast S Starts last old (Under 0 phase false)
  answering phase answer over rest = record {
    log = Answered 0 answer ∷ rest.log;
    run = (
      lone_plans NoPlan,
      answers 0 0 phase answer refl refl over (replanned (Under 0 phase false) NoPlan),
      rest.run,
    );
    ready = (tt, rest.ready);
  }

  -- a call on cells and pointers begins, looks further, and has its answer
  abbrev pub access_begins : (removed : Option Name) (phase : S.Phase) (a : Access) (h : Heap) (rs : List Name)
      → ¬ (IsOver (S.deed 0 phase))
      → BeginsCall (holds removed Idle h rs) 0 (call_by 0 (S.deed 0 phase))
      (refusal (call_by 0 (S.deed 0 phase)) (seat_of (holds removed Idle h rs) 0) (holds removed Idle h rs).tickets h)
      Began (holds removed (Accesses a 0 null) h rs)
      → ToLast S Starts last (holds removed (Accesses a 0 null) h rs) (Under 0 phase true)
      → ToLast S Starts last (holds removed Idle h rs) (Under 0 phase false)
  access_begins removed phase a h rs call begin rest =
      begun phase (holds removed (Accesses a 0 null) h rs) call (begin, (refl, refl, refl, refl)) rest

  abbrev pub access_goes : (removed : Option Name) (phase : S.Phase) (a : Access) (k : ℕ) (found next : Ptr) (h : Heap)
      (rs : List Name) → TouchesHeap a k found h (touched (Again next) h)
      → ToLast S Starts last (holds removed (Accesses a (k + 1) next) h (readings_after a (Again next) rs))
      (Under 0 phase true)
      → ToLast S Starts last (holds removed (Accesses a k found) h rs) (Under 0 phase true)
  access_goes removed phase a k found next h rs touches rest =
      steps phase (Under 0 phase true) (holds removed (Accesses a (k + 1) next) h (readings_after a (Again next) rs))
      Stepped (
        inr (taken_pinned, (touched (Again next) h, touches, refl, refl)),
        ((refl, refl), λ q ne. refl, tt, tt),
      )
      (λ set. goes (entry (Go 0) Stepped) 0 0 phase refl refl refl set) rest

  abbrev pub access_answers : (removed : Option Name) (phase : S.Phase) (a : Access) (k : ℕ) (found : Ptr)
      (answer : AccessAnswer) (h h' : Heap) (rs : List Name) → TouchesHeap a k found h (told_by answer h')
      → ToLast S Starts last (holds removed Idle h' (readings_after a (Told answer) rs))
      (Under 0 (done_by phase (S.deed 0 phase) answer) false)
      → ToLast S Starts last (holds removed (Accesses a k found) h rs) (Under 0 phase true)
  access_answers removed phase a k found answer h h' rs touches rest =
      steps phase (Under 0 phase true)
      (holds removed (Ends (Done answer)) h' (readings_after a (Told answer) rs)) Stepped (
        inr (taken_pinned, (told_by answer h', touches, refl, refl)),
        ((refl, refl), λ q ne. refl, tt, tt),
      )
      (λ set. goes (entry (Go 0) Stepped) 0 0 phase refl refl refl set)
      (steps phase (Under 0 (done_by phase (S.deed 0 phase) answer) false)
      (holds removed Idle h' (readings_after a (Told answer) rs))
      (Done answer) (inr (taken_pinned, (refl, refl)), ((refl, refl), λ q ne. refl, tt, tt))
      (λ set. goes (entry (Go 0) (Done answer)) 0 0 phase refl refl refl set)
      rest)

  -- one that looks at one place only
  abbrev pub by_access : (removed : Option Name) (phase : S.Phase) (a : Access) (answer : AccessAnswer) (h h' : Heap)
      (rs : List Name) → ¬ (IsOver (S.deed 0 phase))
      → BeginsCall (holds removed Idle h rs) 0 (call_by 0 (S.deed 0 phase))
      (refusal (call_by 0 (S.deed 0 phase)) (seat_of (holds removed Idle h rs) 0) (holds removed Idle h rs).tickets h)
      Began (holds removed (Accesses a 0 null) h rs)
      → TouchesHeap a 0 null h (told_by answer h')
      → ToLast S Starts last (holds removed Idle h' (readings_after a (Told answer) rs))
      (Under 0 (done_by phase (S.deed 0 phase) answer) false)
      → ToLast S Starts last (holds removed Idle h rs) (Under 0 phase false)
  by_access removed phase a answer h h' rs call begin touches rest =
      access_begins removed phase a h rs call begin
      (access_answers removed phase a 0 null answer h h' rs touches rest)

  -- the removal of a node is deferred
  abbrev pub by_removal : (phase : S.Phase) (n : Name) (h : Heap) → ¬ (IsOver (S.deed 0 phase))
      → BeginsCall (holds None Idle h []) 0 (call_by 0 (S.deed 0 phase))
      (refusal (call_by 0 (S.deed 0 phase)) (seat_of (holds None Idle h []) 0) 0 h)
      Began (deferring n Keep None h)
      → ToLast S Starts last (holds (Some n) Idle h []) (Under 0 (done_by phase (S.deed 0 phase) UnitAnswer) false)
      → ToLast S Starts last (holds None Idle h []) (Under 0 phase false)
  by_removal phase n h call begin rest =
      begun phase (deferring n Keep None h) call (begin, (refl, refl, refl, refl))
      (steps phase (Under 0 phase true) (deferring n End (Some n) h) (Deferred 0)
      (inr (taken_pinned, (refl, refl)), ((refl, refl), λ q ne. refl, tt, tt))
      (λ set. goes (entry (Go 0) (Deferred 0)) 0 0 phase refl refl refl set)
      (steps phase (Under 0 (done_by phase (S.deed 0 phase) UnitAnswer) false) (holds (Some n) Idle h [])
      (Done UnitAnswer)
      (inr (taken_pinned, (refl, refl)), ((refl, refl), λ q ne. refl, tt, tt))
      (λ set. goes (entry (Go 0) (Done UnitAnswer)) 0 0 phase refl refl refl set)
      rest))
