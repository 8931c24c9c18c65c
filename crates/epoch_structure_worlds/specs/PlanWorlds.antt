-- The state of a structure's world, what one step does to it, and whole lists of steps.
use Rattle.std.specs.Prelude.{◌≡◌, ℕ, ◌==◌, ◌&&◌, not, Bool, true, false, List, [], ◌∷◌, length, Option, Some, None}
use Rattle.std.specs.Prelude.{is_some, if◌then◌else◌, slice_index_or}
use Rattle.epoch_cells.specs.declared.fault.Fault.{Fault}
use Rattle.epoch_cells.specs.declared.fault.Fault.TheVariants.{Busy, NotRegistered, StrangerGuard}
use Rattle.epoch_laws.specs.declared.step.Call.{Call}
use Rattle.epoch_laws.specs.declared.step.Call.TheVariants.{Pin, Unpin, Pause, Resume, Repin, Defer, Flush, Release}
use Rattle.epoch_laws.specs.declared.step.Call.TheVariants.{DeferDestroy, Access as AccessCall}
use Rattle.epoch_laws.specs.declared.step.Entry.{Entry}
use Rattle.epoch_laws.specs.declared.step.Reply.{Reply}
use Rattle.epoch_laws.specs.declared.step.Reply.TheVariants.{Began, Stepped, Done, Refused}
use Rattle.epoch_laws.specs.declared.step.Step.{Step}
use Rattle.epoch_laws.specs.declared.step.Step.TheVariants.{Register as WorldRegister, Begin as WorldBegin}
use Rattle.epoch_laws.specs.declared.step.Step.TheVariants.{Go as WorldGo, End as WorldEnd, EndGo as WorldEndGo}
use Rattle.epoch_laws.specs.Run.{State, WorldSeat, seat_of, is_free, is_idle, is_out}
use Rattle.epoch_structure_laws.specs.declared.machine.Wish.{Wish}
use Rattle.epoch_structure_laws.specs.declared.machine.Wish.TheVariants.{Flush as FlushWish, Touch, Defer as DeferWish}
use Rattle.epoch_structure_laws.specs.declared.machine.Wish.TheVariants.{Answer}
use Rattle.epoch_structure_laws.specs.declared.plan.Plan.{Plan}
use Rattle.epoch_structure_laws.specs.declared.plan.Plan.TheVariants.{NoPlan, Under}
use Rattle.epoch_structure_laws.specs.Plans.{Deed, Answers, Program, AllPlans, PlanEvent, Asked, Declined, Answered}
use Rattle.epoch_structure_laws.specs.Plans.{Makes}
use Rattle.epoch_structure_laws.specs.Plans.{ptr_to, call_by, made_at, Follows, WorldThen, PlanRuns}
use Rattle.epoch_structure_worlds.specs.declared.plans.step.PlainCall.{PlainCall}
use Rattle.epoch_structure_worlds.specs.declared.plans.step.PlainCall.TheVariants.{Pin as PlainPin, Unpin as PlainUnpin}
use Rattle.epoch_structure_worlds.specs.declared.plans.step.PlainCall.TheVariants.{Pause as PlainPause}
use Rattle.epoch_structure_worlds.specs.declared.plans.step.PlainCall.TheVariants.{Resume as PlainResume}
use Rattle.epoch_structure_worlds.specs.declared.plans.step.PlainCall.TheVariants.{Repin as PlainRepin}
use Rattle.epoch_structure_worlds.specs.declared.plans.step.PlainCall.TheVariants.{Defer as PlainDefer}
use Rattle.epoch_structure_worlds.specs.declared.plans.step.PlainCall.TheVariants.{Flush as PlainFlush}
use Rattle.epoch_structure_worlds.specs.declared.plans.step.PlainCall.TheVariants.{Release as PlainRelease}
use Rattle.epoch_structure_worlds.specs.declared.plans.step.PlanStep.{PlanStep}
use Rattle.epoch_structure_worlds.specs.declared.plans.step.PlanStep.TheVariants.{Register, Begin, Ask, Go, End, EndGo}
use Rattle.epoch_structure_worlds.specs.declared.plans.step.PlanReply.{PlanReply}
use Rattle.epoch_structure_worlds.specs.declared.plans.step.PlanReply.TheVariants.{World, Answered as AnsweredReply}

-- a world, and each participant's call of the structure, which are listed by positions
pub record PlanState (P : Type 0) : Type 0 where
  pub world : State
  pub plans : List (Plan P)

-- those of a list; a position past it has none
abbrev pub plans_in : {P : Type 0} → List (Plan P) → AllPlans P
plans_in plans p = slice_index_or plans p NoPlan

abbrev pub plan_state : {P : Type 0} → State → List (Plan P) → PlanState P
plan_state world plans = record { world = world; plans = plans }

-- the program of a machine that does so
abbrev pub program_of : {P A : Type 0} → (ℕ → P → Deed P A) → Program
program_of {P} {A} deed = record { Phase = P; Answer = A; deed = deed }

-- WHAT A STEP SHOWS

-- the call of the world that a plain call is
abbrev pub plain_call : PlainCall → Call
plain_call PlainPin = Pin
plain_call (PlainUnpin g) = Unpin g
plain_call (PlainPause g) = Pause g
plain_call (PlainResume g) = Resume g
plain_call (PlainRepin g) = Repin g
plain_call (PlainDefer g) = Defer g
plain_call (PlainFlush g) = Flush g
plain_call PlainRelease = Release

abbrev pub has_no_plan : {P : Type 0} → Plan P → Bool
has_no_plan NoPlan = true
has_no_plan _ = false

-- no call is under way, of the world or of the structure, and no guard is paused
abbrev pub may_ask : {P : Type 0} → WorldSeat → Plan P → Bool
may_ask seat plan = has_no_plan plan && is_idle seat.progress && not (is_some seat.paused)

-- why a call of the structure doesn't begin: not registered, busy, and a guard that isn't out
abbrev pub ask_refusal : {P : Type 0} → ℕ → WorldSeat → Plan P → Option Fault
ask_refusal g seat plan =
    if is_free seat.word then Some NotRegistered
    else (if may_ask seat plan then (if is_out g seat.guards then None else Some StrangerGuard) else Some Busy)

-- whether the held bag takes a further job
abbrev pub bag_has_room : WorldSeat → Bool
bag_has_room seat = not (length seat.machine.held == seat.machine.sizes.bag_jobs)

-- the call of the world that is wished for, under this guard
abbrev pub call_wished : {A : Type 0} → ℕ → Wish A → Call
call_wished g FlushWish = Flush (Some g)
call_wished g (Touch access) = AccessCall access
call_wished g (DeferWish n) = DeferDestroy (Some g) (ptr_to n)
call_wished g (Answer a) = Pin  -- not asked

-- what is told of the world's reply to a step of a structure's call: its event, or Stepped
abbrev pub reply_told : Reply → Reply
reply_told Began = Stepped
reply_told (Done a) = Stepped
reply_told (Refused f) = Stepped
reply_told r = r

module _ {P A : Type 0} where
  -- the world takes this step, and its reply is told
  abbrev pub Passes : Step → PlanReply A → PlanEvent P A → Type 0
  Passes step reply event = (r : Reply) × (event ≡ Makes (record { step = step; reply = r })) × (reply ≡ World r)

  -- the world takes this step for a call of the structure
  abbrev pub Performs : Step → PlanReply A → PlanEvent P A → Type 0
  Performs step reply event =
      (r : Reply) × (event ≡ Makes (record { step = step; reply = r })) × (reply ≡ World (reply_told r))

  -- it is refused, and the world takes no step
  abbrev pub Declines : ℕ → Fault → PlanReply A → PlanEvent P A → Type 0
  Declines p f reply event = (event ≡ Declined p f) × (reply ≡ World (Refused f))

  -- a plain call begins, as in the world, where no call of the structure is under way
  abbrev pub ShowsBegin : Plan P → ℕ → PlainCall → PlanReply A → PlanEvent P A → Type 0
  ShowsBegin NoPlan p c reply event = Passes (WorldBegin p (plain_call c)) reply event
  ShowsBegin (Under g phase begun) p c reply event = Declines p Busy reply event

  -- a call of the structure begins in this phase, or is refused
  abbrev pub ShowsAsk : Option Fault → ℕ → ℕ → P → PlanReply A → PlanEvent P A → Type 0
  ShowsAsk (Some f) p g phase reply event = Declines p f reply event
  ShowsAsk None p g phase reply event = (event ≡ Asked p g phase) × (reply ≡ World Began)

  -- a phase answers, or its call begins
  abbrev pub ShowsPhase : ℕ → ℕ → Deed P A → PlanReply A → PlanEvent P A → Type 0
  ShowsPhase p g (Answers a) reply event = (event ≡ Answered p a) × (reply ≡ AnsweredReply a)
  ShowsPhase p g deed reply event = Performs (WorldBegin p (call_by g deed)) reply event

  module _ (deed : ℕ → P → Deed P A) where
    -- a participant goes on: by the world alone, by its phase, or by the call that its phase has begun
    abbrev pub ShowsGo : Plan P → ℕ → PlanReply A → PlanEvent P A → Type 0
    ShowsGo NoPlan p reply event = Passes (WorldGo p) reply event
    ShowsGo (Under g phase false) p reply event = ShowsPhase p g (deed g phase) reply event
    ShowsGo (Under g phase true) p reply event = Performs (WorldGo p) reply event

    module _ {W : Type 0} (first : W → Bool → P) where
      -- what this step shows and tells in this state
      abbrev pub Shows : State → AllPlans P → PlanStep W → PlanReply A → PlanEvent P A → Type 0
      Shows world plans Register reply event = Passes WorldRegister reply event
      Shows world plans (Begin p c) reply event = ShowsBegin (plans p) p c reply event
      Shows world plans (Ask p g work) reply event =
          ShowsAsk (ask_refusal g (seat_of world p) (plans p)) p g (first work (bag_has_room (seat_of world p))) reply
          event
      Shows world plans (Go p) reply event = ShowsGo (plans p) p reply event
      Shows world plans End reply event = Passes WorldEnd reply event
      Shows world plans EndGo reply event = Passes WorldEndGo reply event

-- WHOLE LISTS OF STEPS

-- a step, the reply to it, and what it shows
pub record PlanEntry (P A W : Type 0) : Type 0 where
  pub step : PlanStep W
  pub reply : PlanReply A
  pub event : PlanEvent P A

module _ {P A W : Type 0} where
  abbrev pub asked_steps : List (PlanEntry P A W) → List (PlanStep W)
  asked_steps [] = []
  asked_steps (e ∷ es) = e.step ∷ asked_steps es

  abbrev pub told_replies : List (PlanEntry P A W) → List (PlanReply A)
  told_replies [] = []
  told_replies (e ∷ es) = e.reply ∷ told_replies es

  abbrev pub events_of : List (PlanEntry P A W) → List (PlanEvent P A)
  events_of [] = []
  events_of (e ∷ es) = e.event ∷ events_of es

  -- these are the steps and replies of the entries
  abbrev pub ListsSteps : List (PlanEntry P A W) → List (PlanStep W) → List (PlanReply A) → Type 0
  ListsSteps log steps replies = (asked_steps log ≡ steps) × (told_replies log ≡ replies)

abbrev pub then_plan_runs : (made : Option Entry) (world : State) (P Q : State → Type 0) → ((w : State) → P w → Q w)
    → WorldThen made world P → WorldThen made world Q
then_plan_runs None world P Q more h = more world h
then_plan_runs (Some x) world P Q more h = (h.0, h.1, more h.0 h.2)

module _ {P A W : Type 0} (deed : ℕ → P → Deed P A) (starts : P → Type 0) (first : W → Bool → P) where
  -- the structure takes this step, with this reply, and the world takes the step that it makes, if it makes one
  abbrev pub PlanTakes : PlanState P → PlanStep W → PlanReply A → PlanState P → Type 0
  PlanTakes old step reply new =
      (event : PlanEvent P A) × Shows deed first old.world (plans_in old.plans) step reply event
      × Follows (program_of deed) starts old.world (plans_in old.plans) (plans_in new.plans) event
      × WorldThen (made_at event) old.world (λ w. new.world ≡ w)

  -- a world and plans go by these steps, with these replies
  abbrev pub GoesBySteps : State → AllPlans P → List (PlanEntry P A W) → State → AllPlans P → Type 0
  GoesBySteps world plans [] world' plans' = (world' ≡ world) × (plans' ≡ plans)
  GoesBySteps world plans (e ∷ es) world' plans' =
      (mid : AllPlans P) × Shows deed first world plans e.step e.reply e.event
      × Follows (program_of deed) starts world plans mid e.event
      × WorldThen (made_at e.event) world (λ w. GoesBySteps w mid es world' plans')

  -- one state goes to another so
  abbrev pub GoesByPlans : PlanState P → List (PlanEntry P A W) → PlanState P → Type 0
  GoesByPlans old log new = GoesBySteps old.world (plans_in old.plans) log new.world (plans_in new.plans)

  -- the run of plans that they are
  abbrev pub plan_run : (world : State) (plans : AllPlans P) (log : List (PlanEntry P A W)) (world' : State)
      (plans' : AllPlans P) → GoesBySteps world plans log world' plans'
      → PlanRuns (program_of deed) starts world plans (events_of log) world' plans'
  plan_run world plans [] world' plans' run = run
  plan_run world plans (e ∷ es) world' plans' run = (
    run.0,
    run.2,
    then_plan_runs (made_at e.event) world (λ w. GoesBySteps w run.0 es world' plans')
        (λ w. PlanRuns (program_of deed) starts w run.0 (events_of es) world' plans')
        (λ w rest. plan_run w run.0 es world' plans' rest) run.3,
  )
