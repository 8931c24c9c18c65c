-- Each call of a structure that a world of plans begins is asked for by a participant that is ready.
use Rattle.std.proofs.Common.{◌≡◌, ℕ, ◌==◌, ◌&&◌, not, Bool, true, false, List, [], ◌∷◌, length, Option, Some, None}
use Rattle.std.proofs.Common.{◌⊎◌, inl, inr, is_some, refl, ap, sym, subst, arith, if◌then◌else◌}
use Rattle.std.proofs.lemmas.Bool.Decides.{nat_tests}
use Rattle.epoch_cells.specs.declared.fault.Fault.{Fault}
use Rattle.epoch_cells.specs.declared.fault.Fault.TheVariants.{Busy, NotRegistered, StrangerGuard}
use Rattle.epoch_laws.specs.declared.step.Entry.{Entry}
use Rattle.epoch_laws.specs.Run.{State, WorldSeat, seat_of, is_free, is_idle, is_out}
use Rattle.epoch_structure_laws.specs.Served.{AsksReady, AtEachStep, SeatHasRoom, IsReadySeat, ThenAlso}
use Rattle.epoch_structure_worlds.specs.declared.plans.step.PlanReply.{PlanReply}
use Rattle.epoch_structure_worlds.specs.declared.plans.step.PlanStep.{PlanStep}
use Rattle.epoch_structure_worlds.specs.declared.plans.step.PlanStep.TheVariants.{Register, Begin, Ask, Go, End, EndGo}
use Rattle.epoch_structure_worlds.specs.declared.plans.step.PlainCall.{PlainCall}
use Rattle.epoch_structure_worlds.specs.PlanWorlds.{PlanEntry, GoesBySteps, Shows, ShowsAsk, ShowsBegin, ShowsGo}
use Rattle.epoch_structure_worlds.specs.PlanWorlds.{ShowsPhase}
use Rattle.epoch_structure_worlds.specs.PlanWorlds.{ask_refusal, bag_has_room, events_of, has_no_plan, may_ask}
use Rattle.epoch_structure_worlds.specs.PlanWorlds.{plan_run}
use Rattle.epoch_structure_worlds.specs.PlanWorlds.{program_of, then_plan_runs}
use Rattle.epoch_structure_laws.specs.declared.plan.Plan.{Plan}
use Rattle.epoch_structure_laws.specs.declared.plan.Plan.TheVariants.{NoPlan, Under}
use Rattle.epoch_structure_laws.specs.Plans.{Deed, Flushes, Touches, Defers, Answers, AllPlans, IsFlush, PlanEvent}
use Rattle.epoch_structure_laws.specs.Plans.{Asked}
use Rattle.epoch_structure_laws.specs.Plans.{Declined}
use Rattle.epoch_structure_laws.specs.Plans.{Answered, Makes, PlanRuns, WorldThen, made_at}

-- whoever isn't refused is ready
ready : {P : Type 0} (g : ℕ) (seat : WorldSeat) (plan : Plan P) → ask_refusal g seat plan ≡ None → IsReadySeat g seat
ready g seat plan e = at_free (is_free seat.word) refl e
  where
    no_pause : (o : Option ℕ) → not (is_some o) ≡ true → o ≡ None
    no_pause None h = refl
    no_pause (Some k) h = absurd (cc (h))

    last : (a b c : Bool) → (a && b && c) ≡ true → c ≡ true
    last true true c h = h
    last true false c h = absurd (cc (h))
    last false b c h = absurd (cc (h))

    at_guard : (b : Bool) → is_free seat.word ≡ false → may_ask seat plan ≡ true → is_out g seat.guards ≡ b
        → (if b then None else Some StrangerGuard) ≡ None → IsReadySeat g seat
    at_guard true taken may out h = record {
      taken = λ free. cc (taken, ap is_free free);
      out = out;
      awake = no_pause seat.paused (last (has_no_plan plan) (is_idle seat.progress) (not (is_some seat.paused)) may);
    }
    at_guard false taken may out h = absurd (cc (h))

    at_ready : (b : Bool) → is_free seat.word ≡ false → may_ask seat plan ≡ b
        → (if b then (if is_out g seat.guards then None else Some StrangerGuard) else Some Busy) ≡ None
        → IsReadySeat g seat
    at_ready true taken may h = at_guard (is_out g seat.guards) taken may refl h
    at_ready false taken may h = absurd (cc (h))

    at_free : (b : Bool) → is_free seat.word ≡ b
        → (if b then Some NotRegistered else (if may_ask seat plan
        then (if is_out g seat.guards then None else Some StrangerGuard) else Some Busy)) ≡ None → IsReadySeat g seat
    at_free true free h = absurd (cc (h))
    at_free false taken h = at_ready (may_ask seat plan) taken refl h

-- the held bag has room where it is tested so
roomy : (seat : WorldSeat) → bag_has_room seat ≡ true → SeatHasRoom seat
roomy seat e same = by_test (length seat.machine.held == seat.machine.sizes.bag_jobs) refl e
  where
    by_test : (b : Bool) → (length seat.machine.held == seat.machine.sizes.bag_jobs) ≡ b → not b ≡ true → ⊥
    by_test true test h = cc (h)
    by_test false test h = absurd (grind (arith, nat_tests))

module _ {P A W : Type 0} (deed : ℕ → P → Deed P A) (starts : P → Type 0) (first : W → Bool → P)
    (flushes : (g : ℕ) (work : W) → IsFlush (deed g (first work false))) where
  -- a call begins with a flush, or the held bag has room
  able : (g : ℕ) (work : W) (seat : WorldSeat) (b : Bool) → bag_has_room seat ≡ b
      → IsFlush (deed g (first work b)) ⊎ SeatHasRoom seat
  able g work seat true test = inr (roomy seat test)
  able g work seat false test = inl (flushes g work)

  module _ (world : State) (plans : AllPlans P) where
    abbrev ReadyAt : PlanEvent P A → Type 0
    ReadyAt event = AsksReady (program_of deed) world plans event

    said : (event other : PlanEvent P A) → event ≡ other → ReadyAt other → ReadyAt event
    said event other e is = subst ReadyAt (sym e) is

    begin_ready : (plan : Plan P) (p : ℕ) (c : PlainCall) (reply : PlanReply A) (event : PlanEvent P A)
        → ShowsBegin plan p c reply event → ReadyAt event
    begin_ready NoPlan p c reply event (r, is, told) = said event (Makes _) is tt
    begin_ready (Under g phase b) p c reply event (is, told) = said event (Declined p Busy) is tt

    ask_ready : (f : Option Fault) (p g : ℕ) (work : W) (reply : PlanReply A) (event : PlanEvent P A)
        → ask_refusal g (seat_of world p) (plans p) ≡ f
        → ShowsAsk f p g (first work (bag_has_room (seat_of world p))) reply event → ReadyAt event
    ask_ready (Some f) p g work reply event why (is, told) = said event (Declined p f) is tt
    ask_ready None p g work reply event why (is, told) =
        said event (Asked p g (first work (bag_has_room (seat_of world p)))) is
        (ready g (seat_of world p) (plans p) why, able g work (seat_of world p) _ refl)

    phase_ready : (p g : ℕ) (d : Deed P A) (reply : PlanReply A) (event : PlanEvent P A)
        → ShowsPhase p g d reply event → ReadyAt event
    phase_ready p g (Answers a) reply event (is, told) = said event (Answered p a) is tt
    phase_ready p g (Flushes done failed) reply event (r, is, told) = said event (Makes _) is tt
    phase_ready p g (Touches a tells failed) reply event (r, is, told) = said event (Makes _) is tt
    phase_ready p g (Defers n deferred failed) reply event (r, is, told) = said event (Makes _) is tt

    go_ready : (plan : Plan P) (p : ℕ) (reply : PlanReply A) (event : PlanEvent P A)
        → ShowsGo deed plan p reply event → ReadyAt event
    go_ready NoPlan p reply event (r, is, told) = said event (Makes _) is tt
    go_ready (Under g phase false) p reply event shows = phase_ready p g (deed g phase) reply event shows
    go_ready (Under g phase true) p reply event (r, is, told) = said event (Makes _) is tt

    -- whichever step it is
    step_ready : (step : PlanStep W) (reply : PlanReply A) (event : PlanEvent P A)
        → Shows deed first world plans step reply event → ReadyAt event
    step_ready Register reply event (r, is, told) = said event (Makes _) is tt
    step_ready (Begin p c) reply event shows = begin_ready (plans p) p c reply event shows
    step_ready (Ask p g work) reply event shows =
        ask_ready (ask_refusal g (seat_of world p) (plans p)) p g work reply event refl shows
    step_ready (Go p) reply event shows = go_ready (plans p) p reply event shows
    step_ready End reply event (r, is, told) = said event (Makes _) is tt
    step_ready EndGo reply event (r, is, told) = said event (Makes _) is tt

  -- so it is in whole lists of steps
  pub asks_ready : (world : State) (plans : AllPlans P) (log : List (PlanEntry P A W)) (world' : State)
      (plans' : AllPlans P) (run : GoesBySteps deed starts first world plans log world' plans')
      → AtEachStep (program_of deed) starts (AsksReady (program_of deed)) world plans (events_of log) world' plans'
      (plan_run deed starts first world plans log world' plans' run)
  asks_ready world plans [] world' plans' run = tt
  asks_ready world plans (e ∷ es) world' plans' run = (
    step_ready world plans e.step e.reply e.event run.1,
    by_made (λ w rest. asks_ready w run.0 es world' plans' rest) (made_at e.event) run.3,
  )
    where
      by_made : ((w : State) (rest : GoesBySteps deed starts first w run.0 es world' plans')
          → AtEachStep (program_of deed) starts (AsksReady (program_of deed)) w run.0 (events_of es) world' plans'
          (plan_run deed starts first w run.0 es world' plans' rest))
          → (made : Option Entry)
          → (rest : WorldThen made world (λ w. GoesBySteps deed starts first w run.0 es world' plans'))
          → ThenAlso (program_of deed) made world
          (λ w. PlanRuns (program_of deed) starts w run.0 (events_of es) world' plans')
          (λ w more. AtEachStep (program_of deed) starts (AsksReady (program_of deed)) w run.0 (events_of es) world'
          plans' more)
          (then_plan_runs made world (λ w. GoesBySteps deed starts first w run.0 es world' plans')
          (λ w. PlanRuns (program_of deed) starts w run.0 (events_of es) world' plans')
          (λ w more. plan_run deed starts first w run.0 es world' plans' more) rest)
      by_made go_on None rest = go_on world rest
      by_made go_on (Some x) rest = go_on rest.0 rest.2
