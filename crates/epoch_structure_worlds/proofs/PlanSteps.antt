-- Steps of a structure: those that the world takes alone, and those of a call of the structure.
use Rattle.std.proofs.Common.{◌≡◌, ℕ, ◌<◌, Bool, true, false, List, length, Option, Some, None, refl, sym, subst, ◌∙◌}
use Rattle.std.proofs.Common.{◌≢◌, ◌≤◌, ◌⊎◌, inl, inr, arith, ◌&&◌, not, is_some, ap, if◌then◌else◌, slice_set}
use Rattle.std.proofs.lemmas.List.{get_or_past}
use Rattle.epoch_cells.specs.declared.fault.Fault.{Fault}
use Rattle.epoch_cells.specs.declared.fault.Fault.TheVariants.{Busy, NotRegistered, StrangerGuard}
use Rattle.epoch_laws.specs.declared.step.Call.{Call}
use Rattle.epoch_laws.specs.declared.step.Progress.{Progress}
use Rattle.epoch_laws.specs.declared.step.Progress.TheVariants.{Idle}
use Rattle.epoch_laws.specs.declared.step.Reply.{Reply}
use Rattle.epoch_laws.specs.declared.step.Reply.TheVariants.{Began, Refused}
use Rattle.epoch_laws.specs.declared.step.Step.{Step}
use Rattle.epoch_laws.specs.declared.step.Step.TheVariants.{Register as WorldRegister, Begin as WorldBegin}
use Rattle.epoch_laws.specs.declared.step.Step.TheVariants.{Go as WorldGo, End as WorldEnd, EndGo as WorldEndGo}
use Rattle.epoch_laws.specs.declared.step.Word.{Word}
use Rattle.epoch_laws.specs.declared.step.Word.TheVariants.{Free}
use Rattle.epoch_laws.specs.Run.{State, WorldSeat, seat_of, free_seat, TakesStep, is_free, is_idle, is_out}
use Rattle.epoch_structure_laws.specs.declared.machine.Wish.{Wish}
use Rattle.epoch_structure_laws.specs.declared.machine.Wish.TheVariants.{Answer}
use Rattle.epoch_structure_laws.specs.declared.plan.Plan.{Plan}
use Rattle.epoch_structure_laws.specs.declared.plan.Plan.TheVariants.{NoPlan, Under}
use Rattle.epoch_structure_laws.specs.Asks.{wish_of}
use Rattle.epoch_structure_laws.specs.Plans.{Deed, Flushes, Touches, Defers, Answers, PlanEvent, Asked, Declined}
use Rattle.epoch_structure_laws.specs.Plans.{Answered}
use Rattle.epoch_structure_laws.specs.Plans.{Makes}
use Rattle.epoch_structure_laws.specs.Plans.{passes, asks, declines, answers, free_begins, free_goes, begins, goes}
use Rattle.epoch_structure_laws.specs.Plans.{call_by, plan_begun, plan_gone, IsOver, IsPlain, Replans}
use Rattle.epoch_structure_worlds.specs.declared.plans.step.PlainCall.{PlainCall}
use Rattle.epoch_structure_worlds.specs.declared.plans.step.PlainCall.TheVariants.{Pin, Unpin, Pause, Resume, Repin}
use Rattle.epoch_structure_worlds.specs.declared.plans.step.PlainCall.TheVariants.{Defer, Flush}
use Rattle.epoch_structure_worlds.specs.declared.plans.step.PlainCall.TheVariants.{Release}
use Rattle.epoch_structure_worlds.specs.declared.plans.step.PlanStep.TheVariants.{Register, Begin, Ask, Go, End, EndGo}
use Rattle.epoch_structure_worlds.specs.declared.plans.step.PlanReply.TheVariants.{World, Answered as AnsweredReply}
use Rattle.epoch_structure_worlds.specs.PlanWorlds.{PlanTakes, ShowsBegin, ShowsAsk, ShowsGo, ShowsPhase, Performs}
use Rattle.epoch_structure_worlds.specs.PlanWorlds.{plan_state}
use Rattle.epoch_structure_worlds.specs.PlanWorlds.{plans_in, plain_call, reply_told, ask_refusal, bag_has_room}
use Rattle.epoch_structure_worlds.specs.PlanWorlds.{call_wished}
use Rattle.epoch_structure_worlds.specs.PlanWorlds.{has_no_plan, may_ask}
use Rattle.epoch_structure_worlds.proofs.PlansListed.{sets_plan, plan_there}

-- the step of the world that was made
abbrev made : {P A : Type 0} → Step → Reply → PlanEvent P A
made step reply = Makes (record { step = step; reply = reply })

plain : (c : PlainCall) → IsPlain (plain_call c)
plain Pin = tt
plain (Unpin g) = tt
plain (Pause g) = tt
plain (Resume g) = tt
plain (Repin g) = tt
plain (Defer g) = tt
plain (Flush g) = tt
plain Release = tt

-- an answer is wished for by a phase that answers, and by no other
pub answers_as_wished : {P A : Type 0} (d : Deed P A) (a : A) → wish_of d ≡ Answer a → d ≡ Answers a
answers_as_wished (Flushes done refused) a is = absurd (cc (is))
answers_as_wished (Touches access told refused) a is = absurd (cc (is))
answers_as_wished (Defers n deferred refused) a is = absurd (cc (is))
answers_as_wished (Answers b) a is = cc (is)

-- WHAT BEGINS A CALL

within : (p n : ℕ) → (p < n) ⊎ (n ≤ p)
within p n = grind arith

-- by cases: the position is taken, no call of the structure is under way, and none of the world
abbrev MayBegin : {P : Type 0} → WorldSeat → Plan P → Type 0
MayBegin seat plan = (plan ≡ NoPlan) × (seat.progress ≡ Idle) × (seat.word ≢ Free)

not_free : (w : Word) → is_free w ≡ false → w ≢ Free
not_free w taken is = cc (taken, ap is_free is)

idle : (progress : Progress) → is_idle progress ≡ true → progress ≡ Idle
idle Idle is = refl
idle _ is = absurd (cc (is))

none : {P : Type 0} (plan : Plan P) → has_no_plan plan ≡ true → plan ≡ NoPlan
none NoPlan is = refl
none (Under g phase begun) is = absurd (cc (is))

-- a call of the structure that nothing refuses may begin
pub may_begin : {P : Type 0} (g : ℕ) (seat : WorldSeat) (plan : Plan P) → ask_refusal g seat plan ≡ None
    → MayBegin seat plan
may_begin g seat plan is = by_word (is_free seat.word) refl is
  where
    busy : Bool → Option Fault
    busy b = if b then (if is_out g seat.guards then None else Some StrangerGuard) else Some Busy

    by_plan : (a b c : Bool) → has_no_plan plan ≡ a → is_idle seat.progress ≡ b → is_free seat.word ≡ false
        → busy (a && b && c) ≡ None → MayBegin seat plan
    by_plan false b c lacks at taken is = absurd (cc (is))
    by_plan true false c lacks at taken is = absurd (cc (is))
    by_plan true true c lacks at taken is = (none plan lacks, idle seat.progress at, not_free seat.word taken)

    by_word : (w : Bool) → is_free seat.word ≡ w → (if w then Some NotRegistered else busy (may_ask seat plan)) ≡ None
        → MayBegin seat plan
    by_word true at is = absurd (cc (is))
    by_word false at is =
        by_plan (has_no_plan plan) (is_idle seat.progress) (not (is_some seat.paused)) refl refl at is

module _ {P A W : Type 0} (deed : ℕ → P → Deed P A) (starts : P → Type 0) (first : W → Bool → P)
    (old : State) (plans : List (Plan P)) where
  -- a registration is the world's, and begins no call of the structure
  pub registers : (new : State) (r : Reply) → TakesStep old WorldRegister r new
      → PlanTakes deed starts first (plan_state old plans) Register (World r) (plan_state new plans)
  registers new r did =
      (made WorldRegister r, (r, refl, refl), passes _ refl tt (λ q. refl), (new, did, refl))

  -- and so is the begin of an end
  pub ends : (new : State) (r : Reply) → TakesStep old WorldEnd r new
      → PlanTakes deed starts first (plan_state old plans) End (World r) (plan_state new plans)
  ends new r did = (made WorldEnd r, (r, refl, refl), passes _ refl tt (λ q. refl), (new, did, refl))

  -- and each step of one
  pub ends_further : (new : State) (r : Reply) → TakesStep old WorldEndGo r new
      → PlanTakes deed starts first (plan_state old plans) EndGo (World r) (plan_state new plans)
  ends_further new r did = (made WorldEndGo r, (r, refl, refl), passes _ refl tt (λ q. refl), (new, did, refl))

  module _ (p : ℕ) where
    pub begins_free : (new : State) (c : PlainCall) (r : Reply) → plans_in plans p ≡ NoPlan
        → TakesStep old (WorldBegin p (plain_call c)) r new
        → PlanTakes deed starts first (plan_state old plans) (Begin p c) (World r) (plan_state new plans)
    begins_free new c r free did = (
      made (WorldBegin p (plain_call c)) r,
      subst (λ plan. ShowsBegin {A = A} plan p c (World r) (made (WorldBegin p (plain_call c)) r)) (sym free)
          (r, refl, refl),
      free_begins _ p (plain_call c) refl refl (plain c) free (λ q. refl),
      (new, did, refl),
    )

    -- it waits for a call of the structure to end
    pub begins_busy : (c : PlainCall) (g : ℕ) (phase : P) (begun : Bool) → plans_in plans p ≡ Under g phase begun
        → PlanTakes deed starts first (plan_state old plans) (Begin p c) (World (Refused Busy)) (plan_state old plans)
    begins_busy c g phase begun under = (
      Declined p Busy,
      subst (λ plan. ShowsBegin {A = A} plan p c (World (Refused Busy)) (Declined p Busy)) (sym under) (refl, refl),
      declines p Busy refl (λ q. refl),
      refl,
    )

    -- the participant goes on by the world alone
    pub goes_free : (new : State) (r : Reply) → plans_in plans p ≡ NoPlan → TakesStep old (WorldGo p) r new
        → PlanTakes deed starts first (plan_state old plans) (Go p) (World r) (plan_state new plans)
    goes_free new r free did = (
      made (WorldGo p) r,
      subst (λ plan. ShowsGo {A = A} deed plan p (World r) (made (WorldGo p) r)) (sym free) (r, refl, refl),
      free_goes _ p refl refl free (λ q. refl),
      (new, did, refl),
    )

    module _ (g : ℕ) (phase : P) where
      -- the call that its phase has begun goes on
      pub goes_further : (new : State) (r tells : Reply) (plan : Plan P) → plans_in plans p ≡ Under g phase true
          → tells ≡ reply_told r → plan ≡ plan_gone g phase (deed g phase) r → TakesStep old (WorldGo p) r new
          → PlanTakes deed starts first (plan_state old plans) (Go p) (World tells)
          (plan_state new (slice_set plans p plan))
      goes_further new r tells plan under tell follows did = (
        made (WorldGo p) r,
        subst (λ (l : Plan P). ShowsGo {A = A} deed l p (World tells) (made (WorldGo p) r)) (sym under) performs,
        goes _ p g phase refl refl under
            (subst (λ (l : Plan P). Replans (plans_in plans) p l (plans_in (slice_set plans p plan))) follows
            (sets_plan plans p plan (plan_there plans p g phase true under))),
        (new, did, refl),
      )
        where
          performs : Performs {P = P} {A = A} (WorldGo p) (World tells) (made (WorldGo p) r)
          performs = rw tell (r, refl, refl)

      -- its phase's call begins
      pub goes_calling : (new : State) (wish : Wish A) (r tells : Reply) (plan : Plan P)
          → plans_in plans p ≡ Under g phase false → wish ≡ wish_of (deed g phase) → ((a : A) → wish ≢ Answer a)
          → tells ≡ reply_told r → plan ≡ plan_begun g phase (deed g phase) r
          → TakesStep old (WorldBegin p (call_wished g wish)) r new
          → PlanTakes deed starts first (plan_state old plans) (Go p) (World tells)
          (plan_state new (slice_set plans p plan))
      goes_calling new wish r tells plan under wishes unanswered tell follows did = (
        made (WorldBegin p (call_by g (deed g phase))) r,
        subst
            (λ (l : Plan P). ShowsGo {A = A} deed l p (World tells) (made (WorldBegin p (call_by g (deed g phase))) r))
            (sym under) (performs (deed g phase) calls),
        begins _ p g phase refl refl under (calls_on (deed g phase) calls)
            (subst (λ (l : Plan P). Replans (plans_in plans) p l (plans_in (slice_set plans p plan))) follows
            (sets_plan plans p plan (plan_there plans p g phase false under))),
        (new, takes, refl),
      )
        where
          calls : (a : A) → wish_of (deed g phase) ≢ Answer a
          calls a is = unanswered a (wishes ∙ is)

          calls_on : (d : Deed P A) → ((a : A) → wish_of d ≢ Answer a) → ¬ (IsOver d)
          calls_on (Answers a) lacks over = lacks a refl
          calls_on _ lacks over = over

          performs : (d : Deed P A) → ((a : A) → wish_of d ≢ Answer a)
              → ShowsPhase {A = A} p g d (World tells) (made (WorldBegin p (call_by g d)) r)
          performs (Answers a) lacks = absurd (lacks a refl)
          performs (Flushes done refused) lacks = rw tell (r, refl, refl)
          performs (Touches access told refused) lacks = rw tell (r, refl, refl)
          performs (Defers n deferred refused) lacks = rw tell (r, refl, refl)

          called : (d : Deed P A) → call_wished g (wish_of d) ≡ call_by g d
          called (Flushes done refused) = refl
          called (Touches access told refused) = refl
          called (Defers n deferred refused) = refl
          called (Answers a) = refl

          takes : TakesStep old (WorldBegin p (call_by g (deed g phase))) r new
          takes = subst (λ (c : Call). TakesStep old (WorldBegin p c) r new) (called (deed g phase))
              (subst (λ (w : Wish A). TakesStep old (WorldBegin p (call_wished g w)) r new) wishes did)

      -- its phase answers
      pub goes_over : (wish : Wish A) (a : A) → plans_in plans p ≡ Under g phase false → wish ≡ wish_of (deed g phase)
          → wish ≡ Answer a
          → PlanTakes deed starts first (plan_state old plans) (Go p) (AnsweredReply a)
          (plan_state old (slice_set plans p NoPlan))
      goes_over wish a under wishes is = (
        Answered p a,
        subst (λ (l : Plan P). ShowsGo {A = A} deed l p (AnsweredReply a) (Answered p a)) (sym under)
            (subst (λ (d : Deed P A). ShowsPhase {A = A} p g d (AnsweredReply a) (Answered p a)) (sym over)
            (refl, refl)),
        answers p g phase a refl under over (sets_plan plans p NoPlan (plan_there plans p g phase false under)),
        refl,
      )
        where
          over : deed g phase ≡ Answers a
          over = answers_as_wished (deed g phase) a (sym wishes ∙ is)

    -- a call of the structure is refused
    pub asks_refused : (g : ℕ) (work : W) (o : Option Fault) (f : Fault)
        → o ≡ ask_refusal g (seat_of old p) (plans_in plans p) → o ≡ Some f
        → PlanTakes deed starts first (plan_state old plans) (Ask p g work) (World (Refused f)) (plan_state old plans)
    asks_refused g work o f refuses is = (
      Declined p f,
      subst
          (λ (v : Option Fault). ShowsAsk {A = A} v p g (first work (bag_has_room (seat_of old p))) (World (Refused f))
          (Declined p f)) (sym is ∙ refuses) (refl, refl),
      declines p f refl (λ q. refl),
      refl,
    )

    -- or begins
    pub asks_begun : (g : ℕ) (work : W) (o : Option Fault) (phase : P)
        → o ≡ ask_refusal g (seat_of old p) (plans_in plans p) → ((f : Fault) → o ≢ Some f)
        → phase ≡ first work (bag_has_room (seat_of old p)) → starts phase → length plans ≡ length old.seats
        → PlanTakes deed starts first (plan_state old plans) (Ask p g work) (World Began)
        (plan_state old (slice_set plans p (Under g phase false)))
    asks_begun g work o phase refuses unrefused is_first may positions = (
      Asked p g phase,
      subst (λ (v : Option Fault). ShowsAsk {A = A} v p g (first work (bag_has_room (seat_of old p))) (World Began)
          (Asked p g phase)) (sym nothing)
          (subst (λ (f : P). ShowsAsk {A = A} None p g f (World Began) (Asked p g phase)) is_first (refl, refl)),
      asks p g phase refl begun.0 begun.1 may (sets_plan plans p (Under g phase false) there),
      refl,
    )
      where
        nothing : ask_refusal g (seat_of old p) (plans_in plans p) ≡ None
        nothing = by_refusal o refuses unrefused
          where
            by_refusal : (v : Option Fault) → v ≡ ask_refusal g (seat_of old p) (plans_in plans p)
                → ((f : Fault) → v ≢ Some f) → ask_refusal g (seat_of old p) (plans_in plans p) ≡ None
            by_refusal None is lacks = sym is
            by_refusal (Some f) is lacks = absurd (lacks f refl)

        begun : MayBegin (seat_of old p) (plans_in plans p)
        begun = may_begin g (seat_of old p) (plans_in plans p) nothing

        there : p < length plans
        there = elim (within p (length old.seats)) [
          | inl lt ↦ subst (λ (n : ℕ). p < n) (sym positions) lt
          | inr le ↦ absurd (begun.2 (ap (λ (st : WorldSeat). st.word)
              (get_or_past old.seats p (free_seat old.sizes) le)))
        ]
