-- Programs of phases over a world: which call of the world a phase makes, how a plan goes on by the reply, and whole
-- runs of plans.
use Rattle.std.specs.Prelude.{◌≡◌, ◌≢◌, ℕ, ◌<◌, Bool, true, false, List, [], ◌∷◌, Option, Some, None}
use Rattle.epoch_cells.specs.declared.cells.name.Name.{Name}
use Rattle.epoch_cells.specs.declared.fault.Fault.{Fault}
use Rattle.epoch_laws.specs.declared.heap.access.Ptr.{Ptr}
use Rattle.epoch_laws.specs.declared.heap.access.Access.{Access}
use Rattle.epoch_laws.specs.declared.heap.access.Access.TheVariants.{Take, Write}
use Rattle.epoch_laws.specs.declared.heap.access.AccessAnswer.{AccessAnswer}
use Rattle.epoch_laws.specs.declared.step.Call.{Call}
use Rattle.epoch_laws.specs.declared.step.Call.TheVariants.{Pin, Flush, DeferDestroy, Access as AccessCall}
use Rattle.epoch_laws.specs.declared.step.Entry.{Entry}
use Rattle.epoch_laws.specs.declared.step.Reply.{Reply}
use Rattle.epoch_laws.specs.declared.step.Reply.TheVariants.{Done, Refused}
use Rattle.epoch_laws.specs.declared.step.Step.{Step}
use Rattle.epoch_laws.specs.declared.step.Step.TheVariants.{Register, Begin, Go, End, EndGo}
use Rattle.epoch_laws.specs.declared.step.Progress.TheVariants.{Idle}
use Rattle.epoch_laws.specs.Heap.{has_steps}
use Rattle.epoch_laws.specs.Run.{State, seat_of, TakesStep, Runs}
use Rattle.epoch_structure_laws.specs.declared.plan.Plan.{Plan}
use Rattle.epoch_structure_laws.specs.declared.plan.Plan.TheVariants.{NoPlan, Under}

-- WHAT A PHASE DOES

-- One call of the world, and which phase follows from each reply to it; or the answer of the whole call.
pub data Deed (P A : Type 0) : Type 0 where
  Flushes : (done refused : P) → Deed P A
  Touches : (access : Access) (told : AccessAnswer → P) (refused : P) → Deed P A  -- a call on cells and pointers
  Defers : (node : Name) (deferred refused : P) → Deed P A  -- defers the removal of the node
  Answers : (answer : A) → Deed P A

-- the code of a structure: the phases of its calls, what a call answers, and what each phase does under a guard
pub record Program : Type 1 where
  pub Phase : Type 0
  pub Answer : Type 0
  pub deed : ℕ → Phase → Deed Phase Answer

-- the untagged pointer to a name
abbrev pub ptr_to : Name → Ptr
ptr_to n = record { name = Some n; tag = 0 }

-- the call of the world that a deed makes under this guard
abbrev pub call_by : {P A : Type 0} → ℕ → Deed P A → Call
call_by g (Flushes done refused) = Flush (Some g)
call_by g (Touches a told refused) = AccessCall a
call_by g (Defers n deferred refused) = DeferDestroy (Some g) (ptr_to n)
call_by g (Answers a) = Pin  -- not asked

-- the phase after the answer to its call, and after its refusal
abbrev pub done_by : {P A : Type 0} → P → Deed P A → AccessAnswer → P
done_by phase (Flushes done refused) a = done
done_by phase (Touches access told refused) a = told a
done_by phase (Defers n deferred refused) a = deferred
done_by phase (Answers answer) a = phase

abbrev pub refused_by : {P A : Type 0} → P → Deed P A → P
refused_by phase (Flushes done refused) = refused
refused_by phase (Touches access told refused) = refused
refused_by phase (Defers n deferred refused) = refused
refused_by phase (Answers answer) = phase

-- the phase after the reply that ended the call
abbrev pub after_by : {P A : Type 0} → P → Deed P A → Reply → P
after_by phase deed (Done a) = done_by phase deed a
after_by phase deed _ = refused_by phase deed

-- no call of the world is left, but the answer
abbrev pub IsOver : {P A : Type 0} → Deed P A → Type 0
IsOver (Answers a) = Unit {0}
IsOver _ = ⊥

-- neither takes a value out of its cell nor overwrites one
abbrev pub TakesNone : Access → Type 0
TakesNone (Take g ptr) = ⊥
TakesNone (Write g ptr v) = ⊥
TakesNone _ = Unit {0}

-- the calls of a plan have a step at least, take nothing out and overwrite no value
abbrev pub IsFit : {P A : Type 0} → Deed P A → Type 0
IsFit (Touches a told refused) = TakesNone a × (has_steps a ≡ true)
IsFit _ = Unit {0}

abbrev pub IsFlush : {P A : Type 0} → Deed P A → Type 0
IsFlush (Flushes done refused) = Unit {0}
IsFlush _ = ⊥

-- a call of the world that does nothing to cells and pointers
abbrev pub IsPlain : Call → Type 0
IsPlain (AccessCall a) = ⊥
IsPlain (DeferDestroy g ptr) = ⊥
IsPlain _ = Unit {0}

-- Each reply that ends a phase's call lowers the number: so a call that begins at a phase makes at most as many calls
-- of the world as the number of that phase.
abbrev pub IsLowered : (S : Program) → (S.Phase → ℕ) → Type 0
IsLowered S measure =
    (g : ℕ) (phase : S.Phase) (r : Reply) → ¬ (IsOver (S.deed g phase))
    → measure (after_by phase (S.deed g phase) r) < measure phase

-- STEPS

-- each participant's plan
abbrev pub AllPlans : Type 0 → Type 0
AllPlans P = ℕ → Plan P

-- p's plan alone is another
abbrev pub Replans : {P : Type 0} → AllPlans P → ℕ → Plan P → AllPlans P → Type 0
Replans old p plan new = (new p ≡ plan) × ((q : ℕ) → q ≢ p → new q ≡ old q)

abbrev pub KeepsPlans : {P : Type 0} → AllPlans P → AllPlans P → Type 0
KeepsPlans old new = (q : ℕ) → new q ≡ old q

-- the plan after the reply to its Begin, and after the reply to a Go
abbrev pub plan_begun : {P A : Type 0} → ℕ → P → Deed P A → Reply → Plan P
plan_begun g phase deed (Refused f) = Under g (after_by phase deed (Refused f)) false
plan_begun g phase deed _ = Under g phase true

abbrev pub plan_gone : {P A : Type 0} → ℕ → P → Deed P A → Reply → Plan P
plan_gone g phase deed (Done a) = Under g (after_by phase deed (Done a)) false
plan_gone g phase deed (Refused f) = Under g (after_by phase deed (Refused f)) false
plan_gone g phase deed _ = Under g phase true

-- a step of the world that is no participant's own
abbrev pub IsOther : Step → Type 0
IsOther Register = Unit {0}
IsOther End = Unit {0}
IsOther EndGo = Unit {0}
IsOther _ = ⊥

-- What a step shows: a call of the structure was asked for, and begins in this phase or is declined; it answers; or a
-- step of the world was taken.
pub data PlanEvent (P A : Type 0) : Type 0 where
  Asked : (participant guard : ℕ) (phase : P) → PlanEvent P A
  Declined : (participant : ℕ) (fault : Fault) → PlanEvent P A
  Answered : (participant : ℕ) (answer : A) → PlanEvent P A
  Makes : (entry : Entry) → PlanEvent P A

-- how the plans go on at a step that shows this event
pub data Follows (S : Program) (Starts : S.Phase → Type 0) (world : State) (old new : AllPlans S.Phase)
    (event : PlanEvent S.Phase S.Answer) : Type 0 where
  -- a call of the structure begins, is declined, and is over
  asks : (p g : ℕ) (phase : S.Phase) → event ≡ Asked p g phase → old p ≡ NoPlan → (seat_of world p).progress ≡ Idle
      → Starts phase → Replans old p (Under g phase false) new → Follows S Starts world old new event
  declines : (p : ℕ) (f : Fault) → event ≡ Declined p f → KeepsPlans old new → Follows S Starts world old new event
  answers : (p g : ℕ) (phase : S.Phase) (answer : S.Answer) → event ≡ Answered p answer → old p ≡ Under g phase false
      → S.deed g phase ≡ Answers answer → Replans old p NoPlan new → Follows S Starts world old new event
  -- a step of the world that no plan makes
  passes : (x : Entry) → event ≡ Makes x → IsOther x.step → KeepsPlans old new → Follows S Starts world old new event
  free_begins : (x : Entry) (p : ℕ) (c : Call) → event ≡ Makes x → x.step ≡ Begin p c → IsPlain c → old p ≡ NoPlan
      → KeepsPlans old new → Follows S Starts world old new event
  free_goes : (x : Entry) (p : ℕ) → event ≡ Makes x → x.step ≡ Go p → old p ≡ NoPlan → KeepsPlans old new
      → Follows S Starts world old new event
  -- a phase's call begins, or takes a step
  begins : (x : Entry) (p g : ℕ) (phase : S.Phase) → event ≡ Makes x → x.step ≡ Begin p (call_by g (S.deed g phase))
      → old p ≡ Under g phase false → ¬ (IsOver (S.deed g phase))
      → Replans old p (plan_begun g phase (S.deed g phase) x.reply) new → Follows S Starts world old new event
  goes : (x : Entry) (p g : ℕ) (phase : S.Phase) → event ≡ Makes x → x.step ≡ Go p → old p ≡ Under g phase true
      → Replans old p (plan_gone g phase (S.deed g phase) x.reply) new → Follows S Starts world old new event

-- WHOLE RUNS

-- the step of the world that was taken, if one was
abbrev pub made_at : {P A : Type 0} → PlanEvent P A → Option Entry
made_at (Makes entry) = Some entry
made_at _ = None

-- the world goes by the step made, if one was made
abbrev pub WorldThen : Option Entry → State → (State → Type 0) → Type 0
WorldThen None world P = P world
WorldThen (Some e) world P = (mid : State) × TakesStep world e.step e.reply mid × P mid

-- a world and plans go by the steps that show these events
abbrev pub PlanRuns : (S : Program) (Starts : S.Phase → Type 0) → State → AllPlans S.Phase
    → List (PlanEvent S.Phase S.Answer) → State → AllPlans S.Phase → Type 0
PlanRuns S Starts world plans [] world' plans' = (world' ≡ world) × (plans' ≡ plans)
PlanRuns S Starts world plans (event ∷ log) world' plans' =
    (mid : AllPlans S.Phase) × Follows S Starts world plans mid event
    × WorldThen (made_at event) world (λ w. PlanRuns S Starts w mid log world' plans')

abbrev pub also_made : Option Entry → List Entry → List Entry
also_made None log = log
also_made (Some e) log = e ∷ log

-- the steps of the world that are made
abbrev pub world_log : {P A : Type 0} → List (PlanEvent P A) → List Entry
world_log [] = []
world_log (event ∷ log) = also_made (made_at event) (world_log log)

abbrev pub then_world_runs : (made : Option Entry) (world : State) (P : State → Type 0) (log : List Entry)
    (world' : State) → ((w : State) → P w → Runs w log world') → WorldThen made world P
    → Runs world (also_made made log) world'
then_world_runs None world P log world' rest h = rest world h
then_world_runs (Some e) world P log world' rest h = (h.0, h.1, rest h.0 h.2)

-- the run of the world that a run of plans makes
abbrev pub run_of_world : (S : Program) (Starts : S.Phase → Type 0) (world : State) (plans : AllPlans S.Phase)
    (log : List (PlanEvent S.Phase S.Answer)) (world' : State) (plans' : AllPlans S.Phase)
    → PlanRuns S Starts world plans log world' plans' → Runs world (world_log log) world'
run_of_world S Starts world plans [] world' plans' run = run.0
run_of_world S Starts world plans (event ∷ log) world' plans' run =
    then_world_runs (made_at event) world (λ w. PlanRuns S Starts w run.0 log world' plans') (world_log log) world'
    (λ w rest. run_of_world S Starts w run.0 log world' plans' rest) run.2
