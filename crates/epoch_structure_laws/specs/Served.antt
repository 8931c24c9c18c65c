-- What the world answers to the calls that the phases of a program make.
use Rattle.std.specs.Prelude.{◌≡◌, ◌≢◌, ℕ, true, List, [], ◌∷◌, length, Option, Some, None, ◌⊎◌}
use Rattle.epoch_cells.specs.declared.fault.Fault.{Fault}
use Rattle.epoch_cells.specs.declared.fault.Fault.TheVariants.{CellsFull, BagsFull, TicketsOut}
use Rattle.epoch_laws.specs.declared.heap.access.Access.{Access}
use Rattle.epoch_laws.specs.declared.heap.access.Access.TheVariants.{Place, Read, Leave, Point}
use Rattle.epoch_laws.specs.declared.heap.access.AccessAnswer.{AccessAnswer}
use Rattle.epoch_laws.specs.declared.heap.access.AccessAnswer.TheVariants.{Unit as UnitAnswer, Name as NameAnswer}
use Rattle.epoch_laws.specs.declared.heap.access.AccessAnswer.TheVariants.{Value, Pointer, Exchanged, Unchanged}
use Rattle.epoch_laws.specs.declared.heap.access.AccessAnswer.TheVariants.{Updated, Stopped, RanOut}
use Rattle.epoch_laws.specs.declared.heap.access.Change.{Change}
use Rattle.epoch_laws.specs.declared.heap.access.Change.TheVariants.{Load, Store, Swap, CompareExchange, FetchAnd}
use Rattle.epoch_laws.specs.declared.heap.access.Change.TheVariants.{FetchOr, FetchXor, FetchUpdate}
use Rattle.epoch_laws.specs.declared.step.Entry.{Entry}
use Rattle.epoch_laws.specs.declared.step.Reply.{Reply}
use Rattle.epoch_laws.specs.declared.step.Reply.TheVariants.{Done, Refused}
use Rattle.epoch_laws.specs.declared.step.Step.{Step}
use Rattle.epoch_laws.specs.declared.step.Step.TheVariants.{Begin, Go}
use Rattle.epoch_laws.specs.declared.step.Word.TheVariants.{Free}
use Rattle.epoch_laws.specs.Run.{WorldSeat, State, seat_of, is_out}
use Rattle.epoch_structure_laws.specs.declared.plan.Plan.{Plan}
use Rattle.epoch_structure_laws.specs.declared.plan.Plan.TheVariants.{NoPlan, Under}
use Rattle.epoch_structure_laws.specs.Plans.{Deed, Flushes, Touches, Defers, Program, IsFlush, AllPlans, PlanEvent}
use Rattle.epoch_structure_laws.specs.Plans.{Asked, Makes, made_at, WorldThen, PlanRuns}

-- WHAT IS EXPECTED OF A CALL

-- what a call on a pointer answers where one stands
abbrev pub AnswersChange : Change → AccessAnswer → Type 0
AnswersChange Load (Pointer ptr) = Unit {0}
AnswersChange (Store other) UnitAnswer = Unit {0}
AnswersChange (Swap other) (Pointer ptr) = Unit {0}
AnswersChange (CompareExchange current other) (Exchanged ptr) = Unit {0}
AnswersChange (CompareExchange current other) (Unchanged ptr) = Unit {0}
AnswersChange (FetchAnd n) (Pointer ptr) = Unit {0}
AnswersChange (FetchOr n) (Pointer ptr) = Unit {0}
AnswersChange (FetchXor n) (Pointer ptr) = Unit {0}
AnswersChange (FetchUpdate tries by) (Updated ptr) = Unit {0}
AnswersChange (FetchUpdate tries by) (Stopped ptr) = Unit {0}
AnswersChange (FetchUpdate tries by) (RanOut ptr) = Unit {0}
AnswersChange _ _ = ⊥

-- the answers that a call on cells and pointers may bring: none says that nothing is there
abbrev pub AnswersAccess : Access → AccessAnswer → Type 0
AnswersAccess (Place v) (NameAnswer n) = Unit {0}
AnswersAccess (Read g ptr) (Value v) = Unit {0}
AnswersAccess (Leave ptr) UnitAnswer = Unit {0}
AnswersAccess (Point g spot change) answer = AnswersChange change answer
AnswersAccess _ _ = ⊥

-- why it may be refused: a placing where no cell is free
abbrev pub RefusesAccess : Access → Fault → Type 0
RefusesAccess (Place v) CellsFull = Unit {0}
RefusesAccess _ _ = ⊥

abbrev pub AnswersDeed : {P A : Type 0} → Deed P A → AccessAnswer → Type 0
AnswersDeed (Flushes done refused) UnitAnswer = Unit {0}
AnswersDeed (Touches access told refused) answer = AnswersAccess access answer
AnswersDeed (Defers node deferred refused) UnitAnswer = Unit {0}
AnswersDeed _ _ = ⊥

-- a flush where no place for a bag is free, a placing where no cell is, and a removal where no ticket is left
abbrev pub RefusesDeed : {P A : Type 0} → Deed P A → Fault → Type 0
RefusesDeed (Flushes done refused) BagsFull = Unit {0}
RefusesDeed (Touches access told refused) fault = RefusesAccess access fault
RefusesDeed (Defers node deferred refused) TicketsOut = Unit {0}
RefusesDeed _ _ = ⊥

-- the reply to a step of the phase's call is one of these, or tells that the call goes on
abbrev pub IsExpected : {P A : Type 0} → Deed P A → Reply → Type 0
IsExpected deed (Done answer) = AnswersDeed deed answer
IsExpected deed (Refused fault) = RefusesDeed deed fault
IsExpected deed _ = Unit {0}

-- STEPS

-- the held bag takes a further job
abbrev pub SeatHasRoom : WorldSeat → Type 0
SeatHasRoom seat = length seat.machine.held ≢ seat.machine.sizes.bag_jobs

-- the guard is out, and nothing is paused
pub record IsReadySeat (g : ℕ) (seat : WorldSeat) : Type 0 where
  pub taken : seat.word ≢ Free
  pub out : is_out g seat.guards ≡ true
  pub awake : seat.paused ≡ None

module _ (S : Program) where
  abbrev pub ServesPlan : Plan S.Phase → Reply → Type 0
  ServesPlan NoPlan reply = Unit {0}
  ServesPlan (Under g phase begun) reply = IsExpected (S.deed g phase) reply

  abbrev pub ServesAt : AllPlans S.Phase → Step → Reply → Type 0
  ServesAt plans (Begin p c) reply = ServesPlan (plans p) reply
  ServesAt plans (Go p) reply = ServesPlan (plans p) reply
  ServesAt plans _ reply = Unit {0}

  -- where a step of the world is one of a phase's call, it is replied to as expected
  abbrev pub ServesStep : State → AllPlans S.Phase → PlanEvent S.Phase S.Answer → Type 0
  ServesStep world plans (Makes x) = ServesAt plans x.step x.reply
  ServesStep world plans _ = Unit {0}

  -- a call of the structure is asked for by a participant that is registered and not paused, under a guard that is
  -- out; and it begins with a flush, or the held bag has room
  abbrev pub AsksReady : State → AllPlans S.Phase → PlanEvent S.Phase S.Answer → Type 0
  AsksReady world plans (Asked p g phase) =
      IsReadySeat g (seat_of world p) × (IsFlush (S.deed g phase) ⊎ SeatHasRoom (seat_of world p))
  AsksReady world plans _ = Unit {0}

  -- of what follows the step that is made, if one is
  abbrev pub ThenAlso : (made : Option Entry) (world : State) (P : State → Type 0) → ((w : State) → P w → Type 0)
      → WorldThen made world P → Type 0
  ThenAlso None world P Q h = Q world h
  ThenAlso (Some x) world P Q h = Q h.0 h.2

  -- this holds at each step of a run
  abbrev pub AtEachStep : (Starts : S.Phase → Type 0)
      (Holds : State → AllPlans S.Phase → PlanEvent S.Phase S.Answer → Type 0) (world : State)
      (plans : AllPlans S.Phase) (log : List (PlanEvent S.Phase S.Answer)) (world' : State)
      (plans' : AllPlans S.Phase) → PlanRuns S Starts world plans log world' plans' → Type 0
  AtEachStep Starts Holds world plans [] world' plans' run = Unit {0}
  AtEachStep Starts Holds world plans (event ∷ log) world' plans' run =
      Holds world plans event
      × ThenAlso (made_at event) world (λ w. PlanRuns S Starts w run.0 log world' plans')
      (λ w rest. AtEachStep Starts Holds w run.0 log world' plans' rest) run.2
