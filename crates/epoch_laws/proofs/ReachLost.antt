-- A short run whose cells don't leave rightly: a participant takes out what it has loaded from a root.
use Rattle.std.proofs.Common.{◌≡◌, ◌≢◌, ℕ, List, [], ◌∷◌, Some, None, inl, inr, refl, ap, sym, arith}
use Rattle.epoch_cells.specs.PlainCells.{empty, filled}
use Rattle.epoch_bags.specs.declared.queue.TakeStep.TheVariants.{Empty}
use Rattle.epoch_machine.specs.declared.machine.Action.TheVariants.{Pin as PinAction}
use Rattle.epoch_machine.specs.declared.machine.Stage.{Stage}
use Rattle.epoch_machine.specs.declared.machine.Stage.TheVariants.{Idle as Resting, LoadPin, StorePin, ReloadPin}
use Rattle.epoch_machine.specs.declared.machine.Stage.TheVariants.{LoadScan, Scan, Advance, Take as TakeStage, End}
use Rattle.epoch_machine.specs.Machine.{Machine}
use Rattle.epoch_laws.specs.declared.heap.access.Access.TheVariants.{Place, Take, Point}
use Rattle.epoch_laws.specs.declared.heap.access.AccessAnswer.TheVariants.{Guard, Unit as UnitAnswer}
use Rattle.epoch_laws.specs.declared.heap.access.AccessAnswer.TheVariants.{Name as NameAnswer, Value, Pointer}
use Rattle.epoch_laws.specs.declared.step.Call.TheVariants.{Pin, Access as AccessCall}
use Rattle.epoch_laws.specs.declared.heap.access.Change.TheVariants.{Load, Store}
use Rattle.epoch_laws.specs.declared.step.Deferral.{Deferral}
use Rattle.epoch_laws.specs.declared.step.Entry.{Entry}
use Rattle.epoch_laws.specs.declared.step.Progress.{Progress}
use Rattle.epoch_laws.specs.declared.step.Progress.TheVariants.{Idle, Driven, Accesses, Ends}
use Rattle.epoch_laws.specs.declared.heap.access.Ptr.{Ptr}
use Rattle.epoch_laws.specs.declared.step.Reply.{Reply}
use Rattle.epoch_laws.specs.declared.step.Reply.TheVariants.{Registered, Began, Stepped, Pinned as PinnedReply}
use Rattle.epoch_laws.specs.declared.step.Reply.TheVariants.{Repinned, Done}
use Rattle.epoch_laws.specs.declared.heap.access.Spot.TheVariants.{Root}
use Rattle.epoch_laws.specs.declared.step.Step.{Step}
use Rattle.epoch_laws.specs.declared.step.Step.TheVariants.{Register, Begin, Go}
use Rattle.epoch_laws.specs.declared.step.Word.{Word}
use Rattle.epoch_laws.specs.declared.step.Word.TheVariants.{Free, Unpinned, Pinned}
use Rattle.epoch_laws.specs.Heap.{Cell, Heap, null, nulls, answers}
use Rattle.epoch_laws.specs.Reach.{LetsGo, TakesOut, past_of, LosesLoaded}
use Rattle.epoch_laws.proofs.LoneWorld.{sizes, lone_world, lone_heap, lone_machine, seat, name, lone_fresh}
use Rattle.epoch_laws.specs.Collections.{outlook, TakesAhead}
use Rattle.epoch_laws.specs.Run.{WorldSeat, State, free_seat, lowest, lowest_from, TakesStep, Runs, IsFresh}

abbrev world : WorldSeat → ℕ → Heap → State
world seat epoch heap = lone_world 0 seat epoch heap

abbrev heap : Ptr → Cell → Heap
heap root cell = lone_heap 0 root cell

abbrev machine : Stage → ℕ → ℕ → Machine Deferral
machine stage guards pins = lone_machine PinAction stage guards pins []

-- the seat while it pins, and when it holds its guard
abbrev pinning : Word → Stage → ℕ → WorldSeat
pinning word stage pins = seat word (machine stage 0 pins) (Driven Pin) []

abbrev pinned : Progress → WorldSeat
pinned progress = seat (Pinned 0) (machine Resting 1 1) progress (0 ∷ [])

abbrev ptr : Ptr
ptr = record { name = Some name; tag = 0 }

abbrev placed : Cell
placed = filled 0 0 (record { value = 7; fields = nulls 16 })

abbrev none_placed : Heap
none_placed = heap null (empty 0)

abbrev entry : Step → Reply → Entry
entry step reply = record { step = step; reply = reply }

abbrev first : State
first = world (free_seat sizes) 0 none_placed

abbrev last : State
last = world (pinned (Ends (Done (Value 7)))) 1 (heap ptr (empty 1))

-- the participant is registered
pub taken_unpinned : Unpinned ≢ Free
taken_unpinned e = cc

-- the participant is registered while it is pinned, too
pub taken_pinned : Pinned 0 ≢ Free
taken_pinned e = cc

-- the first guard has the number 0
pub lowest_none : lowest [] ≡ 0
unfolding lowest lowest_from
lowest_none = refl

abbrev first_guard : ℕ → State
first_guard g = world (seat (Pinned 0) (machine Resting 1 1) Idle (g ∷ [])) 1 none_placed

-- the collection finds no bag, and none was ahead of it
pub none_ahead : TakesAhead (machine End 0 1) (outlook [] 0) (outlook [] 0)
none_ahead = record { counted = λ on. refl; none = λ over same. refl }

-- a log, and the run by it from this state to the last one
abbrev ToLast : State → Type 0
ToLast from = (log : List Entry) × Runs from log last

-- the same with one more step before it, so that a run is told as a flat list
abbrev by : {old : State} (mid : State) (step : Step) (reply : Reply)
    → TakesStep old step reply mid → ToLast mid → ToLast old
by mid step reply takes rest = (entry step reply ∷ rest.0, (mid, takes, rest.1))

-- the participant pins
abbrev by_pin : ToLast (first_guard 0) → ToLast first
by_pin rest =
    (by (world (seat Unpinned (machine Resting 0 0) Idle []) 0 none_placed) Register (Registered 0)
    (inl (0, refl, omega arith, refl, λ k lt. absurd (omega (arith, lt)), refl, refl), (refl, refl, refl, refl))
    (by (world (pinning Unpinned LoadPin 0) 0 none_placed) (Begin 0 Pin) Began ((refl, refl), (refl, refl, refl, refl))
    (by (world (pinning Unpinned (StorePin 0) 0) 0 none_placed) (Go 0) Stepped
    (inr (taken_unpinned, (refl, refl)), ((refl, refl), λ q ne. refl, tt, λ place. absurd (omega (arith, place.fewer))))
    (by (world (pinning (Pinned 0) ReloadPin 1) 0 none_placed) (Go 0) (PinnedReply 0)
    (inr (taken_unpinned, (refl, refl)), ((refl, refl), λ q ne. refl, tt, tt))
    (by (world (pinning (Pinned 0) LoadScan 1) 0 none_placed) (Go 0) Stepped
    (inr (taken_pinned, (refl, refl)), ((refl, refl), λ q ne. refl, tt, λ place. absurd (omega (arith, place.fewer))))
    (by (world (pinning (Pinned 0) (Scan 0 0) 1) 0 none_placed) (Go 0) Stepped
    (inr (taken_pinned, (refl, refl)), ((refl, refl), λ q ne. refl, tt, λ place. absurd (omega (arith, place.fewer))))
    (by (world (pinning (Pinned 0) (Advance 0) 1) 0 none_placed) (Go 0) Stepped
    (inr (taken_pinned, (refl, refl)), ((refl, refl), λ q ne. refl, λ alone expired. refl, tt))
    (by (world (pinning (Pinned 0) (TakeStage 1 0) 1) 1 none_placed) (Go 0) Stepped
    (inr (taken_pinned, (refl, refl)), ((refl, refl), λ q ne. refl, λ alone expired. refl, tt))
    (by (world (pinning (Pinned 0) End 1) 1 none_placed) (Go 0) Stepped
    (inr (taken_pinned, (Empty, [], [], refl, refl, refl)), ((refl, refl), λ q ne. refl, none_ahead, tt))
    (by (first_guard 0) (Go 0) (Done (Guard 0)) (
      inr (taken_pinned, (ap (λ (g : ℕ). Done (Guard g)) (sym lowest_none), ap first_guard (sym lowest_none))),
      ((refl, refl), λ q ne. refl, tt, tt),
    )
    rest))))))))))

-- a run of it: it places a value, stores its pointer in the root, loads it, and takes the value out
abbrev told : ToLast first
told = by_pin
    (by (world (pinned (Accesses (Place 7) 0 null)) 1 none_placed) (Begin 0 (AccessCall (Place 7))) Began
    ((refl, refl), (refl, refl, refl, refl))
    (by (world (pinned (Ends (Done (NameAnswer name)))) 1 (heap null placed)) (Go 0) Stepped (
      inr (
        taken_pinned,
        (
          answers (NameAnswer name) (heap null placed),
          inl ((refl, omega arith), name, refl, refl, refl),
          refl,
          refl,
        ),
      ),
      ((refl, refl), λ q ne. refl, tt, tt),
    )
    (by (world (pinned Idle) 1 (heap null placed)) (Go 0) (Done (NameAnswer name))
    (inr (taken_pinned, (refl, refl)), ((refl, refl), λ q ne. refl, tt, tt))
    (by (world (pinned (Accesses (Point None (Root 0) (Store ptr)) 0 null)) 1 (heap null placed))
    (Begin 0 (AccessCall (Point None (Root 0) (Store ptr)))) Began ((refl, refl), (refl, refl, refl, refl))
    (by (world (pinned (Ends (Done UnitAnswer))) 1 (heap ptr placed)) (Go 0) Stepped
    (inr (taken_pinned, (answers UnitAnswer (heap ptr placed), refl, refl, refl)), ((refl, refl), λ q ne. refl, tt, tt))
    (by (world (pinned Idle) 1 (heap ptr placed)) (Go 0) (Done UnitAnswer)
    (inr (taken_pinned, (refl, refl)), ((refl, refl), λ q ne. refl, tt, tt))
    (by (world (pinned (Accesses (Point (Some 0) (Root 0) Load) 0 null)) 1 (heap ptr placed))
    (Begin 0 (AccessCall (Point (Some 0) (Root 0) Load))) Began ((refl, refl), (refl, refl, refl, refl))
    (by (world (pinned (Ends (Done (Pointer ptr)))) 1 (heap ptr placed)) (Go 0) Stepped (
      inr (taken_pinned, (answers (Pointer ptr) (heap ptr placed), refl, refl, refl)),
      ((refl, refl), λ q ne. refl, tt, tt),
    )
    (by (world (pinned Idle) 1 (heap ptr placed)) (Go 0) (Done (Pointer ptr))
    (inr (taken_pinned, (refl, refl)), ((refl, refl), λ q ne. refl, tt, tt))
    (by (world (pinned (Accesses (Take (Some 0) ptr) 0 null)) 1 (heap ptr placed))
    (Begin 0 (AccessCall (Take (Some 0) ptr))) Began ((refl, refl), (refl, refl, refl, refl))
    (by last (Go 0) Stepped (
      inr (taken_pinned, (answers (Value 7) (heap ptr (empty 1)), refl, refl, refl)),
      ((refl, refl), λ q ne. refl, tt, tt),
    )
    ([], refl))))))))))))

abbrev log : List Entry
log = told.0

abbrev run : Runs first log last
run = told.1

-- no entry after the load lets go of what was loaded
kept : (step : Step) (reply : Reply) → reply ≢ Began → reply ≢ Repinned 0 → ¬ (LetsGo (entry step reply) 0 0)
kept step reply no_begin no_repin lets = elim lets [ inl begins ↦ no_begin begins.1 | inr repins ↦ no_repin repins ]

-- nor does the Begin of the call that takes it out
kept_begin : ¬ (LetsGo (entry (Begin 0 (AccessCall (Take (Some 0) ptr))) Began) 0 0)
kept_begin lets =
    elim lets [ inl begins ↦ elim begins.0 [ inl e ↦ cc (e) | inr e ↦ cc (e) ] | inr repins ↦ cc (repins) ]

-- what was loaded is destroyed
loses : LosesLoaded (past_of first log last run)
loses = (0, 0, name, loaded, inr (inr (inl takes)))
  where
    takes : TakesOut (world (pinned (Accesses (Take (Some 0) ptr) 0 null)) 1 (heap ptr placed))
        (entry (Go 0) Stepped) last name
    takes = record {
      who = 0;
      step = refl;
      guard = Some 0;
      pointer = ptr;
      name = refl;
      steps = 0;
      found = null;
      progress = refl;
      value = 7;
      answer = refl;
    }

    loaded : (past_of first log last run).loaded 0 0 name
    loaded = (
      kept (Go 0) Stepped (λ e. cc) (λ e. cc),
      inl (
        kept_begin,
        inl (
          kept (Go 0) (Done (Pointer ptr)) (λ e. cc) (λ e. cc),
          inl (
            kept (Go 0) Stepped (λ e. cc) (λ e. cc),
            inr (record {
              spot = Root 0;
              points =
                  record { step = refl; taken = taken_pinned; change = Load; steps = 0; found = null; progress = refl };
              within = tt;
              named = inl (ptr, refl, refl);
            }),
          ),
        ),
      ),
    )

-- so there is a run from a new world that destroys what was loaded
pub some_run_loses : (s : State) × (log : List Entry) × (new : State) × IsFresh s × (run : Runs s log new)
    × LosesLoaded (past_of s log new run)
some_run_loses = (first, log, last, lone_fresh 0, run, loses)
