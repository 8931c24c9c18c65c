-- A Go makes at most one step of the store, and so does each Go of a run.
use Rattle.std.proofs.Common.{◌≡◌, ℕ, zero, suc, ◌+◌, ◌<◌, ◌≤◌, List, [], ◌∷◌, ◌++◌, length, Option, Some, None, take}
use Rattle.std.proofs.Common.{get_or, length-take, take_all, slice_get, slice_set, slice_index_or, refl, ap, ap₂, sym}
use Rattle.std.proofs.Common.{subst, ◌∙◌, arith, true, ◌≢◌, get_or-set_same, subst₂}
use Rattle.std.proofs.lemmas.List.{take_more}
use Rattle.epoch_bags.specs.declared.queue.PutStep.{PutStep}
use Rattle.epoch_bags.specs.declared.queue.TakeStep.{TakeStep}
use Rattle.epoch_machine.specs.declared.machine.Ask.{Ask}
use Rattle.epoch_machine.specs.declared.machine.Sizes.{Sizes}
use Rattle.epoch_machine.specs.declared.machine.Ask.TheVariants.{PutBag, TakeBag}
use Rattle.epoch_machine.specs.Machine.{Machine, asks, put_heard, took_heard}
use Rattle.epoch_laws.specs.declared.step.Call.{Call}
use Rattle.epoch_laws.specs.declared.step.Deferral.{Deferral}
use Rattle.epoch_laws.specs.declared.step.Entry.{Entry}
use Rattle.epoch_laws.specs.declared.step.Reply.{Reply}
use Rattle.epoch_laws.specs.declared.step.Step.{Step}
use Rattle.epoch_laws.specs.declared.step.Step.TheVariants.{Begin, Go}
use Rattle.epoch_laws.specs.declared.step.Word.TheVariants.{Free}
use Rattle.epoch_laws.specs.Calls.{goes_of, call_entries}
use Rattle.epoch_laws.specs.Run.{Bag, State, WorldSeat, TakesStep, Runs, entries_of, free_seat, is_driven, turn_of}
use Rattle.epoch_laws.specs.Run.{seat_of}
use Rattle.epoch_laws.proofs.SeatLemmas.{seat_past}
use Rattle.epoch_world.specs.StoreSteps.{StoreState, AskMoves, StoreMoves, RunsBy}
use Rattle.epoch_world.proofs.CollectionSteps.{get_set_same, set_back, turn_driven}
use Rattle.epoch_world.proofs.RoomSteps.{no_turn}

-- A CURSOR AND ITS LIST

-- what is put back is what was there
set_there : {A : Type 0} (xs : List A) (p : ℕ) (a : A) → slice_get xs p ≡ Some a → slice_set xs p a ≡ xs
set_there [] p a at = refl
set_there (x ∷ xs) zero a at = ap (λ (y : _). y ∷ xs) (same_some at)
  where
    same_some : Some x ≡ Some a → a ≡ x
    same_some e = cc (e)
set_there (x ∷ xs) (suc p) a at = ap (λ (ys : List _). x ∷ ys) (set_there xs p a at)

-- what an index finds stands there
pub stands_there : {A : Type 0} (xs : List A) (p : ℕ) (a : A) → p < length xs → a ≡ slice_index_or xs p a
    → slice_get xs p ≡ Some a
stands_there xs p a there is =
    subst (λ (ys : List _). slice_get ys p ≡ Some a) (set_back xs p a is) (get_set_same xs p a there)

-- of two writes at one place the second stays
pub set_twice : {A : Type 0} (xs : List A) (p : ℕ) (a b : A) → slice_set (slice_set xs p a) p b ≡ slice_set xs p b
set_twice [] p a b = refl
set_twice (x ∷ xs) zero a b = refl
set_twice (x ∷ xs) (suc p) a b = ap (λ (ys : List _). x ∷ ys) (set_twice xs p a b)

module _ {S P T : Type 0} (PutMoves : S → S → Bag → P → PutStep → P → Type 0)
    (TakeMoves : ℕ → S → S → Bag → T → TakeStep → T → Type 0) where
  abbrev over : S → List P → List T → StoreState S P T
  over store putting taking = record { store = store; putting = putting; taking = taking }

  -- from the participant's two cursors to those of all
  pub moves_in_lists : (asked : Option Ask) (m n : Machine Deferral) (old : S) (put : P) (take : T) (new : S) (put' : P)
      (take' : T) (puts : List P) (takes : List T) (p : ℕ) → slice_get puts p ≡ Some put → slice_get takes p ≡ Some take
      → AskMoves PutMoves TakeMoves asked m n old put take new put' take'
      → StoreMoves PutMoves TakeMoves p asked m n (over old puts takes)
      (over new (slice_set puts p put') (slice_set takes p take'))
  moves_in_lists None m n old put take new put' take' puts takes p at its did =
      ap (λ (s : S). over s (slice_set puts p put') (slice_set takes p take')) did.0
      ∙ ap₂ (over old)
      (ap (slice_set puts p) did.1 ∙ set_there puts p put at)
      (ap (slice_set takes p) did.2 ∙ set_there takes p take its)
  moves_in_lists (Some ask) m n old put take new put' take' puts takes p at its did =
      (put, put', take, take', at, its, refl, refl, did)

  -- where the two cursors were put back first
  pub moves_put_back : (asked : Option Ask) (m n : Machine Deferral) (old : S) (put : P) (take : T) (new : S) (put' : P)
      (take' : T) (puts : List P) (takes : List T) (p : ℕ) → p < length puts → p < length takes
      → AskMoves PutMoves TakeMoves asked m n old put take new put' take'
      → StoreMoves PutMoves TakeMoves p asked m n (over old (slice_set puts p put) (slice_set takes p take))
      (over new (slice_set puts p put') (slice_set takes p take'))
  moves_put_back asked m n old put take new put' take' puts takes p there here did =
      subst₂ (λ (ps : List P) (ts : List T). StoreMoves PutMoves TakeMoves p asked m n
      (over old (slice_set puts p put) (slice_set takes p take)) (over new ps ts))
      (set_twice puts p put put') (set_twice takes p take take')
      (moves_in_lists asked m n old put take new put' take' (slice_set puts p put) (slice_set takes p take) p
      (get_set_same puts p put there) (get_set_same takes p take here) did)

  -- a step of a put is the store's
  pub put_once : (ask : Ask) (seal : ℕ) (m before n : Machine Deferral) (old new : S) (put put' : P) (take : T)
      (step : PutStep) → m ≡ before → ask ≡ PutBag seal → n ≡ put_heard m step
      → PutMoves old new (record { seal = seal; jobs = m.held }) put step put'
      → AskMoves PutMoves TakeMoves (Some ask) before n old put take new put' take
  put_once ask seal m before n old new put put' take step same is after moves =
      subst (λ (a : Ask). AskMoves PutMoves TakeMoves (Some a) before n old put take new put' take) (sym is)
      (subst (λ (q : Machine Deferral). AskMoves PutMoves TakeMoves (Some (PutBag seal)) q n old put take new put' take)
      same (step, after, moves, refl))

  -- and so is one of a collection
  pub take_once : (ask : Ask) (x : ℕ) (m before n : Machine Deferral) (old new : S) (put : P) (take take' : T)
      (step : TakeStep) → m ≡ before → ask ≡ TakeBag x → n ≡ took_heard m m.stage step n.hand
      → (bag : Bag) × (bag.jobs ≡ n.hand) × TakeMoves x old new bag take step take'
      → AskMoves PutMoves TakeMoves (Some ask) before n old put take new put take'
  take_once ask x m before n old new put take take' step same is after (bag, jobs, moves) =
      subst (λ (a : Ask). AskMoves PutMoves TakeMoves (Some a) before n old put take new put take') (sym is)
      (subst (λ (q : Machine Deferral). AskMoves PutMoves TakeMoves (Some (TakeBag x)) q n old put take new put take')
      same (step, bag, jobs, after, moves, refl))

  -- at the participant's position, where its machine asked for this
  pub performed_once : (seats : List WorldSeat) (sizes : Sizes) (p : ℕ) (seat after : WorldSeat) (ask : Ask) (old : S)
      (put : P) (take : T) (new : S) (put' : P) (take' : T) → p < length seats
      → seat ≡ slice_index_or seats p (free_seat sizes) → seat.word ≢ Free → is_driven seat.progress ≡ true
      → asks seat.machine ≡ Some ask
      → AskMoves PutMoves TakeMoves (Some ask) seat.machine after.machine old put take new put' take'
      → AskMoves PutMoves TakeMoves (turn_of (slice_index_or seats p (free_seat sizes)))
      (slice_index_or seats p (free_seat sizes)).machine
      (slice_index_or (slice_set seats p after) p (free_seat sizes)).machine old put take new put' take'
  performed_once seats sizes p seat after ask old put take new put' take' there is taken driven asked did =
      subst (λ (q : WorldSeat). AskMoves PutMoves TakeMoves (turn_of q) q.machine
      (slice_index_or (slice_set seats p after) p (free_seat sizes)).machine old put take new put' take') is
      (subst (λ (o : Option Ask). AskMoves PutMoves TakeMoves o seat.machine
      (slice_index_or (slice_set seats p after) p (free_seat sizes)).machine old put take new put' take')
      (sym (turn_driven seat.word seat.progress seat.machine.stage ask taken driven asked))
      (subst (λ (q : WorldSeat). AskMoves PutMoves TakeMoves (Some ask) seat.machine q.machine old put take new put'
      take') (sym (get_or-set_same seats p after (free_seat sizes) there)) did))

  -- a step that asks for nothing leaves all as it was
  pub ended_once : (seat was : WorldSeat) (m n : Machine Deferral) (store : S) (put : P) (take : T) → seat ≡ was
      → asks seat.machine ≡ None → AskMoves PutMoves TakeMoves (turn_of was) m n store put take store put take
  ended_once seat was m n store put take is none =
      subst (λ (q : WorldSeat). AskMoves PutMoves TakeMoves (turn_of q) m n store put take store put take) is
      (subst (λ (o : Option Ask). AskMoves PutMoves TakeMoves o m n store put take store put take)
      (sym (no_turn seat.word seat.progress seat.machine.stage none)) (refl, refl, refl))

  -- past the table nobody asks for anything
  pub past_once : (s : State) (p : ℕ) (m n : Machine Deferral) (inside : StoreState S P T) → length s.seats ≤ p
      → StoreMoves PutMoves TakeMoves p (turn_of (seat_of s p)) m n inside inside
  past_once s p m n inside past =
      subst (λ (q : WorldSeat). StoreMoves PutMoves TakeMoves p (turn_of q) m n inside inside)
      (sym (seat_past s p past)) refl

-- WHOLE RUNS

entries_push : (ss : List Step) (rs : List Reply) (s : Step) (r : Reply) → length ss ≡ length rs
    → entries_of (ss ++ s ∷ []) (rs ++ r ∷ []) ≡ entries_of ss rs ++ record { step = s; reply = r } ∷ []
entries_push [] [] s r e = refl
entries_push [] (y ∷ rs) s r e = absurd (omega arith)
entries_push (t ∷ ss) [] s r e = absurd (omega arith)
entries_push (t ∷ ss) (y ∷ rs) s r e =
    ap (λ es. record { step = t; reply = y } ∷ es) (entries_push ss rs s r (omega arith))

goes_push : (p : ℕ) (rs : List Reply) (r : Reply)
    → goes_of p (rs ++ r ∷ []) ≡ goes_of p rs ++ record { step = Go p; reply = r } ∷ []
goes_push p [] r = refl
goes_push p (x ∷ rs) r = ap (λ es. record { step = Go p; reply = x } ∷ es) (goes_push p rs r)

call_push : (p : ℕ) (c : Call) (rs : List Reply) (r : Reply)
    → 0 < length rs → call_entries p c (rs ++ r ∷ []) ≡ call_entries p c rs ++ record { step = Go p; reply = r } ∷ []
call_push p c [] r some = absurd (omega arith)
call_push p c (x ∷ rs) r some = ap (λ es. record { step = Begin p c; reply = x } ∷ es) (goes_push p rs r)

module _ (Holds : State → Step → State → Type 0) where
  -- it is a run
  pub runs_of : (s t : State) (log : List Entry) → RunsBy Holds s log t → Runs s log t
  runs_of s t [] run = run
  runs_of s t (x ∷ log) run = (run.0, run.1, runs_of run.0 t log run.3)

  -- it goes on by one step
  by_push : (s t u : State) (log : List Entry) (x : Entry) → RunsBy Holds s log t → TakesStep t x.step x.reply u
      → Holds t x.step u → RunsBy Holds s (log ++ x ∷ []) u
  by_push s t u [] x run did holds = (
    u,
    subst (λ (o : State). TakesStep o x.step x.reply u) run did,
    subst (λ (o : State). Holds o x.step u) run holds,
    refl,
  )
  by_push s t u (y ∷ log) x run did holds = (run.0, run.1, run.2, by_push run.0 t u log x run.3 did holds)

  -- that of the first i steps goes on by the next one
  pub by_more : (s t u : State) (steps : List Step) (i : ℕ) (d : Step) (replies later : List Reply) (r : Reply)
      → i < length steps → length replies ≡ i → later ≡ replies ++ r ∷ []
      → RunsBy Holds s (entries_of (take i steps) replies) t → TakesStep t (get_or steps i d) r u
      → Holds t (get_or steps i d) u → RunsBy Holds s (entries_of (take (i + 1) steps) later) u
  by_more s t u steps i d replies later r lt count more run did holds =
      let same : entries_of (take (i + 1) steps) later
      ≡ entries_of (take i steps) replies ++ record { step = get_or steps i d; reply = r } ∷ [] =
      ap₂ entries_of (take_more steps i d lt) more
      ∙ entries_push (take i steps) replies (get_or steps i d) r (omega (arith, count, length-take i steps)) in
      subst (λ (es : List Entry). RunsBy Holds s es u) (sym same)
      (by_push s t u _ (record { step = get_or steps i d; reply = r }) run did holds)

  -- that of all steps
  pub by_whole : (s t : State) (steps : List Step) (i : ℕ) (replies : List Reply) → length steps ≤ i
      → RunsBy Holds s (entries_of (take i steps) replies) t → RunsBy Holds s (entries_of steps replies) t
  by_whole s t steps i replies le run =
      subst (λ (ss : List Step). RunsBy Holds s (entries_of ss replies) t) (take_all i steps le) run

  -- that of a call begins
  pub call_begun_by : (s t : State) (p : ℕ) (c : Call) (rs : List Reply) (r : Reply) → rs ≡ r ∷ []
      → TakesStep s (Begin p c) r t → Holds s (Begin p c) t → RunsBy Holds s (call_entries p c rs) t
  call_begun_by s t p c rs r one did holds =
      subst (λ (xs : List Reply). RunsBy Holds s (call_entries p c xs) t) (sym one) (t, did, holds, refl)

  -- and goes on
  pub call_more_by : (s t u : State) (p : ℕ) (c : Call) (rs later : List Reply) (r : Reply) → 0 < length rs
      → later ≡ rs ++ r ∷ [] → RunsBy Holds s (call_entries p c rs) t → TakesStep t (Go p) r u → Holds t (Go p) u
      → RunsBy Holds s (call_entries p c later) u
  call_more_by s t u p c rs later r some more run did holds =
      let same : call_entries p c later ≡ call_entries p c rs ++ record { step = Go p; reply = r } ∷ [] =
      ap (call_entries p c) more ∙ call_push p c rs r some in
      subst (λ (es : List Entry). RunsBy Holds s es u) (sym same)
      (by_push s t u (call_entries p c rs) (record { step = Go p; reply = r }) run did holds)
