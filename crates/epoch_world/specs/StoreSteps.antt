-- At most one step of the store a Go, by the store's own words for one step of a put and for one of a collection.
use Rattle.std.specs.Prelude.{◌≡◌, ℕ, Bool, List, [], ◌∷◌, Option, None, Some, map, slice_get, slice_set}
use Rattle.epoch_bags.specs.declared.queue.PutStep.{PutStep}
use Rattle.epoch_bags.specs.declared.queue.TakeStep.{TakeStep}
use Rattle.epoch_machine.specs.declared.machine.Ask.{Ask}
use Rattle.epoch_machine.specs.declared.machine.Ask.TheVariants.{LoadEpoch, LoadWord, StoreEpoch, PutBag, TakeBag}
use Rattle.epoch_machine.specs.Machine.{Machine, put_heard, took_heard}
use Rattle.epoch_laws.specs.declared.step.Deferral.{Deferral}
use Rattle.epoch_laws.specs.declared.step.Entry.{Entry}
use Rattle.epoch_laws.specs.declared.step.Step.{Step}
use Rattle.epoch_laws.specs.declared.step.Step.TheVariants.{Go}
use Rattle.epoch_laws.specs.Run.{Bag, State, TakesStep, seat_of, turn_of}
use Rattle.epoch_world.specs.Worlds.{aheads}

-- a store, and the cursors of each participant's put and collection in it
pub record StoreState (S P T : Type 0) : Type 0 where
  pub store : S
  pub putting : List P
  pub taking : List T

-- What a step does to the store and to the two cursors of its participant, by what it asks for; the machine is m before
-- it and n after it. An ask for a step of a put, or of a collection, makes one step of the store. A load of the epoch
-- begins a put anew, a load of a word or a store of the epoch begins a collection anew, and else nothing changes.
module _ {S P T : Type 0} (PutMoves : S → S → Bag → P → PutStep → P → Type 0)
    (TakeMoves : ℕ → S → S → Bag → T → TakeStep → T → Type 0) where
  abbrev pub AskMoves : Option Ask → Machine Deferral → Machine Deferral → S → P → T → S → P → T → Type 0
  AskMoves (Some (PutBag seal)) m n old put take new put' take' = (step : PutStep) × (n ≡ put_heard m step)
      × PutMoves old new (record { seal = seal; jobs = m.held }) put step put' × (take' ≡ take)
  AskMoves (Some (TakeBag x)) m n old put take new put' take' = (step : TakeStep) × (bag : Bag) × (bag.jobs ≡ n.hand)
      × (n ≡ took_heard m m.stage step n.hand) × TakeMoves x old new bag take step take' × (put' ≡ put)
  AskMoves (Some LoadEpoch) m n old put take new put' take' = (new ≡ old) × (take' ≡ take)
  AskMoves (Some (LoadWord k)) m n old put take new put' take' = (new ≡ old) × (put' ≡ put)
  AskMoves (Some (StoreEpoch e)) m n old put take new put' take' = (new ≡ old) × (put' ≡ put)
  AskMoves _ m n old put take new put' take' = (new ≡ old) × (put' ≡ put) × (take' ≡ take)

  -- the same where the two cursors stand at the participant's position among those of all, and the others' stay
  abbrev pub StoreMoves : ℕ → Option Ask → Machine Deferral → Machine Deferral → StoreState S P T → StoreState S P T
      → Type 0
  StoreMoves p None m n old new = new ≡ old
  StoreMoves p (Some ask) m n old new = (put : P) × (put' : P) × (take : T) × (take' : T)
      × (slice_get old.putting p ≡ Some put) × (slice_get old.taking p ≡ Some take)
      × (new.putting ≡ slice_set old.putting p put') × (new.taking ≡ slice_set old.taking p take')
      × AskMoves (Some ask) m n old.store put take new.store put' take'

-- By what a store says of its bags and places, of the cursors, and of its steps:
module _ {S P T : Type 0} (queued : S → List Bag) (occupied : S → List Bool) (passed : P → ℕ) (ahead : ℕ → S → T → ℕ)
    (has_room : S → P → Bool) (PutMoves : S → S → Bag → P → PutStep → P → Type 0)
    (TakeMoves : ℕ → S → S → Bag → T → TakeStep → T → Type 0) where
  -- the world's state is one over this store and these cursors
  abbrev pub Shows : State → StoreState S P T → Type 0
  Shows s inside = s ≡ record s {
    queued = queued inside.store;
    places = occupied inside.store;
    seen = map passed inside.putting;
    ahead = aheads (λ x cursor. ahead x inside.store cursor) s.seats inside.taking;
    room = map (λ cursor. has_room inside.store cursor) inside.putting;
  }

  -- A Go leads from a store and cursors that the state before it is over to some that the state after it is over, by at
  -- most one step of the store.
  abbrev pub MakesOneStep : State → Step → State → Type 0
  MakesOneStep old (Go p) new = (before : StoreState S P T) × (after : StoreState S P T)
      × Shows old before × Shows new after
      × StoreMoves PutMoves TakeMoves p (turn_of (seat_of old p)) (seat_of old p).machine (seat_of new p).machine
      before after
  MakesOneStep old _ new = Unit {0}

-- a run, of which this is also said of each step
abbrev pub RunsBy : (State → Step → State → Type 0) → State → List Entry → State → Type 0
RunsBy Holds old [] new = new ≡ old
RunsBy Holds old (entry ∷ entries) new = (mid : State) × TakesStep old entry.step entry.reply mid
    × Holds old entry.step mid × RunsBy Holds mid entries new
