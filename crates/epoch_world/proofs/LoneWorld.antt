-- A world of one participant and one place for a bag, and how a run of it is told, one step after the other.
use Rattle.std.proofs.Common.{◌≡◌, ◌≢◌, ℕ, zero, suc, Bool, true, false, List, [], ◌∷◌, None, refl, arith}
use Rattle.epoch_machine.specs.declared.machine.Action.{Action}
use Rattle.epoch_machine.specs.declared.machine.Sizes.{Sizes}
use Rattle.epoch_machine.specs.declared.machine.Stage.{Stage}
use Rattle.epoch_machine.specs.Machine.{Machine}
use Rattle.epoch_laws.specs.declared.step.Deferral.{Deferral}
use Rattle.epoch_laws.specs.declared.step.Entry.{Entry}
use Rattle.epoch_laws.specs.declared.step.Progress.{Progress}
use Rattle.epoch_laws.specs.declared.step.Reply.{Reply}
use Rattle.epoch_laws.specs.declared.step.Step.{Step}
use Rattle.epoch_laws.specs.declared.step.Word.{Word}
use Rattle.epoch_laws.specs.declared.step.Word.TheVariants.{Free, Unpinned, Pinned}
use Rattle.epoch_laws.specs.Run.{Bag, WorldSeat, State, Open, seat_of, free_seat, lowest, lowest_from, TakesStep, Runs}
use Rattle.epoch_laws.specs.Run.{IsFresh}
use Rattle.epoch_laws.proofs.SureSteps.{no_heap}

abbrev pub sizes : Sizes
sizes = record { positions = 1; bag_jobs = 64; collect_bags = 8 }

-- all but the participant: whether the place has a bag, and how many bags its collection has ahead
pub record Around : Type 0 where
  pub epoch : ℕ
  pub bags : List Bag
  pub tickets : ℕ
  pub place : Bool
  pub ahead : ℕ

abbrev pub around : ℕ → List Bag → ℕ → Bool → ℕ → Around
around epoch bags tickets place ahead =
    record { epoch = epoch; bags = bags; tickets = tickets; place = place; ahead = ahead }

abbrev pub world : Around → WorldSeat → State
world a seat = record {
  sizes = sizes;
  epoch = a.epoch;
  seats = seat ∷ [];
  queued = a.bags;
  tickets = a.tickets;
  ending = Open;
  heap = no_heap;
  places = a.place ∷ [];
  seen = [];
  ahead = a.ahead ∷ [];
  room = true ∷ [];
}

-- a machine with so many guards, that published this epoch last, pinned so often, and has these jobs held and in hand
abbrev pub machine : Action → Stage → ℕ → ℕ → ℕ → List Deferral → List Deferral → Machine Deferral
machine action stage guards published pins held hand = record {
  stage = stage;
  action = action;
  guards = guards;
  published = published;
  pins = pins;
  sizes = sizes;
  full = false;
  held = held;
  hand = hand;
}

abbrev pub seat : Word → Machine Deferral → Progress → List ℕ → WorldSeat
seat word m progress guards =
    record { word = word; machine = m; progress = progress; guards = guards; paused = None; readings = [] }

-- the participant is registered
pub taken_unpinned : Unpinned ≢ Free
taken_unpinned e = cc

-- a pinned participant has its position
pub taken_pinned : (e : ℕ) → Pinned e ≢ Free
taken_pinned e same = cc

-- the first guard has the number 0
pub lowest_none : lowest [] ≡ 0
unfolding lowest lowest_from
lowest_none = refl

-- A log, and the run by it from one state to another.
abbrev pub To : State → State → Type 0
To last from = (log : List Entry) × Runs from log last

-- the same with one more step before it, so that a run is told as a flat list
abbrev pub by : {last old : State} (mid : State) (step : Step) (reply : Reply)
    → TakesStep old step reply mid → To last mid → To last old
by mid step reply takes rest = (record { step = step; reply = reply } ∷ rest.0, (mid, takes, rest.1))

abbrev pub first : State
first = world (around 0 [] 0 false 0) (free_seat sizes)

-- the world that the run begins with is a new one
pub first_fresh : IsFresh first
first_fresh = record {
  sized = refl;
  in_range =
      record
      { positions = omega arith; bag_jobs = (omega arith, omega arith); collect_bags = (omega arith, omega arith) };
  free = free;
  none_queued = refl;
  no_tickets = refl;
  open_end = refl;
  null_roots = λ i ptr at. absurd (cc (at));
  empty_cells = λ k cell at. absurd (cc (at));
}
  where
    free : (p : ℕ) → seat_of first p ≡ free_seat sizes
    free zero = refl
    free (suc p) = refl
