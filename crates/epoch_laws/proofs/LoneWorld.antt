-- A world of one participant, one cell and one root, in which two short runs are told.
use Rattle.std.proofs.Common.{◌≡◌, ℕ, zero, suc, false, List, [], ◌∷◌, Some, None, refl, arith, slice_get}
use Rattle.epoch_cells.specs.PlainCells.{empty}
use Rattle.epoch_cells.specs.declared.cells.name.Name.{Name}
use Rattle.epoch_machine.specs.declared.machine.Action.{Action}
use Rattle.epoch_machine.specs.declared.machine.Sizes.{Sizes}
use Rattle.epoch_machine.specs.declared.machine.Stage.{Stage}
use Rattle.epoch_machine.specs.Machine.{Machine}
use Rattle.epoch_laws.specs.declared.heap.access.Ptr.{Ptr}
use Rattle.epoch_laws.specs.Heap.{Cell, Heap, null}
use Rattle.epoch_laws.specs.declared.step.Deferral.{Deferral}
use Rattle.epoch_laws.specs.declared.step.Progress.{Progress}
use Rattle.epoch_laws.specs.declared.step.Word.{Word}
use Rattle.epoch_laws.specs.Run.{WorldSeat, State, Open, seat_of, free_seat, IsFresh}

abbrev pub sizes : Sizes
sizes = record { positions = 1; bag_jobs = 64; collect_bags = 8 }

abbrev pub lone_world : ℕ → WorldSeat → ℕ → Heap → State
lone_world tickets seat epoch heap = record {
  sizes = sizes;
  epoch = epoch;
  seats = seat ∷ [];
  queued = [];
  tickets = tickets;
  ending = Open;
  places = [];
  seen = [];
  ahead = [];
  room = [];
  heap = heap;
}

-- a cell has so many fields
abbrev pub lone_heap : ℕ → Ptr → Cell → Heap
lone_heap fields root cell =
    record { roots = root ∷ []; cells = cell ∷ []; fields = fields; align = 1; start_turn = 0 }

abbrev pub lone_machine : Action → Stage → ℕ → ℕ → List Deferral → Machine Deferral
lone_machine action stage guards pins held = record {
  stage = stage;
  action = action;
  guards = guards;
  published = 0;
  pins = pins;
  sizes = sizes;
  full = false;
  held = held;
  hand = [];
}

abbrev pub seat : Word → Machine Deferral → Progress → List ℕ → WorldSeat
seat word m progress guards =
    record { word = word; machine = m; progress = progress; guards = guards; paused = None; readings = [] }

-- the first name of the one cell
abbrev pub name : Name
name = record { turn = 0; slot = 1; some = omega arith; within = omega arith }

-- with nobody registered, a null root and a free cell the world is a new one
pub lone_fresh : (fields : ℕ) → IsFresh (lone_world 0 (free_seat sizes) 0 (lone_heap fields null (empty 0)))
lone_fresh fields = record {
  sized = refl;
  in_range =
      record
      { positions = omega arith; bag_jobs = (omega arith, omega arith); collect_bags = (omega arith, omega arith) };
  free = free;
  none_queued = refl;
  no_tickets = refl;
  open_end = refl;
  null_roots = null_roots;
  empty_cells = empty_cells;
}
  where
    free : (p : ℕ) → seat_of (lone_world 0 (free_seat sizes) 0 (lone_heap fields null (empty 0))) p ≡ free_seat sizes
    free zero = refl
    free (suc p) = refl

    null_roots : (i : ℕ) (other : Ptr) → slice_get (null ∷ []) i ≡ Some other → other ≡ null
    null_roots zero other e = cc
    null_roots (suc i) other e = absurd (cc)

    empty_cells : (k : ℕ) (cell : Cell) → slice_get (empty 0 ∷ []) k ≡ Some cell → cell ≡ empty 0
    empty_cells zero cell e = cc
    empty_cells (suc k) cell e = absurd (cc)
