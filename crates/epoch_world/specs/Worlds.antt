-- What a world keeps between any two steps, beside what its participants keep of themselves.
use Rattle.std.specs.Prelude.{◌≡◌, ℕ, Bool, true, List, [], ◌∷◌, Some, map, slice_get, slice_index_or}
use Rattle.epoch_machine.specs.Machine.{is_taking}
use Rattle.epoch_machine.specs.declared.machine.Sizes.{Sizes}
use Rattle.epoch_machine.specs.declared.machine.Stage.{Stage}
use Rattle.epoch_laws.specs.declared.step.Deferral.{Deferral}
use Rattle.epoch_world.specs.declared.world.common.Common.{Common}
use Rattle.epoch_world.specs.declared.world.EndStage.{EndStage}
use Rattle.epoch_world.specs.declared.world.EndStage.TheVariants.{Open as OpenStage, Emptying as EmptyingStage}
use Rattle.epoch_world.specs.declared.world.EndStage.TheVariants.{Over as OverStage}
use Rattle.epoch_laws.specs.Run.{Bag, WorldSeat, State, Ending, Open, Emptying, Over, free_seat, with_places}
use Rattle.epoch_laws.specs.Collections.{expiry_of}
use Rattle.epoch_laws.specs.Room.{is_putting}

-- how far the end is; the jobs are those left of the bag taken, and so many were called
abbrev pub ending_of : EndStage → List Deferral → ℕ → Ending
ending_of OpenStage hand count = Open
ending_of EmptyingStage hand count = Emptying hand count
ending_of OverStage hand count = Over

-- what participants have in common, where the store is seen as its bags
abbrev pub with_bags : {S : Type 0} → (S → List Bag) → Common S → Common (List Bag)
with_bags queued common = record {
  epoch = common.epoch;
  store = queued common.store;
  tickets = common.tickets;
  heap = common.heap;
}

-- the state of a world of these parts, but for the places of the store
abbrev pub state_of : Sizes → Common (List Bag) → List WorldSeat → Ending → State
state_of sizes common seats ending = record {
  sizes = sizes;
  epoch = common.epoch;
  seats = seats;
  queued = common.store;
  tickets = common.tickets;
  ending = ending;
  places = [];
  seen = [];
  ahead = [];
  room = [];
  heap = common.heap;
}

-- the participant at a position
abbrev pub seat_in : Sizes → List WorldSeat → ℕ → WorldSeat
seat_in sizes seats p = slice_index_or seats p (free_seat sizes)

-- what is ahead of each participant's collection, where ahead says it by the epoch and the cursor
abbrev pub aheads : {C : Type 0} → (ℕ → C → ℕ) → List WorldSeat → List C → List ℕ
aheads ahead (seat ∷ seats) (cursor ∷ cursors) =
    ahead (expiry_of seat.machine.stage) cursor ∷ aheads ahead seats cursors
aheads ahead _ _ = []

-- the whole state, by what a store says of its bags and places, and of the cursors of puts and of collections
abbrev pub state_over : {S P T : Type 0} → (S → List Bag) → (S → List Bool) → (P → ℕ) → (ℕ → S → T → ℕ) → (S → P → Bool)
    → Sizes → Common S → List WorldSeat → Ending → List P → List T → State
state_over queued occupied passed ahead has_room sizes common seats ending puts takes =
    with_places (state_of sizes (with_bags queued common) seats ending) (occupied common.store) (map passed puts)
    (aheads (λ x cursor. ahead x common.store cursor) seats takes) (map (λ cursor. has_room common.store cursor) puts)

-- no participant at such a stage claims the place, by its cursor
abbrev pub NobodyClaims : {C : Type 0}
    → (Stage → Bool) → (C → ℕ → Type 0) → Sizes → List WorldSeat → List C → ℕ → Type 0
NobodyClaims {C} at Claims sizes seats cursors place =
    (q : ℕ) (cursor : C) → slice_get cursors q ≡ Some cursor
    → ¬ ((at (slice_index_or seats q (free_seat sizes)).machine.stage ≡ true) × Claims cursor place)

-- a bag is claimed by nobody but a participant that is taking bags
abbrev pub ClaimsKnown : {C : Type 0} → (ℕ → Type 0) → (C → ℕ → Type 0) → Sizes → List WorldSeat → List C → Type 0
ClaimsKnown Claimed Claims sizes seats cursors =
    (place : ℕ) → NobodyClaims is_taking Claims sizes seats cursors place → ¬ (Claimed place)

-- and a place without a bag by nobody but a participant that is putting or taking one
abbrev pub ReservesKnown : {P T : Type 0}
    → (ℕ → Type 0) → (P → ℕ → Type 0) → (T → ℕ → Type 0) → Sizes → List WorldSeat → List P → List T → Type 0
ReservesKnown Reserved Reserves Claims sizes seats puts takes =
    (place : ℕ) → NobodyClaims is_putting Reserves sizes seats puts place
    → NobodyClaims is_taking Claims sizes seats takes place → ¬ (Reserved place)

-- an end is under way
abbrev pub IsEmptying : Ending → Type 0
IsEmptying (Emptying hand n) = Unit {0}
IsEmptying _ = ⊥
